use Rattle.std.proofs.Common.{◌≡◌, ◌≢◌, ◌⊎◌, ◌<◌, ℕ, List, [], ◌∷◌, Bool, true, false, cond, not, ◌==◌, length, length-set, get_or, get_or-set_same, get_or-set_other, refl, sym, ap, ◌∙◌, subst, inl, inr, true≢false, arith}
use Rattle.std.specs.Prelude.{Option, None, Some, unwrap_or, is_some, nat_lt}
use Rattle.std.proofs.lemmas.Bool.{cases_eq, and_parts}
use Rattle.casper_words.specs.Crew.{IsClient}
use Rattle.casper_words.specs.declared.call.Op.{Op}
use Rattle.casper_words.specs.declared.call.Op.TheVariants as op
use Rattle.casper_words.specs.declared.page.Right.{Right}
use Rattle.casper_words.specs.declared.page.Right.TheVariants as may
use Rattle.casper_words.specs.declared.page.Want.{Want}
use Rattle.casper_space.specs.declared.answer.Answer.{Answer}
use Rattle.casper_space.specs.declared.answer.Answer.TheVariants as answer
use Rattle.casper_model.specs.declared.event.Event.TheVariants as event
use Rattle.casper_model.specs.Held.{allows}
use Rattle.casper_model.specs.Client.{Client, Fallen}
use Rattle.casper_model.specs.Stabilisation.{Stabilisation}
use Rattle.casper_model.specs.Shared.{Shared, client_at, is_live}
use Rattle.casper_model.specs.Own.{Own, blank, room_of}
use Rattle.casper_model.specs.Both.{Turned}
use Rattle.casper_model.specs.Hits.{can_hit, with_call}
use Rattle.casper_model.specs.Acquire.{acquire}
use Rattle.casper_model.specs.Stabilise.{stabilise}
use Rattle.casper_model.specs.Leave.{serve}
use Rattle.casper_model.specs.Finish.{doubtful_of}
use Rattle.casper_model.specs.Outside.{Outside, is_settle_failed}
use Rattle.casper_model.specs.State.{State, Unfinished, own_at, with_own, with_shared, after_turn}
use Rattle.casper_model.specs.View.{value_seen}
use Rattle.casper_model.specs.Turn.{Turn, guarded, of_live, within, is_in_range, are_in_range}
use Rattle.casper_model.specs.CallStep.{hit_turn, hit_behind, call_by, call_step, acquire_step, unless_load_failed, is_granted}
use Rattle.casper_model.specs.WriteOutStep.{job_of, busy_lead, written_out, write_out_step, finish_turn, finish_step, settle_turn, settle_step}
use Rattle.casper_model.specs.Step.{read_turn, write_turn, acquire_turn, hold_turn, heap_line_calls, serve_turn, stabilise_turn, depart_turn, vanish_turn, lose_turn}
use Rattle.casper_model.specs.Rights.{Agrees, AgreesUnlessFallen, InOrder, TurnStands, TurnKeeps, TurnSpares, Spares, EachStepKeepsTheRights}
use Rattle.casper_model.proofs.GrantedRights.{first_allows_the_same}
use Rattle.casper_model.proofs.OpeningRights.{exclusive_with_less}
use Rattle.casper_model.proofs.TurnRights.{keeps_serve}
use Rattle.casper_model.proofs.AcquireRights.{keeps_acquire}
use Rattle.casper_model.proofs.StabiliseRights.{keeps_stabilise}
use Rattle.casper_model.proofs.LossRights.{spares_lose, spares_finish, spares_settled}
use Rattle.casper_model.proofs.LeaveRights.{spares_kept, spares_join, spares_depart, spares_vanish}

-- a state after an event of a client
pub ordered_after : (state : State) (who : ℕ) (after : Shared) (own : Own) → InOrder state → who < 33 → TurnSpares state.shared (own_at state who) after own
    → InOrder (with_own (with_shared state after) own)
ordered_after state who after own order below spares = record {
  shaped = record {
    clients = spares.places;
    owns = length-set state.owns own.who own ∙ order.shaped.owns;
    nobody = spares.nobody;
    numbers = λ number. numbered number (cases_eq number own.who);
  };
  rights = record { agree = λ number. agreeing number (cases_eq number own.who); exclusive = spares.exclusive };
}
  where
    who_is : own.who ≡ who
    who_is = spares.who ∙ order.shaped.numbers who

    new : State
    new = with_own (with_shared state after) own

    in_places : own.who < length state.owns
    in_places = subst (λ number. number < length state.owns) (sym who_is) (subst (λ count. who < count) (sym order.shaped.owns) below)

    same_own : (number : ℕ) → number ≡ own.who → own_at new number ≡ own
    same_own number same =
        ap (λ at. get_or (new.owns) at (blank number 0)) same ∙ get_or-set_same state.owns own.who own (blank number 0) in_places

    other_own : (number : ℕ) → number ≢ own.who → own_at new number ≡ own_at state number
    other_own number apart = get_or-set_other state.owns own.who number own (blank number 0) apart

    numbered : (number : ℕ) → (number ≡ own.who) ⊎ (number ≢ own.who) → (own_at new number).who ≡ number
    numbered number (inl same) = ap (λ (one : Own). one.who) (same_own number same) ∙ sym same
    numbered number (inr apart) = ap (λ (one : Own). one.who) (other_own number apart) ∙ order.shaped.numbers number

    agreeing : (number : ℕ) → (number ≡ own.who) ⊎ (number ≢ own.who) → Agrees (client_at after number) (own_at new number)
    agreeing number (inl same) =
        subst (Agrees (client_at after number)) (sym (same_own number same))
        (subst (λ at. Agrees (client_at after at) own) (sym (same ∙ spares.who)) spares.agrees)
    agreeing number (inr apart) =
        subst (Agrees (client_at after number)) (sym (other_own number apart))
        (spares.others number (own_at state number) (λ same. apart (same ∙ sym spares.who)) (order.rights.agree number))

-- a state after what is no turn of a client
pub ordered_shared : (state : State) (after : Shared) → InOrder state → Spares state.shared after → InOrder (with_shared state after)
ordered_shared state after order spares = record {
  shaped = record {
    clients = spares.places ∙ order.shaped.clients;
    owns = order.shaped.owns;
    nobody = spares.nobody order.shaped.nobody;
    numbers = order.shaped.numbers;
  };
  rights = record {
    agree = λ who. spares.agrees who (own_at state who) (order.rights.agree who);
    exclusive = exclusive_with_less state.shared after spares.less order.rights.exclusive;
  };
}

-- the vault and the write-out have no part in it
ordered_same : (state again : State) → InOrder state → again.shared ≡ state.shared → again.owns ≡ state.owns → InOrder again
ordered_same state again order shared owns =
    subst (λ (own : List Own). InOrder (record again { owns = own })) (sym owns)
    (subst (λ (all : Shared). InOrder (record again { shared = all; owns = state.owns })) (sym shared)
    (record {
      shaped = record { clients = order.shaped.clients; owns = order.shaped.owns; nobody = order.shaped.nobody; numbers = order.shaped.numbers };
      rights = record { agree = order.rights.agree; exclusive = order.rights.exclusive };
    }))

-- what stands as a turn of a live client begins
pub live_client : (place : Option Client) → is_some place ≡ true → (client : Client) × (place ≡ Some client)
live_client None live = absurd (true≢false (sym live))
live_client (Some client) live = (client, refl)

pub stands_at : (state : State) (who : ℕ) → InOrder state → is_live state.shared who ≡ true → TurnStands state.shared (own_at state who)
stands_at state who order live =
    let found = live_client (client_at state.shared who) live in
    let same = sym (order.shaped.numbers who) in
    record {
      client = found.0;
      live = subst (λ number. client_at state.shared number ≡ Some found.0) same found.1;
      places = order.shaped.clients;
      nobody = order.shaped.nobody;
      agrees = subst (λ number. Agrees (client_at state.shared number) (own_at state who)) same (order.rights.agree who);
      exclusive = order.rights.exclusive;
    }

pub below_33 : (who : ℕ) → IsClient who → who < 33
below_33 who client = omega (arith, client.1)

-- a step that a test guards
guarded_order : (test : Bool) (refusal : Answer) (state : State) (turn : State → Turn) → InOrder state → (test ≡ true → InOrder (turn state).state)
    → InOrder (guarded test refusal state turn).state
guarded_order true refusal state turn stays moves = moves refl
guarded_order false refusal state turn stays moves = stays

live_order : (who : ℕ) (state : State) (turn : State → Turn) → InOrder state → (is_live state.shared who ≡ true → InOrder (turn state).state)
    → InOrder (of_live who state turn).state
live_order who state turn = guarded_order (is_live state.shared who) answer.Absent state turn

within_order : (test : State → Bool) (state : State) (turn : State → Turn) → InOrder state → InOrder (turn state).state → InOrder (within test turn state).state
within_order test state turn stays moves = guarded_order (test state) answer.Range state turn stays (λ is. moves)

-- a hit
agrees_with_call : (place : Option Client) (own : Own) (act : Op) (page word value : ℕ) (right : Right) → allows own.held page right ≡ true → Agrees place own
    → Agrees place (with_call own act page word value)
agrees_with_call None own act page word value right found agrees = absurd (true≢false (sym found ∙ ap (λ held. allows held page right) agrees.0))
agrees_with_call (Some client) own act page word value right found agrees = by_fallen client.fallen agrees
  where
    by_fallen : (fallen : Option Fallen) → AgreesUnlessFallen client own fallen → AgreesUnlessFallen client (with_call own act page word value) fallen
    by_fallen None had = (had.0, λ at wanted. had.1 at wanted ∙ sym (first_allows_the_same page own.held at wanted))
    by_fallen (Some fallen) had = had

pub ordered_call : (state : State) (who : ℕ) (act : Op) (page word value : ℕ) (right : Right) → InOrder state → IsClient who → can_hit (own_at state who) page right ≡ true
    → InOrder (with_own state (with_call (own_at state who) act page word value))
ordered_call state who act page word value right order client can =
    let own = own_at state who in
    let found = (and_parts (allows own.held page right) (nat_lt 0 (room_of own)) can).0 in
    let same = sym (order.shaped.numbers who) in
    let agrees : Agrees (client_at state.shared own.who) own = subst (λ number. Agrees (client_at state.shared number) own) same (order.rights.agree who) in
    ordered_after state who state.shared (with_call own act page word value) order (below_33 who client)
    (record {
      who = refl;
      places = order.shaped.clients;
      nobody = order.shaped.nobody;
      others = λ number other apart had. had;
      agrees = agrees_with_call (client_at state.shared own.who) own act page word value right found agrees;
      exclusive = order.rights.exclusive;
    })

ordered_hit : (turn : Turn) (answer : Answer) (who : ℕ) (act : Op) (page word value : ℕ) (right : Right) → InOrder turn.state → IsClient who
    → (can : Bool) → can_hit (own_at turn.state who) page right ≡ can
    → InOrder (unwrap_or (hit_turn turn.state answer (cond can (Some (with_call (own_at turn.state who) act page word value)) None)) turn).state
ordered_hit turn answer who act page word value right order client true e = ordered_call turn.state who act page word value right order client e
ordered_hit turn answer who act page word value right order client false e = order

-- a call by a hit, or by an acquire and the hit after it
abbrev pub hit_by : ℕ → Op → ℕ → ℕ → Right → (State → Answer) → (State → ℕ) → State → Option Turn
hit_by who act page word right answer value after =
    hit_turn after (answer after) (cond (can_hit (own_at after who) page right) (Some (with_call (own_at after who) act page word (value after))) None)

ordered_behind : (who : ℕ) (act : Op) (page word : ℕ) (right : Right) (answer : State → Answer) (value : State → ℕ) (turn : Turn) (granted : Bool)
    → InOrder turn.state → IsClient who → InOrder (hit_behind (hit_by who act page word right answer value) turn granted).state
ordered_behind who act page word right answer value turn true order client =
    ordered_hit turn (answer turn.state) who act page word (value turn.state) right order client (can_hit (own_at turn.state who) page right) refl
ordered_behind who act page word right answer value turn false order client = order

ordered_by : (state : State) (who : ℕ) (want : Want) (outside : Outside) (act : Op) (page word : ℕ) (right : Right) (answer : State → Answer) (value : State → ℕ)
    → InOrder state → IsClient who → InOrder (acquire_step state who (want ∷ []) 1 outside).state
    → (can : Bool) → can_hit (own_at state who) page right ≡ can
    → InOrder (call_by state who want outside (hit_by who act page word right answer value)
    (hit_turn state (answer state) (cond can (Some (with_call (own_at state who) act page word (value state))) None))).state
ordered_by state who want outside act page word right answer value order client acquired true e =
    ordered_call state who act page word (value state) right order client e
ordered_by state who want outside act page word right answer value order client acquired false e =
    let turn = acquire_step state who (want ∷ []) 1 outside in
    ordered_behind who act page word right answer value turn (is_granted turn.answer) acquired client

ordered_unless : (state : State) (failed : Bool) (turn : Turn) → InOrder state → InOrder turn.state → InOrder (unless_load_failed state failed turn).state
ordered_unless state true turn stays moves = stays
ordered_unless state false turn stays moves = moves

-- a turn that keeps the others
ordered_turn : {R : Type 0} (state : State) (who : ℕ) (turn : Turned R) → InOrder state → IsClient who → is_live state.shared who ≡ true
    → TurnKeeps state.shared (own_at state who) turn.shared turn.own → InOrder (after_turn state turn)
ordered_turn state who turn order client live keeps =
    ordered_after state who turn.shared turn.own order (below_33 who client)
    (spares_kept state.shared (own_at state who) turn.shared turn.own (stands_at state who order live) keeps)

pub ordered_acquire : (state : State) (who : ℕ) (wants : List Want) (calls : ℕ) (outside : Outside) → InOrder state → IsClient who → is_live state.shared who ≡ true
    → InOrder (acquire_step state who wants calls outside).state
ordered_acquire state who wants calls outside order client live =
    ordered_unless state _ _ order
    (ordered_turn state who (acquire state.shared (own_at state who) wants calls) order client live
    (keeps_acquire wants calls state.shared (own_at state who) (stands_at state who order live)))

ordered_call_step : (state : State) (who : ℕ) (want : Want) (outside : Outside) (act : Op) (page word : ℕ) (right : Right) (answer : State → Answer) (value : State → ℕ)
    → InOrder state → IsClient who → is_live state.shared who ≡ true
    → InOrder (call_step state who want outside (hit_by who act page word right answer value)).state
ordered_call_step state who want outside act page word right answer value order client live =
    ordered_by state who want outside act page word right answer value order client (ordered_acquire state who (want ∷ []) 1 outside order client live)
    (can_hit (own_at state who) page right) refl

-- the write-outs
ordered_written : (state : State) (outside : Outside) (one : Stabilisation) (busy : Option ℕ) → InOrder state → InOrder (written_out state outside one busy).state
ordered_written state outside one (Some other) order = order
ordered_written state outside one None order = ordered_same state _ order refl refl

ordered_write_out : (state : State) (outside : Outside) (one : Option Stabilisation) → InOrder state → InOrder (write_out_step state outside one).state
ordered_write_out state outside None order = order
ordered_write_out state outside (Some one) order = ordered_written state outside one (busy_lead state) order

ordered_finish : (state : State) (lead : ℕ) (unfinished : Option Unfinished) → InOrder state → InOrder (finish_step state lead unfinished).state
ordered_finish state lead None order = order
ordered_finish state lead (Some unfinished) order =
    guarded_order (unfinished.lead == lead) answer.NoJob state (finish_turn lead unfinished.outcome) order
    (λ is. ordered_same (with_shared state _) _ (ordered_shared state _ order (spares_finish state.shared lead unfinished.outcome)) refl refl)

ordered_settle : (state : State) (outside : Outside) (one : Option Stabilisation) → InOrder state → InOrder (settle_step state outside one).state
ordered_settle state outside None order = order
ordered_settle state outside (Some one) order =
    guarded_order (not (is_settle_failed outside)) answer.Disk state settle_turn order
    (λ is. ordered_same (with_shared state _) _ (ordered_shared state _ order (spares_settled state.shared)) refl refl)

pub step_rights : EachStepKeepsTheRights
step_rights state (event.Join who) outside client order =
    let own = own_at state who in
    let same = sym (order.shaped.numbers who) in
    ordered_after state who _ _ order (below_33 who client)
    (spares_join state.shared own order.shaped.clients order.shaped.nobody
    (λ is. not_zero (is ∙ order.shaped.numbers who))
    (subst (λ number. number < 33) same (below_33 who client))
    (subst (λ number. Agrees (client_at state.shared number) own) same (order.rights.agree who)) order.rights.exclusive)
  where
    not_zero : 0 ≡ who → ⊥
    not_zero is = omega (arith, client.0, is)
step_rights state (event.Read who page word) outside client order =
    let turn = read_turn who page word outside in
    live_order who state (within (is_in_range page word) turn) order
    (λ live.
    within_order (is_in_range page word) state turn order
    (ordered_call_step state who (record { page = page; right = may.Read }) outside op.Read page word may.Read
    (λ after. answer.Value (value_seen after who page word)) (λ after. value_seen after who page word) order client live))
step_rights state (event.Write who page word value) outside client order =
    let turn = write_turn who page word value outside in
    live_order who state (within (is_in_range page word) turn) order
    (λ live.
    within_order (is_in_range page word) state turn order
    (ordered_call_step state who (record { page = page; right = may.Write }) outside op.Write page word may.Write (λ after. answer.Ok) (λ after. value) order client
    live))
step_rights state (event.Acquire who wants) outside client order =
    let turn = acquire_turn who wants outside in
    live_order who state (within (are_in_range wants) turn) order
    (λ live. within_order (are_in_range wants) state turn order (ordered_acquire state who wants 1 outside order client live))
step_rights state (event.Hold who wants) outside client order =
    let turn = hold_turn who wants outside in
    live_order who state (within (are_in_range wants) turn) order
    (λ live. within_order (are_in_range wants) state turn order (ordered_acquire state who wants heap_line_calls outside order client live))
step_rights state (event.Serve who) outside client order =
    live_order who state (serve_turn who) order
    (λ live. ordered_turn state who (serve state.shared (own_at state who)) order client live (keeps_serve state.shared (own_at state who) (stands_at state who order live)))
step_rights state (event.Stabilise who) outside client order =
    live_order who state (stabilise_turn who) order
    (λ live. ordered_turn state who (stabilise state.shared (own_at state who)) order client live (keeps_stabilise state.shared (own_at state who) (stands_at state who order live)))
step_rights state (event.WriteOut lead) outside client order = ordered_write_out state outside (job_of state lead) order
step_rights state (event.Finish lead) outside client order = ordered_finish state lead state.unfinished order
step_rights state event.Settle outside client order = ordered_settle state outside (doubtful_of state.shared) order
step_rights state (event.Depart who) outside client order =
    live_order who state (depart_turn who) order
    (λ live. ordered_after state who _ _ order (below_33 who client) (spares_depart state.shared (own_at state who) (stands_at state who order live)))
step_rights state (event.Vanish who) outside client order =
    live_order who state (vanish_turn who) order
    (λ live. ordered_after state who _ _ order (below_33 who client) (spares_vanish state.shared (own_at state who) (stands_at state who order live)))
step_rights state (event.Lose who) outside client order =
    live_order who state (lose_turn who) order (λ live. ordered_shared state _ order (spares_lose state.shared who))
