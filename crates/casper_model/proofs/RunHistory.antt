use Rattle.std.proofs.Common.{◌≡◌, ◌≢◌, ◌<◌, ℕ, List, [], ◌∷◌, Bool, true, false, not, ◌==◌, length, min, refl, sym, ◌∙◌, subst, arith}
use Rattle.std.specs.Prelude.{Option, None, Some, unwrap_or}
use Rattle.std.proofs.lemmas.Bool.{cond_both}
use Rattle.casper_words.specs.Crew.{IsClient}
use Rattle.casper_words.specs.declared.call.Op.TheVariants as op
use Rattle.casper_words.specs.declared.page.Right.TheVariants as may
use Rattle.casper_words.specs.declared.page.Want.{Want}
use Rattle.casper_trail.specs.Legal.{IsLegal}
use Rattle.casper_space.specs.declared.answer.Answer.{Answer}
use Rattle.casper_space.specs.declared.answer.Answer.TheVariants as answer
use Rattle.casper_model.specs.declared.event.Event.{Event}
use Rattle.casper_model.specs.declared.event.Event.TheVariants as event
use Rattle.casper_model.specs.declared.reply.JoinRefusal.{JoinRefusal}
use Rattle.casper_model.specs.Client.{Client, new_client}
use Rattle.casper_model.specs.Stabilisation.{Stabilisation}
use Rattle.casper_model.specs.Shared.{Shared, client_at, fallen_at, is_live}
use Rattle.casper_model.specs.Own.{Own, blank}
use Rattle.casper_model.specs.Both.{Turned}
use Rattle.casper_model.specs.Room.{most_cap, free_room}
use Rattle.casper_model.specs.Opening.{opened}
use Rattle.casper_model.specs.Acquire.{acquired_by}
use Rattle.casper_model.specs.Stabilise.{stabilised_by}
use Rattle.casper_model.specs.Join.{joined_by}
use Rattle.casper_model.specs.Leave.{served_by, departed_by, absent, vanished_by}
use Rattle.casper_model.specs.Finish.{doubtful_of}
use Rattle.casper_model.specs.Hits.{hit_read, hit_write}
use Rattle.casper_model.specs.Outside.{Outside, is_settle_failed}
use Rattle.casper_model.specs.Vault.{VaultState}
use Rattle.casper_model.specs.State.{State, Unfinished, own_at, with_own, with_shared, after_turn, start}
use Rattle.casper_model.specs.View.{value_seen}
use Rattle.casper_model.specs.Turn.{Turn, guarded, of_live, within, is_in_range, are_in_range}
use Rattle.casper_model.specs.CallStep.{hit_turn, hit_behind, call_by, acquire_step, unless_load_failed, is_granted}
use Rattle.casper_model.specs.WriteOutStep.{job_of, busy_lead, written_out, write_out_step, finish_turn, finish_step, settle_turn, settle_step}
use Rattle.casper_model.specs.Step.{step, read_turn, write_turn, acquire_turn, hold_turn, heap_line_calls, serve_turn, stabilise_turn, depart_turn, vanish_turn, lose_turn}
use Rattle.casper_model.specs.Run.{Happening, state_after}
use Rattle.casper_model.specs.Rights.{NamesClients, AllNameClients}
use Rattle.casper_model.specs.LegalHistory.{IsGood, HasLegalHistory, HasHistory, EachStepKeepsHistory, EveryRunIsLegal}
use Rattle.casper_model.proofs.Places.{client_unplaced}
use Rattle.casper_model.proofs.OpeningRights.{others_opened}
use Rattle.casper_model.proofs.Additions.{who_opened}
use Rattle.casper_model.proofs.TurnRights.{keeps_served}
use Rattle.casper_model.proofs.AcquireRights.{keeps_acquired}
use Rattle.casper_model.proofs.StabiliseRights.{keeps_by}
use Rattle.casper_model.proofs.LeaveRights.{vanished_spares}
use Rattle.casper_model.proofs.StepRights.{step_rights, stands_at, ordered_shared, ordered_acquire}
use Rattle.casper_model.proofs.ExactRuns.{step_exact, exact_with_own}
use Rattle.casper_model.proofs.StepAdditions.{acquire_step_adds}
use Rattle.casper_model.proofs.RunRights.{start_in_order, nobody_at}
use Rattle.casper_model.proofs.TurnHistory.{acquire_records, serve_records, stabilise_records, depart_records}
use Rattle.casper_model.proofs.StateHistory.{history_after, history_emptied, history_marked}
use Rattle.casper_model.proofs.MarkSteps.{marks_lose, marks_vanished, marks_finish, marks_settled}
use Rattle.casper_model.proofs.StepHistory.{history_turn, history_call_step}

-- an acquire
history_unless : (state : State) (failed : Bool) (turn : Turn) → HasLegalHistory state → HasLegalHistory turn.state → HasLegalHistory (unless_load_failed state failed turn).state
history_unless state true turn stays moves = stays
history_unless state false turn stays moves = moves

history_acquire : (state : State) (who : ℕ) (wants : List Want) (calls : ℕ) (outside : Outside) → HasHistory state → IsClient who → is_live state.shared who ≡ true
    → HasHistory (acquire_step state who wants calls outside).state
history_acquire state who wants calls outside has is live = record {
  order = ordered_acquire state who wants calls outside has.order is live;
  exact =
      exact_with_own own.who own.pending state.shared.trail _ (subst IsClient (sym (has.order.shaped.numbers who)) is) has.exact
      (acquire_step_adds state who wants calls outside);
  history =
      history_unless state _ _ has.history
      (history_turn state who (acquired_by state.shared own wants calls) has is live (λ fallen. refl) (λ fallen. refl)
      (λ e number apart. (keeps_acquired wants calls state.shared own (stands_at state who has.order live) None e).others number apart)
      (acquire_records wants calls state.shared own) (fallen_at state.shared own.who) refl);
}
  where
    own : Own
    own = own_at state who

-- a step that a test guards
pub guarded_history : (P : State → Type 0) (test : Bool) (refusal : Answer) (state : State) (turn : State → Turn) → P state → (test ≡ true → P (turn state).state)
    → P (guarded test refusal state turn).state
guarded_history P true refusal state turn stays moves = moves refl
guarded_history P false refusal state turn stays moves = stays

live_history : (who : ℕ) (state : State) (turn : State → Turn) → HasLegalHistory state → (is_live state.shared who ≡ true → HasLegalHistory (turn state).state)
    → HasLegalHistory (of_live who state turn).state
live_history who state turn = guarded_history HasLegalHistory (is_live state.shared who) answer.Absent state turn

within_history : (test : State → Bool) (state : State) (turn : State → Turn) → HasLegalHistory state → HasLegalHistory (turn state).state
    → HasLegalHistory (within test turn state).state
within_history test state turn stays moves = guarded_history HasLegalHistory (test state) answer.Range state turn stays (λ is. moves)

-- a client that joins, or is refused
history_same_own : (state : State) (who : ℕ) → HasHistory state → IsClient who → HasLegalHistory (with_own (with_shared state state.shared) (own_at state who))
history_same_own state who has is =
    history_after state own state.shared
    (subst (λ number. number < length state.owns) (sym (has.order.shaped.numbers who)) (subst (λ count. who < count) (sym has.order.shaped.owns) (omega (arith, is.1))))
    has.history.legal
    (subst (λ number. IsGood state.base state.shared.trail (client_at state.shared number) own) (sym (has.order.shaped.numbers who)) (has.history.good who))
    (λ number apart. has.history.good number)
  where
    own : Own
    own = own_at state who

history_joined : (state : State) (who : ℕ) → HasHistory state → IsClient who → (client : Option Client)
    → HasLegalHistory (after_turn state (joined_by state.shared (own_at state who) client))
history_joined state who has is (Some client) = history_same_own state who has is
history_joined state who has is None =
    let own = own_at state who in
    let free = free_room state.shared in
    cond_both (free == 0) _ _ (λ (turn : Turned (Option JoinRefusal)). HasLegalHistory (with_own (with_shared state turn.shared) turn.own))
    (λ full. history_same_own state who has is)
    (λ room.
    history_emptied state who _ (record (blank own.who own.capacity) { cap = min most_cap free }) has.order has.history is refl refl refl refl
    (λ number apart. client_unplaced own.who (Some (new_client (min most_cap free))) state.shared number apart))

-- a client that departs or vanishes
pub others_departed : (shared : Shared) (own : Own) (number : ℕ) → number ≢ own.who → client_at (absent (opened shared own)).shared number ≡ client_at shared number
others_departed shared own number apart =
    let both = opened shared own in
    client_unplaced both.own.who None both.shared number (λ same. apart (same ∙ who_opened shared own)) ∙ others_opened shared own number apart

history_vanish : (state : State) (who : ℕ) → HasHistory state → IsClient who → HasLegalHistory (vanish_turn who state).state
history_vanish state who has is =
    let own = own_at state who in
    let loss = vanished_by state.shared own (fallen_at state.shared own.who) in
    let order = ordered_shared state loss.shared has.order (vanished_spares state.shared own (fallen_at state.shared own.who)) in
    let history = history_marked state loss.shared has.order has.history (marks_vanished state.shared own (fallen_at state.shared own.who)) in
    history_emptied (with_shared state loss.shared) who (absent (record { shared = loss.shared; own = own })).shared (blank own.who own.capacity) order history is
    refl refl refl refl (λ number apart. client_unplaced own.who None loss.shared number apart)

-- the write-outs: the vault has no part in a history
history_vault : (state again : State) → HasLegalHistory state → again.base ≡ state.base → again.shared ≡ state.shared → again.owns ≡ state.owns → HasLegalHistory again
history_vault state again history base shared owns =
    subst (λ (array : List (List ℕ)). HasLegalHistory (record again { base = array })) (sym base)
    (subst (λ (all : Shared). HasLegalHistory (record again { base = state.base; shared = all })) (sym shared)
    (subst (λ (own : List Own). HasLegalHistory (record again { base = state.base; shared = state.shared; owns = own })) (sym owns)
    (record { legal = history.legal; good = history.good })))

history_written : (state : State) (outside : Outside) (one : Stabilisation) (busy : Option ℕ) → HasLegalHistory state → HasLegalHistory (written_out state outside one busy).state
history_written state outside one (Some other) history = history
history_written state outside one None history = history_vault state _ history refl refl refl

history_write_out : (state : State) (outside : Outside) (one : Option Stabilisation) → HasLegalHistory state → HasLegalHistory (write_out_step state outside one).state
history_write_out state outside None history = history
history_write_out state outside (Some one) history = history_written state outside one (busy_lead state) history

history_finish : (state : State) (lead : ℕ) (unfinished : Option Unfinished) → HasHistory state → HasLegalHistory (finish_step state lead unfinished).state
history_finish state lead None has = has.history
history_finish state lead (Some unfinished) has =
    guarded_history HasLegalHistory (unfinished.lead == lead) answer.NoJob state (finish_turn lead unfinished.outcome) has.history
    (λ is. history_vault (with_shared state _) _ (history_marked state _ has.order has.history (marks_finish state.shared lead unfinished.outcome)) refl refl refl)

history_settle : (state : State) (outside : Outside) (one : Option Stabilisation) → HasHistory state → HasLegalHistory (settle_step state outside one).state
history_settle state outside None has = has.history
history_settle state outside (Some one) has =
    guarded_history HasLegalHistory (not (is_settle_failed outside)) answer.Disk state settle_turn has.history
    (λ is. history_vault (with_shared state _) _ (history_marked state _ has.order has.history (marks_settled state.shared)) refl refl refl)

step_legal : (state : State) (event : Event) (outside : Outside) → NamesClients event → HasHistory state → HasLegalHistory (step state event outside).state
step_legal state (event.Join who) outside is has = history_joined state who has is (client_at state.shared (own_at state who).who)
step_legal state (event.Read who page word) outside is has =
    let turn = read_turn who page word outside in
    live_history who state (within (is_in_range page word) turn) has.history
    (λ live.
    within_history (is_in_range page word) state turn has.history
    (history_call_step who op.Read page word (λ after. answer.Value (value_seen after who page word)) (λ after. value_seen after who page word) is (λ after. refl) state
    (record { page = page; right = may.Read }) outside has
    (history_acquire state who (record { page = page; right = may.Read } ∷ []) 1 outside has is live)).history)
step_legal state (event.Write who page word value) outside is has =
    let turn = write_turn who page word value outside in
    live_history who state (within (is_in_range page word) turn) has.history
    (λ live.
    within_history (is_in_range page word) state turn has.history
    (history_call_step who op.Write page word (λ after. answer.Ok) (λ after. value) is (λ after. tt) state
    (record { page = page; right = may.Write }) outside has
    (history_acquire state who (record { page = page; right = may.Write } ∷ []) 1 outside has is live)).history)
step_legal state (event.Acquire who wants) outside is has =
    let turn = acquire_turn who wants outside in
    live_history who state (within (are_in_range wants) turn) has.history
    (λ live. within_history (are_in_range wants) state turn has.history (history_acquire state who wants 1 outside has is live).history)
step_legal state (event.Hold who wants) outside is has =
    let turn = hold_turn who wants outside in
    live_history who state (within (are_in_range wants) turn) has.history
    (λ live. within_history (are_in_range wants) state turn has.history (history_acquire state who wants heap_line_calls outside has is live).history)
step_legal state (event.Serve who) outside is has =
    let own = own_at state who in
    live_history who state (serve_turn who) has.history
    (λ live.
    history_turn state who (served_by state.shared own) has is live (λ fallen. refl) (λ fallen. refl)
    (λ e number apart. (keeps_served state.shared own (stands_at state who has.order live) None e).others number apart) (serve_records state.shared own)
    (fallen_at state.shared own.who) refl)
step_legal state (event.Stabilise who) outside is has =
    let own = own_at state who in
    live_history who state (stabilise_turn who) has.history
    (λ live.
    history_turn state who (stabilised_by state.shared own) has is live (λ fallen. refl) (λ fallen. refl)
    (λ e number apart. (keeps_by state.shared own (stands_at state who has.order live) None e).others number apart) (stabilise_records state.shared own)
    (fallen_at state.shared own.who) refl)
step_legal state (event.WriteOut lead) outside is has = history_write_out state outside (job_of state lead) has.history
step_legal state (event.Finish lead) outside is has = history_finish state lead state.unfinished has
step_legal state event.Settle outside is has = history_settle state outside (doubtful_of state.shared) has
step_legal state (event.Depart who) outside is has =
    let own = own_at state who in
    live_history who state (depart_turn who) has.history
    (λ live.
    history_turn state who (departed_by state.shared own) has is live (λ fallen. refl) (λ fallen. refl)
    (λ e number apart. others_departed state.shared own number apart) (depart_records state.shared own) (fallen_at state.shared own.who) refl)
step_legal state (event.Vanish who) outside is has = live_history who state (vanish_turn who) has.history (λ live. history_vanish state who has is)
step_legal state (event.Lose who) outside is has =
    live_history who state (lose_turn who) has.history (λ live. history_marked state _ has.order has.history (marks_lose state.shared who))

pub step_history : EachStepKeepsHistory
step_history state event outside is has = record {
  order = step_rights state event outside is has.order;
  exact = step_exact state event outside is has.order has.exact;
  history = step_legal state event outside is has;
}

pub start_history : (vault : VaultState) (pages limit capacity : ℕ) → HasHistory (start vault pages limit capacity)
start_history vault pages limit capacity = record {
  order = start_in_order vault pages limit capacity;
  exact = record { marks = tt; clients = tt };
  history = record {
    legal = tt;
    good = λ who. subst (λ place. IsGood vault.image [] place (own_at (start vault pages limit capacity) who)) (sym (nobody_at pages limit who)) tt;
  };
}

pub run_history : (state : State) (happenings : List Happening) → AllNameClients happenings → HasHistory state → HasHistory (state_after state happenings)
run_history state [] named has = has
run_history state (first ∷ following) named has =
    run_history (step state first.event first.outside).state following named.1 (step_history state first.event first.outside named.0 has)

-- no step changes the array that the session found
base_behind : (answer : State → Answer) (own : State → Option Own) (turn : Turn) (granted : Bool)
    → (hit_behind (λ after. hit_turn after (answer after) (own after)) turn granted).state.base ≡ turn.state.base
base_behind answer own turn true = by_hit (own turn.state)
  where
    by_hit : (hit : Option Own) → (unwrap_or (hit_turn turn.state (answer turn.state) hit) turn).state.base ≡ turn.state.base
    by_hit None = refl
    by_hit (Some after) = refl
base_behind answer own turn false = refl

base_unless : (state : State) (failed : Bool) (turn : Turn) → turn.state.base ≡ state.base → (unless_load_failed state failed turn).state.base ≡ state.base
base_unless state true turn same = refl
base_unless state false turn same = same

base_call : (state : State) (who : ℕ) (want : Want) (outside : Outside) (answer : State → Answer) (own : State → Option Own) (first : Answer) (hit : Option Own)
    → (call_by state who want outside (λ after. hit_turn after (answer after) (own after)) (hit_turn state first hit)).state.base ≡ state.base
base_call state who want outside answer own first None =
    let turn = acquire_step state who (want ∷ []) 1 outside in
    base_behind answer own turn (is_granted turn.answer) ∙ base_unless state _ _ refl
base_call state who want outside answer own first (Some after) = refl

base_live : (who : ℕ) (state : State) (turn : State → Turn) → (turn state).state.base ≡ state.base → (of_live who state turn).state.base ≡ state.base
base_live who state turn same = guarded_history (λ after. after.base ≡ state.base) (is_live state.shared who) answer.Absent state turn refl (λ live. same)

base_within : (test : State → Bool) (state : State) (turn : State → Turn) → (turn state).state.base ≡ state.base → (within test turn state).state.base ≡ state.base
base_within test state turn same = guarded_history (λ after. after.base ≡ state.base) (test state) answer.Range state turn refl (λ is. same)

base_written : (state : State) (outside : Outside) (one : Stabilisation) (busy : Option ℕ) → (written_out state outside one busy).state.base ≡ state.base
base_written state outside one (Some other) = refl
base_written state outside one None = refl

base_write_out : (state : State) (outside : Outside) (one : Option Stabilisation) → (write_out_step state outside one).state.base ≡ state.base
base_write_out state outside None = refl
base_write_out state outside (Some one) = base_written state outside one (busy_lead state)

base_finish : (state : State) (lead : ℕ) (unfinished : Option Unfinished) → (finish_step state lead unfinished).state.base ≡ state.base
base_finish state lead None = refl
base_finish state lead (Some unfinished) =
    guarded_history (λ after. after.base ≡ state.base) (unfinished.lead == lead) answer.NoJob state (finish_turn lead unfinished.outcome) refl (λ is. refl)

base_settle : (state : State) (outside : Outside) (one : Option Stabilisation) → (settle_step state outside one).state.base ≡ state.base
base_settle state outside None = refl
base_settle state outside (Some one) =
    guarded_history (λ after. after.base ≡ state.base) (not (is_settle_failed outside)) answer.Disk state settle_turn refl (λ is. refl)

pub base_stays : (state : State) (event : Event) (outside : Outside) → (step state event outside).state.base ≡ state.base
base_stays state (event.Join who) outside = refl
base_stays state (event.Read who page word) outside =
    base_live who state (within (is_in_range page word) (read_turn who page word outside))
    (base_within (is_in_range page word) state (read_turn who page word outside)
    (base_call state who (record { page = page; right = may.Read }) outside (λ after. answer.Value (value_seen after who page word))
    (λ after. hit_read (own_at after who) page word (value_seen after who page word)) _ _))
base_stays state (event.Write who page word value) outside =
    base_live who state (within (is_in_range page word) (write_turn who page word value outside))
    (base_within (is_in_range page word) state (write_turn who page word value outside)
    (base_call state who (record { page = page; right = may.Write }) outside (λ after. answer.Ok) (λ after. hit_write (own_at after who) page word value) _ _))
base_stays state (event.Acquire who wants) outside =
    base_live who state (within (are_in_range wants) (acquire_turn who wants outside))
    (base_within (are_in_range wants) state (acquire_turn who wants outside) (base_unless state _ _ refl))
base_stays state (event.Hold who wants) outside =
    base_live who state (within (are_in_range wants) (hold_turn who wants outside))
    (base_within (are_in_range wants) state (hold_turn who wants outside) (base_unless state _ _ refl))
base_stays state (event.Serve who) outside = base_live who state (serve_turn who) refl
base_stays state (event.Stabilise who) outside = base_live who state (stabilise_turn who) refl
base_stays state (event.WriteOut lead) outside = base_write_out state outside (job_of state lead)
base_stays state (event.Finish lead) outside = base_finish state lead state.unfinished
base_stays state event.Settle outside = base_settle state outside (doubtful_of state.shared)
base_stays state (event.Depart who) outside = base_live who state (depart_turn who) refl
base_stays state (event.Vanish who) outside = base_live who state (vanish_turn who) refl
base_stays state (event.Lose who) outside = base_live who state (lose_turn who) refl

pub base_after : (state : State) (happenings : List Happening) → (state_after state happenings).base ≡ state.base
base_after state [] = refl
base_after state (first ∷ following) = base_after (step state first.event first.outside).state following ∙ base_stays state first.event first.outside

pub every_run_legal : EveryRunIsLegal
every_run_legal vault pages limit capacity happenings named =
    let begun = start vault pages limit capacity in
    subst (λ array. IsLegal array (state_after begun happenings).shared.trail) (base_after begun happenings)
    (run_history begun happenings named (start_history vault pages limit capacity)).history.legal
