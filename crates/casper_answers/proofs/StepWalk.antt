use Rattle.std.proofs.Common.{◌≡◌, ℕ, List, [], ◌∷◌, Bool, true, false, cond, not, ◌&&◌, ◌==◌, refl, sym, ap, ◌∙◌, true≢false}
use Rattle.std.specs.Prelude.{Option, None, Some, unwrap_or}
use Rattle.std.proofs.lemmas.Bool.{eqb-true}
use Rattle.casper_words.specs.Crew.{IsClient}
use Rattle.casper_words.specs.declared.call.Op.{Op}
use Rattle.casper_words.specs.declared.call.Op.TheVariants as op
use Rattle.casper_words.specs.declared.page.Right.TheVariants as may
use Rattle.casper_words.specs.declared.page.Want.{Want}
use Rattle.casper_space.specs.declared.answer.Answer.{Answer}
use Rattle.casper_space.specs.declared.answer.Answer.TheVariants as answer
use Rattle.casper_model.specs.declared.event.Event.{Event}
use Rattle.casper_model.specs.declared.event.Event.TheVariants as event
use Rattle.casper_model.specs.declared.outcome.Outcome.{Outcome}
use Rattle.casper_model.specs.declared.outcome.Outcome.TheVariants as outcome
use Rattle.casper_model.specs.declared.reply.Reply.{Reply}
use Rattle.casper_model.specs.Acquire.{acquire, acquired_by, answered, missing_once_opened, refused_missing, refused_full}
use Rattle.casper_model.specs.Answers.{of_reply, of_join, of_served, of_depart, of_stabilise, of_write_out, of_finish, of_vanish, of_lose}
use Rattle.casper_model.specs.CallStep.{hit_turn, hit_behind, call_by, call_step, acquire_step, is_granted}
use Rattle.casper_model.specs.Client.{Fallen}
use Rattle.casper_model.specs.Finish.{finish, settled, doubtful_of}
use Rattle.casper_model.specs.Hits.{can_hit, with_call}
use Rattle.casper_model.specs.Join.{join}
use Rattle.casper_model.specs.Leave.{serve, depart, vanish}
use Rattle.casper_model.specs.LegalHistory.{right_for}
use Rattle.casper_model.specs.Loss.{lose}
use Rattle.casper_model.specs.Opening.{opened, given_in_opening}
use Rattle.casper_model.specs.Outside.{Outside, is_settle_failed}
use Rattle.casper_model.specs.Own.{Own}
use Rattle.casper_model.specs.Rights.{NamesClients}
use Rattle.casper_model.specs.Shared.{Shared, fallen_at, is_live}
use Rattle.casper_model.specs.Stabilisation.{Stabilisation}
use Rattle.casper_model.specs.Stabilise.{stabilise}
use Rattle.casper_model.specs.State.{State, Unfinished, own_at}
use Rattle.casper_model.specs.Step.{step, read_turn, write_turn, acquire_turn, hold_turn, heap_line_calls, serve_turn, stabilise_turn, depart_turn, vanish_turn, lose_turn}
use Rattle.casper_model.specs.Turn.{Turn, of_live, within, is_in_range, are_in_range}
use Rattle.casper_model.specs.View.{value_seen}
use Rattle.casper_model.specs.WriteOutStep.{job_of, busy_lead, written_out, write_out_step, finish_turn, finish_step, settle_turn, settle_step, of_settled}
use Rattle.casper_model.proofs.StepRights.{hit_by}
use Rattle.casper_laws.specs.Additions.{is_without_turn}
use Rattle.casper_laws.proofs.CompletedCalls.{guarded_turn, live_turn, within_turn, unless_turn}
use Rattle.casper_laws.proofs.ExactAdditions.{IfRefused, either_refuses, missing_refuses, full_refuses}
use Rattle.casper_answers.specs.Acknowledgement.{makes_turn}

-- One walk over the kinds of turn, for what a step makes of the shared part, by its event and its answer.

-- the answers of steps that leave the shared part: refusals before a turn, hits, and the ways in which a write-out ends
abbrev pub is_still : Answer → Bool
is_still answer.Absent = true
is_still answer.Range = true
is_still answer.Disk = true
is_still answer.NoJob = true
is_still (answer.Vault busy) = true
is_still answer.Nothing = true
is_still (answer.Value value) = true
is_still answer.Ok = true
is_still (answer.Written version) = true
is_still (answer.Full need free) = true
is_still answer.Worn = true
is_still answer.Doubt = true
is_still other = false

-- an event by which a client acquires pages
pub data Acquires (who : ℕ) : Event → Type 0 where
  by_read : (page word : ℕ) → Acquires who (event.Read who page word)
  by_write : (page word value : ℕ) → Acquires who (event.Write who page word value)
  by_wants : (wants : List Want) → Acquires who (event.Acquire who wants)
  by_hold : (wants : List Want) → Acquires who (event.Hold who wants)

-- what has to be shown of each kind of turn, so that a fact of the event, the answer and the shared part holds of each step
pub record ShownByTurns (state : State) (Holds : Event → Answer → Shared → Type 0) : Type 0 where
  pub still : (happened : Event) (given : Answer) → is_still given ≡ true → ((who : ℕ) → makes_turn state happened given who ≡ false) → Holds happened given state.shared
  pub joining : (who : ℕ) → IsClient who → Holds (event.Join who) (of_join (join state.shared (own_at state who)).reply) (join state.shared (own_at state who)).shared
  pub acquiring : (happened : Event) (who : ℕ) (wants : List Want) (calls : ℕ) (given : Answer) → IsClient who → is_live state.shared who ≡ true → Acquires who happened
      → ((other : ℕ) → makes_turn state happened given other ≡ (who == other)) → Holds happened given (acquire state.shared (own_at state who) wants calls).shared
  pub serving : (who : ℕ) → IsClient who → is_live state.shared who ≡ true
      → Holds (event.Serve who) (of_served (serve state.shared (own_at state who)).reply) (serve state.shared (own_at state who)).shared
  pub stabilising : (who : ℕ) → IsClient who → is_live state.shared who ≡ true
      → Holds (event.Stabilise who) (of_stabilise (stabilise state.shared (own_at state who)).reply) (stabilise state.shared (own_at state who)).shared
  pub departing : (who : ℕ) → IsClient who → is_live state.shared who ≡ true
      → Holds (event.Depart who) (of_depart (depart state.shared (own_at state who)).reply) (depart state.shared (own_at state who)).shared
  pub vanishing : (who : ℕ) → IsClient who → is_live state.shared who ≡ true
      → Holds (event.Vanish who) (of_vanish (vanish state.shared (own_at state who)).reply) (vanish state.shared (own_at state who)).shared
  pub losing : (who : ℕ) → IsClient who → is_live state.shared who ≡ true → Holds (event.Lose who) (of_lose (lose state.shared who).reply) (lose state.shared who).shared
  pub finishing : (lead : ℕ) (unfinished : Unfinished) → state.unfinished ≡ Some unfinished → unfinished.lead ≡ lead
      → Holds (event.Finish lead) (of_finish (finish state.shared lead unfinished.outcome).reply) (finish state.shared lead unfinished.outcome).shared
  pub settling : (one : Stabilisation) → doubtful_of state.shared ≡ Some one → Holds event.Settle (of_settled (settled state.shared).reply) (settled state.shared).shared

never_both : (one : Bool) → (one && false) ≡ false
never_both true = refl
never_both false = refl

only_first : (one : Bool) → (one && true) ≡ one
only_first true = refl
only_first false = refl

-- an acquire is answered of its turn
pub acquire_is_turn : (shared : Shared) (own : Own) (wants : List Want) (calls : ℕ) (fallen : Option Fallen)
    → is_without_turn (of_reply (acquired_by shared own wants calls fallen).reply) ≡ false
acquire_is_turn shared own wants calls (Some fallen) = refl
acquire_is_turn shared own wants calls None =
    let both = opened shared own in
    let missing = missing_once_opened shared own wants in
    by_refusal _
    (either_refuses (refused_missing both.shared both.own.who (given_in_opening shared own) missing) (refused_full both missing calls)
    (missing_refuses both.shared both.own.who (given_in_opening shared own) missing) (full_refuses both missing calls))
  where
    by_refusal : (refusal : Option Reply) → IfRefused refusal
        → is_without_turn (of_reply (answered (opened shared own) (given_in_opening shared own) wants (missing_once_opened shared own wants) refusal).reply) ≡ false
    by_refusal None refuses = refl
    by_refusal (Some reply) refuses = refuses.turn

write_out_still : (how : Outcome) → is_still (of_write_out how) ≡ true
write_out_still (outcome.Ok version) = refl
write_out_still (outcome.Full need free) = refl
write_out_still outcome.Worn = refl
write_out_still outcome.Disk = refl
write_out_still outcome.Doubt = refl

module _ (state : State) (Holds : Event → Answer → Shared → Type 0) (shown : ShownByTurns state Holds) where
  abbrev On : Event → Turn → Type 0
  On happened turn = Holds happened turn.answer turn.state.shared

  -- a step that leaves all
  stays : (happened : Event) (given : Answer) → is_still given ≡ true → ((who : ℕ) → makes_turn state happened given who ≡ false)
      → On happened (record { answer = given; state = state })
  stays happened given is none = shown.still happened given is none

  on_acquire : (happened : Event) (who : ℕ) (wants : List Want) (calls : ℕ) (outside : Outside) → IsClient who → is_live state.shared who ≡ true → Acquires who happened
      → ((other : ℕ) → makes_turn state happened answer.Disk other ≡ false)
      → ((given : Answer) → is_without_turn given ≡ false → (other : ℕ) → makes_turn state happened given other ≡ (who == other))
      → On happened (acquire_step state who wants calls outside)
  on_acquire happened who wants calls outside client live acquires none turns =
      let own = own_at state who in
      unless_turn (On happened) state _ _ (stays happened answer.Disk refl none)
      (shown.acquiring happened who wants calls _ client live acquires
      (turns (of_reply (acquire state.shared own wants calls).reply) (acquire_is_turn state.shared own wants calls (fallen_at state.shared own.who))))

  -- a call by a hit, or by an acquire and the hit after it
  module _ (happened : Event) (who : ℕ) (act : Op) (page word : ℕ) (given : State → Answer) (value : State → ℕ) (want : Want) (outside : Outside)
      (client : IsClient who) (live : is_live state.shared who ≡ true) (acquires : Acquires who happened)
      (hits : (after : State) → is_still (given after) ≡ true) (of_turn : (after : State) → is_without_turn (given after) ≡ false)
      (none : can_hit (own_at state who) page (right_for act) ≡ true → (answered : Answer) (other : ℕ) → makes_turn state happened answered other ≡ false)
      (failed : (other : ℕ) → makes_turn state happened answer.Disk other ≡ false)
      (turns : can_hit (own_at state who) page (right_for act) ≡ false → (answered : Answer) → is_without_turn answered ≡ false → (other : ℕ)
      → makes_turn state happened answered other ≡ (who == other)) where
    acquired : can_hit (own_at state who) page (right_for act) ≡ false → On happened (acquire_step state who (want ∷ []) 1 outside)
    acquired cannot = on_acquire happened who (want ∷ []) 1 outside client live acquires failed (turns cannot)

    then_hit : (turn : Turn) → On happened turn → ((answered : Answer) → is_without_turn answered ≡ false → Holds happened answered turn.state.shared) → (can : Bool)
        → On happened (unwrap_or (hit_turn turn.state (given turn.state) (cond can (Some (with_call (own_at turn.state who) act page word (value turn.state))) None)) turn)
    then_hit turn plain hit true = hit (given turn.state) (of_turn turn.state)
    then_hit turn plain hit false = plain

    behind : (turn : Turn) → On happened turn → (granted : Bool)
        → (granted ≡ true → (answered : Answer) → is_without_turn answered ≡ false → Holds happened answered turn.state.shared)
        → On happened (hit_behind (hit_by who act page word (right_for act) given value) turn granted)
    behind turn plain true hit = then_hit turn plain (hit refl) (can_hit (own_at turn.state who) page (right_for act))
    behind turn plain false hit = plain

    granted_shared : can_hit (own_at state who) page (right_for act) ≡ false → is_granted (acquire_step state who (want ∷ []) 1 outside).answer ≡ true → (answered : Answer)
        → is_without_turn answered ≡ false → Holds happened answered (acquire_step state who (want ∷ []) 1 outside).state.shared
    granted_shared cannot =
        unless_turn (λ turn. is_granted turn.answer ≡ true → (answered : Answer) → is_without_turn answered ≡ false → Holds happened answered turn.state.shared) state _ _
        (λ granted. absurd (true≢false (sym granted)))
        (λ granted answered of. shown.acquiring happened who (want ∷ []) 1 answered client live acquires (turns cannot answered of))

    pub on_call : On happened (call_step state who want outside (hit_by who act page word (right_for act) given value))
    on_call = by_can (can_hit (own_at state who) page (right_for act)) refl
      where
        by_can : (can : Bool) → can_hit (own_at state who) page (right_for act) ≡ can
            → On happened (call_by state who want outside (hit_by who act page word (right_for act) given value)
            (hit_turn state (given state) (cond can (Some (with_call (own_at state who) act page word (value state))) None)))
        by_can true e = stays happened (given state) (hits state) (none e (given state))
        by_can false e =
            behind (acquire_step state who (want ∷ []) 1 outside) (acquired e) (is_granted (acquire_step state who (want ∷ []) 1 outside).answer) (granted_shared e)

  on_live : (happened : Event) (who : ℕ) (turn : State → Turn) → ((other : ℕ) → makes_turn state happened answer.Absent other ≡ false)
      → (is_live state.shared who ≡ true → On happened (turn state)) → On happened (of_live who state turn)
  on_live happened who turn none moves = live_turn (On happened) who state turn (stays happened answer.Absent refl none) moves

  on_within : (happened : Event) (test : State → Bool) (turn : State → Turn) → ((other : ℕ) → makes_turn state happened answer.Range other ≡ false)
      → On happened (turn state) → On happened (within test turn state)
  on_within happened test turn none moves = within_turn (On happened) test state turn (stays happened answer.Range refl none) moves

  on_write_out : (lead : ℕ) (outside : Outside) (one : Option Stabilisation) → On (event.WriteOut lead) (write_out_step state outside one)
  on_write_out lead outside None = stays (event.WriteOut lead) answer.NoJob refl (λ who. refl)
  on_write_out lead outside (Some one) = by_busy (busy_lead state)
    where
      by_busy : (busy : Option ℕ) → On (event.WriteOut lead) (written_out state outside one busy)
      by_busy (Some other) = stays (event.WriteOut lead) (answer.Vault other) refl (λ who. refl)
      by_busy None = shown.still (event.WriteOut lead) _ (write_out_still _) (λ who. refl)

  on_finish : (lead : ℕ) (unfinished : Option Unfinished) → state.unfinished ≡ unfinished → On (event.Finish lead) (finish_step state lead unfinished)
  on_finish lead None e = stays (event.Finish lead) answer.NoJob refl (λ who. refl)
  on_finish lead (Some unfinished) e =
      guarded_turn (On (event.Finish lead)) (unfinished.lead == lead) answer.NoJob state (finish_turn lead unfinished.outcome)
      (stays (event.Finish lead) answer.NoJob refl (λ who. refl)) (λ is. shown.finishing lead unfinished e (eqb-true unfinished.lead lead is))

  on_settle : (outside : Outside) (one : Option Stabilisation) → doubtful_of state.shared ≡ one → On event.Settle (settle_step state outside one)
  on_settle outside None e = stays event.Settle answer.Nothing refl (λ who. refl)
  on_settle outside (Some one) e =
      guarded_turn (On event.Settle) (not (is_settle_failed outside)) answer.Disk state settle_turn (stays event.Settle answer.Disk refl (λ who. refl))
      (λ is. shown.settling one e)

  -- a call that can be a hit makes no turn, and any other that comes to one makes it
  no_turn : (who other : ℕ) (can without : Bool) → can ≡ true → ((who == other) && (not can && not without)) ≡ false
  no_turn who other can without is = ap (λ one. (who == other) && (not one && not without)) is ∙ never_both (who == other)

  a_turn : (who other : ℕ) (can without : Bool) → can ≡ false → without ≡ false → ((who == other) && (not can && not without)) ≡ (who == other)
  a_turn who other can without cannot of =
      ap (λ one. (who == other) && (not one && not without)) cannot ∙ ap (λ one. (who == other) && not one) of ∙ only_first (who == other)

  failed_turn : (who other : ℕ) (can : Bool) → ((who == other) && (not can && false)) ≡ false
  failed_turn who other can = ap (λ one. (who == other) && one) (never_both (not can)) ∙ never_both (who == other)

  pub on_step : (happened : Event) (outside : Outside) → NamesClients happened → On happened (step state happened outside)
  on_step (event.Join who) outside is = shown.joining who is
  on_step (event.Read who page word) outside is =
      let happened = event.Read who page word in
      let turn = read_turn who page word outside in
      on_live happened who (within (is_in_range page word) turn) (λ other. failed_turn who other (can_hit (own_at state who) page may.Read))
      (λ live.
      on_within happened (is_in_range page word) turn (λ other. failed_turn who other (can_hit (own_at state who) page may.Read))
      (on_call happened who op.Read page word (λ after. answer.Value (value_seen after who page word)) (λ after. value_seen after who page word)
      (record { page = page; right = may.Read }) outside is live (by_read page word) (λ after. refl) (λ after. refl)
      (λ can answered other. no_turn who other (can_hit (own_at state who) page may.Read) (is_without_turn answered) can)
      (λ other. failed_turn who other (can_hit (own_at state who) page may.Read))
      (λ cannot answered of other. a_turn who other (can_hit (own_at state who) page may.Read) (is_without_turn answered) cannot of)))
  on_step (event.Write who page word value) outside is =
      let happened = event.Write who page word value in
      let turn = write_turn who page word value outside in
      on_live happened who (within (is_in_range page word) turn) (λ other. failed_turn who other (can_hit (own_at state who) page may.Write))
      (λ live.
      on_within happened (is_in_range page word) turn (λ other. failed_turn who other (can_hit (own_at state who) page may.Write))
      (on_call happened who op.Write page word (λ after. answer.Ok) (λ after. value)
      (record { page = page; right = may.Write }) outside is live (by_write page word value) (λ after. refl) (λ after. refl)
      (λ can answered other. no_turn who other (can_hit (own_at state who) page may.Write) (is_without_turn answered) can)
      (λ other. failed_turn who other (can_hit (own_at state who) page may.Write))
      (λ cannot answered of other. a_turn who other (can_hit (own_at state who) page may.Write) (is_without_turn answered) cannot of)))
  on_step (event.Acquire who wanted) outside is =
      let happened = event.Acquire who wanted in
      let turn = acquire_turn who wanted outside in
      on_live happened who (within (are_in_range wanted) turn) (λ other. never_both (who == other))
      (λ live.
      on_within happened (are_in_range wanted) turn (λ other. never_both (who == other))
      (on_acquire happened who wanted 1 outside is live (by_wants wanted) (λ other. never_both (who == other))
      (λ given of other. ap (λ one. (who == other) && not one) of ∙ only_first (who == other))))
  on_step (event.Hold who wanted) outside is =
      let happened = event.Hold who wanted in
      let turn = hold_turn who wanted outside in
      on_live happened who (within (are_in_range wanted) turn) (λ other. never_both (who == other))
      (λ live.
      on_within happened (are_in_range wanted) turn (λ other. never_both (who == other))
      (on_acquire happened who wanted heap_line_calls outside is live (by_hold wanted) (λ other. never_both (who == other))
      (λ given of other. ap (λ one. (who == other) && not one) of ∙ only_first (who == other))))
  on_step (event.Serve who) outside is = on_live (event.Serve who) who (serve_turn who) (λ other. never_both (who == other)) (λ live. shown.serving who is live)
  on_step (event.Stabilise who) outside is =
      on_live (event.Stabilise who) who (stabilise_turn who) (λ other. never_both (who == other)) (λ live. shown.stabilising who is live)
  on_step (event.WriteOut lead) outside is = on_write_out lead outside (job_of state lead)
  on_step (event.Finish lead) outside is = on_finish lead state.unfinished refl
  on_step event.Settle outside is = on_settle outside (doubtful_of state.shared) refl
  on_step (event.Depart who) outside is = on_live (event.Depart who) who (depart_turn who) (λ other. never_both (who == other)) (λ live. shown.departing who is live)
  on_step (event.Vanish who) outside is = on_live (event.Vanish who) who (vanish_turn who) (λ other. never_both (who == other)) (λ live. shown.vanishing who is live)
  on_step (event.Lose who) outside is = on_live (event.Lose who) who (lose_turn who) (λ other. refl) (λ live. shown.losing who is live)
