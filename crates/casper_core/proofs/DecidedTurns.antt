use Rattle.std.proofs.Common.{◌≡◌, ◌==◌, ◌&&◌, ℕ, List, [], ◌∷◌, Bool, true, false, cond, not, true≢false, refl, sym, ap, ap₂, ◌∙◌, subst}
use Rattle.std.specs.Prelude.{Option, None, Some, IsTrue, IsFalse, MatchOption, nat_lt, unwrap_or, is_some}
use Rattle.std.specs.List.{list_all}
use Rattle.std.proofs.lemmas.Option.{none-some}
use Rattle.casper_words.specs.declared.page.Right.TheVariants as may
use Rattle.casper_words.specs.declared.page.Want.{Want}
use Rattle.casper_trail.specs.TrailView.{entry_count}
use Rattle.casper_space.specs.declared.answer.Answer.{Answer}
use Rattle.casper_space.specs.declared.answer.Answer.TheVariants as answer
use Rattle.casper_model.specs.declared.event.Event.{Event}
use Rattle.casper_model.specs.declared.event.Event.TheVariants as event
use Rattle.casper_model.specs.declared.reply.Reply.{Reply}
use Rattle.casper_model.specs.declared.reply.Reply.TheVariants as reply
use Rattle.casper_model.specs.declared.reply.Loss.{Loss}
use Rattle.casper_model.specs.declared.reply.Loss.TheVariants as loss
use Rattle.casper_model.specs.declared.outcome.Outcome.{Outcome}
use Rattle.casper_model.specs.declared.outcome.Outcome.TheVariants as outcome
use Rattle.casper_model.specs.declared.reply.StabReply.{StabReply}
use Rattle.casper_model.specs.declared.reply.StabReply.TheVariants as stab
use Rattle.casper_model.specs.Stabilise.{stabilise}
use Rattle.casper_model.specs.declared.reply.Served.{Served}
use Rattle.casper_model.specs.declared.reply.Served.TheVariants as served
use Rattle.casper_model.specs.declared.reply.JoinRefusal.{JoinRefusal}
use Rattle.casper_model.specs.declared.reply.JoinRefusal.TheVariants as refusal
use Rattle.casper_model.specs.Both.{Turned}
use Rattle.casper_model.specs.Own as machine
use Rattle.casper_model.specs.Acquire.{acquire}
use Rattle.casper_model.specs.Answers.{of_join, of_reply, of_served, of_stabilise, of_failure, of_write_out, of_finish, of_depart, of_vanish, of_lose}
use Rattle.casper_model.specs.CallStep.{acquire_step, unless_load_failed, hit_turn, hit_behind, call_by, call_step, is_granted}
use Rattle.casper_model.specs.Client.{Client}
use Rattle.casper_model.specs.Hits.{hit_read, hit_write}
use Rattle.casper_model.specs.Join.{join, joined_by}
use Rattle.casper_model.specs.Leave.{serve, depart, vanish}
use Rattle.casper_model.specs.Loss.{lose}
use Rattle.casper_model.specs.declared.outcome.Finished.{Finished}
use Rattle.casper_model.specs.declared.outcome.Finished.TheVariants as finished_as
use Rattle.casper_model.specs.Finish.{finish, settled, doubtful_of}
use Rattle.casper_model.specs.Outside.{Outside, NothingFailed, is_settle_failed}
use Rattle.casper_model.specs.Stabilisation.{Stabilisation}
use Rattle.casper_model.specs.Vault.{commit}
use Rattle.casper_model.specs.WriteOutStep.{job_of, busy_lead, changes_of, finish_step, finish_turn, settle_step, settle_turn, of_settled}
use Rattle.casper_model.specs.Room.{free_room}
use Rattle.casper_model.specs.Shared.{Shared, client_at, is_live}
use Rattle.casper_model.specs.Run.{is_doubt}
use Rattle.casper_model.specs.State.{State, Unfinished, own_at, after_turn}
use Rattle.casper_model.specs.Step.{acquire_turn, serve_turn, stabilise_turn, depart_turn, vanish_turn, lose_turn, write_turn}
use Rattle.casper_model.specs.Turn.{Turn, guarded, within, is_in_range, are_in_range}
use Rattle.casper_model.specs.View.{value_seen}
use Rattle.casper_hub.specs.HubView as hub
use Rattle.casper_hub.specs.HubView.{HubView}
use Rattle.casper_hub.proofs.Showing.{free_shown, liveness_shown}
use Rattle.casper_core.specs.Acting.{outside_of, outside_in}
use Rattle.casper_core.specs.CoreView.{CoreView}
use Rattle.casper_core.specs.Decided.{decided_of, decided, is_before_turn, is_of_no_turn, AnswersByTheHub}
use Rattle.casper_core.specs.Shaped.{RepresentsButWords, StepsInShape, outcome_told, read_with, written_with, written_unless, write_out_with, step_with}
use Rattle.casper_core.specs.Sound.{IsSound}
use Rattle.casper_core.specs.Stepping.{IsBuilt, IfWrittenOut, is_fault}
use Rattle.casper_core.proofs.ShapedRuns.{some_state}
use Rattle.casper_core.proofs.StepParts.{number_at}

-- What an answer is by the hub alone.

-- No turn of a live client gives an answer that is none of a turn.

of_acquire : (one : Reply) → is_of_no_turn (of_reply one) ≡ false
of_acquire reply.Granted = refl
of_acquire (reply.Pending blockers) = refl
of_acquire (reply.Frozen lead) = refl
of_acquire reply.InDoubt = refl
of_acquire (reply.RolledBack mark recorded unrecorded) = refl
of_acquire (reply.TrailFull entries) = refl
of_acquire (reply.Load page marks) = refl

of_serve : (one : Served) → is_of_no_turn (of_served one) ≡ false
of_serve served.Ok = refl
of_serve (served.RolledBack mark recorded unrecorded) = refl

of_failed : (cause : Outcome) → is_of_no_turn (of_failure cause) ≡ false
of_failed (outcome.Ok version) = refl
of_failed (outcome.Full need free) = refl
of_failed outcome.Worn = refl
of_failed outcome.Disk = refl
of_failed outcome.Doubt = refl

of_stabilised : (one : StabReply) → is_of_no_turn (of_stabilise one) ≡ false
of_stabilised (stab.Gathering awaited) = refl
of_stabilised (stab.Sealed pages) = refl
of_stabilised (stab.Doing lead) = refl
of_stabilised (stab.Doubtful lead) = refl
of_stabilised (stab.Committed mark) = refl
of_stabilised (stab.Failed cause) = of_failed cause
of_stabilised (stab.RolledBack mark recorded unrecorded) = refl

of_leave : (one : Served) → is_of_no_turn (of_depart one) ≡ false
of_leave served.Ok = refl
of_leave (served.RolledBack mark recorded unrecorded) = refl

of_vanished : (one : Loss) → is_of_no_turn (of_vanish one) ≡ false
of_vanished (loss.Lost mark unrecorded) = refl
of_vanished (loss.Noted lead unrecorded) = refl
of_vanished (loss.Already mark) = refl

of_lost : (one : Loss) → is_of_no_turn (of_lose one) ≡ false
of_lost (loss.Lost mark unrecorded) = refl
of_lost (loss.Noted lead unrecorded) = refl
of_lost (loss.Already mark) = refl

failed_turn : (state : State) (failed : Bool) (turn : Turn) → is_of_no_turn turn.answer ≡ false → is_of_no_turn (unless_load_failed state failed turn).answer ≡ false
failed_turn state true turn is = refl
failed_turn state false turn is = is

acquire_turned : (state : State) (who : ℕ) (wants : List Want) (calls : ℕ) (outside : Outside) → is_of_no_turn (acquire_step state who wants calls outside).answer ≡ false
acquire_turned state who wants calls outside =
    let turn = acquire state.shared (own_at state who) wants calls in
    failed_turn state _ (record { answer = of_reply turn.reply; state = after_turn state turn }) (of_acquire turn.reply)

module _ (said : State → Answer) (own : State → Option machine.Own) (plain : (state : State) → is_of_no_turn (said state) ≡ false) where
  hit : State → Option Turn
  hit state = hit_turn state (said state) (own state)

  hit_or : (state : State) (other : Turn) (found : Option machine.Own) → is_of_no_turn other.answer ≡ false
      → is_of_no_turn (unwrap_or (hit_turn state (said state) found) other).answer ≡ false
  hit_or state other None is = is
  hit_or state other (Some one) is = plain state

  behind_turned : (turn : Turn) (granted : Bool) → is_of_no_turn turn.answer ≡ false → is_of_no_turn (hit_behind (λ after. hit_turn after (said after) (own after)) turn granted).answer ≡ false
  behind_turned turn true is = hit_or turn.state turn (own turn.state) is
  behind_turned turn false is = is

  call_turned : (state : State) (who : ℕ) (want : Want) (outside : Outside) → is_of_no_turn (call_step state who want outside (λ after. hit_turn after (said after) (own after))).answer ≡ false
  call_turned state who want outside = by_own (own state)
    where
      by_own : (found : Option machine.Own)
          → is_of_no_turn (call_by state who want outside (λ after. hit_turn after (said after) (own after)) (hit_turn state (said state) found)).answer ≡ false
      by_own (Some one) = plain state
      by_own None =
          let turn = acquire_step state who (want ∷ []) 1 outside in behind_turned turn (is_granted turn.answer) (acquire_turned state who (want ∷ []) 1 outside)

read_turned : (who page word : ℕ) (said : Answer) (state : State) → is_of_no_turn (read_with who page word said state).answer ≡ false
read_turned who page word (answer.Value value) state =
    call_turned (λ after. answer.Value value) (λ after. hit_read (own_at after who) page word value) (λ after. refl) state who (record { page = page; right = may.Read }) NothingFailed
read_turned who page word other state =
    call_turned (λ after. answer.Value (value_seen after who page word)) (λ after. hit_read (own_at after who) page word (value_seen after who page word)) (λ after. refl) state who
    (record { page = page; right = may.Read }) (outside_of other)

write_turned : (who page word value : ℕ) (outside : Outside) (state : State) → is_of_no_turn (write_turn who page word value outside state).answer ≡ false
write_turned who page word value outside state =
    call_turned (λ after. answer.Ok) (λ after. hit_write (own_at after who) page word value) (λ after. refl) state who (record { page = page; right = may.Write }) outside

-- Nor does a write-out, a finish or a settle.

of_outcome : (how : Outcome) → is_before_turn (of_write_out how) ≡ false
of_outcome (outcome.Ok version) = refl
of_outcome (outcome.Full need free) = refl
of_outcome outcome.Worn = refl
of_outcome outcome.Disk = refl
of_outcome outcome.Doubt = refl

told_outcome : (said : Answer) (how : Outcome) → outcome_told said ≡ Some how → is_before_turn said ≡ false
told_outcome (answer.Written version) how is = refl
told_outcome (answer.Full need free) how is = refl
told_outcome answer.Worn how is = refl
told_outcome answer.Disk how is = refl
told_outcome answer.Doubt how is = refl
told_outcome other how is = absurd (none-some how is)

wrote : (state : State) (said : Answer) (job : Option Stabilisation) → is_before_turn (write_out_with state said job).answer ≡ false
wrote state said None = refl
wrote state said (Some one) = by (busy_lead state)
  where
    told : (how : Option Outcome) → outcome_told said ≡ how → is_before_turn (written_with state said one how).answer ≡ false
    told None is = of_outcome (commit state.vault (changes_of state one) NothingFailed).outcome
    told (Some how) is = told_outcome said how is

    by : (busy : Option ℕ) → is_before_turn (written_unless state said one busy).answer ≡ false
    by None = told (outcome_told said) refl
    by (Some busy) = refl

of_finished : (done : Option Finished) → is_of_no_turn (of_finish done) ≡ false
of_finished None = refl
of_finished (Some (finished_as.Committed mark)) = refl
of_finished (Some (finished_as.Failed cause)) = of_failed cause
of_finished (Some (finished_as.Undone mark)) = refl
of_finished (Some finished_as.Doubt) = refl

finished : (state : State) (lead : ℕ) (unfinished : Option Unfinished) → is_of_no_turn (finish_step state lead unfinished).answer ≡ false
finished state lead None = refl
finished state lead (Some one) = by (one.lead == lead)
  where
    by : (same : Bool) → is_of_no_turn (guarded same answer.NoJob state (finish_turn lead one.outcome)).answer ≡ false
    by true = of_finished (finish state.shared lead one.outcome).reply
    by false = refl

of_mark : (mark : Option ℕ) → is_of_no_turn (of_settled mark) ≡ false
of_mark None = refl
of_mark (Some place) = refl

settled_so : (state : State) (outside : Outside) (found : Option Stabilisation) → is_of_no_turn (settle_step state outside found).answer ≡ false
settled_so state outside None = refl
settled_so state outside (Some one) = by (not (is_settle_failed outside))
  where
    by : (passed : Bool) → is_of_no_turn (guarded passed answer.Disk state settle_turn).answer ≡ false
    by true = of_mark (settled state.shared).reply
    by false = refl

-- what is decided of a client
decided_within : (inside : Bool) (state : State) (said : Answer) (turn : State → Turn) → is_of_no_turn (turn state).answer ≡ false
    → said ≡ (guarded inside answer.Range state turn).answer → MatchOption (decided_of true inside) (IsFalse (is_of_no_turn said)) (λ answer. said ≡ answer)
decided_within false state said turn plain is = is
decided_within true state said turn plain is = ap is_of_no_turn is ∙ plain

decided_by : (live : Bool) (test : State → Bool) (state : State) (said : Answer) (turn : State → Turn) → is_of_no_turn (turn state).answer ≡ false
    → said ≡ (guarded live answer.Absent state (within test turn)).answer
    → MatchOption (decided_of live (test state)) (IsFalse (is_of_no_turn said)) (λ answer. said ≡ answer)
decided_by false test state said turn plain is = is
decided_by true test state said turn plain is = decided_within (test state) state said turn plain is

decided_where : (shared_live live within_state within : Bool) (said : Answer) → shared_live ≡ live → within_state ≡ within
    → MatchOption (decided_of shared_live within_state) (IsFalse (is_of_no_turn said)) (λ answer. said ≡ answer)
    → MatchOption (decided_of live within) (IsFalse (is_of_no_turn said)) (λ answer. said ≡ answer)
decided_where shared_live live within_state within said same also is =
    subst (λ one. MatchOption (decided_of one within) (IsFalse (is_of_no_turn said)) (λ answer. said ≡ answer)) same
    (subst (λ one. MatchOption (decided_of shared_live one) (IsFalse (is_of_no_turn said)) (λ answer. said ≡ answer)) also is)

-- a join
join_room : (shared after : Shared) (own other : machine.Own) (none : Bool)
    → of_join (cond {A = Turned (Option JoinRefusal)} none (record { reply = Some (refusal.TrailFull (entry_count shared.trail)); shared = shared; own = own }) (record { reply = None; shared = after; own = other })).reply
    ≡ cond none (answer.TrailFull (entry_count shared.trail)) answer.Joined
join_room shared after own other true = refl
join_room shared after own other false = refl

join_by : (shared : Shared) (own : machine.Own) (place : Option Client)
    → of_join (joined_by shared own place).reply ≡ cond (is_some place) answer.Busy (cond (free_room shared == 0) (answer.TrailFull (entry_count shared.trail)) answer.Joined)
join_by shared own (Some client) = refl
join_by shared own None = join_room shared _ own _ (free_room shared == 0)

module _ {V : Type 0} (core : CoreView V) (sound : IsSound core) (state : State) (shape : RepresentsButWords state core) where
  live_here : (who : ℕ) → is_live state.shared who ≡ hub.is_live core.hub who
  live_here who = liveness_shown state.shared core.hub shape.shared who

  join_decided : (who : ℕ) → of_join (join state.shared (own_at state who)).reply
      ≡ cond (hub.is_live core.hub who) answer.Busy (cond (hub.free_in core.hub == 0) (answer.TrailFull (entry_count core.hub.trail)) answer.Joined)
  join_decided who =
      let own = own_at state who in
      join_by state.shared own (client_at state.shared own.who)
      ∙ ap (λ live. cond live answer.Busy (cond (free_room state.shared == 0) (answer.TrailFull (entry_count state.shared.trail)) answer.Joined))
      (ap (is_live state.shared) (number_at core who state sound shape) ∙ live_here who)
      ∙ ap₂ (λ free trail. cond (hub.is_live core.hub who) answer.Busy (cond (free == 0) (answer.TrailFull (entry_count trail)) answer.Joined))
      (free_shown state.shared core.hub shape.shared sound.hub.formed.places) shape.shared.trail

  by_event : (one : Event) (said : Answer) → IsBuilt one → said ≡ (step_with state one said).answer → AnswersByTheHub core.hub one said
  by_event (event.Join who) said built is = is ∙ join_decided who
  by_event (event.Read who page word) said built is =
      decided_where (is_live state.shared who) (hub.is_live core.hub who) (nat_lt page state.shared.pages && nat_lt word 512) (nat_lt page (hub.page_count core.hub) && nat_lt word 512) said
      (live_here who) (ap (λ pages. nat_lt page pages && nat_lt word 512) shape.shared.pages)
      (decided_by (is_live state.shared who) (is_in_range page word) state said (read_with who page word said) (read_turned who page word said state) is)
  by_event (event.Write who page word value) said built is =
      decided_where (is_live state.shared who) (hub.is_live core.hub who) (nat_lt page state.shared.pages && nat_lt word 512) (nat_lt page (hub.page_count core.hub) && nat_lt word 512) said
      (live_here who) (ap (λ pages. nat_lt page pages && nat_lt word 512) shape.shared.pages)
      (decided_by (is_live state.shared who) (is_in_range page word) state said (write_turn who page word value (outside_of said))
      (write_turned who page word value (outside_of said) state) is)
  by_event (event.Acquire who wants) said built is =
      decided_where (is_live state.shared who) (hub.is_live core.hub who) (list_all (λ want. nat_lt want.page state.shared.pages) wants)
      (list_all (λ want. nat_lt want.page (hub.page_count core.hub)) wants) said (live_here who) (ap (λ pages. list_all (λ want. nat_lt want.page pages) wants) shape.shared.pages)
      (decided_by (is_live state.shared who) (are_in_range wants) state said (acquire_turn who wants (outside_of said))
      (acquire_turned state who wants 1 (outside_of said)) is)
  by_event (event.Serve who) said built is =
      decided_where (is_live state.shared who) (hub.is_live core.hub who) true true said (live_here who) refl
      (decided_by (is_live state.shared who) (λ one. true) state said (serve_turn who) (of_serve (serve state.shared (own_at state who)).reply) is)
  by_event (event.Hold who wants) said built is = absurd built
  by_event (event.Stabilise who) said built is =
      decided_where (is_live state.shared who) (hub.is_live core.hub who) true true said (live_here who) refl
      (decided_by (is_live state.shared who) (λ one. true) state said (stabilise_turn who) (of_stabilised (stabilise state.shared (own_at state who)).reply) is)
  by_event (event.WriteOut lead) said built is = ap is_before_turn is ∙ wrote state said (job_of state lead)
  by_event (event.Finish lead) said built is = ap is_of_no_turn is ∙ finished state lead state.unfinished
  by_event event.Settle said built is = ap is_of_no_turn is ∙ settled_so state (outside_in event.Settle said) (doubtful_of state.shared)
  by_event (event.Depart who) said built is =
      decided_where (is_live state.shared who) (hub.is_live core.hub who) true true said (live_here who) refl
      (decided_by (is_live state.shared who) (λ one. true) state said (depart_turn who) (of_leave (depart state.shared (own_at state who)).reply) is)
  by_event (event.Vanish who) said built is =
      decided_where (is_live state.shared who) (hub.is_live core.hub who) true true said (live_here who) refl
      (decided_by (is_live state.shared who) (λ one. true) state said (vanish_turn who) (of_vanished (vanish state.shared (own_at state who)).reply) is)
  by_event (event.Lose who) said built is =
      decided_where (is_live state.shared who) (hub.is_live core.hub who) true true said (live_here who) refl
      (decided_by (is_live state.shared who) (λ one. true) state said (lose_turn who) (of_lost (lose state.shared who).reply) is)

pub decides : {V : Type 0} (core after : CoreView V) (one : Event) (said : Answer) → IsSound core → IsBuilt one → StepsInShape one said core after → AnswersByTheHub core.hub one said
decides core after one said sound built steps =
    let some = some_state core sound in by_event core sound some.0 some.1 one said built (steps some.0 some.1).answers

-- Only a write-out is answered with a doubt.

plain_no_doubt : (said : Answer) → is_of_no_turn said ≡ false → is_doubt said ≡ false
plain_no_doubt answer.Doubt is = cc
plain_no_doubt other is = refl

decided_no_doubt : (live within : Bool) (said : Answer) → MatchOption (decided_of live within) (IsFalse (is_of_no_turn said)) (λ answer. said ≡ answer) → is_doubt said ≡ false
decided_no_doubt true true said is = plain_no_doubt said is
decided_no_doubt true false said is = ap is_doubt is
decided_no_doubt false within said is = ap is_doubt is

joined_no_doubt : (live none : Bool) (entries : ℕ) → is_doubt (cond live answer.Busy (cond none (answer.TrailFull entries) answer.Joined)) ≡ false
joined_no_doubt true none entries = refl
joined_no_doubt false true entries = refl
joined_no_doubt false false entries = refl

-- an answer that tells of a fault
fault_is : (said : Answer) → IsTrue (is_fault said) → is_doubt said ≡ false → said ≡ answer.Disk
fault_is answer.Disk is quiet = refl
fault_is answer.Doubt is quiet = cc
fault_is other is quiet = absurd (true≢false (sym is))

-- where a load or a settle that failed, and a write-out in doubt, raised the count of faults, each answer that tells of a fault did
by_fault : (said : Answer) → IsTrue (is_fault said) → {P : Type 0} → (said ≡ answer.Disk → P) → (said ≡ answer.Doubt → P) → P
by_fault answer.Disk is failed doubted = failed refl
by_fault answer.Doubt is failed doubted = doubted refl
by_fault other is failed doubted = absurd (true≢false (sym is))

pub faulted : {V : Type 0} (core after : CoreView V) (one : Event) (said : Answer) (P : Type 0) → IsSound core → IsBuilt one → StepsInShape one said core after
    → (said ≡ answer.Disk → P) → IfWrittenOut one (said ≡ answer.Doubt → P) → IsTrue (is_fault said) → P
faulted core after one said P sound built steps failed doubted is = by one (decides core after one said sound built steps) doubted
  where
    quiet : is_doubt said ≡ false → P
    quiet none = failed (fault_is said is none)

    by : (other : Event) → AnswersByTheHub core.hub other said → IfWrittenOut other (said ≡ answer.Doubt → P) → P
    by (event.WriteOut lead) decided doubted = by_fault said is failed doubted
    by (event.Join who) decided doubted = quiet (ap is_doubt decided ∙ joined_no_doubt (hub.is_live core.hub who) (hub.free_in core.hub == 0) (entry_count core.hub.trail))
    by (event.Read who page word) decided doubted =
        quiet (decided_no_doubt (hub.is_live core.hub who) (nat_lt page (hub.page_count core.hub) && nat_lt word 512) said decided)
    by (event.Write who page word value) decided doubted =
        quiet (decided_no_doubt (hub.is_live core.hub who) (nat_lt page (hub.page_count core.hub) && nat_lt word 512) said decided)
    by (event.Acquire who wants) decided doubted =
        quiet (decided_no_doubt (hub.is_live core.hub who) (list_all (λ want. nat_lt want.page (hub.page_count core.hub)) wants) said decided)
    by (event.Serve who) decided doubted = quiet (decided_no_doubt (hub.is_live core.hub who) true said decided)
    by (event.Stabilise who) decided doubted = quiet (decided_no_doubt (hub.is_live core.hub who) true said decided)
    by (event.Depart who) decided doubted = quiet (decided_no_doubt (hub.is_live core.hub who) true said decided)
    by (event.Vanish who) decided doubted = quiet (decided_no_doubt (hub.is_live core.hub who) true said decided)
    by (event.Lose who) decided doubted = quiet (decided_no_doubt (hub.is_live core.hub who) true said decided)
    by other decided doubted = quiet (plain_no_doubt said decided)
