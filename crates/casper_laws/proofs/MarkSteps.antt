use Rattle.std.proofs.Common.{◌≡◌, ◌≤◌, ◌+◌, ℕ, List, [], ◌∷◌, Bool, true, false, ◌==◌, not, ap, ◌∙◌, subst, arith, Contains, refl}
use Rattle.std.proofs.Math.Nat.{le-max_right}
use Rattle.std.specs.Prelude.{Option, None, Some, ⊤}
use Rattle.casper_trail.specs.declared.item.Item.{Item}
use Rattle.casper_model.specs.declared.event.Event.{Event}
use Rattle.casper_model.specs.Growth.{AddsMark}
use Rattle.casper_model.specs.Shared.{Shared, fallen_at, is_live}
use Rattle.casper_model.specs.Stabilisation.{Stabilisation, is_doubtful}
use Rattle.casper_model.specs.Finish.{doubtful_of, finish, finished_by, finished_as, failed, settled, settled_by, stabilisation_led_by}
use Rattle.casper_model.specs.Outside.{Outside, is_settle_failed}
use Rattle.casper_model.specs.Vault.{VaultState}
use Rattle.casper_model.specs.State.{State, Unfinished, own_at, start}
use Rattle.casper_model.specs.WriteOutStep.{job_of, busy_lead, written_out, write_out_step, finish_turn, finish_step, settle_turn, settle_step}
use Rattle.casper_model.specs.Step.{step, vanish_turn, lose_turn}
use Rattle.casper_model.specs.Run.{Happening, state_after}
use Rattle.casper_model.specs.Rights.{InOrder, NamesClients, AllNameClients}
use Rattle.casper_model.specs.LegalHistory.{HasHistory}
use Rattle.casper_model.proofs.OpeningRights.{IsUp}
use Rattle.casper_model.proofs.TurnRights.{up_as_it_stands}
use Rattle.casper_model.proofs.StepAdditions.{step_adds}
use Rattle.casper_model.proofs.StepRights.{stands_at}
use Rattle.casper_model.proofs.RunHistory.{guarded_history, start_history, step_history}
use Rattle.casper_laws.specs.FrozenLaws.{HasOrderlyStabilisations}
use Rattle.casper_turns.specs.MarkRoom.{mark_count, marks_due, RecordsNoMore}
use Rattle.casper_laws.specs.MarkRoom.{may_take_memory, MarksAreDue, room_behind, room_after_step, mark_room_after, EachStepKeepsNotedMembers, EachStepRecordsMarksThatAreDue, EveryRunKeepsRoomForMarks, EveryMarkHasItsRoom}
use Rattle.casper_turns.specs.Noted.{NotedAreMembers}
use Rattle.casper_turns.proofs.Lists.{nothing_in, find_found}
use Rattle.casper_turns.proofs.KeptByTurns.{KeptByTurns, step_keeps}
use Rattle.casper_turns.proofs.MarkCounts.{marks_pushed, marks_of_own}
use Rattle.casper_turns.proofs.MarkChanges.{records_nothing, lose_records, vanish_records, ends_its_stabilisation, committed_records, ended_records, relabelled_records}
use Rattle.casper_laws.proofs.NotedMembers.{acquire_members, serve_members, stabilise_members, depart_members, join_members, vanish_members, finish_members, settled_members}
use Rattle.casper_turns.proofs.NotedMembers.{lose_members}
use Rattle.casper_laws.proofs.StepFrozen.{named, step_orderly, start_orderly}
use Rattle.casper_words.specs.Crew.{has_member}
use Rattle.casper_trail.proofs.Rounds.{association_holds_its_client, association_of_a_member}
use Rattle.casper_model.specs.declared.outcome.Outcome.{Outcome}
use Rattle.casper_turns.specs.Frozen.{AreFrozen}
use Rattle.casper_space.specs.declared.answer.Answer.TheVariants as answer
use Rattle.casper_model.specs.declared.event.Event.TheVariants as event
use Rattle.casper_model.specs.declared.outcome.Outcome.TheVariants as outcome

-- where a loss was noted, its rollback ends the stabilisation, which had the room of its final mark
failed_records : (shared : Shared) (one : Stabilisation) (cause : Outcome) (noted : Option ℕ) → one.noted ≡ noted → AreFrozen shared → NotedAreMembers shared
    → Contains shared.stabilisations one → RecordsNoMore shared (failed shared one cause noted).shared
failed_records shared one cause None e frozen members inside = ended_records shared one _
failed_records shared one cause (Some lost) e frozen members inside =
    ends_its_stabilisation shared lost one inside
    (ap (has_member one.lead) (association_of_a_member shared.trail one.lead lost (members one lost inside e))
    ∙ association_holds_its_client shared.trail one.lead (frozen.leads one inside))

finished_records : (shared : Shared) (one : Stabilisation) (how : Outcome) → AreFrozen shared → NotedAreMembers shared → Contains shared.stabilisations one
    → RecordsNoMore shared (finished_as shared one how).shared
finished_records shared one (outcome.Ok version) frozen members inside = committed_records shared one inside
finished_records shared one (outcome.Full need free) frozen members inside = failed_records shared one (outcome.Full need free) one.noted refl frozen members inside
finished_records shared one outcome.Worn frozen members inside = failed_records shared one outcome.Worn one.noted refl frozen members inside
finished_records shared one outcome.Disk frozen members inside = failed_records shared one outcome.Disk one.noted refl frozen members inside
finished_records shared one outcome.Doubt frozen members inside = relabelled_records shared _

pub finish_records : (shared : Shared) (lead : ℕ) (how : Outcome) → AreFrozen shared → NotedAreMembers shared → RecordsNoMore shared (finish shared lead how).shared
finish_records shared lead how frozen members = by_found (stabilisation_led_by shared lead) refl
  where
    by_found : (one : Option Stabilisation) → stabilisation_led_by shared lead ≡ one → RecordsNoMore shared (finished_by shared how one).shared
    by_found None e = records_nothing shared
    by_found (Some one) e =
        finished_records shared one how frozen members (find_found (λ (x : Stabilisation). x.lead == lead) shared.stabilisations one e).0

pub settled_records : (shared : Shared) → RecordsNoMore shared (settled shared).shared
settled_records shared = by_found (doubtful_of shared) refl
  where
    by_found : (one : Option Stabilisation) → doubtful_of shared ≡ one → RecordsNoMore shared (settled_by shared one).shared
    by_found None e = records_nothing shared
    by_found (Some one) e = committed_records shared one (find_found (λ (x : Stabilisation). is_doubtful x.phase) shared.stabilisations one e).0

-- each step keeps the notes of members
noted_by_turns : KeptByTurns (λ state. ⊤) HasOrderlyStabilisations (λ state. NotedAreMembers state.shared)
noted_by_turns = record {
  hit = λ state who act page word value is calls known members can. members;
  joining = λ state who is orderly members. join_members state.shared (own_at state who) members;
  acquiring = λ state who wants calls any is live orderly members. acquire_members wants calls state.shared (own_at state who) members;
  serving = λ state who is live orderly members. serve_members state.shared (own_at state who) members;
  stabilising = λ state who is live orderly members. stabilise_members state.shared (own_at state who) members;
  departing = λ state who is live orderly members. depart_members state.shared (own_at state who) members;
  vanishing = λ state who is live orderly members. vanish_members state.shared (own_at state who) members;
  losing = λ state who is live orderly members. lose_members state.shared who members;
  writing = λ state outside lead one orderly members job free. members;
  finishing = λ state lead unfinished orderly members e same. finish_members state.shared lead unfinished.outcome orderly.frozen members;
  settling = λ state one orderly members e. settled_members state.shared orderly.frozen members;
}

pub step_noted : EachStepKeepsNotedMembers
step_noted = step_keeps (λ one. ⊤) HasOrderlyStabilisations (λ state. NotedAreMembers state.shared) (λ one e o n known. tt) (λ one known. tt) noted_by_turns

-- after a step that may take no memory
write_out_records : (state : State) (outside : Outside) (one : Option Stabilisation) → RecordsNoMore state.shared (write_out_step state outside one).state.shared
write_out_records state outside None = records_nothing state.shared
write_out_records state outside (Some one) = by_busy (busy_lead state)
  where
    by_busy : (busy : Option ℕ) → RecordsNoMore state.shared (written_out state outside one busy).state.shared
    by_busy (Some other) = records_nothing state.shared
    by_busy None = records_nothing state.shared

finish_step_records : (state : State) (lead : ℕ) (unfinished : Option Unfinished) → HasOrderlyStabilisations state → NotedAreMembers state.shared
    → RecordsNoMore state.shared (finish_step state lead unfinished).state.shared
finish_step_records state lead None orderly members = records_nothing state.shared
finish_step_records state lead (Some unfinished) orderly members =
    guarded_history (λ after. RecordsNoMore state.shared after.shared) (unfinished.lead == lead) answer.NoJob state (finish_turn lead unfinished.outcome)
    (records_nothing state.shared) (λ is. finish_records state.shared lead unfinished.outcome orderly.frozen members)

settle_step_records : (state : State) (outside : Outside) (one : Option Stabilisation) → RecordsNoMore state.shared (settle_step state outside one).state.shared
settle_step_records state outside None = records_nothing state.shared
settle_step_records state outside (Some one) =
    guarded_history (λ after. RecordsNoMore state.shared after.shared) (not (is_settle_failed outside)) answer.Disk state settle_turn (records_nothing state.shared)
    (λ is. settled_records state.shared)

up_at : (state : State) (who : ℕ) → InOrder state → is_live state.shared who ≡ true → fallen_at state.shared who ≡ None → IsUp state.shared who
up_at state who order live up =
    let same = order.shaped.numbers who in
    subst (IsUp state.shared) same
    (up_as_it_stands state.shared (own_at state who) (stands_at state who order live) (ap (fallen_at state.shared) same ∙ up))

pub step_records : EachStepRecordsMarksThatAreDue
step_records state (event.Join who) outside is order orderly members = ap mark_count (step_adds state (event.Join who) outside)
step_records state (event.Read who page word) outside is order orderly members = marks_of_own _ _ _ _ (step_adds state (event.Read who page word) outside)
step_records state (event.Write who page word value) outside is order orderly members = marks_of_own _ _ _ _ (step_adds state (event.Write who page word value) outside)
step_records state (event.Acquire who wants) outside is order orderly members = marks_of_own _ _ _ _ (step_adds state (event.Acquire who wants) outside)
step_records state (event.Hold who wants) outside is order orderly members = marks_of_own _ _ _ _ (step_adds state (event.Hold who wants) outside)
step_records state (event.Serve who) outside is order orderly members = marks_of_own _ _ _ _ (step_adds state (event.Serve who) outside)
step_records state (event.Stabilise who) outside is order orderly members = marks_of_own _ _ _ _ (step_adds state (event.Stabilise who) outside)
step_records state (event.Depart who) outside is order orderly members = marks_of_own _ _ _ _ (step_adds state (event.Depart who) outside)
step_records state (event.WriteOut lead) outside is order orderly members = write_out_records state outside (job_of state lead)
step_records state (event.Finish lead) outside is order orderly members = finish_step_records state lead state.unfinished orderly members
step_records state event.Settle outside is order orderly members = settle_step_records state outside (doubtful_of state.shared)
step_records state (event.Vanish who) outside is order orderly members =
    guarded_history (λ after. RecordsNoMore state.shared after.shared) (is_live state.shared who) answer.Absent state (vanish_turn who) (records_nothing state.shared)
    (λ live. vanish_records state.shared (own_at state who) (named state who order is) (stands_at state who order live))
step_records state (event.Lose who) outside is order orderly members =
    guarded_history (λ after. RecordsNoMore state.shared after.shared) (is_live state.shared who) answer.Absent state (lose_turn who) (records_nothing state.shared)
    (λ live. lose_records state.shared who is (up_at state who order live))

-- marks are never fewer
more_by_mark : (before after : List Item) → AddsMark before after → mark_count before ≤ mark_count after
more_by_mark before after AddsMark.nothing = omega arith
more_by_mark before after (AddsMark.mark mark exact) = let pushed = marks_pushed before mark in omega (arith, pushed)

same_marks : (before after : ℕ) → after ≡ before → before ≤ after
same_marks before after same = omega arith

marks_stay : (state : State) (event : Event) (outside : Outside) → mark_count state.shared.trail ≤ mark_count (step state event outside).state.shared.trail
marks_stay state (event.Join who) outside = same_marks _ _ (ap mark_count (step_adds state (event.Join who) outside))
marks_stay state (event.WriteOut lead) outside = same_marks _ _ (ap mark_count (step_adds state (event.WriteOut lead) outside))
marks_stay state (event.Read who page word) outside = same_marks _ _ (marks_of_own _ _ _ _ (step_adds state (event.Read who page word) outside))
marks_stay state (event.Write who page word value) outside = same_marks _ _ (marks_of_own _ _ _ _ (step_adds state (event.Write who page word value) outside))
marks_stay state (event.Acquire who wants) outside = same_marks _ _ (marks_of_own _ _ _ _ (step_adds state (event.Acquire who wants) outside))
marks_stay state (event.Hold who wants) outside = same_marks _ _ (marks_of_own _ _ _ _ (step_adds state (event.Hold who wants) outside))
marks_stay state (event.Serve who) outside = same_marks _ _ (marks_of_own _ _ _ _ (step_adds state (event.Serve who) outside))
marks_stay state (event.Stabilise who) outside = same_marks _ _ (marks_of_own _ _ _ _ (step_adds state (event.Stabilise who) outside))
marks_stay state (event.Depart who) outside = same_marks _ _ (marks_of_own _ _ _ _ (step_adds state (event.Depart who) outside))
marks_stay state (event.Finish lead) outside = more_by_mark _ _ (step_adds state (event.Finish lead) outside)
marks_stay state event.Settle outside = more_by_mark _ _ (step_adds state event.Settle outside)
marks_stay state (event.Vanish who) outside = more_by_mark _ _ (step_adds state (event.Vanish who) outside)
marks_stay state (event.Lose who) outside = more_by_mark _ _ (step_adds state (event.Lose who) outside)

-- room that covers the marks that are due covers them after a step
room_covers : (may : Bool) (room : ℕ) (shared after : Shared) → MarksAreDue may shared after → mark_count shared.trail ≤ mark_count after.trail → marks_due shared ≤ room
    → marks_due after ≤ room_behind may room shared after
room_covers true room shared after moves more covers = le-max_right room (marks_due after)
room_covers false room shared after moves more covers = omega (arith, moves, more, covers)

-- what stands along a run
record IsCovered (state : State) (room : ℕ) : Type 0 where
  history : HasHistory state
  orderly : HasOrderlyStabilisations state
  members : NotedAreMembers state.shared
  covers : marks_due state.shared ≤ room

covered_step : (state : State) (room : ℕ) (event : Event) (outside : Outside) → NamesClients event → IsCovered state room
    → IsCovered (step state event outside).state (room_after_step room state event outside)
covered_step state room event outside is covered = record {
  history = step_history state event outside is covered.history;
  orderly = step_orderly state event outside is covered.history covered.orderly;
  members = step_noted state event outside is covered.orderly covered.members;
  covers =
      room_covers (may_take_memory event) room state.shared (step state event outside).state.shared
      (step_records state event outside is covered.history.order covered.orderly covered.members) (marks_stay state event outside) covered.covers;
}

covered_run : (state : State) (room : ℕ) (happenings : List Happening) → AllNameClients happenings → IsCovered state room
    → IsCovered (state_after state happenings) (mark_room_after room state happenings)
covered_run state room [] named covered = covered
covered_run state room (first ∷ following) named covered =
    covered_run (step state first.event first.outside).state (room_after_step room state first.event first.outside) following named.1
    (covered_step state room first.event first.outside named.0 covered)

covered_start : (vault : VaultState) (pages limit capacity : ℕ) → vault.doubt ≡ None → IsCovered (start vault pages limit capacity) 0
covered_start vault pages limit capacity none = record {
  history = start_history vault pages limit capacity;
  orderly = start_orderly vault pages limit capacity none;
  members = λ one lost inside noted. absurd (nothing_in one inside);
  covers = omega arith;
}

pub every_run_covered : EveryRunKeepsRoomForMarks
every_run_covered vault pages limit capacity happenings none named =
    (covered_run (start vault pages limit capacity) 0 happenings named (covered_start vault pages limit capacity none)).covers

within_room : (may : Bool) (room : ℕ) (shared after : Shared) → may ≡ false → MarksAreDue may shared after → marks_due shared ≤ room
    → mark_count after.trail ≤ mark_count shared.trail + room
within_room may room shared after never moves covers =
    let fewer : RecordsNoMore shared after = subst (λ one. MarksAreDue one shared after) never moves in omega (arith, fewer, covers)

pub every_mark_has_room : EveryMarkHasItsRoom
every_mark_has_room vault pages limit capacity happenings none named event outside is never =
    let state = state_after (start vault pages limit capacity) happenings in
    let covered = covered_run (start vault pages limit capacity) 0 happenings named (covered_start vault pages limit capacity none) in
    within_room (may_take_memory event) (mark_room_after 0 (start vault pages limit capacity) happenings) state.shared (step state event outside).state.shared never
    (step_records state event outside is covered.history.order covered.orderly covered.members) covered.covers
