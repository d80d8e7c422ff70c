use Rattle.std.specs.Prelude.{◌≡◌, ◌⊎◌, ◌++◌, ℕ, List, Bool, true, false, not, ◌&&◌, ◌==◌, length, drop, slice_get, None, Some, Contains}
use Rattle.std.specs.List.{list_any}
use Rattle.casper_words.specs.Crew.{IsClient, has_member}
use Rattle.casper_words.specs.declared.page.Right.TheVariants as may
use Rattle.casper_space.specs.declared.answer.Answer.{Answer}
use Rattle.casper_space.specs.declared.answer.Answer.TheVariants as answer
use Rattle.casper_trail.specs.declared.item.Item.{Item}
use Rattle.casper_trail.specs.declared.item.Item.TheVariants as item
use Rattle.casper_trail.specs.declared.mark.Mark.TheVariants.{Commit}
use Rattle.casper_trail.specs.Value.{is_write}
use Rattle.casper_model.specs.declared.event.Event.{Event}
use Rattle.casper_model.specs.declared.event.Event.TheVariants as event
use Rattle.casper_model.specs.declared.outcome.Kept.{Kept}
use Rattle.casper_model.specs.declared.outcome.Kept.TheVariants as kept
use Rattle.casper_model.specs.declared.outcome.Outcome.TheVariants as outcome
use Rattle.casper_model.specs.Frozen.{is_member}
use Rattle.casper_model.specs.Hits.{can_hit}
use Rattle.casper_model.specs.Outside.{Outside}
use Rattle.casper_model.specs.Shared.{Shared}
use Rattle.casper_model.specs.Stabilisation.{Stabilisation, is_doubtful}
use Rattle.casper_model.specs.Stabilise.{kept_at}
use Rattle.casper_model.specs.State.{State, own_at}
use Rattle.casper_model.specs.Step.{step}
use Rattle.casper_model.specs.Turn.{Turn}
use Rattle.casper_laws.specs.Additions.{commit_mark, is_without_turn}
use Rattle.casper_laws.specs.AnswerLaws.{is_over}
use Rattle.casper_laws.specs.OwnLists.{IsStanding}
use Rattle.casper_answers.specs.Sessions.{AtEachMoment, InEachStep}

-- Who is told that its calls are stable, and what that means: the acknowledgement of a commit.

-- at a place of a trail stands the commit mark of an association that this client is a member of
pub record HasCommitOf (trail : List Item) (place who : ℕ) : Type 0 where
  pub lead : ℕ
  pub members : List ℕ
  pub stands : slice_get trail place ≡ Some (item.Mark (Commit lead members))
  pub member : has_member who members ≡ true

-- whether an item is a write of this client
abbrev pub is_write_by : ℕ → Item → Bool
is_write_by who (item.Entry entry) = is_write entry.op && (entry.who == who)
is_write_by who (item.Mark mark) = false

-- each write that a client completed stands before a place of the trail: none stands after it, and none is pending
pub record HasNoWriteBehind (state : State) (place who : ℕ) : Type 0 where
  pub recorded : list_any (is_write_by who) (drop place state.shared.trail) ≡ false
  pub pending : list_any (λ call. is_write call.op) (own_at state who).pending ≡ false

-- a commit at this place covers all that a client wrote
pub record IsAcknowledged (state : State) (place who : ℕ) : Type 0 where
  pub commit : HasCommitOf state.shared.trail place who
  pub behind : HasNoWriteBehind state place who

-- a commit that is kept for a client is the place of a commit mark that covers all that the client wrote
abbrev pub KeepsTrueCommits : State → Type 0
KeepsTrueCommits state = (who place : ℕ) → kept_at state.shared who ≡ Some (kept.Committed place) → IsAcknowledged state place who

-- an outcome that is kept, as the answer that tells it
abbrev pub answer_of_kept : Kept → Answer
answer_of_kept (kept.Committed place) = answer.Commit place
answer_of_kept (kept.Failed (outcome.Ok version)) = answer.Written version
answer_of_kept (kept.Failed (outcome.Full need free)) = answer.FailedFull need free
answer_of_kept (kept.Failed outcome.Worn) = answer.FailedWorn
answer_of_kept (kept.Failed outcome.Disk) = answer.FailedDisk false
answer_of_kept (kept.Failed outcome.Doubt) = answer.InDoubt

-- whether an answer tells an outcome: a commit, or how a write-out failed
abbrev pub tells_outcome : Answer → Bool
tells_outcome (answer.Commit place) = true
tells_outcome (answer.FailedFull need free) = true
tells_outcome answer.FailedWorn = true
tells_outcome (answer.FailedDisk doubt) = true
tells_outcome other = false

-- a stabilise of a client that is not fallen tells it the outcome that was kept for it
abbrev pub TellsTheKept : State → Type 0
TellsTheKept state =
    (who : ℕ) (outside : Outside) (outcome : Kept) → IsClient who → IsStanding state who → kept_at state.shared who ≡ Some outcome
    → (step state (event.Stabilise who) outside).answer ≡ answer_of_kept outcome

-- and it tells no other: an outcome that it tells was kept for its client
abbrev pub TellsOnlyTheKept : State → Type 0
TellsOnlyTheKept state =
    (who : ℕ) (outside : Outside) → IsClient who → tells_outcome (step state (event.Stabilise who) outside).answer ≡ true
    → (outcome : Kept) × (kept_at state.shared who ≡ Some outcome) × ((step state (event.Stabilise who) outside).answer ≡ answer_of_kept outcome)

-- a client that a stabilise tells of a commit is covered by it: after the turn too no write of it stands after the mark
abbrev pub TellsTrueCommits : State → Type 0
TellsTrueCommits state =
    (who place : ℕ) (outside : Outside) → IsClient who → (step state (event.Stabilise who) outside).answer ≡ answer.Commit place
    → IsAcknowledged (step state (event.Stabilise who) outside).state place who

-- a finish that answers a commit recorded its mark at this place, for the lead and exactly its association
abbrev pub FinishesWithItsMark : State → Type 0
FinishesWithItsMark state =
    (lead place : ℕ) (outside : Outside) → IsClient lead → (step state (event.Finish lead) outside).answer ≡ answer.Commit place
    → (place ≡ length state.shared.trail) × ((step state (event.Finish lead) outside).state.shared.trail ≡ state.shared.trail ++ commit_mark state.shared.trail lead)

-- and so did a settle, for the lead that was in doubt
abbrev pub SettlesWithItsMark : State → Type 0
SettlesWithItsMark state =
    (place : ℕ) (outside : Outside) → (step state event.Settle outside).answer ≡ answer.Commit place
    → (one : Stabilisation) × Contains state.shared.stabilisations one × (is_doubtful one.phase ≡ true) × (place ≡ length state.shared.trail)
    × ((step state event.Settle outside).state.shared.trail ≡ state.shared.trail ++ commit_mark state.shared.trail one.lead)

-- a client waits for the outcome of the stabilisation of a lead
abbrev pub WaitsFor : Shared → ℕ → ℕ → Type 0
WaitsFor shared who lead = (one : Stabilisation) × Contains shared.stabilisations one × (one.lead ≡ lead) × (has_member who one.askers ≡ true)

-- who waits for the outcome of a stabilisation is a member of the association
abbrev pub AskersAreMembers : State → Type 0
AskersAreMembers state =
    (one : Stabilisation) (who : ℕ) → Contains state.shared.stabilisations one → has_member who one.askers ≡ true → is_member state.shared who one ≡ true

-- and it is live, and not fallen
abbrev pub AskersStand : State → Type 0
AskersStand state = (one : Stabilisation) (who : ℕ) → Contains state.shared.stabilisations one → has_member who one.askers ≡ true → IsStanding state who

-- and nothing is kept for it
abbrev pub AskersHaveNothingKept : State → Type 0
AskersHaveNothingKept state =
    (one : Stabilisation) (who : ℕ) → Contains state.shared.stabilisations one → has_member who one.askers ≡ true → kept_at state.shared who ≡ None

-- whether an event is a stabilise of this client
abbrev pub is_stabilise_of : ℕ → Event → Bool
is_stabilise_of who (event.Stabilise one) = one == who
is_stabilise_of who other = false

-- whether this client leaves by an event
abbrev pub is_leave_of : ℕ → Event → Bool
is_leave_of who (event.Depart one) = one == who
is_leave_of who (event.Vanish one) = one == who
is_leave_of who other = false

-- only a stabilise of its own makes a client wait
abbrev pub WaitsByItsOwn : State → Event → Outside → Turn → Type 0
WaitsByItsOwn state event outside turn =
    (who lead : ℕ) → WaitsFor turn.state.shared who lead → WaitsFor state.shared who lead ⊎ (is_stabilise_of who event ≡ true)

-- and while the stabilisation lasts it waits on, unless it leaves
abbrev pub WaitsOn : State → Event → Outside → Turn → Type 0
WaitsOn state event outside turn =
    (who : ℕ) (one after : Stabilisation) → Contains state.shared.stabilisations one → has_member who one.askers ≡ true
    → Contains turn.state.shared.stabilisations after → after.lead ≡ one.lead → is_leave_of who event ≡ false → has_member who after.askers ≡ true

-- whether an answer tells that the stabilisation of the client is under way
abbrev pub is_under_way : Answer → Bool
is_under_way (answer.Gathering awaited) = true
is_under_way (answer.Sealed pages) = true
is_under_way (answer.Doing lead) = true
is_under_way (answer.Doubtful lead) = true
is_under_way other = false

-- a client whose stabilise is answered so waits for the outcome, in its association
abbrev pub WaitsWhereUnderWay : State → Type 0
WaitsWhereUnderWay state =
    (who : ℕ) (outside : Outside) → IsClient who → is_under_way (step state (event.Stabilise who) outside).answer ≡ true
    → (one : Stabilisation) × Contains (step state (event.Stabilise who) outside).state.shared.stabilisations one × (has_member who one.askers ≡ true)
    × (is_member (step state (event.Stabilise who) outside).state.shared who one ≡ true)

-- whether an event may end a stabilisation with an outcome: the finish of its lead, or a settle where it is in doubt
abbrev pub may_end : Event → Stabilisation → Bool
may_end (event.Finish lead) one = one.lead == lead
may_end event.Settle one = is_doubtful one.phase
may_end other one = false

-- what is kept for a client was kept before, or it is the answer to the end of a stabilisation that it waited for
abbrev pub KeepsWhatWasAsked : State → Event → Outside → Turn → Type 0
KeepsWhatWasAsked state event outside turn =
    (who : ℕ) (outcome : Kept) → kept_at turn.state.shared who ≡ Some outcome
    → (kept_at state.shared who ≡ Some outcome)
    ⊎ ((one : Stabilisation) × Contains state.shared.stabilisations one × (has_member who one.askers ≡ true) × (may_end event one ≡ true)
    × (turn.answer ≡ answer_of_kept outcome))

-- at the end of a stabilisation its outcome is kept for each client that waited for it
abbrev pub TellsEachAsker : State → Event → Outside → Turn → Type 0
TellsEachAsker state event outside turn =
    (who : ℕ) (one : Stabilisation) (outcome : Kept) → Contains state.shared.stabilisations one → has_member who one.askers ≡ true → may_end event one ≡ true
    → is_over outcome ≡ true → turn.answer ≡ answer_of_kept outcome → kept_at turn.state.shared who ≡ Some outcome

-- whether a step makes a turn of this client: a call that is a hit makes none
abbrev pub makes_turn : State → Event → Answer → ℕ → Bool
makes_turn state (event.Read one page word) given who = (one == who) && (not (can_hit (own_at state one) page may.Read) && not (is_without_turn given))
makes_turn state (event.Write one page word value) given who = (one == who) && (not (can_hit (own_at state one) page may.Write) && not (is_without_turn given))
makes_turn state (event.Acquire one wants) given who = (one == who) && not (is_without_turn given)
makes_turn state (event.Hold one wants) given who = (one == who) && not (is_without_turn given)
makes_turn state (event.Serve one) given who = (one == who) && not (is_without_turn given)
makes_turn state (event.Stabilise one) given who = (one == who) && not (is_without_turn given)
makes_turn state (event.Depart one) given who = (one == who) && not (is_without_turn given)
makes_turn state (event.Vanish one) given who = (one == who) && not (is_without_turn given)
makes_turn state other given who = false

-- a turn of a client drops what was kept for it
abbrev pub DropsTheKept : State → Event → Outside → Turn → Type 0
DropsTheKept state event outside turn = (who : ℕ) → makes_turn state event turn.answer who ≡ true → kept_at turn.state.shared who ≡ None

-- and nothing else does
abbrev pub LeavesTheKept : State → Event → Outside → Turn → Type 0
LeavesTheKept state event outside turn =
    (who : ℕ) (outcome : Kept) → makes_turn state event turn.answer who ≡ false → kept_at state.shared who ≡ Some outcome
    → kept_at turn.state.shared who ≡ Some outcome

-- so it is at each moment and in each step of every session
abbrev pub EachKeptCommitIsTrue : Type 0
EachKeptCommitIsTrue = AtEachMoment KeepsTrueCommits

abbrev pub EachStabiliseTellsTheKept : Type 0
EachStabiliseTellsTheKept = AtEachMoment TellsTheKept

abbrev pub EachStabiliseTellsOnlyTheKept : Type 0
EachStabiliseTellsOnlyTheKept = AtEachMoment TellsOnlyTheKept

abbrev pub EachToldCommitIsTrue : Type 0
EachToldCommitIsTrue = AtEachMoment TellsTrueCommits

abbrev pub EachFinishedCommitHasItsMark : Type 0
EachFinishedCommitHasItsMark = AtEachMoment FinishesWithItsMark

abbrev pub EachSettledCommitHasItsMark : Type 0
EachSettledCommitHasItsMark = AtEachMoment SettlesWithItsMark

abbrev pub EachAskerIsAMember : Type 0
EachAskerIsAMember = AtEachMoment AskersAreMembers

abbrev pub EachAskerStands : Type 0
EachAskerStands = AtEachMoment AskersStand

abbrev pub EachAskerHasNothingKept : Type 0
EachAskerHasNothingKept = AtEachMoment AskersHaveNothingKept

abbrev pub EachAskerWaitsByItsOwn : Type 0
EachAskerWaitsByItsOwn = InEachStep WaitsByItsOwn

abbrev pub EachAskerWaitsOn : Type 0
EachAskerWaitsOn = InEachStep WaitsOn

abbrev pub EachUnderWayWaits : Type 0
EachUnderWayWaits = AtEachMoment WaitsWhereUnderWay

abbrev pub EachKeptOutcomeWasAsked : Type 0
EachKeptOutcomeWasAsked = InEachStep KeepsWhatWasAsked

abbrev pub EachAskerIsTold : Type 0
EachAskerIsTold = InEachStep TellsEachAsker

abbrev pub EachTurnDropsTheKept : Type 0
EachTurnDropsTheKept = InEachStep DropsTheKept

abbrev pub OnlyTurnsDropTheKept : Type 0
OnlyTurnsDropTheKept = InEachStep LeavesTheKept
