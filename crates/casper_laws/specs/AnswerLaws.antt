use Rattle.std.specs.Prelude.{◌≡◌, ◌≢◌, ◌≤◌, ℕ, List, Bool, true, false, not, ◌&&◌, ◌||◌, is_some, Option, None, Some, Contains}
use Rattle.casper_words.specs.Crew.{IsClient}
use Rattle.casper_words.specs.declared.page.Want.{Want}
use Rattle.casper_space.specs.declared.answer.Answer.{Answer}
use Rattle.casper_space.specs.declared.answer.Answer.TheVariants as answer
use Rattle.casper_model.specs.declared.event.Event.{Event}
use Rattle.casper_model.specs.declared.event.Event.TheVariants as event
use Rattle.casper_model.specs.declared.outcome.Kept.{Kept}
use Rattle.casper_model.specs.declared.outcome.Kept.TheVariants as kept
use Rattle.casper_model.specs.declared.outcome.Outcome.TheVariants as outcome
use Rattle.casper_model.specs.CallStep.{acquire_step}
use Rattle.casper_model.specs.Held.{allows}
use Rattle.casper_model.specs.Outside.{Outside}
use Rattle.casper_model.specs.Own.{Own, room_of}
use Rattle.casper_model.specs.Shared.{is_live}
use Rattle.casper_model.specs.Stabilise.{kept_at}
use Rattle.casper_model.specs.State.{State, own_at}
use Rattle.casper_model.specs.Step.{step}
use Rattle.casper_model.specs.Turn.{Turn, is_in_range, are_in_range}
use Rattle.casper_laws.specs.HeldWordSteps.{InEveryStep}
use Rattle.casper_laws.specs.RunFacts.{AtEveryMoment}

-- What each event is answered.

-- a client holds each of these pages with the right that was wanted, and has room for so many calls
pub record HasRightsAndRoom (own : Own) (wants : List Want) (calls : ℕ) : Type 0 where
  pub rights : (want : Want) → Contains wants want → allows own.held want.page want.right ≡ true
  pub room : calls ≤ 4096 → calls ≤ room_of own

-- so it is after an acquire that is granted
abbrev pub GrantsRightsAndRoom : State → Type 0
GrantsRightsAndRoom state =
    (who : ℕ) (wants : List Want) (calls : ℕ) (outside : Outside) → IsClient who → (acquire_step state who wants calls outside).answer ≡ answer.Granted
    → HasRightsAndRoom (own_at (acquire_step state who wants calls outside).state who) wants calls

-- a read or a write whose page is granted is made: the answer to it is never that the page is granted
abbrev pub MakesGrantedCalls : State → Type 0
MakesGrantedCalls state =
    (who page word value : ℕ) (outside : Outside) → IsClient who
    → ((step state (event.Read who page word) outside).answer ≢ answer.Granted) × ((step state (event.Write who page word value) outside).answer ≢ answer.Granted)

-- the answers of an acquire that is not granted, once its client is live and its pages are in range
abbrev pub may_refuse_pages : Answer → Bool
may_refuse_pages (answer.RolledBack mark recorded unrecorded) = true
may_refuse_pages answer.InDoubt = true
may_refuse_pages (answer.Frozen lead) = true
may_refuse_pages (answer.Pending blockers) = true
may_refuse_pages (answer.TrailFull entries) = true
may_refuse_pages answer.Disk = true
may_refuse_pages other = false

-- the answers to a join
abbrev pub may_answer_join : Answer → Bool
may_answer_join answer.Joined = true
may_answer_join answer.Busy = true
may_answer_join (answer.TrailFull entries) = true
may_answer_join other = false

-- a read in range that has its page is answered a value, and else as the acquire of its page is refused
abbrev pub may_answer_read : Answer → Bool
may_answer_read (answer.Value value) = true
may_answer_read other = may_refuse_pages other

-- a write in range that has its page is answered Ok, and else as the acquire of its page is refused
abbrev pub may_answer_write : Answer → Bool
may_answer_write answer.Ok = true
may_answer_write other = may_refuse_pages other

-- an acquire in range is granted or refused
abbrev pub may_answer_acquire : Answer → Bool
may_answer_acquire answer.Granted = true
may_answer_acquire other = may_refuse_pages other

-- the answers to a serve
abbrev pub may_answer_serve : Answer → Bool
may_answer_serve answer.Ok = true
may_answer_serve (answer.RolledBack mark recorded unrecorded) = true
may_answer_serve other = false

-- the answers that tell how a write-out failed
abbrev pub tells_of_failure : Answer → Bool
tells_of_failure (answer.FailedFull need free) = true
tells_of_failure answer.FailedWorn = true
tells_of_failure (answer.FailedDisk doubt) = not doubt
tells_of_failure other = false

-- the answers to a stabilise: how far it is, the outcome that was kept, or that the client fell
abbrev pub may_answer_stabilise : Answer → Bool
may_answer_stabilise (answer.Commit mark) = true
may_answer_stabilise (answer.Gathering awaited) = true
may_answer_stabilise (answer.Sealed pages) = true
may_answer_stabilise (answer.Doing lead) = true
may_answer_stabilise (answer.Doubtful lead) = true
may_answer_stabilise (answer.RolledBack mark recorded unrecorded) = true
may_answer_stabilise other = tells_of_failure other

-- the answers to a write-out
abbrev pub may_answer_write_out : Answer → Bool
may_answer_write_out answer.NoJob = true
may_answer_write_out (answer.Vault busy) = true
may_answer_write_out (answer.Written version) = true
may_answer_write_out answer.Worn = true
may_answer_write_out (answer.Full need free) = true
may_answer_write_out answer.Disk = true
may_answer_write_out answer.Doubt = true
may_answer_write_out other = false

-- the answers to a finish
abbrev pub may_answer_finish : Answer → Bool
may_answer_finish answer.NoJob = true
may_answer_finish (answer.Commit mark) = true
may_answer_finish (answer.Undone mark) = true
may_answer_finish answer.InDoubt = true
may_answer_finish other = tells_of_failure other

-- the answers to a settle
abbrev pub may_answer_settle : Answer → Bool
may_answer_settle answer.Nothing = true
may_answer_settle answer.Disk = true
may_answer_settle (answer.Commit mark) = true
may_answer_settle other = false

-- the answers to a departure
abbrev pub may_answer_depart : Answer → Bool
may_answer_depart answer.Left = true
may_answer_depart (answer.RolledBack mark recorded unrecorded) = true
may_answer_depart other = false

-- the answers to a client's vanishing
abbrev pub may_answer_vanish : Answer → Bool
may_answer_vanish (answer.VanishLost mark unrecorded) = true
may_answer_vanish (answer.VanishNoted lead unrecorded) = true
may_answer_vanish other = false

-- the answers where a client is declared lost
abbrev pub may_answer_lose : Answer → Bool
may_answer_lose (answer.LoseLost mark) = true
may_answer_lose (answer.LoseNoted lead) = true
may_answer_lose (answer.Already mark) = true
may_answer_lose other = false

-- the answers of each event whose client is live, and whose pages and word are in range
abbrev pub may_answer_present : Event → Answer → Bool
may_answer_present (event.Join who) given = may_answer_join given
may_answer_present (event.Read who page word) given = may_answer_read given
may_answer_present (event.Write who page word value) given = may_answer_write given
may_answer_present (event.Acquire who wants) given = may_answer_acquire given
may_answer_present (event.Hold who wants) given = may_answer_acquire given
may_answer_present (event.Serve who) given = may_answer_serve given
may_answer_present (event.Stabilise who) given = may_answer_stabilise given
may_answer_present (event.WriteOut lead) given = may_answer_write_out given
may_answer_present (event.Finish lead) given = may_answer_finish given
may_answer_present event.Settle given = may_answer_settle given
may_answer_present (event.Depart who) given = may_answer_depart given
may_answer_present (event.Vanish who) given = may_answer_vanish given
may_answer_present (event.Lose who) given = may_answer_lose given

-- the client that has to be live for an event, if it is one of a client that has joined
abbrev pub client_of : Event → Option ℕ
client_of (event.Join who) = None
client_of (event.Read who page word) = Some who
client_of (event.Write who page word value) = Some who
client_of (event.Acquire who wants) = Some who
client_of (event.Hold who wants) = Some who
client_of (event.Serve who) = Some who
client_of (event.Stabilise who) = Some who
client_of (event.WriteOut lead) = None
client_of (event.Finish lead) = None
client_of event.Settle = None
client_of (event.Depart who) = Some who
client_of (event.Vanish who) = Some who
client_of (event.Lose who) = Some who

-- whether it is answered that the client is absent
abbrev pub is_absent : Answer → Bool
is_absent answer.Absent = true
is_absent other = false

-- whether it is answered that the client has joined before
abbrev pub is_busy : Answer → Bool
is_busy answer.Busy = true
is_busy other = false

-- whether it is answered that a page or a word is out of range
abbrev pub is_out_of_range : Answer → Bool
is_out_of_range answer.Range = true
is_out_of_range other = false

-- whether an event names pages
abbrev pub names_pages : Event → Bool
names_pages (event.Read who page word) = true
names_pages (event.Write who page word value) = true
names_pages (event.Acquire who wants) = true
names_pages (event.Hold who wants) = true
names_pages other = false

-- all answers of each event: those, where it is of a client that has to be live, that this client is absent, and where it
-- names pages, that they are out of range
abbrev pub may_answer : Event → Answer → Bool
may_answer event given =
    may_answer_present event given || ((is_some (client_of event) && is_absent given) || (names_pages event && is_out_of_range given))

-- whether a client that has to be live is not
abbrev pub lacks : State → Option ℕ → Bool
lacks state None = false
lacks state (Some who) = not (is_live state.shared who)

-- whether a page or a word that an event names is past the store's
abbrev pub is_past : State → Event → Bool
is_past state (event.Read who page word) = not (is_in_range page word state)
is_past state (event.Write who page word value) = not (is_in_range page word state)
is_past state (event.Acquire who wants) = not (are_in_range wants state)
is_past state (event.Hold who wants) = not (are_in_range wants state)
is_past state other = false

-- whether an event is a join of a client that is live
abbrev pub joins_again : State → Event → Bool
joins_again state (event.Join who) = is_live state.shared who
joins_again state other = false

-- a step is answered as its event may be
abbrev pub IsAnsweredSo : State → Event → Turn → Type 0
IsAnsweredSo state event turn = may_answer event turn.answer ≡ true

-- that a client is absent is answered exactly where one that has to be live is not
abbrev pub AnswersAbsentExactly : State → Event → Turn → Type 0
AnswersAbsentExactly state event turn = is_absent turn.answer ≡ lacks state (client_of event)

-- that a page or a word is out of range is answered exactly where it is past the store's, and the client is not absent
abbrev pub AnswersRangeExactly : State → Event → Turn → Type 0
AnswersRangeExactly state event turn = is_out_of_range turn.answer ≡ (not (lacks state (client_of event)) && is_past state event)

-- that a client has joined before is answered exactly where one that joins is live
abbrev pub AnswersBusyExactly : State → Event → Turn → Type 0
AnswersBusyExactly state event turn = is_busy turn.answer ≡ joins_again state event

-- whether an outcome that is kept for a client is that of an association that was made stable, or of a failed write-out
abbrev pub is_over : Kept → Bool
is_over (kept.Committed mark) = true
is_over (kept.Failed (outcome.Ok version)) = false
is_over (kept.Failed (outcome.Full need free)) = true
is_over (kept.Failed outcome.Worn) = true
is_over (kept.Failed outcome.Disk) = true
is_over (kept.Failed outcome.Doubt) = false

-- each outcome that is kept is one of these: none of a write-out that ended in doubt
abbrev pub KeepsOutcomes : State → Type 0
KeepsOutcomes state = (who : ℕ) (outcome : Kept) → kept_at state.shared who ≡ Some outcome → is_over outcome ≡ true

-- at each moment of every run an acquire that is granted gives the rights and the room
abbrev pub GrantedGivesRightsAndRoom : Type 0
GrantedGivesRightsAndRoom = AtEveryMoment GrantsRightsAndRoom

-- no read or write in any step of any run is answered that its page is granted
abbrev pub GrantedCallsAreMade : Type 0
GrantedCallsAreMade = AtEveryMoment MakesGrantedCalls

-- each step is answered as its event may be
abbrev pub EveryAnswerIsOfItsEvent : Type 0
EveryAnswerIsOfItsEvent = InEveryStep IsAnsweredSo

-- in each step exactly an absent client is told that it is absent
abbrev pub EveryAbsentClientIsToldSo : Type 0
EveryAbsentClientIsToldSo = InEveryStep AnswersAbsentExactly

-- in each step exactly a page or a word past the store's is told to be out of range
abbrev pub EveryPagePastTheStoreIsToldSo : Type 0
EveryPagePastTheStoreIsToldSo = InEveryStep AnswersRangeExactly

-- in each step exactly a live client that joins is told that it has joined before
abbrev pub EveryJoinOfTheLiveIsBusy : Type 0
EveryJoinOfTheLiveIsBusy = InEveryStep AnswersBusyExactly

-- at each moment of every run what is kept for a client is over
abbrev pub EveryKeptOutcomeIsOver : Type 0
EveryKeptOutcomeIsOver = AtEveryMoment KeepsOutcomes
