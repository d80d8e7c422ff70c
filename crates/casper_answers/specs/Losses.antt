use Rattle.std.specs.Prelude.{◌≡◌, ◌⊎◌, ◌++◌, ◌+◌, ℕ, suc, List, [], Bool, true, false, ◌&&◌, ◌==◌, cond, is_some, length, take, count_by, slice_get, Option, None, Some, Contains}
use Rattle.casper_words.specs.Crew.{IsClient, has_member}
use Rattle.casper_space.specs.declared.answer.Answer.{Answer}
use Rattle.casper_space.specs.declared.answer.Answer.TheVariants as answer
use Rattle.casper_trail.specs.declared.item.Item.{Item}
use Rattle.casper_trail.specs.declared.item.Item.TheVariants as item
use Rattle.casper_trail.specs.declared.mark.Mark.TheVariants.{Rollback}
use Rattle.casper_trail.specs.Association.{association_of}
use Rattle.casper_trail.specs.Calls.{is_call_of}
use Rattle.casper_trail.specs.Parts.{live_entries}
use Rattle.casper_trail.specs.TrailView.{rollback_count}
use Rattle.casper_model.specs.declared.event.Event.{Event}
use Rattle.casper_model.specs.declared.event.Event.TheVariants as event
use Rattle.casper_model.specs.Client.{Client, Fallen}
use Rattle.casper_model.specs.Frozen.{is_member}
use Rattle.casper_model.specs.Outside.{Outside}
use Rattle.casper_model.specs.Shared.{Shared, client_at, fallen_at, is_live}
use Rattle.casper_model.specs.Stabilisation.{Stabilisation, is_gathering}
use Rattle.casper_model.specs.State.{State, own_at}
use Rattle.casper_model.specs.Step.{step}
use Rattle.casper_model.specs.Turn.{Turn}
use Rattle.casper_laws.specs.Additions.{noted_by, rollback_mark}
use Rattle.casper_laws.specs.AnswerLaws.{client_of}
use Rattle.casper_laws.specs.OwnLists.{is_rolled_back}
use Rattle.casper_answers.specs.Sessions.{AtEachMoment, InEachStep}

-- Which losses are carried out and which are noted, who falls, and what a client that fell is told.

-- the client whose loss a step with this event and this answer carries out, if there is one: one that vanishes or is
-- declared lost, and has not fallen, or one whose loss was noted in the stabilisation that is finished
abbrev pub carried_out : State → Event → Answer → Option ℕ
carried_out state (event.Vanish who) (answer.VanishLost mark unrecorded) = cond (is_some (fallen_at state.shared who)) None (Some who)
carried_out state (event.Lose who) (answer.LoseLost mark) = Some who
carried_out state (event.Finish lead) (answer.Undone mark) = noted_by state.shared lead
carried_out state other given = None

-- after a loss that is carried out the trail has its mark, of exactly the association. Without one it has no new rollback
abbrev pub RecordsFor : Option ℕ → List Item → List Item → Type 0
RecordsFor None before after = rollback_count after ≡ rollback_count before
RecordsFor (Some lost) before after = after ≡ before ++ rollback_mark before lost

abbrev pub RollsBackLosses : State → Event → Outside → Turn → Type 0
RollsBackLosses state event outside turn = RecordsFor (carried_out state event turn.answer) state.shared.trail turn.state.shared.trail

-- a loss that is carried out ends the stabilisation of the association alone: each other one is as it was
abbrev pub EndsOnlyItsOwn : State → Event → Outside → Turn → Type 0
EndsOnlyItsOwn state event outside turn =
    (lost : ℕ) (one : Stabilisation) → carried_out state event turn.answer ≡ Some lost → Contains state.shared.stabilisations one
    → has_member one.lead (association_of state.shared.trail lost) ≡ false → Contains turn.state.shared.stabilisations one

abbrev pub EndsItsOwn : State → Event → Outside → Turn → Type 0
EndsItsOwn state event outside turn =
    (lost : ℕ) (one : Stabilisation) → carried_out state event turn.answer ≡ Some lost → Contains turn.state.shared.stabilisations one
    → has_member one.lead (association_of state.shared.trail lost) ≡ false

-- each live member of the association is fallen after it, by its mark
abbrev pub FellsTheAssociation : State → Event → Outside → Turn → Type 0
FellsTheAssociation state event outside turn =
    (lost who : ℕ) → carried_out state event turn.answer ≡ Some lost → has_member who (association_of state.shared.trail lost) ≡ true
    → is_live turn.state.shared who ≡ true → (fallen : Fallen) × (fallen_at turn.state.shared who ≡ Some fallen) × (fallen.mark ≡ length state.shared.trail)

-- and nobody else falls
abbrev pub FellsNobodyElse : State → Event → Outside → Turn → Type 0
FellsNobodyElse state event outside turn =
    (who : ℕ) (fallen : Fallen) → fallen_at turn.state.shared who ≡ Some fallen
    → (fallen_at state.shared who ≡ Some fallen)
    ⊎ ((lost : ℕ) × (carried_out state event turn.answer ≡ Some lost) × (has_member who (association_of state.shared.trail lost) ≡ true)
    × (fallen.mark ≡ length state.shared.trail))

-- how many live reads and writes of a client stand among the first items of a trail
abbrev pub live_calls_before : List Item → ℕ → ℕ → ℕ
live_calls_before trail place who = count_by (is_call_of who) (live_entries (take place trail))

-- at a place stands a rollback that names a client, and so many live reads and writes of it were dropped there
pub record HasRollbackOf (trail : List Item) (place who dropped : ℕ) : Type 0 where
  pub lost : ℕ
  pub members : List ℕ
  pub stands : slice_get trail place ≡ Some (item.Mark (Rollback lost members))
  pub member : has_member who members ≡ true
  pub count : live_calls_before trail place who ≡ dropped + live_calls_before trail (suc place) who

-- what is known of each fallen client is true
abbrev pub FallenAreMarked : State → Type 0
FallenAreMarked state = (who : ℕ) (fallen : Fallen) → fallen_at state.shared who ≡ Some fallen → HasRollbackOf state.shared.trail fallen.mark who fallen.dropped

-- a client that is told that it fell had fallen, by the mark that it is told, with the numbers that it is told
abbrev pub TellsTrueFalls : State → Event → Outside → Turn → Type 0
TellsTrueFalls state event outside turn =
    (who mark recorded unrecorded : ℕ) → client_of event ≡ Some who → turn.answer ≡ answer.RolledBack mark recorded unrecorded
    → HasRollbackOf state.shared.trail mark who recorded × (unrecorded ≡ length (own_at state who).pending)
    × ((fallen : Fallen) × (fallen_at state.shared who ≡ Some fallen) × (fallen.mark ≡ mark) × (fallen.dropped ≡ recorded))

-- a client that is up again: it is live with nothing held, asked, kept or pending, and not fallen
pub record IsUpAgain (state : State) (who : ℕ) : Type 0 where
  pub client : Client
  pub live : client_at state.shared who ≡ Some client
  pub up : client.fallen ≡ None
  pub nothing_kept : client.kept ≡ None
  pub no_rights : client.rights ≡ []
  pub no_asks : client.asks ≡ []
  pub nothing_held : (own_at state who).held ≡ []
  pub nothing_pending : (own_at state who).pending ≡ []

abbrev pub UpOnceTold : State → Event → Outside → Turn → Type 0
UpOnceTold state event outside turn = (who : ℕ) → client_of event ≡ Some who → is_rolled_back turn.answer ≡ true → IsUpAgain turn.state who

-- a turn of a client that is fallen tells it so
abbrev pub TellsTheFallen : State → Type 0
TellsTheFallen state =
    (who : ℕ) (fallen : Fallen) (outside : Outside) → IsClient who → fallen_at state.shared who ≡ Some fallen
    → (is_rolled_back (step state (event.Serve who) outside).answer ≡ true) × (is_rolled_back (step state (event.Stabilise who) outside).answer ≡ true)
    × (is_rolled_back (step state (event.Depart who) outside).answer ≡ true)

-- whether a step notes the loss of this client for the association of this lead
abbrev pub is_noted_by : Event → Answer → ℕ → ℕ → Bool
is_noted_by (event.Vanish who) (answer.VanishNoted lead unrecorded) lost one = (who == lost) && (lead == one)
is_noted_by (event.Lose who) (answer.LoseNoted lead) lost one = (who == lost) && (lead == one)
is_noted_by other given lost one = false

-- the stabilisation of a lead has a loss noted
abbrev pub HasNoted : Shared → ℕ → Option ℕ → Type 0
HasNoted shared lead noted = (one : Stabilisation) × Contains shared.stabilisations one × (one.lead ≡ lead) × (one.noted ≡ noted)

-- a loss is noted only where it was so before, or none was and it is declared in this step
abbrev pub NotesDeclaredLosses : State → Event → Outside → Turn → Type 0
NotesDeclaredLosses state event outside turn =
    (one : Stabilisation) (lost : ℕ) → Contains turn.state.shared.stabilisations one → one.noted ≡ Some lost
    → HasNoted state.shared one.lead (Some lost) ⊎ (HasNoted state.shared one.lead None × (is_noted_by event turn.answer lost one.lead ≡ true))

-- a loss that is noted stays so while the stabilisation lasts: the first counts
abbrev pub KeepsTheFirstNote : State → Event → Outside → Turn → Type 0
KeepsTheFirstNote state event outside turn =
    (one after : Stabilisation) (lost : ℕ) → Contains state.shared.stabilisations one → one.noted ≡ Some lost → Contains turn.state.shared.stabilisations after
    → after.lead ≡ one.lead → after.noted ≡ Some lost

-- a loss that is answered to be noted is noted, or another was before
abbrev pub NotesWhatItSays : State → Event → Outside → Turn → Type 0
NotesWhatItSays state event outside turn =
    (lost lead : ℕ) → is_noted_by event turn.answer lost lead ≡ true
    → (after : Stabilisation) × Contains turn.state.shared.stabilisations after × (after.lead ≡ lead) × (is_some after.noted ≡ true)

-- while a stabilisation gathers, no loss is noted in it
abbrev pub GatheringHasNoNote : State → Type 0
GatheringHasNoNote state = (one : Stabilisation) → Contains state.shared.stabilisations one → is_gathering one.phase ≡ true → one.noted ≡ None

-- a client is a member of a stabilisation of this lead that is sealed or in doubt
abbrev pub IsBeingWritten : Shared → ℕ → ℕ → Type 0
IsBeingWritten shared who lead =
    (one : Stabilisation) × Contains shared.stabilisations one × (one.lead ≡ lead) × (is_member shared who one ≡ true) × (is_gathering one.phase ≡ false)

-- the place that is answered where a client vanished: that of its mark, which is new unless it had fallen
abbrev pub place_of_fall : Shared → Option Fallen → ℕ
place_of_fall shared None = length shared.trail
place_of_fall shared (Some fallen) = fallen.mark

-- what is answered of a client that vanishes: the place of its mark, or the lead for which its loss is noted, and how many
-- calls it had pending
abbrev pub TellsVanishing : State → Type 0
TellsVanishing state =
    (who : ℕ) (outside : Outside) → IsClient who
    → ((mark unrecorded : ℕ) → (step state (event.Vanish who) outside).answer ≡ answer.VanishLost mark unrecorded
    → (mark ≡ place_of_fall state.shared (fallen_at state.shared who)) × (unrecorded ≡ length (own_at state who).pending))
    × ((lead unrecorded : ℕ) → (step state (event.Vanish who) outside).answer ≡ answer.VanishNoted lead unrecorded
    → IsBeingWritten state.shared who lead × (fallen_at state.shared who ≡ None) × (unrecorded ≡ length (own_at state who).pending))

-- what is answered where a client is declared lost: the place of the new mark, the lead for which its loss is noted, or
-- the place of the mark by which it had fallen
abbrev pub TellsLosses : State → Type 0
TellsLosses state =
    (who : ℕ) (outside : Outside) → IsClient who
    → ((mark : ℕ) → (step state (event.Lose who) outside).answer ≡ answer.LoseLost mark → (mark ≡ length state.shared.trail) × (fallen_at state.shared who ≡ None))
    × ((lead : ℕ) → (step state (event.Lose who) outside).answer ≡ answer.LoseNoted lead → IsBeingWritten state.shared who lead × (fallen_at state.shared who ≡ None))
    × ((mark : ℕ) → (step state (event.Lose who) outside).answer ≡ answer.Already mark
    → (fallen : Fallen) × (fallen_at state.shared who ≡ Some fallen) × (fallen.mark ≡ mark))

-- so it is in each step and at each moment of every session
abbrev pub EachRollbackIsOfALoss : Type 0
EachRollbackIsOfALoss = InEachStep RollsBackLosses

abbrev pub EachLossSparesTheOthers : Type 0
EachLossSparesTheOthers = InEachStep EndsOnlyItsOwn

abbrev pub EachLossEndsItsOwn : Type 0
EachLossEndsItsOwn = InEachStep EndsItsOwn

abbrev pub EachLossFellsItsAssociation : Type 0
EachLossFellsItsAssociation = InEachStep FellsTheAssociation

abbrev pub EachFallIsOfALoss : Type 0
EachFallIsOfALoss = InEachStep FellsNobodyElse

abbrev pub EachFallenClientIsMarked : Type 0
EachFallenClientIsMarked = AtEachMoment FallenAreMarked

abbrev pub EachToldFallIsTrue : Type 0
EachToldFallIsTrue = InEachStep TellsTrueFalls

abbrev pub EachToldClientIsUp : Type 0
EachToldClientIsUp = InEachStep UpOnceTold

abbrev pub EachFallenClientIsTold : Type 0
EachFallenClientIsTold = AtEachMoment TellsTheFallen

abbrev pub EachNoteIsOfALoss : Type 0
EachNoteIsOfALoss = InEachStep NotesDeclaredLosses

abbrev pub EachFirstNoteStays : Type 0
EachFirstNoteStays = InEachStep KeepsTheFirstNote

abbrev pub EachAnsweredNoteIsMade : Type 0
EachAnsweredNoteIsMade = InEachStep NotesWhatItSays

abbrev pub NoGatheringHasANote : Type 0
NoGatheringHasANote = AtEachMoment GatheringHasNoNote

abbrev pub EachVanishingIsToldTruly : Type 0
EachVanishingIsToldTruly = AtEachMoment TellsVanishing

abbrev pub EachLossIsToldTruly : Type 0
EachLossIsToldTruly = AtEachMoment TellsLosses
