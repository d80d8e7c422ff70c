use Rattle.std.specs.Prelude.{◌≡◌, ◌⊎◌, ℕ, Bool, true, false, ◌&&◌, not, Some, Contains}
use Rattle.casper_words.specs.Crew.{has_member}
use Rattle.casper_space.specs.declared.answer.Answer.TheVariants as answer
use Rattle.casper_trail.specs.Association.{association_of}
use Rattle.casper_model.specs.declared.event.Event.{Event}
use Rattle.casper_model.specs.declared.event.Event.TheVariants as event
use Rattle.casper_model.specs.Frozen.{is_member}
use Rattle.casper_model.specs.Outside.{Outside}
use Rattle.casper_model.specs.Shared.{Shared}
use Rattle.casper_model.specs.Stabilisation.{Stabilisation, is_gathering, is_sealed, is_doubtful, is_empty}
use Rattle.casper_model.specs.State.{State}
use Rattle.casper_model.specs.Turn.{Turn}
use Rattle.casper_answers.specs.Sessions.{AtEachMoment, InEachStep}
use Rattle.casper_answers.specs.Acknowledgement.{tells_outcome, may_end}
use Rattle.casper_answers.specs.Losses.{carried_out}

-- The life of a stabilisation: how it begins, goes on and ends.

-- a lead has a stabilisation in this phase
abbrev pub LeadsOne : Shared → ℕ → Type 0
LeadsOne shared lead = (one : Stabilisation) × Contains shared.stabilisations one × (one.lead ≡ lead)

-- a stabilisation goes on, unless a finish or a settle ends it with an outcome, or a loss is carried out in its association
abbrev pub EndsOnlySo : State → Event → Outside → Turn → Type 0
EndsOnlySo state event outside turn =
    (one : Stabilisation) → Contains state.shared.stabilisations one
    → LeadsOne turn.state.shared one.lead
    ⊎ (((may_end event one && tells_outcome turn.answer) ≡ true)
    ⊎ ((lost : ℕ) × (carried_out state event turn.answer ≡ Some lost) × (has_member one.lead (association_of state.shared.trail lost) ≡ true)))

-- a member of a stabilisation that goes on stays a member
abbrev pub KeepsMembers : State → Event → Outside → Turn → Type 0
KeepsMembers state event outside turn =
    (who : ℕ) (one after : Stabilisation) → Contains state.shared.stabilisations one → Contains turn.state.shared.stabilisations after → after.lead ≡ one.lead
    → is_member state.shared who one ≡ true → is_member turn.state.shared who after ≡ true

-- what is sealed stays sealed, or its write-out ended in doubt
abbrev pub StaysSealed : State → Event → Outside → Turn → Type 0
StaysSealed state event outside turn =
    (one after : Stabilisation) → Contains state.shared.stabilisations one → is_sealed one.phase ≡ true → Contains turn.state.shared.stabilisations after
    → after.lead ≡ one.lead
    → (is_sealed after.phase ≡ true) ⊎ ((may_end event one ≡ true) × (turn.answer ≡ answer.InDoubt) × (is_doubtful after.phase ≡ true))

abbrev pub is_settle : Event → Bool
is_settle event.Settle = true
is_settle other = false

-- a doubt stands until a settle answers the commit
abbrev pub StaysInDoubt : State → Event → Outside → Turn → Type 0
StaysInDoubt state event outside turn =
    (one : Stabilisation) → Contains state.shared.stabilisations one → is_doubtful one.phase ≡ true
    → ((after : Stabilisation) × Contains turn.state.shared.stabilisations after × (after.lead ≡ one.lead) × (is_doubtful after.phase ≡ true))
    ⊎ ((is_settle event ≡ true) × ((place : ℕ) × (turn.answer ≡ answer.Commit place)))

-- those that a stabilisation awaits are members, and it gathers exactly while it awaits somebody
abbrev pub AwaitsMembers : State → Type 0
AwaitsMembers state =
    (one : Stabilisation) (who : ℕ) → Contains state.shared.stabilisations one → has_member who one.awaited ≡ true → is_member state.shared who one ≡ true

abbrev pub GathersWhileAwaiting : State → Type 0
GathersWhileAwaiting state = (one : Stabilisation) → Contains state.shared.stabilisations one → is_gathering one.phase ≡ not (is_empty one.awaited)

-- so it is in each step and at each moment of every session
abbrev pub EachStabilisationEndsOnlySo : Type 0
EachStabilisationEndsOnlySo = InEachStep EndsOnlySo

abbrev pub EachMemberStays : Type 0
EachMemberStays = InEachStep KeepsMembers

abbrev pub EachSealedOneStaysSo : Type 0
EachSealedOneStaysSo = InEachStep StaysSealed

abbrev pub EachDoubtStands : Type 0
EachDoubtStands = InEachStep StaysInDoubt

abbrev pub EachAwaitedOneIsAMember : Type 0
EachAwaitedOneIsAMember = AtEachMoment AwaitsMembers

abbrev pub EachGatheringAwaits : Type 0
EachGatheringAwaits = AtEachMoment GathersWhileAwaiting
