use Rattle.std.specs.Prelude.{◌≡◌, ◌≢◌, ℕ, List, true, false, length, min, Some, Contains}
use Rattle.casper_words.specs.Crew.{IsClient}
use Rattle.casper_space.specs.declared.answer.Answer.TheVariants as answer
use Rattle.casper_trail.specs.Association.{association_of}
use Rattle.casper_trail.specs.TrailView.{entry_count}
use Rattle.casper_model.specs.declared.event.Event.TheVariants as event
use Rattle.casper_model.specs.Client.{new_client}
use Rattle.casper_model.specs.Frozen.{is_member, pages_modified_by}
use Rattle.casper_model.specs.Outside.{Outside}
use Rattle.casper_model.specs.Room.{free_room, most_cap}
use Rattle.casper_model.specs.Shared.{Shared, client_at, is_live}
use Rattle.casper_model.specs.Stabilisation.{Stabilisation, is_gathering, is_sealed, is_doubtful}
use Rattle.casper_model.specs.State.{State, own_at}
use Rattle.casper_model.specs.Step.{step}
use Rattle.casper_answers.specs.Sessions.{AtEachMoment}

-- Why a stabilise or a join is answered so.

-- a stabilisation that a client is a member of is in this phase
abbrev pub BelongsTo : (Stabilisation → Type 0) → Shared → ℕ → Type 0
BelongsTo Is shared who = (one : Stabilisation) × Contains shared.stabilisations one × (is_member shared who one ≡ true) × Is one

-- gathering: after the turn the association of the client gathers, and awaits exactly these
abbrev pub GatheringHasItsCause : State → Type 0
GatheringHasItsCause state =
    (who : ℕ) (awaited : List ℕ) (outside : Outside) → IsClient who → (step state (event.Stabilise who) outside).answer ≡ answer.Gathering awaited
    → BelongsTo (λ one. (is_gathering one.phase ≡ true) × (one.awaited ≡ awaited)) (step state (event.Stabilise who) outside).state.shared who

-- sealed: the turn froze the association of the client with it as the lead, and nobody has to hand in a page. So many
-- pages are modified in it
abbrev pub SealedHasItsCause : State → Type 0
SealedHasItsCause state =
    (who pages : ℕ) (outside : Outside) → IsClient who → (step state (event.Stabilise who) outside).answer ≡ answer.Sealed pages
    → BelongsTo (λ one. (is_sealed one.phase ≡ true) × (one.lead ≡ who)
    × (pages ≡ length (pages_modified_by (step state (event.Stabilise who) outside).state.shared.trail
    (association_of (step state (event.Stabilise who) outside).state.shared.trail who))))
    (step state (event.Stabilise who) outside).state.shared who

-- doing, and in doubt: the association of the client is sealed, or in doubt, and this is its lead
abbrev pub DoingHasItsCause : State → Type 0
DoingHasItsCause state =
    (who lead : ℕ) (outside : Outside) → IsClient who
    → ((step state (event.Stabilise who) outside).answer ≡ answer.Doing lead
    → BelongsTo (λ one. (is_sealed one.phase ≡ true) × (one.lead ≡ lead)) (step state (event.Stabilise who) outside).state.shared who)
    × ((step state (event.Stabilise who) outside).answer ≡ answer.Doubtful lead
    → BelongsTo (λ one. (is_doubtful one.phase ≡ true) × (one.lead ≡ lead)) (step state (event.Stabilise who) outside).state.shared who)

-- a join that is refused for want of room tells the entries, and all the rest of the room is promised
abbrev pub FullJoinHasItsCause : State → Type 0
FullJoinHasItsCause state =
    (who entries : ℕ) (outside : Outside) → IsClient who → (step state (event.Join who) outside).answer ≡ answer.TrailFull entries
    → (entries ≡ entry_count state.shared.trail) × (free_room state.shared ≡ 0)

-- where there is room, an absent client has joined after its join: it is live, with the most entries promised to it, or as
-- many as there is room for
abbrev pub JoinsWhereThereIsRoom : State → Type 0
JoinsWhereThereIsRoom state =
    (who : ℕ) (outside : Outside) → IsClient who → is_live state.shared who ≡ false → free_room state.shared ≢ 0
    → ((step state (event.Join who) outside).answer ≡ answer.Joined)
    × (client_at (step state (event.Join who) outside).state.shared who ≡ Some (new_client (min most_cap (free_room state.shared))))
    × ((own_at (step state (event.Join who) outside).state who).cap ≡ min most_cap (free_room state.shared))

abbrev pub EachGatheringHasItsCause : Type 0
EachGatheringHasItsCause = AtEachMoment GatheringHasItsCause

abbrev pub EachSealedHasItsCause : Type 0
EachSealedHasItsCause = AtEachMoment SealedHasItsCause

abbrev pub EachDoingHasItsCause : Type 0
EachDoingHasItsCause = AtEachMoment DoingHasItsCause

abbrev pub EachFullJoinHasItsCause : Type 0
EachFullJoinHasItsCause = AtEachMoment FullJoinHasItsCause

abbrev pub EachJoinsWhereThereIsRoom : Type 0
EachJoinsWhereThereIsRoom = AtEachMoment JoinsWhereThereIsRoom
