use Rattle.std.specs.Prelude.{◌≡◌, ◌≢◌, ◌⊎◌, ◌+◌, ◌<◌, ◌≤◌, ℕ, List, [], Bool, true, false, length, None, Contains}
use Rattle.casper_words.specs.Crew.{IsClient, has_member}
use Rattle.casper_words.specs.declared.page.Want.{Want}
use Rattle.casper_space.specs.declared.answer.Answer.{Answer}
use Rattle.casper_space.specs.declared.answer.Answer.TheVariants as answer
use Rattle.casper_trail.specs.TrailView.{entry_count}
use Rattle.casper_model.specs.Acquire.{blocks}
use Rattle.casper_model.specs.CallStep.{acquire_step}
use Rattle.casper_model.specs.Frozen.{is_member, is_modified_in}
use Rattle.casper_model.specs.Held.{missing_of}
use Rattle.casper_model.specs.Opening.{opened, given_in_opening}
use Rattle.casper_model.specs.Outside.{Outside, is_load_failed}
use Rattle.casper_model.specs.Shared.{is_live, fallen_at}
use Rattle.casper_model.specs.Stabilisation.{Stabilisation, is_doubtful}
use Rattle.casper_model.specs.State.{State, own_at, with_own, with_shared}
use Rattle.casper_answers.specs.Sessions.{AtEachMoment}

-- Why an acquire, also the one of a read or a write that is no hit, is answered so. A refused acquire has opened, and
-- changes nothing more but asks. So its causes are seen after it.

-- the wants that a client lacks after a refused acquire
abbrev pub lacking : State → ℕ → List Want → List Want
lacking state who wants = missing_of (own_at state who).held wants

-- a stabilisation touches a client, or a page that it lacks
abbrev pub Touches : State → ℕ → List Want → Stabilisation → Type 0
Touches state who wants one =
    (is_member state.shared who one ≡ true) ⊎ ((want : Want) × Contains (lacking state who wants) want × (is_modified_in state.shared want.page one ≡ true))

-- one of these stabilisations does
abbrev pub IsTouchedByOne : (Stabilisation → Type 0) → State → ℕ → List Want → Type 0
IsTouchedByOne Is state who wants =
    (one : Stabilisation) × Contains state.shared.stabilisations one × Is one × Touches state who wants one

abbrev pub IsInDoubt : Stabilisation → Type 0
IsInDoubt one = is_doubtful one.phase ≡ true

abbrev pub IsFrozenBy : ℕ → Stabilisation → Type 0
IsFrozenBy lead one = (is_doubtful one.phase ≡ false) × (one.lead ≡ lead)

-- another client stands in the way of a page that is lacked
abbrev pub StandsInTheWay : State → State → ℕ → List Want → ℕ → Type 0
StandsInTheWay before after who wants other =
    (want : Want) × Contains (lacking after who wants) want × (blocks after.shared who (given_in_opening before.shared (own_at before who)) want other ≡ true)

-- in doubt: something is lacked, and the client or a lacked page belongs to an association in doubt
abbrev pub InDoubtHasItsCause : State → Type 0
InDoubtHasItsCause state =
    (who : ℕ) (wants : List Want) (calls : ℕ) (outside : Outside) → IsClient who → is_live state.shared who ≡ true
    → (acquire_step state who wants calls outside).answer ≡ answer.InDoubt
    → (lacking (acquire_step state who wants calls outside).state who wants ≢ [])
    × IsTouchedByOne IsInDoubt (acquire_step state who wants calls outside).state who wants

-- frozen: nothing of this is in doubt, and the association of this lead is frozen
abbrev pub FrozenHasItsCause : State → Type 0
FrozenHasItsCause state =
    (who lead : ℕ) (wants : List Want) (calls : ℕ) (outside : Outside) → IsClient who → is_live state.shared who ≡ true
    → (acquire_step state who wants calls outside).answer ≡ answer.Frozen lead
    → (IsTouchedByOne IsInDoubt (acquire_step state who wants calls outside).state who wants → ⊥)
    × IsTouchedByOne (IsFrozenBy lead) (acquire_step state who wants calls outside).state who wants

-- pending: nothing is in doubt or frozen, and exactly those are named that stand in the way, one at least
abbrev pub PendingHasItsCause : State → Type 0
PendingHasItsCause state =
    (who : ℕ) (blockers : List ℕ) (wants : List Want) (calls : ℕ) (outside : Outside) → IsClient who → is_live state.shared who ≡ true
    → (acquire_step state who wants calls outside).answer ≡ answer.Pending blockers
    → (IsTouchedByOne IsInDoubt (acquire_step state who wants calls outside).state who wants → ⊥)
    × ((lead : ℕ) → IsTouchedByOne (IsFrozenBy lead) (acquire_step state who wants calls outside).state who wants → ⊥)
    × (blockers ≢ [])
    × ((other : ℕ) → has_member other blockers ≡ true → StandsInTheWay state (acquire_step state who wants calls outside).state who wants other)
    × ((other : ℕ) → IsClient other → StandsInTheWay state (acquire_step state who wants calls outside).state who wants other → has_member other blockers ≡ true)

-- trail full: the entries of the trail, and what is promised to the client is too little for a touch of each page that it
-- lacks and for the calls
abbrev pub TrailFullHasItsCause : State → Type 0
TrailFullHasItsCause state =
    (who entries : ℕ) (wants : List Want) (calls : ℕ) (outside : Outside) → IsClient who → is_live state.shared who ≡ true
    → (acquire_step state who wants calls outside).answer ≡ answer.TrailFull entries
    → (entries ≡ entry_count (acquire_step state who wants calls outside).state.shared.trail)
    × ((own_at (acquire_step state who wants calls outside).state who).cap < length (lacking (acquire_step state who wants calls outside).state who wants) + calls)

-- a failed disk only where a page could not be read
abbrev pub DiskHasItsCause : State → Type 0
DiskHasItsCause state =
    (who : ℕ) (wants : List Want) (calls : ℕ) (outside : Outside) → IsClient who → is_live state.shared who ≡ true
    → (acquire_step state who wants calls outside).answer ≡ answer.Disk → is_load_failed outside ≡ true

-- the answer is one of these causes or that the client fell. So where nothing hinders, the pages are granted
abbrev pub is_cause : Answer → Bool
is_cause (answer.RolledBack mark recorded unrecorded) = true
is_cause answer.InDoubt = true
is_cause (answer.Frozen lead) = true
is_cause (answer.Pending blockers) = true
is_cause (answer.TrailFull entries) = true
is_cause answer.Disk = true
is_cause other = false

abbrev pub GrantedWhereNothingHinders : State → Type 0
GrantedWhereNothingHinders state =
    (who : ℕ) (wants : List Want) (calls : ℕ) (outside : Outside) → IsClient who → is_live state.shared who ≡ true
    → is_cause (acquire_step state who wants calls outside).answer ≡ false → (acquire_step state who wants calls outside).answer ≡ answer.Granted

-- a state once a client's turn has opened in it
abbrev pub once_opened : State → ℕ → State
once_opened state who =
    let both = opened state.shared (own_at state who) in
    with_own (with_shared state both.shared) both.own

-- none of what a client lacks is held up: by a doubt, by a frozen association, or by another client
pub record NothingStandsInTheWay (before after : State) (who : ℕ) (wants : List Want) : Type 0 where
  pub sure : IsTouchedByOne IsInDoubt after who wants → ⊥
  pub thawed : (lead : ℕ) → IsTouchedByOne (IsFrozenBy lead) after who wants → ⊥
  pub clear : (other : ℕ) → IsClient other → StandsInTheWay before after who wants other → ⊥

-- nothing hinders an acquire: its client has not fallen, it lacks nothing once it has opened or nothing stands in the way,
-- and there is room for a touch of each page that it lacks and for the calls
pub record NothingHinders (state : State) (who : ℕ) (wants : List Want) (calls : ℕ) : Type 0 where
  pub up : fallen_at state.shared who ≡ None
  pub pages : (lacking (once_opened state who) who wants ≡ []) ⊎ NothingStandsInTheWay state (once_opened state who) who wants
  pub room : length (lacking (once_opened state who) who wants) + calls ≤ (own_at (once_opened state who) who).cap

-- such an acquire is granted where no page fails to be read
abbrev pub GrantsTheFree : State → Type 0
GrantsTheFree state =
    (who : ℕ) (wants : List Want) (calls : ℕ) (outside : Outside) → IsClient who → is_live state.shared who ≡ true
    → NothingHinders state who wants calls → is_load_failed outside ≡ false → (acquire_step state who wants calls outside).answer ≡ answer.Granted

-- and no other is
abbrev pub GrantsOnlyTheFree : State → Type 0
GrantsOnlyTheFree state =
    (who : ℕ) (wants : List Want) (calls : ℕ) (outside : Outside) → IsClient who → is_live state.shared who ≡ true
    → (acquire_step state who wants calls outside).answer ≡ answer.Granted → NothingHinders state who wants calls

abbrev pub EachInDoubtHasItsCause : Type 0
EachInDoubtHasItsCause = AtEachMoment InDoubtHasItsCause

abbrev pub EachFrozenHasItsCause : Type 0
EachFrozenHasItsCause = AtEachMoment FrozenHasItsCause

abbrev pub EachPendingHasItsCause : Type 0
EachPendingHasItsCause = AtEachMoment PendingHasItsCause

abbrev pub EachTrailFullHasItsCause : Type 0
EachTrailFullHasItsCause = AtEachMoment TrailFullHasItsCause

abbrev pub EachDiskHasItsCause : Type 0
EachDiskHasItsCause = AtEachMoment DiskHasItsCause

abbrev pub EachIsGrantedWhereNothingHinders : Type 0
EachIsGrantedWhereNothingHinders = AtEachMoment GrantedWhereNothingHinders

abbrev pub EachFreeAcquireIsGranted : Type 0
EachFreeAcquireIsGranted = AtEachMoment GrantsTheFree

abbrev pub EachGrantIsOfTheFree : Type 0
EachGrantIsOfTheFree = AtEachMoment GrantsOnlyTheFree
