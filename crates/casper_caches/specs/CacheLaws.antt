use Rattle.std.specs.Prelude.{◌≡◌, ◌≢◌, ◌<◌, ◌-◌, ℕ, List, [], ◌∷◌, Bool, true, false, not, map, filter, take, reverse, length, Contains}
use Rattle.casper_words.specs.Crew.{IsClient, has_member}
use Rattle.casper_words.specs.declared.page.Right.{Right}
use Rattle.casper_words.specs.declared.page.Right.TheVariants as may
use Rattle.casper_words.specs.declared.page.Want.{Want}
use Rattle.casper_space.specs.declared.answer.Answer.{Answer}
use Rattle.casper_space.specs.declared.answer.Answer.TheVariants as answer
use Rattle.casper_trail.specs.Association.{association_of}
use Rattle.casper_model.specs.declared.event.Event.TheVariants as event
use Rattle.casper_model.specs.CallStep.{acquire_step}
use Rattle.casper_model.specs.Held.{is_of, holds, allows}
use Rattle.casper_model.specs.Opening.{opened}
use Rattle.casper_model.specs.Outside.{Outside}
use Rattle.casper_model.specs.Own.{room_of}
use Rattle.casper_model.specs.Shared.{asks_at}
use Rattle.casper_model.specs.Stabilisation.{Stabilisation, is_gathering}
use Rattle.casper_model.specs.State.{State, own_at}
use Rattle.casper_model.specs.Step.{step}
use Rattle.casper_laws.specs.OwnLists.{IsStanding}
use Rattle.casper_laws.specs.RunFacts.{AtEveryMoment}

-- What hits, openings and grants leave of a cache: a list of held pages, the last used first.

abbrev pub pages_of : List Want → List ℕ
pages_of held = map (λ want. want.page) held

-- the held pages that are not wanted, in their order
abbrev pub others : List Want → List Want → List Want
others wants held = filter (λ want. not (holds wants want.page)) held

-- a page comes first, and the others are as they were, in their order
abbrev pub ComesFirst : ℕ → List Want → List Want → Type 0
ComesFirst page before after =
    (take 1 (pages_of after) ≡ page ∷ []) × (filter (λ want. not (is_of page want)) after ≡ filter (λ want. not (is_of page want)) before)

-- so it is after a call over a page that is held
abbrev pub HitsComeFirst : State → Type 0
HitsComeFirst state =
    (who page word value : ℕ) (outside : Outside) → IsClient who → page < state.shared.pages → word < 512 → 0 < room_of (own_at state who)
    → (allows (own_at state who).held page may.Read ≡ true → ComesFirst page (own_at state who).held (own_at (step state (event.Read who page word) outside).state who).held)
    × (allows (own_at state who).held page may.Write ≡ true
    → ComesFirst page (own_at state who).held (own_at (step state (event.Write who page word value) outside).state who).held)

-- what the opening of a turn leaves of the pages that its client held, where it has not fallen
abbrev pub left_by_opening : State → ℕ → List Want
left_by_opening state who = (opened state.shared (own_at state who)).own.held

-- a fact of what an opening leaves
abbrev pub AfterOpening : (State → ℕ → Type 0) → Type 0
AfterOpening Fact = AtEveryMoment (λ state. (who : ℕ) → IsClient who → IsStanding state who → Fact state who)

-- nobody else asks for a page, to read it at least or to write it
abbrev pub NobodyElseAsks : State → ℕ → ℕ → Right → Type 0
NobodyElseAsks state who page right = (other : ℕ) → IsClient other → other ≢ who → allows (asks_at state.shared other) page right ≡ false

-- a client does not hand its pages in: no association that gathers has it as a member, once its calls are recorded
abbrev pub HandsNothingIn : State → ℕ → Type 0
HandsNothingIn state who =
    (one : Stabilisation) → Contains state.shared.stabilisations one → is_gathering one.phase ≡ true
    → has_member who (association_of (opened state.shared (own_at state who)).shared.trail one.lead) ≡ false

-- the pages that stay are in their order
abbrev pub KeepsTheOrder : State → ℕ → Type 0
KeepsTheOrder state who = (stays : Want → Bool) × (pages_of (left_by_opening state who) ≡ pages_of (filter stays (own_at state who).held))

-- no page and no right comes in
abbrev pub GainsNothing : State → ℕ → Type 0
GainsNothing state who =
    (page : ℕ) (right : Right) → allows (left_by_opening state who) page right ≡ true → allows (own_at state who).held page right ≡ true

-- a page that nobody else asks for stays with its right, where none is handed in
abbrev pub KeepsTheUnasked : State → ℕ → Type 0
KeepsTheUnasked state who =
    HandsNothingIn state who → (page : ℕ) (right : Right) → NobodyElseAsks state who page may.Read → allows (own_at state who).held page right ≡ true
    → allows (left_by_opening state who) page right ≡ true

-- a page that nobody else asks to write stays for reading at least
abbrev pub KeepsToRead : State → ℕ → Type 0
KeepsToRead state who =
    (page : ℕ) → NobodyElseAsks state who page may.Write → allows (own_at state who).held page may.Read ≡ true
    → allows (left_by_opening state who) page may.Read ≡ true

-- a serve leaves what its opening does
abbrev pub ServesByOpening : State → ℕ → Type 0
ServesByOpening state who = (outside : Outside) → (own_at (step state (event.Serve who) outside).state who).held ≡ left_by_opening state who

-- the answers of an acquire that opened and was refused
abbrev pub is_refused : Answer → Bool
is_refused answer.InDoubt = true
is_refused (answer.Frozen lead) = true
is_refused (answer.Pending blockers) = true
is_refused (answer.TrailFull entries) = true
is_refused other = false

-- and so does such an acquire
abbrev pub RefusalsOnlyOpen : State → ℕ → Type 0
RefusalsOnlyOpen state who =
    (wants : List Want) (calls : ℕ) (outside : Outside) → is_refused (acquire_step state who wants calls outside).answer ≡ true
    → (own_at (acquire_step state who wants calls outside).state who).held ≡ left_by_opening state who

-- a fact of a granted acquire: of what was wanted, of what its opening left, and of what is held after it
abbrev pub AfterGrant : (State → ℕ → List Want → List Want → Type 0) → Type 0
AfterGrant Fact =
    AtEveryMoment (λ state. (who : ℕ) (wants : List Want) (calls : ℕ) (outside : Outside) → IsClient who
    → (acquire_step state who wants calls outside).answer ≡ answer.Granted
    → Fact state who wants (own_at (acquire_step state who wants calls outside).state who).held)

-- its pages stand in front, the last of them first
abbrev pub PutsItsPagesFirst : State → ℕ → List Want → List Want → Type 0
PutsItsPagesFirst state who wants after = take (length wants) (pages_of after) ≡ reverse (pages_of wants)

-- of the others those stay that were used last, as many as the cache has room for beside the wanted ones
abbrev pub GivesUpTheOldest : State → ℕ → List Want → List Want → Type 0
GivesUpTheOldest state who wants after =
    others wants after ≡ take ((own_at state who).capacity - length wants) (others wants (left_by_opening state who))

abbrev pub EachHitComesFirst : Type 0
EachHitComesFirst = AtEveryMoment HitsComeFirst

abbrev pub EachOpeningKeepsTheOrder : Type 0
EachOpeningKeepsTheOrder = AfterOpening KeepsTheOrder

abbrev pub EachOpeningGainsNothing : Type 0
EachOpeningGainsNothing = AfterOpening GainsNothing

abbrev pub EachOpeningKeepsTheUnasked : Type 0
EachOpeningKeepsTheUnasked = AfterOpening KeepsTheUnasked

abbrev pub EachOpeningKeepsToRead : Type 0
EachOpeningKeepsToRead = AfterOpening KeepsToRead

abbrev pub EachServeOnlyOpens : Type 0
EachServeOnlyOpens = AfterOpening ServesByOpening

abbrev pub EachRefusedAcquireOnlyOpens : Type 0
EachRefusedAcquireOnlyOpens = AfterOpening RefusalsOnlyOpen

abbrev pub EachGrantPutsItsPagesFirst : Type 0
EachGrantPutsItsPagesFirst = AfterGrant PutsItsPagesFirst

abbrev pub EachGrantGivesUpTheOldest : Type 0
EachGrantGivesUpTheOldest = AfterGrant GivesUpTheOldest
