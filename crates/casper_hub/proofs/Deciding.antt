use Rattle.std.proofs.Common.{◌≡◌, ℕ, ◌+◌, ◌<◌, ◌≤◌, Bool, true, false, cond, nat_lt, ◌&&◌, ◌||◌, List, [], ◌∷◌, ◌++◌, Option, Some, None, length, append_assoc, drop, get_or, refl, sym, ap, ◌∙◌, subst, arith}
use Rattle.std.specs.List.{list_any, filter, Contains}
use Rattle.std.proofs.lemmas.List.{drop_more}
use Rattle.std.proofs.lemmas.List.Elements.{Contains-get_or}
use Rattle.casper_words.specs.declared.page.Right.{Right}
use Rattle.casper_words.specs.declared.page.Right.TheVariants as may
use Rattle.casper_words.specs.declared.page.Want.{Want}
use Rattle.casper_words.specs.Crew.{clients, crew_of, has_member}
use Rattle.casper_words.proofs.CrewLemmas.{has_member_crew_of, crew_of_same}
use Rattle.casper_model.specs.Stabilisation.{is_empty}
use Rattle.casper_hub.specs.declared.decide.Decision.TheVariants as decision
use Rattle.casper_hub.specs.HubView.{PagesView, ClientView}
use Rattle.casper_hub.specs.Given.{met}
use Rattle.casper_hub.specs.Deciding.{missing_in, blockers_in, blocked_in, unframed_in, granted_or_load, decision_for}

-- what is read at a place of a list is in it
pub read_within : {X : Type 0} (xs : List X) (i : ℕ) (x : X) → i < length xs → x ≡ get_or xs i x → Contains xs x
read_within xs i x within read = subst (λ y. Contains xs y) (sym read) (Contains-get_or xs i x within)

-- what is read at a place stands before the rest
pub read_first : {X : Type 0} (xs : List X) (i : ℕ) (x : X) → i < length xs → x ≡ get_or xs i x → drop i xs ≡ x ∷ drop (i + 1) xs
read_first xs i x within read = drop_more xs i x within ∙ ap (λ y. y ∷ drop (i + 1) xs) (sym read)

-- a filter keeps something exactly where something passes
filter_some : {X : Type 0} (test : X → Bool) (xs : List X) → 0 < length (filter test xs) → list_any test xs ≡ true
filter_some test [] some = absurd (omega arith)
filter_some test (x ∷ xs) some =
    (elim (test x) as (λ b. 0 < length (cond b (x ∷ filter test xs) (filter test xs)) → (b || list_any test xs) ≡ true) [
      | true ↦ λ _. refl
      | false ↦ λ h. filter_some test xs h
    ]) some

filter_none : {X : Type 0} (test : X → Bool) (xs : List X) → length (filter test xs) ≤ 0 → list_any test xs ≡ false
filter_none test [] none = refl
filter_none test (x ∷ xs) none =
    (elim (test x) as (λ b. length (cond b (x ∷ filter test xs) (filter test xs)) ≤ 0 → (b || list_any test xs) ≡ false) [
      | true ↦ λ h. absurd (omega (arith, h))
      | false ↦ λ h. filter_none test xs h
    ]) none

-- a crew has a member exactly where a client passes its test
pub crew_some : (test : ℕ → Bool) (crew : List ℕ) → crew ≡ crew_of test → 0 < length crew → list_any test clients ≡ true
unfolding crew_of
crew_some test crew is some = filter_some test clients (subst (λ (l : List ℕ). 0 < length l) is some)

pub crew_none : (test : ℕ → Bool) (crew : List ℕ) → crew ≡ crew_of test → length crew ≤ 0 → list_any test clients ≡ false
unfolding crew_of
crew_none test crew is none = filter_none test clients (subst (λ (l : List ℕ). length l ≤ 0) is none)

-- the same of a list's own test
pub is_empty_some : (crew : List ℕ) → 0 < length crew → is_empty crew ≡ false
is_empty_some [] some = absurd (omega arith)
is_empty_some (x ∷ xs) some = refl

-- what is left of a right, by whether it is asked for
pub met_wholly : (wholly asked : Bool) (right : Option Right) → wholly ≡ true → None ≡ met wholly asked right
met_wholly wholly asked None is = refl
met_wholly wholly asked (Some right) is = sym (ap (λ (b : Bool). met b asked (Some right)) is)

pub met_to_read : (wholly asked : Bool) (held : Option Right) (right : Right) → held ≡ Some right → wholly ≡ false → asked ≡ true → Some may.Read ≡ met wholly asked held
met_to_read wholly asked held right was not_wholly is =
    sym (ap (λ (o : Option Right). met wholly asked o) was ∙ ap (λ (b : Bool). met b asked (Some right)) not_wholly ∙ ap (λ (b : Bool). met false b (Some right)) is)

pub met_by_nobody : (wholly asked : Bool) (held : Option Right) (right : Right) → held ≡ Some right → wholly ≡ false → asked ≡ false → Some right ≡ met wholly asked held
met_by_nobody wholly asked held right was not_wholly is =
    sym (ap (λ (o : Option Right). met wholly asked o) was ∙ ap (λ (b : Bool). met b asked (Some right)) not_wholly ∙ ap (λ (b : Bool). met false b (Some right)) is)

-- two crews in one, as the second is tested only where a page is given up
pub blockers_of_both : (given : Bool) (conflicts asks : ℕ → Bool) (left right both : List ℕ) → given ≡ true → left ≡ crew_of conflicts → right ≡ crew_of asks →
    both ≡ crew_of (λ client. has_member client left || has_member client right) →
    both ≡ crew_of (λ client. conflicts client || (given && asks client))
blockers_of_both given conflicts asks left right both is left_is right_is both_is =
    both_is ∙ crew_of_same (λ client. has_member client left || has_member client right) (λ client. conflicts client || (given && asks client))
    (λ who client.
    ap (λ (b : Bool). b || has_member who right) (ap (has_member who) left_is ∙ has_member_crew_of conflicts who client)
    ∙ ap (λ (b : Bool). conflicts who || b) (ap (has_member who) right_is ∙ has_member_crew_of asks who client)
    ∙ ap (λ (b : Bool). conflicts who || (b && asks who)) (sym is))

-- the crew so far, and those that the rest of the wants will add
abbrev pub with_rest : (Want → ℕ → Bool) → List ℕ → List Want → List ℕ
with_rest stands crew rest = crew_of (λ other. list_any (λ want. stands want other) rest || has_member other crew)

pub with_rest_more : (stands : Want → ℕ → Bool) (crew one more : List ℕ) (wants : List Want) (i : ℕ) (want : Want) → i < length wants → want ≡ get_or wants i want →
    one ≡ crew_of (stands want) → more ≡ crew_of (λ client. has_member client crew || has_member client one) →
    with_rest stands more (drop (i + 1) wants) ≡ with_rest stands crew (drop i wants)
with_rest_more stands crew one more wants i want within read one_is more_is =
    crew_of_same (λ other. list_any (λ w. stands w other) (drop (i + 1) wants) || has_member other more) (λ other. list_any (λ w. stands w other) (drop i wants) || has_member other crew)
    (λ who client.
    let added : has_member who more ≡ (has_member who crew || stands want who) =
    ap (has_member who) more_is ∙ has_member_crew_of (λ c. has_member c crew || has_member c one) who client
    ∙ ap (λ (b : Bool). has_member who crew || b) (ap (has_member who) one_is ∙ has_member_crew_of (stands want) who client) in
    ap (λ (b : Bool). list_any (λ w. stands w who) (drop (i + 1) wants) || b) added
    ∙ moved (list_any (λ w. stands w who) (drop (i + 1) wants)) (has_member who crew) (stands want who)
    ∙ ap (λ (l : List Want). list_any (λ w. stands w who) l || has_member who crew) (sym (read_first wants i want within read)))
  where
    moved : (a b c : Bool) → (a || (b || c)) ≡ ((c || a) || b)
    moved true true true = refl
    moved true true false = refl
    moved true false true = refl
    moved true false false = refl
    moved false true true = refl
    moved false true false = refl
    moved false false true = refl
    moved false false false = refl

-- a filter that has come to a place, one item on
pub kept_more : {X : Type 0} (test : X → Bool) (kept xs : List X) (i : ℕ) (x : X) → i < length xs → x ≡ get_or xs i x → test x ≡ true →
    (kept ++ x ∷ []) ++ filter test (drop (i + 1) xs) ≡ kept ++ filter test (drop i xs)
kept_more test kept xs i x within read passes =
    append_assoc kept (x ∷ []) (filter test (drop (i + 1) xs))
    ∙ ap (λ (b : Bool). kept ++ cond b (x ∷ filter test (drop (i + 1) xs)) (filter test (drop (i + 1) xs))) (sym passes)
    ∙ ap (λ l. kept ++ filter test l) (sym (read_first xs i x within read))

pub dropped_more : {X : Type 0} (test : X → Bool) (kept xs : List X) (i : ℕ) (x : X) → i < length xs → x ≡ get_or xs i x → test x ≡ false →
    kept ++ filter test (drop (i + 1) xs) ≡ kept ++ filter test (drop i xs)
dropped_more test kept xs i x within read fails =
    ap (λ (b : Bool). kept ++ cond b (x ∷ filter test (drop (i + 1) xs)) (filter test (drop (i + 1) xs))) (sym fails)
    ∙ ap (λ l. kept ++ filter test l) (sym (read_first xs i x within read))

-- where somebody stands in the way
pub decided_pending : (pages : PagesView) (places : List (Option ClientView)) (who : ℕ) (wants missing blocked : List Want) (blockers : List ℕ) (calls cap : ℕ) →
    missing ≡ missing_in pages places who wants → blockers ≡ blockers_in pages places who missing → blocked ≡ blocked_in pages places who missing →
    0 < length blockers → decision.Pending blockers blocked ≡ decision_for pages places who wants calls cap
decided_pending pages places who wants missing blocked blockers calls cap missing_is blockers_is blocked_is some =
    let those : blockers ≡ blockers_in pages places who (missing_in pages places who wants) = blockers_is ∙ ap (blockers_in pages places who) missing_is in
    let them : blocked ≡ blocked_in pages places who (missing_in pages places who wants) = blocked_is ∙ ap (blocked_in pages places who) missing_is in
    let not_empty : is_empty (blockers_in pages places who (missing_in pages places who wants)) ≡ false = sym (ap is_empty those) ∙ is_empty_some blockers some in
    ap (λ (l : List ℕ). decision.Pending l blocked) those
    ∙ ap (λ (l : List Want). decision.Pending (blockers_in pages places who (missing_in pages places who wants)) l) them
    ∙ sym (ap (λ (b : Bool). cond b
    (cond (nat_lt cap (length (missing_in pages places who wants) + calls)) decision.Full
    (granted_or_load (missing_in pages places who wants) (unframed_in pages (missing_in pages places who wants))))
    (decision.Pending (blockers_in pages places who (missing_in pages places who wants)) (blocked_in pages places who (missing_in pages places who wants)))) not_empty)
