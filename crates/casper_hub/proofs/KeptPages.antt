use Rattle.std.proofs.Common.{◌≡◌, ℕ, ◌∙◌, Bool, true, false, cond, not, ◌&&◌, ◌||◌, ◌==◌, eq-eqb, eqb-true, List, [], ◌∷◌, Option, Some, None, filter, filter_map, map, option_map, refl, sym, ap, ap₂, subst}
use Rattle.std.specs.List.{list_any, cons_option}
use Rattle.casper_words.specs.declared.page.Right.{Right}
use Rattle.casper_words.specs.declared.page.Right.TheVariants as may
use Rattle.casper_words.specs.declared.page.Want.{Want}
use Rattle.casper_words.specs.Crew.{has_member, clients}
use Rattle.casper_cache.specs.declared.held.Held.{Held}
use Rattle.casper_cache.specs.Holding.{entry_of, right_of, ArePagesDistinct}
use Rattle.casper_model.specs.Held.{is_to_write, lowered}
use Rattle.casper_model.specs.Shared.{Shared, asks_at}
use Rattle.casper_model.specs.Opening as machine
use Rattle.casper_hub.specs.HubView.{ClientView, place_in, asks_of}
use Rattle.casper_hub.specs.Asks.{asks_for, is_asked_for, are_for}
use Rattle.casper_hub.specs.Owned.{want_of, wants_of}
use Rattle.casper_hub.specs.Given.{met, left_of, kept_as}
use Rattle.casper_hub.specs.Deciding.{fell}

-- tests that agree find the same
pub any_same : {X : Type 0} (f g : X → Bool) → ((x : X) → f x ≡ g x) → (xs : List X) → list_any f xs ≡ list_any g xs
any_same f g same [] = refl
any_same f g same (x ∷ xs) = ap₂ (λ a b. a || b) (same x) (any_same f g same xs)

pub filter_same : {X : Type 0} (f g : X → Bool) → ((x : X) → f x ≡ g x) → (xs : List X) → filter f xs ≡ filter g xs
filter_same f g same [] = refl
filter_same f g same (x ∷ xs) = ap₂ (λ b rest. cond b (x ∷ rest) rest) (same x) (filter_same f g same xs)

-- the machine's clients ask as those of a hub do
pub asked_same : (test : Right → Bool) (shared : Shared) (places : List (Option ClientView)) (who page : ℕ)
    → ((other : ℕ) → asks_at shared other ≡ asks_of (place_in places other)) → machine.is_asked_for test shared who page ≡ is_asked_for test places who page
asked_same test shared places who page same =
    any_same (machine.asks_for test shared who page) (asks_for test places who page)
    (λ other. ap (λ asks. not (other == who) && are_for test asks page) (same other)) clients

-- what a client keeps of a held page, by the right that it keeps
keeps_want : (wholly asked : Bool) (before after : Option Right) (entry : Held) → before ≡ Some entry.right → after ≡ met wholly asked before
    → cond wholly None (Some (cond (is_to_write entry.right && asked) (lowered (want_of entry)) (want_of entry))) ≡ option_map want_of (left_of before after entry)
keeps_want wholly asked before after entry is kept =
    by wholly asked entry.right refl ∙ sym (ap (option_map want_of) (ap (λ o. left_of o after entry) is ∙ ap (λ o. left_of (Some entry.right) o entry) (kept ∙ ap (met wholly asked) is)))
  where
    by : (wholly asked : Bool) (right : Right) → entry.right ≡ right
        → cond wholly None (Some (cond (is_to_write entry.right && asked) (lowered (want_of entry)) (want_of entry)))
        ≡ option_map want_of (left_of (Some entry.right) (met wholly asked (Some entry.right)) entry)
    by true asked right at = refl
    by false true may.Read at =
        ap (λ r. Some (cond (is_to_write r && true) (lowered (want_of entry)) (want_of entry))) at ∙ ap (λ r. Some (record (want_of entry) { right = r })) at
    by false true may.Write at = ap (λ r. Some (cond (is_to_write r && true) (lowered (want_of entry)) (want_of entry))) at
    by false false may.Read at = ap (λ r. Some (cond (is_to_write r && false) (lowered (want_of entry)) (want_of entry))) at
    by false false may.Write at = ap (λ r. Some (cond (is_to_write r && false) (lowered (want_of entry)) (want_of entry))) at

-- each entry has the right to its page
abbrev pub HaveRights : (ℕ → Option Right) → List Held → Type 0
HaveRights rights [] = Unit {0}
HaveRights rights (entry ∷ held) = (rights entry.page ≡ Some entry.right) × HaveRights rights held

-- where each held page is held with the right that its client has, each entry has
pub have_rights : (rights : ℕ → Option Right) (held : List Held) → ArePagesDistinct held → ((page : ℕ) (right : Right) → right_of page held ≡ Some right → rights page ≡ Some right)
    → HaveRights rights held
have_rights rights [] distinct all = tt
have_rights rights (entry ∷ held) distinct all = (
  all entry.page entry.right (let here : (entry.page == entry.page) ≡ true = eq-eqb entry.page entry.page refl in rw here refl),
  have_rights rights held distinct.1 (λ page right is. all page right (behind page right is)),
)
  where
    behind : (page : ℕ) (right : Right) → right_of page held ≡ Some right → right_of page (entry ∷ held) ≡ Some right
    behind page right is =
        (elim (entry.page == page) as (λ b. (entry.page == page) ≡ b → option_map (λ (e : Held). e.right) (cond b (Some entry) (entry_of page held)) ≡ Some right) [
          | true ↦ λ same.
              let absent : entry_of page held ≡ None = subst (λ q. entry_of q held ≡ None) (eqb-true entry.page page same) distinct.0 in
              cc
          | false ↦ λ _. is
        ]) refl

-- the machine keeps of the held pages what the cache does
pub keeps_wants : (shared : Shared) (who : ℕ) (wholly asked : ℕ → Bool) (before after : ℕ → Option Right) (held : List Held)
    → ((page : ℕ) → machine.is_asked_for is_to_write shared who page ≡ wholly page) → ((page : ℕ) → machine.is_asked_for machine.any_right shared who page ≡ asked page)
    → ((page : ℕ) → after page ≡ met (wholly page) (asked page) (before page)) → HaveRights before held
    → filter_map (machine.kept_of shared who) (wants_of held) ≡ wants_of (filter_map (kept_as before after) held)
keeps_wants shared who wholly asked before after [] w a kept all = refl
keeps_wants shared who wholly asked before after (entry ∷ held) w a kept all =
    ap₂ (λ (one : Option Want) rest. cons_option one rest) here (keeps_wants shared who wholly asked before after held w a kept all.1)
    ∙ together (kept_as before after entry)
  where
    here : machine.kept_of shared who (want_of entry) ≡ option_map want_of (kept_as before after entry)
    here =
        ap₂ (λ x y. cond x None (Some (cond (is_to_write entry.right && y) (lowered (want_of entry)) (want_of entry)))) (w entry.page) (a entry.page)
        ∙ keeps_want (wholly entry.page) (asked entry.page) (before entry.page) (after entry.page) entry all.0 (kept entry.page)

    together : (one : Option Held) → cons_option (option_map want_of one) (wants_of (filter_map (kept_as before after) held)) ≡ wants_of (cons_option one (filter_map (kept_as before after) held))
    together None = refl
    together (Some left) = refl

-- the pages that the machine gives up in an opening are those to which the right falls
fell_met : (wholly asked : Bool) (right : Right) → (wholly || (is_to_write right && asked)) ≡ fell (Some right) (met wholly asked (Some right))
fell_met true asked right = refl
fell_met false true may.Read = refl
fell_met false true may.Write = refl
fell_met false false may.Read = refl
fell_met false false may.Write = refl

-- whether a page is among those of the entries that pass a test
pub is_given_up : (wholly asked : ℕ → Bool) (before after : ℕ → Option Right) (page : ℕ) (held : List Held) → ArePagesDistinct held → HaveRights before held
    → ((page : ℕ) → after page ≡ met (wholly page) (asked page) (before page)) → before page ≡ right_of page held
    → has_member page (map (λ (want : Want). want.page) (filter (λ (want : Want). wholly want.page || (is_to_write want.right && asked want.page)) (wants_of held))) ≡ fell (before page) (after page)
is_given_up wholly asked before after page held distinct all kept is =
    found held distinct all ∙ ap (λ o. fell o (after page)) (sym is)
  where
    given : Want → Bool
    given want = wholly want.page || (is_to_write want.right && asked want.page)

    gone : (held : List Held) → entry_of page held ≡ None → has_member page (map (λ (want : Want). want.page) (filter given (wants_of held))) ≡ false
    gone [] none = refl
    gone (entry ∷ held) none =
        (elim (entry.page == page) as (λ b. (entry.page == page) ≡ b → cond b (Some entry) (entry_of page held) ≡ None
        → has_member page (map (λ (want : Want). want.page) (cond (given (want_of entry)) (want_of entry ∷ filter given (wants_of held)) (filter given (wants_of held)))) ≡ false) [
          | true ↦ λ here is. cc
          | false ↦ λ other is.
              (elim (given (want_of entry)) as (λ g. has_member page (map (λ (want : Want). want.page) (cond g (want_of entry ∷ filter given (wants_of held)) (filter given (wants_of held)))) ≡ false) [
                | true ↦ rw other (gone held is)
                | false ↦ gone held is
              ])
        ]) refl none

    found : (held : List Held) → ArePagesDistinct held → HaveRights before held
        → has_member page (map (λ (want : Want). want.page) (filter given (wants_of held))) ≡ fell (right_of page held) (after page)
    found [] distinct all = refl
    found (entry ∷ held) distinct all =
        (elim (entry.page == page) as (λ b. (entry.page == page) ≡ b
        → has_member page (map (λ (want : Want). want.page) (cond (given (want_of entry)) (want_of entry ∷ filter given (wants_of held)) (filter given (wants_of held))))
        ≡ fell (option_map (λ (e : Held). e.right) (cond b (Some entry) (entry_of page held))) (after page)) [
          | true ↦ λ here.
              let at : entry.page ≡ page = eqb-true entry.page page here in
              let after_is : after page ≡ met (wholly entry.page) (asked entry.page) (Some entry.right) =
              ap after (sym at) ∙ kept entry.page ∙ ap (met (wholly entry.page) (asked entry.page)) all.0 in
              let rest : has_member page (map (λ (want : Want). want.page) (filter given (wants_of held))) ≡ false = gone held (subst (λ q. entry_of q held ≡ None) at distinct.0) in
              decided here rest ∙ fell_met (wholly entry.page) (asked entry.page) entry.right ∙ ap (fell (Some entry.right)) (sym after_is)
          | false ↦ λ other. passed other ∙ found held distinct.1 all.1
        ]) refl
      where
        decided : (entry.page == page) ≡ true → has_member page (map (λ (want : Want). want.page) (filter given (wants_of held))) ≡ false
            → has_member page (map (λ (want : Want). want.page) (cond (given (want_of entry)) (want_of entry ∷ filter given (wants_of held)) (filter given (wants_of held)))) ≡ given (want_of entry)
        decided here rest =
            elim (given (want_of entry)) as (λ g. has_member page (map (λ (want : Want). want.page) (cond g (want_of entry ∷ filter given (wants_of held)) (filter given (wants_of held)))) ≡ g) [
              | true ↦ rw here refl
              | false ↦ rest
            ]

        passed : (entry.page == page) ≡ false
            → has_member page (map (λ (want : Want). want.page) (cond (given (want_of entry)) (want_of entry ∷ filter given (wants_of held)) (filter given (wants_of held))))
            ≡ has_member page (map (λ (want : Want). want.page) (filter given (wants_of held)))
        passed other =
            elim (given (want_of entry)) as (λ g. has_member page (map (λ (want : Want). want.page) (cond g (want_of entry ∷ filter given (wants_of held)) (filter given (wants_of held))))
            ≡ has_member page (map (λ (want : Want). want.page) (filter given (wants_of held)))) [
              | true ↦ rw other refl
              | false ↦ refl
            ]
