use Rattle.std.proofs.Common.{◌≡◌, ◌≢◌, ℕ, zero, suc, ◌+◌, ◌-◌, ◌<◌, ◌≤◌, Bool, true, false, cond, not, ◌&&◌, nat_eq, eq-eqb, List, [], ◌∷◌, ◌++◌, append_assoc, Option, Some, None, IsSome, is_some, is_none, length, take, drop, remove, get_or, slice_get, map, reverse, unwrap_or, option_map, refl, sym, ap, ◌∙◌, subst, ⊎_elim, arith}
use Rattle.std.specs.Bool.{OnTrue, OnFalse}
use Rattle.std.specs.List.{fold, Contains}
use Rattle.std.proofs.lemmas.Bool.{ne_eqb, cases_eq}
use Rattle.std.proofs.lemmas.List.{append-nil, drop_all, take_all, take-take, get_or_default}
use Rattle.std.proofs.lemmas.Option.{slice_get-get_or}
use Rattle.casper_words.specs.Crew.{IsClient}
use Rattle.casper_words.specs.declared.page.Right.{Right}
use Rattle.casper_words.specs.declared.page.Right.TheVariants as may
use Rattle.casper_words.specs.declared.page.Want.{Want}
use Rattle.casper_words.proofs.CrewLemmas.{crew_of_same}
use Rattle.casper_trail.specs.declared.item.Item.{Item}
use Rattle.casper_trail.specs.declared.item.Item.TheVariants as item
use Rattle.casper_trail.specs.TrailView.{entry_count, is_entry}
use Rattle.casper_trail.proofs.CallLists.{count_append}
use Rattle.casper_trail.specs.Calls.{touch_by}
use Rattle.casper_trail.specs.Parts.{as_items}
use Rattle.casper_model.specs.Acquire.{touches_by}
use Rattle.casper_model.specs.Held.{is_to_write}
use Rattle.casper_dir.specs.declared.holders.Holders.{Holders}
use Rattle.casper_dir.specs.Holding.{is_in_conflict, raised as raised_right}
use Rattle.casper_dir.specs.Rights.{right_at, conflicts_at, ChangesOneRight}
use Rattle.casper_cache.specs.declared.held.Held.{Held}
use Rattle.casper_cache.specs.Holding.{is_of, entry_of, right_of, others, front_of, raised, with_right, ArePagesDistinct}
use Rattle.casper_cache.specs.Own.{Own}
use Rattle.casper_cache.proofs.Entries.{found_at, others-absent, remove-others, evicted_more, entry_of-others, entry_of-others_same, entry_of-graded}
use Rattle.casper_cache.proofs.ChangeLaws.{front_keeps_entries}
use Rattle.casper_hub.specs.HubView.{PagesView, frame_in}
use Rattle.casper_hub.specs.Installing.{with_page, granted_right, raised_for}
use Rattle.casper_hub.proofs.Deciding.{read_first}
use Rattle.casper_hub.proofs.Giving.{changed_here, changed_elsewhere}

-- a page to which there is no right has no entry
pub absent_entry : (page : ℕ) (held : List Held) → is_some (right_of page held) ≡ false → entry_of page held ≡ None
absent_entry page held none = of_entry (entry_of page held) none
  where
    of_entry : (o : Option Held) → is_some (option_map (λ (h : Held). h.right) o) ≡ false → o ≡ None
    of_entry None e = refl
    of_entry (Some entry) e = cc

absent_some : (page : ℕ) (held : List Held) → is_none (right_of page held) ≡ true → is_some (right_of page held) ≡ false
absent_some page held none = of_right (right_of page held) none
  where
    of_right : (o : Option Right) → is_none o ≡ true → is_some o ≡ false
    of_right None e = refl
    of_right (Some right) e = cc

-- a wanted page with these words
abbrev pub entry_with : Want → List ℕ → Held
entry_with want words = record { page = want.page; right = want.right; words = words }

-- a page that was not held is in front once it is installed
pub installed_page : (pages : PagesView) (held : List Held) (want : Want) (frame : List ℕ) → is_some (right_of want.page held) ≡ false →
    frame_in pages want.page ≡ Some frame → entry_with want frame ∷ others want.page held ≡ with_page pages held want
installed_page pages held want frame none framed =
    ap (λ l. entry_with want frame ∷ l) (others-absent want.page held (absent_entry want.page held none))
    ∙ sym (ap (λ (b : Bool). cond b held (entry_with want (unwrap_or (frame_in pages want.page) []) ∷ held)) none
    ∙ ap (λ (o : Option (List ℕ)). entry_with want (unwrap_or o []) ∷ held) framed)

-- what one page more comes to, where it was not held
with_page_new : (pages : PagesView) (held : List Held) (want : Want) → is_none (right_of want.page held) ≡ true →
    with_page pages held want ≡ entry_with want (unwrap_or (frame_in pages want.page) []) ∷ held
with_page_new pages held want none =
    ap (λ (b : Bool). cond b held (entry_with want (unwrap_or (frame_in pages want.page) []) ∷ held)) (absent_some want.page held none)

-- it is at most one page more
pub length_with_page : (pages : PagesView) (held : List Held) (want : Want) → length (with_page pages held want) ≤ length held + 1
length_with_page pages held want =
    elim (is_some (right_of want.page held)) as (λ b. length (cond b held (entry_with want (unwrap_or (frame_in pages want.page) []) ∷ held)) ≤ length held + 1) [
      | true ↦ omega arith
      | false ↦ omega arith
    ]

-- it is held then
pub with_page_held : (pages : PagesView) (held : List Held) (want : Want) → is_none (right_of want.page held) ≡ true → IsSome (right_of want.page (with_page pages held want))
with_page_held pages held want none =
    subst (λ (l : List Held). IsSome (right_of want.page l)) (sym (with_page_new pages held want none))
    (subst (λ (b : Bool). IsSome (option_map (λ (h : Held). h.right) (cond b (Some (entry_with want (unwrap_or (frame_in pages want.page) []))) (entry_of want.page held))))
    (sym (eq-eqb want.page want.page refl)) refl)

-- and without it the held pages are as before
pub with_page_undone : (pages : PagesView) (held : List Held) (want : Want) → is_none (right_of want.page held) ≡ true → others want.page (with_page pages held want) ≡ held
with_page_undone pages held want none =
    let entry : Held = entry_with want (unwrap_or (frame_in pages want.page) []) in
    ap (others want.page) (with_page_new pages held want none)
    ∙ ap (λ (b : Bool). cond (not b) (entry ∷ others want.page held) (others want.page held)) (eq-eqb want.page want.page refl)
    ∙ others-absent want.page held (absent_entry want.page held (absent_some want.page held none))

-- a page that was held is held as before
pub with_page_same : (pages : PagesView) (held : List Held) (want : Want) → is_none (right_of want.page held) ≡ false → with_page pages held want ≡ held
with_page_same pages held want there =
    ap (λ (b : Bool). cond b held (entry_with want (unwrap_or (frame_in pages want.page) []) ∷ held)) (of_right (right_of want.page held) there)
  where
    of_right : (o : Option Right) → is_none o ≡ false → is_some o ≡ true
    of_right None e = cc
    of_right (Some right) e = refl

-- a fold that has come to a place, one item on
pub fold_more : {A B : Type 0} (f : B → A → B) (so_far : B) (xs : List A) (i : ℕ) (x : A) → i < length xs → x ≡ get_or xs i x →
    fold f (f so_far x) (drop (i + 1) xs) ≡ fold f so_far (drop i xs)
fold_more f so_far xs i x within read = sym (ap (fold f so_far) (read_first xs i x within read))

-- bringing a page to the front changes no right, and raising one loses none
pub right_of-front : (page q : ℕ) (held : List Held) → IsSome (right_of q held) → IsSome (right_of q (front_of page held))
right_of-front page q held is =
    subst (λ (o : Option Held). IsSome (option_map (λ (h : Held). h.right) o)) (sym (front_keeps_entries page q held)) is

pub right_of-raised : (page q : ℕ) (held : List Held) → IsSome (right_of q held) → IsSome (right_of q (raised page held))
right_of-raised page q held is =
    subst (λ (o : Option Held). IsSome (option_map (λ (h : Held). h.right) o)) (sym (entry_of-graded may.Write page q held)) (of_entry (entry_of q held) is)
  where
    of_entry : (o : Option Held) → IsSome (option_map (λ (h : Held). h.right) o) →
        IsSome (option_map (λ (h : Held). h.right) (option_map (λ (h : Held). cond (is_of page h) (with_right may.Write h) h) o))
    of_entry None e = e
    of_entry (Some entry) e = refl

-- the touches of the wants so far, and those of the rest
pub touched_more : (items : List Item) (who : ℕ) (wants : List Want) (i : ℕ) (want : Want) → i < length wants → want ≡ get_or wants i want →
    (items ++ item.Entry (touch_by who want.page) ∷ []) ++ as_items (touches_by who (drop (i + 1) wants)) ≡ items ++ as_items (touches_by who (drop i wants))
touched_more items who wants i want within read =
    append_assoc items (item.Entry (touch_by who want.page) ∷ []) (as_items (touches_by who (drop (i + 1) wants)))
    ∙ ap (λ l. items ++ as_items (touches_by who l)) (sym (read_first wants i want within read))

-- a touch is one entry more
pub entry_count-touched : (items : List Item) (who page : ℕ) → entry_count (items ++ item.Entry (touch_by who page) ∷ []) ≡ entry_count items + 1
entry_count-touched items who page = count_append is_entry items (item.Entry (touch_by who page) ∷ [])

-- a cache in which a page was raised, if the want is to write
pub record RaisedSo (own after : Own) (want : Want) : Type 0 where
  pub held_is : after.held ≡ raised_for own.held want
  pub rest : after ≡ record own { held = after.held }
  pub holds : (q : ℕ) → IsSome (right_of q own.held) → IsSome (right_of q after.held)

pub raised_so : (own after : Own) (want : Want) → after ≡ record own { held = raised_for own.held want } → RaisedSo own after want
raised_so own after want is = record {
  held_is = ap (λ (o : Own). o.held) is;
  rest = is ∙ ap (λ (l : List Held). record own { held = l }) (sym (ap (λ (o : Own). o.held) is));
  holds = λ q there. subst (λ (l : List Held). IsSome (right_of q l)) (sym (ap (λ (o : Own). o.held) is)) (either q (is_to_write want.right) there);
}
  where
    either : (q : ℕ) (b : Bool) → IsSome (right_of q own.held) → IsSome (right_of q (cond b (raised want.page own.held) own.held))
    either q true there = right_of-raised want.page q own.held there
    either q false there = there

-- who stands in the way depends on the others alone
pub conflicts_kept : (rights now : List Holders) (page who : ℕ) (want : Right) →
    ((client q : ℕ) → IsClient client → client ≢ who → right_at now client q ≡ right_at rights client q) → conflicts_at now page who want ≡ conflicts_at rights page who want
conflicts_kept rights now page who want same =
    crew_of_same (λ client. not (nat_eq client who) && is_in_conflict want (right_at now client page)) (λ client. not (nat_eq client who) && is_in_conflict want (right_at rights client page))
    (λ client is.
    ⊎_elim
    (λ (e : client ≡ who).
    ap (λ (b : Bool). not b && is_in_conflict want (right_at now client page)) (eq-eqb client who e)
    ∙ sym (ap (λ (b : Bool). not b && is_in_conflict want (right_at rights client page)) (eq-eqb client who e)))
    (λ (differ : client ≡ who → ⊥). ap (λ (o : Option Right). not (nat_eq client who) && is_in_conflict want o) (same client page is differ))
    (cases_eq client who))

-- the rights of a client once a want is granted
pub granted_one : (rights now : List Holders) (who : ℕ) (want : Want) (page : ℕ) → IsClient who →
    ChangesOneRight rights now who want.page (Some (raised_right (right_at rights who want.page) want.right)) → right_at now who page ≡ granted_right page (right_at rights who page) want
granted_one rights now who want page client changes =
    ⊎_elim
    (λ (same : want.page ≡ page).
    subst (λ (q : ℕ). right_at now who q ≡ cond (nat_eq want.page q) (Some (raised_right (right_at rights who q) want.right)) (right_at rights who q)) same
    (changed_here rights now who want.page (Some (raised_right (right_at rights who want.page) want.right)) client changes
    ∙ sym (ap (λ (b : Bool). cond b (Some (raised_right (right_at rights who want.page) want.right)) (right_at rights who want.page)) (eq-eqb want.page want.page refl))))
    (λ (differ : want.page ≡ page → ⊥).
    changed_elsewhere rights now who want.page (Some (raised_right (right_at rights who want.page) want.right)) changes who page client (λ e. differ (sym e))
    ∙ sym (ap (λ (b : Bool). cond b (Some (raised_right (right_at rights who page) want.right)) (right_at rights who page)) (ne_eqb want.page page differ)))
    (cases_eq want.page page)

-- the page that was used longest ago is held, and the others are those before it
pub record IsLast (page : ℕ) (held : List Held) : Type 0 where
  pub held_is : IsSome (right_of page held)
  pub rest : others page held ≡ take (length held - 1) held
  pub some : 0 < length held

pub last_of : (held : List Held) (pages : List ℕ) (page : ℕ) → ArePagesDistinct held → pages ≡ take 1 (reverse (map (λ (h : Held). h.page) held)) →
    slice_get pages 0 ≡ Some page → IsLast page held
last_of [] pages page distinct are first =
    let none : slice_get pages 0 ≡ None = ap (λ (l : List ℕ). slice_get l 0) are in
    cc
last_of (x ∷ xs) pages page distinct are first =
    let held : List Held = x ∷ xs in
    let entry : Held = get_or held (length xs) x in
    let within : length xs < length held = omega arith in
    let read : entry ≡ get_or held (length xs) entry = get_or_default held (length xs) x entry within in
    let place : length held - 1 - 0 ≡ length xs = omega arith in
    let at : slice_get held (length xs) ≡ Some entry = slice_get-get_or held (length xs) x within in
    let there : entry ≡ get_or held (length held - 1 - 0) entry = subst (λ (n : ℕ). entry ≡ get_or held n entry) (sym place) read in
    let last : take (0 + 1) (reverse (map (λ (h : Held). h.page) held)) ≡ take 0 (reverse (map (λ (h : Held). h.page) held)) ++ entry.page ∷ [] = evicted_more held 0 entry (omega arith) there in
    let is : entry.page ≡ page = some_page entry.page page (sym (ap (λ (l : List ℕ). slice_get l 0) (are ∙ last)) ∙ first) in
    record {
      held_is = some_entry (entry_of page held) (found_at (is_of page) held (length xs) entry at (eq-eqb entry.page page is));
      rest = sym (remove-others page held (length xs) entry distinct at is) ∙ remove_last held (length xs) refl;
      some = omega arith;
    }
  where
    some_page : (p q : ℕ) → Some p ≡ Some q → p ≡ q
    some_page p q e = cc

    some_entry : (o : Option Held) → (o ≡ None → ⊥) → IsSome (option_map (λ (h : Held). h.right) o)
    some_entry None never = absurd (never refl)
    some_entry (Some entry) never = refl

    remove_last : (l : List Held) (n : ℕ) → length l ≡ suc n → remove l n ≡ take (length l - 1) l
    remove_last l n long = ap (λ r. take n l ++ r) (drop_all (suc n) l (omega arith)) ∙ append-nil (take n l) ∙ ap (λ m. take m l) (omega arith)

-- a page to which a client has a right is one of the store
pub right_within : (rights : List Holders) (who page : ℕ) (right : Right) → right_at rights who page ≡ Some right → page < length rights
right_within [] who page right e = cc
right_within (x ∷ rest) who zero right e = omega arith
right_within (x ∷ rest) who (suc page) right e = let fewer : page < length rest = right_within rest who page right e in omega arith

-- a right that there is
pub right_there : (o : Option Right) → IsSome o → (right : Right) × (o ≡ Some right)
right_there None is = cc
right_there (Some right) is = (right, refl)

-- the rights of a client are those of its cache, once it gave a page up wholly
pub all_agree : (rights now : List Holders) (who page : ℕ) (held : List Held) → IsClient who → ChangesOneRight rights now who page None →
    ((q : ℕ) → right_at rights who q ≡ right_of q held) → (q : ℕ) → right_at now who q ≡ right_of q (others page held)
all_agree rights now who page held client changes agree q =
    ⊎_elim
    (λ (same : q ≡ page).
    subst (λ (p : ℕ). right_at now who p ≡ right_of p (others page held)) (sym same)
    (changed_here rights now who page None client changes ∙ sym (ap (option_map (λ (h : Held). h.right)) (entry_of-others_same page held))))
    (λ (differ : q ≡ page → ⊥).
    changed_elsewhere rights now who page None changes who q client differ ∙ agree q ∙ sym (ap (option_map (λ (h : Held). h.right)) (entry_of-others page q held differ)))
    (cases_eq q page)

-- the page that was used longest ago is one to which the client has a right
pub last_right : (rights : List Holders) (who page : ℕ) (held : List Held) → ((q : ℕ) → right_at rights who q ≡ right_of q held) → IsLast page held →
    (right : Right) × (right_at rights who page ≡ Some right)
last_right rights who page held agree last =
    let there = right_there (right_of page held) last.held_is in
    (there.0, agree page ∙ there.1)

-- a page too many is given up: the first ones stay
pub shrunk : (own after : Own) (given : Bool) → own.capacity < length own.held → after ≡ record own { held = after.held } →
    OnTrue given (after.held ≡ take (length own.held - 1) own.held) → OnFalse given (own.held ≡ []) → take after.capacity after.held ≡ take own.capacity own.held
shrunk own after true many rest held none =
    ap (λ (n : ℕ). take n after.held) (ap (λ (o : Own). o.capacity) rest) ∙ ap (take own.capacity) held ∙ take-take own.capacity (length own.held - 1) own.held (omega arith)
shrunk own after false many rest held none = absurd (omega (arith, ap length none))

-- a list whose first item was read is that item and the rest
pub first_and_rest : (wants : List Want) (want : Want) → 0 < length wants → want ≡ get_or wants 0 want → wants ≡ want ∷ take (length wants - 1) (drop 1 wants)
first_and_rest [] want some read = absurd (omega arith)
first_and_rest (x ∷ xs) want some read =
    ap (λ y. y ∷ xs) (sym read) ∙ ap (λ l. want ∷ l) (sym (take_all (length (x ∷ xs) - 1) xs (omega arith)))

-- what is in the rest is in the list
pub in_the_rest : (wants : List Want) (first want : Want) → 0 < length wants → first ≡ get_or wants 0 first → Contains (take (length wants - 1) (drop 1 wants)) want → Contains wants want
in_the_rest wants first want some read inside =
    subst (λ (l : List Want). Contains l want) (sym (first_and_rest wants first some read)) (behind first (take (length wants - 1) (drop 1 wants)) inside)
  where
    behind : (x : Want) (xs : List Want) → Contains xs want → Contains (x ∷ xs) want
    behind x xs there = let within = there.1 in (suc there.0, omega (arith, within), there.2)

-- what was installed and given up again leaves the cache as it was
pub installed_undone : (pages : PagesView) (own one after last : Own) (want : Want) → is_none (right_of want.page own.held) ≡ true →
    one ≡ record own { held = with_page pages own.held want } → after ≡ one → last ≡ record after { held = others want.page after.held } → last ≡ own
installed_undone pages own one after last want none one_is after_is last_is =
    last_is ∙ ap (λ (o : Own). record o { held = others want.page o.held }) (after_is ∙ one_is) ∙ ap (λ (l : List Held). record own { held = l }) (with_page_undone pages own.held want none)
