use Rattle.std.proofs.Common.{◌≡◌, ℕ, zero, suc, ◌∙◌, Bool, true, false, cond, ◌==◌, eq-eqb, eqb-true, List, [], ◌∷◌, Option, Some, None, filter_map, option_map, option_and_then, unwrap_or, is_some, find, refl, sym, ap, subst, ⊎_elim, arith}
use Rattle.std.specs.List.{fold, Contains}
use Rattle.std.proofs.lemmas.Bool.{ne_eqb, cases_eq}
use Rattle.casper_words.specs.declared.page.Right.{Right}
use Rattle.casper_words.specs.declared.page.Right.TheVariants as may
use Rattle.casper_words.specs.declared.page.Want.{Want}
use Rattle.casper_dir.specs.Holding.{raised as raised_right}
use Rattle.casper_cache.specs.declared.held.Held.{Held}
use Rattle.casper_cache.specs.Holding.{is_of, entry_of, right_of, front_of, raised, with_right}
use Rattle.casper_cache.proofs.Entries.{found_passes, entry_of-page, entry_of-graded}
use Rattle.casper_cache.proofs.ChangeLaws.{front_keeps_entries}
use Rattle.casper_model.specs.Held.{is_to_write, is_of as wants_page}
use Rattle.casper_hub.specs.HubView.{PagesView, frame_in}
use Rattle.casper_hub.specs.Given.{met, kept_as}
use Rattle.casper_hub.specs.Installing.{with_page, with_pages, raised_for, all_raised, all_granted, all_fronted}
use Rattle.casper_hub.proofs.Installing.{absent_entry, entry_with}
use Rattle.casper_hub.proofs.Left.{entry_of-kept}
use Rattle.casper_hub.proofs.OpenedTurns.{right_among_kept}

-- a test of two numbers may be turned
pub eq_turned : (p q : ℕ) → (p == q) ≡ (q == p)
eq_turned p q =
    ⊎_elim
    (λ (e : p ≡ q). eq-eqb p q e ∙ sym (eq-eqb q p (sym e)))
    (λ (differ : p ≡ q → ⊥). ne_eqb p q differ ∙ sym (ne_eqb q p (λ e. differ (sym e))))
    (cases_eq p q)

-- something holds of each want
abbrev pub Every : (Want → Type 0) → List Want → Type 0
Every P [] = Unit {0}
Every P (want ∷ wants) = P want × Every P wants

-- what holds of whatever is in a list holds of each want
pub every_one : (P : Want → Type 0) (wants : List Want) → ((want : Want) → Contains wants want → P want) → Every P wants
every_one P [] all = tt
every_one P (want ∷ wants) all = (
  all want (zero, omega arith, refl),
  every_one P wants (λ one is. all one (suc is.0, omega (arith, is.1), is.2)),
)

-- the right to a page once one page is raised for a want
abbrev raised_by : ℕ → Option Right → Want → Option Right
raised_by page right want = cond (want.page == page) (option_map (λ (r : Right). cond (is_to_write want.right) may.Write r) right) right

-- and in the list
right_of-raised_for : (page : ℕ) (held : List Held) (want : Want) → right_of page (raised_for held want) ≡ raised_by page (right_of page held) want
right_of-raised_for page held want =
    elim (is_to_write want.right) as (λ w. right_of page (cond w (raised want.page held) held) ≡ cond (want.page == page) (option_map (λ (r : Right). cond w may.Write r) (right_of page held)) (right_of page held)) [
      | true ↦ ap (option_map (λ (e : Held). e.right)) (entry_of-graded may.Write want.page page held) ∙ by (entry_of page held) (λ entry is. entry_of-page page held entry is)
      | false ↦ same (want.page == page) (right_of page held)
    ]
  where
    same : (b : Bool) (o : Option Right) → o ≡ cond b (option_map (λ (r : Right). cond false may.Write r) o) o
    same true None = refl
    same true (Some r) = refl
    same false o = refl

    either : (b : Bool) (o : Option Right) → o ≡ cond b o o
    either true o = refl
    either false o = refl

    graded_right : (b : Bool) (entry : Held) → Some (cond b (with_right may.Write entry) entry).right ≡ cond b (Some may.Write) (Some entry.right)
    graded_right true entry = refl
    graded_right false entry = refl

    by : (o : Option Held) → ((entry : Held) → o ≡ Some entry → entry.page ≡ page)
        → option_map (λ (e : Held). e.right) (option_map (λ (e : Held). cond (is_of want.page e) (with_right may.Write e) e) o)
        ≡ cond (want.page == page) (option_map (λ (r : Right). cond true may.Write r) (option_map (λ (e : Held). e.right) o)) (option_map (λ (e : Held). e.right) o)
    by None of = either (want.page == page) None
    by (Some entry) of =
        let test : (entry.page == want.page) ≡ (want.page == page) = ap (λ (p : ℕ). p == want.page) (of entry refl) ∙ eq_turned page want.page in
        ap (λ (b : Bool). Some (cond b (with_right may.Write entry) entry).right) test ∙ graded_right (want.page == page) entry

right_of-all_raised : (page : ℕ) (held : List Held) (wants : List Want) → right_of page (all_raised held wants) ≡ fold (raised_by page) (right_of page held) wants
right_of-all_raised page held [] = refl
right_of-all_raised page held (want ∷ wants) =
    right_of-all_raised page (raised_for held want) wants ∙ ap (λ o. fold (raised_by page) o wants) (right_of-raised_for page held want)

-- a page that is not held is not raised
none_raised : (page : ℕ) (wants : List Want) → fold (raised_by page) None wants ≡ None
none_raised page [] = refl
none_raised page (want ∷ wants) =
    elim (want.page == page) as (λ b. fold (raised_by page) (cond b None None) wants ≡ None) [
      | true ↦ none_raised page wants
      | false ↦ none_raised page wants
    ]

-- a page that is held is raised as its right is
one_raised : (right wanted : Right) → cond (is_to_write wanted) may.Write right ≡ raised_right (Some right) wanted
one_raised may.Read may.Read = refl
one_raised may.Read may.Write = refl
one_raised may.Write may.Read = refl
one_raised may.Write may.Write = refl

held_raised : (page : ℕ) (right : Right) (wants : List Want) → fold (raised_by page) (Some right) wants ≡ all_granted page (Some right) wants
held_raised page right [] = refl
held_raised page right (want ∷ wants) =
    elim (want.page == page) as (λ b. fold (raised_by page) (cond b (Some (cond (is_to_write want.right) may.Write right)) (Some right)) wants
    ≡ all_granted page (cond b (Some (raised_right (Some right) want.right)) (Some right)) wants) [
      | true ↦ held_raised page (cond (is_to_write want.right) may.Write right) wants ∙ ap (λ (r : Right). all_granted page (Some r) wants) (one_raised right want.right)
      | false ↦ held_raised page right wants
    ]

-- a page that is installed is held with the right that was wanted
wanted_raised : (page : ℕ) (wants : List Want) → fold (raised_by page) (option_map (λ (w : Want). w.right) (find (wants_page page) wants)) wants ≡ all_granted page None wants
wanted_raised page [] = refl
wanted_raised page (want ∷ wants) =
    elim (want.page == page) as (λ b.
    fold (raised_by page)
    (cond b (option_map (λ (r : Right). cond (is_to_write want.right) may.Write r) (option_map (λ (w : Want). w.right) (cond b (Some want) (find (wants_page page) wants))))
    (option_map (λ (w : Want). w.right) (cond b (Some want) (find (wants_page page) wants)))) wants
    ≡ all_granted page (cond b (Some want.right) None) wants) [
      | true ↦ held_raised page (cond (is_to_write want.right) may.Write want.right) wants ∙ ap (λ (r : Right). all_granted page (Some r) wants) (itself want.right)
      | false ↦ wanted_raised page wants
    ]
  where
    itself : (r : Right) → cond (is_to_write r) may.Write r ≡ r
    itself may.Read = refl
    itself may.Write = refl

-- a page that is not wanted gets no right
pub none_granted : (page : ℕ) (right : Option Right) (wants : List Want) → Every (λ want. want.page ≡ page → ⊥) wants → all_granted page right wants ≡ right
none_granted page right [] other = refl
none_granted page right (want ∷ wants) other =
    ap (λ (b : Bool). all_granted page (cond b (Some (raised_right right want.right)) right) wants) (ne_eqb want.page page other.0) ∙ none_granted page right wants other.1

-- the entry of a page that is installed for a want
abbrev pub new_in : PagesView → Want → Held
new_in pages want = entry_with want (unwrap_or (frame_in pages want.page) [])

-- a held page stays as it is as others are installed
one_page_kept : (pages : PagesView) (held : List Held) (want : Want) (page : ℕ) (entry : Held) → entry_of page held ≡ Some entry → entry_of page (with_page pages held want) ≡ Some entry
one_page_kept pages held want page entry is =
    (elim (is_some (right_of want.page held)) as (λ b. is_some (right_of want.page held) ≡ b → entry_of page (cond b held (new_in pages want ∷ held)) ≡ Some entry) [
      | true ↦ λ _. is
      | false ↦ λ none.
          (elim (want.page == page) as (λ b. (want.page == page) ≡ b → cond b (Some (new_in pages want)) (entry_of page held) ≡ Some entry) [
            | true ↦ λ here.
                let absent : entry_of page held ≡ None = subst (λ q. entry_of q held ≡ None) (eqb-true want.page page here) (absent_entry want.page held none) in
                cc
            | false ↦ λ _. is
          ]) refl
    ]) refl

pub pages_kept : (pages : PagesView) (held : List Held) (wants : List Want) (page : ℕ) (entry : Held) → entry_of page held ≡ Some entry → entry_of page (with_pages pages held wants) ≡ Some entry
pages_kept pages held [] page entry is = is
pages_kept pages held (want ∷ wants) page entry is = pages_kept pages (with_page pages held want) wants page entry (one_page_kept pages held want page entry is)

-- a page that was not held is that of the first want of it
one_page_new : (pages : PagesView) (held : List Held) (want : Want) (page : ℕ) → entry_of page held ≡ None
    → entry_of page (with_page pages held want) ≡ cond (want.page == page) (Some (new_in pages want)) None
one_page_new pages held want page none =
    (elim (is_some (right_of want.page held)) as (λ b. is_some (right_of want.page held) ≡ b → entry_of page (cond b held (new_in pages want ∷ held)) ≡ cond (want.page == page) (Some (new_in pages want)) None) [
      | true ↦ λ is.
          (elim (want.page == page) as (λ b. (want.page == page) ≡ b → entry_of page held ≡ cond b (Some (new_in pages want)) None) [
            | true ↦ λ here.
                let absent : entry_of want.page held ≡ None = subst (λ q. entry_of q held ≡ None) (sym (eqb-true want.page page here)) none in
                let not_held : is_some (right_of want.page held) ≡ false = ap (λ (o : Option Held). is_some (option_map (λ (e : Held). e.right) o)) absent in
                cc
            | false ↦ λ _. none
          ]) refl
      | false ↦ λ _. ap (λ (o : Option Held). cond (want.page == page) (Some (new_in pages want)) o) none
    ]) refl

pub pages_new : (pages : PagesView) (held : List Held) (wants : List Want) (page : ℕ) → entry_of page held ≡ None
    → entry_of page (with_pages pages held wants) ≡ option_map (new_in pages) (find (wants_page page) wants)
pages_new pages held [] page none = none
pages_new pages held (want ∷ wants) page none =
    (elim (want.page == page) as (λ b. entry_of page (with_page pages held want) ≡ cond b (Some (new_in pages want)) None
    → entry_of page (with_pages pages (with_page pages held want) wants) ≡ option_map (new_in pages) (cond b (Some want) (find (wants_page page) wants))) [
      | true ↦ λ is. pages_kept pages (with_page pages held want) wants page (new_in pages want) is
      | false ↦ λ is. pages_new pages (with_page pages held want) wants page is
    ]) (one_page_new pages held want page none)

-- bringing pages to the front changes no entry
pub entry_of-all_fronted : (page : ℕ) (held : List Held) (wants : List Want) → entry_of page (all_fronted held wants) ≡ entry_of page held
entry_of-all_fronted page held [] = refl
entry_of-all_fronted page held (want ∷ wants) = entry_of-all_fronted page (front_of want.page held) wants ∙ front_keeps_entries want.page page held

-- the right to a page once an acquire is granted is the one that the server gives
pub granted_right_of : (pages : PagesView) (before after : ℕ → Option Right) (wholly asked : ℕ → Bool) (held : List Held) (wants missing : List Want) (page : ℕ)
    → before page ≡ right_of page held → after page ≡ met (wholly page) (asked page) (before page)
    → ((want : Want) → Contains missing want → after want.page ≡ before want.page)
    → right_of page (all_fronted (all_raised (filter_map (kept_as before after) (with_pages pages held missing)) missing) wants) ≡ all_granted page (after page) missing
granted_right_of pages before after wholly asked held wants missing page is kept stays =
    ap (option_map (λ (e : Held). e.right)) (entry_of-all_fronted page (all_raised (filter_map (kept_as before after) (with_pages pages held missing)) missing) wants)
    ∙ right_of-all_raised page (filter_map (kept_as before after) (with_pages pages held missing)) missing
    ∙ ap (λ o. fold (raised_by page) (option_map (λ (e : Held). e.right) o) missing) (entry_of-kept before after page (with_pages pages held missing))
    ∙ by (entry_of page held) refl
  where
    Goal : Option Held → Type 0
    Goal found = fold (raised_by page) (option_map (λ (e : Held). e.right) (option_and_then (kept_as before after) found)) missing ≡ all_granted page (after page) missing

    left : right_of page (filter_map (kept_as before after) held) ≡ after page
    left = right_among_kept before after wholly asked page held is kept

    held_one : (right : Option Right) → after page ≡ right → (before page ≡ None → ⊥) → fold (raised_by page) right missing ≡ all_granted page right missing
    held_one (Some right) now had = held_raised page right missing
    held_one None now had =
        none_raised page missing
        ∙ sym (none_granted page None missing
        (every_one (λ want. want.page ≡ page → ⊥) missing (λ want among same. had (sym (subst (λ q. after q ≡ before q) same (stays want among)) ∙ now))))

    by : (found : Option Held) → entry_of page held ≡ found
        → fold (raised_by page) (option_map (λ (e : Held). e.right) (option_and_then (kept_as before after) (entry_of page (with_pages pages held missing)))) missing ≡ all_granted page (after page) missing
    by (Some entry) found =
        let had : before page ≡ Some entry.right = is ∙ ap (option_map (λ (e : Held). e.right)) found in
        ap (λ o. fold (raised_by page) (option_map (λ (e : Held). e.right) (option_and_then (kept_as before after) o)) missing) (pages_kept pages held missing page entry found ∙ sym found)
        ∙ ap (λ o. fold (raised_by page) (option_map (λ (e : Held). e.right) o) missing) (sym (entry_of-kept before after page held))
        ∙ ap (λ o. fold (raised_by page) o missing) left
        ∙ held_one (after page) refl (λ none. let clash : Some entry.right ≡ None = sym had ∙ none in cc)
    by None absent =
        let none : before page ≡ None = is ∙ ap (option_map (λ (e : Held). e.right)) absent in
        let gone : after page ≡ None = kept ∙ ap (met (wholly page) (asked page)) none in
        ap (λ o. fold (raised_by page) (option_map (λ (e : Held). e.right) (option_and_then (kept_as before after) o)) missing) (pages_new pages held missing page absent)
        ∙ ap (λ o. fold (raised_by page) o missing) (new_right none (find (wants_page page) missing) (λ want found. eqb-true want.page page (found_passes (wants_page page) missing want found)))
        ∙ wanted_raised page missing ∙ ap (λ o. all_granted page o missing) (sym gone)
      where
        new_right : before page ≡ None → (o : Option Want) → ((want : Want) → o ≡ Some want → want.page ≡ page)
            → option_map (λ (e : Held). e.right) (option_and_then (kept_as before after) (option_map (new_in pages) o)) ≡ option_map (λ (w : Want). w.right) o
        new_right none None of = refl
        new_right none (Some want) of =
            let no_right : before want.page ≡ None = ap before (of want refl) ∙ none in
            rw no_right refl
