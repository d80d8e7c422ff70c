use Rattle.std.proofs.Common.{◌≡◌, ◌≢◌, ℕ, zero, ◌∙◌, List, [], ◌∷◌, true, false, cond, ◌==◌, eqb-true, refl, sym, ap, subst, ⊎_elim, Contains, arith}
use Rattle.std.specs.Prelude.{Option, None, Some, option_map, IfSome}
use Rattle.std.proofs.lemmas.Bool.{cases_eq}
use Rattle.casper_words.specs.Crew.{IsClient}
use Rattle.casper_words.specs.declared.page.Right.{Right}
use Rattle.casper_words.specs.declared.page.Right.TheVariants as may
use Rattle.casper_words.specs.declared.page.Want.{Want}
use Rattle.casper_trail.proofs.LinkLists.{contains_there}
use Rattle.casper_dir.specs.declared.holders.Holders.{Holders}
use Rattle.casper_dir.specs.Holding.{raised as raised_right}
use Rattle.casper_dir.specs.Rights.{right_at, writer_at, AreAllClients}
use Rattle.casper_dir.proofs.EqualRights.{writer_holds_to_write}
use Rattle.casper_cache.specs.declared.held.Held.{Held}
use Rattle.casper_cache.specs.Holding.{is_of, entry_of, words_of, front_of, raised, with_right, ArePagesDistinct}
use Rattle.casper_cache.proofs.Entries.{distinct-front_of, distinct-graded, entry_of-graded}
use Rattle.casper_cache.proofs.ChangeLaws.{front_keeps_entries}
use Rattle.casper_model.specs.Held.{is_to_write}
use Rattle.casper_hub.specs.Words.{AreWords, HeldIsRight}
use Rattle.casper_hub.specs.Installing.{raised_for, all_raised, granted_right, all_granted, all_fronted}
use Rattle.casper_hub.proofs.Giving.{writer_is_client}

-- raised pages stay distinct, and so do those that are brought to the front
pub distinct_raised : (held : List Held) (wants : List Want) → ArePagesDistinct held → ArePagesDistinct (all_raised held wants)
distinct_raised held [] distinct = distinct
distinct_raised held (want ∷ wants) distinct =
    distinct_raised (raised_for held want) wants
    (elim (is_to_write want.right) as (λ b. ArePagesDistinct (cond b (raised want.page held) held)) [ true ↦ distinct-graded may.Write want.page held distinct | false ↦ distinct ])

pub distinct_fronted : (held : List Held) (wants : List Want) → ArePagesDistinct held → ArePagesDistinct (all_fronted held wants)
distinct_fronted held [] distinct = distinct
distinct_fronted held (want ∷ wants) distinct = distinct_fronted (front_of want.page held) wants (distinct-front_of want.page held distinct)

-- pages with the same words have right words
same_words_held : (value : ℕ → ℕ → ℕ) (held now : List Held) → ((page : ℕ) → words_of page now ≡ words_of page held) → HeldIsRight value held → HeldIsRight value now
same_words_held value held now same right page = subst (λ (o : Option (List ℕ)). IfSome o (λ words. AreWords value page words)) (sym (same page)) (right page)

words_of_raised : (page q : ℕ) (held : List Held) → words_of q (raised page held) ≡ words_of q held
words_of_raised page q held = ap (option_map (λ (h : Held). h.words)) (entry_of-graded may.Write page q held) ∙ of_entry (entry_of q held)
  where
    of_entry : (o : Option Held) → option_map (λ (h : Held). h.words) (option_map (λ (entry : Held). cond (is_of page entry) (with_right may.Write entry) entry) o) ≡ option_map (λ (h : Held). h.words) o
    of_entry None = refl
    of_entry (Some entry) = elim (is_of page entry) as (λ b. Some (cond b (with_right may.Write entry) entry).words ≡ Some entry.words) [ true ↦ refl | false ↦ refl ]

-- raised pages keep their words, and so do those that are brought to the front
pub right_raised : (value : ℕ → ℕ → ℕ) (held : List Held) (wants : List Want) → HeldIsRight value held → HeldIsRight value (all_raised held wants)
right_raised value held [] right = right
right_raised value held (want ∷ wants) right =
    right_raised value (raised_for held want) wants
    (elim (is_to_write want.right) as (λ b. HeldIsRight value (cond b (raised want.page held) held)) [
      | true ↦ same_words_held value held (raised want.page held) (λ page. words_of_raised want.page page held) right
      | false ↦ right
    ])

pub right_fronted : (value : ℕ → ℕ → ℕ) (held : List Held) (wants : List Want) → HeldIsRight value held → HeldIsRight value (all_fronted held wants)
right_fronted value held [] right = right
right_fronted value held (want ∷ wants) right =
    right_fronted value (front_of want.page held) wants
    (same_words_held value held (front_of want.page held) (λ page. ap (option_map (λ (h : Held). h.words)) (front_keeps_entries want.page page held)) right)

-- a right to write that is there once wants are granted was there before, or its page is wanted
pub granted_from : (page : ℕ) (right : Option Right) (wants : List Want) (P : Type 0) → (right ≡ Some may.Write → P) → ((want : Want) → Contains wants want → want.page ≡ page → P)
    → all_granted page right wants ≡ Some may.Write → P
granted_from page right [] P before wanted is = before is
granted_from page right (want ∷ wants) P before wanted is =
    granted_from page (granted_right page right want) wants P
    (λ now. (elim (want.page == page) as (λ b. (want.page == page) ≡ b → cond b (Some (raised_right right want.right)) right ≡ Some may.Write → P) [
      | true ↦ λ here _. wanted want (zero, omega arith, refl) (eqb-true want.page page here)
      | false ↦ λ _ had. before had
    ]) refl now)
    (λ one inside here. wanted one (contains_there want wants one inside) here)
    is

-- a right to write stays one
granted_write : (page : ℕ) (right : Option Right) (wants : List Want) → right ≡ Some may.Write → all_granted page right wants ≡ Some may.Write
granted_write page right [] is = is
granted_write page right (want ∷ wants) is =
    granted_write page (granted_right page right want) wants
    (elim (want.page == page) as (λ b. cond b (Some (raised_right right want.right)) right ≡ Some may.Write) [
      | true ↦ ap (λ o. Some (raised_right o want.right)) is
      | false ↦ is
    ])

-- who writes a page writes it once wants are granted
pub granted_writer : (who : ℕ) (rights now : List Holders) (page : ℕ) (wants : List Want) → AreAllClients rights
    → right_at now who page ≡ all_granted page (right_at rights who page) wants
    → ((client : ℕ) → IsClient client → client ≢ who → right_at now client page ≡ right_at rights client page)
    → (writer : ℕ) → writer_at rights page ≡ Some writer → writer_at now page ≡ Some writer
granted_writer who rights now page wants all here others writer is =
    (writer_holds_to_write now page writer).1
    (⊎_elim
    (λ (same : writer ≡ who).
    ap (λ (w : ℕ). right_at now w page) same ∙ here
    ∙ granted_write page (right_at rights who page) wants (sym (ap (λ (w : ℕ). right_at rights w page) same) ∙ writes))
    (λ (differ : writer ≡ who → ⊥). others writer (writer_is_client rights page writer all is) differ ∙ writes)
    (cases_eq writer who))
  where
    writes : right_at rights writer page ≡ Some may.Write
    writes = (writer_holds_to_write rights page writer).0 is
