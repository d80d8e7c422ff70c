use Rattle.std.proofs.Common.{◌≡◌, ℕ, Bool, true, false, cond, ◌||◌, List, [], ◌∷◌, Option, Some, None, IfSome, slice_set, eqb, eq-eqb, refl, sym, ap, ◌∙◌, ⊎_elim}
use Rattle.std.specs.List.{list_any}
use Rattle.std.proofs.lemmas.Bool.{ne_eqb, eqb-false, cases_eq}
use Rattle.std.specs.Option.{option_map}
use Rattle.casper_words.specs.declared.call.Call.{Call}
use Rattle.casper_words.specs.declared.page.Right.{Right}
use Rattle.casper_words.specs.declared.page.Right.TheVariants as may
use Rattle.casper_cache.specs.declared.held.Held.{Held}
use Rattle.casper_cache.specs.Holding.{is_of, entry_of, with_word, with_right, graded}
use Rattle.casper_cache.specs.Own.{Own}
use Rattle.casper_cache.specs.History.{Step, installed, read_hit, write_hit, fronted, given_up, allowed, pending_cleared, cleared, after, raised_up, after_all, is_install, with_write, with_writes, WordsAreAsWritten}
use Rattle.casper_cache.proofs.Entries.{entry_of-page, entry_of-others, entry_of-graded}
use Rattle.casper_cache.proofs.ChangeLaws.{front_keeps_entries, written_changes_one, others_are_the_rest}

-- an entry, if there is one, has these words
abbrev HasWords : Option Held → List ℕ → Type 0
HasWords found words = IfSome (option_map (λ entry. entry.words) found) (λ held. held ≡ words)

-- a change that keeps the words
kept : (change : Held → Held) → ((entry : Held) → (change entry).words ≡ entry.words) →
    (found : Option Held) (words : List ℕ) → HasWords found words → HasWords (option_map change found) words
kept change keeps None words has = tt
kept change keeps (Some x) words has = keeps x ∙ has

graded_words : (right : Right) (page : ℕ) (entry : Held) → (cond (is_of page entry) (with_right right entry) entry).words ≡ entry.words
graded_words right page entry = elim (is_of page entry) as (λ b. (cond b (with_right right entry) entry).words ≡ entry.words) [ true ↦ refl | false ↦ refl ]

-- a write on a page writes into its words, and no others
wrote : (call : Call) (page : ℕ) (held : List Held) (words : List ℕ) → HasWords (entry_of page held) words →
    HasWords
    (option_map (λ (entry : Held). cond (is_of call.page entry) (with_word call.word call.value entry) entry) (entry_of page held))
    (cond (eqb call.page page) (slice_set words call.word call.value) words)
wrote call page held words =
    (elim (entry_of page held) as (λ o. entry_of page held ≡ o → HasWords o words →
    HasWords (option_map (λ (entry : Held). cond (is_of call.page entry) (with_word call.word call.value entry) entry) o)
    (cond (eqb call.page page) (slice_set words call.word call.value) words)) [
      | None ↦ λ _ _. tt
      | Some x ↦ λ found has.
          let is : x.page ≡ page = entry_of-page page held x found in
          ⊎_elim
          (λ (same : call.page ≡ page).
          let test : is_of call.page x ≡ true = eq-eqb x.page call.page (is ∙ sym same) in
          let here : eqb call.page page ≡ true = eq-eqb call.page page same in
          rw (test, here) (ap (λ w. slice_set w call.word call.value) has))
          (λ (differ : call.page ≡ page → ⊥).
          let test : is_of call.page x ≡ false = ne_eqb x.page call.page (λ e. differ (sym e ∙ is)) in
          let there : eqb call.page page ≡ false = ne_eqb call.page page differ in
          rw (test, there) has)
          (cases_eq call.page page)
    ]) refl

-- another right to a page leaves its words
graded_keeps : (right : Right) (page q : ℕ) (held : List Held) (words : List ℕ) → HasWords (entry_of page held) words →
    HasWords (entry_of page (graded right q held)) words
graded_keeps right page q held words has =
    rw (entry_of-graded right q page held) (kept (λ (entry : Held). cond (is_of q entry) (with_right right entry) entry) (graded_words right q) (entry_of page held) words has)

-- one step that does not install the page
step_keeps : (page : ℕ) (step : Step) (own : Own) (words : List ℕ) → is_install page step ≡ false → HasWords (entry_of page own.held) words →
    HasWords (entry_of page (after step own).held) (with_write page step words)
step_keeps page (installed entry) own words other has =
    let differ : page ≡ entry.page → ⊥ = λ e. eqb-false entry.page page other (sym e) in
    rw (other, entry_of-others entry.page page own.held differ) has
step_keeps page (read_hit call) own words other has = rw (front_keeps_entries call.page page own.held) has
step_keeps page (write_hit call) own words other has =
    rw (written_changes_one call.page call.word call.value page own.held) (wrote call page own.held words has)
step_keeps page (fronted q) own words other has = rw (front_keeps_entries q page own.held) has
step_keeps page (given_up q true) own words other has = graded_keeps may.Read page q own.held words has
step_keeps page (given_up q false) own words other has =
    rw (others_are_the_rest q page own.held)
    (elim (eqb page q) as (λ b. HasWords (cond b None (entry_of page own.held)) words) [ true ↦ tt | false ↦ has ])
step_keeps page (raised_up q) own words other has = graded_keeps may.Write page q own.held words has
step_keeps page (allowed cap) own words other has = has
step_keeps page pending_cleared own words other has = has
step_keeps page cleared own words other has = tt

-- a list of steps that do not install the page
steps_keep : (page : ℕ) (since : List Step) (own : Own) (words : List ℕ) → list_any (is_install page) since ≡ false → HasWords (entry_of page own.held) words →
    HasWords (entry_of page (after_all since own).held) (with_writes page since words)
steps_keep page [] own words none has = has
steps_keep page (step ∷ rest) own words none has =
    let both = neither (is_install page step) (list_any (is_install page) rest) none in
    steps_keep page rest (after step own) (with_write page step words) both.1 (step_keeps page step own words both.0 has)
  where
    neither : (a b : Bool) → (a || b) ≡ false → (a ≡ false) × (b ≡ false)
    neither true b e = cc
    neither false b e = (refl, e)

pub words_are_as_written : WordsAreAsWritten
words_are_as_written own entry since none =
    let test : is_of entry.page entry ≡ true = eq-eqb entry.page entry.page refl in
    steps_keep entry.page since (after (installed entry) own) entry.words none (rw test refl)
