use Rattle.std.proofs.Common.{◌≡◌, ◌≢◌, ℕ, ◌+◌, Bool, true, false, cond, List, [], ◌∷◌, ◌++◌, map, Option, Some, None, refl, ap, ◌∙◌, arith, subst}
use Rattle.std.specs.Prelude.{◌==◌, nat_lt, nat_le, slice_set}
use Rattle.std.specs.List.{range_with_len}
use Rattle.std.proofs.lemmas.Bool.{and_parts}
use Rattle.std.proofs.lemmas.Bool.Decides.{nat_tests}
use Rattle.casper_words.specs.declared.call.Call.{Call}
use Rattle.casper_words.specs.declared.page.Ref.{Ref}
use Rattle.casper_space.specs.WordCalls.{write_of, with_word, words_after}
use Rattle.casper_space.proofs.Making.{words_after_both}
use Rattle.casper_heap.specs.Walk.{walk_calls, header_reads, read_at, block_end, used_end, blocks_of, first_free, walk_end}
use Rattle.casper_heap.specs.Objects.{field_place}
use Rattle.casper_heap.specs.HeapCalls.{where_object, where_field, store_calls, set_calls, ref_calls, second_walk, free_write, free_calls, field_writes, object_writes, new_writes, new_calls, count_of, without_tag, with_tag, tags_at}
use Rattle.casper_shell.specs.Lines.{is_heap_page, is_heap_word}

-- calls that leave the words of the table of names as they are
abbrev pub Keeps : List Call → Type 0
Keeps calls = (words : ℕ → List ℕ) → words_after words calls 0 ≡ words 0

keeps_both : (first second : List Call) → Keeps first → Keeps second → Keeps (first ++ second)
keeps_both first second one two words =
    ap (λ (pages : ℕ → List ℕ). pages 0) (words_after_both words first second) ∙ two (words_after words first) ∙ one words

keeps_cond : (b : Bool) (first second : List Call) → Keeps first → Keeps second → Keeps (cond b first second)
keeps_cond true first second one two = one
keeps_cond false first second one two = two

keeps_where : (count : Option ℕ) (calls : List Call) → Keeps calls → Keeps (where_object count calls)
keeps_where None calls kept = λ words. refl
keeps_where (Some count) calls kept = kept

keeps_field : (count : Option ℕ) (field : ℕ) (calls : List Call) → Keeps calls → Keeps (where_field count field calls)
keeps_field None field calls kept = λ words. refl
keeps_field (Some count) field calls kept = keeps_cond (nat_lt field count) calls [] kept (λ words. refl)

-- what a list that a function gives is a list of
abbrev ItemOf : {A : Type 0} → (List ℕ → List A) → Type 0
ItemOf {A} list = A

keeps_headers : (page : ℕ) (words : List ℕ) (end place : ℕ) (blocks : List (ItemOf blocks_of)) → Keeps (header_reads page words end place blocks)
keeps_headers page words end place [] = keeps_cond (nat_lt place end) (read_at page words place ∷ []) [] (λ pages. refl) (λ pages. refl)
keeps_headers page words end place (block ∷ blocks) = λ pages. keeps_headers page words end (block_end block) blocks pages

keeps_walk : (pages : ℕ → List ℕ) (page : ℕ) → Keeps (walk_calls pages page)
unfolding walk_calls
keeps_walk pages page words = keeps_headers page (pages page) (used_end (pages page)) 1 (blocks_of (pages page)) words

module _ (page : ℕ) (other : page ≢ 0) where
  kept_word : (words : ℕ → List ℕ) (word value : ℕ) → with_word words page word value 0 ≡ words 0
  kept_word words word value =
      let test : (0 == page) ≡ false = grind (arith, nat_tests) in
      ap (λ (b : Bool). cond b (slice_set (words page) word value) (words 0)) test

  keeps_write : (word value : ℕ) (calls : List Call) → Keeps calls → Keeps (write_of page word value ∷ calls)
  keeps_write word value calls kept words = kept (with_word words page word value) ∙ kept_word words word value

  keeps_store : (words : List ℕ) (place field value tags : ℕ) → Keeps (store_calls page words place field value tags)
  keeps_store words place field value tags pages =
      keeps_write (field_place place field) value (write_of page (place + 1) tags ∷ []) (keeps_write (place + 1) tags [] (λ pages. refl)) pages

  keeps_fields : (place : ℕ) (fields : List ℕ) → Keeps (map (λ field. write_of page (field_place place field) 0) fields)
  keeps_fields place [] = λ words. refl
  keeps_fields place (field ∷ fields) =
      keeps_write (field_place place field) 0 (map (λ field. write_of page (field_place place field) 0) fields) (keeps_fields place fields)

  keeps_object : (place count : ℕ) → Keeps (object_writes page place count)
  unfolding object_writes
  keeps_object place count =
      keeps_write place (256 + count) (write_of page (place + 1) 0 ∷ field_writes page place count)
      (keeps_write (place + 1) 0 (field_writes page place count) (keeps_fields place (range_with_len 0 count)))

  keeps_new_writes : (free : Option ℕ) (end count : ℕ) → Keeps (new_writes free page end count)
  keeps_new_writes (Some place) end count = keeps_object place count
  keeps_new_writes None end count =
      keeps_cond (nat_le (end + count + 2) 512) (object_writes page end count ++ write_of page 0 (end + count + 2) ∷ []) []
      (keeps_both (object_writes page end count) (write_of page 0 (end + count + 2) ∷ []) (keeps_object end count) (keeps_write 0 (end + count + 2) [] (λ words. refl)))
      (λ words. refl)

  pub keeps_new : (pages : ℕ → List ℕ) (count : ℕ) → Keeps (new_calls pages page count)
  keeps_new pages count =
      keeps_both (walk_calls pages page) (new_writes (first_free (blocks_of (pages page)) count) page (walk_end (pages page)) count)
      (keeps_walk pages page) (keeps_new_writes (first_free (blocks_of (pages page)) count) (walk_end (pages page)) count)

pub keeps_set : (pages : ℕ → List ℕ) (r : Ref) (field value : ℕ) → r.page ≢ 0 → Keeps (set_calls pages r field value)
keeps_set pages r field value other =
    let store = store_calls r.page (pages r.page) r.word field value (without_tag (tags_at (pages r.page) r.word) field) in
    keeps_both (walk_calls pages r.page) (where_field (count_of pages r) field store) (keeps_walk pages r.page)
    (keeps_field (count_of pages r) field store (keeps_store r.page other (pages r.page) r.word field value _))

pub keeps_ref : (pages : ℕ → List ℕ) (r : Ref) (field : ℕ) (to : Ref) → r.page ≢ 0 → Keeps (ref_calls pages r field to)
keeps_ref pages r field to other =
    let store = store_calls r.page (pages r.page) r.word field _ (with_tag (tags_at (pages r.page) r.word) field) in
    let stored = where_field (count_of pages r) field store in
    let second = second_walk pages r to in
    let behind = second ++ where_object (count_of pages to) stored in
    keeps_both (walk_calls pages r.page) (where_object (count_of pages r) behind) (keeps_walk pages r.page)
    (keeps_where (count_of pages r) behind
    (keeps_both second (where_object (count_of pages to) stored)
    (keeps_cond (to.page == r.page) [] (walk_calls pages to.page) (λ words. refl) (keeps_walk pages to.page))
    (keeps_where (count_of pages to) stored
    (keeps_field (count_of pages r) field store (keeps_store r.page other (pages r.page) r.word field _ _)))))

keeps_free_write : (count : Option ℕ) (r : Ref) → r.page ≢ 0 → Keeps (free_write count r)
keeps_free_write None r other = λ words. refl
keeps_free_write (Some count) r other = keeps_write r.page other r.word count [] (λ words. refl)

pub keeps_free : (pages : ℕ → List ℕ) (r : Ref) → r.page ≢ 0 → Keeps (free_calls pages r)
keeps_free pages r other =
    keeps_both (walk_calls pages r.page) (free_write (count_of pages r) r) (keeps_walk pages r.page) (keeps_free_write (count_of pages r) r other)

-- a page or a word that may have an object is not in the page of the names
pub off_table : (pages page : ℕ) → is_heap_page pages page ≡ true → page ≢ 0
off_table pages page is same = absurd (let h : false ≡ true = subst (λ (at : ℕ). is_heap_page pages at ≡ true) same is in cc)

pub word_off_table : (pages : ℕ) (r : Ref) → is_heap_word pages r ≡ true → r.page ≢ 0
word_off_table pages r is = off_table pages r.page (and_parts (is_heap_page pages r.page) (nat_lt r.word 512) is).0
