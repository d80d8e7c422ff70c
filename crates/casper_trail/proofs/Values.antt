use Rattle.std.proofs.Common.{◌≡◌, ◌<◌, ℕ, List, [], ◌∷◌, ◌++◌, true, false, cond, ◌&&◌, ◌==◌, fold, filter, length, slice_index, slice_index_or, slice_set, refl, ap, sym, ◌∙◌, subst, ⊎_elim, length-set, get_or-set_same, get_or-set_other, zero, suc, zero-lt-suc, suc-le-suc}
use Rattle.std.proofs.lemmas.Bool.{cond_both, cond-true, cond-false, and_left, cases_eq, ne_eqb, eq-eqb}
use Rattle.std.proofs.lemmas.List.{ext_get_or}
use Rattle.casper_trail.specs.declared.entry.Entry.{Entry}
use Rattle.casper_trail.specs.Value.{word_at, IsArray, value_after, writes_page, writes_word, is_write}
use Rattle.casper_trail.specs.Image.{with_word, array_after, array_of}
use Rattle.casper_trail.specs.ValueLaws.{ValueOfMore, ValueByItsPage, ArrayKeepsShape, ArrayHasValues, ArrayByItsWords, ArrayOfMore}

pub fold_append : {A B : Type 0} (f : B → A → B) (a : B) (xs ys : List A) → fold f a (xs ++ ys) ≡ fold f (fold f a xs) ys
fold_append f a [] ys = refl
fold_append f a (x ∷ xs) ys = fold_append f (f a x) xs ys

pub value_of_more : ValueOfMore
value_of_more base entries more page word = fold_append (value_after page word) (word_at base page word) entries more

pub array_of_more : ArrayOfMore
array_of_more base entries more = fold_append array_after base entries more

-- an entry that does not write the page leaves its words
value_elsewhere : (page word value : ℕ) (entry : Entry) → writes_page page entry ≡ false → value_after page word value entry ≡ value
value_elsewhere page word value entry elsewhere =
    cond-false (writes_word page word entry) entry.value value (and_left (writes_page page entry) (entry.word == word) elsewhere)

by_page : (page word value : ℕ) (entries : List Entry)
    → fold (value_after page word) value entries ≡ fold (value_after page word) value (filter (writes_page page) entries)
by_page page word value [] = refl
by_page page word value (entry ∷ entries) =
    cond_both (writes_page page entry) (entry ∷ filter (writes_page page) entries) (filter (writes_page page) entries)
    (λ kept. fold (value_after page word) (value_after page word value entry) entries ≡ fold (value_after page word) value kept)
    (λ writes. by_page page word (value_after page word value entry) entries)
    (λ elsewhere. ap (λ now. fold (value_after page word) now entries) (value_elsewhere page word value entry elsewhere) ∙ by_page page word value entries)

pub value_by_its_page : ValueByItsPage
value_by_its_page base entries page word = by_page page word (word_at base page word) entries

-- a fact of each place of a list after a write
pub set_cases : {X : Type 0} (xs : List X) (i : ℕ) (y : X) (j : ℕ) (d : X) (P : X → Type 0)
    → (j ≡ i → i < length xs → P y) → P (slice_index_or xs j d) → P (slice_index_or (slice_set xs i y) j d)
set_cases [] i y j d P written old = old
set_cases (x ∷ xs) zero y zero d P written old = written refl (zero-lt-suc (length xs))
set_cases (x ∷ xs) zero y (suc j) d P written old = old
set_cases (x ∷ xs) (suc i) y zero d P written old = old
set_cases (x ∷ xs) (suc i) y (suc j) d P written old = set_cases xs i y j d P (λ e l. written (ap suc e) (suc-le-suc l)) old

-- a write of a word keeps the length of each page
page_of_with_word : (array : List (List ℕ)) (at word value page : ℕ)
    → length (slice_index_or (with_word array at word value) page []) ≡ length (slice_index_or array page [])
page_of_with_word array at word value page =
    set_cases array at (slice_set (slice_index_or array at []) word value) page []
    (λ words. length words ≡ length (slice_index_or array page []))
    (λ e l. length-set (slice_index_or array at []) word value ∙ ap (λ k. length (slice_index_or array k [])) (sym e))
    refl

array_after_count : (array : List (List ℕ)) (entry : Entry) → length (array_after array entry) ≡ length array
array_after_count array entry =
    cond_both (is_write entry.op) (with_word array entry.page entry.word entry.value) array (λ now. length now ≡ length array)
    (λ _. length-set array entry.page (slice_set (slice_index_or array entry.page []) entry.word entry.value))
    (λ _. refl)

array_after_page : (array : List (List ℕ)) (entry : Entry) (page : ℕ)
    → length (slice_index_or (array_after array entry) page []) ≡ length (slice_index_or array page [])
array_after_page array entry page =
    cond_both (is_write entry.op) (with_word array entry.page entry.word entry.value) array
    (λ now. length (slice_index_or now page []) ≡ length (slice_index_or array page []))
    (λ _. page_of_with_word array entry.page entry.word entry.value page)
    (λ _. refl)

array_after_shape : (pages : ℕ) (array : List (List ℕ)) (entry : Entry) → IsArray pages array → IsArray pages (array_after array entry)
array_after_shape pages array entry shape = record {
  count = array_after_count array entry ∙ shape.count;
  words = λ page below. array_after_page array entry page ∙ shape.words page below;
}

pub array_keeps_shape : ArrayKeepsShape
array_keeps_shape pages base [] shape = shape
array_keeps_shape pages base (entry ∷ entries) shape =
    array_keeps_shape pages (array_after base entry) entries (array_after_shape pages base entry shape)

word_of_set : (words : List ℕ) (at value word : ℕ) → word < length words
    → slice_index (slice_set words at value) word ≡ cond (at == word) value (slice_index words word)
word_of_set words at value word below =
    ⊎_elim
    (λ (e : at ≡ word). let P : ℕ → Type 0 = λ k. k < length words → slice_index (slice_set words at value) k ≡ cond (at == k) value (slice_index words k) in
    subst P e (λ l. get_or-set_same words at value 0 l ∙ sym (cond-true (at == at) value (slice_index words at) (eq-eqb at at refl))) below)
    (λ (n : at ≡ word → ⊥). get_or-set_other words at word value 0 (λ e. n (sym e)) ∙ sym (cond-false (at == word) value (slice_index words word) (ne_eqb at word n)))
    (cases_eq at word)

word_of_with_word : (array : List (List ℕ)) (at written value page word : ℕ) → page < length array → word < length (slice_index_or array page [])
    → word_at (with_word array at written value) page word ≡ cond ((at == page) && (written == word)) value (word_at array page word)
word_of_with_word array at written value page word below inside =
    ⊎_elim
    (λ (e : at ≡ page). let P : ℕ → Type 0 = λ k. k < length array → word < length (slice_index_or array k [])
    → word_at (with_word array at written value) k word ≡ cond ((at == k) && (written == word)) value (word_at array k word) in
    subst P e (λ l m.
    ap (λ words. slice_index words word) (get_or-set_same array at (slice_set (slice_index_or array at []) written value) [] l)
    ∙ word_of_set (slice_index_or array at []) written value word m
    ∙ ap (λ b. cond (b && (written == word)) value (word_at array at word)) (sym (eq-eqb at at refl))) below inside)
    (λ (n : at ≡ page → ⊥).
    ap (λ words. slice_index words word) (get_or-set_other array at page (slice_set (slice_index_or array at []) written value) [] (λ e. n (sym e)))
    ∙ ap (λ b. cond (b && (written == word)) value (word_at array page word)) (sym (ne_eqb at page n)))
    (cases_eq at page)

word_after : (array : List (List ℕ)) (entry : Entry) (page word : ℕ) → page < length array → word < length (slice_index_or array page [])
    → word_at (array_after array entry) page word ≡ value_after page word (word_at array page word) entry
word_after array entry page word below inside =
    elim (is_write entry.op) as (λ writes. word_at (cond writes (with_word array entry.page entry.word entry.value) array) page word
    ≡ cond (writes && (entry.page == page) && (entry.word == word)) entry.value (word_at array page word))
    [ true ↦ word_of_with_word array entry.page entry.word entry.value page word below inside | false ↦ refl ]

words_of_array : (pages : ℕ) (base : List (List ℕ)) (entries : List Entry) (page word : ℕ) → IsArray pages base → page < pages → word < 512
    → word_at (array_of base entries) page word ≡ fold (value_after page word) (word_at base page word) entries
words_of_array pages base [] page word shape below inside = refl
words_of_array pages base (entry ∷ entries) page word shape below inside =
    words_of_array pages (array_after base entry) entries page word (array_after_shape pages base entry shape) below inside
    ∙ ap (λ value. fold (value_after page word) value entries)
    (word_after base entry page word (subst (λ n. page < n) (sym shape.count) below) (subst (λ n. word < n) (sym (shape.words page below)) inside))

pub array_has_values : ArrayHasValues
array_has_values = words_of_array

pub array_by_its_words : ArrayByItsWords
array_by_its_words pages one other shape shape' same =
    ext_get_or [] one other (shape.count ∙ sym shape'.count)
    (λ page below. let inside : page < pages = subst (λ n. page < n) shape.count below in
    ext_get_or 0 (slice_index_or one page []) (slice_index_or other page []) (shape.words page inside ∙ sym (shape'.words page inside))
    (λ word m. same page word inside (subst (λ n. word < n) (shape.words page inside) m)))
