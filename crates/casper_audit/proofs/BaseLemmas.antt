use Rattle.std.proofs.Common.{◌≡◌, ◌<◌, ℕ, cond, ◌&&◌, ◌==◌, List, [], ◌∷◌, ◌++◌, map, fold, replicate, length, slice_index_or, ap, sym, ◌∙◌, refl}
use Rattle.std.proofs.lemmas.List.{length-replicate, get_or-replicate}
use Rattle.casper_words.specs.declared.call.Op.TheVariants.{Write}
use Rattle.casper_trail.specs.declared.entry.Entry.{Entry}
use Rattle.casper_trail.specs.Value.{word_at, IsArray, zero_pages, value_of}
use Rattle.casper_trail.specs.Image.{array_of}
use Rattle.casper_trail.proofs.Values.{array_has_values, value_of_more}
use Rattle.casper_audit.specs.declared.parse.BaseWord.{BaseWord}
use Rattle.casper_audit.specs.Text.{most_pages, base_of, with_base}

zeros_are_array : (pages : ℕ) → IsArray pages (zero_pages pages)
zeros_are_array pages = record {
  count = length-replicate pages (replicate 512 0);
  words = λ page below. ap length (get_or-replicate pages page (replicate 512 0) [] below) ∙ length-replicate {A = ℕ} 512 0;
}

zero_word : (pages page word : ℕ) → page < pages → word < 512 → word_at (zero_pages pages) page word ≡ 0
zero_word pages page word below within =
    ap (λ (words : List ℕ). slice_index_or words word 0) (get_or-replicate pages page (replicate 512 0) [] below) ∙ get_or-replicate 512 word 0 0 within

-- a word before the trail as a write
write_of : BaseWord → Entry
write_of word = record { who = 0; op = Write; page = word.page; word = word.word; value = word.value }

as_writes : (words : List BaseWord) (array : List (List ℕ)) → fold with_base array words ≡ array_of array (map write_of words)
unfolding write_of
as_writes [] array = refl
as_writes (word ∷ words) array = as_writes words (with_base array word)

map_more : (words : List BaseWord) (last : BaseWord) → map write_of (words ++ last ∷ []) ≡ map write_of words ++ write_of last ∷ []
map_more [] last = refl
map_more (word ∷ words) last = ap (λ (rest : List Entry). write_of word ∷ rest) (map_more words last)

word_of_base : (words : List BaseWord) (page word : ℕ) → page < most_pages → word < 512 → word_at (base_of words) page word ≡ value_of (zero_pages most_pages) (map write_of words) page word
unfolding base_of
word_of_base words page word below within =
    ap (λ (array : List (List ℕ)). word_at array page word) (as_writes words (zero_pages most_pages))
    ∙ array_has_values most_pages (zero_pages most_pages) (map write_of words) page word (zeros_are_array most_pages) below within

-- a word of the array before the trail, with one word more
pub base_more : (words : List BaseWord) (last : BaseWord) (page word : ℕ) → page < most_pages → word < 512
    → word_at (base_of (words ++ last ∷ [])) page word ≡ cond ((last.page == page) && (last.word == word)) last.value (word_at (base_of words) page word)
unfolding write_of
base_more words last page word below within =
    word_of_base (words ++ last ∷ []) page word below within
    ∙ ap (λ (entries : List Entry). value_of (zero_pages most_pages) entries page word) (map_more words last)
    ∙ value_of_more (zero_pages most_pages) (map write_of words) (write_of last ∷ []) page word
    ∙ ap (λ (v : ℕ). cond ((last.page == page) && (last.word == word)) last.value v) (sym (word_of_base words page word below within))

-- the array before the trail without words is zero
pub base_none : (page word : ℕ) → page < most_pages → word < 512 → word_at (base_of []) page word ≡ 0
unfolding base_of
base_none page word below within = zero_word most_pages page word below within
