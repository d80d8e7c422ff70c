use Rattle.std.specs.Prelude.{◌≡◌, ◌<◌, length, ℕ, List, [], Bool, true, false, ◌&&◌, ◌==◌, cond, fold, replicate, slice_index, slice_index_or}
use Rattle.casper_words.specs.declared.call.Op.{Op}
use Rattle.casper_words.specs.declared.call.Op.TheVariants.{Read, Write, Touch}
use Rattle.casper_trail.specs.declared.entry.Entry.{Entry}

-- a word of a page of an array, and 0 where there is none
abbrev pub word_at : List (List ℕ) → ℕ → ℕ → ℕ
word_at array page word = slice_index (slice_index_or array page []) word

-- an array of so many pages, each of 512 words
pub record IsArray (pages : ℕ) (array : List (List ℕ)) : Type 0 where
  pub count : length array ≡ pages
  pub words : (page : ℕ) → page < pages → length (slice_index_or array page []) ≡ 512

-- an array whose pages were never written
abbrev pub zero_pages : ℕ → List (List ℕ)
zero_pages pages = replicate pages (replicate 512 0)

abbrev pub is_write : Op → Bool
is_write Read = false
is_write Write = true
is_write Touch = false

-- whether an entry writes this page
abbrev pub writes_page : ℕ → Entry → Bool
writes_page page entry = is_write entry.op && (entry.page == page)

-- whether an entry writes this word of this page
abbrev pub writes_word : ℕ → ℕ → Entry → Bool
writes_word page word entry = writes_page page entry && (entry.word == word)

-- a word that had a value, after an entry
abbrev pub value_after : ℕ → ℕ → ℕ → Entry → ℕ
value_after page word value entry = cond (writes_word page word entry) entry.value value

-- the value of the last write on a word, and without one its value in the array
abbrev pub value_of : List (List ℕ) → List Entry → ℕ → ℕ → ℕ
value_of base entries page word = fold (value_after page word) (word_at base page word) entries
