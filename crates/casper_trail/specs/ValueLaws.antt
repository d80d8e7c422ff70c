use Rattle.std.specs.Prelude.{◌≡◌, ◌<◌, ℕ, List, ◌++◌, fold, filter}
use Rattle.casper_trail.specs.declared.entry.Entry.{Entry}
use Rattle.casper_trail.specs.Value.{word_at, IsArray, value_of, value_after, writes_page}
use Rattle.casper_trail.specs.Image.{array_of}

-- the value after more entries is theirs over the value before
abbrev pub ValueOfMore : Type 0
ValueOfMore = (base : List (List ℕ)) (entries more : List Entry) (page word : ℕ)
    → value_of base (entries ++ more) page word ≡ fold (value_after page word) (value_of base entries page word) more

-- a value depends on the writes of its page alone
abbrev pub ValueByItsPage : Type 0
ValueByItsPage = (base : List (List ℕ)) (entries : List Entry) (page word : ℕ)
    → value_of base entries page word ≡ value_of base (filter (writes_page page) entries) page word

-- entries keep the shape of an array
abbrev pub ArrayKeepsShape : Type 0
ArrayKeepsShape = (pages : ℕ) (base : List (List ℕ)) (entries : List Entry) → IsArray pages base → IsArray pages (array_of base entries)

-- each word of the array of some entries has its value over them
abbrev pub ArrayHasValues : Type 0
ArrayHasValues = (pages : ℕ) (base : List (List ℕ)) (entries : List Entry) (page word : ℕ) → IsArray pages base → page < pages → word < 512
    → word_at (array_of base entries) page word ≡ value_of base entries page word

-- arrays with the same words are one
abbrev pub ArrayByItsWords : Type 0
ArrayByItsWords = (pages : ℕ) (one other : List (List ℕ)) → IsArray pages one → IsArray pages other
    → ((page word : ℕ) → page < pages → word < 512 → word_at one page word ≡ word_at other page word) → one ≡ other

-- the array of more entries is theirs over the array before
abbrev pub ArrayOfMore : Type 0
ArrayOfMore = (base : List (List ℕ)) (entries more : List Entry) → array_of base (entries ++ more) ≡ array_of (array_of base entries) more
