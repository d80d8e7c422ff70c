use Rattle.std.specs.Prelude.{◌≡◌, ℕ, ◌*◌, ◌<◌, ◌^◌, List, length, drop, map, EachIndex, slice_index}
use Rattle.std.specs.Int.{w64, to_le_bytes, from_le_bytes}
use Rattle.std.specs.List.{flat_map, range_with_len}

-- the bytes of words, each little-endian, one word after another
unfoldable pub block_of_words : List ℕ → List ℕ
block_of_words words = flat_map (to_le_bytes w64) words

-- the word that stands little-endian at byte 8w
abbrev pub word_at : List ℕ → ℕ → ℕ
word_at bytes word = from_le_bytes w64 (drop (8 * word) bytes)

-- the 512 words of the bytes of a block
unfoldable pub words_of_block : List ℕ → List ℕ
words_of_block bytes = map (word_at bytes) (range_with_len 0 512)

-- the words of a block that was made of words are these words
abbrev pub BlocksKeepTheirWords : Type 0
BlocksKeepTheirWords = (words : List ℕ) → length words ≡ 512 → EachIndex words (λ word. slice_index words word < 2 ^ 64)
    → words_of_block (block_of_words words) ≡ words

-- the block that is made of the words of a block is this block
abbrev pub WordsKeepTheirBlock : Type 0
WordsKeepTheirBlock = (bytes : List ℕ) → length bytes ≡ 4096 → EachIndex bytes (λ byte. slice_index bytes byte < 256)
    → block_of_words (words_of_block bytes) ≡ bytes

-- 512 words make a block of 4,096 bytes
abbrev pub WordsFillABlock : Type 0
WordsFillABlock = (words : List ℕ) → length words ≡ 512 → length (block_of_words words) ≡ 4096
