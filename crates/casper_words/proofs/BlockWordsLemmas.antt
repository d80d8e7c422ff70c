use Rattle.std.proofs.Common.{◌≡◌, ℕ, zero, suc, ◌+◌, ◌*◌, ◌^◌, ◌<◌, ◌≤◌, List, [], ◌∷◌, ◌++◌, length, take, drop, map, get_or, refl, sym, ◌∙◌, ap, subst, ⊎_elim, arith}
use Rattle.std.specs.Int.{w64, to_le_bytes, from_le_bytes}
use Rattle.std.specs.List.{flat_map, range_with_len}
use Rattle.std.proofs.lemmas.List.{length-drop, length-take-le, get_or-take, get_or-drop, drop-drop, drop_all, drop_more, take_more, take_all, take_at, drop_at, append-nil, get_or_past}
use Rattle.std.proofs.Math.Seq.{take-add}
use Rattle.std.proofs.lemmas.Bool.{cases_lt}
use Rattle.std.proofs.lemmas.List.Concat.{flat_map-append}
use Rattle.std.proofs.lemmas.List.FromFn.{fill_by_all}
use Rattle.std.proofs.lemmas.Nat.{le_bytes_8, from_le_bytes-to_le_bytes_8}
use Rattle.casper_words.specs.BlockWords.{block_of_words, words_of_block, word_at, BlocksKeepTheirWords, WordsKeepTheirBlock, WordsFillABlock}

-- the bytes of words
abbrev pub bytes_of : List ℕ → List ℕ
bytes_of words = flat_map (to_le_bytes w64) words

pub length_bytes_of : (words : List ℕ) → length (bytes_of words) ≡ 8 * length words
length_bytes_of [] = refl
length_bytes_of (word ∷ words) = omega (arith, length_bytes_of words)

drop_first : (word : ℕ) (rest : List ℕ) (n : ℕ) → drop (8 + n) (to_le_bytes w64 word ++ rest) ≡ drop n rest
drop_first word rest n = sym (drop-drop n 8 (to_le_bytes w64 word ++ rest))

drop_words : (k : ℕ) (words : List ℕ) → drop (8 * k) (bytes_of words) ≡ bytes_of (drop k words)
drop_words zero words = refl
drop_words (suc k) [] = drop_all (8 * suc k) [] (omega arith)
drop_words (suc k) (word ∷ words) =
    let e : 8 * suc k ≡ 8 + 8 * k = omega arith in
    rw e (drop_first word (bytes_of words) (8 * k) ∙ drop_words k words)

first_word : (word : ℕ) (rest : List ℕ) → word < 2 ^ 64 → from_le_bytes w64 (to_le_bytes w64 word ++ rest) ≡ word
first_word word rest fits = from_le_bytes-to_le_bytes_8 word fits

pub word_at_words : (words : List ℕ) (k : ℕ) → k < length words → get_or words k 0 < 2 ^ 64 → word_at (bytes_of words) k ≡ get_or words k 0
word_at_words words k in_range fits =
    ap (from_le_bytes w64) (drop_words k words ∙ ap bytes_of (drop_more words k 0 in_range))
    ∙ first_word (get_or words k 0) (bytes_of (drop (k + 1) words)) fits

pub blocks_keep_their_words : BlocksKeepTheirWords
unfolding block_of_words words_of_block
blocks_keep_their_words words long fits =
    sym (fill_by_all (word_at (bytes_of words)) words 512 0 long
    (λ k in_range. sym (word_at_words words k (omega arith) (fits k (omega arith)))))

pub words_fill_a_block : WordsFillABlock
unfolding block_of_words
words_fill_a_block words long = omega (arith, length_bytes_of words)

from_front : (bytes : List ℕ) → from_le_bytes w64 (take 8 bytes) ≡ from_le_bytes w64 bytes
from_front [] = refl
from_front (a ∷ []) = refl
from_front (a ∷ b ∷ []) = refl
from_front (a ∷ b ∷ c ∷ []) = refl
from_front (a ∷ b ∷ c ∷ d ∷ []) = refl
from_front (a ∷ b ∷ c ∷ d ∷ e ∷ []) = refl
from_front (a ∷ b ∷ c ∷ d ∷ e ∷ f ∷ []) = refl
from_front (a ∷ b ∷ c ∷ d ∷ e ∷ f ∷ g ∷ []) = refl
from_front (a ∷ b ∷ c ∷ d ∷ e ∷ f ∷ g ∷ h ∷ rest) = refl

pub length_front : (words : List ℕ) (i : ℕ) → i ≤ length words → length (bytes_of (take i words)) ≡ 8 * i
length_front words i within = omega (arith, length_bytes_of (take i words), length-take-le i words within)

bytes_of_more : (words : List ℕ) (i : ℕ) → i < length words → bytes_of (take (i + 1) words) ≡ bytes_of (take i words) ++ to_le_bytes w64 (get_or words i 0)
bytes_of_more words i within =
    ap bytes_of (take_more words i 0 within) ∙ flat_map-append (to_le_bytes w64) (take i words) (get_or words i 0 ∷ [])

-- one word more stands in its place
pub one_word_more : (words first into new piece : List ℕ) (i : ℕ) → i < length words → into ≡ bytes_of (take i words) ++ drop (8 * i) first
    → piece ≡ to_le_bytes w64 (get_or words i 0) → new ≡ take (8 * i) into ++ piece ++ drop (8 * i + length piece) into
    → new ≡ bytes_of (take (i + 1) words) ++ drop (8 * (i + 1)) first
one_word_more words first into new piece i within before is_piece is_new =
    let front = bytes_of (take i words) in
    let word = to_le_bytes w64 (get_or words i 0) in
    let long : length front ≡ 8 * i = length_front words i (omega arith) in
    let behind : drop (8 * i + 8) (front ++ drop (8 * i) first) ≡ drop (8 * (i + 1)) first =
    sym (drop-drop 8 (8 * i) (front ++ drop (8 * i) first)) ∙ ap (drop 8) (drop_at front (drop (8 * i) first) (8 * i) long)
    ∙ drop-drop 8 (8 * i) first ∙ ap (λ n. drop n first) (omega arith) in
    let head : take (8 * i) (front ++ drop (8 * i) first) ≡ front = take_at front (drop (8 * i) first) (8 * i) long in
    is_new ∙ rw (before, is_piece, head, behind, bytes_of_more words i within) refl

-- the list that is left at the end
pub all_words : (words first into : List ℕ) (i : ℕ) → i ≡ 512 → length words ≡ 512 → length first ≡ 4096 → into ≡ bytes_of (take i words) ++ drop (8 * i) first
    → into ≡ bytes_of words
all_words words first into i at_end long first_long is =
    let whole : take i words ≡ words = take_all i words (omega arith) in
    let none : drop (8 * i) first ≡ [] = drop_all (8 * i) first (omega arith) in
    is ∙ rw (whole, none) (append-nil (bytes_of words))

-- the bytes of the word at a place
word_back : (bytes : List ℕ) (k : ℕ) → 8 * k + 8 ≤ length bytes → ((i : ℕ) → i < length bytes → get_or bytes i 0 < 256)
    → to_le_bytes w64 (word_at bytes k) ≡ take 8 (drop (8 * k) bytes)
word_back bytes k within small =
    let rest = drop (8 * k) bytes in
    let long : 8 ≤ length rest = omega (arith, length-drop (8 * k) bytes) in
    le_bytes_8 (take 8 rest) (word_at bytes k) (length-take-le 8 rest long)
    (λ i. ⊎_elim
    (λ below. subst (λ (n : ℕ). n < 256) (sym (get_or-take 8 rest i 0 below ∙ get_or-drop (8 * k) bytes i 0)) (small (8 * k + i) (omega arith)))
    (λ past. subst (λ (n : ℕ). n < 256) (sym (get_or_past (take 8 rest) i 0 (omega (arith, length-take-le 8 rest long)))) (omega arith))
    (cases_lt i 8))
    (sym (from_front rest))

words_back : (bytes : List ℕ) (count k : ℕ) → 8 * (k + count) ≤ length bytes → ((i : ℕ) → i < length bytes → get_or bytes i 0 < 256)
    → bytes_of (map (word_at bytes) (range_with_len k count)) ≡ take (8 * count) (drop (8 * k) bytes)
words_back bytes zero k within small = refl
words_back bytes (suc count) k within small =
    let many : 8 * suc count ≡ 8 + 8 * count = omega arith in
    let next : 8 * (k + 1) ≡ 8 * k + 8 = omega arith in
    let tail : bytes_of (map (word_at bytes) (range_with_len (k + 1) count)) ≡ take (8 * count) (drop 8 (drop (8 * k) bytes)) =
    words_back bytes count (k + 1) (omega arith) small ∙ ap (λ n. take (8 * count) (drop n bytes)) next ∙ ap (take (8 * count)) (sym (drop-drop 8 (8 * k) bytes)) in
    let head : to_le_bytes w64 (word_at bytes k) ≡ take 8 (drop (8 * k) bytes) = word_back bytes k (omega arith) small in
    let whole : take (8 * suc count) (drop (8 * k) bytes) ≡ take 8 (drop (8 * k) bytes) ++ take (8 * count) (drop 8 (drop (8 * k) bytes)) =
    ap (λ n. take n (drop (8 * k) bytes)) many ∙ take-add 8 (8 * count) (drop (8 * k) bytes) in
    rw whole (ap (λ front. front ++ bytes_of (map (word_at bytes) (range_with_len (k + 1) count))) head ∙ ap (λ back. take 8 (drop (8 * k) bytes) ++ back) tail)

pub words_keep_their_block : WordsKeepTheirBlock
unfolding block_of_words words_of_block
words_keep_their_block bytes long small =
    words_back bytes 512 0 (omega arith) small ∙ take_all 4096 bytes (omega arith)
