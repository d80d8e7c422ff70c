use Rattle.std.proofs.Common.{◌≡◌, ℕ, zero, suc, ◌+◌, ◌*◌, ◌^◌, ◌<◌, ◌≤◌, List, [], ◌∷◌, ◌++◌, length, take, drop, get_or, refl, sym, ◌∙◌, ap, arith}
use Rattle.std.specs.Int.{w32, to_le_bytes, from_le_bytes}
use Rattle.std.specs.List.{flat_map}
use Rattle.std.proofs.lemmas.List.{length-take-le, drop-drop, drop_all, drop_more, take_more, take_all, take_at, drop_at, append-nil}
use Rattle.std.proofs.lemmas.List.Concat.{flat_map-append}
use Rattle.std.proofs.lemmas.List.FromFn.{fill_by_all, length-map-range_with_len}
use Rattle.std.proofs.lemmas.Nat.{from_le_bytes-to_le_bytes_4}
use Rattle.casper_map.specs.Numbers.{block_of_numbers, numbers_of_block, number_at, BlocksKeepTheirNumbers}

-- the bytes of numbers
abbrev pub bytes_of : List ℕ → List ℕ
bytes_of numbers = flat_map (to_le_bytes w32) numbers

length_bytes_of : (numbers : List ℕ) → length (bytes_of numbers) ≡ 4 * length numbers
length_bytes_of [] = refl
length_bytes_of (number ∷ numbers) = omega (arith, length_bytes_of numbers)

drop_first : (number : ℕ) (rest : List ℕ) (n : ℕ) → drop (4 + n) (to_le_bytes w32 number ++ rest) ≡ drop n rest
drop_first number rest n = sym (drop-drop n 4 (to_le_bytes w32 number ++ rest))

drop_numbers : (k : ℕ) (numbers : List ℕ) → drop (4 * k) (bytes_of numbers) ≡ bytes_of (drop k numbers)
drop_numbers zero numbers = refl
drop_numbers (suc k) [] = drop_all (4 * suc k) [] (omega arith)
drop_numbers (suc k) (number ∷ numbers) =
    let e : 4 * suc k ≡ 4 + 4 * k = omega arith in
    rw e (drop_first number (bytes_of numbers) (4 * k) ∙ drop_numbers k numbers)

first_number : (number : ℕ) (rest : List ℕ) → number < 2 ^ 32 → from_le_bytes w32 (to_le_bytes w32 number ++ rest) ≡ number
first_number number rest fits = from_le_bytes-to_le_bytes_4 number fits

number_at_numbers : (numbers : List ℕ) (k : ℕ) → k < length numbers → get_or numbers k 0 < 2 ^ 32 → number_at (bytes_of numbers) k ≡ get_or numbers k 0
number_at_numbers numbers k in_range fits =
    ap (from_le_bytes w32) (drop_numbers k numbers ∙ ap bytes_of (drop_more numbers k 0 in_range))
    ∙ first_number (get_or numbers k 0) (bytes_of (drop (k + 1) numbers)) fits

pub blocks_keep_their_numbers : BlocksKeepTheirNumbers
unfolding block_of_numbers numbers_of_block
blocks_keep_their_numbers numbers long fits =
    sym (fill_by_all (number_at (bytes_of numbers)) numbers 1024 0 long
    (λ k in_range. sym (number_at_numbers numbers k (omega arith) (fits k (omega arith)))))

from_front : (bytes : List ℕ) → from_le_bytes w32 (take 4 bytes) ≡ from_le_bytes w32 bytes
from_front [] = refl
from_front (a ∷ []) = refl
from_front (a ∷ b ∷ []) = refl
from_front (a ∷ b ∷ c ∷ []) = refl
from_front (a ∷ b ∷ c ∷ d ∷ rest) = refl

-- the number that was read from the four bytes at a place
pub number_read : (bytes piece : List ℕ) (k number : ℕ) → piece ≡ take 4 (drop (4 * k) bytes) → number ≡ from_le_bytes w32 piece → number ≡ number_at bytes k
number_read bytes piece k number is from = from ∙ ap (from_le_bytes w32) is ∙ from_front (drop (4 * k) bytes)

-- the numbers that were read one by one
pub numbers_read : (bytes numbers : List ℕ) → length numbers ≡ 1024 → ((k : ℕ) → k < 1024 → get_or numbers k 0 ≡ number_at bytes k) → numbers ≡ numbers_of_block bytes
unfolding numbers_of_block
numbers_read bytes numbers long read = fill_by_all (number_at bytes) numbers 1024 0 long read

pub length_front : (numbers : List ℕ) (i : ℕ) → i ≤ length numbers → length (bytes_of (take i numbers)) ≡ 4 * i
length_front numbers i within = omega (arith, length_bytes_of (take i numbers), length-take-le i numbers within)

bytes_of_more : (numbers : List ℕ) (i : ℕ) → i < length numbers → bytes_of (take (i + 1) numbers) ≡ bytes_of (take i numbers) ++ to_le_bytes w32 (get_or numbers i 0)
bytes_of_more numbers i within =
    ap bytes_of (take_more numbers i 0 within) ∙ flat_map-append (to_le_bytes w32) (take i numbers) (get_or numbers i 0 ∷ [])

-- one number more stands in its place
pub one_number_more : (numbers first into new piece : List ℕ) (i : ℕ) → i < length numbers → into ≡ bytes_of (take i numbers) ++ drop (4 * i) first
    → piece ≡ to_le_bytes w32 (get_or numbers i 0) → new ≡ take (4 * i) into ++ piece ++ drop (4 * i + length piece) into
    → new ≡ bytes_of (take (i + 1) numbers) ++ drop (4 * (i + 1)) first
one_number_more numbers first into new piece i within before is_piece is_new =
    let front = bytes_of (take i numbers) in
    let number = to_le_bytes w32 (get_or numbers i 0) in
    let long : length front ≡ 4 * i = length_front numbers i (omega arith) in
    let behind : drop (4 * i + 4) (front ++ drop (4 * i) first) ≡ drop (4 * (i + 1)) first =
    sym (drop-drop 4 (4 * i) (front ++ drop (4 * i) first)) ∙ ap (drop 4) (drop_at front (drop (4 * i) first) (4 * i) long)
    ∙ drop-drop 4 (4 * i) first ∙ ap (λ n. drop n first) (omega arith) in
    let head : take (4 * i) (front ++ drop (4 * i) first) ≡ front = take_at front (drop (4 * i) first) (4 * i) long in
    is_new ∙ rw (before, is_piece, head, behind, bytes_of_more numbers i within) refl

-- the list that is left at the end
pub all_numbers : (numbers first into : List ℕ) (i : ℕ) → i ≡ 1024 → length numbers ≡ 1024 → length first ≡ 4096 → into ≡ bytes_of (take i numbers) ++ drop (4 * i) first
    → into ≡ block_of_numbers numbers
unfolding block_of_numbers
all_numbers numbers first into i at_end long first_long is =
    let whole : take i numbers ≡ numbers = take_all i numbers (omega arith) in
    let none : drop (4 * i) first ≡ [] = drop_all (4 * i) first (omega arith) in
    is ∙ rw (whole, none) (append-nil (bytes_of numbers))

-- a map block has 1,024 numbers
pub numbers_long : (bytes : List ℕ) → length (numbers_of_block bytes) ≡ 1024
unfolding numbers_of_block
numbers_long bytes = length-map-range_with_len (number_at bytes) 0 1024
