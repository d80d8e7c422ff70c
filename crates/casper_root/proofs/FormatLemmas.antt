use Rattle.std.proofs.Common.{◌≡◌, ℕ, zero, suc, ◌+◌, ◌-◌, ◌*◌, ◌<◌, ◌≤◌, ◌^◌, List, [], ◌∷◌, length, get_or, take, drop, replicate, inl, inr, refl, sym, ◌∙◌, ap, arith, length-append, true}
use Rattle.std.specs.Prelude.{codes, slice_index}
use Rattle.std.proofs.lemmas.Bool.{cases_lt}
use Rattle.std.proofs.lemmas.List.{length-replicate, get_or-take, get_or_append_left, get_or-append_right, get_or-replicate, get_or_past, take_at, take-take}
use Rattle.byteorder.specs.Endian.{little_number}
use Rattle.casper_words.specs.Padded.{padded}
use Rattle.casper_rec.specs.Table.{IsTable, StandFrom}
use Rattle.casper_rec.specs.Values.{values_of, with_value}
use Rattle.casper_rec.proofs.FieldLemmas.{length-with_value}
use Rattle.casper_rec.proofs.TableLemmas.{take-with_values, values_of-with_values}
use Rattle.casper_root.specs.Choice.{is_open}
use Rattle.casper_root.specs.Format.{numbers_from, header_fields, header_values, header_block, body_fields, body_values, body_block, open_gate_block, zero_block}
use Rattle.casper_root.specs.Opening.{has_name, version_of, as_body}
use Rattle.casper_root.specs.FormatLaws.{HeadersAreRead, BodiesAreRead, GatesAreRead}
use Rattle.casper_root.specs.declared.header.Header.{Header}
use Rattle.casper_root.specs.declared.body.Body.{Body}
use Rattle.casper_root.specs.declared.found.FoundBody.{FoundBody}
use Rattle.casper_root.proofs.BlockLemmas.{numbers_fit}

-- numbers of four bytes stand one after the other
numbers_stand : (from byte count : ℕ) → from ≤ byte → byte + 4 * count ≤ 4096 → StandFrom from (numbers_from byte count)
numbers_stand from byte zero before within = tt
numbers_stand from byte (suc count) before within =
    (before, record { width = inl refl; within = omega arith }, numbers_stand (byte + 4) (byte + 4) count (omega arith) (omega arith))

-- a number of eight bytes and others of four after it
eight_and_others : (count : ℕ) → count ≤ 17 → IsTable (record { offset = 0; width = 8 } ∷ numbers_from 8 count)
eight_and_others count few = (omega arith, record { width = inr refl; within = omega arith }, numbers_stand 8 8 count (omega arith) (omega arith))

zeros_are_a_block : length zero_block ≡ 4096
zeros_are_a_block = length-replicate {A = ℕ} 4096 0

-- three numbers below 2^64
three_wide : (x y z : ℕ) → x < 2 ^ 64 → y < 2 ^ 64 → z < 2 ^ 64 → (k : ℕ) → get_or (x ∷ y ∷ z ∷ []) k 0 < 2 ^ 64
three_wide x y z in_x in_y in_z zero = in_x
three_wide x y z in_x in_y in_z (suc zero) = in_y
three_wide x y z in_x in_y in_z (suc (suc zero)) = in_z
three_wide x y z in_x in_y in_z (suc (suc (suc k))) = omega arith

-- two numbers below 2^64 and others
two_wide : (x y : ℕ) (rest : List ℕ) → x < 2 ^ 64 → y < 2 ^ 64 → ((k : ℕ) → get_or rest k 0 < 2 ^ 32) → (k : ℕ) → get_or (x ∷ y ∷ rest) k 0 < 2 ^ 64
two_wide x y rest in_x in_y others zero = in_x
two_wide x y rest in_x in_y others (suc zero) = in_y
two_wide x y rest in_x in_y others (suc (suc k)) = let other : get_or rest k 0 < 2 ^ 32 = others k in omega arith

-- the numbers of a header are read
header_values_read : (header : Header) → header.pages < 2 ^ 32 → header.frames < 2 ^ 32 → values_of header_fields (header_block header) ≡ header_values header
unfolding header_block
header_values_read header pages frames =
    values_of-with_values 0 header_fields (header_values header) zero_block (eight_and_others 2 (omega arith)) zeros_are_a_block refl
    ((λ four. absurd (omega arith)), ((λ four. pages), ((λ four. frames), tt)))
    (three_wide (little_number 8 (codes "CASPER01")) header.pages header.frames (omega arith) (omega arith) (omega arith))

-- the first eight bytes of a header
header_name : (header : Header) → take 8 (header_block header) ≡ codes "CASPER01"
unfolding header_block with_value
header_name header =
    let name : List ℕ = with_value zero_block (record { offset = 0; width = 8 }) (little_number 8 (codes "CASPER01")) in
    let long : length name ≡ 4096 = length-with_value zero_block (record { offset = 0; width = 8 }) (little_number 8 (codes "CASPER01")) (record { width = inr refl; within = omega arith }) zeros_are_a_block in
    take-with_values 8 (numbers_from 8 2) (header.pages ∷ header.frames ∷ []) name 8 (numbers_stand 8 8 2 (omega arith) (omega arith)) long (omega arith)
    ∙ take_at (codes "CASPER01") (drop 8 zero_block) 8 refl

-- a list that begins with eight bytes has their name and their version
named : (block : List ℕ) → take 8 block ≡ codes "CASPER01" → (has_name block ≡ true) × (version_of block ≡ 1)
named block begins =
    let six : take 6 block ≡ codes "CASPER" = sym (take-take 6 8 block (omega arith)) ∙ ap (take 6) begins in
    let tens : slice_index block 6 ≡ 48 = sym (get_or-take 8 block 6 0 (omega arith)) ∙ ap (λ list. slice_index list 6) begins in
    let ones : slice_index block 7 ≡ 49 = sym (get_or-take 8 block 7 0 (omega arith)) ∙ ap (λ list. slice_index list 7) begins in
    (rw (six, tens, ones) refl, rw (tens, ones) refl)

pub headers_are_read : HeadersAreRead
headers_are_read header pages frames =
    let name = named (header_block header) (header_name header) in
    let values = header_values_read header pages frames in
    let sizes : List ℕ → Header = λ list. record { pages = slice_index list 1; frames = slice_index list 2 } in
    (name.0, name.1, ap sizes values)

-- so are zeros
zeros : (n k : ℕ) → get_or (replicate n 0) k 0 < 2 ^ 32
zeros n k = elim (cases_lt k n) [
  | inl within ↦ rw (get_or-replicate {A = ℕ} n k 0 0 within) (omega arith)
  | inr past ↦ let long : length {A = ℕ} (replicate n 0) ≡ n = length-replicate {A = ℕ} n 0 in rw (get_or_past {X = ℕ} (replicate n 0) k 0 (omega arith)) (omega arith)
]

-- each number of a body is below 2^32
padded_small : (size : ℕ) (list : List ℕ) → ((k : ℕ) → slice_index list k < 2 ^ 32) → (k : ℕ) → get_or (padded size 0 list) k 0 < 2 ^ 32
padded_small size list small k = elim (cases_lt k (length list)) [
  | inl within ↦ rw (get_or_append_left list (replicate (size - length list) 0) 0 k within) (small k)
  | inr past ↦ rw (get_or-append_right list (replicate (size - length list) 0) (length list) k 0 refl past) (zeros (size - length list) (k - length list))
]

-- a list with zeros after it fills its places
length-padded : (size : ℕ) (list : List ℕ) → length list ≤ size → length (padded size 0 list) ≡ size
length-padded size list few =
    let rest : length {A = ℕ} (replicate (size - length list) 0) ≡ size - length list = length-replicate {A = ℕ} (size - length list) 0 in
    length-append list (replicate (size - length list) 0) ∙ ap (λ n. length list + n) rest ∙ (omega arith)

-- the numbers of a body are read
body_values_read : (body : Body) → body.seq < 2 ^ 64 → length body.maps ≤ 16 → ((k : ℕ) → slice_index body.maps k < 2 ^ 32) → values_of body_fields (body_block body) ≡ body_values body
unfolding body_block
body_values_read body seq few small =
    let size : length (padded 16 0 body.maps) ≡ 16 = length-padded 16 body.maps few in
    let each = padded_small 16 body.maps small in
    values_of-with_values 0 body_fields (body_values body) zero_block (eight_and_others 17 (omega arith)) zeros_are_a_block (omega arith)
    ((λ four. absurd (omega arith)), ((λ four. omega arith), numbers_fit 12 16 (padded 16 0 body.maps) (λ k within. each k)))
    (two_wide body.seq (length body.maps) (padded 16 0 body.maps) seq (omega arith) each)

pub bodies_are_read : BodiesAreRead
bodies_are_read body seq few small =
    let values = body_values_read body seq few small in
    let found : List ℕ → FoundBody = λ list. record { seq = slice_index list 0; count = slice_index list 1; numbers = drop 2 list } in
    let read = ap found values in
    let maps : take (length body.maps) (padded 16 0 body.maps) ≡ body.maps = take_at body.maps (replicate (16 - length body.maps) 0) (length body.maps) refl in
    let with_maps : List ℕ → Body = λ list. record { seq = body.seq; maps = list } in
    (read, ap as_body read ∙ ap with_maps maps)

pub gates_are_read : GatesAreRead
unfolding open_gate_block with_value
gates_are_read = (refl, ap is_open (get_or-replicate {A = ℕ} 4096 0 0 0 (omega arith)))
