use Rattle.std.proofs.Common.{◌≡◌, ℕ, ◌+◌, ◌-◌, ◌<◌, ◌≤◌, ◌^◌, List, [], ◌++◌, length, get_or, take, drop, ◌⊎◌, inl, inr, sym, ◌∙◌, ap, subst, arith, append_assoc, length-append, length-drop, length-take-le}
use Rattle.std.proofs.lemmas.List.{append-nil, take-append-le, take-take, drop_at, drop-take, get_or_append_left, get_or-take, get_or-append_right, get_or-drop}
use Rattle.byteorder.specs.Endian.{little_bytes, little_number}
use Rattle.byteorder.specs.Numbers.{length-bytes_low_first, little_from-take, little_number-reads_back}
use Rattle.casper_rec.specs.declared.field.Field.{Field}
use Rattle.casper_rec.specs.Table.{IsField}
use Rattle.casper_rec.specs.Values.{value_at, with_value}

-- what writing the bytes of a number at a field makes of the block
pub put_is_with_value : (block : List ℕ) (field : Field) (value width : ℕ) (bytes rest new : List ℕ)
    → field.width ≡ width → bytes ≡ little_bytes width value ++ rest → rest ≡ []
    → new ≡ take field.offset block ++ bytes ++ drop (field.offset + length bytes) block
    → new ≡ with_value block field value
unfolding with_value
put_is_with_value block field value width bytes rest new wide written empty put =
    let same : bytes ≡ little_bytes field.width value = written ∙ ap (λ tail. little_bytes width value ++ tail) empty ∙ append-nil (little_bytes width value) ∙ ap (λ n. little_bytes n value) (sym wide) in
    let long : length bytes ≡ field.width = ap length same ∙ length-bytes_low_first 0 field.width value in
    put ∙ ap (λ n. take field.offset block ++ bytes ++ drop (field.offset + n) block) long
    ∙ ap (λ list. take field.offset block ++ list ++ drop (field.offset + field.width) block) same

-- a block keeps its length where a number is written
pub length-with_value : (block : List ℕ) (field : Field) (value : ℕ) → IsField field → length block ≡ 4096 → length (with_value block field value) ≡ 4096
unfolding with_value
length-with_value block field value held long =
    let within : field.offset + field.width ≤ 4096 = held.within in
    let front : length (take field.offset block) ≡ field.offset = length-take-le field.offset block (omega arith) in
    let middle : length (little_bytes field.width value) ≡ field.width = length-bytes_low_first 0 field.width value in
    let back : length (drop (field.offset + field.width) block) ≡ length block - (field.offset + field.width) = length-drop (field.offset + field.width) block in
    let whole : length (take field.offset block ++ little_bytes field.width value ++ drop (field.offset + field.width) block) ≡ length (take field.offset block ++ little_bytes field.width value) + length (drop (field.offset + field.width) block) = length-append _ _ in
    let two : length (take field.offset block ++ little_bytes field.width value) ≡ length (take field.offset block) + length (little_bytes field.width value) = length-append _ _ in
    omega arith

-- the bytes in front of a field stay
pub take-with_value : (block : List ℕ) (field : Field) (value place : ℕ) → IsField field → length block ≡ 4096 → place ≤ field.offset → take place (with_value block field value) ≡ take place block
unfolding with_value
take-with_value block field value place held long before =
    let within : field.offset + field.width ≤ 4096 = held.within in
    let front : length (take field.offset block) ≡ field.offset = length-take-le field.offset block (omega arith) in
    ap (take place) (append_assoc (take field.offset block) (little_bytes field.width value) (drop (field.offset + field.width) block))
    ∙ take-append-le place (take field.offset block) (little_bytes field.width value ++ drop (field.offset + field.width) block) (omega arith)
    ∙ take-take place field.offset block before

-- a field's number is that of the bytes before its end
pub value_at-take : (block : List ℕ) (field : Field) → value_at block field ≡ little_number field.width (drop field.offset (take (field.offset + field.width) block))
unfolding value_at
value_at-take block field =
    sym (little_from-take 0 field.width field.width (drop field.offset block) (omega arith))
    ∙ ap (little_number field.width) (sym (drop-take field.offset field.width block))

-- a number is below the limit of its field
pub fits_width : (field : Field) (value : ℕ) → IsField field → (field.width ≡ 4 → value < 2 ^ 32) → value < 2 ^ 64 → value < 256 ^ field.width
fits_width field value held narrow wide =
    elim held.width [
      | inl four ↦ let P : ℕ → Type 0 = λ n. value < 256 ^ n in subst P (sym four) (narrow four)
      | inr eight ↦ let P : ℕ → Type 0 = λ n. value < 256 ^ n in subst P (sym eight) wide
    ]

-- a number that was written is read
pub value_at-with_value : (block : List ℕ) (field : Field) (value : ℕ) → IsField field → length block ≡ 4096 → value < 256 ^ field.width → value_at (with_value block field value) field ≡ value
unfolding value_at with_value
value_at-with_value block field value held long fits =
    let within : field.offset + field.width ≤ 4096 = held.within in
    let front : length (take field.offset block) ≡ field.offset = length-take-le field.offset block (omega arith) in
    ap (λ list. little_number field.width (drop field.offset list)) (append_assoc (take field.offset block) (little_bytes field.width value) (drop (field.offset + field.width) block))
    ∙ ap (little_number field.width) (drop_at (take field.offset block) (little_bytes field.width value ++ drop (field.offset + field.width) block) field.offset front)
    ∙ little_number-reads_back field.width value (drop (field.offset + field.width) block) fits

-- a byte outside a field stays
pub byte_outside : (block : List ℕ) (field : Field) (value place : ℕ) → IsField field → length block ≡ 4096 → (place < field.offset) ⊎ (field.offset + field.width ≤ place) → get_or (with_value block field value) place 0 ≡ get_or block place 0
unfolding with_value
byte_outside block field value place held long outside =
    let within : field.offset + field.width ≤ 4096 = held.within in
    let front : length (take field.offset block) ≡ field.offset = length-take-le field.offset block (omega arith) in
    let middle : length (little_bytes field.width value) ≡ field.width = length-bytes_low_first 0 field.width value in
    let two : length (take field.offset block ++ little_bytes field.width value) ≡ length (take field.offset block) + length (little_bytes field.width value) = length-append _ _ in
    elim outside [
      | inl before ↦
          ap (λ list. get_or list place 0) (append_assoc (take field.offset block) (little_bytes field.width value) (drop (field.offset + field.width) block))
          ∙ get_or_append_left (take field.offset block) (little_bytes field.width value ++ drop (field.offset + field.width) block) 0 place (omega arith)
          ∙ get_or-take field.offset block place 0 before
      | inr behind ↦
          let from : field.offset + field.width + (place - (field.offset + field.width)) ≡ place = omega arith in
          get_or-append_right (take field.offset block ++ little_bytes field.width value) (drop (field.offset + field.width) block) (field.offset + field.width) place 0 (omega arith) behind
          ∙ get_or-drop (field.offset + field.width) block (place - (field.offset + field.width)) 0
          ∙ ap (λ n. get_or block n 0) from
    ]
