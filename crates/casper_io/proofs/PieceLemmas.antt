use Rattle.std.proofs.Common.{◌≡◌, ◌≢◌, ℕ, suc, subst, append_assoc, ◌+◌, ◌-◌, ◌<◌, ◌≤◌, List, [], ◌∷◌, ◌++◌, length, take, drop, All, get_or, Some, None, ◌==◌, refl, ap, sym, ◌∙◌, arith, rules}
use Rattle.std.proofs.Math.Seq.{split_at}
use Rattle.std.proofs.lemmas.List.{get_or-take, get_or_default, take_all, append-nil, length-append, places}
use Rattle.std.proofs.lemmas.Bool.{eqb-true}
use Rattle.memchr.specs.Find.{IsFirstByte, Nowhere, Passes, is_byte}
use Rattle.casper_io.specs.Lines.{newline}
use Rattle.casper_io.specs.Piece.{AddsBytes}

-- where no byte below a place is found to be a newline, none is one
front_plain : (bytes : List ℕ) (reach count : ℕ) → count ≤ reach → reach ≤ length bytes
    → Nowhere (Passes (is_byte newline) (take reach bytes)) 0 count → All (λ byte. byte ≢ newline) (take count bytes)
front_plain bytes reach count least within none k d below same =
    let low : k < count = grind (arith, places) in
    let within_reach : k < reach = omega arith in
    let within_bytes : k < length bytes = omega arith in
    none k (search rules) low (ap (λ (byte : ℕ). byte == newline)
    (get_or-take reach bytes k 0 within_reach ∙ get_or_default bytes k 0 d within_bytes ∙ sym (get_or-take count bytes k d low) ∙ same))

-- a line that grows by the front of some bytes
grows_by_front : (bytes line line_after : List ℕ) (reach count : ℕ) → count ≤ reach → reach ≤ length bytes
    → Nowhere (Passes (is_byte newline) (take reach bytes)) 0 count → line_after ≡ line ++ take count bytes → length line_after ≤ 1024
    → AddsBytes (take count bytes) line line_after
grows_by_front bytes line line_after reach count least within none added short = record {
  plain = front_plain bytes reach count least within none;
  added = added;
  short = short;
}

-- bytes, cut around one of them
cut_at : (bytes : List ℕ) (at after byte : ℕ) → at < length bytes → suc at ≡ after → get_or bytes at 0 ≡ byte
    → bytes ≡ (take at bytes ++ byte ∷ []) ++ drop after bytes
cut_at bytes at after byte inside next is =
    split_at bytes at 0 inside ∙ ap (λ (one : ℕ). take at bytes ++ one ∷ drop (suc at) bytes) is
    ∙ ap (λ (n : ℕ). take at bytes ++ byte ∷ drop n bytes) next
    ∙ sym (append_assoc (take at bytes) (byte ∷ []) (drop after bytes))

-- the first newline is found: the line grows by what stands before it
pub rest_of_line : (bytes line line_after : List ℕ) (reach at : ℕ) → reach ≤ length bytes → reach ≤ (1024 - length line) + 1 → length line ≤ 1024
    → IsFirstByte (is_byte newline) (take reach bytes) (Some at) → line_after ≡ line ++ take at bytes
    → AddsBytes (take at bytes) line line_after × (bytes ≡ (take at bytes ++ newline ∷ []) ++ drop (at + 1) bytes)
rest_of_line bytes line line_after reach at within room short first added =
    let low : at < reach = grind (arith, places) in
    let inside : at < length bytes = omega arith in
    let byte_is : get_or bytes at 0 ≡ newline = sym (get_or-take reach bytes at 0 low) ∙ eqb-true _ _ first.1 in
    let lengths : length line_after ≡ length (line ++ take at bytes) = ap length added in
    let fits : length line_after ≤ 1024 = grind (arith, places) in (
      grows_by_front bytes line line_after reach at (omega arith) within first.0.before added fits,
      cut_at bytes at (at + 1) newline inside (omega arith) byte_is,
    )

-- no newline is found below a place
nowhere_below : (bytes : List ℕ) (reach count : ℕ) → count ≤ reach → reach ≤ length bytes
    → IsFirstByte (is_byte newline) (take reach bytes) None → Nowhere (Passes (is_byte newline) (take reach bytes)) 0 count
nowhere_below bytes reach count least within none k low high = none k low (grind (arith, places))

-- no newline is found, and there are more bytes than the line has room for
pub too_long_piece : (bytes line line_after : List ℕ) (reach room : ℕ) → reach ≤ length bytes → reach ≡ room + 1 → room + length line ≡ 1024
    → IsFirstByte (is_byte newline) (take reach bytes) None → line_after ≡ line ++ take room bytes
    → AddsBytes (take room bytes) line line_after × (length line_after ≡ 1024) × (last : ℕ) × (last ≢ newline) × (bytes ≡ (take room bytes ++ last ∷ []) ++ drop reach bytes)
too_long_piece bytes line line_after reach room within more whole none added =
    let inside : room < length bytes = omega arith in
    let lengths : length line_after ≡ length (line ++ take room bytes) = ap length added in
    let full : length line_after ≡ 1024 = grind (arith, places) in
    let low : room ≤ reach = omega arith in
    let plain = front_plain bytes reach reach (omega arith) within (nowhere_below bytes reach reach (omega arith) within none) in
    let at_room : room < length (take reach bytes) = grind (arith, places) in
    let below_reach : room < reach = omega arith in
    let next : suc room ≡ reach = omega arith in (
      grows_by_front bytes line line_after reach room low within (nowhere_below bytes reach room low within none) added (omega arith),
      full,
      get_or bytes room 0,
      (λ same. plain room 0 at_room (get_or-take reach bytes room 0 below_reach ∙ same)),
      cut_at bytes room reach (get_or bytes room 0) inside next refl,
    )

-- no newline is found, and the line has room for all bytes
pub part_of_line : (bytes line line_after : List ℕ) (reach : ℕ) → reach ≡ length bytes → reach ≢ 0 → reach + length line ≤ 1024
    → IsFirstByte (is_byte newline) (take reach bytes) None → line_after ≡ line ++ bytes
    → AddsBytes bytes line line_after × (bytes ≢ []) × (bytes ≡ bytes ++ drop reach bytes)
part_of_line bytes line line_after reach whole some room none added =
    let within : reach ≤ length bytes = omega arith in
    let all : take reach bytes ≡ bytes = take_all reach bytes (omega arith) in
    let lengths : length line_after ≡ length line + length bytes = ap length added ∙ length-append line bytes in
    let rest : drop reach bytes ≡ [] = grind (arith, places) in (
      record {
        plain = subst (λ (part : List ℕ). All (λ byte. byte ≢ newline) part) all
            (front_plain bytes reach reach (omega arith) within (nowhere_below bytes reach reach (omega arith) within none));
        added = added;
        short = omega arith;
      },
      (λ empty. some (whole ∙ ap length empty)),
      sym (append-nil bytes) ∙ ap (λ (part : List ℕ). bytes ++ part) (sym rest),
    )
