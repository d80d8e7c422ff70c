use Rattle.std.proofs.Common.{◌≡◌, ◌≢◌, ℕ, ◌+◌, ◌≤◌, ◌<◌, List, [], ◌∷◌, ◌++◌, length, take, drop, All, get_or, inl, inr, refl, ap, sym, ◌∙◌, subst, append_assoc, append-nil, arith}
use Rattle.std.proofs.Math.ListN.{get_or-append}
use Rattle.std.proofs.Math.Seq.{get_or-append_seam, take-append_seam, drop-append_seam}
use Rattle.std.proofs.lemmas.Bool.{cases_lt, cases_eq}
use Rattle.std.proofs.lemmas.List.{length-append}
use Rattle.std.proofs.lemmas.List.Elements.{All-push}
use Rattle.casper_io.specs.declared.lines.Next.TheVariants as next
use Rattle.casper_io.specs.Lines.{newline, IsShortLine, TakesLine, TakesEnd, TakesTooLong, HasCut, IsCutOnce, EachIsCutOnce}

-- fronts of one length are equal, and so is what stands after them
pub append-same : (front front' back back' : List ℕ) → front ++ back ≡ front' ++ back' → length front ≡ length front'
    → (front ≡ front') × (back ≡ back')
append-same front front' back back' same lengths = (
  sym (take-append_seam front back) ∙ ap (λ bytes. take (length front) bytes) same
      ∙ ap (λ count. take count (front' ++ back')) lengths ∙ take-append_seam front' back',
  sym (drop-append_seam front back) ∙ ap (λ bytes. drop (length front) bytes) same
      ∙ ap (λ count. drop count (front' ++ back')) lengths ∙ drop-append_seam front' back',
)

-- a front with no newline ends before the first newline
pub plain_front : (line after front back : List ℕ) → line ++ newline ∷ after ≡ front ++ back → All (λ byte. byte ≢ newline) front
    → length front ≤ length line
plain_front line after front back same plain =
    elim (cases_lt (length line) (length front)) [
      | inl below ↦ absurd (plain (length line) 0 below
          (sym (get_or-append front back 0 (length line) below)
          ∙ ap (λ bytes. get_or bytes (length line) 0) (sym same)
          ∙ get_or-append_seam line newline after 0))
      | inr within ↦ within
    ]

-- a line that a newline ends is not the last one
pub line_not_last : (line after line' : List ℕ) → line ++ newline ∷ after ≡ line' → All (λ byte. byte ≢ newline) line' → ⊥
line_not_last line after line' same plain =
    let short : length line' ≤ length line = plain_front line after line' [] (same ∙ sym (append-nil line')) plain in
    let whole : length line + length (newline ∷ after) ≡ length line' = sym (length-append line (newline ∷ after)) ∙ ap length same in
    omega arith

pub line_line : (line line' after after' before : List ℕ) → TakesLine line before after → TakesLine line' before after'
    → (line ≡ line') × (after ≡ after')
line_line line line' after after' before first second =
    elim first.cut [
      | inl ended ↦ elim second.cut [
        | inl ended' ↦
            let same : line ++ newline ∷ after ≡ line' ++ newline ∷ after' = sym ended ∙ ended' in
            let least : length line' ≤ length line = plain_front line after line' (newline ∷ after') same second.bytes.plain in
            let most : length line ≤ length line' = plain_front line' after' line (newline ∷ after) (sym same) first.bytes.plain in
            let lengths : length line ≡ length line' = omega arith in
            let parts = append-same line line' (newline ∷ after) (newline ∷ after') same lengths in
            (parts.0, ap (λ bytes. drop 1 bytes) parts.1)
        | inr last' ↦ absurd (line_not_last line after line' (sym ended ∙ last'.0) second.bytes.plain)
      ]
      | inr last ↦ elim second.cut [
        | inl ended' ↦ absurd (line_not_last line' after' line (sym ended' ∙ last.0) first.bytes.plain)
        | inr last' ↦ (sym last.0 ∙ last'.0, last.2 ∙ sym last'.2)
      ]
    ]

pub line_not_end : (line line' after after' before : List ℕ) → TakesLine line before after → TakesEnd line' before after' → ⊥
line_not_end line line' after after' before first second =
    elim first.cut [
      | inl ended ↦
          let none : length line + length (newline ∷ after) ≡ 0 =
          sym (length-append line (newline ∷ after)) ∙ ap length (sym ended ∙ second.nothing) in
          omega arith
      | inr last ↦ last.1 (sym last.0 ∙ second.nothing)
    ]

pub too_long_not_end : (line line' after after' before : List ℕ) → TakesTooLong line before after → TakesEnd line' before after' → ⊥
too_long_not_end line line' after after' before first second =
    let none : length line + length (first.last ∷ after) ≡ 0 =
    sym (length-append line (first.last ∷ after)) ∙ ap length (sym first.cut ∙ second.nothing) in
    omega arith

pub line_not_too_long : (line line' after after' before : List ℕ) → TakesLine line before after → TakesTooLong line' before after' → ⊥
line_not_too_long line line' after after' before first second =
    let all_plain : All (λ byte. byte ≢ newline) (line' ++ second.last ∷ []) =
    All-push (λ byte. byte ≢ newline) line' second.last second.bytes.plain second.plain in
    let long : length (line' ++ second.last ∷ []) ≡ length line' + 1 = length-append line' (second.last ∷ []) in
    let full : length line' ≡ 1024 = second.full in
    let short : length line ≤ 1024 = first.bytes.short in
    let cut : before ≡ (line' ++ second.last ∷ []) ++ after' = second.cut ∙ sym (append_assoc line' (second.last ∷ []) after') in
    elim first.cut [
      | inl ended ↦
          let within : length (line' ++ second.last ∷ []) ≤ length line =
          plain_front line after (line' ++ second.last ∷ []) after' (sym ended ∙ cut) all_plain in
          omega arith
      | inr last ↦
          let whole : length line ≡ length (line' ++ second.last ∷ []) + length after' =
          ap length (sym last.0 ∙ cut) ∙ length-append (line' ++ second.last ∷ []) after' in
          omega arith
    ]

pub too_long_too_long : (line line' after after' before : List ℕ) → TakesTooLong line before after → TakesTooLong line' before after'
    → (line ≡ line') × (after ≡ after')
too_long_too_long line line' after after' before first second =
    let parts = append-same line line' (first.last ∷ after) (second.last ∷ after') (sym first.cut ∙ second.cut) (first.full ∙ sym second.full) in
    (parts.0, ap (λ bytes. drop 1 bytes) parts.1)

pub cut_once : (before : List ℕ) → IsCutOnce before
cut_once before next.Line next.Line line line' after after' first second =
    let parts = line_line line line' after after' before first second in (refl, parts.0, parts.1)
cut_once before next.Line next.End line line' after after' first second = absurd (line_not_end line line' after after' before first second)
cut_once before next.Line next.TooLong line line' after after' first second = absurd (line_not_too_long line line' after after' before first second)
cut_once before next.End next.Line line line' after after' first second = absurd (line_not_end line' line after' after before second first)
cut_once before next.End next.End line line' after after' first second = (refl, first.empty ∙ sym second.empty, first.rest ∙ sym second.rest)
cut_once before next.End next.TooLong line line' after after' first second = absurd (too_long_not_end line' line after' after before second first)
cut_once before next.TooLong next.Line line line' after after' first second = absurd (line_not_too_long line' line after' after before second first)
cut_once before next.TooLong next.End line line' after after' first second = absurd (too_long_not_end line line' after after' before first second)
cut_once before next.TooLong next.TooLong line line' after after' first second =
    let parts = too_long_too_long line line' after after' before first second in (refl, parts.0, parts.1)

-- one more byte of a line
pub short_line-push : (line : List ℕ) (byte : ℕ) → IsShortLine line → length line < 1024 → byte ≢ newline → IsShortLine (line ++ byte ∷ [])
short_line-push line byte bytes room plain = record {
  plain = All-push (λ each. each ≢ newline) line byte bytes.plain plain;
  short = simp length-append (omega arith);
}

-- the cut of a part of a line and of the bytes after it
pub cut_from : (rest line : List ℕ) → IsShortLine line → HasCut (line ++ rest)
cut_from [] [] bytes = (next.End, [], [], record { empty = refl; nothing = refl; rest = refl })
cut_from [] (byte ∷ line) bytes =
    (next.Line, byte ∷ line, [], record { bytes = bytes; cut = inr (append-nil (byte ∷ line), (λ none. cc), refl) })
cut_from (byte ∷ rest) line bytes =
    elim (cases_eq byte newline) [
      | inl same ↦ (next.Line, line, rest, record { bytes = bytes; cut = inl (ap (λ next_byte. line ++ next_byte ∷ rest) same) })
      | inr plain ↦ elim (cases_lt (length line) 1024) [
        | inl room ↦ subst HasCut (append_assoc line (byte ∷ []) rest)
            (cut_from rest (line ++ byte ∷ []) (short_line-push line byte bytes room plain))
        | inr full ↦
            let short : length line ≤ 1024 = bytes.short in (
              next.TooLong,
              line,
              rest,
              record { bytes = bytes; full = omega arith; last = byte; plain = plain; cut = refl },
            )
      ]
    ]

pub each_cut_once : EachIsCutOnce
each_cut_once bytes =
    (cut_from bytes [] (record { plain = λ k default within. absurd (omega arith); short = omega arith }), cut_once bytes)
