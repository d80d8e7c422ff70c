use Rattle.std.proofs.Common.{suc, ◌≡◌, ◌≢◌, ℕ, ◌+◌, ◌-◌, ◌<◌, ◌≤◌, Bool, true, false, cond, List, [], ◌∷◌, ◌++◌, length, get_or, take, drop, map, filter, All, Any, Decides, refl, sym, ap, ◌∙◌, inl, inr, subst, arith, ne_eqb, append_assoc, length-drop, lt-ltb, le-ltb}
use Rattle.std.specs.List.{slice_split, onto_first, slice_range}
use Rattle.std.proofs.lemmas.List.{drop_more, map-append, take_all, get_or-drop, get_or-take, get_or_default}
use Rattle.std.proofs.lemmas.List.Elements.{filter-append, All-push, All-nil, All-append}
use Rattle.std.proofs.lemmas.List.Folds.{drop_split}
use Rattle.std.proofs.lemmas.List.Splits.{slice_split_none, length-slice_split}
use Rattle.std.proofs.lemmas.Bool.{and_cases, cases_lt, false≢true}
use Rattle.std.proofs.lemmas.Bool.Decides.{nat_tests, Decides-by_and}
use Rattle.std.proofs.lemmas.Grind.{common_steps}
use Rattle.casper_text.specs.declared.span.Span.{Span}
use Rattle.casper_text.specs.Line.{IsPrintable, is_printable, all_printable, is_space, is_filled, words, IsWord}
use Rattle.casper_text.specs.Span.{word_at, IsWithin, spans_between}

onto_first-append : (x : ℕ) (ps qs : List (List ℕ)) → 0 < length ps → onto_first x (ps ++ qs) ≡ onto_first x ps ++ qs
onto_first-append x [] qs some = absurd (omega arith)
onto_first-append x (part ∷ ps) qs some = refl

split_step : (b : Bool) (x : ℕ) (ps qs : List (List ℕ)) → 0 < length ps → cond b ([] ∷ (ps ++ qs)) (onto_first x (ps ++ qs)) ≡ cond b ([] ∷ ps) (onto_first x ps) ++ qs
split_step true x ps qs some = refl
split_step false x ps qs some = onto_first-append x ps qs some

-- a space parts a line into two lines
slice_split-space : (xs ys : List ℕ) → slice_split is_space (xs ++ 32 ∷ ys) ≡ slice_split is_space xs ++ slice_split is_space ys
slice_split-space [] ys = refl
slice_split-space (x ∷ xs) ys =
    ap (λ parts. cond (is_space x) ([] ∷ parts) (onto_first x parts)) (slice_split-space xs ys)
    ∙ split_step (is_space x) x (slice_split is_space xs) (slice_split is_space ys) (omega (arith, length-slice_split is_space xs))

-- no words stand in an empty line
pub words_none : words [] ≡ []
unfolding words
words_none = refl

-- the words of a line with a space are those before the space and those after it
pub words_space : (xs ys : List ℕ) → words (xs ++ 32 ∷ ys) ≡ words xs ++ words ys
unfolding words
words_space xs ys = ap (filter is_filled) (slice_split-space xs ys) ∙ filter-append is_filled (slice_split is_space xs) (slice_split is_space ys)

filled_one : (word : List ℕ) → 0 < length word → filter is_filled (word ∷ []) ≡ word ∷ []
filled_one [] filled = absurd (omega arith)
filled_one (x ∷ xs) filled = refl

-- a word by itself is the one word of its line
pub words_one : (word : List ℕ) → IsWord word → words word ≡ word ∷ []
unfolding words
words_one word is =
    ap (filter is_filled) (slice_split_none is_space word (λ k d within. ne_eqb _ _ (is.1 k d within)))
    ∙ filled_one word is.0

length_between : (line : List ℕ) (from to : ℕ) → to ≤ length line → length (slice_range line from to) ≡ to - from
length_between line from to within = grind (arith, common_steps)

between_at : (line : List ℕ) (from to k d : ℕ) → k < length (slice_range line from to) → to ≤ length line → get_or (slice_range line from to) k d ≡ 32 → get_or line (from + k) 0 ≡ 32
between_at line from to k d inside within is_space =
    let short = length_between line from to within in
    sym (get_or-drop from line k 0)
    ∙ sym (get_or-take (to - from) (drop from line) k 0 (omega arith))
    ∙ get_or_default (slice_range line from to) k 0 d inside
    ∙ is_space

-- the bytes from one place to another are a word where none of them is a space
between_is_word : (line : List ℕ) (from to : ℕ) → from < to → to ≤ length line → ((k : ℕ) → from ≤ k → k < to → get_or line k 0 ≢ 32) → IsWord (slice_range line from to)
between_is_word line from to some within no_space = (
  omega (arith, length_between line from to within),
  λ k d inside is_space. no_space (from + k) (omega arith) (omega (arith, length_between line from to within)) (between_at line from to k d inside within is_space),
)

-- how far a line was read: up to `at`, where the word that stands there began at `from` or none did
pub record IsRead (line : List ℕ) (spans : List Span) (from at : ℕ) : Type 0 where
  pub begun : from ≤ at
  pub reached : at ≤ length line
  pub no_space : (k : ℕ) → from ≤ k → k < at → get_or line k 0 ≢ 32
  pub read : map (word_at line) spans ++ words (drop from line) ≡ words line
  pub within : All (IsWithin line) spans

abbrev span_at : ℕ → ℕ → Span
span_at from to = record { from = from; to = to }

spans_between-some : (from to : ℕ) → from < to → spans_between from to ≡ span_at from to ∷ []
spans_between-some from to some = ap (λ b. cond b (span_at from to ∷ []) []) (lt-ltb from to some)

spans_between-none : (from to : ℕ) → to ≤ from → spans_between from to ≡ []
spans_between-none from to none = ap (λ b. cond b (span_at from to ∷ []) []) (le-ltb from to none)

-- the words between two bytes without a space
words_between : (line : List ℕ) (from to : ℕ) → from ≤ to → to ≤ length line → ((k : ℕ) → from ≤ k → k < to → get_or line k 0 ≢ 32) → words (slice_range line from to) ≡ map (word_at line) (spans_between from to)
words_between line from to begun within no_space =
    elim (cases_lt from to) [
      | inl some ↦ words_one (slice_range line from to) (between_is_word line from to some within no_space) ∙ sym (ap (map (word_at line)) (spans_between-some from to some))
      | inr none ↦
          let nothing : to - from ≡ 0 = omega arith in
          ap (λ n. words (take n (drop from line))) nothing ∙ words_none ∙ sym (ap (map (word_at line)) (spans_between-none from to none))
    ]

within_between : (line : List ℕ) (from to : ℕ) → to ≤ length line → All (IsWithin line) (spans_between from to)
within_between line from to within =
    elim (cases_lt from to) [
      | inl some ↦ subst (All (IsWithin line)) (sym (spans_between-some from to some)) (All-push (IsWithin line) [] (span_at from to) (All-nil (IsWithin line)) (some, within))
      | inr none ↦ subst (All (IsWithin line)) (sym (spans_between-none from to none)) (All-nil (IsWithin line))
    ]

pub IsRead-start : (line : List ℕ) → IsRead line [] 0 0
IsRead-start line = record {
  begun = omega arith;
  reached = omega arith;
  no_space = λ k low high. absurd (omega arith);
  read = refl;
  within = λ k d none. absurd (omega arith);
}

pub IsRead-more : (line : List ℕ) (spans : List Span) (from at : ℕ) → IsRead line spans from at → at < length line → get_or line at 0 ≢ 32 → IsRead line spans from (at + 1)
IsRead-more line spans from at is inside other = record {
  begun = omega arith;
  reached = omega arith;
  no_space = λ k low high. elim (cases_lt k at) [ inl below ↦ is.no_space k low below | inr here ↦ let e : k ≡ at = omega arith in subst (λ j. get_or line j 0 ≢ 32) (sym e) other ];
  read = is.read;
  within = is.within;
}

-- what is left of a line from the word that a space ends
rest_at_space : (line : List ℕ) (from at : ℕ) → from ≤ at → at < length line → get_or line at 0 ≡ 32 → drop from line ≡ slice_range line from at ++ 32 ∷ drop (at + 1) line
rest_at_space line from at begun inside space =
    drop_split line from at begun ∙ ap (λ rest. slice_range line from at ++ rest) (drop_more line at 0 inside ∙ ap (λ byte. byte ∷ drop (at + 1) line) space)

read_space : (line : List ℕ) (spans : List Span) (from at : ℕ) → IsRead line spans from at → at < length line → get_or line at 0 ≡ 32 → map (word_at line) (spans ++ spans_between from at) ++ words (drop (at + 1) line) ≡ words line
read_space line spans from at is inside space =
    let rest = ap words (rest_at_space line from at is.begun inside space) ∙ words_space (slice_range line from at) (drop (at + 1) line) in
    let here = words_between line from at is.begun is.reached is.no_space in
    let parts = map-append (word_at line) spans (spans_between from at) in
    ap (λ found. found ++ words (drop (at + 1) line)) parts
    ∙ append_assoc (map (word_at line) spans) (map (word_at line) (spans_between from at)) (words (drop (at + 1) line))
    ∙ ap (λ found. map (word_at line) spans ++ (found ++ words (drop (at + 1) line))) (sym here)
    ∙ ap (λ found. map (word_at line) spans ++ found) (sym rest)
    ∙ is.read

pub IsRead-space : (line : List ℕ) (spans : List Span) (from at : ℕ) → IsRead line spans from at → at < length line → get_or line at 0 ≡ 32 → IsRead line (spans ++ spans_between from at) (at + 1) (at + 1)
IsRead-space line spans from at is inside space = record {
  begun = omega arith;
  reached = omega arith;
  no_space = λ k low high. absurd (omega arith);
  read = read_space line spans from at is inside space;
  within = All-append (IsWithin line) spans (spans_between from at) is.within (within_between line from at is.reached);
}

pub record AreWordsOf (line : List ℕ) (spans : List Span) : Type 0 where
  pub words_are : map (word_at line) spans ≡ words line
  pub within : All (IsWithin line) spans

read_end : (line : List ℕ) (spans : List Span) (from : ℕ) → IsRead line spans from (length line) → map (word_at line) (spans ++ spans_between from (length line)) ≡ words line
read_end line spans from is =
    let whole : slice_range line from (length line) ≡ drop from line = take_all (length line - from) (drop from line) (omega (arith, length-drop from line)) in
    let here = words_between line from (length line) is.begun (omega arith) is.no_space in
    map-append (word_at line) spans (spans_between from (length line))
    ∙ ap (λ found. map (word_at line) spans ++ found) (sym here ∙ ap words whole)
    ∙ is.read

pub IsRead-end : (line : List ℕ) (spans : List Span) (from at : ℕ) → length line ≤ at → IsRead line spans from at → AreWordsOf line (spans ++ spans_between from (length line))
IsRead-end line spans from at last is =
    let ended : IsRead line spans from (length line) = subst (IsRead line spans from) (omega arith) is in
    record {
      words_are = read_end line spans from ended;
      within = All-append (IsWithin line) spans (spans_between from (length line)) is.within (within_between line from (length line) (omega arith));
    }

-- the test of a line's bytes, and what it says of each byte or of some byte
printable_byte : (byte : ℕ) → Decides (is_printable byte) (IsPrintable byte)
printable_byte byte = (λ passes. printable_from byte passes, λ is. printable_to byte is.0 is.1)
  where
    printable_from : (byte : ℕ) → is_printable byte ≡ true → IsPrintable byte
    printable_from byte passes = grind (arith, nat_tests)

    printable_to : (byte : ℕ) → 0x20 ≤ byte → byte ≤ 0x7E → is_printable byte ≡ true
    printable_to byte low high = grind (arith, nat_tests)

printable_line : (line : List ℕ) → Decides (all_printable line) (All IsPrintable line)
printable_line line = Decides-by_and is_printable IsPrintable all_printable printable_byte refl (λ _ _. refl) line

abbrev IsOther : ℕ → Type 0
IsOther byte = ¬ (IsPrintable byte)

other_byte : (line : List ℕ) → all_printable line ≡ false → Any IsOther line
other_byte [] fails = cc
other_byte (byte ∷ line) fails =
    elim (and_cases (is_printable byte) (all_printable line) fails) [
      | inl here ↦ (0, byte, omega arith, refl, λ is. absurd (false≢true (sym here ∙ (printable_byte byte).1 is)))
      | inr later ↦ let some = other_byte line later in (suc some.0, some.1, omega (arith, some.2), some.3, some.4)
    ]

false_unless_true : (b : Bool) → (b ≡ true → ⊥) → b ≡ false
false_unless_true true fails = absurd (fails refl)
false_unless_true false fails = refl

pub printable_exactly : (line : List ℕ) (found : Bool) → found ≡ all_printable line → (found ≡ true → All IsPrintable line) × (All IsPrintable line → found ≡ true)
printable_exactly line found is = (λ yes. (printable_line line).0 (sym is ∙ yes), λ all. is ∙ (printable_line line).1 all)

pub printable_refused : (line : List ℕ) (found : Bool) → found ≡ all_printable line → (found ≡ false → Any IsOther line) × (Any IsOther line → found ≡ false)
printable_refused line found is = (λ no. other_byte line (sym is ∙ no), λ some. is ∙ false_unless_true _ (λ yes. some.4 (subst IsPrintable some.3 ((printable_line line).0 yes some.0 some.1 some.2))))
