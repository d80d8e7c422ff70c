use Rattle.std.proofs.Common.{zero, suc, ◌≡◌, ◌≢◌, ℕ, ◌↔◌, List, [], ◌∷◌, ◌++◌, All, sym, ap, ◌∙◌, inl, inr, subst, arith}
use Rattle.std.specs.List.{join_with_byte}
use Rattle.std.proofs.lemmas.List.Elements.{All-nil}
use Rattle.std.proofs.lemmas.Bool.Decides.{eqb_tells}
use Rattle.casper_text.specs.Line.{words, IsWord}
use Rattle.casper_text.specs.Split.{IsSplit, ended, spaced, last_word, parted}
use Rattle.casper_text.proofs.LineLemmas.{words_none, words_space, words_one}

-- a line splits into its words alone
pub words_from_split : (line : List ℕ) (list : List (List ℕ)) → IsSplit line list → words line ≡ list
words_from_split line list ended = words_none
words_from_split line list (spaced rest list' split) = words_space [] rest ∙ ap (λ none. none ++ words rest) words_none ∙ words_from_split rest list' split
words_from_split line list (last_word word is) = words_one word is
words_from_split line list (parted word rest list' is split) =
    words_space word rest
    ∙ ap (λ first. first ++ words rest) (words_one word is)
    ∙ ap (λ others. word ∷ others) (words_from_split rest list' split)

All-cons : {X : Type 0} (P : X → Type 0) (x : X) (xs : List X) → P x → All P xs → All P (x ∷ xs)
All-cons P x xs here later zero d within = here
All-cons P x xs here later (suc k) d within = later k d (omega arith)

letter_is_word : (byte : ℕ) → byte ≢ 32 → IsWord (byte ∷ [])
letter_is_word byte other = (omega arith, All-cons (λ b. b ≢ 32) byte [] other (All-nil (λ b. b ≢ 32)))

longer_is_word : (byte : ℕ) (word : List ℕ) → byte ≢ 32 → IsWord word → IsWord (byte ∷ word)
longer_is_word byte word other is = (omega arith, All-cons (λ b. b ≢ 32) byte word other is.1)

-- a line splits, so with a byte before it
abbrev Splits : List ℕ → Type 0
Splits line = (list : List (List ℕ)) × IsSplit line list

split_letter : (byte : ℕ) (line : List ℕ) (list : List (List ℕ)) → byte ≢ 32 → IsSplit line list → Splits (byte ∷ line)
split_letter byte line list other ended = ((byte ∷ []) ∷ [], last_word (byte ∷ []) (letter_is_word byte other))
split_letter byte line list other (spaced rest list' split) = ((byte ∷ []) ∷ list', parted (byte ∷ []) rest list' (letter_is_word byte other) split)
split_letter byte line list other (last_word word is) = ((byte ∷ word) ∷ [], last_word (byte ∷ word) (longer_is_word byte word other is))
split_letter byte line list other (parted word rest list' is split) = ((byte ∷ word) ∷ list', parted (byte ∷ word) rest list' (longer_is_word byte word other is) split)

split_some : (line : List ℕ) → Splits line
split_some [] = ([], ended)
split_some (byte ∷ line) =
    let rest = split_some line in
    elim (eqb_tells byte 32) [
      | inl space ↦ (rest.0, subst (λ b. IsSplit (b ∷ line) rest.0) (sym space.1) (spaced line rest.0 rest.1))
      | inr other ↦ split_letter byte line rest.0 other.1 rest.1
    ]

pub split_into_words : (line : List ℕ) → IsSplit line (words line)
split_into_words line =
    let some = split_some line in
    subst (IsSplit line) (sym (words_from_split line some.0 some.1)) some.1

pub splits_one_way : (line : List ℕ) (list : List (List ℕ)) → IsSplit line list ↔ (words line ≡ list)
splits_one_way line list = (words_from_split line list, λ are. subst (IsSplit line) are (split_into_words line))

words_from_parts : (line : List ℕ) (list : List (List ℕ)) → IsSplit line list → All IsWord list
words_from_parts line list ended = All-nil IsWord
words_from_parts line list (spaced rest list' split) = words_from_parts rest list' split
words_from_parts line list (last_word word is) = All-cons IsWord word [] is (All-nil IsWord)
words_from_parts line list (parted word rest list' is split) = All-cons IsWord word list' is (words_from_parts rest list' split)

pub words_are_words : (line : List ℕ) → All IsWord (words line)
words_are_words line = words_from_parts line (words line) (split_into_words line)

split_joined : (list : List (List ℕ)) → All IsWord list → IsSplit (join_with_byte 32 list) list
split_joined [] all = ended
split_joined (word ∷ []) all = last_word word (all 0 word (omega arith))
split_joined (word ∷ next ∷ list) all =
    parted word (join_with_byte 32 (next ∷ list)) (next ∷ list) (all 0 word (omega arith)) (split_joined (next ∷ list) (λ k d within. all (suc k) d (omega arith)))

pub joined_words : (list : List (List ℕ)) → All IsWord list → words (join_with_byte 32 list) ≡ list
joined_words list all = words_from_split (join_with_byte 32 list) list (split_joined list all)
