use Rattle.std.specs.Prelude.{◌≡◌, ℕ, ◌+◌, ◌==◌, List, [], ◌∷◌, ◌++◌, length, cond, slice_set, Option}
use Rattle.casper_words.specs.declared.page.Right.{Right}
use Rattle.casper_words.specs.declared.call.Call.{Call}
use Rattle.casper_words.specs.declared.call.Op.{Op}

-- what is seen of held pages: the right to each page, if it is held, and its words; the calls made, in order; and how many
-- more there is room for
pub record HeldWords : Type 0 where
  pub right : ℕ → Option Right
  pub words : ℕ → List ℕ
  pub calls : List Call
  pub room : ℕ

-- the call that read this value
abbrev pub read_of : ℕ → ℕ → ℕ → Call
read_of page word value = record { op = Op.Read; page = page; word = word; value = value }

-- the call that wrote this value
abbrev pub write_of : ℕ → ℕ → ℕ → Call
write_of page word value = record { op = Op.Write; page = page; word = word; value = value }

-- the words of all pages with one word set
abbrev pub with_word : (ℕ → List ℕ) → ℕ → ℕ → ℕ → ℕ → List ℕ
with_word words page word value at = cond (at == page) (slice_set (words page) word value) (words at)

-- the words of all pages after a call, by what it does
abbrev pub words_after_op : Op → (ℕ → List ℕ) → ℕ → ℕ → ℕ → ℕ → List ℕ
words_after_op Op.Read words page word value = words
words_after_op Op.Write words page word value = with_word words page word value
words_after_op Op.Touch words page word value = words

-- the words of all pages after these calls
abbrev pub words_after : (ℕ → List ℕ) → List Call → ℕ → List ℕ
words_after words [] = words
words_after words (call ∷ calls) = words_after (words_after_op call.op words call.page call.word call.value) calls

-- a relation of single calls passes through a list of calls
abbrev pub Passes : {S : Type 0} → (S → Call → S → Type 0) → S → List Call → S → Type 0
Passes step before [] after = before ≡ after
Passes step before (call ∷ calls) after = (between : _) × step before call between × Passes step between calls after

-- exactly these calls were made, and nothing else was changed: by what is seen, and by the relation of single calls
pub record HasMade {S : Type 0} (seen : S → HeldWords) (step : S → Call → S → Type 0) (before : S) (calls : List Call) (after : S) : Type 0 where
  pub right : (seen after).right ≡ (seen before).right
  pub words : (seen after).words ≡ words_after (seen before).words calls
  pub made : (seen after).calls ≡ (seen before).calls ++ calls
  pub room : (seen before).room ≡ (seen after).room + length calls
  pub steps : Passes step before calls after
