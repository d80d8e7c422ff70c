use Rattle.std.specs.Prelude.{ℕ, List, [], ◌∷◌, ◌++◌}
use Rattle.casper_text.specs.Line.{IsWord}

-- a line splits into these words: one or more spaces part each two, and spaces may stand at either end
pub data IsSplit : List ℕ → List (List ℕ) → Type 0 where
  ended : IsSplit [] []
  spaced : (line : List ℕ) (list : List (List ℕ)) → IsSplit line list → IsSplit (32 ∷ line) list
  last_word : (word : List ℕ) → IsWord word → IsSplit word (word ∷ [])
  parted : (word line : List ℕ) (list : List (List ℕ)) → IsWord word → IsSplit line list → IsSplit (word ++ 32 ∷ line) (word ∷ list)
