use Rattle.std.specs.Prelude.{◌≡◌, ℕ, ◌<◌, List, [], length, take, Option, Some, None}
use Rattle.std.specs.Io.KnownBytes.{append_known}

-- both tell and their bytes are so related, or neither tells
abbrev pub WhereTold : Option (List ℕ) → Option (List ℕ) → (List ℕ → List ℕ → Type 0) → Type 0
WhereTold None None Related = Unit {0}
WhereTold None (Some after) Related = ⊥
WhereTold (Some before) None Related = ⊥
WhereTold (Some before) (Some after) Related = Related before after

-- nothing was left, and nothing is
abbrev pub AreBothEmpty : List ℕ → List ℕ → Type 0
AreBothEmpty before after = (before ≡ []) × (after ≡ [])

-- some bytes from the front were taken, but not all
pub record TakesFront (before after : Option (List ℕ)) (bytes : List ℕ) : Type 0 where
  pub count : ℕ
  pub short : count < length bytes
  pub taken : after ≡ append_known before (take count bytes)
