use Rattle.std.specs.Prelude.{ℕ, List}

-- a list, and how many items can be added to it before it has to take memory
pub record Roomed (T : Type 0) : Type 0 where
  pub items : List T
  pub room : ℕ
