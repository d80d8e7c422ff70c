use Rattle.std.specs.Prelude.{ℕ, List}
use Rattle.casper_cache.specs.declared.held.Held.{Held}

-- held pages, the most recently used first, and how many there may be
pub record Bounded : Type 0 where
  pub most : ℕ
  pub held : List Held
