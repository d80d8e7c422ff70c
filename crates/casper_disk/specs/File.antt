use Rattle.std.specs.Prelude.{ℕ}

-- a disk over a file: the number of its blocks, and how many calls failed
pub record Filed : Type 0 where
  pub size : ℕ
  pub faults : ℕ
