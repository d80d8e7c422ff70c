use Rattle.std.specs.Prelude.{ℕ, List}

-- what contracts see of a job: the lead of the association, and its pages, each with the words that it is to have
pub record JobView : Type 0 where
  pub lead : ℕ
  pub changes : List (ℕ × List ℕ)
