use Rattle.std.proofs.Common.{zero, suc, List, [], ◌∷◌, Bool, true, false, cond, filter, Contains, arith}
use Rattle.casper_trail.proofs.LinkLists.{contains_there}

-- what passes a test among elements is one of them
pub contains_passing : {X : Type 0} (test : X → Bool) (xs : List X) (x : X) → Contains (filter test xs) x → Contains xs x
contains_passing test [] x inside = inside
contains_passing {X} test (first ∷ xs) x inside = by (test first) (λ rest. contains_passing test xs x rest) inside
  where
    by : (passes : Bool) → (Contains (filter test xs) x → Contains xs x) → Contains (cond passes (first ∷ filter test xs) (filter test xs)) x → Contains (first ∷ xs) x
    by false more inside = contains_there first xs x (more inside)
    by true more (zero, below, is) = (zero, omega arith, is)
    by true more (suc place, below, is) = contains_there first xs x (more (place, omega (arith, below), is))
