use Rattle.std.specs.Prelude.{◌≡◌, ℕ, true, None, Some, Contains}
use Rattle.casper_model.specs.Frozen.{is_member}
use Rattle.casper_model.specs.Shared.{Shared, fallen_at}
use Rattle.casper_model.specs.Stabilisation.{Stabilisation}

-- each loss that is noted is of a member of the association
abbrev pub NotedAreMembers : Shared → Type 0
NotedAreMembers shared = (one : Stabilisation) (lost : ℕ) → Contains shared.stabilisations one → one.noted ≡ Some lost → is_member shared lost one ≡ true

-- each loss that is noted is of a client that is not fallen
abbrev pub NotedAreUp : Shared → Type 0
NotedAreUp shared = (one : Stabilisation) (lost : ℕ) → Contains shared.stabilisations one → one.noted ≡ Some lost → fallen_at shared lost ≡ None
