use Rattle.casper_stable.specs.Kept.{Kept}
use Rattle.casper_stable.specs.declared.stable.Stable.{Stable}

-- what a vault over a disk keeps
abbrev pub kept_by : {D : Type 0} {disk : _} → Stable D disk → Kept D
kept_by stable = stable.store
