use Rattle.std.specs.Prelude.{ℕ, ◌+◌, ◌-◌, ◌^◌, ◌≤◌, min}

-- a count of faults rose, or stands at the end of its type
abbrev pub FaultCountRose : ℕ → ℕ → Type 0
FaultCountRose before now = min (before + 1) (2 ^ 64 - 1) ≤ now
