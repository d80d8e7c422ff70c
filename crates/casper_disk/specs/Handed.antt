use Rattle.std.specs.Prelude.{◌==◌, ℕ, ◌+◌, ◌-◌, ◌^◌, min, if◌then◌else◌}

-- how many faults a disk had since it was handed out with so many; where its count stands at the end of its type, as many as can be
abbrev pub faults_since : ℕ → ℕ → ℕ
faults_since handed count = if count == 2 ^ 64 - 1 then 2 ^ 64 - 1 else count - handed

-- a count of faults with as many more, which stands still at the end of its type
abbrev pub faults_with : ℕ → ℕ → ℕ
faults_with count more = min (count + more) (2 ^ 64 - 1)
