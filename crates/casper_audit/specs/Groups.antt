use Rattle.std.specs.Prelude.{ℕ, ◌-◌, ◌||◌, List, [], slice_index_or}
use Rattle.casper_words.specs.Crew.{has_member, crew_of}
use Rattle.casper_audit.specs.declared.groups.Groups.{Groups}

-- the association of a client
abbrev pub group_in : Groups → ℕ → List ℕ
group_in groups client = slice_index_or groups.crews (client - 1) []

-- the members of the associations of two clients
abbrev pub joint : Groups → ℕ → ℕ → List ℕ
joint groups one other = crew_of (λ client. has_member client (group_in groups one) || has_member client (group_in groups other))
