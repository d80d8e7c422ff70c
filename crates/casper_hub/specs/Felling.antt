use Rattle.std.specs.Prelude.{ℕ, List, Bool, ◌&&◌, nat_lt}
use Rattle.casper_words.specs.Crew.{has_member}

-- whether a client with a lesser number than this is a member
abbrev pub is_among : ℕ → List ℕ → ℕ → Bool
is_among number members who = nat_lt 0 who && (nat_lt who number && has_member who members)
