use Rattle.std.proofs.Common.{◌≡◌, ◌+◌, ◌<◌, ℕ, get_or}
use Rattle.casper_map.specs.Faulty.{frame_at}
use Rattle.casper_map.specs.Numbers.{number_of}
use Rattle.casper_map.proofs.shadow_map.ShadowMap.put_numbers_from.Given as goal

abbrev pub invariant-loop-at : goal.invariant-loop-at
invariant-loop-at l = (k : ℕ) → k < l.at → get_or l.numbers k 0 ≡ number_of (frame_at l.self-inside.places.items (l.from + k))
