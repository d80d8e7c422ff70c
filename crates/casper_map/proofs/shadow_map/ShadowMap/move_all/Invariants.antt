use Rattle.std.proofs.Common.{◌≡◌, take}
use Rattle.casper_map.specs.Planned.{with_moves}
use Rattle.casper_map.proofs.shadow_map.ShadowMap.move_all.Given as goal

abbrev pub invariant-loop-target : goal.invariant-loop-target
invariant-loop-target l =
    l.self ≡ record l.initial.self { places = with_moves l.first (take l.target-index l.moves) l.initial.self.places }
