use Rattle.casper_map.proofs.PlanLemmas.{Taken}
use Rattle.casper_map.proofs.shadow_map.ShadowMap.lowest_free.Given as goal

abbrev pub invariant-loop-taken : goal.invariant-loop-taken
invariant-loop-taken l = Taken l.self-inside.places.items l.self-inside.named l.frames.items l.from l._taken
