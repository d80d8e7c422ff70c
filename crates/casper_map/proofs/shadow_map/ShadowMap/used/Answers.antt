use Rattle.std.proofs.Common.{◌≡◌, ◌+◌, length, subst, arith}
use Rattle.casper_map.specs.Mapped.{Mapped, free_frames}
use Rattle.casper_map.proofs.CountLemmas.{all_counted}
use Rattle.casper_map.proofs.shadow_map.ShadowMap.used.Goals as goal

pub returns-clause-free : goal.returns-clause-free
returns-clause-free c =
    subst (λ (held : Mapped). c.self.inside.used + length (free_frames held) ≡ held.frames) c.self.view_is
    (omega (arith, c.self.invariant.counted, all_counted c.self.inside.places.items (length c.self.inside.named) c.self.invariant.apart c.self.invariant.below))
