use Rattle.casper_cache.proofs.SoundSteps.{sound-without, sound-graded}
use Rattle.casper_cache.proofs.cache.Cache.give_up.Goals as goal

pub invariant_of-self : goal.invariant_of-self
invariant_of-self c = (rw c.grade.ensures (sound-graded _ _ c.args.page c.self.invariant.0), c.self.invariant.1, rw c.grade.ensures c.self.invariant.2)

pub invariant_of-self-else-keep : goal.invariant_of-self-else-keep
invariant_of-self-else-keep c = (rw c.remove.ensures (sound-without _ c.args.page c.self.invariant.0), c.self.invariant.1, rw c.remove.ensures c.self.invariant.2)

pub returns-then-keep-clause-sound : goal.returns-then-keep-clause-sound
returns-then-keep-clause-sound c = (invariant_of-self c).0

pub returns-else-keep-clause-sound : goal.returns-else-keep-clause-sound
returns-else-keep-clause-sound c = (invariant_of-self-else-keep c).0
