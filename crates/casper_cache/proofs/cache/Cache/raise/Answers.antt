use Rattle.casper_cache.proofs.SoundSteps.{sound-graded}
use Rattle.casper_cache.proofs.cache.Cache.raise.Goals as goal

pub invariant_of-self : goal.invariant_of-self
invariant_of-self c = (rw c.grade.ensures (sound-graded _ _ c.args.page c.self.invariant.0), c.self.invariant.1, rw c.grade.ensures c.self.invariant.2)

pub returns-clause-sound : goal.returns-clause-sound
returns-clause-sound c = (invariant_of-self c).0
