use Rattle.casper_cache.proofs.SoundSteps.{sound-front}
use Rattle.casper_cache.proofs.cache.Cache.front.Goals as goal

pub invariant_of-self : goal.invariant_of-self
invariant_of-self c = (rw c.front.ensures (sound-front _ c.args.page c.self.invariant.0), c.self.invariant.1, rw c.front.ensures c.self.invariant.2)

pub returns-clause-sound : goal.returns-clause-sound
returns-clause-sound c = (invariant_of-self c).0
