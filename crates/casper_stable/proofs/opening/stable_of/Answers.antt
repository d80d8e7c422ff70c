use Rattle.casper_stable.proofs.OpeningLemmas.{sure_opened}
use Rattle.casper_stable.proofs.opening.stable_of.Goals as goal

pub invariant_of-of : goal.invariant_of-of
invariant_of-of g c = (
  c.requires.fit,
  λ told. sure_opened (g.D.Disk.content c.args.disk) c.args.found.roots c.args.found.map (g.D.Disk.loose c.args.disk)
      (c.requires.found told) (c.requires.settled told),
)
