use Rattle.std.proofs.Common.{inl}
use Rattle.casper_root.proofs.PartLemmas.{pair_decides}
use Rattle.casper_root.proofs.opening.open_pair.Goals as goal

pub returns-clause-root : goal.returns-clause-root
returns-clause-root g c told =
    inl (pair_decides (g.D.Disk.content c.args.disk.now) c.in_ok-found.found c.args.maps c.root_from.result (c.in_ok-found.ensures.found told) c.root_from.ensures.root)
