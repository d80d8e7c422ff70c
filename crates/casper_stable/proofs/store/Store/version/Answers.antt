use Rattle.casper_stable.proofs.store.Store.version.Goals as goal

pub returns-clause-most : goal.returns-clause-most
returns-clause-most g c = c.self.invariant.0.fits.most_seq
