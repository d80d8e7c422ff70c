use Rattle.casper_stable.proofs.vault.StableVault.read_page.Goals as goal

pub invariant_of-self : goal.invariant_of-self
invariant_of-self g c = record { stands = ∣ c.read_page.ensures.kept ∣₁ }
