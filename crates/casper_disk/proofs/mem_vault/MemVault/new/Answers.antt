use Rattle.std.proofs.Common.{◌≡◌, ◌∙◌, ap, arith, None, List, ℕ, Option, replicate}
use Rattle.casper_disk.proofs.VaultLemmas.{blank_image}
use Rattle.casper_disk.proofs.mem_vault.MemVault.new.Goals as goal

pub returns-clause-image : goal.returns-clause-image
returns-clause-image c =
    let done : c.loop.counter ≡ c.args.pages = omega arith in
    blank_image c.loop.frames.items c.args.pages (c.loop.invariant ∙ ap (λ (count : ℕ). replicate {A = Option (List ℕ)} count None) done)
