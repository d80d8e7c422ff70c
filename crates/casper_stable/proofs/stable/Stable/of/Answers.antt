use Rattle.std.proofs.Common.{subst}
use Rattle.casper_stable.specs.Kept.{Kept}
use Rattle.casper_stable.specs.Sound.{IsHeld, IsKept}
use Rattle.casper_stable.proofs.stable.Stable.of.Goals as goal

pub invariant_of-result : goal.invariant_of-result
invariant_of-result g c = record {
  stands = ∣ subst (λ (kept : Kept g.row.D.Denot). IsKept g.D.Disk.size kept × IsHeld g.D.Disk.tells g.D.Disk.content g.D.Disk.loose kept)
      c.store.view_is c.store.invariant ∣₁;
}
