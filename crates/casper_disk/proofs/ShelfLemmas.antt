use Rattle.std.proofs.Common.{◌≡◌, ◌↔◌, ◌&&◌, Bool, false, Result, IsTrue, IsErrOf}
use Rattle.std.proofs.lemmas.Bool.{both_ways}
use Rattle.casper_disk.specs.declared.shelf.ShelfFault.{ShelfFault}
use Rattle.casper_disk.specs.declared.shelf.ShelfFault.TheVariants as fault
use Rattle.casper_disk.proofs.StopLemmas.{and_right}

-- a call that is not listed and answers otherwise fails exactly where it is to fail
pub unlisted : {T : Type 0} (result : Result T ShelfFault) (asked listed : Bool) → listed ≡ false → ¬ IsErrOf result fault.Failed
    → IsErrOf result fault.Failed ↔ IsTrue (asked && listed)
unlisted result asked listed none other =
    (λ failed. absurd (other failed), λ both. absurd (both_ways (asked && listed) (and_right asked listed none) both))
