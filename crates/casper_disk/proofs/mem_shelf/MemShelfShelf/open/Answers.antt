use Rattle.std.proofs.Common.{rules, ◌≡◌, false, IsErrOf}
use Rattle.casper_disk.specs.Place.{is_standing}
use Rattle.casper_disk.specs.Slots.{place_in, is_listed_next}
use Rattle.casper_disk.specs.declared.shelf.ShelfFault.TheVariants as fault
use Rattle.casper_disk.proofs.ShelfLemmas.{unlisted}
use Rattle.casper_disk.proofs.mem_shelf.MemShelfShelf.open.Goals as goal

pub returns-clause-failed : goal.returns-clause-failed
returns-clause-failed c =
    let none : is_listed_next c.args.self.now ≡ false = search rules in
    let other : ¬ IsErrOf c.ok_or.result fault.Failed = search rules in
    unlisted c.ok_or.result (is_standing (place_in c.args.self.now.slots c.args.name.now)) (is_listed_next c.args.self.now) none other
