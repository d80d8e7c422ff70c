use Rattle.std.proofs.Common.{rules, ◌≡◌, false, not, Ok, IsErrOf}
use Rattle.casper_disk.specs.Place.{is_there}
use Rattle.casper_disk.specs.Slots.{place_in, is_listed_next}
use Rattle.casper_disk.specs.declared.shelf.ShelfFault.TheVariants as fault
use Rattle.casper_disk.proofs.ShelfLemmas.{unlisted}
use Rattle.casper_disk.proofs.mem_shelf.MemShelfShelf.make.Goals as goal

pub returns-in_err-disk-clause-failed : goal.returns-in_err-disk-clause-failed
returns-in_err-disk-clause-failed c =
    let none : is_listed_next c.args.self.now ≡ false = search rules in
    let other : ¬ IsErrOf c.from_residual.result fault.Failed = search rules in
    unlisted c.from_residual.result (not (is_there (place_in c.args.self.now.slots c.args.name.now))) (is_listed_next c.args.self.now) none other

pub returns-in_err-add-clause-failed : goal.returns-in_err-add-clause-failed
returns-in_err-add-clause-failed c =
    let none : is_listed_next c.args.self.now ≡ false = search rules in
    let other : ¬ IsErrOf c.from_residual-in_err-add.result fault.Failed = search rules in
    unlisted c.from_residual-in_err-add.result (not (is_there (place_in c.args.self.now.slots c.args.name.now))) (is_listed_next c.args.self.now) none other

pub returns-clause-failed : goal.returns-clause-failed
returns-clause-failed c =
    let none : is_listed_next c.args.self.now ≡ false = search rules in
    unlisted (Ok c.in_ok-disk.disk) (not (is_there (place_in c.args.self.now.slots c.args.name.now))) (is_listed_next c.args.self.now) none
    (λ failed. cc)
