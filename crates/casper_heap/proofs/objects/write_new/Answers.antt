use Rattle.std.proofs.Common.{◌≡◌, ◌+◌, ◌∷◌, ◌++◌, [], ◌∙◌, ap, ℕ, Bool, cond, sym, arith}
use Rattle.casper_space.specs.WordCalls.{write_of}
use Rattle.casper_space.proofs.Making.{made_both, made_write}
use Rattle.casper_heap.specs.HeapCalls.{object_writes}
use Rattle.casper_heap.proofs.Following.{made_told}
use Rattle.casper_heap.proofs.NewPlaces.{length_object}
use Rattle.casper_heap.proofs.objects.write_new.Goals as goal

pub set-requires-clause-room : goal.set-requires-clause-room
set-requires-clause-room g c =
    let room = c.write_object.ensures.made.room in
    let writes = length_object c.args.page c.args.place c.args.count in
    omega (arith, room, writes)

pub returns-then-is_none : goal.returns-then-is_none
returns-then-is_none g c =
    let one = c.set.ensures in
    record {
      made = made_told (object_writes c.args.page c.args.place c.args.count)
          (ap (λ (test : Bool). cond test [] (write_of c.args.page 0 (c.args.place + c.args.count + 2) ∷ [])) c.if-is_none.ensures
          ∙ ap (λ (end : ℕ). write_of c.args.page 0 end ∷ []) (sym c.from.ensures))
          (made_both c.write_object.ensures.made (made_write one.right one.words one.made one.left one.step));
      long = c.write_object.ensures.long;
    }
