use Rattle.std.proofs.Common.{◌≡◌, ◌≤◌, ◌+◌, ℕ, ◌∙◌, arith}
use Rattle.std.proofs.lemmas.List.FromFn.{map-range_with_len_more}
use Rattle.casper_space.specs.WordCalls.{write_of}
use Rattle.casper_space.proofs.Making.{made_both, made_write}
use Rattle.casper_heap.specs.Objects.{field_place}
use Rattle.casper_heap.proofs.Following.{made_as}
use Rattle.casper_heap.proofs.objects.clear_fields.Goals as goal

pub loop-i-preserved : goal.loop-i-preserved
loop-i-preserved g c =
    let one = c.set.ensures in
    let so = c.loop-i.invariant in
    let left : (g.W.Words.seen c.loop-i.words).room ≡ (g.W.Words.seen c.set.new.self).room + 1 = one.left in
    let room : c.args.count ≤ c.loop-i.i + (g.W.Words.seen c.loop-i.words).room = so.room in
    let none : 0 + c.loop-i.i ≡ c.loop-i.i = omega arith in
    record {
      made = made_as (map-range_with_len_more (λ (field : ℕ). write_of c.args.page (field_place c.args.place field) 0) 0 c.loop-i.i c.loop-i.i none)
          (made_both so.made (made_write one.right one.words one.made one.left one.step));
      right = one.right ∙ so.right;
      room = omega arith;
    }
