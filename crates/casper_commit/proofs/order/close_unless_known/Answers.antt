use Rattle.std.proofs.Common.{◌≡◌, ◌≤◌, ◌∙◌, length, ap, sym, arith}
use Rattle.std.proofs.lemmas.Result.{on_ok_weaker}
use Rattle.casper_disk.specs.Disk.{with_loose}
use Rattle.casper_root.specs.Slots.{gate_place}
use Rattle.casper_commit.specs.Root.{has_open_gate}
use Rattle.casper_commit.specs.States.{OpensTo, root_at}
use Rattle.casper_commit.proofs.RootLemmas.{closed_gate, gate_fixed}
use Rattle.casper_commit.proofs.StateLemmas.{loose_place, itself_loose, stands_wrote, stands_meanwhile, standing_opens}
use Rattle.casper_commit.proofs.AddedLemmas.{adds_by, adds_none}
use Rattle.casper_commit.proofs.order.close_unless_known.Goals as goal

pub returns-then-standing-clause-images : goal.returns-then-standing-clause-images
returns-then-standing-clause-images g c told body free base is =
    let disk = c.args.disk.now in
    adds_none g.D.Disk.moment g.D.Disk.images_since disk (OpensTo (root_at c.args.standing body) free base)
    (λ image since. standing_opens c.args.standing.spare_closed (root_at c.args.standing body) free base (g.D.Disk.content disk) image (g.D.Disk.loose disk) is
    (g.met.D.Disk.images_agree disk image told (g.met.D.Disk.only_now disk image told since)))

pub returns-clause-closed : goal.returns-clause-closed
returns-clause-closed g c told body free base is =
    let disk = c.args.disk.now in
    let after = c.close_spare.new.disk in
    let sized : g.D.Disk.size disk ≡ length (g.D.Disk.content disk) = g.met.D.Disk.sized disk told in
    let some : 5 ≤ length (g.D.Disk.content disk) = omega (arith, sized, c.requires) in
    on_ok_weaker c.close_spare.result
    (λ written. ap (has_open_gate (g.D.Disk.content after)) (sym c.other_slot.ensures)
    ∙ closed_gate (g.D.Disk.content disk) (g.D.Disk.content after) c.other_slot.result (gate_fixed c.other_slot.result (length (g.D.Disk.content disk)) some) written)
    (c.close_spare.ensures.written told)

pub returns-clause-stands : goal.returns-clause-stands
returns-clause-stands g c told body free base is =
    let disk = c.args.disk.now in
    let after = c.close_spare.new.disk in
    let known = c.args.standing.spare_closed in
    let at = c.args.standing.slot in
    let place : gate_place c.other_slot.result ≡ loose_place known at = ap gate_place c.other_slot.ensures ∙ sym (ap (λ closed. loose_place closed at) c.if-standing.false) in
    stands_wrote known (root_at c.args.standing body) free base (g.D.Disk.content disk) (g.D.Disk.content after) (g.D.Disk.loose disk) (g.D.Disk.loose after)
    (gate_place c.other_slot.result) is (itself_loose (loose_place known at) (gate_place c.other_slot.result) free place)
    (c.close_spare.ensures.others told) (c.close_spare.ensures.loose told)

pub returns-clause-images : goal.returns-clause-images
returns-clause-images g c told body free base is =
    let disk = c.args.disk.now in
    let after = c.close_spare.new.disk in
    let known = c.args.standing.spare_closed in
    let at = c.args.standing.slot in
    let place : gate_place c.other_slot.result ≡ loose_place known at = ap gate_place c.other_slot.ensures ∙ sym (ap (λ closed. loose_place closed at) c.if-standing.false) in
    adds_by g.D.Disk.moment g.D.Disk.images_since disk after (with_loose (gate_place c.other_slot.result) (g.D.Disk.loose disk)) (g.D.Disk.content disk)
    (OpensTo (root_at c.args.standing body) free base) (c.close_spare.ensures.images told)
    (λ image agrees. stands_meanwhile known (root_at c.args.standing body) free base (g.D.Disk.content disk) image (g.D.Disk.loose disk)
    (gate_place c.other_slot.result) is (itself_loose (loose_place known at) (gate_place c.other_slot.result) free place) agrees)
