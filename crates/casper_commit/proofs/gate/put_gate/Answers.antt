use Rattle.std.proofs.Common.{◌≡◌, ◌≤◌, ◌∙◌, length, ap, sym, arith}
use Rattle.casper_disk.specs.Disk.{with_loose}
use Rattle.casper_root.specs.Slots.{gate_place}
use Rattle.casper_commit.specs.States.{IsOldOrNew}
use Rattle.casper_commit.specs.Root.{has_open_gate}
use Rattle.casper_commit.proofs.ResultLemmas.{on_ok_both}
use Rattle.casper_commit.proofs.RootLemmas.{written_gate, gate_fixed}
use Rattle.casper_commit.proofs.StateLemmas.{gate_wrote, gate_ahead, gate_meanwhile}
use Rattle.casper_commit.proofs.AddedLemmas.{adds_by}
use Rattle.casper_commit.proofs.gate.put_gate.Goals as goal

pub returns-clause-at_gate : goal.returns-clause-at_gate
returns-clause-at_gate g c told was body free base framed is =
    let disk = c.args.disk.now in
    let after = c.open_gate.new.disk in
    gate_wrote (record { slot = c.args.current; body = was }) body free base framed (g.D.Disk.content disk) (g.D.Disk.content after)
    (g.D.Disk.loose disk) (g.D.Disk.loose after) (gate_place c.other_slot.result) is (ap gate_place c.other_slot.ensures)
    (c.open_gate.ensures.others told) (c.open_gate.ensures.loose told)

pub returns-clause-images : goal.returns-clause-images
returns-clause-images g c told was body free base framed is =
    let disk = c.args.disk.now in
    let after = c.open_gate.new.disk in
    adds_by g.D.Disk.moment g.D.Disk.images_since disk after (with_loose (gate_place c.other_slot.result) (g.D.Disk.loose disk)) (g.D.Disk.content disk)
    (IsOldOrNew (record { slot = c.args.current; body = was }) body free base framed) (c.open_gate.ensures.images told)
    (λ image agrees. gate_meanwhile (record { slot = c.args.current; body = was }) body free base framed (g.D.Disk.content disk) image
    (g.D.Disk.loose disk) (gate_place c.other_slot.result) is (ap gate_place c.other_slot.ensures) agrees)

pub returns-clause-new : goal.returns-clause-new
returns-clause-new g c told was body free base framed is =
    let disk = c.args.disk.now in
    let after = c.open_gate.new.disk in
    let sized : g.D.Disk.size disk ≡ length (g.D.Disk.content disk) = g.met.D.Disk.sized disk told in
    let some : 5 ≤ length (g.D.Disk.content disk) = omega (arith, sized, c.requires) in
    let at_gate = returns-clause-at_gate g c told was body free base framed is in
    on_ok_both c.open_gate.result
    (λ written none. gate_ahead (record { slot = c.args.current; body = was }) body free base framed (g.D.Disk.content after) (g.D.Disk.loose after) (g.D.Disk.loose after) at_gate
    (ap (has_open_gate (g.D.Disk.content after)) (sym c.other_slot.ensures)
    ∙ written_gate (g.D.Disk.content disk) (g.D.Disk.content after) c.other_slot.result (gate_fixed c.other_slot.result (length (g.D.Disk.content disk)) some) written) none)
    (c.open_gate.ensures.written told) (c.open_gate.ensures.settled told)
