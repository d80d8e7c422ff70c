use Rattle.std.proofs.Common.{false, sym, subst}
use Rattle.casper_root.specs.declared.slot.Slot.{Slot}
use Rattle.casper_commit.specs.States.{IsAhead, none_free}
use Rattle.casper_commit.proofs.ResultLemmas.{on_err}
use Rattle.casper_commit.proofs.StateLemmas.{standing_opens}
use Rattle.casper_commit.proofs.settling.settle.Goals as goal

pub returns-in_err-put_gate-clause-doubt : goal.returns-in_err-put_gate-clause-doubt
returns-in_err-put_gate-clause-doubt g c told was body free base framed is =
    on_err c.from_residual.result (c.put_gate.ensures.at_gate told was body free base framed is)

pub returns-clause-new : goal.returns-clause-new
returns-clause-new g c told was body free base framed is =
    let after = c.put_gate.new.disk in
    subst (λ (at : Slot). IsAhead (record { slot = at; body = body }) none_free framed (g.D.Disk.content after) (g.D.Disk.loose after)) (sym c.other_slot.ensures)
    (c.in_ok-put_gate.ensures.new told was body free base framed is)

pub returns-clause-new_alone : goal.returns-clause-new_alone
returns-clause-new_alone g c told was body free base framed image is now =
    let after = c.put_gate.new.disk in
    standing_opens false (record { slot = c.other_slot.result; body = body }) none_free framed (g.D.Disk.content after) image (g.D.Disk.loose after)
    (returns-clause-new g c told was body free base framed is) (g.met.D.Disk.images_agree after image told now)
