use Rattle.std.proofs.Common.{rules, ◌≡◌, ◌≤◌, length, arith}
use Rattle.casper_disk.specs.Record.{content_at}
use Rattle.casper_disk.specs.Stopped.{settled_before, stop_moment, loose_within}
use Rattle.casper_disk.proofs.StopLemmas.{stop_old, stop_new, stop_torn}
use Rattle.casper_disk.proofs.TearLemmas.{torn_agrees}
use Rattle.casper_disk.proofs.mem_disk.MemDisk.apply_stop.Goals as goal

pub returns-in-Old-clause-image : goal.returns-in-Old-clause-image
returns-in-Old-clause-image c =
    let disk = c.args.self.now in
    let before : disk.armed ≤ length disk.steps = rw (← c.self.view_is) c.self.invariant.before in
    let within : stop_moment disk c.args.call ≤ length disk.steps = omega (arith, c.stop_moment-moment.ensures) in
    let is : c.undo.new.blocks.items ≡ content_at disk.steps disk.content (settled_before disk.steps (stop_moment disk c.args.call)) = search rules in
    stop_old disk c.args.call c.undo.new.blocks.items before c.requires.some within is

pub returns-in-New-clause-image : goal.returns-in-New-clause-image
returns-in-New-clause-image c =
    let disk = c.args.self.now in
    let before : disk.armed ≤ length disk.steps = rw (← c.self.view_is) c.self.invariant.before in
    let is : c.undo-in-New.new.blocks.items ≡ content_at disk.steps disk.content (stop_moment disk c.args.call) = search rules in
    stop_new disk c.args.call c.undo-in-New.new.blocks.items before c.requires.some is

pub returns-in-Torn-clause-image : goal.returns-in-Torn-clause-image
returns-in-Torn-clause-image c =
    let disk = c.args.self.now in
    let before : disk.armed ≤ length disk.steps = rw (← c.self.view_is) c.self.invariant.before in
    let is : c.undo-in-Torn.new.blocks.items ≡ content_at disk.steps disk.content (stop_moment disk c.args.call) = search rules in
    stop_torn disk c.args.call c.undo-in-Torn.new.blocks.items c.tear.new.blocks.items before c.requires.some is
    (torn_agrees (loose_within disk c.args.call) c.in-Torn.byte c.undo-in-Torn.new.blocks.items c.tear.new.blocks.items c.tear.ensures)
