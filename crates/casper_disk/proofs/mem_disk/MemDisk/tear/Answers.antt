use Rattle.std.proofs.Common.{◌≤◌, ◌<◌, ◌-◌, ◌∙◌, length, ap, arith}
use Rattle.casper_disk.specs.MemDisk.{Held}
use Rattle.casper_disk.specs.Stopped.{stop_moment, settled_before}
use Rattle.casper_disk.proofs.TearLemmas.{tear_early, tear_late}
use Rattle.casper_disk.proofs.mem_disk.MemDisk.tear.Goals as goal

pub returns-else-call-len : goal.returns-else-call-len
returns-else-call-len c =
    let disk = c.args.self.now in
    let same = ap (λ (held : Held). held.steps) c.self.view_is in
    let within : stop_moment disk c.args.call ≤ length disk.steps = omega (arith, c.stop_moment-moment.ensures) in
    let settled = c.settled_before-settled.ensures.settled ∙ ap (λ steps. settled_before steps c.stop_moment-moment.result) same in
    let early : c.args.call ≤ length disk.steps - disk.armed = rw (← c.self.view_is) (omega (arith, c.if-call-len.false, c.len.ensures)) in
    tear_early disk c.args.call c.args.byte c.settled_before-settled.result c.stop_moment-moment.result c.deref.result.now c.args.blocks.now.items
    c.tear_written.new.blocks.items within (c.deref.ensures.value ∙ same) c.stop_moment-moment.ensures.moment settled early c.tear_written.ensures

pub returns-then-call-len : goal.returns-then-call-len
returns-then-call-len c =
    let disk = c.args.self.now in
    let same = ap (λ (held : Held). held.steps) c.self.view_is in
    let within : stop_moment disk c.args.call ≤ length disk.steps = omega (arith, c.stop_moment-moment.ensures) in
    let settled = c.settled_before-settled.ensures.settled ∙ ap (λ steps. settled_before steps c.stop_moment-moment.result) same in
    let late : length disk.steps - disk.armed < c.args.call = rw (← c.self.view_is) (omega (arith, c.if-call-len.true, c.len.ensures)) in
    tear_late disk c.args.call c.args.byte c.settled_before-settled.result c.stop_moment-moment.result c.deref.result.now c.self.inside.marks.items
    c.args.blocks.now.items c.tear_written.new.blocks.items c.tear_marked.new.blocks.items within (c.deref.ensures.value ∙ same)
    c.stop_moment-moment.ensures.moment settled (ap (λ (held : Held). held.marks) c.self.view_is) late c.tear_written.ensures c.tear_marked.ensures
