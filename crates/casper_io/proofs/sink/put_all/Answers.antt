use Rattle.std.proofs.Common.{rules, ◌+◌, ◌≤◌, length}
use Rattle.casper_io.proofs.Known.{append_known-more}
use Rattle.casper_io.proofs.sink.put_all.Goals as goal

pub loop-done-preserved : goal.loop-done-preserved
loop-done-preserved g c =
    let within : c.loop-done.done + c.in_ok-done.field-0 ≤ length c.args.bytes.now = search rules in (
      within,
      append_known-more _ _ _ c.args.bytes.now c.loop-done.done c.in_ok-done.field-0 within c.loop-done.invariant.1 c.in_ok-done.ensures.moved,
      search rules,
      search rules,
    )
