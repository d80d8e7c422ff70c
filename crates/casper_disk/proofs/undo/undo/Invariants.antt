use Rattle.std.proofs.Common.{◌≡◌, ◌-◌, length, drop}
use Rattle.casper_disk.specs.Record.{content_before}
use Rattle.casper_disk.proofs.undo.undo.Given as goal

abbrev pub invariant-loop-done : goal.invariant-loop-done
invariant-loop-done l = record {
  before : l.blocks.items ≡ content_before (drop (length l.steps.items - l.done) l.steps.items) l.initial.blocks.items;
  count : length l.blocks.items ≡ length l.initial.blocks.items;
}
