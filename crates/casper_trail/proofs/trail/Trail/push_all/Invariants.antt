use Rattle.std.proofs.Common.{◌≡◌, ◌+◌, ◌++◌, take}
use Rattle.casper_trail.specs.TrailView.{entry_count}
use Rattle.casper_trail.specs.Calls.{entries_by}
use Rattle.casper_trail.specs.Parts.{as_items}
use Rattle.casper_trail.proofs.trail.Trail.push_all.Given as goal

abbrev pub invariant-loop-call : goal.invariant-loop-call
invariant-loop-call l = record {
  items : l.self.items ≡ l.initial.self.items ++ as_items (entries_by l.who (take l.call-index l.calls.items));
  limit : l.self.limit ≡ l.initial.self.limit;
  room : l.initial.self.room ≡ l.self.room + l.call-index;
  count : entry_count l.self.items ≡ entry_count l.initial.self.items + l.call-index;
}
