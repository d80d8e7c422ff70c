use Rattle.std.proofs.Common.{◌≡◌, ◌≤◌, ◌+◌}
use Rattle.casper_space.specs.WordCalls.{HasMade}
use Rattle.casper_heap.specs.HeapCalls.{field_writes}
use Rattle.casper_heap.proofs.objects.clear_fields.Given as goal

abbrev pub invariant-loop-i : goal.invariant-loop-i
invariant-loop-i g l = record {
  made : HasMade g.W.Words.seen g.W.Words.step l.initial.words (field_writes l.page l.place l.i) l.words;
  right : (g.W.Words.seen l.words).right ≡ (g.W.Words.seen l.initial.words).right;
  room : l.count ≤ l.i + (g.W.Words.seen l.words).room;
}
