use Rattle.std.proofs.Common.{◌≡◌, ◌≤◌, ◌+◌, ◌*◌, map}
use Rattle.std.specs.List.{flat_map, range_with_len}
use Rattle.casper_space.specs.WordCalls.{HasMade}
use Rattle.casper_names.specs.Table.{name_at, entry_reads}
use Rattle.casper_names.proofs.entry.scan.Given as goal

abbrev pub invariant-loop-entry : goal.invariant-loop-entry
invariant-loop-entry g l = record {
  right : (g.W.Words.seen l.words).right ≡ (g.W.Words.seen l.initial.words).right;
  words : (g.W.Words.seen l.words).words ≡ (g.W.Words.seen l.initial.words).words;
  made : HasMade g.W.Words.seen g.W.Words.step l.initial.words (flat_map (entry_reads ((g.W.Words.seen l.initial.words).words 0)) (range_with_len 0 l.entry)) l.words;
  entries : l.entries.items ≡ map (name_at ((g.W.Words.seen l.initial.words).words 0)) (range_with_len 0 l.entry);
  room : (g.W.Words.seen l.initial.words).room ≤ (g.W.Words.seen l.words).room + 4 * l.entry;
}
