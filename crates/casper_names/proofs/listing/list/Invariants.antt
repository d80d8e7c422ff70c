use Rattle.std.proofs.Common.{◌≡◌, ◌≤◌, ◌+◌, length}
use Rattle.std.specs.List.{flat_map, range_with_len}
use Rattle.casper_space.specs.WordCalls.{HasMade}
use Rattle.casper_names.specs.Table.{name_at, listed, valid_read}
use Rattle.casper_names.proofs.listing.list.Given as goal

abbrev pub invariant-loop-entry : goal.invariant-loop-entry
invariant-loop-entry g l = record {
  right : (g.W.Words.seen l.words).right ≡ (g.W.Words.seen l.initial.words).right;
  words : (g.W.Words.seen l.words).words ≡ (g.W.Words.seen l.initial.words).words;
  made : HasMade g.W.Words.seen g.W.Words.step l.initial.words
      (flat_map (λ k. valid_read ((g.W.Words.seen l.initial.words).words 0) k (name_at ((g.W.Words.seen l.initial.words).words 0) k)) (range_with_len 0 l.entry)) l.words;
  into : l.into ≡ flat_map (λ k. listed (name_at ((g.W.Words.seen l.initial.words).words 0) k)) (range_with_len 0 l.entry);
  few : length l.into ≤ l.entry;
  room : (g.W.Words.seen l.initial.words).room ≤ (g.W.Words.seen l.words).room + l.entry;
}
