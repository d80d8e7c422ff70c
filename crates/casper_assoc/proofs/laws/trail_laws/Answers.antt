use Rattle.casper_assoc.proofs.TrailParts.{modified_pages_are_labelled, writers_have_the_pages_label, pages_of_a_part, labels_at_the_start, entry_merges_parts, entry_within_part}
use Rattle.casper_assoc.proofs.TrailCalls.{calls_within_part}
use Rattle.casper_assoc.proofs.TrailMarks.{mark_dissolves_part}
use Rattle.casper_assoc.proofs.laws.trail_laws.Goals as goal

pub returns : goal.returns
returns c = record {
  modified = modified_pages_are_labelled;
  writers = writers_have_the_pages_label;
  pages = pages_of_a_part;
  start = labels_at_the_start;
  merges = entry_merges_parts;
  within = entry_within_part;
  calls = calls_within_part;
  dissolves = mark_dissolves_part;
}
