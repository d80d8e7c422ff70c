use Rattle.casper_cache.proofs.ChangeLaws.{front_keeps_entries, written_changes_one, graded_changes_one, others_are_the_rest, others_keep_their_order}
use Rattle.casper_cache.proofs.laws.change_laws.Goals as goal

pub returns : goal.returns
returns c = record {
  front = front_keeps_entries;
  written = written_changes_one;
  graded = graded_changes_one;
  others = others_are_the_rest;
  order = others_keep_their_order;
}
