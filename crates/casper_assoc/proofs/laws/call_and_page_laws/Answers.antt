use Rattle.casper_assoc.proofs.TrailCounts.{open_calls_are_entries, open_calls_after_calls, open_calls_after_touch, open_calls_after_mark}
use Rattle.casper_assoc.proofs.TrailAssociations.{modified_by_the_writer, members_labelled_the_modified}
use Rattle.casper_assoc.proofs.laws.call_and_page_laws.Goals as goal

pub returns : goal.returns
returns c = record {
  entries = open_calls_are_entries;
  calls = open_calls_after_calls;
  touch = open_calls_after_touch;
  mark = open_calls_after_mark;
  writer = modified_by_the_writer;
  modified = members_labelled_the_modified;
}
