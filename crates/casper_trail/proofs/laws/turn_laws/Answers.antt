use Rattle.casper_trail.proofs.InTurn.{legal_of_more_entries, legal_without_marks, legal_after_mark, legal_prefix, exact_of_more_entries, exact_after_mark, exact_prefix, exact_at_each_mark, right_at_each_entry}
use Rattle.casper_trail.proofs.Pages.{right_of_more, right_by_same_writes}
use Rattle.casper_trail.proofs.laws.turn_laws.Goals as goal

pub returns : goal.returns
returns c = record {
  legal_entries = legal_of_more_entries;
  legal_alone = legal_without_marks;
  right_more = right_of_more;
  right_writes = right_by_same_writes;
  legal_mark = legal_after_mark;
  legal_prefix = legal_prefix;
  exact_entries = exact_of_more_entries;
  exact_mark = exact_after_mark;
  exact_prefix = exact_prefix;
  exact_at = exact_at_each_mark;
  right_at = right_at_each_entry;
}
