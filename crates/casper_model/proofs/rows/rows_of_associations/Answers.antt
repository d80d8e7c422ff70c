use Rattle.casper_model.proofs.Computed.{recall_and_merge, trail_of_recall_and_merge, write_right_that_was_never_used, mark_of_write_right_that_was_never_used, merge_through_two_pages, mark_of_merge_through_two_pages, image_of_merge_through_two_pages, linked_rollback, late_hits, departed_member, mark_of_departed_member, declared_loss}
use Rattle.casper_model.proofs.rows.rows_of_associations.Goals as goal

pub returns-clause-recall_and_merge : goal.returns-clause-recall_and_merge
returns-clause-recall_and_merge c = recall_and_merge

pub returns-clause-its_trail : goal.returns-clause-its_trail
returns-clause-its_trail c = trail_of_recall_and_merge

pub returns-clause-unused_write_right : goal.returns-clause-unused_write_right
returns-clause-unused_write_right c = write_right_that_was_never_used

pub returns-clause-its_mark : goal.returns-clause-its_mark
returns-clause-its_mark c = mark_of_write_right_that_was_never_used

pub returns-clause-two_pages : goal.returns-clause-two_pages
returns-clause-two_pages c = merge_through_two_pages

pub returns-clause-mark_of_two_pages : goal.returns-clause-mark_of_two_pages
returns-clause-mark_of_two_pages c = mark_of_merge_through_two_pages

pub returns-clause-image_of_two_pages : goal.returns-clause-image_of_two_pages
returns-clause-image_of_two_pages c = image_of_merge_through_two_pages

pub returns-clause-linked_rollback : goal.returns-clause-linked_rollback
returns-clause-linked_rollback c = linked_rollback

pub returns-clause-late_hits : goal.returns-clause-late_hits
returns-clause-late_hits c = late_hits

pub returns-clause-departed_member : goal.returns-clause-departed_member
returns-clause-departed_member c = departed_member

pub returns-clause-mark_of_departed_member : goal.returns-clause-mark_of_departed_member
returns-clause-mark_of_departed_member c = mark_of_departed_member

pub returns-clause-declared_loss : goal.returns-clause-declared_loss
returns-clause-declared_loss c = declared_loss
