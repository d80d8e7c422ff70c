use Rattle.casper_trail.proofs.Pages.{unmodified_page, page_of_others, page_of_association, same_writes_of_a_page, value_after_mark, value_of_clean_page, value_of_modified_page, image_of_other_page, stable_after_commit, image_after_commit}
use Rattle.casper_trail.proofs.laws.page_laws.Goals as goal

pub returns : goal.returns
returns c = record {
  unmodified = unmodified_page;
  others = page_of_others;
  association = page_of_association;
  writes = same_writes_of_a_page;
  mark = value_after_mark;
  clean = value_of_clean_page;
  modified = value_of_modified_page;
  other = image_of_other_page;
  stable = stable_after_commit;
  commit = image_after_commit;
}
