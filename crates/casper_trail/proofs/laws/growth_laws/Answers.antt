use Rattle.casper_trail.proofs.Growth.{association_grows, alone_without_entries, association_of_one_more, association_of_more_calls, associations_unite, others_stay_apart, members_after_mark, others_after_mark}
use Rattle.casper_trail.proofs.laws.growth_laws.Goals as goal

pub returns : goal.returns
returns c = record {
  grows = association_grows;
  alone = alone_without_entries;
  one_more = association_of_one_more;
  calls = association_of_more_calls;
  unite = associations_unite;
  apart = others_stay_apart;
  members = members_after_mark;
  others = others_after_mark;
}
