use Rattle.casper_trail.proofs.Links.{open_entries_link, one_association_a_page}
use Rattle.casper_trail.proofs.Causes.{cause_shares_fate, stable_is_closed, association_is_closed}
use Rattle.casper_trail.proofs.LiveLegal.{live_is_legal}
use Rattle.casper_trail.proofs.laws.cause_laws.Goals as goal

pub returns : goal.returns
returns c = record {
  link = open_entries_link;
  page = one_association_a_page;
  fate = cause_shares_fate;
  stable = stable_is_closed;
  association = association_is_closed;
  live = live_is_legal;
}
