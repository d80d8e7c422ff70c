use Rattle.casper_trail.proofs.KnownTrails.{recall_is_exact, rollback_fates, rollback_drops_both, rollback_is_exact, links_three, leaves_one, is_legal, stray_read}
use Rattle.casper_trail.proofs.laws.examples.Goals as goal

pub returns : goal.returns
returns c = record {
  recall = recall_is_exact;
  rollback_fates = rollback_fates;
  rollback = rollback_drops_both;
  rollback_exact = rollback_is_exact;
  linked = links_three;
  apart = leaves_one;
  legal = is_legal;
  illegal = stray_read;
}
