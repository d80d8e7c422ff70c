use Rattle.casper_gather.proofs.Awaited.{lead_is_asker, who_asks_is_asker, other_askers_stay, who_is_gone_is_no_asker, other_askers_are_kept}
use Rattle.casper_gather.proofs.Outcomes.{askers_are_told_once}
use Rattle.casper_gather.proofs.laws.asker_laws.Goals as goal

pub returns : goal.returns
returns c = record {
  lead = lead_is_asker;
  asked = who_asks_is_asker;
  others = other_askers_stay;
  gone = who_is_gone_is_no_asker;
  kept = other_askers_are_kept;
  once = askers_are_told_once;
}
