use Rattle.casper_gather.proofs.Awaited.{begun_gathers, begun_sealed, gathers_for_the_others, last_member_seals}
use Rattle.casper_gather.proofs.laws.gather_laws.Goals as goal

pub returns : goal.returns
returns c = record {
  begun = begun_gathers;
  sealed = begun_sealed;
  others = gathers_for_the_others;
  last = last_member_seals;
}
