use Rattle.casper_gather.proofs.Outcomes.{finish_carries_out, noted_loss_is_carried_out, failure_is_told, doubt_keeps_the_loss}
use Rattle.casper_gather.proofs.laws.finish_laws.Goals as goal

pub returns : goal.returns
returns c = record {
  finish = finish_carries_out;
  loss = noted_loss_is_carried_out;
  told = failure_is_told;
  doubt = doubt_keeps_the_loss;
}
