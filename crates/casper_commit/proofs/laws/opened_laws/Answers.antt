use Rattle.casper_commit.proofs.OpenedLemmas.{opened_is_current, current_is_opened, opened_stands, opened_still, opened_next, next_is_greater, seq_is_read}
use Rattle.casper_commit.proofs.laws.opened_laws.Goals as goal

pub returns : goal.returns
returns c = record {
  current = opened_is_current;
  opened = current_is_opened;
  stands = opened_stands;
  still = opened_still;
  next = opened_next;
  greater = next_is_greater;
  number = seq_is_read;
}
