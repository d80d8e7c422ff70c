use Rattle.casper_hub.proofs.Hitting.{owns_behind_read, owns_behind_write, right_behind_read, right_behind_write, hits_read_what_is_seen}
use Rattle.casper_hub.proofs.Relying.{kept_itself, kept_again, nothing_itself, nothing_again, image_stands, live_while_kept, pages_while_kept, owns_while_kept, right_while_kept}
use Rattle.casper_hub.proofs.StandsFor.{stands_for}
use Rattle.casper_hub.proofs.laws.hub_laws.Goals as goal

pub returns : goal.returns
returns c = record {
  kept_itself = kept_itself;
  kept_again = kept_again;
  nothing_itself = nothing_itself;
  nothing_again = nothing_again;
  image = image_stands;
  live = live_while_kept;
  pages = pages_while_kept;
  owns = owns_while_kept;
  right = right_while_kept;
  owns_read = owns_behind_read;
  owns_write = owns_behind_write;
  right_read = right_behind_read;
  right_write = right_behind_write;
  seen = hits_read_what_is_seen;
  stands = λ hub sound. ((stands_for hub sound.stands).shared, (stands_for hub sound.stands).shows);
}
