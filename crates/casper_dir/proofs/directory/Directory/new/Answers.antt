use Rattle.std.proofs.Common.{ap, ◌∙◌, ◌+◌}
use Rattle.std.proofs.lemmas.List.{length_push}
use Rattle.casper_dir.proofs.RightsLemmas.{clients-push, none-push}
use Rattle.casper_dir.proofs.directory.Directory.new.Goals as goal

pub loop-page-preserved : goal.loop-page-preserved
loop-page-preserved c = rw c.in_ok-push.ensures.items record {
  count = length_push c.loop-page.holders.items _ ∙ ap (λ n. n + 1) c.loop-page.invariant.count;
  clients = clients-push c.loop-page.holders.items _ c.loop-page.invariant.clients c.none.ensures.clients;
  none = none-push c.loop-page.holders.items _ c.loop-page.invariant.none c.none.ensures.none;
}
