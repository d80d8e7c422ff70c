use Rattle.std.proofs.Common.{◌≡◌, length}
use Rattle.casper_hub.specs.HubView.{with_kept}
use Rattle.casper_hub.proofs.Felling.{ChangedBelow}
use Rattle.casper_hub.proofs.finish.keep_each.Given as goal

-- the outcome is kept for the askers with lesser numbers
abbrev pub invariant-loop-number : goal.invariant-loop-number
invariant-loop-number l = record {
  count : length l.clients ≡ length l.initial.clients;
  kept : ChangedBelow l.number (λ who. with_kept l.kept) l.askers l.initial.clients l.clients;
}
