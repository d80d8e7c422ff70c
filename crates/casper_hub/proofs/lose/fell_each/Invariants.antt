use Rattle.std.proofs.Common.{◌≡◌, length}
use Rattle.casper_assoc.specs.TrailAssociations.{open_calls_of}
use Rattle.casper_hub.specs.HubView.{felled}
use Rattle.casper_hub.proofs.Felling.{ChangedBelow}
use Rattle.casper_hub.proofs.lose.fell_each.Given as goal

-- the members with lesser numbers fell
abbrev pub invariant-loop-number : goal.invariant-loop-number
invariant-loop-number l = record {
  count : length l.clients ≡ length l.initial.clients;
  fallen : ChangedBelow l.number (λ who. felled (record { mark = l.mark; dropped = open_calls_of l.associations who })) l.members l.initial.clients l.clients;
}
