use Rattle.std.proofs.Common.{◌≡◌, nat_eq}
use Rattle.casper_assoc.specs.Labelling.{label_of}
use Rattle.casper_assoc.proofs.Places.{passing_below}
use Rattle.casper_assoc.proofs.labels.Labels.members.Given as goal

-- the members so far
abbrev pub invariant-loop-number : goal.invariant-loop-number
invariant-loop-number l = l.members ≡ passing_below (λ client. nat_eq (label_of l.self client) l.label) l.number
