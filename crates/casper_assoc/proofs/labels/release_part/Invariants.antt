use Rattle.std.proofs.Common.{◌≡◌, ◌&&◌, nat_eq, nat_lt, length, get_or}
use Rattle.casper_assoc.specs.Written.{ForgetsWriters}
use Rattle.casper_assoc.proofs.labels.release_part.Given as goal

-- the pages of the clients so far that have the label are forgotten
abbrev pub invariant-loop-number : goal.invariant-loop-number
invariant-loop-number l = record {
  count : length l.pages ≡ length l.initial.pages;
  forgotten : ForgetsWriters (λ who. nat_lt who l.number && nat_eq (get_or l.labels who 0) l.label) l.initial.pages l.pages;
}
