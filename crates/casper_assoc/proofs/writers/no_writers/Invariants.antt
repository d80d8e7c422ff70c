use Rattle.std.proofs.Common.{◌≡◌, replicate, None}
use Rattle.casper_assoc.proofs.writers.no_writers.Given as goal

-- so many places so far
abbrev pub invariant-loop-page : goal.invariant-loop-page
invariant-loop-page l = l.writers.items ≡ replicate l._page None
