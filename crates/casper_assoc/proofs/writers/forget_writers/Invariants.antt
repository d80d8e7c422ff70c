use Rattle.std.proofs.Common.{◌≡◌, ℕ, cond, length, take, get_or, None}
use Rattle.casper_assoc.specs.Written.{is_listed}
use Rattle.casper_assoc.proofs.writers.forget_writers.Given as goal

-- the pages so far have no client
abbrev pub invariant-loop-page : goal.invariant-loop-page
invariant-loop-page l = record {
  count : length l.writers ≡ length l.initial.writers;
  forgotten : (page : ℕ) → get_or l.writers page None ≡ cond (is_listed page (take l.page-index l.pages)) None
      (get_or l.initial.writers page None);
}
