use Rattle.std.proofs.Common.{◌≡◌, ℕ, cond, length, take, get_or, None}
use Rattle.casper_assoc.specs.Written.{is_listed}
use Rattle.casper_hub.proofs.pages.forget_each.Given as goal

-- the pages so far have no frame
abbrev pub invariant-loop-page : goal.invariant-loop-page
invariant-loop-page l = record {
  count : length l.frames ≡ length l.initial.frames;
  forgotten : (page : ℕ) → get_or l.frames page None ≡ cond (is_listed page (take l.page-index l.pages)) None
      (get_or l.initial.frames page None);
}
