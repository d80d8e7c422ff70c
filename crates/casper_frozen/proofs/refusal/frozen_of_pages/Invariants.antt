use Rattle.casper_frozen.proofs.Pages.{IsFirstOfRest}
use Rattle.std.specs.Prelude.{drop}
use Rattle.casper_frozen.proofs.refusal.frozen_of_pages.Given as goal

-- the pages so far belong to none
abbrev pub invariant-loop-want : goal.invariant-loop-want
invariant-loop-want l = IsFirstOfRest l.unended l.associations l.missing (drop l.want-index l.missing)
