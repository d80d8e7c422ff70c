use Rattle.casper_frozen.proofs.Pages.{ArePagesSoFar}
use Rattle.std.specs.Prelude.{drop}
use Rattle.casper_words.specs.Crew.{IsCrew}
use Rattle.casper_frozen.proofs.refusal.members_of_pages.Given as goal

-- the members of the pages so far, and the pages still to come
abbrev pub invariant-loop-want : goal.invariant-loop-want
invariant-loop-want l = record {
  so_far : ArePagesSoFar l.associations l.missing (drop l.want-index l.missing) l.members;
  crew : IsCrew l.members;
}
