use Rattle.casper_frozen.proofs.Counted.{CountsBelow}
use Rattle.casper_frozen.proofs.counting.count_pages.Given as goal

-- the pages of the members with lesser numbers are counted
abbrev pub invariant-loop-number : goal.invariant-loop-number
invariant-loop-number l = CountsBelow l.associations.labelling.writers l.members l.number l.count
