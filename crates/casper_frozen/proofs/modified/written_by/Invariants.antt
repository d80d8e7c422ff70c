use Rattle.casper_frozen.specs.Counting.{AreWrittenBelow}
use Rattle.casper_frozen.proofs.modified.written_by.Given as goal

-- the pages of the members with lesser numbers are there
abbrev pub invariant-loop-number : goal.invariant-loop-number
invariant-loop-number l = AreWrittenBelow l.associations.labelling.writers l.members l.number l.pages.items
