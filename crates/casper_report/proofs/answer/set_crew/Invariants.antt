use Rattle.std.proofs.Common.{◌≡◌, ◌<◌, ◌++◌}
use Rattle.casper_words.specs.Crew.{IsCrew}
use Rattle.casper_report.proofs.TextLemmas.{members_text}
use Rattle.casper_report.proofs.answer.set_crew.Given as goal

abbrev pub invariant-loop-below : goal.invariant-loop-below
invariant-loop-below l = (0 < l.below → IsCrew l.crew) × (l.text.items ≡ l.word ++ members_text l.crew l.below)
