use Rattle.std.proofs.Common.{refl}
use Rattle.casper_generator.specs.Lines.{word_of, state_after, lines_by, drawn_lines}
use Rattle.casper_generator.proofs.laws.examples.Goals as goal

pub returns-clause-words : goal.returns-clause-words
unfolding word_of state_after
returns-clause-words c = (refl, refl)

pub returns-clause-lines : goal.returns-clause-lines
unfolding word_of state_after lines_by drawn_lines
returns-clause-lines c = refl
