use Rattle.std.proofs.Common.{ap, ℕ}
use Rattle.casper_generator.specs.Lines.{word_of, state_after}
use Rattle.casper_generator.proofs.generator.next_word.Goals as goal

pub returns-clause-word : goal.returns-clause-word
unfolding word_of
returns-clause-word c = ap (λ (p : ℕ × ℕ). p.0) c.next_word.ensures

pub returns-clause-state : goal.returns-clause-state
unfolding state_after
returns-clause-state c = ap (λ (p : ℕ × ℕ). p.1) c.next_word.ensures
