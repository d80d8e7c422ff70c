use Rattle.std.proofs.Common.{map, sym, subst}
use Rattle.casper_text.specs.Span.{word_at}
use Rattle.casper_audit.specs.Lines.{IsInRange}
use Rattle.casper_audit.proofs.ParseLemmas.{words_range}
use Rattle.casper_audit.proofs.parse.parse_line.Goals as goal

pub returns-in-Some-2-clause-range : goal.returns-in-Some-2-clause-range
returns-in-Some-2-clause-range c = subst IsInRange (sym c.parse_words.ensures) (words_range (map (word_at c.args.line.now) c.deref.result.now))
