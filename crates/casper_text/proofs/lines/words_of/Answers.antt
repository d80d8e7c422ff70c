use Rattle.std.proofs.Common.{◌∙◌, sym}
use Rattle.casper_text.proofs.LineLemmas.{printable_exactly, printable_refused}
use Rattle.casper_text.proofs.lines.words_of.Goals as goal

pub returns-then-not-is_printable-clause-exactly :
    goal.returns-then-not-is_printable-clause-exactly
returns-then-not-is_printable-clause-exactly c =
    printable_exactly c.args.line.now _ (sym c.if-not-is_printable.true ∙ c.is_printable.ensures)

pub returns-then-not-is_printable-clause-refused :
    goal.returns-then-not-is_printable-clause-refused
returns-then-not-is_printable-clause-refused c =
    printable_refused c.args.line.now _ (sym c.if-not-is_printable.true ∙ c.is_printable.ensures)
