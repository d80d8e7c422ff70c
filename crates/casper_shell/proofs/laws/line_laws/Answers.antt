use Rattle.casper_shell.proofs.GrammarLemmas.{lines_are_read_back, lines_have_one_text}
use Rattle.casper_shell.proofs.laws.line_laws.Goals as goal

pub returns-clause-read_back : goal.returns-clause-read_back
returns-clause-read_back c = lines_are_read_back

pub returns-clause-one_text : goal.returns-clause-one_text
returns-clause-one_text c = lines_have_one_text
