use Rattle.casper_app.proofs.GrammarLemmas.{lines_are_read_back, lines_have_one_text}
use Rattle.casper_app.proofs.LineLawLemmas.{lines_are_sorted}
use Rattle.casper_app.proofs.CommandLawLemmas.{words_are_sorted}
use Rattle.casper_app.proofs.laws.schedule_laws.Goals as goal

pub returns-clause-read_back : goal.returns-clause-read_back
returns-clause-read_back c = lines_are_read_back

pub returns-clause-one_text : goal.returns-clause-one_text
returns-clause-one_text c = lines_have_one_text

pub returns-clause-sorted : goal.returns-clause-sorted
returns-clause-sorted c = lines_are_sorted

pub returns-clause-commands : goal.returns-clause-commands
returns-clause-commands c = words_are_sorted
