use Rattle.casper_laws.proofs.RunFacts.{every_run_notes}
use Rattle.casper_laws.proofs.RunFactsDoubt.{every_doubt_of_a_lead}
use Rattle.casper_laws.proofs.RunFactsNotes.{every_run_notes_the_unfallen}
use Rattle.casper_laws.proofs.laws.law_of_notes_and_doubts.Goals as goal

pub returns-clause-noted : goal.returns-clause-noted
returns-clause-noted c = every_run_notes

pub returns-clause-unfallen : goal.returns-clause-unfallen
returns-clause-unfallen c = every_run_notes_the_unfallen

pub returns-clause-doubt : goal.returns-clause-doubt
returns-clause-doubt c = every_doubt_of_a_lead
