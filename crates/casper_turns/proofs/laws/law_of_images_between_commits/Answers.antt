use Rattle.casper_turns.proofs.Compose.{still_itself, still_again}
use Rattle.casper_turns.proofs.StillImages.{image_while_still, held_image_while_still}
use Rattle.casper_turns.proofs.TurnLaws.{open_writes_stand, job_stands}
use Rattle.casper_turns.proofs.laws.law_of_images_between_commits.Goals as goal

pub returns-clause-itself : goal.returns-clause-itself
returns-clause-itself c = still_itself

pub returns-clause-again : goal.returns-clause-again
returns-clause-again c = still_again

pub returns-clause-stable : goal.returns-clause-stable
returns-clause-stable c = image_while_still

pub returns-clause-held : goal.returns-clause-held
returns-clause-held c = held_image_while_still

pub returns-clause-writes : goal.returns-clause-writes
returns-clause-writes c = open_writes_stand

pub returns-clause-job : goal.returns-clause-job
returns-clause-job c = job_stands
