use Rattle.casper_laws.proofs.HeldWordOwn.{others_leave_own_parts}
use Rattle.casper_laws.proofs.HeldWordSteps.{every_step_keeps_held_words, others_leave_held_words}
use Rattle.casper_laws.proofs.HeldWordFallen.{the_fallen_see_on}
use Rattle.casper_laws.proofs.HeldWordReads.{every_read_of_what_is_seen, every_write_is_seen}
use Rattle.casper_laws.proofs.laws.law_of_held_words_in_steps.Goals as goal

pub returns-clause-parts : goal.returns-clause-parts
returns-clause-parts c = others_leave_own_parts

pub returns-clause-step : goal.returns-clause-step
returns-clause-step c = every_step_keeps_held_words

pub returns-clause-others : goal.returns-clause-others
returns-clause-others c = others_leave_held_words

pub returns-clause-fallen : goal.returns-clause-fallen
returns-clause-fallen c = the_fallen_see_on

pub returns-clause-read : goal.returns-clause-read
returns-clause-read c = every_read_of_what_is_seen

pub returns-clause-write : goal.returns-clause-write
returns-clause-write c = every_write_is_seen
