use Rattle.casper_answers.proofs.Losses.{every_rollback, every_loss_spares, every_loss_ends, every_loss_fells, every_fall_is_a_loss, every_fallen_is_marked, every_told_fall, every_told_is_up, every_fallen_is_told, every_note_is_declared, every_first_note_stays, every_note_is_made, no_gathering_has_a_note, every_vanishing_is_told, every_loss_is_told}
use Rattle.casper_answers.proofs.laws.law_of_losses.Goals as goal

pub returns-clause-rollback : goal.returns-clause-rollback
returns-clause-rollback c = every_rollback

pub returns-clause-spares : goal.returns-clause-spares
returns-clause-spares c = every_loss_spares

pub returns-clause-ends : goal.returns-clause-ends
returns-clause-ends c = every_loss_ends

pub returns-clause-fells : goal.returns-clause-fells
returns-clause-fells c = every_loss_fells

pub returns-clause-fallen : goal.returns-clause-fallen
returns-clause-fallen c = every_fall_is_a_loss

pub returns-clause-marked : goal.returns-clause-marked
returns-clause-marked c = every_fallen_is_marked

pub returns-clause-told : goal.returns-clause-told
returns-clause-told c = every_told_fall

pub returns-clause-up : goal.returns-clause-up
returns-clause-up c = every_told_is_up

pub returns-clause-tells : goal.returns-clause-tells
returns-clause-tells c = every_fallen_is_told

pub returns-clause-declared : goal.returns-clause-declared
returns-clause-declared c = every_note_is_declared

pub returns-clause-first : goal.returns-clause-first
returns-clause-first c = every_first_note_stays

pub returns-clause-noted : goal.returns-clause-noted
returns-clause-noted c = every_note_is_made

pub returns-clause-gathering : goal.returns-clause-gathering
returns-clause-gathering c = no_gathering_has_a_note

pub returns-clause-vanishing : goal.returns-clause-vanishing
returns-clause-vanishing c = every_vanishing_is_told

pub returns-clause-losing : goal.returns-clause-losing
returns-clause-losing c = every_loss_is_told
