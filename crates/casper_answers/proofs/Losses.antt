use Rattle.casper_model.specs.Run.{state_after}
use Rattle.casper_model.specs.State.{start}
use Rattle.casper_answers.specs.Losses.{EachRollbackIsOfALoss, EachLossSparesTheOthers, EachLossEndsItsOwn, EachLossFellsItsAssociation, EachFallIsOfALoss, EachFallenClientIsMarked, EachToldFallIsTrue, EachToldClientIsUp, EachFallenClientIsTold, EachNoteIsOfALoss, EachFirstNoteStays, EachAnsweredNoteIsMade, NoGatheringHasANote, EachVanishingIsToldTruly, EachLossIsToldTruly}
use Rattle.casper_answers.proofs.Carried.{step_carries}
use Rattle.casper_answers.proofs.LossCounts.{rolls_back, fells_association, fells_nobody_else}
use Rattle.casper_answers.proofs.LossTurns.{tells_the_fallen, tells_vanishing, tells_losses, notes_what_it_says}
use Rattle.casper_answers.proofs.Sessions.{every_session}
use Rattle.casper_answers.proofs.StepMoves.{notes_declared, keeps_first_note}
use Rattle.casper_answers.proofs.ToldTurns.{true_falls, up_once_told}

-- The laws of losses and falls.

pub every_rollback : EachRollbackIsOfALoss
every_rollback vault pages limit capacity happenings none named happened outside is =
    let session = every_session vault pages limit capacity happenings none named in
    rolls_back (state_after (start vault pages limit capacity) happenings) session.answering.known happened outside is

pub every_loss_spares : EachLossSparesTheOthers
every_loss_spares vault pages limit capacity happenings none named happened outside is =
    let session = every_session vault pages limit capacity happenings none named in
    λ lost one carried inside out. (step_carries (state_after (start vault pages limit capacity) happenings) session.answering.known session.answering.members happened outside is lost carried).left one inside out

pub every_loss_ends : EachLossEndsItsOwn
every_loss_ends vault pages limit capacity happenings none named happened outside is =
    let session = every_session vault pages limit capacity happenings none named in
    λ lost next carried there. (step_carries (state_after (start vault pages limit capacity) happenings) session.answering.known session.answering.members happened outside is lost carried).gone next there

pub every_loss_fells : EachLossFellsItsAssociation
every_loss_fells vault pages limit capacity happenings none named happened outside is =
    let session = every_session vault pages limit capacity happenings none named in
    fells_association (state_after (start vault pages limit capacity) happenings) session.answering.known happened outside is

pub every_fall_is_a_loss : EachFallIsOfALoss
every_fall_is_a_loss vault pages limit capacity happenings none named happened outside is =
    let session = every_session vault pages limit capacity happenings none named in
    fells_nobody_else (state_after (start vault pages limit capacity) happenings) session.answering.known happened outside is

pub every_fallen_is_marked : EachFallenClientIsMarked
every_fallen_is_marked vault pages limit capacity happenings none named =
    let session = every_session vault pages limit capacity happenings none named in
    session.marked

pub every_told_fall : EachToldFallIsTrue
every_told_fall vault pages limit capacity happenings none named happened outside is =
    let session = every_session vault pages limit capacity happenings none named in
    true_falls (state_after (start vault pages limit capacity) happenings) session.answering.known session.marked happened outside is

pub every_told_is_up : EachToldClientIsUp
every_told_is_up vault pages limit capacity happenings none named happened outside is =
    let session = every_session vault pages limit capacity happenings none named in
    up_once_told (state_after (start vault pages limit capacity) happenings) session.answering.known happened outside is

pub every_fallen_is_told : EachFallenClientIsTold
every_fallen_is_told vault pages limit capacity happenings none named =
    let session = every_session vault pages limit capacity happenings none named in
    tells_the_fallen (state_after (start vault pages limit capacity) happenings) session.answering.known

pub every_note_is_declared : EachNoteIsOfALoss
every_note_is_declared vault pages limit capacity happenings none named happened outside is =
    let session = every_session vault pages limit capacity happenings none named in
    notes_declared (state_after (start vault pages limit capacity) happenings) session.answering.known happened outside is

pub every_first_note_stays : EachFirstNoteStays
every_first_note_stays vault pages limit capacity happenings none named happened outside is =
    let session = every_session vault pages limit capacity happenings none named in
    keeps_first_note (state_after (start vault pages limit capacity) happenings) session.answering.known happened outside is

pub every_note_is_made : EachAnsweredNoteIsMade
every_note_is_made vault pages limit capacity happenings none named happened outside is =
    let session = every_session vault pages limit capacity happenings none named in
    notes_what_it_says (state_after (start vault pages limit capacity) happenings) session.answering.known happened outside

pub no_gathering_has_a_note : NoGatheringHasANote
no_gathering_has_a_note vault pages limit capacity happenings none named =
    let session = every_session vault pages limit capacity happenings none named in
    session.unnoted

pub every_vanishing_is_told : EachVanishingIsToldTruly
every_vanishing_is_told vault pages limit capacity happenings none named =
    let session = every_session vault pages limit capacity happenings none named in
    tells_vanishing (state_after (start vault pages limit capacity) happenings) session.answering.known

pub every_loss_is_told : EachLossIsToldTruly
every_loss_is_told vault pages limit capacity happenings none named =
    let session = every_session vault pages limit capacity happenings none named in
    tells_losses (state_after (start vault pages limit capacity) happenings) session.answering.known
