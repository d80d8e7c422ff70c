use Rattle.casper_model.proofs.Computed.{repeated_stabilisation, two_members_stabilise, gather, frames_too_few_by_one, frames_just_enough, frames_used_up, fault_before_the_gate, doubt_settled, doubt_that_stands, loss_while_sealed, loss_while_sealed_undone, loss_while_gathering, loss_in_doubt}
use Rattle.casper_model.proofs.rows.rows_of_stabilisations.Goals as goal

pub returns-clause-repeated : goal.returns-clause-repeated
returns-clause-repeated c = repeated_stabilisation

pub returns-clause-two_members : goal.returns-clause-two_members
returns-clause-two_members c = two_members_stabilise

pub returns-clause-gather : goal.returns-clause-gather
returns-clause-gather c = gather

pub returns-clause-too_few_frames : goal.returns-clause-too_few_frames
returns-clause-too_few_frames c = frames_too_few_by_one

pub returns-clause-enough_frames : goal.returns-clause-enough_frames
returns-clause-enough_frames c = frames_just_enough

pub returns-clause-frames_used_up : goal.returns-clause-frames_used_up
returns-clause-frames_used_up c = frames_used_up

pub returns-clause-fault : goal.returns-clause-fault
returns-clause-fault c = fault_before_the_gate

pub returns-clause-doubt_settled : goal.returns-clause-doubt_settled
returns-clause-doubt_settled c = doubt_settled

pub returns-clause-doubt_stands : goal.returns-clause-doubt_stands
returns-clause-doubt_stands c = doubt_that_stands

pub returns-clause-loss_while_sealed : goal.returns-clause-loss_while_sealed
returns-clause-loss_while_sealed c = loss_while_sealed

pub returns-clause-loss_undone : goal.returns-clause-loss_undone
returns-clause-loss_undone c = loss_while_sealed_undone

pub returns-clause-loss_while_gathering : goal.returns-clause-loss_while_gathering
returns-clause-loss_while_gathering c = loss_while_gathering

pub returns-clause-loss_in_doubt : goal.returns-clause-loss_in_doubt
returns-clause-loss_in_doubt c = loss_in_doubt
