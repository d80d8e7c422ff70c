use Rattle.casper_turns.proofs.TurnLaws.{each_change_keeps, loss_is_still, finish_leaves_other_leads, settle_leaves_other_leads}
use Rattle.casper_turns.proofs.laws.law_of_changes.Goals as goal

pub returns-clause-kept : goal.returns-clause-kept
returns-clause-kept c = each_change_keeps

pub returns-clause-loss : goal.returns-clause-loss
returns-clause-loss c = loss_is_still

pub returns-clause-finish : goal.returns-clause-finish
returns-clause-finish c = finish_leaves_other_leads

pub returns-clause-settle : goal.returns-clause-settle
returns-clause-settle c = settle_leaves_other_leads
