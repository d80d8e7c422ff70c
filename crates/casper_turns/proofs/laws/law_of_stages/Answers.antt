use Rattle.casper_turns.proofs.StageTurns.{each_stage_keeps, each_stage_goes_on, telling_keeps, leaving_keeps, kept_both}
use Rattle.casper_turns.proofs.laws.law_of_stages.Goals as goal

pub returns-clause-kept : goal.returns-clause-kept
returns-clause-kept c = each_stage_keeps

pub returns-clause-way : goal.returns-clause-way
returns-clause-way c = each_stage_goes_on

pub returns-clause-told : goal.returns-clause-told
returns-clause-told c = telling_keeps

pub returns-clause-left : goal.returns-clause-left
returns-clause-left c = leaving_keeps

pub returns-clause-again : goal.returns-clause-again
returns-clause-again c = kept_both
