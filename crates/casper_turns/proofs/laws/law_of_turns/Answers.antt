use Rattle.casper_turns.proofs.Losses.{vanish_kept}
use Rattle.casper_turns.proofs.TurnLaws.{each_turn_keeps, each_turn_leaves_others}
use Rattle.casper_turns.proofs.laws.law_of_turns.Goals as goal

pub returns-clause-kept : goal.returns-clause-kept
returns-clause-kept c = each_turn_keeps

pub returns-clause-others : goal.returns-clause-others
returns-clause-others c = each_turn_leaves_others

pub returns-clause-vanish : goal.returns-clause-vanish
returns-clause-vanish c = vanish_kept
