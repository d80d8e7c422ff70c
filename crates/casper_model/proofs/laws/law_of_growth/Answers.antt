use Rattle.casper_model.proofs.Additions.{acquire_adds, serve_adds, stabilise_adds, depart_adds}
use Rattle.casper_model.proofs.StepAdditions.{step_adds}
use Rattle.casper_model.proofs.laws.law_of_growth.Goals as goal

pub returns-clause-acquire : goal.returns-clause-acquire
returns-clause-acquire c = acquire_adds

pub returns-clause-serve : goal.returns-clause-serve
returns-clause-serve c = serve_adds

pub returns-clause-stabilise : goal.returns-clause-stabilise
returns-clause-stabilise c = stabilise_adds

pub returns-clause-depart : goal.returns-clause-depart
returns-clause-depart c = depart_adds

pub returns-clause-step : goal.returns-clause-step
returns-clause-step c = step_adds
