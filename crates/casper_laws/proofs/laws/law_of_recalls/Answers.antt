use Rattle.casper_laws.proofs.RecallSteps.{serve_meets, every_serve_meets}
use Rattle.casper_laws.proofs.laws.law_of_recalls.Goals as goal

pub returns-clause-step : goal.returns-clause-step
returns-clause-step c = serve_meets

pub returns-clause-run : goal.returns-clause-run
returns-clause-run c = every_serve_meets
