use Rattle.std.proofs.Common.{◌∙◌}
use Rattle.casper_shell.proofs.Staying.{stays}
use Rattle.casper_shell.proofs.running.run_line.Goals as goal

pub returns-in-Ok-clause-store : goal.returns-in-Ok-clause-store
returns-in-Ok-clause-store g c =
    stays g.Y.Words.step g.Y.Session.pages g.met.Y.Session.pages_stay _ _ _ c.make_calls.ensures.made.steps ∙ c.hold_pages.ensures.pages
