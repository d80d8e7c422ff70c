use Rattle.std.proofs.Common.{refl, ◌∙◌}
use Rattle.casper_app.specs.Comes.{ComesFrom}
use Rattle.casper_app.specs.Ending.{start_of}
use Rattle.casper_app.proofs.RunLemmas.{runs_as, runs_in_memory, legal_in_memory, runs_unread}
use Rattle.casper_app.proofs.top.replay_in_memory.Goals as goal

pub returns-in-Ok-clause-run : goal.returns-in-Ok-clause-run
returns-in-Ok-clause-run g c =
    runs_in_memory c.args.pages c.args.opening.now c.args.outlet _ _ _ _ _ _ _
    (runs_as _ (ComesFrom c.args.opening.now.entries (start_of c.args.pages c.args.opening.now)) _ _ _ _ _ _ _ _ _ _ (λ lines said asked given items named over. over.comes)
    (c.replay.ensures.run refl (start_of c.args.pages c.args.opening.now) c.in-Ok.ensures.stands))

pub returns-in-Ok-clause-legal : goal.returns-in-Ok-clause-legal
returns-in-Ok-clause-legal g c =
    legal_in_memory c.args.pages c.args.opening.now c.args.outlet _ _ _ _ _ _ _ _ _
    (runs_as _ (ComesFrom c.args.opening.now.entries (start_of c.args.pages c.args.opening.now)) _ _ _ _ _ _ _ _ _ _ (λ lines said asked given items named over. over.comes)
    (c.replay.ensures.run refl (start_of c.args.pages c.args.opening.now) c.in-Ok.ensures.stands))

pub returns-in-Err-clause-run : goal.returns-in-Err-clause-run
returns-in-Err-clause-run g c =
    runs_in_memory c.args.pages c.args.opening.now c.args.outlet _ _ _ _ _ _ _
    (runs_unread c.args.opening.now.entries (start_of c.args.pages c.args.opening.now) c.args.outlet 0 _ _ _ _ _ _ c.end_unread.ensures.ends c.end_unread.ensures.answers (c.end_unread.ensures.trail ∙ c.new-trail.ensures.empty))

pub returns-in-Err-clause-legal : goal.returns-in-Err-clause-legal
returns-in-Err-clause-legal g c =
    legal_in_memory c.args.pages c.args.opening.now c.args.outlet 0 0 (g.S.Source.left c.args.source.now) _ _ _ _ _ _
    (runs_unread c.args.opening.now.entries (start_of c.args.pages c.args.opening.now) c.args.outlet 0 (g.S.Source.left c.args.source.now) _ _ _ _ _ c.end_unread.ensures.ends c.end_unread.ensures.answers (c.end_unread.ensures.trail ∙ c.new-trail.ensures.empty))
