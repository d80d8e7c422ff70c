use Rattle.std.proofs.Common.{not, ◌&&◌, nat_eq, sym, ◌∙◌}
use Rattle.casper_dir.specs.Rights.{right_at}
use Rattle.casper_dir.specs.Holding.{is_in_conflict}
use Rattle.casper_model.specs.Opening.{any_right}
use Rattle.casper_hub.specs.Asks.{asks_for}
use Rattle.casper_hub.specs.Deciding.{is_given}
use Rattle.casper_hub.proofs.Deciding.{blockers_of_both}
use Rattle.casper_hub.proofs.decide.blockers_of_one.Goals as goal

pub returns-then-is_given : goal.returns-then-is_given
returns-then-is_given c =
    blockers_of_both (is_given c.args.pages.now c.args.clients.now c.args.who c.args.want.page)
    (λ other. not (nat_eq other c.args.who) && is_in_conflict c.args.want.right (right_at c.args.pages.now.rights other c.args.want.page))
    (asks_for any_right c.args.clients.now c.args.who c.args.want.page)
    c.conflicts-conflicts.result c.askers.result c.union.result (sym c.is_given.ensures ∙ c.if-is_given.true)
    c.conflicts-conflicts.ensures c.askers.ensures c.union.ensures.members
