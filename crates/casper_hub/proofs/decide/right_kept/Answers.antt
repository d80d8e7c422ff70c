use Rattle.std.proofs.Common.{◌≡◌, Some, arith}
use Rattle.casper_dir.specs.Rights.{right_at}
use Rattle.casper_model.specs.Held.{is_to_write}
use Rattle.casper_model.specs.Opening.{any_right}
use Rattle.casper_hub.specs.Asks.{asks_for, is_asked_for}
use Rattle.casper_hub.proofs.Deciding.{met_wholly, met_to_read, met_by_nobody, crew_some, crew_none}
use Rattle.casper_hub.proofs.decide.right_kept.Goals as goal

pub returns-then-count-gt0 : goal.returns-then-count-gt0
returns-then-count-gt0 c =
    met_wholly (is_asked_for is_to_write c.args.clients.now c.args.who c.args.page) (is_asked_for any_right c.args.clients.now c.args.who c.args.page)
    (right_at c.args.pages.now.rights c.args.who c.args.page)
    (crew_some (asks_for is_to_write c.args.clients.now c.args.who c.args.page) c.askers.result c.askers.ensures (omega arith))

pub returns-then-count-gt0-2 : goal.returns-then-count-gt0-2
returns-then-count-gt0-2 c =
    let was : right_at c.args.pages.now.rights c.args.who c.args.page ≡ Some c.in_ok-right.right = cc c.in_ok-right.ensures in
    met_to_read (is_asked_for is_to_write c.args.clients.now c.args.who c.args.page) (is_asked_for any_right c.args.clients.now c.args.who c.args.page)
    (right_at c.args.pages.now.rights c.args.who c.args.page) c.in_ok-right.right was
    (crew_none (asks_for is_to_write c.args.clients.now c.args.who c.args.page) c.askers.result c.askers.ensures (omega arith))
    (crew_some (asks_for any_right c.args.clients.now c.args.who c.args.page) c.askers-2.result c.askers-2.ensures (omega arith))

pub returns : goal.returns
returns c =
    let was : right_at c.args.pages.now.rights c.args.who c.args.page ≡ Some c.in_ok-right.right = cc c.in_ok-right.ensures in
    met_by_nobody (is_asked_for is_to_write c.args.clients.now c.args.who c.args.page) (is_asked_for any_right c.args.clients.now c.args.who c.args.page)
    (right_at c.args.pages.now.rights c.args.who c.args.page) c.in_ok-right.right was
    (crew_none (asks_for is_to_write c.args.clients.now c.args.who c.args.page) c.askers.result c.askers.ensures (omega arith))
    (crew_none (asks_for any_right c.args.clients.now c.args.who c.args.page) c.askers-2.result c.askers-2.ensures (omega arith))
