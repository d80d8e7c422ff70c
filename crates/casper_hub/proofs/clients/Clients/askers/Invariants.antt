use Rattle.std.proofs.Common.{◌≡◌, if◌then◌else◌}
use Rattle.casper_model.specs.Held.{is_to_write}
use Rattle.casper_model.specs.Opening.{any_right}
use Rattle.casper_hub.specs.Asks.{asks_for}
use Rattle.casper_hub.proofs.Askers.{passing_below}
use Rattle.casper_hub.proofs.clients.Clients.askers.Given as goal

-- the askers so far
abbrev pub invariant-loop-number : goal.invariant-loop-number
invariant-loop-number l = l.askers ≡ passing_below (asks_for (if l.to_write then is_to_write else any_right) l.self l.who l.page) l.number
