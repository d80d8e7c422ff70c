use Rattle.std.proofs.Common.{◌≡◌, take}
use Rattle.casper_model.specs.Held.{is_to_write}
use Rattle.casper_model.specs.Opening.{any_right}
use Rattle.casper_hub.specs.Asks.{are_for}
use Rattle.casper_hub.specs.Given.{Meets}
use Rattle.casper_hub.proofs.opening.meet_each.Given as goal

-- the asks so far are met
abbrev pub invariant-loop-ask : goal.invariant-loop-ask
invariant-loop-ask l = record {
  meets : Meets l.who (are_for is_to_write (take l.ask-index l.asks)) (are_for any_right (take l.ask-index l.asks)) l.initial.pages l.initial.cache.held l.pages l.cache.held;
  rest : l.cache ≡ record (l.initial.cache) { held = l.cache.held };
}
