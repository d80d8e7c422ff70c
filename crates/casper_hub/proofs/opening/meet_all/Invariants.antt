use Rattle.std.proofs.Common.{◌≡◌}
use Rattle.casper_model.specs.Held.{is_to_write}
use Rattle.casper_model.specs.Opening.{any_right}
use Rattle.casper_hub.specs.Given.{Meets, asked_below}
use Rattle.casper_hub.proofs.opening.meet_all.Given as goal

-- the asks of the clients with lesser numbers are met
abbrev pub invariant-loop-number : goal.invariant-loop-number
invariant-loop-number l = record {
  meets : Meets l.who (asked_below l.number is_to_write l.clients l.who) (asked_below l.number any_right l.clients l.who) l.initial.pages l.initial.cache.held l.pages l.cache.held;
  rest : l.cache ≡ record (l.initial.cache) { held = l.cache.held };
}
