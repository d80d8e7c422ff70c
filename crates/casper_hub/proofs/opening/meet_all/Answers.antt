use Rattle.std.proofs.Common.{◌≡◌, ℕ, Bool, true, false, ◌+◌, length, refl, subst, arith}
use Rattle.casper_model.specs.Held.{is_to_write}
use Rattle.casper_model.specs.Opening.{any_right}
use Rattle.casper_hub.specs.HubView.{place_in, asks_of}
use Rattle.casper_hub.specs.Given.{Meets, asked_below}
use Rattle.casper_hub.proofs.Giving.{covers_after}
use Rattle.casper_hub.proofs.Meeting.{meets_along, same_but_held_along, meets_nobody, meets_other, meets_itself, same_but_held, asked_after, asked_of}
use Rattle.casper_hub.proofs.opening.meet_all.Goals as goal
use Rattle.casper_hub.proofs.opening.meet_all.Goals.{in-Some+then-ne, in-Some+else-ne, in_default}

pub loop-number-init : goal.loop-number-init
loop-number-init c = record {
  meets = meets_nobody c.args.who (asked_below 1 is_to_write c.args.clients.now c.args.who) (asked_below 1 any_right c.args.clients.now c.args.who)
      c.args.pages.now c.args.cache.now.held c.requires.covers (λ _. refl) (λ _. refl);
  rest = refl;
}

pub meet_each-requires-clause-covers : goal.meet_each-requires-clause-covers
meet_each-requires-clause-covers c =
    covers_after c.args.who c.args.pages.now c.loop-number.pages c.args.cache.now.held c.loop-number.cache.held c.requires.covers c.loop-number.invariant.meets.gives

pub meet_each-requires-clause-asked : goal.meet_each-requires-clause-asked
meet_each-requires-clause-asked c =
    asked_after c.args.who c.args.pages.now c.loop-number.pages c.args.cache.now.held c.loop-number.cache.held c.asks_of.result.now c.loop-number.invariant.meets.gives
    (asked_of (length c.args.pages.now.rights) c.asks_of.result.now (asks_of (place_in c.args.clients.now c.in-Some.other)) c.asks_of.ensures.asks (c.requires.asked c.in-Some.other))

-- a test does not both pass and fail
false_is_not_true : false ≡ true → ⊥
false_is_not_true e = cc

pub loop-number-preserved : goal.loop-number-preserved
loop-number-preserved c =
    let wholly : ℕ → Bool = asked_below (c.loop-number.number + 1) is_to_write c.args.clients.now c.args.who in
    let asked : ℕ → Bool = asked_below (c.loop-number.number + 1) any_right c.args.clients.now c.args.who in
    elim c.match-new.branch [
      | in-Some+then-ne w ↦ record {
        meets = meets_along c.args.who wholly asked c.args.pages.now w.meet_each.new.pages c.match-new.pages c.args.cache.now.held w.meet_each.new.cache c.match-new.cache w.pages-is w.cache-is
            (meets_other c.loop-number.number w.in-Some.other c.args.clients.now c.args.who w.asks_of.result.now w.ne.result
            c.args.pages.now c.loop-number.pages w.meet_each.new.pages c.args.cache.now.held c.loop-number.cache.held w.meet_each.new.cache.held
            c.loop-number.auto.number w.in-Some.ensures.number w.ne.ensures w.if-ne.true w.asks_of.ensures.asks c.loop-number.invariant.meets w.meet_each.ensures.meets);
        rest = same_but_held_along c.args.cache.now w.meet_each.new.cache c.match-new.cache w.cache-is
            (same_but_held c.args.cache.now c.loop-number.cache w.meet_each.new.cache c.loop-number.invariant.rest w.meet_each.ensures.rest);
      }
      | in-Some+else-ne w ↦ record {
        meets = meets_along c.args.who wholly asked c.args.pages.now c.loop-number.pages c.match-new.pages c.args.cache.now.held c.loop-number.cache c.match-new.cache w.pages-is w.cache-is
            (meets_itself c.loop-number.number w.in-Some.other c.args.clients.now c.args.who w.ne.result
            c.args.pages.now c.loop-number.pages c.args.cache.now.held c.loop-number.cache.held
            c.loop-number.auto.number w.in-Some.ensures.number w.ne.ensures w.if-ne.false c.loop-number.invariant.meets);
        rest = same_but_held_along c.args.cache.now c.loop-number.cache c.match-new.cache w.cache-is c.loop-number.invariant.rest;
      }
      | in_default w ↦
          let never : false ≡ true = w.in_default.ensures.exactly.1 (omega arith, omega arith) in
          absurd (false_is_not_true never)
    ]

pub returns-clause-meets : goal.returns-clause-meets
returns-clause-meets c =
    let last : c.loop-number.number ≡ 33 = omega arith in
    subst (λ (n : ℕ). Meets c.args.who (asked_below n is_to_write c.args.clients.now c.args.who) (asked_below n any_right c.args.clients.now c.args.who)
    c.args.pages.now c.args.cache.now.held c.loop-number.pages c.loop-number.cache.held) last c.loop-number.invariant.meets
