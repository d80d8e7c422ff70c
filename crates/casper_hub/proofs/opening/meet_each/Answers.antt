use Rattle.std.proofs.Common.{◌≡◌, ℕ, ◌+◌, ◌∙◌, ◌||◌, Bool, [], ◌∷◌, List, take, refl, sym, ap}
use Rattle.casper_words.specs.declared.page.Right.{Right}
use Rattle.casper_words.specs.declared.page.Want.{Want}
use Rattle.casper_model.specs.Held.{is_to_write}
use Rattle.casper_model.specs.Opening.{any_right}
use Rattle.casper_hub.specs.Asks.{are_for}
use Rattle.casper_hub.proofs.Giving.{covers_after}
use Rattle.casper_hub.proofs.Meeting.{meets_nobody, meets_again, are_for_more, same_but_held, asked_after, ask_at}
use Rattle.casper_hub.proofs.opening.meet_each.Goals as goal

pub loop-ask-init : goal.loop-ask-init
loop-ask-init c = record {
  meets = meets_nobody c.args.who (are_for is_to_write []) (are_for any_right []) c.args.pages.now c.args.cache.now.held c.requires.covers (λ _. refl) (λ _. refl);
  rest = refl;
}

pub meet-requires-clause-covers : goal.meet-requires-clause-covers
meet-requires-clause-covers c =
    covers_after c.args.who c.args.pages.now c.loop-ask.pages c.args.cache.now.held c.loop-ask.cache.held c.requires.covers c.loop-ask.invariant.meets.gives

pub meet-requires-clause-page : goal.meet-requires-clause-page
meet-requires-clause-page c =
    asked_after c.args.who c.args.pages.now c.loop-ask.pages c.args.cache.now.held c.loop-ask.cache.held c.args.asks.now c.loop-ask.invariant.meets.gives c.requires.asked
    c.ask-item.result (ask_at c.args.asks.now c.loop-ask.ask-index c.ask-item.result c.loop-ask-test.true c.ask-item.is)

pub loop-ask-preserved : goal.loop-ask-preserved
loop-ask-preserved c =
    let asks : List Want = c.args.asks.now in
    let more : (test : Right → Bool) (page : ℕ) → are_for test (take (c.loop-ask.ask-index + 1) asks) page ≡ (are_for test (take c.loop-ask.ask-index asks) page || are_for test (c.ask-item.result ∷ []) page) =
    λ test page. are_for_more test asks c.loop-ask.ask-index c.ask-item.result page c.loop-ask-test.true
    ∙ ap (λ (ask : Want). are_for test (take c.loop-ask.ask-index asks) page || are_for test (ask ∷ []) page) (sym c.ask-item.is) in
    record {
      meets = meets_again c.args.who (are_for is_to_write (take c.loop-ask.ask-index asks)) (are_for any_right (take c.loop-ask.ask-index asks))
          (are_for is_to_write (c.ask-item.result ∷ [])) (are_for any_right (c.ask-item.result ∷ []))
          (are_for is_to_write (take (c.loop-ask.ask-index + 1) asks)) (are_for any_right (take (c.loop-ask.ask-index + 1) asks))
          c.args.pages.now c.loop-ask.pages c.meet.new.pages c.args.cache.now.held c.loop-ask.cache.held c.meet.new.cache.held
          c.loop-ask.invariant.meets c.meet.ensures.meets (more is_to_write) (more any_right);
      rest = same_but_held c.args.cache.now c.loop-ask.cache c.meet.new.cache c.loop-ask.invariant.rest c.meet.ensures.rest;
    }
