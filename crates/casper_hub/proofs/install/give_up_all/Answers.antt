use Rattle.std.proofs.Common.{refl, ap, ◌∙◌}
use Rattle.casper_cache.specs.Own.{Own}
use Rattle.casper_hub.proofs.Giving.{gives_itself, gives_again, covers_after}
use Rattle.casper_hub.proofs.install.give_up_all.Goals as goal

pub loop-who-init : goal.loop-who-init
loop-who-init c = record {
  gives = gives_itself c.args.who c.args.pages.now c.args.cache.now.held c.requires.covers;
  all = c.requires.all;
  covers = c.requires.covers;
  rest = refl;
}

pub loop-who-preserved : goal.loop-who-preserved
loop-who-preserved c = record {
  gives = gives_again c.args.who c.args.pages.now c.loop-who.pages c.give_up_last.new.pages c.args.cache.now.held c.loop-who.cache.held c.give_up_last.new.cache.held
      c.loop-who.invariant.gives c.give_up_last.ensures.gives;
  all = c.give_up_last.ensures.all;
  covers = covers_after c.args.who c.loop-who.pages c.give_up_last.new.pages c.loop-who.cache.held c.give_up_last.new.cache.held c.loop-who.invariant.covers c.give_up_last.ensures.gives;
  rest = c.give_up_last.ensures.rest ∙ ap (λ (own : Own). record own { held = c.give_up_last.new.cache.held }) c.loop-who.invariant.rest;
}

pub returns-clause-gives : goal.returns-clause-gives
returns-clause-gives c =
    gives_again c.args.who c.args.pages.now c.loop-who.pages c.give_up_last.new.pages c.args.cache.now.held c.loop-who.cache.held c.give_up_last.new.cache.held
    c.loop-who.invariant.gives c.give_up_last.ensures.gives
