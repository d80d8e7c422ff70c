use Rattle.std.proofs.Common.{refl, ap, ◌∙◌, arith}
use Rattle.casper_cache.specs.Own.{Own}
use Rattle.casper_hub.proofs.Giving.{gives_itself, gives_again, covers_after}
use Rattle.casper_hub.proofs.Installing.{shrunk}
use Rattle.casper_hub.proofs.install.shrink.Goals as goal

pub loop-who-init : goal.loop-who-init
loop-who-init c = record {
  gives = gives_itself c.args.who c.args.pages.now c.args.cache.now.held c.requires.covers;
  all = c.requires.all;
  covers = c.requires.covers;
  rest = refl;
  kept = refl;
}

pub loop-who-preserved : goal.loop-who-preserved
loop-who-preserved c = record {
  gives = gives_again c.args.who c.args.pages.now c.loop-who.pages c.give_up_last.new.pages c.args.cache.now.held c.loop-who.cache.held c.give_up_last.new.cache.held
      c.loop-who.invariant.gives c.give_up_last.ensures.gives;
  all = c.give_up_last.ensures.all;
  covers = covers_after c.args.who c.loop-who.pages c.give_up_last.new.pages c.loop-who.cache.held c.give_up_last.new.cache.held c.loop-who.invariant.covers c.give_up_last.ensures.gives;
  rest = c.give_up_last.ensures.rest ∙ ap (λ (own : Own). record own { held = c.give_up_last.new.cache.held }) c.loop-who.invariant.rest;
  kept = shrunk c.loop-who.cache c.give_up_last.new.cache c.give_up_last.result (omega arith) c.give_up_last.ensures.rest c.give_up_last.ensures.held c.give_up_last.ensures.none ∙ c.loop-who.invariant.kept;
}
