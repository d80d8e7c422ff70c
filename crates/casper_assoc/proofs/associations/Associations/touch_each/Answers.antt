use Rattle.std.proofs.Common.{refl, sym, ◌∙◌, subst, arith}
use Rattle.casper_assoc.specs.TrailAssociations.{AssociationsView, AreSound}
use Rattle.casper_assoc.proofs.TrailAssociations.{touched_none, touched_next}
use Rattle.casper_assoc.proofs.associations.Associations.touch_each.Goals as goal

pub loop-want-init : goal.loop-want-init
loop-want-init c = record {
  trail = touched_none c.args.self.now c.args.who;
  pages = refl;
  sound = subst (λ (all : AssociationsView). AreSound all) c.self.view_is c.self.invariant;
}

pub touch-requires : goal.touch-requires
touch-requires c =
    let inside = c.requires.within c.want-item.result (c.loop-want.want-index, c.loop-want-test.true, sym c.want-item.is) in
    record { within = omega (arith, inside, c.loop-want.invariant.pages) }

pub loop-want-preserved : goal.loop-want-preserved
loop-want-preserved c = record {
  trail = touched_next c.args.self.now c.loop-want.self c.touch.new.self c.args.who c.args.wants.now c.loop-want.want-index c.want-item.result
      c.loop-want-test.true c.want-item.is c.touch.ensures.client c.loop-want.invariant.trail c.touch.ensures.trail;
  pages = c.touch.ensures.pages ∙ c.loop-want.invariant.pages;
  sound = c.touch.ensures.sound;
}
