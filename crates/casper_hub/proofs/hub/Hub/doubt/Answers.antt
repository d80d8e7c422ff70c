use Rattle.std.proofs.Common.{◌≡◌, List, length, refl, sym, ap, ◌∙◌, subst, arith}
use Rattle.casper_gather.specs.UnendedLaws.{stabilisations_of}
use Rattle.casper_gather.specs.Bookkeeping.{stabilisation_of}
use Rattle.casper_model.specs.Stabilisation.{Stabilisation}
use Rattle.casper_hub.specs.Committing.{ComesIntoDoubt, in_doubt}
use Rattle.casper_hub.specs.HubFields.{hub_of}
use Rattle.casper_hub.specs.HubView.{HubView}
use Rattle.casper_hub.specs.Sound.{IsSound}
use Rattle.casper_hub.proofs.Doubted.{doubted_in, doubted_sound, as_many}
use Rattle.casper_hub.proofs.hub.Hub.doubt.Goals as goal

-- the hub before, and after
abbrev before : goal.After-change → HubView
before c = hub_of c.self.inside.trail.items c.self.inside.limit (stabilisations_of c.self.inside.unended.each) c.self.inside.clients c.self.inside.pages

abbrev after : goal.After-change → HubView
after c = hub_of c.self.inside.trail.items c.self.inside.limit (stabilisations_of c.change.new.self.each) c.self.inside.clients c.self.inside.pages

there : (c : goal.After-change) → ComesIntoDoubt (before c) (stabilisation_of c.args.doubtful)
there c = subst (λ (h : HubView). ComesIntoDoubt h (stabilisation_of c.args.doubtful)) (sym c.self.view_is) c.requires.there

is : (c : goal.After-change) → after c ≡ in_doubt c.args.doubtful.lead (before c)
is c =
    ap (λ (all : List Stabilisation). hub_of c.self.inside.trail.items c.self.inside.limit all c.self.inside.clients c.self.inside.pages)
    (ap stabilisations_of c.change.ensures.each ∙ doubted_in (before c) c.self.invariant.0 c.args.doubtful c.self.inside.unended.each refl (there c))

sound_after : (c : goal.After-change) → IsSound (after c)
sound_after c = subst IsSound (sym (is c)) (doubted_sound (before c) c.self.invariant.0 (stabilisation_of c.args.doubtful) (there c))

pub invariant_of-self : goal.invariant_of-self
invariant_of-self c = (
  sound_after c,
  record {
    limit = c.self.invariant.1.limit;
    associations = c.self.invariant.1.associations;
    pages = c.self.invariant.1.pages;
    room =
        let many = ap length c.change.ensures.each ∙ as_many c.args.doubtful c.self.inside.unended.each in
        let room = c.self.invariant.1.room in
        omega (arith, many, room);
  },
)

pub returns-clause-doubts : goal.returns-clause-doubts
returns-clause-doubts c = is c ∙ ap (in_doubt c.args.doubtful.lead) c.self.view_is

pub returns-clause-sound : goal.returns-clause-sound
returns-clause-sound c = sound_after c
