use Rattle.std.proofs.Common.{◌∙◌, length, sym, ap, subst, arith}
use Rattle.std.specs.Prelude.{is_some}
use Rattle.casper_assoc.specs.TrailAssociations.{AreAssociationsOf}
use Rattle.casper_hub.specs.HubView.{count_up}
use Rattle.casper_hub.proofs.NewHub.{sound_new, shows_new, nobody_live}
use Rattle.casper_gather.specs.UnendedLaws.{stabilisations_of}
use Rattle.casper_hub.proofs.hub.Hub.new.Goals as goal

pub invariant_of-result : goal.invariant_of-result
invariant_of-result c = (
  sound_new c.args.pages c.args.limit (stabilisations_of c.new-5.result.each) (ap stabilisations_of c.new-5.ensures.none) c.new-4.result.items c.in_ok-clients.clients c.in_ok-pages.pages c.new-4.ensures.empty c.in_ok-clients.ensures
      c.in_ok-pages.ensures.rights c.in_ok-pages.ensures.none c.in_ok-pages.ensures.holders c.in_ok-pages.ensures.frames (omega arith) (omega arith),
  record {
    limit = c.new-4.ensures.limit;
    associations = subst (AreAssociationsOf c.in_ok-associations.associations) (sym c.new-4.ensures.empty) c.in_ok-associations.ensures.trail;
    pages = c.in_ok-associations.ensures.pages ∙ sym c.in_ok-pages.ensures.rights;
    room = omega (arith, ap count_up c.in_ok-clients.ensures, ap length c.new-5.ensures.none);
  },
)

pub returns-clause-shows : goal.returns-clause-shows
returns-clause-shows c =
    shows_new c.args.pages c.args.limit (stabilisations_of c.new-5.result.each) (ap stabilisations_of c.new-5.ensures.none) c.new-4.result.items c.in_ok-clients.clients c.in_ok-pages.pages c.new-4.ensures.empty c.in_ok-clients.ensures
    c.in_ok-pages.ensures.rights c.in_ok-pages.ensures.none

pub returns-clause-absent : goal.returns-clause-absent
returns-clause-absent c who = ap is_some (nobody_live c.in_ok-clients.clients c.in_ok-clients.ensures who)

pub returns-clause-sound : goal.returns-clause-sound
returns-clause-sound c = (invariant_of-result c).0
