use Rattle.std.proofs.Common.{◌≡◌, sym, ap, ◌∙◌, subst}
use Rattle.casper_trail.specs.Clients.{AreOfClients}
use Rattle.casper_assoc.specs.TrailAssociations.{AssociationsView, AreAssociationsOf}
use Rattle.casper_frozen.specs.Bridge.{Keeps}
use Rattle.casper_gather.specs.Unended.{UnendedView}
use Rattle.casper_gather.specs.UnendedLaws.{stabilisations_of}
use Rattle.casper_model.specs.Shared.{Shared}
use Rattle.casper_hub.specs.HubView.{HubView}
use Rattle.casper_hub.specs.Shows.{Shows}
use Rattle.casper_hub.specs.Sound.{Stands, StandsFor, IsSound}
use Rattle.casper_hub.proofs.KeptUp.{clients_recorded}
use Rattle.casper_hub.proofs.StandsFor.{stands_for}

-- What a hub keeps of its stabilisations and of the associations of its trail is of each shared part that it stands for.

pub keeps_of : (shared : Shared) (hub : HubView) (unended : UnendedView) (associations : AssociationsView) → Shows shared hub → Stands hub
    → stabilisations_of unended.each ≡ hub.stabilisations → AreAssociationsOf associations hub.trail → Keeps unended associations shared
keeps_of shared hub unended associations shows stands list of_trail = record {
  stabilisations = shows.stabilisations ∙ sym list;
  associations = subst (AreAssociationsOf associations) (sym shows.trail) of_trail;
  clients = subst AreOfClients (sym shows.trail) (clients_recorded hub stands);
}

-- so they keep a good one
pub keeps_for : (hub view : HubView) (unended : UnendedView) (associations : AssociationsView) → view ≡ hub → IsSound view
    → stabilisations_of unended.each ≡ view.stabilisations → AreAssociationsOf associations view.trail → (good : StandsFor hub) × Keeps unended associations good.shared
keeps_for hub view unended associations view_is sound list of_trail = (good, keeps)
  where
    stands : Stands hub
    stands = subst Stands view_is sound.stands

    good : StandsFor hub
    good = stands_for hub stands

    keeps : Keeps unended associations good.shared
    keeps =
        keeps_of good.shared hub unended associations good.shows stands (list ∙ ap (λ (h : HubView). h.stabilisations) view_is)
        (subst (λ (h : HubView). AreAssociationsOf associations h.trail) view_is of_trail)
