use Rattle.std.proofs.Common.{◌≡◌, ℕ, List, sym, ap, ap₂, subst}
use Rattle.std.specs.Prelude.{Option, None, Some}
use Rattle.casper_trail.specs.declared.item.Item.{Item}
use Rattle.casper_trail.specs.Clients.{AreOfClients}
use Rattle.casper_assoc.specs.TrailAssociations.{AssociationsView, AreAssociationsOf}
use Rattle.casper_cache.specs.Own as cache
use Rattle.casper_model.specs.Opening.{gathering_of}
use Rattle.casper_model.specs.Shared.{Shared}
use Rattle.casper_model.specs.Stabilisation.{Stabilisation}
use Rattle.casper_turns.specs.Good.{IsGoodShared}
use Rattle.casper_gather.specs.Unended.{UnendedView}
use Rattle.casper_gather.specs.UnendedLaws.{stabilisations_of}
use Rattle.casper_frozen.specs.Bridge.{Keeps}
use Rattle.casper_hub.specs.Handing.{HandsInTheirPages}
use Rattle.casper_hub.specs.HubFields.{hub_of}
use Rattle.casper_hub.specs.HubView.{HubView, ClientView, PagesView}
use Rattle.casper_hub.specs.Owned.{own_of}
use Rattle.casper_hub.specs.Shows.{Shows}
use Rattle.casper_hub.specs.Sound.{StandsFor}
use Rattle.casper_hub.specs.Stages.{Opens, OpensTurn, HandsIn, gathering_in}
use Rattle.casper_hub.proofs.Handing.{gathering_shown}
use Rattle.casper_hub.proofs.ServedTurns.{meeting, met_turn, kept_meeting}
use Rattle.casper_hub.proofs.StandsFor.{stands_for}
use Rattle.casper_hub.proofs.Whole.{Whole, Owning}

-- What opened a turn, said of the parts of a hub.

-- for each shared part that these keep, the client handed in where its association is gathering
abbrev pub HandsInForEach : ℕ → UnendedView → AssociationsView → PagesView → cache.Own → UnendedView → PagesView → cache.Own → Type 0
HandsInForEach who unended all pages own unended_after after own_after = (shared : Shared) → Keeps unended all shared → IsGoodShared shared
    → HandsInTheirPages who (gathering_of shared who) unended pages own unended_after after own_after

module _ (who limit : ℕ) (trail : List Item) (places : List (Option ClientView)) (all : AssociationsView) (unended unended_after : UnendedView) (pages after : PagesView) (own own_after : cache.Own)
    (associations : AreAssociationsOf all trail) (clients : AreOfClients trail) (handed : HandsInForEach who unended all pages own unended_after after own_after) where
  abbrev before : HubView
  before = hub_of trail limit (stabilisations_of unended.each) places pages

  abbrev behind : HubView
  behind = hub_of trail limit (stabilisations_of unended_after.each) places after

  hands_for : (shared : Shared) → Shows shared before → IsGoodShared shared → HandsIn who (gathering_in before who) before own behind own_after
  hands_for shared shows good =
      subst (λ gathering. HandsIn who gathering before own behind own_after) (gathering_shown shared before who shows)
      (by (gathering_of shared who) (handed shared keeps good))
    where
      keeps : Keeps unended all shared
      keeps = record {
        stabilisations = shows.stabilisations;
        associations = subst (AreAssociationsOf all) (sym shows.trail) associations;
        clients = subst AreOfClients (sym shows.trail) clients;
      }

      by : (gathering : Option Stabilisation) → HandsInTheirPages who gathering unended pages own unended_after after own_after
          → HandsIn who gathering before own behind own_after
      by None h = (ap₂ (λ (u : UnendedView) p. hub_of trail limit (stabilisations_of u.each) places p) h.0 h.1, h.2)
      by (Some gathering) h = record {
        hub_is = ap (λ list. hub_of trail limit list places after) h.each;
        own_is = h.own_is;
        gives = h.gives;
        rights = h.rights;
      }

  -- so a turn that met the asks, and whose client then handed in, opened
  pub opens_turn_for : (hub : HubView) (own_first : cache.Own) → Whole hub → Owning hub own_first → own_first.client ≡ who → Opens own_first.client hub own_first before own
      → OpensTurn own_first.client hub own_first behind own_after
  opens_turn_for hub own_first sound owns is opens = record {
    met = before;
    met_own = own;
    opens = opens;
    hands = subst (λ (w : ℕ). HandsIn w (gathering_in before w) before own behind own_after) (sym is)
        (hands_for (meeting good.shared (own_of own_first)).shared
        ((met_turn hub own_first before own sound owns opens).shows good.shared good.shows)
        (kept_meeting hub own_first owns good.shared good.shows good.good).good);
  }
    where
      good : StandsFor hub
      good = stands_for hub sound.sound.stands
