use Rattle.std.proofs.Common.{◌≡◌, ◌==◌, ℕ, List, Bool, true, false, cond, map, length, refl, sym, ap, ◌∙◌, subst, Contains}
use Rattle.std.proofs.lemmas.Bool.{eqb-true}
use Rattle.std.proofs.lemmas.List.{length-map}
use Rattle.casper_gather.specs.declared.stab.Stab.{Stab}
use Rattle.casper_gather.specs.Bookkeeping.{stabilisation_of}
use Rattle.casper_gather.specs.Unended.{with_changed}
use Rattle.casper_gather.specs.UnendedLaws.{stabilisations_of}
use Rattle.casper_gather.proofs.Shown.{map_shown}
use Rattle.casper_model.specs.Shared.{Shared, change_stabilisation}
use Rattle.casper_model.specs.Stabilisation.{Stabilisation, Doubtful}
use Rattle.casper_turns.proofs.FrozenChanges.{one_of_lead}
use Rattle.casper_turns.proofs.Lists.{contains_mapped}
use Rattle.casper_hub.specs.Committing.{ComesIntoDoubt, in_doubt}
use Rattle.casper_hub.specs.HubView.{HubView}
use Rattle.casper_hub.specs.Shows.{Shows}
use Rattle.casper_hub.specs.Sound.{IsSound, Stands}
use Rattle.casper_hub.proofs.Changing.{formed_beside}
use Rattle.casper_hub.proofs.FinishedKept.{doubted_kept}
use Rattle.casper_hub.proofs.StandsFor.{stands_for, standing}

-- A hub of which a stabilisation is in doubt.

-- as many stabilisations are there
pub as_many : (changed : Stab) (each : List Stab) → length (with_changed changed each) ≡ length each
as_many changed each = length-map each (λ (one : Stab). cond (one.lead == changed.lead) changed one)

-- in a hub each lead has one stabilisation
pub hub_leads_differ : (hub : HubView) → IsSound hub → (one other : Stabilisation) → Contains hub.stabilisations one → Contains hub.stabilisations other → one.lead ≡ other.lead
    → one ≡ other
hub_leads_differ hub sound one other inside also same =
    let found = stands_for hub sound.stands in
    one_of_lead found.shared one other found.good.frozen (subst (λ (all : List Stabilisation). Contains all one) (sym found.shows.stabilisations) inside)
    (subst (λ (all : List Stabilisation). Contains all other) (sym found.shows.stabilisations) also) same

step : (doubtful other : Stab) (test : Bool) → (test ≡ true → stabilisation_of doubtful ≡ record (stabilisation_of other) { phase = Doubtful })
    → stabilisation_of (cond test doubtful other) ≡ cond test (record (stabilisation_of other) { phase = Doubtful }) (stabilisation_of other)
step doubtful other true is = is refl
step doubtful other false is = refl

-- the one that was changed in the list is the one that is in doubt
pub doubted_in : (hub : HubView) → IsSound hub → (doubtful : Stab) (each : List Stab) → stabilisations_of each ≡ hub.stabilisations → ComesIntoDoubt hub (stabilisation_of doubtful)
    → stabilisations_of (with_changed doubtful each) ≡ map (λ (one : Stabilisation). cond (one.lead == doubtful.lead) (record one { phase = Doubtful }) one) (stabilisations_of each)
doubted_in hub sound doubtful each same comes =
    map_shown stabilisation_of (λ other. cond (other.lead == doubtful.lead) doubtful other)
    (λ (one : Stabilisation). cond (one.lead == doubtful.lead) (record one { phase = Doubtful }) one) each
    (λ other inside. step doubtful other (other.lead == doubtful.lead)
    (λ leads.
    let lead : other.lead ≡ doubtful.lead = eqb-true other.lead doubtful.lead leads in
    let before : comes.0 ≡ stabilisation_of other =
    hub_leads_differ hub sound comes.0 (stabilisation_of other) comes.1
    (subst (λ (all : List Stabilisation). Contains all (stabilisation_of other)) same (contains_mapped stabilisation_of each other inside))
    (sym (ap (λ (one : Stabilisation). one.lead) comes.3) ∙ sym lead) in
    comes.3 ∙ ap (λ (one : Stabilisation). record one { phase = Doubtful }) before))

-- a hub in doubt stands for the machine in doubt
pub shows_doubt : (hub : HubView) (lead : ℕ) (shared : Shared) → Shows shared hub
    → Shows (change_stabilisation lead (λ other. record other { phase = Doubtful }) shared) (in_doubt lead hub)
shows_doubt hub lead shared shows = record {
  trail = shows.trail;
  limit = shows.limit;
  pages = shows.pages;
  places = shows.places;
  stabilisations = ap (map (λ (one : Stabilisation). cond (one.lead == lead) (record one { phase = Doubtful }) one)) shows.stabilisations;
  clients = shows.clients;
  rights = shows.rights;
}

-- and is sound
pub doubted_sound : (hub : HubView) → IsSound hub → (doubtful : Stabilisation) → ComesIntoDoubt hub doubtful → IsSound (in_doubt doubtful.lead hub)
doubted_sound hub sound doubtful comes =
    let before = stands_for hub sound.stands in
    let lead : comes.0.lead ≡ doubtful.lead = sym (ap (λ (one : Stabilisation). one.lead) comes.3) in
    let inside : Contains before.shared.stabilisations comes.0 = subst (λ (all : List Stabilisation). Contains all comes.0) (sym before.shows.stabilisations) comes.1 in record {
      formed = formed_beside hub (in_doubt doubtful.lead hub).stabilisations sound.formed;
      stands = subst (λ n. Stands (in_doubt n hub)) lead
          (standing (in_doubt comes.0.lead hub) (record {
            shared = change_stabilisation comes.0.lead (λ other. record other { phase = Doubtful }) before.shared;
            shows = shows_doubt hub comes.0.lead before.shared before.shows;
            good = (doubted_kept before.shared before.good comes.0 inside comes.2).good;
          }));
    }
