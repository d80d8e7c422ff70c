use Rattle.std.proofs.Common.{◌≡◌, List, map, refl, ◌∙◌}
use Rattle.std.specs.Prelude.{Option, None, Some}
use Rattle.casper_model.specs.declared.outcome.Kept.{Kept}
use Rattle.casper_model.specs.Held.{lowered}
use Rattle.casper_model.specs.Client.{Fallen}
use Rattle.casper_model.specs.Stabilisation.{Stabilisation}
use Rattle.casper_model.specs.Shared.{Shared, fallen_at}
use Rattle.casper_model.specs.Own.{Own}
use Rattle.casper_model.specs.Frozen.{stabilisation_of}
use Rattle.casper_model.specs.Opening.{opened, handed_in}
use Rattle.casper_model.specs.Stabilise.{stabilise, stabilised_by, stabilised, stabilised_in, kept_at}
use Rattle.casper_model.specs.Rights.{TurnStands, TurnKeeps}
use Rattle.casper_model.proofs.HeldRights.{lowered_allow_no_more}
use Rattle.casper_model.proofs.OpeningRights.{IsUp, up_known, known_agreed, known_opened, others_agreed, others_opened, places_agreed, places_opened, opened_allows_no_more}
use Rattle.casper_model.proofs.Additions.{who_opened}
use Rattle.casper_model.proofs.TurnRights.{up_as_it_stands, keeps_with_less, keeps_told, keeps_opened}

-- the order of rights says nothing of the stabilisations
pub keeps_with_stabilisations : (shared : Shared) (own : Own) (after : Shared) (own_after : Own) (stabilisations : List Stabilisation) → TurnKeeps shared own after own_after
    → TurnKeeps shared own (record after { stabilisations = stabilisations }) own_after
keeps_with_stabilisations shared own after own_after stabilisations keeps = record {
  who = keeps.who;
  places = keeps.places;
  others = keeps.others;
  agrees = keeps.agrees;
  up = keeps.up;
  exclusive = keeps.exclusive;
}

-- the lead hands in its pages
keeps_handed_in : (shared : Shared) (own : Own) → TurnStands shared own → IsUp shared own.who
    → TurnKeeps shared own (handed_in (opened shared own)).shared (handed_in (opened shared own)).own
keeps_handed_in shared own stands is =
    let both = opened shared own in
    let own_after : Own = record (both.own) { held = map lowered both.own.held } in
    keeps_with_less shared own (handed_in both).shared own_after stands is (who_opened shared own)
    (places_agreed both.shared own_after ∙ places_opened shared own)
    (λ number apart. others_agreed both.shared own_after number (λ same. apart (same ∙ who_opened shared own)) ∙ others_opened shared own number apart)
    (known_agreed both.shared own_after (up_known both.shared both.own (known_opened shared own is)))
    (λ page right found. opened_allows_no_more shared own page right (lowered_allow_no_more both.own.held page right found))

keeps_in : (shared : Shared) (own : Own) → TurnStands shared own → IsUp shared own.who → (one : Option Stabilisation)
    → TurnKeeps shared own (stabilised_in (opened shared own) one).shared (stabilised_in (opened shared own) one).own
keeps_in shared own stands is None =
    keeps_with_stabilisations shared own (handed_in (opened shared own)).shared (handed_in (opened shared own)).own _ (keeps_handed_in shared own stands is)
keeps_in shared own stands is (Some one) =
    keeps_with_stabilisations shared own (opened shared own).shared (opened shared own).own _ (keeps_opened shared own stands is)

keeps_stabilised : (shared : Shared) (own : Own) → TurnStands shared own → IsUp shared own.who → (kept : Option Kept)
    → TurnKeeps shared own (stabilised (opened shared own) kept).shared (stabilised (opened shared own) kept).own
keeps_stabilised shared own stands is None = keeps_in shared own stands is (stabilisation_of (opened shared own).shared (opened shared own).own.who)
keeps_stabilised shared own stands is (Some outcome) = keeps_opened shared own stands is

pub keeps_by : (shared : Shared) (own : Own) → TurnStands shared own → (fallen : Option Fallen) → fallen_at shared own.who ≡ fallen
    → TurnKeeps shared own (stabilised_by shared own fallen).shared (stabilised_by shared own fallen).own
keeps_by shared own stands (Some fallen) e = keeps_told shared own fallen stands e
keeps_by shared own stands None e = keeps_stabilised shared own stands (up_as_it_stands shared own stands e) (kept_at shared own.who)

pub keeps_stabilise : (shared : Shared) (own : Own) → TurnStands shared own → TurnKeeps shared own (stabilise shared own).shared (stabilise shared own).own
keeps_stabilise shared own stands = keeps_by shared own stands (fallen_at shared own.who) refl
