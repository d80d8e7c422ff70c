use Rattle.std.proofs.Common.{◌≡◌, ◌⊎◌, ℕ, List, Bool, true, false, cond, refl, sym, ap, ◌∙◌, inl, inr, ⊎_elim}
use Rattle.std.specs.Prelude.{Option, None, Some, option_map, unwrap_or}
use Rattle.std.proofs.lemmas.Bool.{cond_both, cases_eq}
use Rattle.casper_words.specs.Crew.{has_member}
use Rattle.casper_trail.specs.Parts.{live_entries}
use Rattle.casper_trail.specs.Association.{association_of}
use Rattle.casper_model.specs.declared.outcome.Kept.{Kept}
use Rattle.casper_model.specs.Client.{Client, Fallen}
use Rattle.casper_model.specs.Finish.{ended}
use Rattle.casper_model.specs.Loss.{rolled_back, fallen_behind}
use Rattle.casper_model.specs.Own.{Own}
use Rattle.casper_model.specs.Rights.{TurnKeeps}
use Rattle.casper_model.specs.Shared.{Shared, client_at, fallen_at, of_client}
use Rattle.casper_model.specs.Stabilisation.{Stabilisation}
use Rattle.casper_model.proofs.Places.{client_each}
use Rattle.casper_turns.proofs.Lists.{not_some}

-- what is known of the fall of the client at a place
abbrev pub fallen_of : Option Client → Option Fallen
fallen_of place = of_client None (λ client. client.fallen) place

-- who is fallen after a change was so before
abbrev pub FallsNoMore : Shared → Shared → Type 0
FallsNoMore shared after = (who : ℕ) (fallen : Fallen) → fallen_at after who ≡ Some fallen → fallen_at shared who ≡ Some fallen

-- a turn that keeps the others
pub falls_kept : (shared : Shared) (own : Own) (after : Shared) (own_after : Own) → TurnKeeps shared own after own_after → FallsNoMore shared after
falls_kept shared own after own_after keeps who fallen is =
    ⊎_elim (λ same. absurd (not_some fallen (sym keeps.up ∙ sym (ap (fallen_at after) same) ∙ is)))
    (λ apart. ap fallen_of (sym (keeps.others who apart)) ∙ is) (cases_eq who own.who)

-- a rollback: who is fallen after it was so before, or is in the association of the lost client
pub falls_within : (shared : Shared) (lost who : ℕ) (fallen : Fallen) → fallen_at (rolled_back shared lost) who ≡ Some fallen
    → (fallen_at shared who ≡ Some fallen) ⊎ ((has_member who (association_of shared.trail lost) ≡ true) × (fallen.seen ≡ live_entries shared.trail))
falls_within shared lost who fallen is = by_place (client_at shared who) refl (sym (ap fallen_of (client_each change shared who)) ∙ is)
  where
    members : List ℕ
    members = association_of shared.trail lost

    change : ℕ → Client → Client
    change number client = cond (has_member number members) (fallen_behind shared.trail number client) client

    by_member : (client : Client) (member : Bool) → client_at shared who ≡ Some client → has_member who members ≡ member
        → (cond member (fallen_behind shared.trail who client) client).fallen ≡ Some fallen
        → (fallen_at shared who ≡ Some fallen) ⊎ ((has_member who members ≡ true) × (fallen.seen ≡ live_entries shared.trail))
    by_member client true here named fell = inr (named, ap (λ (one : Option Fallen). (unwrap_or one fallen).seen) (sym fell))
    by_member client false here named fell = inl (ap fallen_of here ∙ fell)

    by_place : (place : Option Client) → client_at shared who ≡ place → fallen_of (option_map (change who) place) ≡ Some fallen
        → (fallen_at shared who ≡ Some fallen) ⊎ ((has_member who members ≡ true) × (fallen.seen ≡ live_entries shared.trail))
    by_place None here fell = absurd (not_some fallen fell)
    by_place (Some client) here fell = by_member client (has_member who members) here refl fell

-- a stabilisation that ends
pub falls_ended : (shared : Shared) (one : Stabilisation) (outcome : Kept) → FallsNoMore shared (ended shared one outcome)
falls_ended shared one outcome who fallen is = by_place (client_at shared who) refl (sym (ap fallen_of (client_each change shared who)) ∙ is)
  where
    change : ℕ → Client → Client
    change number client = cond (has_member number one.askers) (record client { kept = Some outcome }) client

    by_place : (place : Option Client) → client_at shared who ≡ place → fallen_of (option_map (change who) place) ≡ Some fallen → fallen_at shared who ≡ Some fallen
    by_place None here fell = absurd (not_some fallen fell)
    by_place (Some client) here fell =
        ap fallen_of here
        ∙ cond_both (has_member who one.askers) (record client { kept = Some outcome }) client (λ (after : Client). after.fallen ≡ Some fallen → client.fallen ≡ Some fallen)
        (λ asks same. same) (λ no same. same) fell
