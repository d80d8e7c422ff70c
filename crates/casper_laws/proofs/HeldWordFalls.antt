use Rattle.std.proofs.Common.{◌≡◌, ◌⊎◌, ◌<◌, ℕ, List, true, ◌==◌, min, length, refl, sym, ap, ◌∙◌, subst, inl, inr, ⊎_elim}
use Rattle.std.specs.Prelude.{Option, None, Some}
use Rattle.std.proofs.lemmas.Bool.{cond_both, cases_eq}
use Rattle.casper_words.specs.Crew.{has_member}
use Rattle.casper_words.specs.declared.page.Want.{Want}
use Rattle.casper_trail.specs.Parts.{live_entries}
use Rattle.casper_trail.specs.Association.{association_of}
use Rattle.casper_model.specs.declared.outcome.Kept.TheVariants as kept
use Rattle.casper_model.specs.declared.outcome.Outcome.{Outcome}
use Rattle.casper_model.specs.declared.outcome.Outcome.TheVariants as outcome
use Rattle.casper_model.specs.declared.reply.JoinRefusal.{JoinRefusal}
use Rattle.casper_model.specs.declared.reply.Loss.{Loss}
use Rattle.casper_model.specs.Acquire.{acquired_by}
use Rattle.casper_model.specs.Both.{Changed, Turned}
use Rattle.casper_model.specs.Client.{Client, Fallen, new_client}
use Rattle.casper_model.specs.Finish.{finish, finished_by, finished_as, failed, ended, committed, settled, settled_by, stabilisation_led_by, doubtful_of}
use Rattle.casper_model.specs.Frozen.{stabilisation_of}
use Rattle.casper_model.specs.Join.{joined_by}
use Rattle.casper_model.specs.Leave.{served_by, departed_by, absent, vanished_by}
use Rattle.casper_model.specs.Loss.{lose, lose_by, lost_in, rolled_back}
use Rattle.casper_model.specs.Opening.{opened}
use Rattle.casper_model.specs.Own.{Own}
use Rattle.casper_model.specs.Rights.{TurnStands}
use Rattle.casper_model.specs.Room.{most_cap, free_room}
use Rattle.casper_model.specs.Shared.{Shared, fallen_at, place_client}
use Rattle.casper_model.specs.Stabilisation.{Stabilisation, is_gathering}
use Rattle.casper_model.specs.Stabilise.{stabilised_by}
use Rattle.casper_model.proofs.AcquireRights.{keeps_acquired, within_places}
use Rattle.casper_model.proofs.Places.{client_placed, client_unplaced}
use Rattle.casper_model.proofs.StabiliseRights.{keeps_by}
use Rattle.casper_model.proofs.TurnRights.{keeps_served}
use Rattle.casper_turns.specs.Noted.{NotedAreUp}
use Rattle.casper_turns.proofs.Lists.{not_some, find_found}
use Rattle.casper_turns.proofs.Falls.{FallsNoMore, fallen_of, falls_ended, falls_kept, falls_within}

-- a client falls in the association of one that was lost and is not fallen. It has seen the live entries
abbrev pub FallsNow : Shared → ℕ → Fallen → Type 0
FallsNow shared who fallen =
    (lost : ℕ) × (has_member who (association_of shared.trail lost) ≡ true) × (fallen_at shared lost ≡ None) × (fallen.seen ≡ live_entries shared.trail)

-- who is fallen after a change was so before, or falls now
abbrev pub FallsWell : Shared → Shared → Type 0
FallsWell shared after = (who : ℕ) (fallen : Fallen) → fallen_at after who ≡ Some fallen → (fallen_at shared who ≡ Some fallen) ⊎ FallsNow shared who fallen

pub falls_by_none : (shared after : Shared) → FallsNoMore shared after → FallsWell shared after
falls_by_none shared after less who fallen is = inl (less who fallen is)

pub falls_acquired : (wants : List Want) (calls : ℕ) (shared : Shared) (own : Own) → TurnStands shared own
    → FallsNoMore shared (acquired_by shared own wants calls (fallen_at shared own.who)).shared
falls_acquired wants calls shared own stands = falls_kept shared own _ _ (keeps_acquired wants calls shared own stands (fallen_at shared own.who) refl)

pub falls_served : (shared : Shared) (own : Own) → TurnStands shared own → FallsNoMore shared (served_by shared own (fallen_at shared own.who)).shared
falls_served shared own stands = falls_kept shared own _ _ (keeps_served shared own stands (fallen_at shared own.who) refl)

pub falls_stabilised : (shared : Shared) (own : Own) → TurnStands shared own → FallsNoMore shared (stabilised_by shared own (fallen_at shared own.who)).shared
falls_stabilised shared own stands = falls_kept shared own _ _ (keeps_by shared own stands (fallen_at shared own.who) refl)

-- a client that is absent then, or joins, is not fallen
pub falls_placed : (shared : Shared) (who : ℕ) (place : Option Client) → who < length shared.clients → fallen_of place ≡ None → FallsNoMore shared (place_client who place shared)
falls_placed shared who place below up number fallen is =
    ⊎_elim
    (λ same.
    absurd (not_some fallen (sym up ∙ ap fallen_of (sym (client_placed who place shared below)) ∙ ap (fallen_at (place_client who place shared)) (sym same) ∙ is)))
    (λ apart. ap fallen_of (sym (client_unplaced who place shared number apart)) ∙ is) (cases_eq number who)

pub falls_absent : (shared : Shared) (own : Own) → own.who < length shared.clients → FallsNoMore shared (absent (record { shared = shared; own = own })).shared
falls_absent shared own below = falls_placed shared own.who None below refl

pub falls_departed : (shared : Shared) (own : Own) → TurnStands shared own → FallsNoMore shared (departed_by shared own (fallen_at shared own.who)).shared
falls_departed shared own stands = by_fallen (fallen_at shared own.who) refl
  where
    by_fallen : (fallen : Option Fallen) → fallen_at shared own.who ≡ fallen → FallsNoMore shared (departed_by shared own fallen).shared
    by_fallen (Some fallen) e = falls_kept shared own _ _ (keeps_served shared own stands (Some fallen) e)
    by_fallen None e = λ who fallen is.
        let both = opened shared own in
        let keeps = keeps_served shared own stands None e in
        falls_kept shared own both.shared both.own keeps who fallen
        (falls_absent both.shared both.own
        (subst (λ number. number < length both.shared.clients) (sym keeps.who)
        (subst (λ places. own.who < places) (stands.places ∙ sym keeps.places) (within_places shared own stands)))
        who fallen is)

pub falls_joined : (shared : Shared) (own : Own) (place : Option Client) → own.who < length shared.clients → FallsNoMore shared (joined_by shared own place).shared
falls_joined shared own (Some client) below = λ who fallen is. is
falls_joined shared own None below =
    cond_both (free_room shared == 0) _ _ (λ (turn : Turned (Option JoinRefusal)). FallsNoMore shared turn.shared) (λ full who fallen is. is)
    (λ free. falls_placed shared own.who (Some (new_client (min most_cap (free_room shared)))) below refl)

falls_rolled_back : (shared : Shared) (lost : ℕ) → fallen_at shared lost ≡ None → FallsWell shared (rolled_back shared lost)
falls_rolled_back shared lost up who fallen is =
    ⊎_elim inl (λ now. inr (lost, now.0, up, now.1)) (falls_within shared lost who fallen is)

falls_lost : (shared : Shared) (who unrecorded : ℕ) (one : Option Stabilisation) → fallen_at shared who ≡ None → FallsWell shared (lost_in shared who unrecorded one).shared
falls_lost shared who unrecorded None up = falls_rolled_back shared who up
falls_lost shared who unrecorded (Some one) up =
    cond_both (is_gathering one.phase) _ _ (λ (done : Changed Loss). FallsWell shared done.shared) (λ gathering. falls_rolled_back shared who up)
    (λ held who fallen is. inl is)

pub falls_lose : (shared : Shared) (who : ℕ) → FallsWell shared (lose shared who).shared
falls_lose shared who = by_fallen (fallen_at shared who) refl
  where
    by_fallen : (fallen : Option Fallen) → fallen_at shared who ≡ fallen → FallsWell shared (lose_by shared who fallen).shared
    by_fallen (Some fallen) e = λ number other is. inl is
    by_fallen None e = falls_lost shared who 0 (stabilisation_of shared who) e

pub falls_vanished : (shared : Shared) (own : Own) → FallsWell shared (vanished_by shared own (fallen_at shared own.who)).shared
falls_vanished shared own = by_fallen (fallen_at shared own.who) refl
  where
    by_fallen : (fallen : Option Fallen) → fallen_at shared own.who ≡ fallen → FallsWell shared (vanished_by shared own fallen).shared
    by_fallen (Some fallen) e = λ number other is. inl is
    by_fallen None e = falls_lost shared own.who _ (stabilisation_of shared own.who) e

falls_failed : (shared : Shared) (one : Stabilisation) (cause : Outcome) (noted : Option ℕ) → ((lost : ℕ) → noted ≡ Some lost → fallen_at shared lost ≡ None)
    → FallsWell shared (failed shared one cause noted).shared
falls_failed shared one cause None up = falls_by_none shared (ended shared one (kept.Failed cause)) (falls_ended shared one (kept.Failed cause))
falls_failed shared one cause (Some lost) up = falls_rolled_back shared lost (up lost refl)

falls_finished : (shared : Shared) (one : Stabilisation) (how : Outcome) → ((lost : ℕ) → one.noted ≡ Some lost → fallen_at shared lost ≡ None)
    → FallsWell shared (finished_as shared one how).shared
falls_finished shared one (outcome.Ok version) up = falls_by_none shared (committed shared one).shared (falls_ended shared one (kept.Committed (length shared.trail)))
falls_finished shared one (outcome.Full need free) up = falls_failed shared one (outcome.Full need free) one.noted up
falls_finished shared one outcome.Worn up = falls_failed shared one outcome.Worn one.noted up
falls_finished shared one outcome.Disk up = falls_failed shared one outcome.Disk one.noted up
falls_finished shared one outcome.Doubt up = λ who fallen is. inl is

pub falls_finish : (shared : Shared) (lead : ℕ) (how : Outcome) → NotedAreUp shared → FallsWell shared (finish shared lead how).shared
falls_finish shared lead how up = by_found (stabilisation_led_by shared lead) refl
  where
    by_found : (one : Option Stabilisation) → stabilisation_led_by shared lead ≡ one → FallsWell shared (finished_by shared how one).shared
    by_found None e = λ who fallen is. inl is
    by_found (Some one) e =
        falls_finished shared one how (λ lost noted. up one lost (find_found (λ (x : Stabilisation). x.lead == lead) shared.stabilisations one e).0 noted)

pub falls_settled : (shared : Shared) → FallsNoMore shared (settled shared).shared
falls_settled shared = by_found (doubtful_of shared)
  where
    by_found : (one : Option Stabilisation) → FallsNoMore shared (settled_by shared one).shared
    by_found None = λ who fallen is. is
    by_found (Some one) = falls_ended shared one (kept.Committed (length shared.trail))
