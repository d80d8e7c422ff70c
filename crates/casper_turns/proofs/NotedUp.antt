use Rattle.std.proofs.Common.{◌≡◌, ℕ, true, ◌==◌, not, cond, map, length, Contains, refl, sym, ap, ◌∙◌, subst, ⊎_elim, true≢false}
use Rattle.std.specs.Prelude.{Option, None, Some, unwrap_or}
use Rattle.std.specs.Option.{option_or}
use Rattle.std.proofs.lemmas.Bool.{cond_both, not-true}
use Rattle.casper_words.specs.Crew.{has_member}
use Rattle.casper_trail.specs.Association.{association_of}
use Rattle.casper_trail.proofs.Rounds.{association_of_a_member, association_holds_its_client}
use Rattle.casper_model.specs.declared.outcome.Kept.{Kept}
use Rattle.casper_model.specs.declared.outcome.Kept.TheVariants as kept
use Rattle.casper_model.specs.declared.reply.Loss.{Loss}
use Rattle.casper_model.specs.Both.{Changed}
use Rattle.casper_model.specs.Client.{Fallen}
use Rattle.casper_model.specs.Finish.{ended, committed}
use Rattle.casper_model.specs.Frozen.{stabilisation_of}
use Rattle.casper_model.specs.Loss.{lose, lose_by, lost_in, rolled_back}
use Rattle.casper_model.specs.Shared.{Shared, fallen_at}
use Rattle.casper_model.specs.Stabilisation.{Stabilisation, is_gathering, with_noted}
use Rattle.casper_turns.specs.Frozen.{AreFrozen}
use Rattle.casper_turns.specs.Noted.{NotedAreMembers, NotedAreUp}
use Rattle.casper_turns.proofs.Lists.{not_some, contains_map, contains_filter}
use Rattle.casper_turns.proofs.Falls.{FallsNoMore, falls_within, falls_ended}
use Rattle.casper_turns.proofs.NotedMembers.{NotesNoMore}

pub not_fallen : (fallen : Option Fallen) → ((one : Fallen) → fallen ≡ Some one → ⊥) → fallen ≡ None
not_fallen None never = refl
not_fallen (Some one) never = absurd (never one refl)

-- where no loss is noted anew and no client falls
pub up_still : (shared after : Shared) → NotesNoMore shared after → FallsNoMore shared after → NotedAreUp shared → NotedAreUp after
up_still shared after notes falls up one lost inside noted =
    let early = notes one lost inside noted in
    not_fallen (fallen_at after lost) (λ fallen is. not_some fallen (sym (up early.0 lost early.1 early.3) ∙ falls lost fallen is))

-- after a rollback no stabilisation of a member is left, so no noted client falls
pub rolled_back_up : (shared : Shared) (lost : ℕ) → AreFrozen shared → NotedAreMembers shared → NotedAreUp shared → NotedAreUp (rolled_back shared lost)
rolled_back_up shared lost frozen members up one noted_one inside noted =
    not_fallen (fallen_at (rolled_back shared lost) noted_one)
    (λ fallen is.
    ⊎_elim (λ before. not_some fallen (sym (up one noted_one was.0 noted) ∙ before)) (λ now. within now.0)
    (falls_within shared lost noted_one fallen is))
  where
    was : Contains shared.stabilisations one × (not (has_member one.lead (association_of shared.trail lost)) ≡ true)
    was = contains_filter (λ (x : Stabilisation). not (has_member x.lead (association_of shared.trail lost))) shared.stabilisations one inside

    within : has_member noted_one (association_of shared.trail lost) ≡ true → ⊥
    within member =
        true≢false
        (sym (ap (has_member one.lead)
        (sym (association_of_a_member shared.trail lost noted_one member) ∙ association_of_a_member shared.trail one.lead noted_one (members one noted_one was.0 noted))
        ∙ association_holds_its_client shared.trail one.lead (frozen.leads one was.0))
        ∙ not-true (has_member one.lead (association_of shared.trail lost)) was.1)

pub ended_up : (shared : Shared) (one : Stabilisation) (outcome : Kept) → NotedAreUp shared → NotedAreUp (ended shared one outcome)
ended_up shared one outcome =
    up_still shared (ended shared one outcome)
    (λ other lost inside noted. (other, (contains_filter (λ (x : Stabilisation). not (x.lead == one.lead)) shared.stabilisations other inside).0, refl, noted))
    (falls_ended shared one outcome)

pub committed_up : (shared : Shared) (one : Stabilisation) → NotedAreUp shared → NotedAreUp (committed shared one).shared
committed_up shared one up = ended_up shared one (kept.Committed (length shared.trail)) up

-- the loss of a client that is not fallen is noted
noted_up : (shared : Shared) (who : ℕ) (one : Stabilisation) → fallen_at shared who ≡ None → NotedAreUp shared
    → NotedAreUp (record shared { stabilisations = map (λ other. cond (other.lead == one.lead) (with_noted who other) other) shared.stabilisations })
noted_up shared who one is up other lost inside noted =
    let before = contains_map (λ (x : Stabilisation). cond (x.lead == one.lead) (with_noted who x) x) shared.stabilisations other inside in
    cond_both (before.0.lead == one.lead) (with_noted who before.0) before.0 (λ (x : Stabilisation). x.noted ≡ Some lost → fallen_at shared lost ≡ None)
    (λ same. by_note before.0.noted (up before.0 lost before.1)) (λ apart. up before.0 lost before.1)
    (ap (λ (x : Stabilisation). x.noted) before.2 ∙ noted)
  where
    by_note : (note : Option ℕ) → (note ≡ Some lost → fallen_at shared lost ≡ None) → option_or note (Some who) ≡ Some lost → fallen_at shared lost ≡ None
    by_note None early new = subst (λ number. fallen_at shared number ≡ None) (ap (λ (x : Option ℕ). unwrap_or x who) new) is
    by_note (Some first) early old = early old

pub lost_up : (shared : Shared) (who unrecorded : ℕ) (one : Option Stabilisation) → AreFrozen shared → NotedAreMembers shared → fallen_at shared who ≡ None → NotedAreUp shared
    → NotedAreUp (lost_in shared who unrecorded one).shared
lost_up shared who unrecorded None frozen members is up = rolled_back_up shared who frozen members up
lost_up shared who unrecorded (Some one) frozen members is up =
    cond_both (is_gathering one.phase) _ _ (λ (done : Changed Loss). NotedAreUp done.shared) (λ gathering. rolled_back_up shared who frozen members up)
    (λ held. noted_up shared who one is up)

pub lose_up : (shared : Shared) (who : ℕ) → AreFrozen shared → NotedAreMembers shared → NotedAreUp shared → NotedAreUp (lose shared who).shared
lose_up shared who frozen members up = by_fallen (fallen_at shared who) refl
  where
    by_fallen : (fallen : Option Fallen) → fallen_at shared who ≡ fallen → NotedAreUp (lose_by shared who fallen).shared
    by_fallen (Some fallen) e = up
    by_fallen None e = lost_up shared who 0 (stabilisation_of shared who) frozen members e up
