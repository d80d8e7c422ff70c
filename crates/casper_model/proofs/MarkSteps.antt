use Rattle.std.proofs.Common.{◌≡◌, ℕ, List, Bool, true, false, cond, refl, sym, ap, ◌∙◌, true≢false}
use Rattle.std.specs.Prelude.{Option, None, Some, option_map, unwrap_or, is_some}
use Rattle.std.proofs.lemmas.Bool.{cond_both}
use Rattle.casper_words.specs.Crew.{has_member}
use Rattle.casper_trail.specs.declared.item.Item.{Item}
use Rattle.casper_trail.specs.declared.mark.Mark.TheVariants.{Rollback}
use Rattle.casper_trail.specs.Association.{association_of}
use Rattle.casper_model.specs.declared.outcome.Outcome.{Outcome}
use Rattle.casper_model.specs.declared.outcome.Outcome.TheVariants as outcome
use Rattle.casper_model.specs.declared.outcome.Kept.{Kept}
use Rattle.casper_model.specs.declared.reply.Loss.{Loss}
use Rattle.casper_model.specs.Client.{Client, Fallen}
use Rattle.casper_model.specs.Stabilisation.{Stabilisation, is_gathering}
use Rattle.casper_model.specs.Shared.{Shared, client_at, fallen_at}
use Rattle.casper_model.specs.Own.{Own}
use Rattle.casper_model.specs.Both.{Changed}
use Rattle.casper_model.specs.Frozen.{stabilisation_of, members_of_stabilisation}
use Rattle.casper_model.specs.Loss.{lose, lose_by, lost_in, rolled_back, fallen_behind}
use Rattle.casper_model.specs.Leave.{vanished_by}
use Rattle.casper_model.specs.Finish.{finish, finished_by, finished_as, failed, ended, committed, settled, settled_by, stabilisation_led_by, doubtful_of}
use Rattle.casper_model.proofs.Places.{client_each}
use Rattle.casper_model.proofs.StateHistory.{WasUp, Marks}

-- a client that a rollback left as it was
fell_or_same : (items : List Item) (who : ℕ) (member : Bool) (before after : Client) → cond member (fallen_behind items who before) before ≡ after → after.fallen ≡ None
    → (before.fallen ≡ None) × (member ≡ false)
fell_or_same items who true before after same up = absurd (true≢false (ap is_some (ap (λ (one : Client). one.fallen) same ∙ up)))
fell_or_same items who false before after same up = (ap (λ (one : Client). one.fallen) same ∙ up, refl)

same_or_kept : (asker : Bool) (kept : Kept) (before after : Client) → cond asker (record before { kept = Some kept }) before ≡ after → after.fallen ≡ None → before.fallen ≡ None
same_or_kept true kept before after same up = ap (λ (one : Client). one.fallen) same ∙ up
same_or_kept false kept before after same up = ap (λ (one : Client). one.fallen) same ∙ up

-- a client after a change of each
pub changed_from : (change : Client → Client) (place : Option Client) (after : Client) → option_map change place ≡ Some after
    → (before : Client) × (place ≡ Some before) × (change before ≡ after)
changed_from change None after same = absurd (true≢false (sym (ap is_some same)))
changed_from change (Some before) after same = (before, refl, ap (λ place. unwrap_or place after) same)

was_up_rolled_back : (shared : Shared) (lost who : ℕ) (after : Client) → client_at (rolled_back shared lost) who ≡ Some after → after.fallen ≡ None
    → WasUp shared who × (has_member who (association_of shared.trail lost) ≡ false)
was_up_rolled_back shared lost who after live up =
    let members = association_of shared.trail lost in
    let change : ℕ → Client → Client = λ number client. cond (has_member number members) (fallen_behind shared.trail number client) client in
    let found = changed_from (change who) (client_at shared who) after (sym (client_each change shared who) ∙ live) in
    let same = fell_or_same shared.trail who (has_member who members) found.0 after found.2 up in
    ((found.0, found.1, same.0), same.1)

was_up_ended : (shared : Shared) (one : Stabilisation) (kept : Kept) (who : ℕ) (after : Client) → client_at (ended shared one kept) who ≡ Some after → after.fallen ≡ None → WasUp shared who
was_up_ended shared one kept who after live up =
    let change : ℕ → Client → Client = λ number client. cond (has_member number one.askers) (record client { kept = Some kept }) client in
    let found = changed_from (change who) (client_at shared who) after (sym (client_each change shared who) ∙ live) in
    (found.0, found.1, same_or_kept (has_member who one.askers) kept found.0 after found.2 up)

marks_rolled_back : (shared : Shared) (lost : ℕ) → Marks shared (rolled_back shared lost)
marks_rolled_back shared lost = Marks.rolls_back (Rollback lost (association_of shared.trail lost)) refl refl (was_up_rolled_back shared lost)

marks_nothing : (shared : Shared) → Marks shared shared
marks_nothing shared = Marks.stays refl (λ who client live up. (client, live, up))

marks_ended : (shared : Shared) (one : Stabilisation) (kept : Kept) → Marks shared (ended shared one kept)
marks_ended shared one kept = Marks.stays refl (was_up_ended shared one kept)

marks_committed : (shared : Shared) (one : Stabilisation) → Marks shared (committed shared one).shared
marks_committed shared one = Marks.commits one.lead (members_of_stabilisation shared one) refl refl (was_up_ended shared one _)

marks_lost : (shared : Shared) (who unrecorded : ℕ) (one : Option Stabilisation) → Marks shared (lost_in shared who unrecorded one).shared
marks_lost shared who unrecorded None = marks_rolled_back shared who
marks_lost shared who unrecorded (Some one) =
    cond_both (is_gathering one.phase) _ _ (λ (done : Changed Loss). Marks shared done.shared) (λ gathering. marks_rolled_back shared who)
    (λ sealed. Marks.stays refl (λ who client live up. (client, live, up)))

marks_lose_by : (shared : Shared) (who : ℕ) (fallen : Option Fallen) → Marks shared (lose_by shared who fallen).shared
marks_lose_by shared who (Some fallen) = marks_nothing shared
marks_lose_by shared who None = marks_lost shared who 0 (stabilisation_of shared who)

pub marks_lose : (shared : Shared) (who : ℕ) → Marks shared (lose shared who).shared
marks_lose shared who = marks_lose_by shared who (fallen_at shared who)

pub marks_vanished : (shared : Shared) (own : Own) (fallen : Option Fallen) → Marks shared (vanished_by shared own fallen).shared
marks_vanished shared own (Some fallen) = marks_nothing shared
marks_vanished shared own None = marks_lost shared own.who _ (stabilisation_of shared own.who)

marks_failed : (shared : Shared) (one : Stabilisation) (cause : Outcome) (noted : Option ℕ) → Marks shared (failed shared one cause noted).shared
marks_failed shared one cause None = marks_ended shared one _
marks_failed shared one cause (Some lost) = marks_rolled_back shared lost

marks_finished : (shared : Shared) (one : Stabilisation) (how : Outcome) → Marks shared (finished_as shared one how).shared
marks_finished shared one (outcome.Ok version) = marks_committed shared one
marks_finished shared one (outcome.Full need free) = marks_failed shared one (outcome.Full need free) one.noted
marks_finished shared one outcome.Worn = marks_failed shared one outcome.Worn one.noted
marks_finished shared one outcome.Disk = marks_failed shared one outcome.Disk one.noted
marks_finished shared one outcome.Doubt = Marks.stays refl (λ who client live up. (client, live, up))

marks_finished_by : (shared : Shared) (how : Outcome) (one : Option Stabilisation) → Marks shared (finished_by shared how one).shared
marks_finished_by shared how None = marks_nothing shared
marks_finished_by shared how (Some one) = marks_finished shared one how

pub marks_finish : (shared : Shared) (lead : ℕ) (how : Outcome) → Marks shared (finish shared lead how).shared
marks_finish shared lead how = marks_finished_by shared how (stabilisation_led_by shared lead)

marks_settled_by : (shared : Shared) (one : Option Stabilisation) → Marks shared (settled_by shared one).shared
marks_settled_by shared None = marks_nothing shared
marks_settled_by shared (Some one) = marks_committed shared one

pub marks_settled : (shared : Shared) → Marks shared (settled shared).shared
marks_settled shared = marks_settled_by shared (doubtful_of shared)
