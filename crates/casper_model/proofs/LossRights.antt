use Rattle.std.proofs.Common.{◌≡◌, ℕ, List, [], true, cond, refl, sym, ap, ◌∙◌, subst, true≢false}
use Rattle.std.specs.Prelude.{Option, None, Some, option_map}
use Rattle.std.proofs.lemmas.Bool.{cond_both}
use Rattle.casper_words.specs.Crew.{has_member}
use Rattle.casper_words.specs.declared.page.Right.{Right}
use Rattle.casper_trail.specs.Association.{association_of}
use Rattle.casper_model.specs.declared.outcome.Outcome.{Outcome}
use Rattle.casper_model.specs.declared.outcome.Outcome.TheVariants as outcome
use Rattle.casper_model.specs.declared.outcome.Kept.{Kept}
use Rattle.casper_model.specs.declared.reply.Loss.{Loss}
use Rattle.casper_model.specs.Held.{allows}
use Rattle.casper_model.specs.Client.{Client, Fallen}
use Rattle.casper_model.specs.Stabilisation.{Stabilisation, is_gathering}
use Rattle.casper_model.specs.Shared.{Shared, client_at, fallen_at, of_client, each_client}
use Rattle.casper_model.specs.Own.{Own}
use Rattle.casper_model.specs.Both.{Changed}
use Rattle.casper_model.specs.Frozen.{stabilisation_of}
use Rattle.casper_model.specs.Loss.{lose, lose_by, loss_of, lost_in, rolled_back, fallen_behind}
use Rattle.casper_model.specs.Finish.{finish, finished_by, finished_as, failed, ended, settled, settled_by, stabilisation_led_by, doubtful_of}
use Rattle.casper_model.specs.Rights.{Agrees, AgreesUnlessFallen, Spares}
use Rattle.casper_model.proofs.Places.{client_each, length_each}

-- a change of a client that agrees with the same own parts, and gives no more rights
pub record IsMild (client after : Client) : Type 0 where
  pub agrees : (own : Own) → AgreesUnlessFallen client own client.fallen → AgreesUnlessFallen after own after.fallen
  pub less : (page : ℕ) (right : Right) → allows after.rights page right ≡ true → allows client.rights page right ≡ true

agrees_changed : (change : Client → Client) → ((client : Client) → IsMild client (change client)) → (place : Option Client) (own : Own)
    → Agrees place own → Agrees (option_map change place) own
agrees_changed change mild None own agrees = agrees
agrees_changed change mild (Some client) own agrees = (mild client).agrees own agrees

less_changed : (change : Client → Client) → ((client : Client) → IsMild client (change client)) → (place : Option Client) (page : ℕ) (right : Right)
    → allows (of_client [] (λ client. client.rights) (option_map change place)) page right ≡ true
    → allows (of_client [] (λ client. client.rights) place) page right ≡ true
less_changed change mild None page right found = found
less_changed change mild (Some client) page right found = (mild client).less page right found

-- where each client is changed mildly
pub spares_each : (change : ℕ → Client → Client) (shared : Shared) → ((who : ℕ) (client : Client) → IsMild client (change who client))
    → Spares shared (each_client change shared)
spares_each change shared mild = record {
  places = length_each change shared;
  nobody = λ none. client_each change shared 0 ∙ ap (option_map (change 0)) none;
  agrees = λ who own had.
      subst (λ place. Agrees place own) (sym (client_each change shared who)) (agrees_changed (change who) (mild who) (client_at shared who) own had);
  less = λ who page right found.
      less_changed (change who) (mild who) (client_at shared who) page right
      (sym (ap (λ place. allows (of_client [] (λ client. client.rights) place) page right) (client_each change shared who)) ∙ found);
}

-- the trail and the stabilisations have no part in it
pub spares_relabelled : (shared after : Shared) → Spares shared after → (again : Shared) → again.clients ≡ after.clients → Spares shared again
spares_relabelled shared after spares again same =
    subst (λ (clients : List (Option Client)). Spares shared (record again { clients = clients })) (sym same)
    (record { places = spares.places; nobody = spares.nobody; agrees = spares.agrees; less = spares.less })

pub spares_itself : (shared : Shared) → Spares shared shared
spares_itself shared = record { places = refl; nobody = λ none. none; agrees = λ who own had. had; less = λ who page right found. found }

mild_itself : (client : Client) → IsMild client client
mild_itself client = record { agrees = λ own had. had; less = λ page right found. found }

mild_kept : (client : Client) (kept : Option Kept) → IsMild client (record client { kept = kept })
mild_kept client kept = record { agrees = λ own had. had; less = λ page right found. found }

cap_of_agreed : (client : Client) (own : Own) (fallen : Option Fallen) → AgreesUnlessFallen client own fallen → client.cap ≡ own.cap
cap_of_agreed client own None agrees = agrees.0
cap_of_agreed client own (Some fallen) agrees = agrees.0

mild_fall : (client after : Client) (fallen : Fallen) → after.cap ≡ client.cap → after.rights ≡ [] → after.asks ≡ [] → after.fallen ≡ Some fallen → IsMild client after
mild_fall client after fallen cap rights asks fell = record {
  agrees = λ own had. subst (AgreesUnlessFallen after own) (sym fell) (cap ∙ cap_of_agreed client own client.fallen had, rights, asks);
  less = λ page right found. absurd (true≢false (sym found ∙ ap (λ list. allows list page right) rights));
}

-- a rollback: each live member falls
pub spares_rolled_back : (shared : Shared) (lost : ℕ) → Spares shared (rolled_back shared lost)
spares_rolled_back shared lost =
    let members = association_of shared.trail lost in
    let change : ℕ → Client → Client = λ who client. cond (has_member who members) (fallen_behind shared.trail who client) client in
    spares_relabelled shared (each_client change shared)
    (spares_each change shared
    (λ who client.
    cond_both (has_member who members) (fallen_behind shared.trail who client) client (IsMild client)
    (λ member. mild_fall client (fallen_behind shared.trail who client) _ refl refl refl refl)
    (λ other. mild_itself client)))
    (rolled_back shared lost) refl

spares_lost : (shared : Shared) (who unrecorded : ℕ) (one : Option Stabilisation) → Spares shared (lost_in shared who unrecorded one).shared
spares_lost shared who unrecorded None = spares_rolled_back shared who
spares_lost shared who unrecorded (Some one) =
    cond_both (is_gathering one.phase) _ _ (λ (done : Changed Loss). Spares shared done.shared) (λ gathering. spares_rolled_back shared who)
    (λ sealed. spares_relabelled shared shared (spares_itself shared) _ refl)

pub spares_loss : (shared : Shared) (who unrecorded : ℕ) → Spares shared (loss_of shared who unrecorded).shared
spares_loss shared who unrecorded = spares_lost shared who unrecorded (stabilisation_of shared who)

spares_lose_by : (shared : Shared) (who : ℕ) (fallen : Option Fallen) → Spares shared (lose_by shared who fallen).shared
spares_lose_by shared who (Some fallen) = spares_itself shared
spares_lose_by shared who None = spares_loss shared who 0

pub spares_lose : (shared : Shared) (who : ℕ) → Spares shared (lose shared who).shared
spares_lose shared who = spares_lose_by shared who (fallen_at shared who)

-- a stabilisation that ends: outcomes are kept
spares_ended : (shared : Shared) (one : Stabilisation) (kept : Kept) → Spares shared (ended shared one kept)
spares_ended shared one kept =
    let change : ℕ → Client → Client = λ who client. cond (has_member who one.askers) (record client { kept = Some kept }) client in
    spares_relabelled shared (each_client change shared)
    (spares_each change shared
    (λ who client.
    cond_both (has_member who one.askers) (record client { kept = Some kept }) client (IsMild client)
    (λ asker. mild_kept client (Some kept)) (λ other. mild_itself client)))
    (ended shared one kept) refl

spares_failed : (shared : Shared) (one : Stabilisation) (cause : Outcome) (noted : Option ℕ) → Spares shared (failed shared one cause noted).shared
spares_failed shared one cause None = spares_ended shared one _
spares_failed shared one cause (Some lost) = spares_rolled_back shared lost

spares_finished : (shared : Shared) (one : Stabilisation) (how : Outcome) → Spares shared (finished_as shared one how).shared
spares_finished shared one (outcome.Ok version) = spares_relabelled shared _ (spares_ended shared one _) _ refl
spares_finished shared one (outcome.Full need free) = spares_failed shared one (outcome.Full need free) one.noted
spares_finished shared one outcome.Worn = spares_failed shared one outcome.Worn one.noted
spares_finished shared one outcome.Disk = spares_failed shared one outcome.Disk one.noted
spares_finished shared one outcome.Doubt = spares_relabelled shared shared (spares_itself shared) _ refl

spares_finished_by : (shared : Shared) (how : Outcome) (one : Option Stabilisation) → Spares shared (finished_by shared how one).shared
spares_finished_by shared how None = spares_itself shared
spares_finished_by shared how (Some one) = spares_finished shared one how

pub spares_finish : (shared : Shared) (lead : ℕ) (how : Outcome) → Spares shared (finish shared lead how).shared
spares_finish shared lead how = spares_finished_by shared how (stabilisation_led_by shared lead)

spares_settled_by : (shared : Shared) (one : Option Stabilisation) → Spares shared (settled_by shared one).shared
spares_settled_by shared None = spares_itself shared
spares_settled_by shared (Some one) = spares_relabelled shared _ (spares_ended shared one _) _ refl

pub spares_settled : (shared : Shared) → Spares shared (settled shared).shared
spares_settled shared = spares_settled_by shared (doubtful_of shared)
