use Rattle.std.proofs.Common.{◌≡◌, ◌≢◌, ◌⊎◌, ℕ, [], true, length, refl, sym, ap, ◌∙◌, subst, inl, inr}
use Rattle.std.specs.Prelude.{Option, None, Some, option_map}
use Rattle.std.proofs.lemmas.Bool.{cases_eq}
use Rattle.casper_words.specs.declared.page.Right.{Right}
use Rattle.casper_model.specs.Held.{allows}
use Rattle.casper_model.specs.Client.{Client, Fallen}
use Rattle.casper_model.specs.Shared.{Shared, client_at, rights_at, fallen_at, of_client}
use Rattle.casper_model.specs.Own.{Own}
use Rattle.casper_model.specs.Opening.{told_of_fall, opened}
use Rattle.casper_model.specs.Leave.{serve, served_by}
use Rattle.casper_model.specs.Rights.{AllowTheSame, Agrees, AgreesUnlessFallen, TurnStands, TurnKeeps}
use Rattle.casper_model.proofs.Places.{client_changed, client_unchanged}
use Rattle.casper_model.proofs.HeldRights.{AllowsNoMore}
use Rattle.casper_model.proofs.OpeningRights.{IsUp, IsKnown, known_opened, others_opened, places_changed, places_opened, opened_allows_no_more, exclusive_with_less}
use Rattle.casper_model.proofs.Additions.{who_opened}

-- the rights of a live client
pub rights_of_live : (shared : Shared) (who : ℕ) (client : Client) → client_at shared who ≡ Some client → rights_at shared who ≡ client.rights
rights_of_live shared who client live = ap (of_client [] (λ client. client.rights)) live

-- a client that is not fallen as its turn begins
pub up_as_it_stands : (shared : Shared) (own : Own) → TurnStands shared own → fallen_at shared own.who ≡ None → IsUp shared own.who
up_as_it_stands shared own stands up = record {
  client = stands.client;
  live = stands.live;
  up = sym (ap (of_client None (λ client. client.fallen)) stands.live) ∙ up;
}

-- its rights are those that it holds
pub rights_are_held : (shared : Shared) (own : Own) → TurnStands shared own → IsUp shared own.who → AllowTheSame (rights_at shared own.who) own.held
rights_are_held shared own stands is page right =
    ap (λ rights. allows rights page right) (rights_of_live shared own.who is.client is.live) ∙ agreed_rights.1 page right
  where
    here : AgreesUnlessFallen is.client own is.client.fallen
    here = subst (λ place. Agrees place own) is.live stands.agrees

    agreed_rights : (is.client.cap ≡ own.cap) × AllowTheSame is.client.rights own.held
    agreed_rights = subst (AgreesUnlessFallen is.client own) is.up here

-- what is known of a client agrees with its own part
pub agrees_known : (shared : Shared) (own : Own) → IsKnown shared own → Agrees (client_at shared own.who) own
agrees_known shared own known =
    subst (λ place. Agrees place own) (sym known.live)
    (subst (AgreesUnlessFallen known.client own) (sym known.up) (known.cap, λ page right. ap (λ rights. allows rights page right) known.rights))

-- and it is not fallen
pub fallen_known : (shared : Shared) (own : Own) → IsKnown shared own → fallen_at shared own.who ≡ None
fallen_known shared own known = ap (of_client None (λ client. client.fallen)) known.live ∙ known.up

pub rights_known : (shared : Shared) (own : Own) → IsKnown shared own → rights_at shared own.who ≡ own.held
rights_known shared own known = rights_of_live shared own.who known.client known.live ∙ known.rights

rights_unchanged : (before after : Shared) (who : ℕ) → client_at after who ≡ client_at before who → rights_at after who ≡ rights_at before who
rights_unchanged before after who same = ap (of_client [] (λ client. client.rights)) same

-- a turn keeps the rights in order where the acting client may do no more after it
pub keeps_with_less : (shared : Shared) (own : Own) (after : Shared) (own_after : Own) → TurnStands shared own → IsUp shared own.who → own_after.who ≡ own.who
    → length after.clients ≡ length shared.clients → ((number : ℕ) → number ≢ own.who → client_at after number ≡ client_at shared number)
    → IsKnown after own_after → AllowsNoMore own_after.held own.held → TurnKeeps shared own after own_after
keeps_with_less shared own after own_after stands is who places others known less = record {
  who = who;
  places = places ∙ stands.places;
  others = others;
  agrees = subst (λ number. Agrees (client_at after number) own_after) who (agrees_known after own_after known);
  up = ap (fallen_at after) (sym who) ∙ fallen_known after own_after known;
  exclusive = exclusive_with_less shared after allowed stands.exclusive;
}
  where
    allowed_to : (number page : ℕ) (right : Right) → (number ≡ own.who) ⊎ (number ≢ own.who) → allows (rights_at after number) page right ≡ true
        → allows (rights_at shared number) page right ≡ true
    allowed_to number page right (inl same) found =
        let mine : rights_at after number ≡ own_after.held = ap (rights_at after) (same ∙ sym who) ∙ rights_known after own_after known in
        let had : allows own.held page right ≡ true = less page right (sym (ap (λ rights. allows rights page right) mine) ∙ found) in
        subst (λ one. allows (rights_at shared one) page right ≡ true) (sym same) (rights_are_held shared own stands is page right ∙ had)
    allowed_to number page right (inr apart) found =
        sym (ap (λ rights. allows rights page right) (rights_unchanged shared after number (others number apart))) ∙ found

    allowed : (number : ℕ) → AllowsNoMore (rights_at after number) (rights_at shared number)
    allowed number page right = allowed_to number page right (cases_eq number own.who)

-- a client that is told that it fell
pub keeps_told : (shared : Shared) (own : Own) (fallen : Fallen) → TurnStands shared own → fallen_at shared own.who ≡ Some fallen
    → TurnKeeps shared own (told_of_fall shared own).shared (told_of_fall shared own).own
keeps_told shared own fallen stands fell = record {
  who = refl;
  places = places_changed own.who change shared ∙ stands.places;
  others = λ number apart. client_unchanged own.who change shared number apart;
  agrees = subst (λ place. Agrees place (told_of_fall shared own).own) (sym here) (had.0, λ page right. ap (λ rights. allows rights page right) had.1);
  up = ap (of_client None (λ client. client.fallen)) here;
  exclusive = exclusive_with_less shared (told_of_fall shared own).shared allowed stands.exclusive;
}
  where
    change : Client → Client
    change client = record client { kept = None; fallen = None }

    here : client_at (told_of_fall shared own).shared own.who ≡ Some (change stands.client)
    here = client_changed own.who change shared ∙ ap (option_map change) stands.live

    is_fallen : stands.client.fallen ≡ Some fallen
    is_fallen = sym (ap (of_client None (λ client. client.fallen)) stands.live) ∙ fell

    had : (stands.client.cap ≡ own.cap) × (stands.client.rights ≡ []) × (stands.client.asks ≡ [])
    had = subst (AgreesUnlessFallen stands.client own) is_fallen (subst (λ place. Agrees place own) stands.live stands.agrees)

    same_rights : (number : ℕ) → (number ≡ own.who) ⊎ (number ≢ own.who) → rights_at (told_of_fall shared own).shared number ≡ rights_at shared number
    same_rights number (inl same) =
        subst (λ one. rights_at (told_of_fall shared own).shared one ≡ rights_at shared one) (sym same)
        (rights_of_live (told_of_fall shared own).shared own.who (change stands.client) here ∙ sym (rights_of_live shared own.who stands.client stands.live))
    same_rights number (inr apart) = rights_unchanged shared (told_of_fall shared own).shared number (client_unchanged own.who change shared number apart)

    allowed : (number : ℕ) → AllowsNoMore (rights_at (told_of_fall shared own).shared number) (rights_at shared number)
    allowed number page right found = sym (ap (λ rights. allows rights page right) (same_rights number (cases_eq number own.who))) ∙ found

-- the order of rights after an opening, and what stands for the rest of the turn
pub keeps_opened : (shared : Shared) (own : Own) → TurnStands shared own → IsUp shared own.who
    → TurnKeeps shared own (opened shared own).shared (opened shared own).own
keeps_opened shared own stands is =
    keeps_with_less shared own (opened shared own).shared (opened shared own).own stands is (who_opened shared own) (places_opened shared own)
    (others_opened shared own) (known_opened shared own is) (opened_allows_no_more shared own)

pub keeps_served : (shared : Shared) (own : Own) → TurnStands shared own → (fallen : Option Fallen) → fallen_at shared own.who ≡ fallen
    → TurnKeeps shared own (served_by shared own fallen).shared (served_by shared own fallen).own
keeps_served shared own stands (Some fallen) e = keeps_told shared own fallen stands e
keeps_served shared own stands None e = keeps_opened shared own stands (up_as_it_stands shared own stands e)

pub keeps_serve : (shared : Shared) (own : Own) → TurnStands shared own → TurnKeeps shared own (serve shared own).shared (serve shared own).own
keeps_serve shared own stands = keeps_served shared own stands (fallen_at shared own.who) refl
