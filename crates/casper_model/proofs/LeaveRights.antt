use Rattle.std.proofs.Common.{◌≡◌, ◌≢◌, ◌⊎◌, ◌<◌, ℕ, List, [], true, ◌==◌, min, length, length-set, refl, sym, ap, ◌∙◌, subst, inl, inr, true≢false}
use Rattle.std.specs.Prelude.{Option, None, Some}
use Rattle.std.proofs.lemmas.Bool.{cond_both, cases_eq}
use Rattle.casper_words.specs.declared.page.Right.{Right}
use Rattle.casper_model.specs.declared.reply.JoinRefusal.{JoinRefusal}
use Rattle.casper_model.specs.Held.{allows}
use Rattle.casper_model.specs.Client.{Client, Fallen, new_client}
use Rattle.casper_model.specs.Shared.{Shared, client_at, rights_at, fallen_at, of_client, place_client}
use Rattle.casper_model.specs.Own.{Own, blank}
use Rattle.casper_model.specs.Both.{Both, Turned}
use Rattle.casper_model.specs.Room.{most_cap, free_room}
use Rattle.casper_model.specs.Opening.{opened}
use Rattle.casper_model.specs.Join.{join, joined_by}
use Rattle.casper_model.specs.Leave.{absent, depart, departed_by, vanish, vanished_by}
use Rattle.casper_model.specs.Rights.{OneWriterOrReaders, Agrees, TurnStands, TurnKeeps, TurnSpares, Spares}
use Rattle.casper_model.proofs.Places.{client_placed, client_unplaced}
use Rattle.casper_model.proofs.OpeningRights.{exclusive_with_less}
use Rattle.casper_model.proofs.TurnRights.{up_as_it_stands, keeps_told, keeps_opened}
use Rattle.casper_model.proofs.AcquireRights.{not_nobody, within_places}
use Rattle.casper_model.proofs.LossRights.{spares_itself, spares_loss}

-- a turn that keeps the others as they were spares them
pub spares_kept : (shared : Shared) (own : Own) (after : Shared) (own_after : Own) → TurnStands shared own → TurnKeeps shared own after own_after
    → TurnSpares shared own after own_after
spares_kept shared own after own_after stands keeps = record {
  who = keeps.who;
  places = keeps.places;
  nobody = keeps.others 0 (not_nobody shared own stands) ∙ stands.nobody;
  others = λ number other apart had. subst (λ place. Agrees place other) (sym (keeps.others number apart)) had;
  agrees = keeps.agrees;
  exclusive = keeps.exclusive;
}

-- a client without rights may do no more
none_allows : (shared : Shared) (who : ℕ) → rights_at shared who ≡ [] → (page : ℕ) (right : Right) → allows (rights_at shared who) page right ≡ true → ⊥
none_allows shared who none page right found = true≢false (sym found ∙ ap (λ rights. allows rights page right) none)

-- a client whose place is set to nobody, or to one without rights
placed_spares : (shared before : Shared) (own : Own) (place : Option Client) (own_after : Own) → length shared.clients ≡ 33 → client_at shared 0 ≡ None
    → 0 ≢ own.who → own.who < length before.clients → OneWriterOrReaders shared → Spares shared before
    → own_after.who ≡ own.who → of_client [] (λ client. client.rights) place ≡ [] → Agrees place own_after
    → TurnSpares shared own (place_client own.who place before) own_after
placed_spares shared before own place own_after places nobody named below exclusive spares who bare agrees = record {
  who = who;
  places = length-set before.clients own.who place ∙ spares.places ∙ places;
  nobody = client_unplaced own.who place before 0 named ∙ spares.nobody nobody;
  others = λ number other apart had.
      subst (λ one. Agrees one other) (sym (client_unplaced own.who place before number apart)) (spares.agrees number other had);
  agrees = subst (λ one. Agrees one own_after) (sym here) agrees;
  exclusive = exclusive_with_less shared after (λ number page right found. allowed number page right (cases_eq number own.who) found) exclusive;
}
  where
    after : Shared
    after = place_client own.who place before

    here : client_at after own.who ≡ place
    here = client_placed own.who place before below

    allowed : (number page : ℕ) (right : Right) → (number ≡ own.who) ⊎ (number ≢ own.who) → allows (rights_at after number) page right ≡ true
        → allows (rights_at shared number) page right ≡ true
    allowed number page right (inl same) found =
        absurd (none_allows after number (ap (rights_at after) same ∙ ap (of_client [] (λ client. client.rights)) here ∙ bare) page right found)
    allowed number page right (inr apart) found =
        spares.less number page right
        (sym (ap (λ one. allows (of_client [] (λ client. client.rights) one) page right) (client_unplaced own.who place before number apart)) ∙ found)

-- the stabilisations have no part in it
spares_with_askers : (shared : Shared) (own : Own) (after : Shared) (own_after : Own) (again : Shared) → again.clients ≡ after.clients
    → TurnSpares shared own after own_after → TurnSpares shared own again own_after
spares_with_askers shared own after own_after again same spares =
    subst (λ (clients : List (Option Client)). TurnSpares shared own (record again { clients = clients }) own_after) (sym same)
    (record { who = spares.who; places = spares.places; nobody = spares.nobody; others = spares.others; agrees = spares.agrees; exclusive = spares.exclusive })

-- a client that becomes absent
spares_absent : (shared before : Shared) (own : Own) → TurnStands shared own → own.who < length before.clients → Spares shared before
    → TurnSpares shared own (absent (record { shared = before; own = own })).shared (blank own.who own.capacity)
spares_absent shared before own stands below spares =
    spares_with_askers shared own (place_client own.who None before) (blank own.who own.capacity) _ refl
    (placed_spares shared before own None (blank own.who own.capacity) stands.places stands.nobody (not_nobody shared own stands) below stands.exclusive spares
    refl refl (refl, refl))

pub vanished_spares : (shared : Shared) (own : Own) (fallen : Option Fallen) → Spares shared (vanished_by shared own fallen).shared
vanished_spares shared own (Some fallen) = spares_itself shared
vanished_spares shared own None = spares_loss shared own.who _

pub spares_vanish : (shared : Shared) (own : Own) → TurnStands shared own → TurnSpares shared own (vanish shared own).shared (vanish shared own).own
spares_vanish shared own stands =
    let spares = vanished_spares shared own (fallen_at shared own.who) in
    spares_absent shared (vanished_by shared own (fallen_at shared own.who)).shared own stands
    (subst (λ places. own.who < places) (sym spares.places) (within_places shared own stands)) spares

-- a client that departs
spares_departed : (shared : Shared) (own : Own) → TurnStands shared own → (fallen : Option Fallen) → fallen_at shared own.who ≡ fallen
    → TurnSpares shared own (departed_by shared own fallen).shared (departed_by shared own fallen).own
spares_departed shared own stands (Some fallen) e =
    spares_kept shared own _ _ stands (keeps_told shared own fallen stands e)
spares_departed shared own stands None e = record {
  who = kept.who;
  places = gone.places;
  nobody = gone.nobody;
  others = λ number other apart had.
      gone.others number other (λ same. apart (same ∙ kept.who)) (subst (λ place. Agrees place other) (sym (kept.others number apart)) had);
  agrees = subst (λ number. Agrees (client_at (absent both).shared number) (absent both).own) kept.who gone.agrees;
  exclusive = gone.exclusive;
}
  where
    both : Both
    both = opened shared own

    kept : TurnKeeps shared own both.shared both.own
    kept = keeps_opened shared own stands (up_as_it_stands shared own stands e)

    below : both.own.who < length both.shared.clients
    below = subst (λ number. number < length both.shared.clients) (sym kept.who) (subst (λ places. own.who < places) (stands.places ∙ sym kept.places) (within_places shared own stands))

    named : 0 ≢ both.own.who
    named same = not_nobody shared own stands (same ∙ kept.who)

    nobody : client_at both.shared 0 ≡ None
    nobody = kept.others 0 (not_nobody shared own stands) ∙ stands.nobody

    gone : TurnSpares both.shared both.own (absent both).shared (absent both).own
    gone =
        spares_with_askers both.shared both.own (place_client both.own.who None both.shared) (blank both.own.who both.own.capacity) _ refl
        (placed_spares both.shared both.shared both.own None (blank both.own.who both.own.capacity) kept.places nobody named below kept.exclusive (spares_itself both.shared)
        refl refl (refl, refl))

pub spares_depart : (shared : Shared) (own : Own) → TurnStands shared own → TurnSpares shared own (depart shared own).shared (depart shared own).own
spares_depart shared own stands = spares_departed shared own stands (fallen_at shared own.who) refl

-- a client that joins, or is refused
pub spares_refused : (shared : Shared) (own : Own) → length shared.clients ≡ 33 → client_at shared 0 ≡ None → Agrees (client_at shared own.who) own
    → OneWriterOrReaders shared → TurnSpares shared own shared own
spares_refused shared own places nobody agrees exclusive = record {
  who = refl;
  places = places;
  nobody = nobody;
  others = λ number other apart had. had;
  agrees = agrees;
  exclusive = exclusive;
}

spares_joined : (shared : Shared) (own : Own) → length shared.clients ≡ 33 → client_at shared 0 ≡ None → 0 ≢ own.who → own.who < 33
    → Agrees (client_at shared own.who) own → OneWriterOrReaders shared → (client : Option Client)
    → TurnSpares shared own (joined_by shared own client).shared (joined_by shared own client).own
spares_joined shared own places nobody named below agrees exclusive (Some client) = spares_refused shared own places nobody agrees exclusive
spares_joined shared own places nobody named below agrees exclusive None =
    let free = free_room shared in
    cond_both (free == 0) _ _ (λ (turn : Turned (Option JoinRefusal)). TurnSpares shared own turn.shared turn.own)
    (λ full. spares_refused shared own places nobody agrees exclusive)
    (λ room.
    placed_spares shared shared own (Some (new_client (min most_cap free))) (record (blank own.who own.capacity) { cap = min most_cap free }) places nobody named
    (subst (λ count. own.who < count) (sym places) below) exclusive (spares_itself shared) refl refl (refl, λ page right. refl))

pub spares_join : (shared : Shared) (own : Own) → length shared.clients ≡ 33 → client_at shared 0 ≡ None → 0 ≢ own.who → own.who < 33
    → Agrees (client_at shared own.who) own → OneWriterOrReaders shared → TurnSpares shared own (join shared own).shared (join shared own).own
spares_join shared own places nobody named below agrees exclusive =
    spares_joined shared own places nobody named below agrees exclusive (client_at shared own.who)
