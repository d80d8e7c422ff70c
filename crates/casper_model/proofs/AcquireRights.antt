use Rattle.std.proofs.Common.{◌≡◌, ◌≢◌, ◌⊎◌, ◌<◌, ℕ, List, [], ◌++◌, true, false, length, refl, sym, ap, ◌∙◌, subst, inl, inr, ⊎_elim, true≢false}
use Rattle.std.specs.Prelude.{Option, None, Some, option_map, is_some}
use Rattle.std.specs.Option.{option_or}
use Rattle.std.specs.List.{list_any}
use Rattle.std.proofs.lemmas.Bool.{cases_eq, cases_lt, and_parts, or_cases}
use Rattle.casper_words.specs.declared.page.Right.{Right}
use Rattle.casper_words.specs.declared.page.Right.TheVariants as may
use Rattle.casper_words.specs.declared.page.Want.{Want}
use Rattle.casper_trail.specs.Parts.{as_items}
use Rattle.casper_model.specs.declared.reply.Reply.{Reply}
use Rattle.casper_model.specs.Held.{is_of, is_to_write, covers, allows, missing_of, with_granted}
use Rattle.casper_model.specs.Client.{Client, Fallen}
use Rattle.casper_model.specs.Shared.{Shared, client_at, rights_at, fallen_at, of_client}
use Rattle.casper_model.specs.Own.{Own}
use Rattle.casper_model.specs.Both.{Both, agreed}
use Rattle.casper_model.specs.Opening.{opened, given_in_opening}
use Rattle.casper_model.specs.Acquire.{acquire, acquired_by, answered, granted, with_asks, refused_missing, refused_full, touches_by}
use Rattle.casper_model.specs.Rights.{OneWriterOrReaders, Agrees, TurnStands, TurnKeeps}
use Rattle.casper_model.proofs.Places.{client_changed, client_unchanged, client_beyond}
use Rattle.casper_model.proofs.HeldRights.{passes}
use Rattle.casper_model.proofs.GrantedRights.{granted_allow}
use Rattle.casper_model.proofs.OpeningRights.{IsUp, IsKnown, known_agreed, known_opened, others_agreed, others_opened, places_agreed, places_changed, places_opened, opened_allows_no_more}
use Rattle.casper_model.proofs.Conflicts.{neither, client_that_holds, conflict_with_writer, conflict_with_holder, no_conflict}
use Rattle.casper_model.proofs.Additions.{who_opened}
use Rattle.casper_model.proofs.TurnRights.{up_as_it_stands, agrees_known, fallen_known, rights_known, keeps_with_less, keeps_told, keeps_opened}

-- the rights of one client are what it holds once wants were granted that stand in conflict with nobody; then each page
-- still has one writer or many readers
exclusive_granted : (before after : Shared) (who capacity : ℕ) (held wants : List Want) (given : List ℕ)
    → length before.clients ≡ 33 → client_at before 0 ≡ None → OneWriterOrReaders before
    → rights_at before who ≡ held → rights_at after who ≡ with_granted capacity wants held
    → ((number : ℕ) → number ≢ who → rights_at after number ≡ rights_at before number)
    → refused_missing before who given (missing_of held wants) ≡ None
    → OneWriterOrReaders after
exclusive_granted before after who capacity held wants given places nobody exclusive mine now others unrefused one other page writes holds =
    by_cases (cases_eq one who) (cases_eq other who)
  where
    missing : List Want
    missing = missing_of held wants

    of_others : (number : ℕ) (right : Right) → number ≢ who → allows (rights_at after number) page right ≡ true → allows (rights_at before number) page right ≡ true
    of_others number right apart found = sym (ap (λ rights. allows rights page right) (others number apart)) ∙ found

    of_mine : (number : ℕ) (right : Right) → number ≡ who → allows (rights_at after number) page right ≡ true
        → (allows (rights_at before number) page right ≡ true) ⊎ (list_any (passes page right) missing ≡ true)
    of_mine number right same found =
        ⊎_elim
        (λ had. inl (ap (λ rights. allows rights page right) (ap (rights_at before) same ∙ mine) ∙ had))
        inr
        (granted_allow capacity wants held page right (sym (ap (λ rights. allows rights page right) (ap (rights_at after) same ∙ now)) ∙ found))

    wanted_to_write : (number : ℕ) → number ≢ who → allows (rights_at before number) page may.Read ≡ true → list_any (passes page may.Write) missing ≡ true → ⊥
    wanted_to_write number apart had =
        no_conflict before who given missing unrefused number (client_that_holds before places nobody number page may.Read had) apart (passes page may.Write)
        (λ want is.
        let parts = and_parts (is_of page want) (covers want.right may.Write) is in
        conflict_with_holder (rights_at before number) page want parts.0
        (⊎_elim (λ to_write. to_write) (λ never. absurd (true≢false (sym never))) (or_cases (is_to_write want.right) false parts.1)) had)

    wanted_to_read : (number : ℕ) → number ≢ who → allows (rights_at before number) page may.Write ≡ true → list_any (passes page may.Read) missing ≡ true → ⊥
    wanted_to_read number apart had =
        no_conflict before who given missing unrefused number (client_that_holds before places nobody number page may.Write had) apart (passes page may.Read)
        (λ want is. conflict_with_writer (rights_at before number) page want (and_parts (is_of page want) (covers want.right may.Read) is).0 had)

    by_cases : (one ≡ who) ⊎ (one ≢ who) → (other ≡ who) ⊎ (other ≢ who) → one ≡ other
    by_cases (inl same) (inl also) = same ∙ sym also
    by_cases (inl same) (inr apart) =
        let held_before = of_others other may.Read apart holds in
        ⊎_elim (λ had. exclusive one other page had held_before) (λ wanted. absurd (wanted_to_write other apart held_before wanted))
        (of_mine one may.Write same writes)
    by_cases (inr apart) (inl same) =
        let wrote_before = of_others one may.Write apart writes in
        ⊎_elim (λ had. exclusive one other page wrote_before had) (λ wanted. absurd (wanted_to_read one apart wrote_before wanted))
        (of_mine other may.Read same holds)
    by_cases (inr apart) (inr away) = exclusive one other page (of_others one may.Write apart writes) (of_others other may.Read away holds)

-- the number of a live client is not 0, and below 33
pub not_nobody : (shared : Shared) (own : Own) → TurnStands shared own → 0 ≢ own.who
not_nobody shared own stands zero =
    true≢false (ap is_some (sym stands.live ∙ ap (client_at shared) (sym zero) ∙ stands.nobody))

pub within_places : (shared : Shared) (own : Own) → TurnStands shared own → own.who < length shared.clients
within_places shared own stands =
    ⊎_elim (λ below. below) (λ past. absurd (true≢false (ap is_some (sym stands.live ∙ client_beyond shared own.who past))))
    (cases_lt own.who (length shared.clients))

known_with_asks : (asks : List Want) (both : Both) → IsKnown both.shared both.own → IsKnown (with_asks asks both).shared both.own
known_with_asks asks both known =
    let change : Client → Client = λ client. record client { asks = asks } in
    record {
      client = change known.client;
      live = client_changed both.own.who change both.shared ∙ ap (option_map change) known.live;
      up = known.up;
      cap = known.cap;
      rights = known.rights;
    }

others_with_asks : (asks : List Want) (shared : Shared) (own : Own) (number : ℕ) → number ≢ own.who
    → client_at (with_asks asks (opened shared own)).shared number ≡ client_at shared number
others_with_asks asks shared own number apart =
    client_unchanged (opened shared own).own.who (λ client. record client { asks = asks }) (opened shared own).shared number
    (λ same. apart (same ∙ who_opened shared own))
    ∙ others_opened shared own number apart

places_with_asks : (asks : List Want) (shared : Shared) (own : Own) → length (with_asks asks (opened shared own)).shared.clients ≡ length shared.clients
places_with_asks asks shared own =
    places_changed (opened shared own).own.who (λ client. record client { asks = asks }) (opened shared own).shared ∙ places_opened shared own

keeps_refused : (asks : List Want) (shared : Shared) (own : Own) → TurnStands shared own → IsUp shared own.who
    → TurnKeeps shared own (with_asks asks (opened shared own)).shared (opened shared own).own
keeps_refused asks shared own stands is =
    keeps_with_less shared own (with_asks asks (opened shared own)).shared (opened shared own).own stands is (who_opened shared own)
    (places_with_asks asks shared own) (others_with_asks asks shared own) (known_with_asks asks (opened shared own) (known_opened shared own is))
    (opened_allows_no_more shared own)

keeps_granted : (shared : Shared) (own : Own) (given : List ℕ) (wants : List Want) → TurnStands shared own → IsUp shared own.who
    → refused_missing (opened shared own).shared (opened shared own).own.who given (missing_of (opened shared own).own.held wants) ≡ None
    → TurnKeeps shared own (granted wants (missing_of (opened shared own).own.held wants) (with_asks [] (opened shared own))).shared
    (granted wants (missing_of (opened shared own).own.held wants) (with_asks [] (opened shared own))).own
keeps_granted shared own given wants stands is unrefused = record {
  who = who_opened shared own;
  places = places_agreed touched own_after ∙ places_with_asks [] shared own ∙ stands.places;
  others = others;
  agrees = subst (λ number. Agrees (client_at after number) own_after) (who_opened shared own) (agrees_known after own_after known);
  up = ap (fallen_at after) (sym (who_opened shared own)) ∙ fallen_known after own_after known;
  exclusive =
      exclusive_granted both.shared after both.own.who both.own.capacity both.own.held wants given (places_opened shared own ∙ stands.places)
      (others_opened shared own 0 (not_nobody shared own stands) ∙ stands.nobody) kept.exclusive (rights_known both.shared both.own (known_opened shared own is))
      (rights_known after own_after known) rights_of_others unrefused;
}
  where
    both : Both
    both = opened shared own

    kept : TurnKeeps shared own both.shared both.own
    kept = keeps_opened shared own stands is

    missing : List Want
    missing = missing_of both.own.held wants

    asked : Both
    asked = with_asks [] both

    own_after : Own
    own_after = (granted wants missing asked).own

    touched : Shared
    touched = record (asked.shared) { trail = asked.shared.trail ++ as_items (touches_by both.own.who missing) }

    after : Shared
    after = (agreed touched own_after).shared

    asked_known : IsKnown asked.shared asked.own
    asked_known = known_with_asks [] both (known_opened shared own is)

    known : IsKnown after own_after
    known = known_agreed touched own_after (record { client = asked_known.client; live = asked_known.live; up = asked_known.up })

    others : (number : ℕ) → number ≢ own.who → client_at after number ≡ client_at shared number
    others number apart =
        others_agreed touched own_after number (λ same. apart (same ∙ who_opened shared own)) ∙ others_with_asks [] shared own number apart

    rights_of_others : (number : ℕ) → number ≢ both.own.who → rights_at after number ≡ rights_at both.shared number
    rights_of_others number apart =
        let away : number ≢ own.who = λ same. apart (same ∙ sym (who_opened shared own)) in
        ap (of_client [] (λ client. client.rights)) (others number away ∙ sym (others_opened shared own number away))

keeps_answered : (shared : Shared) (own : Own) (given : List ℕ) (wants : List Want) (calls : ℕ) → TurnStands shared own → IsUp shared own.who
    → (refusal : Option Reply)
    → option_or (refused_missing (opened shared own).shared (opened shared own).own.who given (missing_of (opened shared own).own.held wants))
    (refused_full (opened shared own) (missing_of (opened shared own).own.held wants) calls) ≡ refusal
    → TurnKeeps shared own (answered (opened shared own) given wants (missing_of (opened shared own).own.held wants) refusal).shared
    (answered (opened shared own) given wants (missing_of (opened shared own).own.held wants) refusal).own
keeps_answered shared own given wants calls stands is None e =
    let both = opened shared own in
    let missing = missing_of both.own.held wants in
    keeps_granted shared own given wants stands is (neither (refused_missing both.shared both.own.who given missing) (refused_full both missing calls) e).0
keeps_answered shared own given wants calls stands is (Some reply) e = keeps_refused _ shared own stands is

pub keeps_acquired : (wants : List Want) (calls : ℕ) (shared : Shared) (own : Own) → TurnStands shared own → (fallen : Option Fallen) → fallen_at shared own.who ≡ fallen
    → TurnKeeps shared own (acquired_by shared own wants calls fallen).shared (acquired_by shared own wants calls fallen).own
keeps_acquired wants calls shared own stands (Some fallen) e = keeps_told shared own fallen stands e
keeps_acquired wants calls shared own stands None e =
    keeps_answered shared own (given_in_opening shared own) wants calls stands (up_as_it_stands shared own stands e) _ refl

pub keeps_acquire : (wants : List Want) (calls : ℕ) (shared : Shared) (own : Own) → TurnStands shared own
    → TurnKeeps shared own (acquire shared own wants calls).shared (acquire shared own wants calls).own
keeps_acquire wants calls shared own stands = keeps_acquired wants calls shared own stands (fallen_at shared own.who) refl
