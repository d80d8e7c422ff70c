use Rattle.std.proofs.Common.{◌≡◌, ◌<◌, ◌+◌, ◌-◌, ℕ, List, [], ◌∷◌, ◌++◌, Bool, true, false, cond, min, length, refl, sym, ap, ◌∙◌, subst, ⊎_elim, arith, true≢false}
use Rattle.std.specs.Prelude.{Option, None, Some, unwrap_or, nat_lt}
use Rattle.std.proofs.lemmas.Bool.{and_parts, ltb-true}
use Rattle.std.proofs.lemmas.List.{map-append, length-append}
use Rattle.casper_words.specs.declared.call.Op.{Op}
use Rattle.casper_words.specs.declared.call.Op.TheVariants as op
use Rattle.casper_words.specs.declared.call.Call.{Call}
use Rattle.casper_words.specs.declared.page.Right.{Right}
use Rattle.casper_words.specs.declared.page.Right.TheVariants as may
use Rattle.casper_trail.specs.Calls.{entry_by, entries_by}
use Rattle.casper_trail.specs.Legal.{IfRead, AreRightAfter}
use Rattle.casper_trail.specs.Parts.{live_entries}
use Rattle.casper_trail.specs.Value.{value_of}
use Rattle.casper_trail.proofs.LinkLists.{contains_push}
use Rattle.casper_trail.proofs.Pages.{right_joined}
use Rattle.casper_model.specs.Client.{Client, Fallen}
use Rattle.casper_model.specs.Held.{allows, with_first}
use Rattle.casper_model.specs.Hits.{can_hit, with_call}
use Rattle.casper_model.specs.LegalHistory.{right_for, CallIsHeld}
use Rattle.casper_model.specs.Own.{Own, room_of}
use Rattle.casper_model.specs.Rights.{Agrees, AgreesUnlessFallen}
use Rattle.casper_model.specs.Shared.{Shared, client_at, fallen_at}
use Rattle.casper_model.specs.View.{seen_by}
use Rattle.casper_model.proofs.GrantedRights.{first_allows_the_same}
use Rattle.casper_turns.specs.Good.{IsGoodWith}
use Rattle.casper_turns.specs.HitLaws.{ReadHitKeeps, WriteHitKeeps, ReadHitIsRight, WriteHitIsRight}
use Rattle.casper_turns.specs.Right.{ReadsAreRight}
use Rattle.casper_turns.proofs.Lists.{not_some}

-- what a test lets through
let_through : {X : Type 0} (test : Bool) (x y : X) → cond test (Some x) None ≡ Some y → (test ≡ true) × (x ≡ y)
let_through true x y is = (refl, ap (λ one. unwrap_or one x) is)
let_through false x y is = absurd (not_some y is)

-- a call agrees with what is known of its client, since the pages stay
agrees_with_hit : (place : Option Client) (own : Own) (act : Op) (page word value : ℕ) (right : Right) → allows own.held page right ≡ true → Agrees place own
    → Agrees place (with_call own act page word value)
agrees_with_hit None own act page word value right found had = absurd (true≢false (sym found ∙ ap (λ held. allows held page right) had.0))
agrees_with_hit (Some client) own act page word value right found had = by_fallen client.fallen had
  where
    by_fallen : (fallen : Option Fallen) → AgreesUnlessFallen client own fallen → AgreesUnlessFallen client (with_call own act page word value) fallen
    by_fallen None is = (is.0, λ at wanted. is.1 at wanted ∙ sym (first_allows_the_same page own.held at wanted))
    by_fallen (Some fallen) is = is

module _ (shared : Shared) (own : Own) (act : Op) (page word value : ℕ) (can : can_hit own page (right_for act) ≡ true) where
  call : Call
  call = record { op = act; page = page; word = word; value = value }

  parts : (allows own.held page (right_for act) ≡ true) × (nat_lt 0 (room_of own) ≡ true)
  parts = and_parts (allows own.held page (right_for act)) (nat_lt 0 (room_of own)) can

  longer : length (with_call own act page word value).pending ≡ length own.pending + 1
  longer = length-append own.pending (record { op = act; page = page; word = word; value = value } ∷ [])

  pub hit_keeps : IsGoodWith shared own → IsGoodWith shared (with_call own act page word value)
  hit_keeps mine = record {
    client = mine.client;
    agrees = agrees_with_hit (client_at shared own.who) own act page word value (right_for act) parts.0 mine.agrees;
    room = let more : 0 < min 4096 own.cap - length own.pending = ltb-true 0 (room_of own) parts.1 in omega (arith, longer);
    few = let more : 0 < min 4096 own.cap - length own.pending = ltb-true 0 (room_of own) parts.1 in omega (arith, longer);
    most = mine.most;
    calls = λ up one inside.
        ⊎_elim
        (λ old. first_allows_the_same page own.held one.page (right_for one.op) ∙ mine.calls up one old)
        (λ is. subst (CallIsHeld (with_first page own.held)) is (first_allows_the_same page own.held page (right_for act) ∙ parts.0))
        (contains_push own.pending (record { op = act; page = page; word = word; value = value }) one inside);
  }

-- the calls after a hit are right, where the call is
reads_with_hit : (base : List (List ℕ)) (shared : Shared) (own : Own) (act : Op) (page word value : ℕ)
    → (fallen_at shared own.who ≡ None → IfRead act (value ≡ value_of base (live_entries shared.trail ++ entries_by own.who own.pending) page word))
    → ReadsAreRight base shared own → ReadsAreRight base shared (with_call own act page word value)
reads_with_hit base shared own act page word value is right up =
    subst (AreRightAfter base (live_entries shared.trail)) (sym (map-append (entry_by own.who) own.pending (record { op = act; page = page; word = word; value = value } ∷ [])))
    (right_joined base (live_entries shared.trail) (entries_by own.who own.pending) (entry_by own.who (record { op = act; page = page; word = word; value = value }) ∷ [])
    (right up) (is up, tt))

pub read_hit_keeps : ReadHitKeeps
read_hit_keeps shared own after page word value mine hit =
    let is = let_through (can_hit own page may.Read) (with_call own op.Read page word value) after hit in
    subst (IsGoodWith shared) is.1 (hit_keeps shared own op.Read page word value is.0 mine)

pub write_hit_keeps : WriteHitKeeps
write_hit_keeps shared own after page word value mine hit =
    let is = let_through (can_hit own page may.Write) (with_call own op.Write page word value) after hit in
    subst (IsGoodWith shared) is.1 (hit_keeps shared own op.Write page word value is.0 mine)

pub read_hit_is_right : ReadHitIsRight
read_hit_is_right base shared own after page word value right hit seen =
    let is = let_through (can_hit own page may.Read) (with_call own op.Read page word value) after hit in
    subst (ReadsAreRight base shared) is.1
    (reads_with_hit base shared own op.Read page word value
    (λ up. seen ∙ ap (λ fallen. value_of base (seen_by shared fallen ++ entries_by own.who own.pending) page word) up) right)

pub write_hit_is_right : WriteHitIsRight
write_hit_is_right base shared own after page word value right hit =
    let is = let_through (can_hit own page may.Write) (with_call own op.Write page word value) after hit in
    subst (ReadsAreRight base shared) is.1 (reads_with_hit base shared own op.Write page word value (λ up. tt) right)
