use Rattle.std.proofs.Common.{◌≡◌, ◌≢◌, ◌⊎◌, ℕ, List, [], ◌∷◌, Bool, true, false, ◌==◌, ◌&&◌, cond, not, Contains, refl, sym, ap, ◌∙◌, subst, inl, inr, ⊎_elim, true≢false}
use Rattle.std.specs.Prelude.{Option, None, Some, is_some, unwrap_or, filter_map}
use Rattle.std.specs.List.{list_any, cons_option}
use Rattle.std.proofs.lemmas.Bool.{and_from, and_parts, or_cases, eqb-true, ne_eqb, false_from_ne_true}
use Rattle.casper_words.specs.Crew.{IsClient, clients, crew_of}
use Rattle.casper_words.specs.declared.page.Right.{Right}
use Rattle.casper_words.specs.declared.page.Right.TheVariants as may
use Rattle.casper_words.specs.declared.page.Want.{Want}
use Rattle.casper_words.proofs.CrewLemmas.{has_member_crew_of}
use Rattle.casper_trail.proofs.Rounds.{list_any_implies}
use Rattle.casper_space.specs.declared.answer.Answer.{Answer}
use Rattle.casper_space.specs.declared.answer.Answer.TheVariants as answer
use Rattle.casper_model.specs.Held.{is_of, is_to_write, covers, allows, lowered}
use Rattle.casper_model.specs.Own.{Own}
use Rattle.casper_model.specs.Both.{Both}
use Rattle.casper_model.specs.Shared.{Shared, client_at, asks_at, rights_at, fallen_at, of_client, is_live}
use Rattle.casper_model.specs.Stabilisation.{Stabilisation}
use Rattle.casper_model.specs.Opening.{asks_for, is_asked_for, any_right, kept_dropped, recorded, begun, is_given_up_wholly, is_given_up_to_reading, kept_of, given_up, gathering_of, handed_in_to, opened}
use Rattle.casper_model.specs.Leave.{served_by}
use Rattle.casper_model.specs.State.{State, own_at, start}
use Rattle.casper_model.specs.Turn.{Turn, guarded}
use Rattle.casper_model.specs.Step.{serve_turn}
use Rattle.casper_model.proofs.HeldRights.{AllowsNoMore, passes, lowered_allow_no_more}
use Rattle.casper_model.proofs.OpeningRights.{IsUp, known_opened, others_agreed, others_opened}
use Rattle.casper_model.proofs.Places.{client_unchanged}
use Rattle.casper_model.proofs.Additions.{who_opened}
use Rattle.casper_model.proofs.TurnRights.{rights_known}
use Rattle.casper_model.proofs.RunRights.{every_run_rights}
use Rattle.casper_model.specs.Run.{state_after}
use Rattle.casper_laws.specs.RecallLaws.{MeetsTheAsks, EachServeMeetsTheAsks, EveryServeMeetsTheAsks}
use Rattle.casper_turns.proofs.Lists.{any_found, contains_filter, any_of}

-- each client is among them all
among_clients : (who : ℕ) → IsClient who → Contains clients who
unfolding crew_of
among_clients who is =
    let found = any_found (λ member. member == who) (crew_of (λ member. true)) (has_member_crew_of (λ member. true) who is) in
    subst (Contains clients) (eqb-true found.0 who found.2) (contains_filter (λ member. true) clients found.0 found.1).0

asked_by : (test : Right → Bool) (shared : Shared) (who page other : ℕ) → IsClient other → other ≢ who
    → list_any (λ ask. is_of page ask && test ask.right) (asks_at shared other) ≡ true → is_asked_for test shared who page ≡ true
asked_by test shared who page other is apart asks =
    any_of (asks_for test shared who page) clients other (among_clients other is)
    (and_from (not (other == who)) (list_any (λ ask. is_of page ask && test ask.right) (asks_at shared other)) (ap not (ne_eqb other who apart)) asks)

covers_writing : (right : Right) → covers right may.Write ≡ true → is_to_write right ≡ true
covers_writing may.Read is = absurd (true≢false (sym is))
covers_writing may.Write is = refl

-- an ask for a page, and one to write it
asks_any : (asks : List Want) (page : ℕ) → allows asks page may.Read ≡ true → list_any (λ ask. is_of page ask && any_right ask.right) asks ≡ true
asks_any asks page =
    list_any_implies (passes page may.Read) (λ ask. is_of page ask && any_right ask.right)
    (λ ask both. and_from (is_of page ask) true (and_parts (is_of page ask) (covers ask.right may.Read) both).0 refl) asks

asks_to_write : (asks : List Want) (page : ℕ) → allows asks page may.Write ≡ true → list_any (λ ask. is_of page ask && is_to_write ask.right) asks ≡ true
asks_to_write asks page =
    list_any_implies (passes page may.Write) (λ ask. is_of page ask && is_to_write ask.right)
    (λ ask both.
    let parts = and_parts (is_of page ask) (covers ask.right may.Write) both in
    and_from (is_of page ask) (is_to_write ask.right) parts.0 (covers_writing ask.right parts.1))
    asks

-- what passes among what is kept was kept of something
abbrev KeptFrom : (Want → Option Want) → (Want → Bool) → Type 0
KeptFrom keep test = (want : Want) × (left : Want) × (keep want ≡ Some left) × (test left ≡ true)

kept_from : (keep : Want → Option Want) (test : Want → Bool) (held : List Want) → list_any test (filter_map keep held) ≡ true → KeptFrom keep test
kept_from keep test [] found = absurd (true≢false (sym found))
kept_from keep test (want ∷ held) found = by_kept (keep want) refl (λ later. kept_from keep test held later) found
  where
    by_kept : (kept : Option Want) → keep want ≡ kept → (list_any test (filter_map keep held) ≡ true → KeptFrom keep test)
        → list_any test (cons_option kept (filter_map keep held)) ≡ true → KeptFrom keep test
    by_kept None e rest later = rest later
    by_kept (Some left) e rest some =
        ⊎_elim (λ here. (want, left, e, here)) rest (or_cases (test left) (list_any test (filter_map keep held)) some)

-- how a page is kept
kept_how : (wholly reading : Bool) (want left : Want) → cond wholly None (Some (cond reading (lowered want) want)) ≡ Some left
    → (wholly ≡ false) × (left.page ≡ want.page) × ((is_to_write left.right ≡ false) ⊎ ((reading ≡ false) × (left ≡ want)))
kept_how true reading want left kept = absurd (true≢false (sym (ap is_some kept)))
kept_how false true want left kept =
    let same : lowered want ≡ left = ap (λ one. unwrap_or one want) kept in
    (refl, ap (λ (one : Want). one.page) (sym same), inl (ap (λ (one : Want). is_to_write one.right) (sym same)))
kept_how false false want left kept =
    let same : want ≡ left = ap (λ one. unwrap_or one want) kept in
    (refl, ap (λ (one : Want). one.page) (sym same), inr (refl, sym same))

-- the pages that are given up meet the asks
module _ (shared : Shared) (who : ℕ) (held : List Want) (page other : ℕ) (is : IsClient other) (apart : other ≢ who) where
  wholly : allows (asks_at shared other) page may.Write ≡ true → allows (filter_map (kept_of shared who) held) page may.Read ≡ false
  wholly asks =
      false_from_ne_true (allows (filter_map (kept_of shared who) held) page may.Read)
      (λ found.
      let from = kept_from (kept_of shared who) (passes page may.Read) held found in
      let how = kept_how (is_given_up_wholly shared who from.0) (is_given_up_to_reading shared who from.0) from.0 from.1 from.2 in
      let here : from.1.page ≡ page = eqb-true from.1.page page (and_parts (is_of page from.1) (covers from.1.right may.Read) from.3).0 in
      true≢false
      (sym (asked_by is_to_write shared who page other is apart (asks_to_write (asks_at shared other) page asks))
      ∙ ap (is_asked_for is_to_write shared who) (sym here ∙ how.1) ∙ how.0))

  to_reading : allows (asks_at shared other) page may.Read ≡ true → allows (filter_map (kept_of shared who) held) page may.Write ≡ false
  to_reading asks =
      false_from_ne_true (allows (filter_map (kept_of shared who) held) page may.Write)
      (λ found.
      let from = kept_from (kept_of shared who) (passes page may.Write) held found in
      let how = kept_how (is_given_up_wholly shared who from.0) (is_given_up_to_reading shared who from.0) from.0 from.1 from.2 in
      let parts = and_parts (is_of page from.1) (covers from.1.right may.Write) from.3 in
      let here : from.1.page ≡ page = eqb-true from.1.page page parts.0 in
      let writes : is_to_write from.1.right ≡ true = covers_writing from.1.right parts.1 in
      let asked : is_asked_for any_right shared who from.0.page ≡ true =
      ap (is_asked_for any_right shared who) (sym how.1 ∙ here) ∙ asked_by any_right shared who page other is apart (asks_any (asks_at shared other) page asks) in
      ⊎_elim (λ reads. true≢false (sym writes ∙ reads))
      (λ (same : (is_given_up_to_reading shared who from.0 ≡ false) × (from.1 ≡ from.0)).
      true≢false
      (sym (and_from (is_to_write from.0.right) (is_asked_for any_right shared who from.0.page) (ap (λ (one : Want). is_to_write one.right) (sym same.1) ∙ writes) asked)
      ∙ same.0))
      how.2)

fewer : (less more : List Want) (page : ℕ) (right : Right) → AllowsNoMore less more → allows more page right ≡ false → allows less page right ≡ false
fewer less more page right no_more not_so =
    false_from_ne_true (allows less page right) (λ found. true≢false (sym (no_more page right found) ∙ not_so))

handed_in_no_more : (both : Both) (one : Option Stabilisation) → AllowsNoMore (handed_in_to both one).own.held both.own.held
handed_in_no_more both None page right found = found
handed_in_no_more both (Some one) page right found = lowered_allow_no_more both.own.held page right found

-- an opening gives up what is asked for
opened_meets : (shared : Shared) (own : Own) → IsUp shared own.who → MeetsTheAsks (opened shared own).shared own.who
opened_meets shared own is other page client apart = (
  λ asks. refused may.Read (wholly second.shared own.who second.own.held page other client apart (asked may.Write asks)),
  λ asks. refused may.Write (to_reading second.shared own.who second.own.held page other client apart (asked may.Read asks)),
)
  where
    first : Both
    first = recorded (kept_dropped own.who shared) own

    second : Both
    second = begun shared own

    third : Both
    third = given_up second

    same : client_at (opened shared own).shared other ≡ client_at second.shared other
    same =
        others_opened shared own other apart
        ∙ sym (others_agreed first.shared second.own other apart
        ∙ others_agreed (record (kept_dropped own.who shared) { trail = first.shared.trail }) first.own other apart
        ∙ client_unchanged own.who (λ client. record client { kept = None }) shared other apart)

    asked : (right : Right) → allows (asks_at (opened shared own).shared other) page right ≡ true → allows (asks_at second.shared other) page right ≡ true
    asked right asks = sym (ap (λ place. allows (of_client [] (λ client. client.asks) place) page right) same) ∙ asks

    known : rights_at (opened shared own).shared own.who ≡ (opened shared own).own.held
    known = ap (rights_at (opened shared own).shared) (sym (who_opened shared own)) ∙ rights_known (opened shared own).shared (opened shared own).own (known_opened shared own is)

    refused : (right : Right) → allows third.own.held page right ≡ false → allows (rights_at (opened shared own).shared own.who) page right ≡ false
    refused right not_so =
        ap (λ rights. allows rights page right) known
        ∙ fewer (opened shared own).own.held third.own.held page right (handed_in_no_more third (gathering_of third.shared third.own.who)) not_so

-- a step that a test lets be
let_be : (P : State → Type 0) (test : Bool) (refusal : Answer) (state : State) (turn : State → Turn) → test ≡ true → P (turn state).state
    → P (guarded test refusal state turn).state
let_be P test refusal state turn holds is = subst (λ one. P (guarded one refusal state turn).state) (sym holds) is

pub serve_meets : EachServeMeetsTheAsks
serve_meets state who outside is order stands =
    let_be (λ after. MeetsTheAsks after.shared who) (is_live state.shared who) answer.Absent state (serve_turn who) (ap is_some stands.1)
    (subst (λ fallen. MeetsTheAsks (served_by state.shared own fallen).shared who) (sym up)
    (subst (MeetsTheAsks (opened state.shared own).shared) who_is (opened_meets state.shared own here)))
  where
    own : Own
    own = own_at state who

    who_is : own.who ≡ who
    who_is = order.shaped.numbers who

    here : IsUp state.shared own.who
    here = record { client = stands.0; live = ap (client_at state.shared) who_is ∙ stands.1; up = stands.2 }

    up : fallen_at state.shared own.who ≡ None
    up = ap (of_client None (λ client. client.fallen)) here.live ∙ here.up

pub every_serve_meets : EveryServeMeetsTheAsks
every_serve_meets vault pages limit capacity happenings named who outside is stands =
    serve_meets (state_after (start vault pages limit capacity) happenings) who outside is (every_run_rights vault pages limit capacity happenings named) stands
