use Rattle.std.proofs.Common.{◌≡◌, ◌≢◌, ◌==◌, ◌-◌, ℕ, List, [], ◌++◌, Bool, true, false, cond, not, ◌&&◌, map, filter, length, take, Contains, get_or, get_or-set_same, slice_set, refl, sym, ap, ◌∙◌, subst, ⊎_elim, true≢false}
use Rattle.std.specs.Prelude.{Option, None, Some, is_some, reverse}
use Rattle.std.specs.List.{list_any}
use Rattle.std.proofs.lemmas.Bool.{and_parts, and_from, or_left, eqb-true, eq-eqb, false_from_ne_true}
use Rattle.std.proofs.lemmas.List.{map-append, length-map, length-reverse}
use Rattle.std.proofs.lemmas.List.Elements.{filter-append}
use Rattle.std.proofs.Math.Seq.{take-append_seam}
use Rattle.casper_words.specs.Crew.{IsClient, clients, crew_of, has_member}
use Rattle.casper_words.proofs.CrewLemmas.{client_from_member, IsCrew_crew_of}
use Rattle.casper_words.specs.declared.call.Op.TheVariants as op
use Rattle.casper_words.specs.declared.page.Right.{Right}
use Rattle.casper_words.specs.declared.page.Right.TheVariants as may
use Rattle.casper_words.specs.declared.page.Want.{Want}
use Rattle.casper_space.specs.declared.answer.Answer.TheVariants as answer
use Rattle.casper_trail.proofs.Rounds.{list_any_implies}
use Rattle.casper_trail.specs.Association.{association_of}
use Rattle.casper_model.specs.declared.reply.Reply.{Reply}
use Rattle.casper_model.specs.Acquire.{acquire, acquired_by, answered, missing_once_opened, refused_missing, refused_full}
use Rattle.casper_model.specs.Answers.{of_reply}
use Rattle.casper_model.specs.Both.{Both}
use Rattle.casper_model.specs.CallStep.{acquire_step, is_granted}
use Rattle.casper_model.specs.Client.{Fallen}
use Rattle.casper_model.specs.Held.{is_of, is_to_write, covers, allows, lowered, holds, with_first, granted_right, with_granted}
use Rattle.casper_model.specs.Leave.{serve, served_by}
use Rattle.casper_model.specs.Opening.{asks_for, is_asked_for, any_right, kept_dropped, recorded, begun, is_given_up_wholly, is_given_up_to_reading, kept_of, given_up, gathering_of, handed_in_to, opened, given_in_opening}
use Rattle.casper_model.specs.Frozen.{is_member}
use Rattle.casper_model.specs.Outside.{Outside}
use Rattle.casper_model.specs.Own.{Own, blank}
use Rattle.casper_model.specs.Rights.{InOrder}
use Rattle.casper_model.specs.Run.{state_after}
use Rattle.casper_model.specs.Shared.{Shared, client_at, of_client, asks_at, fallen_at}
use Rattle.casper_model.specs.Stabilisation.{Stabilisation, is_gathering}
use Rattle.casper_model.specs.State.{State, own_at, after_turn, start}
use Rattle.casper_model.specs.Step.{serve_turn}
use Rattle.casper_model.specs.Turn.{guarded}
use Rattle.casper_model.specs.View.{value_seen}
use Rattle.casper_model.proofs.HeldRights.{passes, covers_read, any_in_map}
use Rattle.casper_model.proofs.OpeningRights.{kept_or_lowered, others_agreed, opened_allows_no_more}
use Rattle.casper_model.proofs.Places.{client_unchanged}
use Rattle.casper_model.proofs.RunRights.{every_run_rights}
use Rattle.casper_model.proofs.StateHistory.{in_owns}
use Rattle.casper_turns.proofs.Lists.{any_none, any_of, contains_filtered}
use Rattle.casper_laws.specs.Additions.{grants_pages}
use Rattle.casper_laws.specs.OwnLists.{IsStanding}
use Rattle.casper_laws.proofs.CompletedCalls.{unless_turn}
use Rattle.casper_laws.proofs.ExactAdditions.{IfRefused, either_refuses, missing_refuses, full_refuses}
use Rattle.casper_laws.proofs.PendingSteps.{acquire_empties, serve_empties}
use Rattle.casper_caches.specs.CacheLaws.{pages_of, others, ComesFirst, HitsComeFirst, left_by_opening, KeepsTheOrder, GainsNothing, KeepsTheUnasked, KeepsToRead, ServesByOpening, is_refused, RefusalsOnlyOpen, EachHitComesFirst, EachOpeningKeepsTheOrder, EachOpeningGainsNothing, EachOpeningKeepsTheUnasked, EachOpeningKeepsToRead, EachServeOnlyOpens, EachRefusedAcquireOnlyOpens, EachGrantPutsItsPagesFirst, EachGrantGivesUpTheOldest}
use Rattle.casper_caches.proofs.CacheLists.{map_reversed, pages_granted, pages_lowered, filter_taken, wanted_in_front, used_first, others_stay, kept_in_order, keeps_passing, find_nothing}
use Rattle.casper_caches.proofs.Lines.{read_is_hit, write_is_hit, own_after_hit}

-- What hits, openings and grants leave of a cache.

-- a page that is held with a right is held
held_page : (held : List Want) (page : ℕ) (right : Right) → allows held page right ≡ true → holds held page ≡ true
held_page held page right =
    list_any_implies (passes page right) (is_of page) (λ want both. (and_parts (is_of page want) (covers want.right right) both).0) held

comes_first : (page : ℕ) (right : Right) (held after : List Want) → allows held page right ≡ true → after ≡ with_first page held → ComesFirst page held after
comes_first page right held after allowed same =
    subst (ComesFirst page held) (sym same)
    (used_first page held (filter (λ want. not (is_of page want)) held) (held_page held page right allowed), others_stay page held)

hits_first : (state : State) → InOrder state → HitsComeFirst state
hits_first state order who page word value outside client inside small room = (
  λ allowed.
      comes_first page may.Read (own_at state who).held _ allowed
      (ap (λ turn. (own_at turn.state who).held) (read_is_hit state order who page word outside inside small allowed room)
      ∙ ap (λ own. own.held) (own_after_hit state order who client op.Read page word (value_seen state who page word))),
  λ allowed.
      comes_first page may.Write (own_at state who).held _ allowed
      (ap (λ turn. (own_at turn.state who).held) (write_is_hit state order who page word value outside inside small allowed room)
      ∙ ap (λ own. own.held) (own_after_hit state order who client op.Write page word value)),
)

-- each of all clients is one
client_among : (who : ℕ) → Contains clients who → IsClient who
unfolding crew_of
client_among who inside =
    client_from_member (crew_of (λ member. true)) who (IsCrew_crew_of (λ member. true))
    (any_of (λ member. member == who) (crew_of (λ member. true)) who (contains_filtered (λ member. true) clients who inside refl) (eq-eqb who who refl))

-- a page that nobody else asks for
unasked : (test : Right → Bool) (shared : Shared) (who page : ℕ)
    → ((other : ℕ) → IsClient other → other ≢ who → list_any (λ ask. is_of page ask && test ask.right) (asks_at shared other) ≡ false)
    → is_asked_for test shared who page ≡ false
unasked test shared who page none =
    any_none (asks_for test shared who page) clients
    (λ other inside found.
    let parts = and_parts (not (other == who)) (list_any (λ ask. is_of page ask && test ask.right) (asks_at shared other)) found in
    true≢false (sym parts.1 ∙ none other (client_among other inside) (λ same. true≢false (sym parts.0 ∙ ap not (eq-eqb other who same)))))

no_ask : (test : Right → Bool) (right : Right) → ((one : Right) → test one ≡ true → covers one right ≡ true) → (asks : List Want) (page : ℕ)
    → allows asks page right ≡ false → list_any (λ ask. is_of page ask && test ask.right) asks ≡ false
no_ask test right covered asks page none =
    false_from_ne_true (list_any (λ ask. is_of page ask && test ask.right) asks)
    (λ found.
    true≢false
    (sym (list_any_implies (λ ask. is_of page ask && test ask.right) (passes page right)
    (λ ask both.
    let parts = and_parts (is_of page ask) (test ask.right) both in
    and_from (is_of page ask) (covers ask.right right) parts.0 (covered ask.right parts.1)) asks found) ∙ none))

-- what an opening leaves of one page
module _ (shared : Shared) (own : Own) where
  abbrev second : Both
  second = begun shared own

  abbrev third : Both
  third = given_up (begun shared own)

  asks_begun : (other : ℕ) → other ≢ own.who → client_at (begun shared own).shared other ≡ client_at shared other
  asks_begun other apart =
      let first = recorded (kept_dropped own.who shared) own in
      others_agreed first.shared (begun shared own).own other apart
      ∙ others_agreed (record (kept_dropped own.who shared) { trail = first.shared.trail }) first.own other apart
      ∙ client_unchanged own.who (λ client. record client { kept = None }) shared other apart

  -- nobody asks for a page with a right that a test is of
  nobody_asks : (test : Right → Bool) (right : Right) → ((one : Right) → test one ≡ true → covers one right ≡ true) → (page : ℕ)
      → ((other : ℕ) → IsClient other → other ≢ own.who → allows (asks_at shared other) page right ≡ false)
      → is_asked_for test (begun shared own).shared own.who page ≡ false
  nobody_asks test right covered page none =
      unasked test (begun shared own).shared own.who page
      (λ other client apart.
      no_ask test right covered (asks_at (begun shared own).shared other) page
      (ap (λ place. allows (of_client [] (λ client. client.asks) place) page right) (asks_begun other apart) ∙ none other client apart))

  page_kept : (want left : Want) → kept_of (begun shared own).shared own.who want ≡ Some left → left.page ≡ want.page
  page_kept want left kept =
      ⊎_elim (λ same. ap (λ one. one.page) same) (λ low. ap (λ one. one.page) low)
      (kept_or_lowered (is_given_up_wholly (begun shared own).shared own.who want) (is_given_up_to_reading (begun shared own).shared own.who want) want left kept)

  pub keeps_order : (stays : Want → Bool) × (pages_of (opened shared own).own.held ≡ pages_of (filter stays own.held))
  keeps_order = (
    λ want. is_some (kept_of (begun shared own).shared own.who want),
    handed (gathering_of third.shared third.own.who) ∙ kept_in_order (kept_of (begun shared own).shared own.who) page_kept own.held,
  )
    where
      handed : (one : Option Stabilisation) → pages_of (handed_in_to third one).own.held ≡ pages_of third.own.held
      handed None = refl
      handed (Some one) = pages_lowered third.own.held

  -- how a page is kept that nobody asks to write, and one that nobody asks for
  read_kept : (page : ℕ) → is_asked_for is_to_write (begun shared own).shared own.who page ≡ false → (want : Want) → passes page may.Read want ≡ true
      → (left : Want) × (kept_of (begun shared own).shared own.who want ≡ Some left) × (passes page may.Read left ≡ true)
  read_kept page none want passed = (
    cond (is_given_up_to_reading (begun shared own).shared own.who want) (lowered want) want,
    ap (λ wholly. cond wholly None (Some (cond (is_given_up_to_reading (begun shared own).shared own.who want) (lowered want) want)))
        (ap (is_asked_for is_to_write (begun shared own).shared own.who) here ∙ none),
    by_reading (is_given_up_to_reading (begun shared own).shared own.who want),
  )
    where
      here : want.page ≡ page
      here = eqb-true want.page page (and_parts (is_of page want) (covers want.right may.Read) passed).0

      by_reading : (reading : Bool) → passes page may.Read (cond reading (lowered want) want) ≡ true
      by_reading true = and_from (is_of page want) true (and_parts (is_of page want) (covers want.right may.Read) passed).0 refl
      by_reading false = passed

  all_kept : (page : ℕ) (right : Right) → is_asked_for is_to_write (begun shared own).shared own.who page ≡ false
      → is_asked_for any_right (begun shared own).shared own.who page ≡ false → (want : Want) → passes page right want ≡ true
      → (left : Want) × (kept_of (begun shared own).shared own.who want ≡ Some left) × (passes page right left ≡ true)
  all_kept page right unwritten none want passed = (
    want,
    ap (λ wholly. cond wholly None (Some (cond (is_given_up_to_reading (begun shared own).shared own.who want) (lowered want) want)))
        (ap (is_asked_for is_to_write (begun shared own).shared own.who) here ∙ unwritten)
        ∙ ap (λ asked. Some (cond (is_to_write want.right && asked) (lowered want) want)) (ap (is_asked_for any_right (begun shared own).shared own.who) here ∙ none)
        ∙ never (is_to_write want.right),
    passed,
  )
    where
      here : want.page ≡ page
      here = eqb-true want.page page (and_parts (is_of page want) (covers want.right right) passed).0

      never : (writes : Bool) → Some (cond (writes && false) (lowered want) want) ≡ Some want
      never true = refl
      never false = refl

  pub keeps_to_read : (page : ℕ) → ((other : ℕ) → IsClient other → other ≢ own.who → allows (asks_at shared other) page may.Write ≡ false)
      → allows own.held page may.Read ≡ true → allows (opened shared own).own.held page may.Read ≡ true
  keeps_to_read page none allowed =
      handed (gathering_of third.shared third.own.who)
      (keeps_passing (kept_of (begun shared own).shared own.who) (passes page may.Read) (passes page may.Read)
      (read_kept page (nobody_asks is_to_write may.Write (λ one writes. or_left (is_to_write one) false writes) page none)) own.held allowed)
    where
      handed : (one : Option Stabilisation) → allows third.own.held page may.Read ≡ true → allows (handed_in_to third one).own.held page may.Read ≡ true
      handed None found = found
      handed (Some one) found =
          any_in_map (passes page may.Read) lowered third.own.held
          ∙ list_any_implies (passes page may.Read) (λ want. passes page may.Read (lowered want))
          (λ want both. and_from (is_of page want) true (and_parts (is_of page want) (covers want.right may.Read) both).0 refl) third.own.held found

  pub keeps_unasked : ((one : Stabilisation) → Contains shared.stabilisations one → is_gathering one.phase ≡ true
      → has_member own.who (association_of (opened shared own).shared.trail one.lead) ≡ false) → (page : ℕ) (right : Right)
      → ((other : ℕ) → IsClient other → other ≢ own.who → allows (asks_at shared other) page may.Read ≡ false)
      → allows own.held page right ≡ true → allows (opened shared own).own.held page right ≡ true
  keeps_unasked silent page right none allowed =
      subst (λ one. allows (handed_in_to third one).own.held page right ≡ true) (sym nothing)
      (keeps_passing (kept_of (begun shared own).shared own.who) (passes page right) (passes page right)
      (all_kept page right (nobody_asks is_to_write may.Read (λ one writes. covers_read one) page none)
      (nobody_asks any_right may.Read (λ one any. covers_read one) page none)) own.held allowed)
    where
      trail_handed : (one : Option Stabilisation) → (handed_in_to third one).shared.trail ≡ third.shared.trail
      trail_handed None = refl
      trail_handed (Some one) = refl

      nothing : gathering_of third.shared third.own.who ≡ None
      nothing =
          find_nothing (λ one. is_gathering one.phase && is_member third.shared third.own.who one) third.shared.stabilisations
          (λ one inside found.
          let parts = and_parts (is_gathering one.phase) (is_member third.shared third.own.who one) found in
          true≢false
          (sym parts.1
          ∙ sym (ap (λ trail. has_member own.who (association_of trail one.lead)) (trail_handed (gathering_of third.shared third.own.who)))
          ∙ silent one inside parts.0))

-- the same for a state
module _ (state : State) (order : InOrder state) (who : ℕ) (client : IsClient who) where
  same : (own_at state who).who ≡ who
  same = order.shaped.numbers who

  pub order_kept : KeepsTheOrder state who
  order_kept = keeps_order state.shared (own_at state who)

  pub nothing_gained : GainsNothing state who
  nothing_gained page right found = opened_allows_no_more state.shared (own_at state who) page right found

  pub unasked_kept : KeepsTheUnasked state who
  unasked_kept silent page right none allowed =
      keeps_unasked state.shared (own_at state who)
      (λ one inside gathers. ap (λ number. has_member number (association_of (opened state.shared (own_at state who)).shared.trail one.lead)) same ∙ silent one inside gathers)
      page right (λ other is apart. none other is (λ equal. apart (equal ∙ sym same))) allowed

  pub reading_kept : KeepsToRead state who
  reading_kept page none allowed =
      keeps_to_read state.shared (own_at state who) page (λ other is apart. none other is (λ equal. apart (equal ∙ sym same))) allowed

  up : IsStanding state who → fallen_at state.shared (own_at state who).who ≡ None
  up stands = ap (fallen_at state.shared) same ∙ ap (of_client None (λ one. one.fallen)) stands.1 ∙ stands.2

  pub serve_opens : IsStanding state who → ServesByOpening state who
  serve_opens stands outside =
      ap (λ live. (own_at (guarded live answer.Absent state (serve_turn who)).state who).held) (ap is_some stands.1)
      ∙ ap (λ one. one.held) (turned_own (serve state.shared (own_at state who)).shared (serve state.shared (own_at state who)).own
      (serve_empties state.shared (own_at state who) (fallen_at state.shared (own_at state who).who)).who)
      ∙ ap (λ fallen. (served_by state.shared (own_at state who) fallen).own.held) (up stands)
    where
      turned_own : (shared : Shared) (own : Own) → own.who ≡ (own_at state who).who
          → get_or (slice_set state.owns own.who own) who (blank who 0) ≡ own
      turned_own shared own named =
          ap (λ number. get_or (slice_set state.owns own.who own) number (blank who 0)) (sym (named ∙ same))
          ∙ get_or-set_same state.owns own.who own (blank who 0) (in_owns state who own order client named)

  -- the own part after an acquire, by its answer
  acquired_own : (wants : List Want) (calls : ℕ)
      → own_at (after_turn state (acquire state.shared (own_at state who) wants calls)) who ≡ (acquire state.shared (own_at state who) wants calls).own
  acquired_own wants calls =
      let after = (acquire state.shared (own_at state who) wants calls).own in
      let named = (acquire_empties wants calls state.shared (own_at state who) (fallen_at state.shared (own_at state who).who)).who in
      ap (λ number. get_or ((after_turn state (acquire state.shared (own_at state who) wants calls)).owns) number (blank who 0)) (sym (named ∙ same))
      ∙ get_or-set_same state.owns after.who after (blank who 0) (in_owns state who after order client named)

  refused_opens : (wants : List Want) (calls : ℕ) (fallen : Option Fallen)
      → is_refused (of_reply (acquired_by state.shared (own_at state who) wants calls fallen).reply) ≡ true
      → (acquired_by state.shared (own_at state who) wants calls fallen).own.held ≡ left_by_opening state who
  refused_opens wants calls (Some fallen) refused = absurd (true≢false (sym refused))
  refused_opens wants calls None refused = by_refusal _ refused
    where
      by_refusal : (refusal : Option Reply)
          → is_refused (of_reply (answered (opened state.shared (own_at state who)) (given_in_opening state.shared (own_at state who)) wants
          (missing_once_opened state.shared (own_at state who) wants) refusal).reply) ≡ true
          → (answered (opened state.shared (own_at state who)) (given_in_opening state.shared (own_at state who)) wants
          (missing_once_opened state.shared (own_at state who) wants) refusal).own.held ≡ left_by_opening state who
      by_refusal None is = absurd (true≢false (sym is))
      by_refusal (Some reply) is = refl

  pub refusals_open : RefusalsOnlyOpen state who
  refusals_open wants calls outside =
      unless_turn (λ turn. is_refused turn.answer ≡ true → (own_at turn.state who).held ≡ left_by_opening state who) state _ _
      (λ is. absurd (true≢false (sym is)))
      (λ is.
      ap (λ one. one.held) (acquired_own wants calls) ∙ refused_opens wants calls (fallen_at state.shared (own_at state who).who) is)

  granted_holds : (wants : List Want) (calls : ℕ) (fallen : Option Fallen)
      → of_reply (acquired_by state.shared (own_at state who) wants calls fallen).reply ≡ answer.Granted
      → (acquired_by state.shared (own_at state who) wants calls fallen).own.held
      ≡ with_granted (opened state.shared (own_at state who)).own.capacity wants (left_by_opening state who)
  granted_holds wants calls (Some fallen) granted = absurd (true≢false (sym (ap is_granted granted)))
  granted_holds wants calls None granted =
      let both = opened state.shared (own_at state who) in
      let missing = missing_once_opened state.shared (own_at state who) wants in
      by_refusal _
      (either_refuses (refused_missing both.shared both.own.who (given_in_opening state.shared (own_at state who)) missing) (refused_full both missing calls)
      (missing_refuses both.shared both.own.who (given_in_opening state.shared (own_at state who)) missing) (full_refuses both missing calls))
      granted
    where
      by_refusal : (refusal : Option Reply) → IfRefused refusal
          → of_reply (answered (opened state.shared (own_at state who)) (given_in_opening state.shared (own_at state who)) wants
          (missing_once_opened state.shared (own_at state who) wants) refusal).reply ≡ answer.Granted
          → (answered (opened state.shared (own_at state who)) (given_in_opening state.shared (own_at state who)) wants
          (missing_once_opened state.shared (own_at state who) wants) refusal).own.held
          ≡ with_granted (opened state.shared (own_at state who)).own.capacity wants (left_by_opening state who)
      by_refusal None refuses is = refl
      by_refusal (Some reply) refuses is = absurd (true≢false (sym (ap grants_pages is) ∙ refuses.pages))

  capacity_opened : (opened state.shared (own_at state who)).own.capacity ≡ (own_at state who).capacity
  capacity_opened = handed (gathering_of (third state.shared (own_at state who)).shared (third state.shared (own_at state who)).own.who)
    where
      handed : (one : Option Stabilisation) → (handed_in_to (third state.shared (own_at state who)) one).own.capacity ≡ (own_at state who).capacity
      handed None = refl
      handed (Some one) = refl

  pub grant_holds : (wants : List Want) (calls : ℕ) (outside : Outside) → (acquire_step state who wants calls outside).answer ≡ answer.Granted
      → (own_at (acquire_step state who wants calls outside).state who).held ≡ with_granted (own_at state who).capacity wants (left_by_opening state who)
  grant_holds wants calls outside =
      unless_turn (λ turn. turn.answer ≡ answer.Granted → (own_at turn.state who).held ≡ with_granted (own_at state who).capacity wants (left_by_opening state who)) state _ _
      (λ is. absurd (true≢false (sym (ap is_granted is))))
      (λ is.
      ap (λ one. one.held) (acquired_own wants calls) ∙ granted_holds wants calls (fallen_at state.shared (own_at state who).who) is
      ∙ ap (λ capacity. with_granted capacity wants (left_by_opening state who)) capacity_opened)

-- what a grant makes of a list of held pages
pages_first : (capacity : ℕ) (wants held : List Want) → take (length wants) (pages_of (with_granted capacity wants held)) ≡ reverse (pages_of wants)
pages_first capacity wants held =
    let front = reverse (map (granted_right held) wants) in
    let back = take (capacity - length wants) (others wants held) in
    let pages : pages_of front ≡ reverse (pages_of wants) =
    map_reversed (λ (want : Want). want.page) (map (granted_right held) wants) ∙ ap reverse (pages_granted held wants) in
    let long : length (reverse (pages_of wants)) ≡ length wants = length-reverse (pages_of wants) ∙ length-map wants (λ (want : Want). want.page) in
    ap (take (length wants)) (map-append (λ (want : Want). want.page) front back ∙ ap (λ list. list ++ pages_of back) pages)
    ∙ ap (λ count. take count (reverse (pages_of wants) ++ pages_of back)) (sym long)
    ∙ take-append_seam (reverse (pages_of wants)) (pages_of back)

oldest_up : (capacity : ℕ) (wants held : List Want) → others wants (with_granted capacity wants held) ≡ take (capacity - length wants) (others wants held)
oldest_up capacity wants held =
    let other : Want → Bool = λ want. not (holds wants want.page) in
    let front = reverse (map (granted_right held) wants) in
    let back = take (capacity - length wants) (others wants held) in
    filter-append other front back ∙ ap (λ list. list ++ filter other back) (wanted_in_front held wants) ∙ filter_taken other (capacity - length wants) held

pub every_hit_first : EachHitComesFirst
every_hit_first vault pages limit capacity happenings named =
    hits_first (state_after (start vault pages limit capacity) happenings) (every_run_rights vault pages limit capacity happenings named)

pub every_order : EachOpeningKeepsTheOrder
every_order vault pages limit capacity happenings named who client stands =
    order_kept (state_after (start vault pages limit capacity) happenings) (every_run_rights vault pages limit capacity happenings named) who client

pub every_gain : EachOpeningGainsNothing
every_gain vault pages limit capacity happenings named who client stands =
    nothing_gained (state_after (start vault pages limit capacity) happenings) (every_run_rights vault pages limit capacity happenings named) who client

pub every_unasked : EachOpeningKeepsTheUnasked
every_unasked vault pages limit capacity happenings named who client stands =
    unasked_kept (state_after (start vault pages limit capacity) happenings) (every_run_rights vault pages limit capacity happenings named) who client

pub every_to_read : EachOpeningKeepsToRead
every_to_read vault pages limit capacity happenings named who client stands =
    reading_kept (state_after (start vault pages limit capacity) happenings) (every_run_rights vault pages limit capacity happenings named) who client

pub every_serve : EachServeOnlyOpens
every_serve vault pages limit capacity happenings named who client stands =
    serve_opens (state_after (start vault pages limit capacity) happenings) (every_run_rights vault pages limit capacity happenings named) who client stands

pub every_refusal : EachRefusedAcquireOnlyOpens
every_refusal vault pages limit capacity happenings named who client stands =
    refusals_open (state_after (start vault pages limit capacity) happenings) (every_run_rights vault pages limit capacity happenings named) who client

pub every_front : EachGrantPutsItsPagesFirst
every_front vault pages limit capacity happenings named who wants calls outside client granted =
    let state = state_after (start vault pages limit capacity) happenings in
    ap (λ held. take (length wants) (pages_of held))
    (grant_holds state (every_run_rights vault pages limit capacity happenings named) who client wants calls outside granted)
    ∙ pages_first (own_at state who).capacity wants (left_by_opening state who)

pub every_oldest : EachGrantGivesUpTheOldest
every_oldest vault pages limit capacity happenings named who wants calls outside client granted =
    let state = state_after (start vault pages limit capacity) happenings in
    ap (others wants) (grant_holds state (every_run_rights vault pages limit capacity happenings named) who client wants calls outside granted)
    ∙ oldest_up (own_at state who).capacity wants (left_by_opening state who)
