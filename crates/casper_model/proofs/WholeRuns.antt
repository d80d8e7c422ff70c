use Rattle.std.proofs.Common.{◌≡◌, ◌≢◌, ◌<◌, ℕ, zero, suc, ◌+◌, List, [], true, Contains, refl, sym, ap, ◌∙◌, subst, arith}
use Rattle.std.specs.Prelude.{Option, None, Some, filter_map}
use Rattle.std.specs.List.{range_with_len, cons_option}
use Rattle.std.proofs.lemmas.Bool.{false_from_ne_true}
use Rattle.casper_words.specs.declared.page.Right.TheVariants as may
use Rattle.casper_trail.specs.declared.entry.Entry.{Entry}
use Rattle.casper_trail.specs.Value.{writes_page}
use Rattle.casper_trail.specs.Parts.{live_entries}
use Rattle.casper_trail.specs.Calls.{Pending, entries_by, whole_history}
use Rattle.casper_trail.specs.Legal.{IsLegal, AreRightAfter}
use Rattle.casper_trail.specs.WholeLaws.{WriteNoPageOf, WritesNoPageOfEach, ArePendingApart, ArePendingRight}
use Rattle.casper_trail.proofs.Whole.{whole_is_legal}
use Rattle.casper_trail.proofs.LiveLegal.{live_is_legal}
use Rattle.casper_trail.proofs.Causes.{stable_is_closed}
use Rattle.casper_model.specs.Held.{allows}
use Rattle.casper_model.specs.Client.{Client, Fallen}
use Rattle.casper_model.specs.Shared.{client_at}
use Rattle.casper_model.specs.State.{State, own_at, start}
use Rattle.casper_model.specs.Run.{state_after}
use Rattle.casper_model.specs.LegalHistory.{right_for, IsGoodNow, HasHistory}
use Rattle.casper_model.specs.WholeHistory.{pending_unless_fallen, pending_at, pending_of, EveryRunIsLegalAsAWhole, EveryRunHasALegalLivePart, EveryRunHasAClosedStablePart}
use Rattle.casper_model.proofs.HeldRights.{covers_read, allows_covered}
use Rattle.casper_model.proofs.Entries.{contains_entry, writes_added, contains_left}
use Rattle.casper_model.proofs.StateHistory.{rights_as_held, good_now}
use Rattle.casper_model.proofs.RunHistory.{start_history, run_history, base_after}

-- a client whose pending calls are among the whole history
record IsPending (state : State) (pending : Pending) (who : ℕ) : Type 0 where
  client : Client
  live : client_at state.shared who ≡ Some client
  up : client.fallen ≡ None
  is_who : pending.who ≡ who
  calls : pending.calls ≡ (own_at state who).pending

module _ (state : State) (has : HasHistory state) where
  good : (pending : Pending) (who : ℕ) → IsPending state pending who → IsGoodNow state.base state.shared.trail (own_at state who)
  good pending who is = good_now state.base state.shared.trail (client_at state.shared who) (own_at state who) is.client (has.history.good who) is.live is.up

  entries_are : (pending : Pending) (who : ℕ) → IsPending state pending who → entries_by pending.who pending.calls ≡ entries_by (own_at state who).who (own_at state who).pending
  entries_are pending who is =
      ap (λ number. entries_by number pending.calls) (is.is_who ∙ sym (has.order.shaped.numbers who)) ∙ ap (entries_by (own_at state who).who) is.calls

  -- two clients: the one writes no page on which the other has a call
  apart : (one other : Pending) (first second : ℕ) → IsPending state one first → IsPending state other second → first ≢ second
      → WriteNoPageOf (entries_by one.who one.calls) (entries_by other.who other.calls)
  apart one other first second is also away write entry inside there =
      false_from_ne_true (writes_page entry.page write)
      (λ writes.
      let mine = good one first is in
      let theirs = good other second also in
      let own = own_at state first in
      let may_write : allows own.held entry.page may.Write ≡ true =
      (writes_added own.who own.held own.pending [] mine.held write entry.page
      (contains_left (entries_by own.who own.pending) [] write (subst (λ entries. Contains entries write) (entries_are one first is) inside)) writes).1 in
      let found = contains_entry (own_at state second).who (own_at state second).pending entry
      (subst (λ entries. Contains entries entry) (entries_are other second also) there) in
      let reads : allows (own_at state second).held found.0.page may.Read ≡ true =
      allows_covered (own_at state second).held found.0.page (right_for found.0.op) may.Read (covers_read (right_for found.0.op)) (theirs.held found.0 found.1) in
      let may_read : allows (own_at state second).held entry.page may.Read ≡ true =
      subst (λ page. allows (own_at state second).held page may.Read ≡ true) (ap (λ (e : Entry). e.page) found.2) reads in
      away (has.order.rights.exclusive first second entry.page
      (rights_as_held state first is.client has.order is.live is.up entry.page may.Write ∙ may_write)
      (rights_as_held state second also.client has.order also.live also.up entry.page may.Read ∙ may_read)))

  pending_from : ℕ → ℕ → List Pending
  pending_from first count = filter_map (λ who. pending_at who (own_at state who) (client_at state.shared who)) (range_with_len first count)

  right_with : (who : ℕ) (place : Option Client) → client_at state.shared who ≡ place → (rest : List Pending) → ArePendingRight state.base (live_entries state.shared.trail) rest
      → ArePendingRight state.base (live_entries state.shared.trail) (cons_option (pending_at who (own_at state who) place) rest)
  right_with who None e rest right = right
  right_with who (Some client) e rest right = by_fallen client.fallen refl
    where
      by_fallen : (fallen : Option Fallen) → client.fallen ≡ fallen
          → ArePendingRight state.base (live_entries state.shared.trail) (cons_option (pending_unless_fallen who (own_at state who) fallen) rest)
      by_fallen None up =
          let pending : Pending = record { who = who; calls = (own_at state who).pending } in
          let is : IsPending state pending who = record { client = client; live = e; up = up; is_who = refl; calls = refl } in
          (subst (AreRightAfter state.base (live_entries state.shared.trail)) (sym (entries_are pending who is)) (good pending who is).right, right)
      by_fallen (Some fallen) fell = right

  all_right : (first count : ℕ) → ArePendingRight state.base (live_entries state.shared.trail) (pending_from first count)
  unfolding pending_from
  all_right first zero = tt
  all_right first (suc count) = right_with first (client_at state.shared first) refl (pending_from (first + 1) count) (all_right (first + 1) count)

  none_with : (one : Pending) (mine : ℕ) → IsPending state one mine → (who : ℕ) → mine ≢ who → (place : Option Client) → client_at state.shared who ≡ place
      → (rest : List Pending) → WritesNoPageOfEach one rest → WritesNoPageOfEach one (cons_option (pending_at who (own_at state who) place) rest)
  none_with one mine is who away None e rest none = none
  none_with one mine is who away (Some client) e rest none = by_fallen client.fallen refl
    where
      by_fallen : (fallen : Option Fallen) → client.fallen ≡ fallen → WritesNoPageOfEach one (cons_option (pending_unless_fallen who (own_at state who) fallen) rest)
      by_fallen None up =
          let other : Pending = record { who = who; calls = (own_at state who).pending } in
          (apart one other mine who is (record { client = client; live = e; up = up; is_who = refl; calls = refl }) away, none)
      by_fallen (Some fallen) fell = none

  none_of_later : (one : Pending) (mine : ℕ) → IsPending state one mine → (first count : ℕ) → mine < first → WritesNoPageOfEach one (pending_from first count)
  unfolding pending_from
  none_of_later one mine is first zero below = tt
  none_of_later one mine is first (suc count) below =
      none_with one mine is first (λ same. omega (arith, below, same)) (client_at state.shared first) refl (pending_from (first + 1) count)
      (none_of_later one mine is (first + 1) count (omega (arith, below)))

  apart_with : (who : ℕ) (place : Option Client) → client_at state.shared who ≡ place → (rest : List Pending) → ArePendingApart rest
      → ((one : Pending) → IsPending state one who → WritesNoPageOfEach one rest) → ArePendingApart (cons_option (pending_at who (own_at state who) place) rest)
  apart_with who None e rest those none = those
  apart_with who (Some client) e rest those none = by_fallen client.fallen refl
    where
      by_fallen : (fallen : Option Fallen) → client.fallen ≡ fallen → ArePendingApart (cons_option (pending_unless_fallen who (own_at state who) fallen) rest)
      by_fallen None up =
          let one : Pending = record { who = who; calls = (own_at state who).pending } in
          (none one (record { client = client; live = e; up = up; is_who = refl; calls = refl }), those)
      by_fallen (Some fallen) fell = those

  all_apart : (first count : ℕ) → ArePendingApart (pending_from first count)
  unfolding pending_from
  all_apart first zero = tt
  all_apart first (suc count) =
      apart_with first (client_at state.shared first) refl (pending_from (first + 1) count) (all_apart (first + 1) count)
      (λ one is. none_of_later one first is (first + 1) count (omega arith))

  pub whole_legal : IsLegal state.base (whole_history state.shared.trail (pending_of state))
  unfolding pending_from
  whole_legal = whole_is_legal state.base state.shared.trail (pending_of state) has.history.legal (all_right 1 32) (all_apart 1 32)

pub every_run_whole : EveryRunIsLegalAsAWhole
every_run_whole vault pages limit capacity happenings named =
    let begun = start vault pages limit capacity in
    subst (λ array. IsLegal array (whole_history (state_after begun happenings).shared.trail (pending_of (state_after begun happenings)))) (base_after begun happenings)
    (whole_legal (state_after begun happenings) (run_history begun happenings named (start_history vault pages limit capacity)))

pub every_run_live : EveryRunHasALegalLivePart
every_run_live vault pages limit capacity happenings named =
    let begun = start vault pages limit capacity in
    let has = run_history begun happenings named (start_history vault pages limit capacity) in
    live_is_legal vault.image (state_after begun happenings).shared.trail has.exact.clients has.exact.marks
    (subst (λ array. IsLegal array (state_after begun happenings).shared.trail) (base_after begun happenings) has.history.legal)

pub every_run_stable : EveryRunHasAClosedStablePart
every_run_stable vault pages limit capacity happenings named =
    let begun = start vault pages limit capacity in
    let has = run_history begun happenings named (start_history vault pages limit capacity) in
    stable_is_closed (state_after begun happenings).shared.trail has.exact.clients has.exact.marks
