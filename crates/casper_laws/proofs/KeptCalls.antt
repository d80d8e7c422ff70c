use Rattle.std.proofs.Common.{◌≡◌, ◌≢◌, ◌⊎◌, ◌<◌, ℕ, List, [], ◌∷◌, ◌++◌, true, false, true≢false, ◌==◌, min, length, refl, sym, ap, subst, inl, inr}
use Rattle.std.specs.Prelude.{Option, None, Some, is_some}
use Rattle.std.specs.List.{list_all}
use Rattle.std.proofs.lemmas.Bool.{cond_both, cases_eq, and_from, and_parts}
use Rattle.casper_words.specs.Crew.{IsClient}
use Rattle.casper_words.specs.declared.call.Call.{Call}
use Rattle.casper_trail.specs.Calls.{is_read_or_write}
use Rattle.casper_model.specs.declared.reply.JoinRefusal.{JoinRefusal}
use Rattle.casper_model.specs.Acquire.{acquire}
use Rattle.casper_model.specs.Own.{Own, blank}
use Rattle.casper_model.specs.Both.{Turned}
use Rattle.casper_model.specs.Room.{most_cap, free_room}
use Rattle.casper_model.specs.Client.{Client, new_client}
use Rattle.casper_model.specs.Hits.{with_call}
use Rattle.casper_model.specs.Shared.{Shared, client_at, fallen_at, place_client}
use Rattle.casper_model.specs.Join.{joined_by}
use Rattle.casper_model.specs.Stabilise.{stabilise}
use Rattle.casper_model.specs.Leave.{serve, depart, vanish}
use Rattle.casper_model.specs.State.{State, own_at, with_own, with_shared, after_turn, start}
use Rattle.casper_model.specs.Run.{state_after}
use Rattle.casper_model.specs.Rights.{Agrees, InOrder}
use Rattle.casper_model.proofs.StateHistory.{in_owns, set_own, other_own}
use Rattle.casper_model.proofs.StepRights.{step_rights}
use Rattle.casper_model.proofs.RunRights.{start_in_order, every_run_rights, blank_at}
use Rattle.casper_laws.specs.OwnLists.{ArePendingCalls, EachStepKeepsPendingCalls, EveryRunHasPendingCalls, EveryAbsentClientHasNothingPending}
use Rattle.casper_turns.proofs.KeptByTurns.{KeptByTurns, step_keeps, run_keeps}
use Rattle.casper_laws.proofs.PendingSteps.{Empties, acquire_empties, serve_empties, stabilise_empties, depart_empties}

-- reads and writes alone
abbrev AreCalls : List Call → Type 0
AreCalls calls = list_all (λ call. is_read_or_write call.op) calls ≡ true

none_are_calls : (calls : List Call) → calls ≡ [] → AreCalls calls
none_are_calls calls none = ap (list_all (λ call. is_read_or_write call.op)) none

one_more_call : (calls : List Call) (call : Call) → AreCalls calls → is_read_or_write call.op ≡ true → AreCalls (calls ++ call ∷ [])
one_more_call [] call are is = and_from (is_read_or_write call.op) true is refl
one_more_call (first ∷ calls) call are is =
    let parts = and_parts (is_read_or_write first.op) (list_all (λ one. is_read_or_write one.op) calls) are in
    and_from (is_read_or_write first.op) (list_all (λ one. is_read_or_write one.op) (calls ++ call ∷ [])) parts.0 (one_more_call calls call parts.1 is)

-- after a step of a client whose pending calls are reads and writes then
calls_after : (state : State) (who : ℕ) (after : Shared) (own : Own) → InOrder state → IsClient who → own.who ≡ (own_at state who).who → AreCalls own.pending
    → ArePendingCalls state → ArePendingCalls (with_own (with_shared state after) own)
calls_after state who after own order is same mine calls number = at (cases_eq number own.who)
  where
    below : own.who < length state.owns
    below = in_owns state who own order is same

    at : (number ≡ own.who) ⊎ (number ≢ own.who) → AreCalls (own_at (with_own (with_shared state after) own) number).pending
    at (inl here) = subst (λ (one : Own). AreCalls one.pending) (sym (set_own state own after below number here)) mine
    at (inr apart) = subst (λ (one : Own). AreCalls one.pending) (sym (other_own state own after below number apart)) (calls number)

emptied_calls : {R : Type 0} (state : State) (who : ℕ) (turn : Turned R) → InOrder state → IsClient who → Empties (own_at state who) turn.own → ArePendingCalls state
    → ArePendingCalls (after_turn state turn)
emptied_calls state who turn order is empties = calls_after state who turn.shared turn.own order is empties.who (none_are_calls turn.own.pending empties.pending)

joined_calls : (state : State) (who : ℕ) → InOrder state → IsClient who → ArePendingCalls state → (place : Option Client)
    → ArePendingCalls (after_turn state (joined_by state.shared (own_at state who) place))
joined_calls state who order is calls (Some client) = calls_after state who state.shared (own_at state who) order is refl (calls who) calls
joined_calls state who order is calls None =
    cond_both (free_room state.shared == 0) _ _ (λ (turn : Turned (Option JoinRefusal)). ArePendingCalls (after_turn state turn))
    (λ full. calls_after state who state.shared (own_at state who) order is refl (calls who) calls)
    (λ free.
    calls_after state who (place_client own.who (Some (new_client (min most_cap (free_room state.shared)))) state.shared)
    (record (blank own.who own.capacity) { cap = min most_cap (free_room state.shared) }) order is refl refl calls)
  where
    own : Own
    own = own_at state who

calls_by_turns : KeptByTurns InOrder InOrder ArePendingCalls
calls_by_turns = record {
  hit = λ state who act page word value is kind order calls can.
      let own = own_at state who in
      calls_after state who state.shared (with_call own act page word value) order is refl
      (one_more_call own.pending (record { op = act; page = page; word = word; value = value }) (calls who) kind) calls;
  joining = λ state who is order calls. joined_calls state who order is calls (client_at state.shared (own_at state who).who);
  acquiring = λ state who wants count any is live order calls.
      emptied_calls state who (acquire state.shared (own_at state who) wants count) order is
      (acquire_empties wants count state.shared (own_at state who) (fallen_at state.shared (own_at state who).who)) calls;
  serving = λ state who is live order calls.
      emptied_calls state who (serve state.shared (own_at state who)) order is
      (serve_empties state.shared (own_at state who) (fallen_at state.shared (own_at state who).who)) calls;
  stabilising = λ state who is live order calls.
      emptied_calls state who (stabilise state.shared (own_at state who)) order is
      (stabilise_empties state.shared (own_at state who) (fallen_at state.shared (own_at state who).who)) calls;
  departing = λ state who is live order calls.
      emptied_calls state who (depart state.shared (own_at state who)) order is
      (depart_empties state.shared (own_at state who) (fallen_at state.shared (own_at state who).who)) calls;
  vanishing = λ state who is live order calls.
      emptied_calls state who (vanish state.shared (own_at state who)) order is (record { who = refl; pending = refl }) calls;
  losing = λ state who is live order calls. calls;
  writing = λ state outside lead one order calls job free. calls;
  finishing = λ state lead unfinished order calls e same. calls;
  settling = λ state one order calls e. calls;
}

pub step_calls : EachStepKeepsPendingCalls
step_calls = step_keeps InOrder InOrder ArePendingCalls step_rights (λ one order. order) calls_by_turns

pub every_run_calls : EveryRunHasPendingCalls
every_run_calls vault pages limit capacity happenings named =
    let first = start vault pages limit capacity in
    run_keeps InOrder ArePendingCalls step_rights step_calls first happenings named (start_in_order vault pages limit capacity)
    (λ who. none_are_calls (own_at first who).pending (blank_at vault pages limit capacity who).pending)

pub every_absent_empty : EveryAbsentClientHasNothingPending
every_absent_empty vault pages limit capacity happenings named who away =
    let state = state_after (start vault pages limit capacity) happenings in
    by_place (own_at state who) (client_at state.shared who) away ((every_run_rights vault pages limit capacity happenings named).rights.agree who)
  where
    by_place : (own : Own) (place : Option Client) → is_some place ≡ false → Agrees place own → own.pending ≡ []
    by_place own None away agrees = agrees.1
    by_place own (Some client) away agrees = absurd (true≢false away)
