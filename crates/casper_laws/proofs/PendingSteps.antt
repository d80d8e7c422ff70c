use Rattle.std.proofs.Common.{◌≡◌, ◌≢◌, ◌⊎◌, ◌<◌, ◌≤◌, ◌+◌, ◌-◌, ℕ, List, [], ◌∷◌, ◌++◌, true, ◌==◌, min, length, get_or, get_or-set_same, get_or-set_other, refl, sym, ap, ◌∙◌, subst, inl, inr, ⊎_elim, arith}
use Rattle.std.specs.Prelude.{Option, None, Some, nat_lt}
use Rattle.std.proofs.lemmas.Bool.{cond_both, cases_eq, cases_lt, and_parts, ltb-true}
use Rattle.std.proofs.lemmas.List.{length_push, get_or-replicate}
use Rattle.casper_words.specs.Crew.{IsClient}
use Rattle.casper_words.specs.declared.call.Call.{Call}
use Rattle.casper_words.specs.declared.page.Want.{Want}
use Rattle.casper_model.specs.declared.reply.JoinRefusal.{JoinRefusal}
use Rattle.casper_model.specs.Client.{Client, Fallen}
use Rattle.casper_model.specs.Held.{allows}
use Rattle.casper_model.specs.Hits.{with_call}
use Rattle.casper_model.specs.Own.{Own, blank, room_of}
use Rattle.casper_model.specs.Both.{Turned}
use Rattle.casper_model.specs.Room.{free_room}
use Rattle.casper_model.specs.Shared.{Shared, client_at, fallen_at, new_shared}
use Rattle.casper_model.specs.Join.{join, joined_by}
use Rattle.casper_model.specs.Acquire.{acquire, acquired_by}
use Rattle.casper_model.specs.Stabilise.{stabilise, stabilised_by}
use Rattle.casper_model.specs.Leave.{serve, served_by, depart, departed_by, vanish}
use Rattle.casper_model.specs.Vault.{VaultState}
use Rattle.casper_model.specs.State.{State, own_at, with_own, with_shared, after_turn, start}
use Rattle.casper_model.specs.Run.{state_after}
use Rattle.casper_model.specs.LegalHistory.{right_for}
use Rattle.casper_model.specs.Rights.{Agrees, AgreesUnlessFallen, InOrder}
use Rattle.casper_model.proofs.Places.{client_beyond}
use Rattle.casper_model.proofs.TurnHistory.{acquire_records, serve_records, stabilise_records, depart_records}
use Rattle.casper_model.proofs.StateHistory.{good_now, in_owns}
use Rattle.casper_model.proofs.StepRights.{step_rights}
use Rattle.casper_model.proofs.RunRights.{start_in_order, every_run_rights}
use Rattle.casper_model.proofs.RunHistory.{start_history, run_history}
use Rattle.casper_laws.specs.PendingLaws.{ArePendingListsShort, HasTheCap, EachStepKeepsPendingListsShort, EveryRunKeepsPendingListsShort, EveryRunKeepsCapsInAgreement, EveryRunHasRightsForPendingCalls}
use Rattle.casper_turns.proofs.KeptByTurns.{KeptByTurns, step_keeps, run_keeps}

-- at most 4,096 calls are pending
abbrev IsShort : Own → Type 0
IsShort own = length own.pending ≤ 4096

-- after a turn of a client whose pending list is short then
short_after : (state : State) (who : ℕ) (after : Shared) (own : Own) → InOrder state → IsClient who → own.who ≡ (own_at state who).who → IsShort own
    → ArePendingListsShort state → ArePendingListsShort (with_own (with_shared state after) own)
short_after state who after own order is named short others number = by_number (cases_eq number own.who)
  where
    by_number : (number ≡ own.who) ⊎ (number ≢ own.who) → IsShort (own_at (with_own (with_shared state after) own) number)
    by_number (inl same) =
        subst IsShort
        (sym (ap (λ at. get_or ((with_own (with_shared state after) own).owns) at (blank number 0)) same
        ∙ get_or-set_same state.owns own.who own (blank number 0) (in_owns state who own order is named)))
        short
    by_number (inr apart) = subst IsShort (sym (get_or-set_other state.owns own.who number own (blank number 0) apart)) (others number)

none_short : (own : Own) → own.pending ≡ [] → IsShort own
none_short own none = let e : length own.pending ≡ 0 = ap length none in omega (arith, e)

-- a turn records what its client has pending, or drops it
pub record Empties (own own_after : Own) : Type 0 where
  pub who : own_after.who ≡ own.who
  pub pending : own_after.pending ≡ []

pub acquire_empties : (wants : List Want) (calls : ℕ) (shared : Shared) (own : Own) (fallen : Option Fallen) → Empties own (acquired_by shared own wants calls fallen).own
acquire_empties wants calls shared own (Some fallen) = record { who = refl; pending = refl }
acquire_empties wants calls shared own None = let records = acquire_records wants calls shared own in record { who = records.who; pending = records.pending }

pub serve_empties : (shared : Shared) (own : Own) (fallen : Option Fallen) → Empties own (served_by shared own fallen).own
serve_empties shared own (Some fallen) = record { who = refl; pending = refl }
serve_empties shared own None = let records = serve_records shared own in record { who = records.who; pending = records.pending }

pub stabilise_empties : (shared : Shared) (own : Own) (fallen : Option Fallen) → Empties own (stabilised_by shared own fallen).own
stabilise_empties shared own (Some fallen) = record { who = refl; pending = refl }
stabilise_empties shared own None = let records = stabilise_records shared own in record { who = records.who; pending = records.pending }

pub depart_empties : (shared : Shared) (own : Own) (fallen : Option Fallen) → Empties own (departed_by shared own fallen).own
depart_empties shared own (Some fallen) = record { who = refl; pending = refl }
depart_empties shared own None = let records = depart_records shared own in record { who = records.who; pending = records.pending }

emptied : {R : Type 0} (state : State) (who : ℕ) (turn : Turned R) → InOrder state → IsClient who → Empties (own_at state who) turn.own → ArePendingListsShort state
    → ArePendingListsShort (after_turn state turn)
emptied state who turn order is empties short =
    short_after state who turn.shared turn.own order is empties.who (none_short turn.own empties.pending) short

record JoinsShort (own own_after : Own) : Type 0 where
  pub who : own_after.who ≡ own.who
  short : IsShort own_after

joined_short : (shared : Shared) (own : Own) → IsShort own → (client : Option Client) → JoinsShort own (joined_by shared own client).own
joined_short shared own short (Some client) = record { who = refl; short = short }
joined_short shared own short None =
    cond_both (free_room shared == 0) _ _ (λ (turn : Turned (Option JoinRefusal)). JoinsShort own turn.own) (λ full. record { who = refl; short = short })
    (λ free. record { who = refl; short = omega arith })

-- a hit has room for its call
hit_short : (own : Own) (call : Call) → nat_lt 0 (room_of own) ≡ true → IsShort (record own { pending = own.pending ++ call ∷ [] })
hit_short own call room =
    let most : 0 < min 4096 own.cap - length own.pending = ltb-true 0 (room_of own) room in
    let longer : length (own.pending ++ call ∷ []) ≡ length own.pending + 1 = length_push own.pending call in
    omega (arith, most, longer)

short_by_turns : KeptByTurns InOrder InOrder ArePendingListsShort
short_by_turns = record {
  hit = λ state who act page word value is calls order short can.
      let own = own_at state who in
      short_after state who state.shared (with_call own act page word value) order is refl
      (hit_short own (record { op = act; page = page; word = word; value = value }) (and_parts (allows own.held page (right_for act)) (nat_lt 0 (room_of own)) can).1) short;
  joining = λ state who is order short.
      let own = own_at state who in
      let joins = joined_short state.shared own (short who) (client_at state.shared own.who) in
      short_after state who (join state.shared own).shared (join state.shared own).own order is joins.who joins.short short;
  acquiring = λ state who wants calls any is live order short.
      emptied state who (acquire state.shared (own_at state who) wants calls) order is (acquire_empties wants calls state.shared (own_at state who) (fallen_at state.shared (own_at state who).who)) short;
  serving = λ state who is live order short.
      emptied state who (serve state.shared (own_at state who)) order is (serve_empties state.shared (own_at state who) (fallen_at state.shared (own_at state who).who)) short;
  stabilising = λ state who is live order short.
      emptied state who (stabilise state.shared (own_at state who)) order is (stabilise_empties state.shared (own_at state who) (fallen_at state.shared (own_at state who).who)) short;
  departing = λ state who is live order short.
      emptied state who (depart state.shared (own_at state who)) order is (depart_empties state.shared (own_at state who) (fallen_at state.shared (own_at state who).who)) short;
  vanishing = λ state who is live order short.
      emptied state who (vanish state.shared (own_at state who)) order is (record { who = refl; pending = refl }) short;
  losing = λ state who is live order short. short;
  writing = λ state outside lead one order short job free. short;
  finishing = λ state lead unfinished order short e same. short;
  settling = λ state one order short e. short;
}

pub step_short : EachStepKeepsPendingListsShort
step_short = step_keeps InOrder InOrder ArePendingListsShort step_rights (λ one order. order) short_by_turns

-- as a session begins nobody is live
pub nobody_at_start : (pages limit who : ℕ) → client_at (new_shared pages limit) who ≡ None
nobody_at_start pages limit who =
    ⊎_elim (λ (below : who < 33). get_or-replicate 33 who None None below) (λ past. client_beyond (new_shared pages limit) who past) (cases_lt who 33)

start_short : (vault : VaultState) (pages limit capacity : ℕ) → ArePendingListsShort (start vault pages limit capacity)
start_short vault pages limit capacity who = none_short own nothing
  where
    own : Own
    own = own_at (start vault pages limit capacity) who

    agrees : Agrees (client_at (new_shared pages limit) who) own
    agrees = (start_in_order vault pages limit capacity).rights.agree who

    nothing : own.pending ≡ []
    nothing = (subst (λ place. Agrees place own) (nobody_at_start pages limit who) agrees).1

pub every_run_short : EveryRunKeepsPendingListsShort
every_run_short vault pages limit capacity happenings named =
    run_keeps InOrder ArePendingListsShort step_rights step_short (start vault pages limit capacity) happenings named (start_in_order vault pages limit capacity)
    (start_short vault pages limit capacity)

-- what is promised to a client is what its own part has
cap_unless_fallen : (client : Client) (own : Own) (fallen : Option Fallen) → AgreesUnlessFallen client own fallen → client.cap ≡ own.cap
cap_unless_fallen client own None had = had.0
cap_unless_fallen client own (Some fallen) had = had.0

has_cap : (place : Option Client) (own : Own) → Agrees place own → HasTheCap place own
has_cap None own agrees = tt
has_cap (Some client) own agrees = cap_unless_fallen client own client.fallen agrees

pub every_run_agrees : EveryRunKeepsCapsInAgreement
every_run_agrees vault pages limit capacity happenings named who =
    let state = state_after (start vault pages limit capacity) happenings in
    has_cap (client_at state.shared who) (own_at state who) ((every_run_rights vault pages limit capacity happenings named).rights.agree who)

pub every_run_held : EveryRunHasRightsForPendingCalls
every_run_held vault pages limit capacity happenings named who client call live up inside =
    let state = state_after (start vault pages limit capacity) happenings in
    let history = run_history (start vault pages limit capacity) happenings named (start_history vault pages limit capacity) in
    (good_now state.base state.shared.trail (client_at state.shared who) (own_at state who) client (history.history.good who) live up).held call inside
