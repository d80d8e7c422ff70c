use Rattle.std.proofs.Common.{◌≡◌, ◌≢◌, ◌⊎◌, ◌<◌, ◌≤◌, ℕ, ◌+◌, List, [], ◌∷◌, Bool, true, false, cond, not, ◌==◌, min, length, refl, sym, ap, subst, inl, inr, arith, ltb-true, length-append}
use Rattle.std.proofs.Math.Nat.{min-le_right}
use Rattle.std.specs.Prelude.{Option, None, Some, nat_lt, unwrap_or}
use Rattle.std.proofs.lemmas.Bool.{cases_eq, cond_both, and_parts}
use Rattle.casper_words.specs.Crew.{IsClient}
use Rattle.casper_words.specs.declared.call.Op.{Op}
use Rattle.casper_words.specs.declared.call.Op.TheVariants as op
use Rattle.casper_words.specs.declared.page.Right.{Right}
use Rattle.casper_words.specs.declared.page.Right.TheVariants as may
use Rattle.casper_words.specs.declared.page.Want.{Want}
use Rattle.casper_space.specs.declared.answer.Answer.{Answer}
use Rattle.casper_space.specs.declared.answer.Answer.TheVariants as answer
use Rattle.casper_model.specs.declared.event.Event.TheVariants as event
use Rattle.casper_model.specs.declared.reply.JoinRefusal.{JoinRefusal}
use Rattle.casper_model.specs.Held.{allows}
use Rattle.casper_model.specs.Client.{Client, Fallen}
use Rattle.casper_model.specs.Stabilisation.{Stabilisation}
use Rattle.casper_model.specs.Shared.{Shared, client_at, fallen_at, is_live}
use Rattle.casper_model.specs.Own.{Own, blank, room_of}
use Rattle.casper_model.specs.Both.{Turned}
use Rattle.casper_model.specs.Room.{most_cap, free_room}
use Rattle.casper_model.specs.Opening.{told_of_fall}
use Rattle.casper_model.specs.Acquire.{acquired_by}
use Rattle.casper_model.specs.Stabilise.{stabilised_by}
use Rattle.casper_model.specs.Join.{joined_by}
use Rattle.casper_model.specs.Leave.{served_by, departed_by, absent, vanished_by}
use Rattle.casper_model.specs.Finish.{doubtful_of}
use Rattle.casper_model.specs.Hits.{can_hit, with_call}
use Rattle.casper_model.specs.Outside.{Outside, is_settle_failed}
use Rattle.casper_model.specs.State.{State, Unfinished, own_at, with_own, with_shared, after_turn, start}
use Rattle.casper_model.specs.View.{value_seen}
use Rattle.casper_model.specs.Turn.{Turn, of_live, within, is_in_range, are_in_range}
use Rattle.casper_model.specs.CallStep.{hit_turn, hit_behind, call_by, call_step, acquire_step, unless_load_failed, is_granted}
use Rattle.casper_model.specs.WriteOutStep.{job_of, busy_lead, written_out, write_out_step, finish_turn, finish_step, settle_turn, settle_step}
use Rattle.casper_model.specs.Step.{step, read_turn, write_turn, acquire_turn, hold_turn, heap_line_calls, serve_turn, stabilise_turn, depart_turn, vanish_turn, lose_turn}
use Rattle.casper_model.specs.Run.{Happening, state_after}
use Rattle.casper_model.specs.Rights.{Agrees, AgreesUnlessFallen, AllowTheSame, InOrder, AllNameClients}
use Rattle.casper_model.specs.RoomLaw.{IsWithin, HasRoom, EachStepKeepsRoom, EveryRunKeepsRoom}
use Rattle.casper_model.proofs.TurnRights.{up_as_it_stands}
use Rattle.casper_model.proofs.AcquireRights.{within_places}
use Rattle.casper_model.proofs.LeaveRights.{vanished_spares}
use Rattle.casper_model.proofs.StepRights.{step_rights, stands_at, below_33, ordered_call, ordered_acquire}
use Rattle.casper_model.proofs.RunRights.{start_in_order, blank_at}
use Rattle.casper_model.proofs.TurnHistory.{Records, acquire_records, serve_records, stabilise_records, depart_records}
use Rattle.casper_model.proofs.StateHistory.{in_owns, set_own, other_own}
use Rattle.casper_model.proofs.RunHistory.{guarded_history}
use Rattle.casper_model.proofs.Caps.{IsRoomy}
use Rattle.casper_model.proofs.RoomSteps.{acquired_within, served_within, stabilise_within, departed_within, told_within, joined_within, lose_within, vanish_within, finish_within, settled_within}

-- a state after an event of a client
room_after : (state : State) (own : Own) (after : Shared) → own.who < length state.owns → IsWithin after → length own.pending ≤ own.cap → HasRoom state
    → HasRoom (with_own (with_shared state after) own)
room_after state own after below is pending room = record { within = is; pending = λ number. at number (cases_eq number own.who) }
  where
    new : State
    new = with_own (with_shared state after) own

    at : (number : ℕ) → (number ≡ own.who) ⊎ (number ≢ own.who) → length (own_at new number).pending ≤ (own_at new number).cap
    at number (inl same) = subst (λ (one : Own). length one.pending ≤ one.cap) (sym (set_own state own after below number same)) pending
    at number (inr apart) = subst (λ (one : Own). length one.pending ≤ one.cap) (sym (other_own state own after below number apart)) (room.pending number)

none_pending : (own : Own) → own.pending ≡ [] → length own.pending ≤ own.cap
none_pending own none = subst (λ calls. length calls ≤ own.cap) (sym none) (omega arith)

-- what stands as a turn begins
roomy_at : (state : State) (who : ℕ) → InOrder state → HasRoom state → is_live state.shared who ≡ true → fallen_at state.shared (own_at state who).who ≡ None
    → IsRoomy state.shared (own_at state who)
roomy_at state who order room live up =
    let own = own_at state who in
    let stands = stands_at state who order live in
    let is = up_as_it_stands state.shared own stands up in
    let agreed : (is.client.cap ≡ own.cap) × AllowTheSame is.client.rights own.held =
    subst (AgreesUnlessFallen is.client own) is.up (subst (λ place. Agrees place own) is.live stands.agrees) in
    record {
      known = record { client = is.client; live = is.live; up = is.up; cap = agreed.0 };
      below = within_places state.shared own stands;
      within = room.within;
    }

-- a turn whose client had fallen, or records
room_turn : {R : Type 0} (state : State) (who : ℕ) (turn : Option Fallen → Turned R) → InOrder state → HasRoom state → IsClient who → is_live state.shared who ≡ true
    → ((fallen : Fallen) → (turn (Some fallen)).shared ≡ (told_of_fall state.shared (own_at state who)).shared)
    → ((fallen : Fallen) → (turn (Some fallen)).own ≡ (told_of_fall state.shared (own_at state who)).own)
    → Records state.shared (own_at state who) (turn None).shared (turn None).own
    → (IsRoomy state.shared (own_at state who) → length (own_at state who).pending ≤ (own_at state who).cap → IsWithin (turn None).shared)
    → (fallen : Option Fallen) → fallen_at state.shared (own_at state who).who ≡ fallen → HasRoom (after_turn state (turn fallen))
room_turn state who turn order room is live shared own records moves (Some fallen) e =
    room_after state (turn (Some fallen)).own (turn (Some fallen)).shared
    (in_owns state who (turn (Some fallen)).own order is (ap (λ (one : Own). one.who) (own fallen)))
    (subst IsWithin (sym (shared fallen)) (told_within state.shared (own_at state who) room.within))
    (none_pending (turn (Some fallen)).own (ap (λ (one : Own). one.pending) (own fallen))) room
room_turn state who turn order room is live shared own records moves None e =
    room_after state (turn None).own (turn None).shared (in_owns state who (turn None).own order is records.who)
    (moves (roomy_at state who order room live e) (room.pending who)) (none_pending (turn None).own records.pending) room

-- an acquire
room_unless : (state : State) (failed : Bool) (turn : Turn) → HasRoom state → HasRoom turn.state → HasRoom (unless_load_failed state failed turn).state
room_unless state true turn stays moves = stays
room_unless state false turn stays moves = moves

-- a state in order, with room
record IsRoom (state : State) : Type 0 where
  order : InOrder state
  room : HasRoom state

room_acquire : (state : State) (who : ℕ) (wants : List Want) (calls : ℕ) (outside : Outside) → IsRoom state → IsClient who → is_live state.shared who ≡ true
    → IsRoom (acquire_step state who wants calls outside).state
room_acquire state who wants calls outside has is live =
    let own = own_at state who in
    record {
      order = ordered_acquire state who wants calls outside has.order is live;
      room =
          room_unless state _ _ has.room
          (room_turn state who (acquired_by state.shared own wants calls) has.order has.room is live (λ fallen. refl) (λ fallen. refl)
          (acquire_records wants calls state.shared own) (acquired_within wants calls state.shared own) (fallen_at state.shared own.who) refl);
    }

-- a hit
room_call : (state : State) (who : ℕ) (act : Op) (page word value : ℕ) (right : Right) → IsRoom state → IsClient who → can_hit (own_at state who) page right ≡ true
    → IsRoom (with_own state (with_call (own_at state who) act page word value))
room_call state who act page word value right has is can =
    let own = own_at state who in
    let after = with_call own act page word value in
    let free : 0 < room_of own = ltb-true 0 (room_of own) (and_parts (allows own.held page right) (nat_lt 0 (room_of own)) can).1 in
    let most : min 4096 own.cap ≤ own.cap = min-le_right 4096 own.cap in
    let long : length after.pending ≡ length own.pending + 1 = length-append own.pending (record { op = act; page = page; word = word; value = value } ∷ []) in
    record {
      order = ordered_call state who act page word value right has.order is can;
      room = room_after state after state.shared (in_owns state who after has.order is refl) has.room.within (omega (arith, free, most, long)) has.room;
    }

abbrev pub hits_by : ℕ → Op → ℕ → ℕ → Right → (State → Answer) → (State → ℕ) → State → Option Turn
hits_by who act page word right answer value after =
    hit_turn after (answer after) (cond (can_hit (own_at after who) page right) (Some (with_call (own_at after who) act page word (value after))) None)

module _ (who : ℕ) (act : Op) (page word : ℕ) (right : Right) (answer : State → Answer) (value : State → ℕ) (is : IsClient who) where
  room_hit : (turn : Turn) → IsRoom turn.state → (can : Bool) → can_hit (own_at turn.state who) page right ≡ can
      → IsRoom (unwrap_or (hit_turn turn.state (answer turn.state) (cond can (Some (with_call (own_at turn.state who) act page word (value turn.state))) None)) turn).state
  room_hit turn has true e = room_call turn.state who act page word (value turn.state) right has is e
  room_hit turn has false e = has

  room_behind : (turn : Turn) (granted : Bool) → IsRoom turn.state → IsRoom (hit_behind (hits_by who act page word right answer value) turn granted).state
  room_behind turn true has = room_hit turn has (can_hit (own_at turn.state who) page right) refl
  room_behind turn false has = has

  room_by : (state : State) (want : Want) (outside : Outside) → IsRoom state → IsRoom (acquire_step state who (want ∷ []) 1 outside).state
      → (can : Bool) → can_hit (own_at state who) page right ≡ can
      → IsRoom (call_by state who want outside (hits_by who act page word right answer value)
      (hit_turn state (answer state) (cond can (Some (with_call (own_at state who) act page word (value state))) None))).state
  room_by state want outside has acquired true e = room_call state who act page word (value state) right has is e
  room_by state want outside has acquired false e = let turn = acquire_step state who (want ∷ []) 1 outside in room_behind turn (is_granted turn.answer) acquired

  room_call_step : (state : State) (want : Want) (outside : Outside) → IsRoom state → IsRoom (acquire_step state who (want ∷ []) 1 outside).state
      → IsRoom (call_step state who want outside (hits_by who act page word right answer value)).state
  room_call_step state want outside has acquired = room_by state want outside has acquired (can_hit (own_at state who) page right) refl

-- the write-outs
room_written : (state : State) (outside : Outside) (one : Stabilisation) (busy : Option ℕ) → HasRoom state → HasRoom (written_out state outside one busy).state
room_written state outside one (Some other) room = room
room_written state outside one None room = record { within = room.within; pending = room.pending }

room_write_out : (state : State) (outside : Outside) (one : Option Stabilisation) → HasRoom state → HasRoom (write_out_step state outside one).state
room_write_out state outside None room = room
room_write_out state outside (Some one) room = room_written state outside one (busy_lead state) room

room_finish : (state : State) (lead : ℕ) (unfinished : Option Unfinished) → HasRoom state → HasRoom (finish_step state lead unfinished).state
room_finish state lead None room = room
room_finish state lead (Some unfinished) room =
    guarded_history HasRoom (unfinished.lead == lead) answer.NoJob state (finish_turn lead unfinished.outcome) room
    (λ is. record { within = finish_within state.shared lead unfinished.outcome room.within; pending = room.pending })

room_settle : (state : State) (outside : Outside) (one : Option Stabilisation) → HasRoom state → HasRoom (settle_step state outside one).state
room_settle state outside None room = room
room_settle state outside (Some one) room =
    guarded_history HasRoom (not (is_settle_failed outside)) answer.Disk state settle_turn room
    (λ is. record { within = settled_within state.shared room.within; pending = room.pending })

-- a client that joins
room_joined : (state : State) (who : ℕ) → InOrder state → HasRoom state → IsClient who → (client : Option Client) → client_at state.shared (own_at state who).who ≡ client
    → HasRoom (after_turn state (joined_by state.shared (own_at state who) client))
room_joined state who order room is client e =
    let own = own_at state who in
    let below : own.who < length state.shared.clients =
    subst (λ number. number < length state.shared.clients) (sym (order.shaped.numbers who)) (subst (λ count. who < count) (sym order.shaped.clients) (below_33 who is)) in
    joined_room client (joined_within state.shared own client e below room.within)
  where
    own_now : Own
    own_now = own_at state who

    joined_room : (place : Option Client) → IsWithin (joined_by state.shared own_now place).shared → HasRoom (after_turn state (joined_by state.shared own_now place))
    joined_room (Some client) within = room_after state own_now state.shared (in_owns state who own_now order is refl) within (room.pending who) room
    joined_room None within =
        cond_both (free_room state.shared == 0) _ _ (λ (turn : Turned (Option JoinRefusal)). IsWithin turn.shared → HasRoom (after_turn state turn))
        (λ full within. room_after state own_now state.shared (in_owns state who own_now order is refl) within (room.pending who) room)
        (λ free within.
        room_after state (record (blank own_now.who own_now.capacity) { cap = min most_cap (free_room state.shared) }) _
        (in_owns state who (record (blank own_now.who own_now.capacity) { cap = min most_cap (free_room state.shared) }) order is refl) within (omega arith) room)
        within

live_room : (who : ℕ) (state : State) (turn : State → Turn) → HasRoom state → (is_live state.shared who ≡ true → HasRoom (turn state).state) → HasRoom (of_live who state turn).state
live_room who state turn = guarded_history HasRoom (is_live state.shared who) answer.Absent state turn

within_room : (test : State → Bool) (state : State) (turn : State → Turn) → HasRoom state → HasRoom (turn state).state → HasRoom (within test turn state).state
within_room test state turn stays moves = guarded_history HasRoom (test state) answer.Range state turn stays (λ is. moves)

pub step_room : EachStepKeepsRoom
step_room state (event.Join who) outside is order room = room_joined state who order room is (client_at state.shared (own_at state who).who) refl
step_room state (event.Read who page word) outside is order room =
    let turn = read_turn who page word outside in
    let has : IsRoom state = record { order = order; room = room } in
    live_room who state (within (is_in_range page word) turn) room
    (λ live.
    within_room (is_in_range page word) state turn room
    (room_call_step who op.Read page word may.Read (λ after. answer.Value (value_seen after who page word)) (λ after. value_seen after who page word) is state
    (record { page = page; right = may.Read }) outside has
    (room_acquire state who (record { page = page; right = may.Read } ∷ []) 1 outside has is live)).room)
step_room state (event.Write who page word value) outside is order room =
    let turn = write_turn who page word value outside in
    let has : IsRoom state = record { order = order; room = room } in
    live_room who state (within (is_in_range page word) turn) room
    (λ live.
    within_room (is_in_range page word) state turn room
    (room_call_step who op.Write page word may.Write (λ after. answer.Ok) (λ after. value) is state (record { page = page; right = may.Write }) outside has
    (room_acquire state who (record { page = page; right = may.Write } ∷ []) 1 outside has is live)).room)
step_room state (event.Acquire who wants) outside is order room =
    let turn = acquire_turn who wants outside in
    live_room who state (within (are_in_range wants) turn) room
    (λ live.
    within_room (are_in_range wants) state turn room (room_acquire state who wants 1 outside (record { order = order; room = room }) is live).room)
step_room state (event.Hold who wants) outside is order room =
    let turn = hold_turn who wants outside in
    live_room who state (within (are_in_range wants) turn) room
    (λ live.
    within_room (are_in_range wants) state turn room (room_acquire state who wants heap_line_calls outside (record { order = order; room = room }) is live).room)
step_room state (event.Serve who) outside is order room =
    let own = own_at state who in
    live_room who state (serve_turn who) room
    (λ live.
    room_turn state who (served_by state.shared own) order room is live (λ fallen. refl) (λ fallen. refl) (serve_records state.shared own) (served_within state.shared own)
    (fallen_at state.shared own.who) refl)
step_room state (event.Stabilise who) outside is order room =
    let own = own_at state who in
    live_room who state (stabilise_turn who) room
    (λ live.
    room_turn state who (stabilised_by state.shared own) order room is live (λ fallen. refl) (λ fallen. refl) (stabilise_records state.shared own)
    (stabilise_within state.shared own) (fallen_at state.shared own.who) refl)
step_room state (event.WriteOut lead) outside is order room = room_write_out state outside (job_of state lead) room
step_room state (event.Finish lead) outside is order room = room_finish state lead state.unfinished room
step_room state event.Settle outside is order room = room_settle state outside (doubtful_of state.shared) room
step_room state (event.Depart who) outside is order room =
    let own = own_at state who in
    live_room who state (depart_turn who) room
    (λ live.
    room_turn state who (departed_by state.shared own) order room is live (λ fallen. refl) (λ fallen. refl) (depart_records state.shared own)
    (departed_within state.shared own) (fallen_at state.shared own.who) refl)
step_room state (event.Vanish who) outside is order room =
    let own = own_at state who in
    live_room who state (vanish_turn who) room
    (λ live.
    let fallen = fallen_at state.shared own.who in
    let spares = vanished_spares state.shared own fallen in
    let below : own.who < length (vanished_by state.shared own fallen).shared.clients =
    subst (λ places. own.who < places) (sym spares.places) (within_places state.shared own (stands_at state who order live)) in
    room_after state (blank own.who own.capacity) (absent (record { shared = (vanished_by state.shared own fallen).shared; own = own })).shared
    (in_owns state who (blank own.who own.capacity) order is refl) (vanish_within state.shared own fallen below room.within) (omega arith) room)
step_room state (event.Lose who) outside is order room =
    live_room who state (lose_turn who) room (λ live. record { within = lose_within state.shared who room.within; pending = room.pending })

run_room : (state : State) (happenings : List Happening) → AllNameClients happenings → InOrder state → HasRoom state → HasRoom (state_after state happenings)
run_room state [] named order room = room
run_room state (first ∷ following) named order room =
    run_room (step state first.event first.outside).state following named.1 (step_rights state first.event first.outside named.0 order)
    (step_room state first.event first.outside named.0 order room)

pub every_run_room : EveryRunKeepsRoom
every_run_room vault pages limit capacity happenings named =
    run_room (start vault pages limit capacity) happenings named (start_in_order vault pages limit capacity)
    (record {
      within = omega arith;
      pending = λ who. none_pending (own_at (start vault pages limit capacity) who) (blank_at vault pages limit capacity who).pending;
    })
