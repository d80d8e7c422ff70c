use Rattle.std.proofs.Common.{◌≡◌, ◌<◌, ℕ, List, [], ◌∷◌, Bool, true, false, not, ◌==◌, length, min, refl, sym, ap, ◌∙◌, subst, ⊎_elim, true≢false}
use Rattle.std.specs.Prelude.{Option, None, Some, is_some, unwrap_or}
use Rattle.std.proofs.lemmas.Bool.{cases_eq, cond_both}
use Rattle.casper_words.specs.declared.page.Right.TheVariants as may
use Rattle.casper_words.specs.declared.page.Want.{Want}
use Rattle.casper_space.specs.declared.answer.Answer.{Answer}
use Rattle.casper_space.specs.declared.answer.Answer.TheVariants as answer
use Rattle.casper_model.specs.declared.event.Event.TheVariants as event
use Rattle.casper_model.specs.declared.reply.JoinRefusal.{JoinRefusal}
use Rattle.casper_model.specs.Client.{Client, Fallen, new_client}
use Rattle.casper_model.specs.Stabilisation.{Stabilisation}
use Rattle.casper_model.specs.Shared.{Shared, client_at, fallen_at, is_live, place_client}
use Rattle.casper_model.specs.Own.{Own}
use Rattle.casper_model.specs.Both.{Turned}
use Rattle.casper_model.specs.Room.{most_cap, free_room}
use Rattle.casper_model.specs.Opening.{opened}
use Rattle.casper_model.specs.Acquire.{acquired_by}
use Rattle.casper_model.specs.Stabilise.{stabilised_by}
use Rattle.casper_model.specs.Join.{joined_by}
use Rattle.casper_model.specs.Leave.{served_by, departed_by, absent, vanished_by}
use Rattle.casper_model.specs.Finish.{doubtful_of}
use Rattle.casper_model.specs.Hits.{hit_read, hit_write}
use Rattle.casper_model.specs.Outside.{Outside, is_settle_failed}
use Rattle.casper_model.specs.State.{State, Unfinished, own_at, start}
use Rattle.casper_model.specs.View.{value_seen}
use Rattle.casper_model.specs.Turn.{Turn, of_live, within, is_in_range, are_in_range}
use Rattle.casper_model.specs.CallStep.{hit_turn, hit_behind, call_by, acquire_step, unless_load_failed, is_granted}
use Rattle.casper_model.specs.WriteOutStep.{job_of, busy_lead, written_out, write_out_step, finish_turn, finish_step, settle_turn, settle_step}
use Rattle.casper_model.specs.Step.{step, read_turn, write_turn, acquire_turn, hold_turn, heap_line_calls, serve_turn, stabilise_turn, depart_turn, vanish_turn, lose_turn}
use Rattle.casper_model.specs.Run.{Happening, state_after}
use Rattle.casper_model.specs.Rights.{InOrder, AllNameClients, TurnStands}
use Rattle.casper_model.specs.FallLaw.{EachFallenIsMarked, EachStepKeepsTheFallenMarked, EveryRunMarksTheFallen}
use Rattle.casper_model.proofs.Places.{client_placed, client_unplaced}
use Rattle.casper_model.proofs.TurnRights.{keeps_served}
use Rattle.casper_model.proofs.AcquireRights.{keeps_acquired, within_places}
use Rattle.casper_model.proofs.StabiliseRights.{keeps_by}
use Rattle.casper_model.proofs.LeaveRights.{vanished_spares}
use Rattle.casper_model.proofs.StepRights.{step_rights, stands_at, below_33}
use Rattle.casper_model.proofs.RunRights.{start_in_order, nobody_at}
use Rattle.casper_model.proofs.RunHistory.{guarded_history}
use Rattle.casper_model.proofs.TurnHistory.{acquire_records, serve_records, stabilise_records}
use Rattle.casper_model.proofs.FallRuns.{marked_kept, fallen_recorded, marked_lose, marked_vanished, marked_finish, marked_settled}

-- each fallen client of a state is marked
abbrev pub IsMarked : State → Type 0
IsMarked state = EachFallenIsMarked state.shared

-- a client whose place is set to one that is not fallen, or to nobody
marked_placed : (before : Shared) (who : ℕ) (place : Option Client) → who < length before.clients
    → ((client : Client) (fallen : Fallen) → place ≡ Some client → client.fallen ≡ Some fallen → ⊥)
    → EachFallenIsMarked before → EachFallenIsMarked (place_client who place before)
marked_placed before who place below up marked number client fallen live fell =
    ⊎_elim
    (λ same. absurd (up client fallen (sym (client_placed who place before below) ∙ ap (client_at (place_client who place before)) (sym same) ∙ live) fell))
    (λ apart. marked number client fallen (sym (client_unplaced who place before number apart) ∙ live) fell)
    (cases_eq number who)

marked_absent : (before : Shared) (own : Own) → own.who < length before.clients → EachFallenIsMarked before
    → EachFallenIsMarked (absent (record { shared = before; own = own })).shared
marked_absent before own below marked =
    marked_placed before own.who None below (λ client fallen none fell. true≢false (sym (ap is_some none))) marked

marked_acquired : (wants : List Want) (calls : ℕ) (shared : Shared) (own : Own) → TurnStands shared own → (fallen : Option Fallen) → fallen_at shared own.who ≡ fallen
    → EachFallenIsMarked shared → EachFallenIsMarked (acquired_by shared own wants calls fallen).shared
marked_acquired wants calls shared own stands (Some fallen) e =
    marked_kept shared own _ _ (keeps_acquired wants calls shared own stands (Some fallen) e) (λ number fell apart has. has)
marked_acquired wants calls shared own stands None e =
    marked_kept shared own _ _ (keeps_acquired wants calls shared own stands None e) (fallen_recorded shared own _ _ (acquire_records wants calls shared own))

marked_served : (shared : Shared) (own : Own) → TurnStands shared own → (fallen : Option Fallen) → fallen_at shared own.who ≡ fallen
    → EachFallenIsMarked shared → EachFallenIsMarked (served_by shared own fallen).shared
marked_served shared own stands (Some fallen) e = marked_kept shared own _ _ (keeps_served shared own stands (Some fallen) e) (λ number fell apart has. has)
marked_served shared own stands None e =
    marked_kept shared own _ _ (keeps_served shared own stands None e) (fallen_recorded shared own _ _ (serve_records shared own))

marked_stabilised : (shared : Shared) (own : Own) → TurnStands shared own → (fallen : Option Fallen) → fallen_at shared own.who ≡ fallen
    → EachFallenIsMarked shared → EachFallenIsMarked (stabilised_by shared own fallen).shared
marked_stabilised shared own stands (Some fallen) e = marked_kept shared own _ _ (keeps_by shared own stands (Some fallen) e) (λ number fell apart has. has)
marked_stabilised shared own stands None e =
    marked_kept shared own _ _ (keeps_by shared own stands None e) (fallen_recorded shared own _ _ (stabilise_records shared own))

marked_departed : (shared : Shared) (own : Own) → TurnStands shared own → (fallen : Option Fallen) → fallen_at shared own.who ≡ fallen
    → EachFallenIsMarked shared → EachFallenIsMarked (departed_by shared own fallen).shared
marked_departed shared own stands (Some fallen) e marked = marked_served shared own stands (Some fallen) e marked
marked_departed shared own stands None e marked =
    let both = opened shared own in
    let keeps = keeps_served shared own stands None e in
    let below : both.own.who < length both.shared.clients =
    subst (λ number. number < length both.shared.clients) (sym keeps.who)
    (subst (λ places. own.who < places) (stands.places ∙ sym keeps.places) (within_places shared own stands)) in
    marked_absent both.shared both.own below (marked_served shared own stands None e marked)

marked_joined : (shared : Shared) (own : Own) (client : Option Client) → own.who < length shared.clients → EachFallenIsMarked shared
    → EachFallenIsMarked (joined_by shared own client).shared
marked_joined shared own (Some client) below marked = marked
marked_joined shared own None below marked =
    cond_both (free_room shared == 0) _ _ (λ (turn : Turned (Option JoinRefusal)). EachFallenIsMarked turn.shared) (λ full. marked)
    (λ room.
    marked_placed shared own.who (Some (new_client (min most_cap (free_room shared)))) below
    (λ client fallen is fell. true≢false (ap is_some (sym fell ∙ ap (λ place. (unwrap_or place client).fallen) (sym is)))) marked)

-- hits leave the shared part
shared_behind : (answer : State → Answer) (own : State → Option Own) (turn : Turn) (granted : Bool)
    → (hit_behind (λ after. hit_turn after (answer after) (own after)) turn granted).state.shared ≡ turn.state.shared
shared_behind answer own turn true = by_hit (own turn.state)
  where
    by_hit : (hit : Option Own) → (unwrap_or (hit_turn turn.state (answer turn.state) hit) turn).state.shared ≡ turn.state.shared
    by_hit None = refl
    by_hit (Some after) = refl
shared_behind answer own turn false = refl

marked_call : (state : State) (who : ℕ) (want : Want) (outside : Outside) (answer : State → Answer) (own : State → Option Own) (first : Answer) (hit : Option Own)
    → IsMarked state → IsMarked (acquire_step state who (want ∷ []) 1 outside).state
    → IsMarked (call_by state who want outside (λ after. hit_turn after (answer after) (own after)) (hit_turn state first hit)).state
marked_call state who want outside answer own first None stays moves =
    let turn = acquire_step state who (want ∷ []) 1 outside in
    subst EachFallenIsMarked (sym (shared_behind answer own turn (is_granted turn.answer))) moves
marked_call state who want outside answer own first (Some after) stays moves = stays

marked_unless : (state : State) (failed : Bool) (turn : Turn) → IsMarked state → IsMarked turn.state → IsMarked (unless_load_failed state failed turn).state
marked_unless state true turn stays moves = stays
marked_unless state false turn stays moves = moves

marked_acquire : (state : State) (who : ℕ) (wants : List Want) (calls : ℕ) (outside : Outside) → InOrder state → is_live state.shared who ≡ true → IsMarked state
    → IsMarked (acquire_step state who wants calls outside).state
marked_acquire state who wants calls outside order live marked =
    let own = own_at state who in
    marked_unless state _ _ marked (marked_acquired wants calls state.shared own (stands_at state who order live) (fallen_at state.shared own.who) refl marked)

live_marked : (who : ℕ) (state : State) (turn : State → Turn) → IsMarked state → (is_live state.shared who ≡ true → IsMarked (turn state).state) → IsMarked (of_live who state turn).state
live_marked who state turn = guarded_history IsMarked (is_live state.shared who) answer.Absent state turn

within_marked : (test : State → Bool) (state : State) (turn : State → Turn) → IsMarked state → IsMarked (turn state).state → IsMarked (within test turn state).state
within_marked test state turn stays moves = guarded_history IsMarked (test state) answer.Range state turn stays (λ is. moves)

marked_written : (state : State) (outside : Outside) (one : Stabilisation) (busy : Option ℕ) → IsMarked state → IsMarked (written_out state outside one busy).state
marked_written state outside one (Some other) marked = marked
marked_written state outside one None marked = marked

marked_write_out : (state : State) (outside : Outside) (one : Option Stabilisation) → IsMarked state → IsMarked (write_out_step state outside one).state
marked_write_out state outside None marked = marked
marked_write_out state outside (Some one) marked = marked_written state outside one (busy_lead state) marked

marked_finish_step : (state : State) (lead : ℕ) (unfinished : Option Unfinished) → IsMarked state → IsMarked (finish_step state lead unfinished).state
marked_finish_step state lead None marked = marked
marked_finish_step state lead (Some unfinished) marked =
    guarded_history IsMarked (unfinished.lead == lead) answer.NoJob state (finish_turn lead unfinished.outcome) marked
    (λ is. marked_finish state.shared lead unfinished.outcome marked)

marked_settle_step : (state : State) (outside : Outside) (one : Option Stabilisation) → IsMarked state → IsMarked (settle_step state outside one).state
marked_settle_step state outside None marked = marked
marked_settle_step state outside (Some one) marked =
    guarded_history IsMarked (not (is_settle_failed outside)) answer.Disk state settle_turn marked (λ is. marked_settled state.shared marked)

pub step_marked : EachStepKeepsTheFallenMarked
step_marked state (event.Join who) outside is order marked =
    let own = own_at state who in
    marked_joined state.shared own (client_at state.shared own.who)
    (subst (λ number. number < length state.shared.clients) (sym (order.shaped.numbers who)) (subst (λ count. who < count) (sym order.shaped.clients) (below_33 who is))) marked
step_marked state (event.Read who page word) outside is order marked =
    let turn = read_turn who page word outside in
    live_marked who state (within (is_in_range page word) turn) marked
    (λ live.
    within_marked (is_in_range page word) state turn marked
    (marked_call state who (record { page = page; right = may.Read }) outside (λ after. answer.Value (value_seen after who page word))
    (λ after. hit_read (own_at after who) page word (value_seen after who page word)) (answer.Value (value_seen state who page word))
    (hit_read (own_at state who) page word (value_seen state who page word)) marked
    (marked_acquire state who (record { page = page; right = may.Read } ∷ []) 1 outside order live marked)))
step_marked state (event.Write who page word value) outside is order marked =
    let turn = write_turn who page word value outside in
    live_marked who state (within (is_in_range page word) turn) marked
    (λ live.
    within_marked (is_in_range page word) state turn marked
    (marked_call state who (record { page = page; right = may.Write }) outside (λ after. answer.Ok) (λ after. hit_write (own_at after who) page word value) answer.Ok
    (hit_write (own_at state who) page word value) marked (marked_acquire state who (record { page = page; right = may.Write } ∷ []) 1 outside order live marked)))
step_marked state (event.Acquire who wants) outside is order marked =
    let turn = acquire_turn who wants outside in
    live_marked who state (within (are_in_range wants) turn) marked
    (λ live. within_marked (are_in_range wants) state turn marked (marked_acquire state who wants 1 outside order live marked))
step_marked state (event.Hold who wants) outside is order marked =
    let turn = hold_turn who wants outside in
    live_marked who state (within (are_in_range wants) turn) marked
    (λ live. within_marked (are_in_range wants) state turn marked (marked_acquire state who wants heap_line_calls outside order live marked))
step_marked state (event.Serve who) outside is order marked =
    let own = own_at state who in
    live_marked who state (serve_turn who) marked
    (λ live. marked_served state.shared own (stands_at state who order live) (fallen_at state.shared own.who) refl marked)
step_marked state (event.Stabilise who) outside is order marked =
    let own = own_at state who in
    live_marked who state (stabilise_turn who) marked
    (λ live. marked_stabilised state.shared own (stands_at state who order live) (fallen_at state.shared own.who) refl marked)
step_marked state (event.WriteOut lead) outside is order marked = marked_write_out state outside (job_of state lead) marked
step_marked state (event.Finish lead) outside is order marked = marked_finish_step state lead state.unfinished marked
step_marked state event.Settle outside is order marked = marked_settle_step state outside (doubtful_of state.shared) marked
step_marked state (event.Depart who) outside is order marked =
    let own = own_at state who in
    live_marked who state (depart_turn who) marked
    (λ live. marked_departed state.shared own (stands_at state who order live) (fallen_at state.shared own.who) refl marked)
step_marked state (event.Vanish who) outside is order marked =
    let own = own_at state who in
    live_marked who state (vanish_turn who) marked
    (λ live.
    let fallen = fallen_at state.shared own.who in
    let spares = vanished_spares state.shared own fallen in
    marked_absent (vanished_by state.shared own fallen).shared own
    (subst (λ places. own.who < places) (sym spares.places) (within_places state.shared own (stands_at state who order live))) (marked_vanished state.shared own fallen marked))
step_marked state (event.Lose who) outside is order marked = live_marked who state (lose_turn who) marked (λ live. marked_lose state.shared who marked)

run_marked : (state : State) (happenings : List Happening) → AllNameClients happenings → InOrder state → IsMarked state → IsMarked (state_after state happenings)
run_marked state [] named order marked = marked
run_marked state (first ∷ following) named order marked =
    run_marked (step state first.event first.outside).state following named.1 (step_rights state first.event first.outside named.0 order)
    (step_marked state first.event first.outside named.0 order marked)

pub every_run_marked : EveryRunMarksTheFallen
every_run_marked vault pages limit capacity happenings named =
    run_marked (start vault pages limit capacity) happenings named (start_in_order vault pages limit capacity)
    (λ who client fallen live fell. absurd (true≢false (sym (ap is_some (sym (nobody_at pages limit who) ∙ live)))))
