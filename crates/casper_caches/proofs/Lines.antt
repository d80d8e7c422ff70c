use Rattle.std.proofs.Common.{◌≡◌, ◌<◌, ◌≤◌, ◌+◌, ℕ, suc, List, [], ◌∷◌, ◌++◌, Bool, true, false, cond, length, Contains, get_or-set_same, refl, sym, ap, ◌∙◌, subst, ⊎_elim, true≢false, arith}
use Rattle.std.specs.Prelude.{Option, None, Some, is_some, nat_lt}
use Rattle.std.specs.List.{list_all}
use Rattle.std.proofs.lemmas.Bool.{and_parts, and_from, eqb-true, lt-ltb, ltb-true}
use Rattle.std.proofs.lemmas.List.{length_push}
use Rattle.casper_words.specs.Crew.{IsClient}
use Rattle.casper_words.specs.declared.call.Call.{Call}
use Rattle.casper_words.specs.declared.call.Op.{Op}
use Rattle.casper_words.specs.declared.call.Op.TheVariants as op
use Rattle.casper_words.specs.declared.page.Right.{Right}
use Rattle.casper_words.specs.declared.page.Right.TheVariants as may
use Rattle.casper_words.specs.declared.page.Want.{Want}
use Rattle.casper_space.specs.declared.answer.Answer.{Answer}
use Rattle.casper_space.specs.declared.answer.Answer.TheVariants as answer
use Rattle.casper_model.specs.declared.event.Event.{Event}
use Rattle.casper_model.specs.declared.event.Event.TheVariants as event
use Rattle.casper_model.specs.declared.reply.Reply.{Reply}
use Rattle.casper_model.specs.Acquire.{acquired_by, answered, missing_once_opened}
use Rattle.casper_model.specs.Both.{Both}
use Rattle.casper_model.specs.CallStep.{acquire_step, call_by, hit_turn, read_hit, write_hit, is_granted, unless_load_failed}
use Rattle.casper_model.specs.Client.{Client, Fallen}
use Rattle.casper_model.specs.Held.{is_of, covers, allows}
use Rattle.casper_model.specs.Hits.{can_hit, with_call}
use Rattle.casper_model.specs.Opening.{begun, given_up, gathering_of, handed_in_to, opened, given_in_opening}
use Rattle.casper_model.specs.Outside.{Outside}
use Rattle.casper_model.specs.Own.{Own, blank, room_of}
use Rattle.casper_model.specs.Rights.{Agrees, InOrder, NamesClients}
use Rattle.casper_model.specs.Run.{Happening, state_after, answers_of}
use Rattle.casper_model.specs.Shared.{Shared, client_at, fallen_at, is_live}
use Rattle.casper_model.specs.Stabilisation.{Stabilisation}
use Rattle.casper_model.specs.State.{State, own_at, with_own, start}
use Rattle.casper_model.specs.Step.{step, read_turn, write_turn, hold_turn, heap_line_calls}
use Rattle.casper_model.specs.Turn.{Turn, guarded, of_live, within, is_in_range, are_in_range}
use Rattle.casper_model.specs.View.{value_seen}
use Rattle.casper_model.proofs.Entries.{contains_cases}
use Rattle.casper_model.proofs.GrantedRights.{first_allows_the_same}
use Rattle.casper_model.proofs.HeldRights.{passes, allows_covered}
use Rattle.casper_model.proofs.RunRights.{every_run_rights}
use Rattle.casper_model.proofs.StateHistory.{in_owns}
use Rattle.casper_model.proofs.StepRights.{step_rights}
use Rattle.casper_turns.proofs.Lists.{any_found, nothing_in}
use Rattle.casper_laws.specs.AnswerLaws.{HasRightsAndRoom}
use Rattle.casper_laws.proofs.AnswerLaws.{grants_rights}
use Rattle.casper_caches.specs.LineLaws.{ChangesOnlyItsOwn, MakesHeldReads, MakesHeldWrites, MakesHeldLines, IsCallOver, IsLine, is_made, EachHeldReadIsMade, EachHeldWriteIsMade, EachHeldLineIsMade}

-- What a call over a held page answers.

-- a client that holds a page is live
live_by : (place : Option Client) (own : Own) (page : ℕ) (right : Right) → Agrees place own → allows own.held page right ≡ true → is_some place ≡ true
live_by None own page right agrees holds = absurd (true≢false (sym holds ∙ ap (λ held. allows held page right) agrees.0))
live_by (Some client) own page right agrees holds = refl

live_holder : (state : State) → InOrder state → (who page : ℕ) (right : Right) → allows (own_at state who).held page right ≡ true → is_live state.shared who ≡ true
live_holder state order who page right holds = live_by (client_at state.shared who) (own_at state who) page right (order.rights.agree who) holds

-- a step that two tests let be
let_both : (state : State) (who : ℕ) (test : State → Bool) (turn : State → Turn) → is_live state.shared who ≡ true → test state ≡ true
    → of_live who state (within test turn) ≡ turn state
let_both state who test turn live inside =
    ap (λ one. guarded one answer.Absent state (within test turn)) live ∙ ap (λ one. guarded one answer.Range state turn) inside

can : (own : Own) (page : ℕ) (right : Right) → allows own.held page right ≡ true → 0 < room_of own → can_hit own page right ≡ true
can own page right holds room = and_from (allows own.held page right) (nat_lt 0 (room_of own)) holds (lt-ltb 0 (room_of own) room)

-- a read, and a write, of a held page is a hit
pub read_is_hit : (state : State) → InOrder state → (who page word : ℕ) (outside : Outside) → page < state.shared.pages → word < 512
    → allows (own_at state who).held page may.Read ≡ true → 0 < room_of (own_at state who)
    → step state (event.Read who page word) outside
    ≡ record { answer = answer.Value (value_seen state who page word); state = with_own state (with_call (own_at state who) op.Read page word (value_seen state who page word)) }
read_is_hit state order who page word outside inside small holds room =
    let own = own_at state who in
    let value = value_seen state who page word in
    let want : Want = record { page = page; right = may.Read } in
    let_both state who (is_in_range page word) (read_turn who page word outside) (live_holder state order who page may.Read holds)
    (and_from (nat_lt page state.shared.pages) (nat_lt word 512) (lt-ltb page state.shared.pages inside) (lt-ltb word 512 small))
    ∙ ap (λ (one : Bool). call_by state who want outside (λ after. read_hit after who page word)
    (hit_turn state (answer.Value value) (cond one (Some (with_call own op.Read page word value)) None))) (can own page may.Read holds room)

pub write_is_hit : (state : State) → InOrder state → (who page word value : ℕ) (outside : Outside) → page < state.shared.pages → word < 512
    → allows (own_at state who).held page may.Write ≡ true → 0 < room_of (own_at state who)
    → step state (event.Write who page word value) outside
    ≡ record { answer = answer.Ok; state = with_own state (with_call (own_at state who) op.Write page word value) }
write_is_hit state order who page word value outside inside small holds room =
    let own = own_at state who in
    let want : Want = record { page = page; right = may.Write } in
    let_both state who (is_in_range page word) (write_turn who page word value outside) (live_holder state order who page may.Write holds)
    (and_from (nat_lt page state.shared.pages) (nat_lt word 512) (lt-ltb page state.shared.pages inside) (lt-ltb word 512 small))
    ∙ ap (λ (one : Bool). call_by state who want outside (λ after. write_hit after who page word value)
    (hit_turn state answer.Ok (cond one (Some (with_call own op.Write page word value)) None))) (can own page may.Write holds room)

-- the own part after a hit
pub own_after_hit : (state : State) → InOrder state → (who : ℕ) → IsClient who → (act : Op) (page word value : ℕ)
    → own_at (with_own state (with_call (own_at state who) act page word value)) who ≡ with_call (own_at state who) act page word value
own_after_hit state order who client act page word value =
    let own = with_call (own_at state who) act page word value in
    ap (own_at (with_own state own)) (sym (order.shaped.numbers who))
    ∙ get_or-set_same state.owns own.who own (blank own.who 0) (in_owns state who own order client refl)

only_own : (state : State) → InOrder state → (who : ℕ) → IsClient who → (act : Op) (page word value : ℕ) (after : State)
    → after ≡ with_own state (with_call (own_at state who) act page word value) → ChangesOnlyItsOwn state who after
only_own state order who client act page word value after is =
    is ∙ ap (with_own state) (sym (own_after_hit state order who client act page word value) ∙ ap (λ one. own_at one who) (sym is))

pub held_reads : (state : State) → InOrder state → MakesHeldReads state
held_reads state order who page word outside client inside small holds room =
    let hit = read_is_hit state order who page word outside inside small holds room in
    (ap (λ turn. turn.answer) hit, only_own state order who client op.Read page word (value_seen state who page word) _ (ap (λ turn. turn.state) hit))

pub held_writes : (state : State) → InOrder state → MakesHeldWrites state
held_writes state order who page word value outside client inside small holds room =
    let hit = write_is_hit state order who page word value outside inside small holds room in
    (ap (λ turn. turn.answer) hit, only_own state order who client op.Write page word value _ (ap (λ turn. turn.state) hit))

-- what a line needs of a state: the rights over its wants, and room for as many calls
pub record IsReady (state : State) (who : ℕ) (wants : List Want) (calls : ℕ) : Type 0 where
  pub order : InOrder state
  pub rights : (page : ℕ) (right : Right) → allows wants page right ≡ true → allows (own_at state who).held page right ≡ true
  pub room : calls ≤ room_of (own_at state who)
  pub inside : (page : ℕ) (right : Right) → allows wants page right ≡ true → page < state.shared.pages

-- it is ready for one call less after a hit
ready_after : (state : State) (who : ℕ) (wants : List Want) (calls : ℕ) (event : Event) (outside : Outside) (act : Op) (page word value : ℕ) → IsClient who
    → NamesClients event → IsReady state who wants (suc calls)
    → (step state event outside).state ≡ with_own state (with_call (own_at state who) act page word value)
    → IsReady (step state event outside).state who wants calls
ready_after state who wants calls event outside act page word value client named ready is = record {
  order = step_rights state event outside named ready.order;
  rights = λ other right asked.
      ap (λ one. allows one.held other right) here ∙ first_allows_the_same page (own_at state who).held other right ∙ ready.rights other right asked;
  room = subst (λ one. calls ≤ room_of one) (sym here) fewer;
  inside = λ other right asked. subst (λ one. other < one.shared.pages) (sym is) (ready.inside other right asked);
}
  where
    here : own_at (step state event outside).state who ≡ with_call (own_at state who) act page word value
    here = ap (λ one. own_at one who) is ∙ own_after_hit state ready.order who client act page word value

    fewer : calls ≤ room_of (with_call (own_at state who) act page word value)
    fewer =
        let own = own_at state who in
        let call : Call = record { op = act; page = page; word = word; value = value } in
        let longer : length (own.pending ++ call ∷ []) ≡ length own.pending + 1 = length_push own.pending call in
        let before = ready.room in
        omega (arith, longer, before)

-- a call of a line is made, and the line is ready for the others
call_made : (state : State) (who : ℕ) (wants : List Want) (calls : ℕ) (event : Event) (outside : Outside) → IsClient who → IsReady state who wants (suc calls)
    → IsCallOver who wants event → (is_made (step state event outside).answer ≡ true) × IsReady (step state event outside).state who wants calls
call_made state who wants calls (event.Read one page word) outside client ready call =
    let holds = ready.rights page may.Read call.1 in
    let more = ready.room in
    let room : 0 < room_of (own_at state who) = omega (arith, more) in
    let hit = read_is_hit state ready.order who page word outside (ready.inside page may.Read call.1) call.2 holds room in
    subst (λ number. (is_made (step state (event.Read number page word) outside).answer ≡ true) × IsReady (step state (event.Read number page word) outside).state who wants calls)
    (sym call.0) (
      ap (λ turn. is_made turn.answer) hit,
      ready_after state who wants calls (event.Read who page word) outside op.Read page word (value_seen state who page word) client client ready (ap (λ turn. turn.state) hit),
    )
call_made state who wants calls (event.Write one page word value) outside client ready call =
    let holds = ready.rights page may.Write call.1 in
    let more = ready.room in
    let room : 0 < room_of (own_at state who) = omega (arith, more) in
    let hit = write_is_hit state ready.order who page word value outside (ready.inside page may.Write call.1) call.2 holds room in
    subst (λ number. (is_made (step state (event.Write number page word value) outside).answer ≡ true)
    × IsReady (step state (event.Write number page word value) outside).state who wants calls)
    (sym call.0) (
      ap (λ turn. is_made turn.answer) hit,
      ready_after state who wants calls (event.Write who page word value) outside op.Write page word value client client ready (ap (λ turn. turn.state) hit),
    )
call_made state who wants calls other outside client ready call = absurd call

line_made : (state : State) (who : ℕ) (wants : List Want) → IsClient who → (line : List Happening) → IsReady state who wants (length line)
    → IsLine who wants line → list_all is_made (answers_of state line) ≡ true
line_made state who wants client [] ready calls = refl
line_made state who wants client (first ∷ line) ready calls =
    let one = call_made state who wants (length line) first.event first.outside client ready calls.0 in
    and_from (is_made (step state first.event first.outside).answer) (list_all is_made (answers_of (step state first.event first.outside).state line)) one.0
    (line_made (step state first.event first.outside).state who wants client line one.1 calls.1)

-- a granted acquire was let be by both tests
through : (test : Bool) (refusal : Answer) (state : State) (turn : State → Turn) → (refusal ≡ answer.Granted → ⊥) → (guarded test refusal state turn).answer ≡ answer.Granted
    → (test ≡ true) × (guarded test refusal state turn ≡ turn state)
through true refusal state turn other granted = (refl, refl)
through false refusal state turn other granted = absurd (other granted)

-- how many pages the store has stays
pages_handed : (both : Both) (one : Option Stabilisation) → (handed_in_to both one).shared.pages ≡ both.shared.pages
pages_handed both None = refl
pages_handed both (Some one) = refl

pages_acquired : (shared : Shared) (own : Own) (wants : List Want) (calls : ℕ) (fallen : Option Fallen)
    → (acquired_by shared own wants calls fallen).shared.pages ≡ shared.pages
pages_acquired shared own wants calls (Some fallen) = refl
pages_acquired shared own wants calls None = by_refusal _
  where
    third : Both
    third = given_up (begun shared own)

    by_refusal : (refusal : Option Reply)
        → (answered (opened shared own) (given_in_opening shared own) wants (missing_once_opened shared own wants) refusal).shared.pages ≡ shared.pages
    by_refusal None = pages_handed third (gathering_of third.shared third.own.who)
    by_refusal (Some reply) = pages_handed third (gathering_of third.shared third.own.who)

pages_unless : (state : State) (failed : Bool) (turn : Turn) → turn.state.shared.pages ≡ state.shared.pages
    → (unless_load_failed state failed turn).state.shared.pages ≡ state.shared.pages
pages_unless state true turn same = refl
pages_unless state false turn same = same

-- each of a list that all pass
all_found : {X : Type 0} (p : X → Bool) (xs : List X) (x : X) → list_all p xs ≡ true → Contains xs x → p x ≡ true
all_found p [] x all inside = absurd (nothing_in x inside)
all_found p (first ∷ xs) x all inside =
    let parts = and_parts (p first) (list_all p xs) all in
    ⊎_elim (λ same. ap p (sym same) ∙ parts.0) (λ later. all_found p xs x parts.1 later) (contains_cases first xs x inside)

ready_line : (state : State) → InOrder state → (who : ℕ) (wants : List Want) (outside : Outside) → IsClient who → are_in_range wants state ≡ true
    → (acquire_step state who wants heap_line_calls outside).answer ≡ answer.Granted → InOrder (acquire_step state who wants heap_line_calls outside).state
    → (calls : ℕ) → calls ≤ 600 → IsReady (acquire_step state who wants heap_line_calls outside).state who wants calls
ready_line state order who wants outside client inside granted after calls few = record {
  order = after;
  rights = λ page right asked.
      let found = any_found (passes page right) wants asked in
      let parts = and_parts (is_of page found.0) (covers found.0.right right) found.2 in
      allows_covered held page found.0.right right parts.1
      (subst (λ number. allows held number found.0.right ≡ true) (eqb-true found.0.page page parts.0) (has.rights found.0 found.1));
  room =
      let most : 600 ≤ 4096 = omega arith in
      let room = has.room most in omega (arith, few, room);
  inside = λ page right asked.
      let found = any_found (passes page right) wants asked in
      let parts = and_parts (is_of page found.0) (covers found.0.right right) found.2 in
      subst (λ number. number < (acquire_step state who wants heap_line_calls outside).state.shared.pages) (eqb-true found.0.page page parts.0)
      (subst (λ pages. found.0.page < pages)
      (sym (pages_unless state _ _ (pages_acquired state.shared (own_at state who) wants heap_line_calls (fallen_at state.shared (own_at state who).who))))
      (ltb-true found.0.page state.shared.pages (all_found (λ want. nat_lt want.page state.shared.pages) wants found.0 inside found.1)));
}
  where
    has : HasRightsAndRoom (own_at (acquire_step state who wants heap_line_calls outside).state who) wants 600
    has = grants_rights state order who wants heap_line_calls outside client granted

    held : List Want
    held = (own_at (acquire_step state who wants heap_line_calls outside).state who).held

pub held_lines : (state : State) → InOrder state → MakesHeldLines state
held_lines state order who wants outside line client granted few calls =
    subst (λ turn. list_all is_made (answers_of turn.state line) ≡ true) (sym whole)
    (line_made (acquire_step state who wants heap_line_calls outside).state who wants client line
    (ready_line state order who wants outside client second.0 (ap (λ turn. turn.answer) (sym whole) ∙ granted)
    (subst (λ turn. InOrder turn.state) whole (step_rights state (event.Hold who wants) outside client order)) (length line) few)
    calls)
  where
    turn_of : State → Turn
    turn_of = within (are_in_range wants) (hold_turn who wants outside)

    first : (is_live state.shared who ≡ true) × (guarded (is_live state.shared who) answer.Absent state (within (are_in_range wants) (hold_turn who wants outside))
        ≡ within (are_in_range wants) (hold_turn who wants outside) state)
    first = through (is_live state.shared who) answer.Absent state turn_of (λ is. true≢false (sym (ap is_granted is))) granted

    second : (are_in_range wants state ≡ true) × (guarded (are_in_range wants state) answer.Range state (hold_turn who wants outside) ≡ hold_turn who wants outside state)
    second =
        through (are_in_range wants state) answer.Range state (hold_turn who wants outside) (λ is. true≢false (sym (ap is_granted is)))
        (ap (λ turn. turn.answer) (sym first.1) ∙ granted)

    whole : step state (event.Hold who wants) outside ≡ acquire_step state who wants heap_line_calls outside
    whole = first.1 ∙ second.1

pub every_held_read : EachHeldReadIsMade
every_held_read vault pages limit capacity happenings named =
    held_reads (state_after (start vault pages limit capacity) happenings) (every_run_rights vault pages limit capacity happenings named)

pub every_held_write : EachHeldWriteIsMade
every_held_write vault pages limit capacity happenings named =
    held_writes (state_after (start vault pages limit capacity) happenings) (every_run_rights vault pages limit capacity happenings named)

pub every_held_line : EachHeldLineIsMade
every_held_line vault pages limit capacity happenings named =
    held_lines (state_after (start vault pages limit capacity) happenings) (every_run_rights vault pages limit capacity happenings named)
