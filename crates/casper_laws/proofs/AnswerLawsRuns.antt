use Rattle.std.proofs.Common.{◌≡◌, ℕ, Bool, true, false, not, ◌==◌, ◌&&◌, ◌||◌, refl, sym, ap, ◌∙◌, true≢false}
use Rattle.std.specs.Prelude.{Option, None, Some, is_some}
use Rattle.std.proofs.lemmas.Bool.{and_from, cond_both, or_left, or_right, false_from_ne_true}
use Rattle.casper_space.specs.declared.answer.Answer.{Answer}
use Rattle.casper_space.specs.declared.answer.Answer.TheVariants as answer
use Rattle.casper_model.specs.declared.event.Event.{Event}
use Rattle.casper_model.specs.declared.event.Event.TheVariants as event
use Rattle.casper_model.specs.declared.reply.JoinRefusal.{JoinRefusal}
use Rattle.casper_model.specs.Answers.{of_join}
use Rattle.casper_model.specs.Both.{Turned}
use Rattle.casper_model.specs.Client.{Client}
use Rattle.casper_model.specs.Join.{joined_by}
use Rattle.casper_model.specs.Outside.{Outside}
use Rattle.casper_model.specs.Own.{Own}
use Rattle.casper_model.specs.Rights.{InOrder, NamesClients}
use Rattle.casper_model.specs.Room.{free_room}
use Rattle.casper_model.specs.Run.{state_after}
use Rattle.casper_model.specs.Shared.{Shared, client_at, is_live}
use Rattle.casper_model.specs.State.{State, own_at, start}
use Rattle.casper_model.specs.Step.{step, read_turn, write_turn, acquire_turn, hold_turn, serve_turn, stabilise_turn, depart_turn, vanish_turn, lose_turn}
use Rattle.casper_model.specs.Turn.{within, is_in_range, are_in_range}
use Rattle.casper_model.proofs.RunRights.{every_run_rights}
use Rattle.casper_laws.specs.AnswerLaws.{may_answer_present, may_answer, client_of, names_pages, is_absent, is_out_of_range, is_busy, lacks, is_past, KeepsOutcomes, IsAnsweredSo, AnswersAbsentExactly, AnswersRangeExactly, AnswersBusyExactly, GrantedCallsAreMade, EveryAnswerIsOfItsEvent, EveryAbsentClientIsToldSo, EveryPagePastTheStoreIsToldSo, EveryJoinOfTheLiveIsBusy}
use Rattle.casper_laws.proofs.AnswerLawsKept.{every_kept_over}
use Rattle.casper_laws.proofs.AnswerLawsSteps.{refused_by, let_live, step_answers}

-- an event of a client that is absent
absent_step : (state : State) (event : Event) (outside : Outside) → lacks state (client_of event) ≡ true → (step state event outside).answer ≡ answer.Absent
absent_step state (event.Read who page word) outside lack =
    refused_by (is_live state.shared who) answer.Absent state (within (is_in_range page word) (read_turn who page word outside)) lack
absent_step state (event.Write who page word value) outside lack =
    refused_by (is_live state.shared who) answer.Absent state (within (is_in_range page word) (write_turn who page word value outside)) lack
absent_step state (event.Acquire who wants) outside lack =
    refused_by (is_live state.shared who) answer.Absent state (within (are_in_range wants) (acquire_turn who wants outside)) lack
absent_step state (event.Hold who wants) outside lack =
    refused_by (is_live state.shared who) answer.Absent state (within (are_in_range wants) (hold_turn who wants outside)) lack
absent_step state (event.Serve who) outside lack = refused_by (is_live state.shared who) answer.Absent state (serve_turn who) lack
absent_step state (event.Stabilise who) outside lack = refused_by (is_live state.shared who) answer.Absent state (stabilise_turn who) lack
absent_step state (event.Depart who) outside lack = refused_by (is_live state.shared who) answer.Absent state (depart_turn who) lack
absent_step state (event.Vanish who) outside lack = refused_by (is_live state.shared who) answer.Absent state (vanish_turn who) lack
absent_step state (event.Lose who) outside lack = refused_by (is_live state.shared who) answer.Absent state (lose_turn who) lack
absent_step state other outside lack = absurd (true≢false (sym lack))

-- an event of a client that is live, that names a page or a word past the store's
range_step : (state : State) (event : Event) (outside : Outside) → lacks state (client_of event) ≡ false → is_past state event ≡ true
    → (step state event outside).answer ≡ answer.Range
range_step state (event.Read who page word) outside live past =
    let turn = read_turn who page word outside in
    let_live (λ one. one.answer ≡ answer.Range) who state (within (is_in_range page word) turn) live
    (refused_by (is_in_range page word state) answer.Range state turn past)
range_step state (event.Write who page word value) outside live past =
    let turn = write_turn who page word value outside in
    let_live (λ one. one.answer ≡ answer.Range) who state (within (is_in_range page word) turn) live
    (refused_by (is_in_range page word state) answer.Range state turn past)
range_step state (event.Acquire who wants) outside live past =
    let turn = acquire_turn who wants outside in
    let_live (λ one. one.answer ≡ answer.Range) who state (within (are_in_range wants) turn) live
    (refused_by (are_in_range wants state) answer.Range state turn past)
range_step state (event.Hold who wants) outside live past =
    let turn = hold_turn who wants outside in
    let_live (λ one. one.answer ≡ answer.Range) who state (within (are_in_range wants) turn) live
    (refused_by (are_in_range wants state) answer.Range state turn past)
range_step state other outside live past = absurd (true≢false (sym past))

lacks_some : (state : State) (who : Option ℕ) → lacks state who ≡ true → is_some who ≡ true
lacks_some state None lack = lack
lacks_some state (Some who) lack = refl

past_names : (state : State) (event : Event) → is_past state event ≡ true → names_pages event ≡ true
past_names state (event.Read who page word) past = refl
past_names state (event.Write who page word value) past = refl
past_names state (event.Acquire who wants) past = refl
past_names state (event.Hold who wants) past = refl
past_names state other past = past

-- answers that tell of one thing alone
absent_is : (given : Answer) → is_absent given ≡ true → given ≡ answer.Absent
absent_is answer.Absent is = refl
absent_is other is = absurd (true≢false (sym is))

range_is : (given : Answer) → is_out_of_range given ≡ true → given ≡ answer.Range
range_is answer.Range is = refl
range_is other is = absurd (true≢false (sym is))

busy_is : (given : Answer) → is_busy given ≡ true → given ≡ answer.Busy
busy_is answer.Busy is = refl
busy_is other is = absurd (true≢false (sym is))

no_absent : (event : Event) → may_answer_present event answer.Absent ≡ false
no_absent (event.Join who) = refl
no_absent other = refl

no_range : (event : Event) → may_answer_present event answer.Range ≡ false
no_range (event.Join who) = refl
no_range other = refl

-- a join is answered that its client has joined before exactly where it is live
join_busy : (shared : Shared) (own : Own) (place : Option Client) → is_busy (of_join (joined_by shared own place).reply) ≡ is_some place
join_busy shared own (Some client) = refl
join_busy shared own None =
    cond_both {A = Turned (Option JoinRefusal)} (free_room shared == 0) _ _ (λ turn. is_busy (of_join turn.reply) ≡ false) (λ full. refl) (λ room. refl)

module _ (state : State) (outside : Outside) (order : InOrder state) (over : KeepsOutcomes state) where
  abbrev given : Event → Answer
  given event = (step state event outside).answer

  answered_so : (event : Event) → NamesClients event → (lack past : Bool) → lacks state (client_of event) ≡ lack → is_past state event ≡ past
      → may_answer event (given event) ≡ true
  answered_so event is true past e p =
      or_right (may_answer_present event (given event)) ((is_some (client_of event) && is_absent (given event)) || (names_pages event && is_out_of_range (given event)))
      (or_left (is_some (client_of event) && is_absent (given event)) (names_pages event && is_out_of_range (given event))
      (and_from (is_some (client_of event)) (is_absent (given event)) (lacks_some state (client_of event) e) (ap is_absent (absent_step state event outside e))))
  answered_so event is false true e p =
      or_right (may_answer_present event (given event)) ((is_some (client_of event) && is_absent (given event)) || (names_pages event && is_out_of_range (given event)))
      (or_right (is_some (client_of event) && is_absent (given event)) (names_pages event && is_out_of_range (given event))
      (and_from (names_pages event) (is_out_of_range (given event)) (past_names state event p) (ap is_out_of_range (range_step state event outside e p))))
  answered_so event is false false e p =
      or_left (may_answer_present event (given event)) ((is_some (client_of event) && is_absent (given event)) || (names_pages event && is_out_of_range (given event)))
      (step_answers state event outside is order over e p)

  pub answers : (event : Event) → NamesClients event → IsAnsweredSo state event (step state event outside)
  answers event is = answered_so event is (lacks state (client_of event)) (is_past state event) refl refl

  absent_so : (event : Event) → NamesClients event → (lack past : Bool) → lacks state (client_of event) ≡ lack → is_past state event ≡ past
      → is_absent (given event) ≡ lack
  absent_so event is true past e p = ap is_absent (absent_step state event outside e)
  absent_so event is false true e p = ap is_absent (range_step state event outside e p)
  absent_so event is false false e p =
      false_from_ne_true (is_absent (given event))
      (λ absent.
      true≢false (sym (step_answers state event outside is order over e p) ∙ ap (may_answer_present event) (absent_is (given event) absent) ∙ no_absent event))

  pub answers_absent : (event : Event) → NamesClients event → AnswersAbsentExactly state event (step state event outside)
  answers_absent event is = absent_so event is (lacks state (client_of event)) (is_past state event) refl refl

  range_so : (event : Event) → NamesClients event → (lack past : Bool) → lacks state (client_of event) ≡ lack → is_past state event ≡ past
      → is_out_of_range (given event) ≡ (not lack && past)
  range_so event is true past e p = ap is_out_of_range (absent_step state event outside e)
  range_so event is false true e p = ap is_out_of_range (range_step state event outside e p)
  range_so event is false false e p =
      false_from_ne_true (is_out_of_range (given event))
      (λ far.
      true≢false (sym (step_answers state event outside is order over e p) ∙ ap (may_answer_present event) (range_is (given event) far) ∙ no_range event))

  pub answers_range : (event : Event) → NamesClients event → AnswersRangeExactly state event (step state event outside)
  answers_range event is = range_so event is (lacks state (client_of event)) (is_past state event) refl refl

  pub answers_busy : (event : Event) → NamesClients event → AnswersBusyExactly state event (step state event outside)
  answers_busy (event.Join who) is =
      let own = own_at state who in
      join_busy state.shared own (client_at state.shared own.who) ∙ ap (is_live state.shared) (order.shaped.numbers who)
  answers_busy other is =
      false_from_ne_true (is_busy (given other))
      (λ busy. true≢false (sym (answers other is) ∙ ap (may_answer other) (busy_is (given other) busy)))

-- so it is in each step of every run
pub every_answer : EveryAnswerIsOfItsEvent
every_answer vault pages limit capacity happenings named event outside =
    answers (state_after (start vault pages limit capacity) happenings) outside (every_run_rights vault pages limit capacity happenings named)
    (every_kept_over vault pages limit capacity happenings named) event

pub every_absent : EveryAbsentClientIsToldSo
every_absent vault pages limit capacity happenings named event outside =
    answers_absent (state_after (start vault pages limit capacity) happenings) outside (every_run_rights vault pages limit capacity happenings named)
    (every_kept_over vault pages limit capacity happenings named) event

pub every_range : EveryPagePastTheStoreIsToldSo
every_range vault pages limit capacity happenings named event outside =
    answers_range (state_after (start vault pages limit capacity) happenings) outside (every_run_rights vault pages limit capacity happenings named)
    (every_kept_over vault pages limit capacity happenings named) event

pub every_busy : EveryJoinOfTheLiveIsBusy
every_busy vault pages limit capacity happenings named event outside =
    answers_busy (state_after (start vault pages limit capacity) happenings) outside (every_run_rights vault pages limit capacity happenings named)
    (every_kept_over vault pages limit capacity happenings named) event

-- that a page is granted is no answer to a read or a write
pub every_granted_call : GrantedCallsAreMade
every_granted_call vault pages limit capacity happenings named who page word value outside is = (
  λ granted.
      true≢false
      (sym (every_answer vault pages limit capacity happenings named (event.Read who page word) outside is) ∙ ap (may_answer (event.Read who page word)) granted),
  λ granted.
      true≢false
      (sym (every_answer vault pages limit capacity happenings named (event.Write who page word value) outside is)
      ∙ ap (may_answer (event.Write who page word value)) granted),
)
