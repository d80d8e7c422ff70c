use Rattle.std.proofs.Common.{◌≡◌, ℕ, List, [], ◌++◌, Bool, true, false, cond, refl, ap, ◌∙◌}
use Rattle.casper_words.specs.declared.call.Op.TheVariants as op
use Rattle.casper_words.specs.declared.page.Right.TheVariants as may
use Rattle.casper_words.specs.declared.page.Want.{Want}
use Rattle.casper_space.specs.declared.answer.Answer.TheVariants as answer
use Rattle.casper_trail.specs.declared.item.Item.{Item}
use Rattle.casper_trail.specs.Parts.{as_items}
use Rattle.casper_model.specs.declared.event.Event.TheVariants as event
use Rattle.casper_model.specs.Answers.{of_vanish}
use Rattle.casper_model.specs.Finish.{doubtful_of}
use Rattle.casper_model.specs.Hits.{can_hit}
use Rattle.casper_model.specs.Leave.{vanish}
use Rattle.casper_model.specs.Rights.{InOrder}
use Rattle.casper_model.specs.Run.{state_after}
use Rattle.casper_model.specs.Shared.{fallen_at}
use Rattle.casper_model.specs.State.{State, own_at, start}
use Rattle.casper_model.specs.Step.{read_turn, write_turn, acquire_turn, hold_turn, heap_line_calls, serve_turn, stabilise_turn, depart_turn, vanish_turn, lose_turn}
use Rattle.casper_model.specs.Turn.{Turn, within, is_in_range, are_in_range}
use Rattle.casper_model.specs.View.{value_seen}
use Rattle.casper_model.proofs.RunRights.{every_run_rights}
use Rattle.casper_model.proofs.StepAdditions.{step_adds}
use Rattle.casper_laws.specs.Additions.{vanish_marks, AddsExactly, EachStepAddsExactly, EveryRunAddsExactly}
use Rattle.casper_laws.proofs.CompletedCalls.{live_turn, within_turn}
use Rattle.casper_laws.proofs.ExactAdditions.{none_added, acquire_step_adds, serve_step_adds, stabilise_step_adds, depart_step_adds, call_by_adds}
use Rattle.casper_laws.proofs.MarkAdditions.{vanished_adds, lose_adds, finish_step_adds, settle_step_adds}

-- a call that was refused at once adds nothing, whether it could have been a hit or not
none_if : (trail : List Item) (can : Bool) → trail ≡ trail ++ as_items (cond can [] [])
none_if trail true = none_added trail
none_if trail false = none_added trail

vanish_adds : (state : State) (who : ℕ) → InOrder state → AddsExactly state (event.Vanish who) (vanish_turn who state)
vanish_adds state who order =
    let own = own_at state who in
    vanished_adds state.shared own (fallen_at state.shared own.who) refl
    ∙ ap (λ number. state.shared.trail ++ vanish_marks state.shared number (of_vanish (vanish state.shared own).reply)) (order.shaped.numbers who)

pub step_adds_exactly : EachStepAddsExactly
step_adds_exactly state (event.Join who) outside order = step_adds state (event.Join who) outside ∙ none_added state.shared.trail
step_adds_exactly state (event.Read who page word) outside order =
    let Adds : Turn → Type 0 = AddsExactly state (event.Read who page word) in
    let want : Want = record { page = page; right = may.Read } in
    let can = can_hit (own_at state who) page may.Read in
    live_turn Adds who state (within (is_in_range page word) (read_turn who page word outside)) (none_if state.shared.trail can)
    (λ live.
    within_turn Adds (is_in_range page word) state (read_turn who page word outside) (none_if state.shared.trail can)
    (call_by_adds state who order op.Read page word want (λ after. answer.Value (value_seen after who page word)) (λ after. value_seen after who page word) (λ after. refl)
    outside can))
step_adds_exactly state (event.Write who page word value) outside order =
    let Adds : Turn → Type 0 = AddsExactly state (event.Write who page word value) in
    let want : Want = record { page = page; right = may.Write } in
    let can = can_hit (own_at state who) page may.Write in
    live_turn Adds who state (within (is_in_range page word) (write_turn who page word value outside)) (none_if state.shared.trail can)
    (λ live.
    within_turn Adds (is_in_range page word) state (write_turn who page word value outside) (none_if state.shared.trail can)
    (call_by_adds state who order op.Write page word want (λ after. answer.Ok) (λ after. value) (λ after. refl) outside can))
step_adds_exactly state (event.Acquire who wants) outside order =
    let Adds : Turn → Type 0 = AddsExactly state (event.Acquire who wants) in
    live_turn Adds who state (within (are_in_range wants) (acquire_turn who wants outside)) (none_added state.shared.trail)
    (λ live.
    within_turn Adds (are_in_range wants) state (acquire_turn who wants outside) (none_added state.shared.trail) (acquire_step_adds state who order wants 1 outside))
step_adds_exactly state (event.Hold who wants) outside order =
    let Adds : Turn → Type 0 = AddsExactly state (event.Hold who wants) in
    live_turn Adds who state (within (are_in_range wants) (hold_turn who wants outside)) (none_added state.shared.trail)
    (λ live.
    within_turn Adds (are_in_range wants) state (hold_turn who wants outside) (none_added state.shared.trail) (acquire_step_adds state who order wants heap_line_calls outside))
step_adds_exactly state (event.Serve who) outside order =
    live_turn (AddsExactly state (event.Serve who)) who state (serve_turn who) (none_added state.shared.trail) (λ live. serve_step_adds state who order)
step_adds_exactly state (event.Stabilise who) outside order =
    live_turn (AddsExactly state (event.Stabilise who)) who state (stabilise_turn who) (none_added state.shared.trail) (λ live. stabilise_step_adds state who order)
step_adds_exactly state (event.WriteOut lead) outside order = step_adds state (event.WriteOut lead) outside ∙ none_added state.shared.trail
step_adds_exactly state (event.Finish lead) outside order = finish_step_adds state lead state.unfinished
step_adds_exactly state event.Settle outside order = settle_step_adds state outside (doubtful_of state.shared)
step_adds_exactly state (event.Depart who) outside order =
    live_turn (AddsExactly state (event.Depart who)) who state (depart_turn who) (none_added state.shared.trail) (λ live. depart_step_adds state who order)
step_adds_exactly state (event.Vanish who) outside order =
    live_turn (AddsExactly state (event.Vanish who)) who state (vanish_turn who) (none_added state.shared.trail) (λ live. vanish_adds state who order)
step_adds_exactly state (event.Lose who) outside order =
    live_turn (AddsExactly state (event.Lose who)) who state (lose_turn who) (none_added state.shared.trail)
    (λ live. lose_adds state.shared who (fallen_at state.shared who))

pub every_run_adds_exactly : EveryRunAddsExactly
every_run_adds_exactly vault pages limit capacity happenings named event outside =
    step_adds_exactly (state_after (start vault pages limit capacity) happenings) event outside (every_run_rights vault pages limit capacity happenings named)
