use Rattle.std.proofs.Common.{◌≡◌, ℕ, List, ◌∷◌, [], Bool, true, false, ◌==◌, not, refl, sym, subst}
use Rattle.std.specs.Prelude.{Option, None, Some, unwrap_or}
use Rattle.std.proofs.lemmas.Bool.{cond_both}
use Rattle.casper_words.specs.declared.page.Right.TheVariants as may
use Rattle.casper_words.specs.declared.page.Want.{Want}
use Rattle.casper_trail.specs.declared.item.Item.{Item}
use Rattle.casper_space.specs.declared.answer.Answer.{Answer}
use Rattle.casper_space.specs.declared.answer.Answer.TheVariants as answer
use Rattle.casper_model.specs.declared.event.Event.TheVariants as event
use Rattle.casper_model.specs.declared.outcome.Outcome.{Outcome}
use Rattle.casper_model.specs.declared.outcome.Outcome.TheVariants as outcome
use Rattle.casper_model.specs.declared.reply.JoinRefusal.{JoinRefusal}
use Rattle.casper_model.specs.declared.reply.Loss.{Loss}
use Rattle.casper_model.specs.Client.{Client, Fallen}
use Rattle.casper_model.specs.Stabilisation.{Stabilisation, is_gathering}
use Rattle.casper_model.specs.Shared.{Shared, fallen_at, client_at, is_live}
use Rattle.casper_model.specs.Own.{Own}
use Rattle.casper_model.specs.Both.{Changed, Turned}
use Rattle.casper_model.specs.Room.{free_room}
use Rattle.casper_model.specs.Frozen.{stabilisation_of}
use Rattle.casper_model.specs.Join.{joined_by}
use Rattle.casper_model.specs.Loss.{lose_by, lost_in}
use Rattle.casper_model.specs.Leave.{vanished_by}
use Rattle.casper_model.specs.Finish.{finished_by, finished_as, failed, settled_by, stabilisation_led_by, doubtful_of}
use Rattle.casper_model.specs.Outside.{Outside, is_settle_failed}
use Rattle.casper_model.specs.Hits.{hit_read, hit_write}
use Rattle.casper_model.specs.State.{State, Unfinished, own_at}
use Rattle.casper_model.specs.View.{value_seen}
use Rattle.casper_model.specs.Turn.{Turn, guarded, of_live, within, is_in_range, are_in_range}
use Rattle.casper_model.specs.Step.{read_turn, write_turn, acquire_turn, hold_turn, heap_line_calls, serve_turn, stabilise_turn, depart_turn, vanish_turn, lose_turn}
use Rattle.casper_model.specs.CallStep.{hit_turn, hit_behind, call_by, call_step, acquire_step, unless_load_failed, is_granted}
use Rattle.casper_model.specs.WriteOutStep.{job_of, busy_lead, written_out, write_out_step, finish_turn, finish_step, settle_turn, settle_step}
use Rattle.casper_model.specs.Growth.{AddsOwn, AddsMark, EachStepExtendsTheTrail}
use Rattle.casper_model.proofs.Additions.{acquire_adds, serve_adds, stabilise_adds, depart_adds}

-- what holds of the trail before a step and of the trail after it holds after a step that a test guards
guarded_trail : (P : List Item → Type 0) (test : Bool) (refusal : Answer) (state : State) (turn : State → Turn)
    → P state.shared.trail → P (turn state).state.shared.trail → P (guarded test refusal state turn).state.shared.trail
guarded_trail P true refusal state turn stays moves = moves
guarded_trail P false refusal state turn stays moves = stays

-- a hit leaves the shared part
shared_hit : (turn : Turn) (answer : Answer) (own : Option Own) → (unwrap_or (hit_turn turn.state answer own) turn).state.shared ≡ turn.state.shared
shared_hit turn answer None = refl
shared_hit turn answer (Some own) = refl

-- an acquire and the hit after it add what the acquire added
trail_behind : (P : List Item → Type 0) (answer : State → Answer) (own : State → Option Own) (turn : Turn) (granted : Bool)
    → P turn.state.shared.trail → P (hit_behind (λ after. hit_turn after (answer after) (own after)) turn granted).state.shared.trail
trail_behind P answer own turn true holds =
    subst (λ shared. P shared.trail) (sym (shared_hit turn (answer turn.state) (own turn.state))) holds
trail_behind P answer own turn false holds = holds

trail_by : (P : List Item → Type 0) (state : State) (who : ℕ) (want : Want) (outside : Outside) (answer : State → Answer) (own : State → Option Own)
    (first : Answer) (hit : Option Own) → P state.shared.trail → P (acquire_step state who (want ∷ []) 1 outside).state.shared.trail
    → P (call_by state who want outside (λ after. hit_turn after (answer after) (own after)) (hit_turn state first hit)).state.shared.trail
trail_by P state who want outside answer own first None stays moves =
    let turn = acquire_step state who (want ∷ []) 1 outside in
    trail_behind P answer own turn (is_granted turn.answer) moves
trail_by P state who want outside answer own first (Some after) stays moves = stays

trail_unless : (P : List Item → Type 0) (state : State) (failed : Bool) (turn : Turn) → P state.shared.trail → P turn.state.shared.trail
    → P (unless_load_failed state failed turn).state.shared.trail
trail_unless P state true turn stays moves = stays
trail_unless P state false turn stays moves = moves

pub acquire_step_adds : (state : State) (who : ℕ) (wants : List Want) (calls : ℕ) (outside : Outside)
    → AddsOwn (own_at state who).who (own_at state who).pending state.shared.trail (acquire_step state who wants calls outside).state.shared.trail
acquire_step_adds state who wants calls outside =
    let own = own_at state who in
    trail_unless (AddsOwn own.who own.pending state.shared.trail) state _ _ AddsOwn.nothing (acquire_adds wants calls state.shared own)

call_step_adds : (state : State) (who : ℕ) (want : Want) (outside : Outside) (answer : State → Answer) (own : State → Option Own)
    → AddsOwn (own_at state who).who (own_at state who).pending state.shared.trail
    (call_step state who want outside (λ after. hit_turn after (answer after) (own after))).state.shared.trail
call_step_adds state who want outside answer own =
    let acting = own_at state who in
    trail_by (AddsOwn acting.who acting.pending state.shared.trail) state who want outside answer own (answer state) (own state)
    AddsOwn.nothing (acquire_step_adds state who (want ∷ []) 1 outside)

joined_adds : (shared : Shared) (own : Own) (client : Option Client) → (joined_by shared own client).shared.trail ≡ shared.trail
joined_adds shared own (Some client) = refl
joined_adds shared own None = cond_both (free_room shared == 0) _ _ (λ (turn : Turned (Option JoinRefusal)). turn.shared.trail ≡ shared.trail) (λ full. refl) (λ free. refl)

failed_adds : (shared : Shared) (one : Stabilisation) (cause : Outcome) (noted : Option ℕ) → AddsMark shared.trail (failed shared one cause noted).shared.trail
failed_adds shared one cause None = AddsMark.nothing
failed_adds shared one cause (Some lost) = AddsMark.mark _ refl

finished_adds : (shared : Shared) (one : Stabilisation) (how : Outcome) → AddsMark shared.trail (finished_as shared one how).shared.trail
finished_adds shared one (outcome.Ok version) = AddsMark.mark _ refl
finished_adds shared one (outcome.Full need free) = failed_adds shared one (outcome.Full need free) one.noted
finished_adds shared one outcome.Worn = failed_adds shared one outcome.Worn one.noted
finished_adds shared one outcome.Disk = failed_adds shared one outcome.Disk one.noted
finished_adds shared one outcome.Doubt = AddsMark.nothing

finished_by_adds : (shared : Shared) (how : Outcome) (one : Option Stabilisation) → AddsMark shared.trail (finished_by shared how one).shared.trail
finished_by_adds shared how None = AddsMark.nothing
finished_by_adds shared how (Some one) = finished_adds shared one how

finish_step_adds : (state : State) (lead : ℕ) (unfinished : Option Unfinished) → AddsMark state.shared.trail (finish_step state lead unfinished).state.shared.trail
finish_step_adds state lead None = AddsMark.nothing
finish_step_adds state lead (Some unfinished) =
    guarded_trail (AddsMark state.shared.trail) (unfinished.lead == lead) answer.NoJob state (finish_turn lead unfinished.outcome) AddsMark.nothing
    (finished_by_adds state.shared unfinished.outcome (stabilisation_led_by state.shared lead))

settled_by_adds : (shared : Shared) (one : Option Stabilisation) → AddsMark shared.trail (settled_by shared one).shared.trail
settled_by_adds shared None = AddsMark.nothing
settled_by_adds shared (Some one) = AddsMark.mark _ refl

settle_step_adds : (state : State) (outside : Outside) (one : Option Stabilisation) → AddsMark state.shared.trail (settle_step state outside one).state.shared.trail
settle_step_adds state outside None = AddsMark.nothing
settle_step_adds state outside (Some one) =
    guarded_trail (AddsMark state.shared.trail) (not (is_settle_failed outside)) answer.Disk state settle_turn AddsMark.nothing
    (settled_by_adds state.shared (doubtful_of state.shared))

lost_adds : (shared : Shared) (who unrecorded : ℕ) (one : Option Stabilisation) → AddsMark shared.trail (lost_in shared who unrecorded one).shared.trail
lost_adds shared who unrecorded None = AddsMark.mark _ refl
lost_adds shared who unrecorded (Some one) =
    cond_both (is_gathering one.phase) _ _ (λ (done : Changed Loss). AddsMark shared.trail done.shared.trail) (λ gathering. AddsMark.mark _ refl) (λ sealed. AddsMark.nothing)

lose_adds : (shared : Shared) (who : ℕ) (fallen : Option Fallen) → AddsMark shared.trail (lose_by shared who fallen).shared.trail
lose_adds shared who (Some fallen) = AddsMark.nothing
lose_adds shared who None = lost_adds shared who 0 (stabilisation_of shared who)

vanished_adds : (shared : Shared) (own : Own) (fallen : Option Fallen) → AddsMark shared.trail (vanished_by shared own fallen).shared.trail
vanished_adds shared own (Some fallen) = AddsMark.nothing
vanished_adds shared own None = lost_adds shared own.who _ (stabilisation_of shared own.who)

written_adds : (state : State) (outside : Outside) (one : Stabilisation) (busy : Option ℕ) → (written_out state outside one busy).state.shared.trail ≡ state.shared.trail
written_adds state outside one (Some other) = refl
written_adds state outside one None = refl

write_out_adds : (state : State) (outside : Outside) (one : Option Stabilisation) → (write_out_step state outside one).state.shared.trail ≡ state.shared.trail
write_out_adds state outside None = refl
write_out_adds state outside (Some one) = written_adds state outside one (busy_lead state)

-- a step of a live client adds what its turn adds
live_adds : (P : List Item → Type 0) (who : ℕ) (state : State) (turn : State → Turn) → P state.shared.trail → P (turn state).state.shared.trail
    → P (of_live who state turn).state.shared.trail
live_adds P who state turn = guarded_trail P (is_live state.shared who) answer.Absent state turn

within_adds : (P : List Item → Type 0) (test : State → Bool) (state : State) (turn : State → Turn) → P state.shared.trail → P (turn state).state.shared.trail
    → P (within test turn state).state.shared.trail
within_adds P test state turn = guarded_trail P (test state) answer.Range state turn

pub step_adds : EachStepExtendsTheTrail
step_adds state (event.Join who) outside = joined_adds state.shared (own_at state who) (client_at state.shared (own_at state who).who)
step_adds state (event.Read who page word) outside =
    let P : List Item → Type 0 = AddsOwn (own_at state who).who (own_at state who).pending state.shared.trail in
    let turn = read_turn who page word outside in
    live_adds P who state (within (is_in_range page word) turn) AddsOwn.nothing
    (within_adds P (is_in_range page word) state turn AddsOwn.nothing
    (call_step_adds state who (record { page = page; right = may.Read }) outside (λ after. answer.Value (value_seen after who page word))
    (λ after. hit_read (own_at after who) page word (value_seen after who page word))))
step_adds state (event.Write who page word value) outside =
    let P : List Item → Type 0 = AddsOwn (own_at state who).who (own_at state who).pending state.shared.trail in
    let turn = write_turn who page word value outside in
    live_adds P who state (within (is_in_range page word) turn) AddsOwn.nothing
    (within_adds P (is_in_range page word) state turn AddsOwn.nothing
    (call_step_adds state who (record { page = page; right = may.Write }) outside (λ after. answer.Ok) (λ after. hit_write (own_at after who) page word value)))
step_adds state (event.Acquire who wants) outside =
    let P : List Item → Type 0 = AddsOwn (own_at state who).who (own_at state who).pending state.shared.trail in
    let turn = acquire_turn who wants outside in
    live_adds P who state (within (are_in_range wants) turn) AddsOwn.nothing
    (within_adds P (are_in_range wants) state turn AddsOwn.nothing (acquire_step_adds state who wants 1 outside))
step_adds state (event.Hold who wants) outside =
    let P : List Item → Type 0 = AddsOwn (own_at state who).who (own_at state who).pending state.shared.trail in
    let turn = hold_turn who wants outside in
    live_adds P who state (within (are_in_range wants) turn) AddsOwn.nothing
    (within_adds P (are_in_range wants) state turn AddsOwn.nothing (acquire_step_adds state who wants heap_line_calls outside))
step_adds state (event.Serve who) outside =
    live_adds (AddsOwn (own_at state who).who (own_at state who).pending state.shared.trail) who state (serve_turn who) AddsOwn.nothing
    (serve_adds state.shared (own_at state who))
step_adds state (event.Stabilise who) outside =
    live_adds (AddsOwn (own_at state who).who (own_at state who).pending state.shared.trail) who state (stabilise_turn who) AddsOwn.nothing
    (stabilise_adds state.shared (own_at state who))
step_adds state (event.WriteOut lead) outside = write_out_adds state outside (job_of state lead)
step_adds state (event.Finish lead) outside = finish_step_adds state lead state.unfinished
step_adds state event.Settle outside = settle_step_adds state outside (doubtful_of state.shared)
step_adds state (event.Depart who) outside =
    live_adds (AddsOwn (own_at state who).who (own_at state who).pending state.shared.trail) who state (depart_turn who) AddsOwn.nothing
    (depart_adds state.shared (own_at state who))
step_adds state (event.Vanish who) outside =
    live_adds (AddsMark state.shared.trail) who state (vanish_turn who) AddsMark.nothing
    (vanished_adds state.shared (own_at state who) (fallen_at state.shared (own_at state who).who))
step_adds state (event.Lose who) outside =
    live_adds (AddsMark state.shared.trail) who state (lose_turn who) AddsMark.nothing (lose_adds state.shared who (fallen_at state.shared who))
