use Rattle.std.proofs.Common.{◌≡◌, ℕ, List, [], ◌∷◌, Bool, true, false, not, ◌==◌, length, refl, sym, true≢false}
use Rattle.std.specs.Prelude.{Option, None, Some}
use Rattle.std.proofs.lemmas.Bool.{cond_both}
use Rattle.casper_words.specs.declared.call.Op.TheVariants as op
use Rattle.casper_words.specs.declared.page.Right.TheVariants as may
use Rattle.casper_words.specs.declared.page.Want.{Want}
use Rattle.casper_space.specs.declared.answer.Answer.{Answer}
use Rattle.casper_space.specs.declared.answer.Answer.TheVariants as answer
use Rattle.casper_model.specs.declared.event.Event.{Event}
use Rattle.casper_model.specs.declared.event.Event.TheVariants as event
use Rattle.casper_model.specs.declared.outcome.Kept.{Kept}
use Rattle.casper_model.specs.declared.outcome.Kept.TheVariants as kept
use Rattle.casper_model.specs.declared.outcome.Outcome.{Outcome}
use Rattle.casper_model.specs.declared.outcome.Outcome.TheVariants as outcome
use Rattle.casper_model.specs.declared.reply.JoinRefusal.{JoinRefusal}
use Rattle.casper_model.specs.declared.reply.Loss.{Loss}
use Rattle.casper_model.specs.declared.reply.Loss.TheVariants as loss
use Rattle.casper_model.specs.declared.reply.Reply.{Reply}
use Rattle.casper_model.specs.declared.reply.Reply.TheVariants as reply
use Rattle.casper_model.specs.declared.reply.StabReply.{StabReply}
use Rattle.casper_model.specs.Acquire.{acquire}
use Rattle.casper_model.specs.Answers.{of_join, of_reply, of_served, of_depart, of_stabilise, of_write_out, of_finish, of_vanish, of_lose}
use Rattle.casper_model.specs.Both.{Both, Changed, Turned}
use Rattle.casper_model.specs.CallStep.{acquire_step, is_granted}
use Rattle.casper_model.specs.Client.{Client, Fallen}
use Rattle.casper_model.specs.Finish.{finished_by, failed, settled_by, stabilisation_led_by, doubtful_of}
use Rattle.casper_model.specs.Frozen.{stabilisation_of}
use Rattle.casper_model.specs.Join.{joined_by}
use Rattle.casper_model.specs.Leave.{served_by, departed_by, vanished_by}
use Rattle.casper_model.specs.Loss.{lost_in, lose_by}
use Rattle.casper_model.specs.Opening.{opened}
use Rattle.casper_model.specs.Outside.{Outside, is_settle_failed}
use Rattle.casper_model.specs.Own.{Own}
use Rattle.casper_model.specs.Rights.{InOrder, NamesClients}
use Rattle.casper_model.specs.Room.{free_room}
use Rattle.casper_model.specs.Shared.{Shared, client_at, fallen_at, is_live}
use Rattle.casper_model.specs.Stabilisation.{Stabilisation, Phase, Gathering, Sealed, Doubtful, is_empty, is_gathering}
use Rattle.casper_model.specs.Stabilise.{stabilised_by, stabilised, stabilised_in, kept_at, reply_of_kept, reply_in_phase, reply_awaiting}
use Rattle.casper_model.specs.State.{State, Unfinished, own_at}
use Rattle.casper_model.specs.Step.{step, read_turn, write_turn, acquire_turn, hold_turn, heap_line_calls, serve_turn, stabilise_turn, depart_turn, vanish_turn, lose_turn}
use Rattle.casper_model.specs.Turn.{Turn, guarded, of_live, within, is_in_range, are_in_range}
use Rattle.casper_model.specs.View.{value_seen}
use Rattle.casper_model.specs.WriteOutStep.{job_of, busy_lead, written_out, write_out_step, finish_turn, finish_step, of_settled, settle_turn, settle_step}
use Rattle.casper_laws.specs.AnswerLaws.{may_refuse_pages, may_answer_join, may_answer_read, may_answer_write, may_answer_acquire, may_answer_serve, may_answer_stabilise, may_answer_write_out, may_answer_finish, may_answer_settle, may_answer_depart, may_answer_vanish, may_answer_lose, may_answer_present, client_of, lacks, is_past, is_over, KeepsOutcomes}
use Rattle.casper_laws.proofs.AnswerLawsCalls.{passes_call}
use Rattle.casper_laws.proofs.CompletedCalls.{guarded_turn, unless_turn}

-- a step that nothing refuses, and one that a test refuses
let_be : (P : Turn → Type 0) (test : Bool) (refusal : Answer) (state : State) (turn : State → Turn) → not test ≡ false → P (turn state) → P (guarded test refusal state turn)
let_be P true refusal state turn passed is = is
let_be P false refusal state turn passed is = absurd (true≢false passed)

pub refused_by : (test : Bool) (refusal : Answer) (state : State) (turn : State → Turn) → not test ≡ true → (guarded test refusal state turn).answer ≡ refusal
refused_by true refusal state turn refuses = absurd (true≢false (sym refuses))
refused_by false refusal state turn refuses = refl

pub let_live : (P : Turn → Type 0) (who : ℕ) (state : State) (turn : State → Turn) → not (is_live state.shared who) ≡ false → P (turn state) → P (of_live who state turn)
let_live P who state turn = let_be P (is_live state.shared who) answer.Absent state turn

-- an acquire is answered that it is granted, or by a refusal
reply_answers : (given : Reply) → is_granted (of_reply given) ≡ false → may_refuse_pages (of_reply given) ≡ true
reply_answers reply.Granted refused = absurd (true≢false refused)
reply_answers (reply.Pending blockers) refused = refl
reply_answers (reply.Frozen lead) refused = refl
reply_answers reply.InDoubt refused = refl
reply_answers (reply.RolledBack mark recorded unrecorded) refused = refl
reply_answers (reply.TrailFull entries) refused = refl
reply_answers (reply.Load page marks) refused = refl

acquire_answers : (state : State) (who : ℕ) (wants : List Want) (calls : ℕ) (outside : Outside)
    → is_granted (acquire_step state who wants calls outside).answer ≡ false → may_refuse_pages (acquire_step state who wants calls outside).answer ≡ true
acquire_answers state who wants calls outside =
    unless_turn (λ turn. is_granted turn.answer ≡ false → may_refuse_pages turn.answer ≡ true) state _ _ (λ refused. refl)
    (reply_answers (acquire state.shared (own_at state who) wants calls).reply)

read_refused : (given : Answer) → may_refuse_pages given ≡ true → may_answer_read given ≡ true
read_refused (answer.Value value) refuses = refl
read_refused other refuses = refuses

write_refused : (given : Answer) → may_refuse_pages given ≡ true → may_answer_write given ≡ true
write_refused answer.Ok refuses = refl
write_refused other refuses = refuses

acquire_refused : (given : Answer) → (is_granted given ≡ false → may_refuse_pages given ≡ true) → may_answer_acquire given ≡ true
acquire_refused answer.Granted refuses = refl
acquire_refused other refuses = refuses refl

-- a join
join_answers : (shared : Shared) (own : Own) (place : Option Client) → may_answer_join (of_join (joined_by shared own place).reply) ≡ true
join_answers shared own (Some client) = refl
join_answers shared own None =
    cond_both {A = Turned (Option JoinRefusal)} (free_room shared == 0) _ _ (λ turn. may_answer_join (of_join turn.reply) ≡ true) (λ full. refl) (λ room. refl)

-- a serve and a departure
serve_answers : (shared : Shared) (own : Own) (fallen : Option Fallen) → may_answer_serve (of_served (served_by shared own fallen).reply) ≡ true
serve_answers shared own (Some fallen) = refl
serve_answers shared own None = refl

depart_answers : (shared : Shared) (own : Own) (fallen : Option Fallen) → may_answer_depart (of_depart (departed_by shared own fallen).reply) ≡ true
depart_answers shared own (Some fallen) = refl
depart_answers shared own None = refl

-- a stabilise
kept_answers : (outcome : Kept) → is_over outcome ≡ true → may_answer_stabilise (of_stabilise (reply_of_kept outcome)) ≡ true
kept_answers (kept.Committed mark) over = refl
kept_answers (kept.Failed (outcome.Ok version)) over = absurd (true≢false (sym over))
kept_answers (kept.Failed (outcome.Full need free)) over = refl
kept_answers (kept.Failed outcome.Worn) over = refl
kept_answers (kept.Failed outcome.Disk) over = refl
kept_answers (kept.Failed outcome.Doubt) over = absurd (true≢false (sym over))

phase_answers : (one : Stabilisation) (phase : Phase) → may_answer_stabilise (of_stabilise (reply_in_phase one phase)) ≡ true
phase_answers one Gathering = refl
phase_answers one Sealed = refl
phase_answers one Doubtful = refl

awaiting_answers : (awaited : List ℕ) (pages : ℕ) → may_answer_stabilise (of_stabilise (reply_awaiting awaited pages)) ≡ true
awaiting_answers awaited pages =
    cond_both {A = StabReply} (is_empty awaited) _ _ (λ given. may_answer_stabilise (of_stabilise given) ≡ true) (λ none. refl) (λ some. refl)

stabilised_answers : (both : Both) (outcome : Option Kept) → ((one : Kept) → outcome ≡ Some one → is_over one ≡ true)
    → may_answer_stabilise (of_stabilise (stabilised both outcome).reply) ≡ true
stabilised_answers both (Some outcome) over = kept_answers outcome (over outcome refl)
stabilised_answers both None over = by_one (stabilisation_of both.shared both.own.who)
  where
    by_one : (one : Option Stabilisation) → may_answer_stabilise (of_stabilise (stabilised_in both one).reply) ≡ true
    by_one None = awaiting_answers _ _
    by_one (Some one) = phase_answers one one.phase

stabilise_answers : (state : State) → KeepsOutcomes state → (own : Own) (fallen : Option Fallen)
    → may_answer_stabilise (of_stabilise (stabilised_by state.shared own fallen).reply) ≡ true
stabilise_answers state over own (Some fallen) = refl
stabilise_answers state over own None = stabilised_answers (opened state.shared own) (kept_at state.shared own.who) (over own.who)

-- a write-out, a finish and a settle
outcome_answers : (how : Outcome) → may_answer_write_out (of_write_out how) ≡ true
outcome_answers (outcome.Ok version) = refl
outcome_answers (outcome.Full need free) = refl
outcome_answers outcome.Worn = refl
outcome_answers outcome.Disk = refl
outcome_answers outcome.Doubt = refl

write_out_answers : (state : State) (outside : Outside) (one : Option Stabilisation) → may_answer_write_out (write_out_step state outside one).answer ≡ true
write_out_answers state outside None = refl
write_out_answers state outside (Some one) = by_busy (busy_lead state)
  where
    by_busy : (busy : Option ℕ) → may_answer_write_out (written_out state outside one busy).answer ≡ true
    by_busy (Some lead) = refl
    by_busy None = outcome_answers _

failed_answers : (shared : Shared) (one : Stabilisation) (cause : Outcome) (noted : Option ℕ) → is_over (kept.Failed cause) ≡ true
    → may_answer_finish (of_finish (Some (failed shared one cause noted).reply)) ≡ true
failed_answers shared one cause (Some lost) over = refl
failed_answers shared one (outcome.Ok version) None over = absurd (true≢false (sym over))
failed_answers shared one (outcome.Full need free) None over = refl
failed_answers shared one outcome.Worn None over = refl
failed_answers shared one outcome.Disk None over = refl
failed_answers shared one outcome.Doubt None over = absurd (true≢false (sym over))

finished_answers : (shared : Shared) (how : Outcome) (one : Option Stabilisation) → may_answer_finish (of_finish (finished_by shared how one).reply) ≡ true
finished_answers shared how None = refl
finished_answers shared (outcome.Ok version) (Some one) = refl
finished_answers shared (outcome.Full need free) (Some one) = failed_answers shared one (outcome.Full need free) one.noted refl
finished_answers shared outcome.Worn (Some one) = failed_answers shared one outcome.Worn one.noted refl
finished_answers shared outcome.Disk (Some one) = failed_answers shared one outcome.Disk one.noted refl
finished_answers shared outcome.Doubt (Some one) = refl

finish_answers : (state : State) (lead : ℕ) (unfinished : Option Unfinished) → may_answer_finish (finish_step state lead unfinished).answer ≡ true
finish_answers state lead None = refl
finish_answers state lead (Some unfinished) =
    guarded_turn (λ turn. may_answer_finish turn.answer ≡ true) (unfinished.lead == lead) answer.NoJob state (finish_turn lead unfinished.outcome) refl
    (λ same. finished_answers state.shared unfinished.outcome (stabilisation_led_by state.shared lead))

settled_answers : (shared : Shared) (one : Option Stabilisation) → may_answer_settle (of_settled (settled_by shared one).reply) ≡ true
settled_answers shared None = refl
settled_answers shared (Some one) = refl

settle_answers : (state : State) (outside : Outside) (one : Option Stabilisation) → may_answer_settle (settle_step state outside one).answer ≡ true
settle_answers state outside None = refl
settle_answers state outside (Some one) =
    guarded_turn (λ turn. may_answer_settle turn.answer ≡ true) (not (is_settle_failed outside)) answer.Disk state settle_turn refl
    (λ settles. settled_answers state.shared (doubtful_of state.shared))

-- a client that vanishes or is declared lost
lost_answers : (test : Loss → Bool) (shared : Shared) (who unrecorded : ℕ) → ((mark : ℕ) → test (loss.Lost mark unrecorded) ≡ true)
    → ((lead : ℕ) → test (loss.Noted lead unrecorded) ≡ true) → (one : Option Stabilisation) → test (lost_in shared who unrecorded one).reply ≡ true
lost_answers test shared who unrecorded lost noted None = lost (length shared.trail)
lost_answers test shared who unrecorded lost noted (Some one) =
    cond_both {A = Changed Loss} (is_gathering one.phase) _ _ (λ done. test done.reply ≡ true) (λ gathering. lost (length shared.trail)) (λ other. noted one.lead)

vanish_answers : (shared : Shared) (own : Own) (fallen : Option Fallen) → may_answer_vanish (of_vanish (vanished_by shared own fallen).reply) ≡ true
vanish_answers shared own (Some fallen) = refl
vanish_answers shared own None =
    lost_answers (λ given. may_answer_vanish (of_vanish given)) shared own.who (length own.pending) (λ mark. refl) (λ lead. refl) (stabilisation_of shared own.who)

lose_answers : (shared : Shared) (who : ℕ) (fallen : Option Fallen) → may_answer_lose (of_lose (lose_by shared who fallen).reply) ≡ true
lose_answers shared who (Some fallen) = refl
lose_answers shared who None =
    lost_answers (λ given. may_answer_lose (of_lose given)) shared who 0 (λ mark. refl) (λ lead. refl) (stabilisation_of shared who)

-- where no client that has to be live is absent, and no page or word is out of range, a step is answered as its event may be
pub step_answers : (state : State) (event : Event) (outside : Outside) → NamesClients event → InOrder state → KeepsOutcomes state
    → lacks state (client_of event) ≡ false → is_past state event ≡ false → may_answer_present event (step state event outside).answer ≡ true
step_answers state (event.Join who) outside is order over live inside =
    let own = own_at state who in join_answers state.shared own (client_at state.shared own.who)
step_answers state (event.Read who page word) outside is order over live inside =
    let turn = read_turn who page word outside in
    let_live (λ one. may_answer_read one.answer ≡ true) who state (within (is_in_range page word) turn) live
    (let_be (λ one. may_answer_read one.answer ≡ true) (is_in_range page word state) answer.Range state turn inside
    (passes_call may_answer_read who op.Read page word (λ after. answer.Value (value_seen after who page word)) (λ after. value_seen after who page word)
    (λ after. refl) state outside order is
    (λ refused. read_refused _ (acquire_answers state who (record { page = page; right = may.Read } ∷ []) 1 outside refused))))
step_answers state (event.Write who page word value) outside is order over live inside =
    let turn = write_turn who page word value outside in
    let_live (λ one. may_answer_write one.answer ≡ true) who state (within (is_in_range page word) turn) live
    (let_be (λ one. may_answer_write one.answer ≡ true) (is_in_range page word state) answer.Range state turn inside
    (passes_call may_answer_write who op.Write page word (λ after. answer.Ok) (λ after. value) (λ after. refl) state outside order is
    (λ refused. write_refused _ (acquire_answers state who (record { page = page; right = may.Write } ∷ []) 1 outside refused))))
step_answers state (event.Acquire who wants) outside is order over live inside =
    let turn = acquire_turn who wants outside in
    let_live (λ one. may_answer_acquire one.answer ≡ true) who state (within (are_in_range wants) turn) live
    (let_be (λ one. may_answer_acquire one.answer ≡ true) (are_in_range wants state) answer.Range state turn inside
    (acquire_refused _ (acquire_answers state who wants 1 outside)))
step_answers state (event.Hold who wants) outside is order over live inside =
    let turn = hold_turn who wants outside in
    let_live (λ one. may_answer_acquire one.answer ≡ true) who state (within (are_in_range wants) turn) live
    (let_be (λ one. may_answer_acquire one.answer ≡ true) (are_in_range wants state) answer.Range state turn inside
    (acquire_refused _ (acquire_answers state who wants heap_line_calls outside)))
step_answers state (event.Serve who) outside is order over live inside =
    let own = own_at state who in
    let_live (λ one. may_answer_serve one.answer ≡ true) who state (serve_turn who) live (serve_answers state.shared own (fallen_at state.shared own.who))
step_answers state (event.Stabilise who) outside is order over live inside =
    let own = own_at state who in
    let_live (λ one. may_answer_stabilise one.answer ≡ true) who state (stabilise_turn who) live (stabilise_answers state over own (fallen_at state.shared own.who))
step_answers state (event.WriteOut lead) outside is order over live inside = write_out_answers state outside (job_of state lead)
step_answers state (event.Finish lead) outside is order over live inside = finish_answers state lead state.unfinished
step_answers state event.Settle outside is order over live inside = settle_answers state outside (doubtful_of state.shared)
step_answers state (event.Depart who) outside is order over live inside =
    let own = own_at state who in
    let_live (λ one. may_answer_depart one.answer ≡ true) who state (depart_turn who) live (depart_answers state.shared own (fallen_at state.shared own.who))
step_answers state (event.Vanish who) outside is order over live inside =
    let own = own_at state who in
    let_live (λ one. may_answer_vanish one.answer ≡ true) who state (vanish_turn who) live (vanish_answers state.shared own (fallen_at state.shared own.who))
step_answers state (event.Lose who) outside is order over live inside =
    let_live (λ one. may_answer_lose one.answer ≡ true) who state (lose_turn who) live (lose_answers state.shared who (fallen_at state.shared who))
