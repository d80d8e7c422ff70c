use Rattle.std.specs.Prelude.{ℕ, List}
use Rattle.casper_words.specs.declared.page.Want.{Want}
use Rattle.casper_words.specs.declared.page.Right.TheVariants as may
use Rattle.casper_model.specs.declared.event.Event.{Event}
use Rattle.casper_model.specs.declared.event.Event.TheVariants as event
use Rattle.casper_model.specs.Stabilise.{stabilise}
use Rattle.casper_model.specs.Join.{join}
use Rattle.casper_model.specs.Leave.{serve, depart, vanish}
use Rattle.casper_model.specs.Loss.{lose}
use Rattle.casper_model.specs.Finish.{doubtful_of}
use Rattle.casper_model.specs.Outside.{Outside}
use Rattle.casper_model.specs.State.{State, own_at, with_shared, after_turn}
use Rattle.casper_model.specs.Answers.{of_join, of_served, of_depart, of_stabilise, of_vanish, of_lose}
use Rattle.casper_model.specs.Turn.{Turn, of_live, within, is_in_range, are_in_range}
use Rattle.casper_model.specs.CallStep.{acquire_step, call_step, read_hit, write_hit}
use Rattle.casper_model.specs.WriteOutStep.{job_of, write_out_step, finish_step, settle_step}

abbrev pub join_turn : ℕ → State → Turn
join_turn who state = let turn = join state.shared (own_at state who) in record { answer = of_join turn.reply; state = after_turn state turn }

abbrev pub read_turn : ℕ → ℕ → ℕ → Outside → State → Turn
read_turn who page word outside state =
    call_step state who (record { page = page; right = may.Read }) outside (λ after. read_hit after who page word)

abbrev pub write_turn : ℕ → ℕ → ℕ → ℕ → Outside → State → Turn
write_turn who page word value outside state =
    call_step state who (record { page = page; right = may.Write }) outside (λ after. write_hit after who page word value)

abbrev pub acquire_turn : ℕ → List Want → Outside → State → Turn
acquire_turn who wants outside state = acquire_step state who wants 1 outside

-- for how many calls a heap line acquires room: none makes more
abbrev pub heap_line_calls : ℕ
heap_line_calls = 600

abbrev pub hold_turn : ℕ → List Want → Outside → State → Turn
hold_turn who wants outside state = acquire_step state who wants heap_line_calls outside

abbrev pub serve_turn : ℕ → State → Turn
serve_turn who state = let turn = serve state.shared (own_at state who) in record { answer = of_served turn.reply; state = after_turn state turn }

abbrev pub stabilise_turn : ℕ → State → Turn
stabilise_turn who state =
    let turn = stabilise state.shared (own_at state who) in record { answer = of_stabilise turn.reply; state = after_turn state turn }

abbrev pub depart_turn : ℕ → State → Turn
depart_turn who state = let turn = depart state.shared (own_at state who) in record { answer = of_depart turn.reply; state = after_turn state turn }

abbrev pub vanish_turn : ℕ → State → Turn
vanish_turn who state = let turn = vanish state.shared (own_at state who) in record { answer = of_vanish turn.reply; state = after_turn state turn }

abbrev pub lose_turn : ℕ → State → Turn
lose_turn who state = let done = lose state.shared who in record { answer = of_lose done.reply; state = with_shared state done.shared }

-- one event
abbrev pub step : State → Event → Outside → Turn
step state (event.Join who) outside = join_turn who state
step state (event.Read who page word) outside = of_live who state (within (is_in_range page word) (read_turn who page word outside))
step state (event.Write who page word value) outside = of_live who state (within (is_in_range page word) (write_turn who page word value outside))
step state (event.Acquire who wants) outside = of_live who state (within (are_in_range wants) (acquire_turn who wants outside))
step state (event.Hold who wants) outside = of_live who state (within (are_in_range wants) (hold_turn who wants outside))
step state (event.Serve who) outside = of_live who state (serve_turn who)
step state (event.Stabilise who) outside = of_live who state (stabilise_turn who)
step state (event.WriteOut lead) outside = write_out_step state outside (job_of state lead)
step state (event.Finish lead) outside = finish_step state lead state.unfinished
step state event.Settle outside = settle_step state outside (doubtful_of state.shared)
step state (event.Depart who) outside = of_live who state (depart_turn who)
step state (event.Vanish who) outside = of_live who state (vanish_turn who)
step state (event.Lose who) outside = of_live who state (lose_turn who)
