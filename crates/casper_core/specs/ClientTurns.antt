use Rattle.std.specs.Prelude.{◌≡◌, ℕ}
use Rattle.casper_model.specs.declared.event.Event.{Event}
use Rattle.casper_model.specs.declared.event.Event.TheVariants as event
use Rattle.casper_model.specs.Outside.{Outside}
use Rattle.casper_model.specs.State.{State}
use Rattle.casper_model.specs.Step.{step, read_turn, write_turn, acquire_turn, serve_turn, stabilise_turn, lose_turn}
use Rattle.casper_model.specs.Turn.{Turn, within, is_in_range, are_in_range}

-- an event of a client in which it keeps its cache, also where another declares it lost
abbrev pub IsTurnOf : ℕ → Event → Type 0
IsTurnOf who (event.Join one) = ⊥
IsTurnOf who (event.Read one page word) = one ≡ who
IsTurnOf who (event.Write one page word value) = one ≡ who
IsTurnOf who (event.Acquire one wants) = one ≡ who
IsTurnOf who (event.Hold one wants) = ⊥
IsTurnOf who (event.Serve one) = one ≡ who
IsTurnOf who (event.Stabilise one) = one ≡ who
IsTurnOf who (event.WriteOut lead) = ⊥
IsTurnOf who (event.Finish lead) = ⊥
IsTurnOf who event.Settle = ⊥
IsTurnOf who (event.Depart one) = ⊥
IsTurnOf who (event.Vanish one) = ⊥
IsTurnOf who (event.Lose one) = one ≡ who

-- the turn that such an event is, of a client that is live
abbrev pub client_turn : ℕ → Event → Outside → State → Turn
client_turn who (event.Join one) outside state = step state (event.Join one) outside
client_turn who (event.Read one page word) outside state = within (is_in_range page word) (read_turn who page word outside) state
client_turn who (event.Write one page word value) outside state = within (is_in_range page word) (write_turn who page word value outside) state
client_turn who (event.Acquire one wants) outside state = within (are_in_range wants) (acquire_turn who wants outside) state
client_turn who (event.Serve one) outside state = serve_turn who state
client_turn who (event.Hold one wants) outside state = step state (event.Hold one wants) outside
client_turn who (event.Stabilise one) outside state = stabilise_turn who state
client_turn who (event.WriteOut lead) outside state = step state (event.WriteOut lead) outside
client_turn who (event.Finish lead) outside state = step state (event.Finish lead) outside
client_turn who event.Settle outside state = step state event.Settle outside
client_turn who (event.Depart one) outside state = step state (event.Depart one) outside
client_turn who (event.Vanish one) outside state = step state (event.Vanish one) outside
client_turn who (event.Lose one) outside state = lose_turn who state
