use Rattle.std.specs.Prelude.{ℕ, List, [], ◌∷◌, Bool, true, false, ◌&&◌, not, option_map, unwrap_or, Option, None, Some}
use Rattle.casper_words.specs.declared.page.Want.{Want}
use Rattle.casper_space.specs.declared.answer.Answer.{Answer}
use Rattle.casper_space.specs.declared.answer.Answer.TheVariants as answer
use Rattle.casper_model.specs.Own.{Own}
use Rattle.casper_model.specs.Acquire.{acquire, missing_once_opened, none_missing}
use Rattle.casper_model.specs.Hits.{hit_read, hit_write}
use Rattle.casper_model.specs.Outside.{Outside, is_load_failed}
use Rattle.casper_model.specs.State.{State, own_at, with_own, after_turn}
use Rattle.casper_model.specs.View.{value_seen}
use Rattle.casper_model.specs.Answers.{of_reply}
use Rattle.casper_model.specs.Turn.{Turn}

abbrev pub is_granted : Answer → Bool
is_granted answer.Granted = true
is_granted other = false

-- an acquire that met a failed load: where it would be granted with a page missing, nothing has changed
abbrev pub unless_load_failed : State → Bool → Turn → Turn
unless_load_failed state true turn = record { answer = answer.Disk; state = state }
unless_load_failed state false turn = turn

-- a client acquires pages, with room for so many calls
abbrev pub acquire_step : State → ℕ → List Want → ℕ → Outside → Turn
acquire_step state who wants calls outside =
    let own = own_at state who in
    let turn = acquire state.shared own wants calls in
    let answer = of_reply turn.reply in
    let failed = is_load_failed outside && (is_granted answer && not (none_missing (missing_once_opened state.shared own wants))) in
    unless_load_failed state failed (record { answer = answer; state = after_turn state turn })

-- a call by the client's own part alone, where that can be
abbrev pub hit_turn : State → Answer → Option Own → Option Turn
hit_turn state answer own = option_map (λ after. record { answer = answer; state = with_own state after }) own

abbrev pub read_hit : State → ℕ → ℕ → ℕ → Option Turn
read_hit state who page word =
    let value = value_seen state who page word in
    hit_turn state (answer.Value value) (hit_read (own_at state who) page word value)

abbrev pub write_hit : State → ℕ → ℕ → ℕ → ℕ → Option Turn
write_hit state who page word value = hit_turn state answer.Ok (hit_write (own_at state who) page word value)

-- what an acquire gave, and where it was granted the call that it was for
abbrev pub hit_behind : (State → Option Turn) → Turn → Bool → Turn
hit_behind hit turn true = unwrap_or (hit turn.state) turn
hit_behind hit turn false = turn

-- a call as a hit, and where it cannot be one, an acquire of its page and then the hit
abbrev pub call_by : State → ℕ → Want → Outside → (State → Option Turn) → Option Turn → Turn
call_by state who want outside hit (Some turn) = turn
call_by state who want outside hit None =
    let turn = acquire_step state who (want ∷ []) 1 outside in
    hit_behind hit turn (is_granted turn.answer)

abbrev pub call_step : State → ℕ → Want → Outside → (State → Option Turn) → Turn
call_step state who want outside hit = call_by state who want outside hit (hit state)
