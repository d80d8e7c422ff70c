use Rattle.std.specs.Prelude.{ℕ, List, [], Bool, false, ◌&&◌, ◌==◌, not, cond, map, find, slice_index_or, option_map, Option, None, Some}
use Rattle.std.specs.Option.{option_or}
use Rattle.casper_trail.specs.Parts.{live_entries}
use Rattle.casper_trail.specs.Image.{array_of}
use Rattle.casper_space.specs.declared.answer.Answer.{Answer}
use Rattle.casper_space.specs.declared.answer.Answer.TheVariants as answer
use Rattle.casper_model.specs.declared.outcome.Outcome.{Outcome}
use Rattle.casper_model.specs.Stabilisation.{Stabilisation, is_sealed}
use Rattle.casper_model.specs.Shared.{Shared}
use Rattle.casper_model.specs.Frozen.{members_of_stabilisation, pages_modified_by}
use Rattle.casper_model.specs.Finish.{finish, settled, doubtful_of}
use Rattle.casper_model.specs.Outside.{Outside, is_settle_failed}
use Rattle.casper_space.specs.Changes.{Change}
use Rattle.casper_model.specs.Vault.{commit, settled_vault}
use Rattle.casper_model.specs.State.{State, Unfinished}
use Rattle.casper_model.specs.Answers.{of_write_out, of_finish}
use Rattle.casper_model.specs.Turn.{Turn, guarded}

-- the changes of a write-out: the modified pages of the association, rising, with their words over the live entries
abbrev pub changes_of : State → Stabilisation → List Change
changes_of state one =
    let array = array_of state.base (live_entries state.shared.trail) in
    map (λ page. record { page = page; words = slice_index_or array page [] })
    (pages_modified_by state.shared.trail (members_of_stabilisation state.shared one))

-- the sealed stabilisation of a lead, if there is one
abbrev pub sealed_of : Shared → ℕ → Option Stabilisation
sealed_of shared lead = find (λ one. (one.lead == lead) && is_sealed one.phase) shared.stabilisations

-- whether the write-out that is unfinished is of this lead
abbrev pub is_unfinished_of : ℕ → Option Unfinished → Bool
is_unfinished_of lead None = false
is_unfinished_of lead (Some unfinished) = unfinished.lead == lead

-- the sealed stabilisation of a lead that is not written out, if there is one
abbrev pub job_of : State → ℕ → Option Stabilisation
job_of state lead = cond (is_unfinished_of lead state.unfinished) None (sealed_of state.shared lead)

-- the lead whose write-out is unfinished or in doubt, if there is one
abbrev pub busy_lead : State → Option ℕ
busy_lead state = option_or (option_map (λ one. one.lead) state.unfinished) (option_map (λ one. one.lead) (doubtful_of state.shared))

abbrev pub written_out : State → Outside → Stabilisation → Option ℕ → Turn
written_out state outside one (Some busy) = record { answer = answer.Vault busy; state = state }
written_out state outside one None =
    let written = commit state.vault (changes_of state one) outside in
    record {
      answer = of_write_out written.outcome;
      state = record state { vault = written.vault; unfinished = Some (record { lead = one.lead; outcome = written.outcome }) };
    }

abbrev pub write_out_step : State → Outside → Option Stabilisation → Turn
write_out_step state outside None = record { answer = answer.NoJob; state = state }
write_out_step state outside (Some one) = written_out state outside one (busy_lead state)

-- the finishing turn of a write-out with this outcome
abbrev pub finish_turn : ℕ → Outcome → State → Turn
finish_turn lead how state =
    let done = finish state.shared lead how in
    record { answer = of_finish done.reply; state = record state { shared = done.shared; unfinished = None } }

-- the finishing turn of the write-out that is unfinished, where it is of this lead
abbrev pub finish_step : State → ℕ → Option Unfinished → Turn
finish_step state lead None = record { answer = answer.NoJob; state = state }
finish_step state lead (Some unfinished) = guarded (unfinished.lead == lead) answer.NoJob state (finish_turn lead unfinished.outcome)

abbrev pub of_settled : Option ℕ → Answer
of_settled None = answer.Nothing
of_settled (Some mark) = answer.Commit mark

-- the vault settles, and its doubt is over
abbrev pub settle_turn : State → Turn
settle_turn state =
    let done = settled state.shared in
    record { answer = of_settled done.reply; state = record state { shared = done.shared; vault = settled_vault state.vault } }

-- the doubt of a finished write-out settled, where there is one
abbrev pub settle_step : State → Outside → Option Stabilisation → Turn
settle_step state outside None = record { answer = answer.Nothing; state = state }
settle_step state outside (Some one) = guarded (not (is_settle_failed outside)) answer.Disk state settle_turn
