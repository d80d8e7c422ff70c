use Rattle.std.proofs.Common.{◌≡◌, ℕ, List, [], ◌∷◌, ◌==◌, refl, true≢false}
use Rattle.std.specs.Prelude.{Option, None, Some}
use Rattle.casper_words.specs.declared.call.Op.{Op}
use Rattle.casper_words.specs.declared.call.Op.TheVariants as op
use Rattle.casper_words.specs.declared.page.Right.TheVariants as may
use Rattle.casper_words.specs.declared.page.Want.{Want}
use Rattle.casper_space.specs.declared.answer.Answer.{Answer}
use Rattle.casper_space.specs.declared.answer.Answer.TheVariants as answer
use Rattle.casper_model.specs.declared.event.Event.{Event}
use Rattle.casper_model.specs.declared.event.Event.TheVariants as event
use Rattle.casper_model.specs.CallStep.{acquire_step, call_step}
use Rattle.casper_model.specs.Hits.{can_hit}
use Rattle.casper_model.specs.LegalHistory.{right_for}
use Rattle.casper_model.specs.Outside.{Outside}
use Rattle.casper_model.specs.State.{State, Unfinished, own_at}
use Rattle.casper_model.specs.Step.{step, read_turn, write_turn, acquire_turn, hold_turn, heap_line_calls, serve_turn, stabilise_turn, depart_turn, vanish_turn, lose_turn}
use Rattle.casper_model.specs.Turn.{Turn, within, is_in_range, are_in_range}
use Rattle.casper_model.specs.View.{value_seen}
use Rattle.casper_model.specs.WriteOutStep.{finish_step, finish_turn}
use Rattle.casper_model.proofs.StepRights.{hit_by}
use Rattle.casper_laws.proofs.CompletedCalls.{guarded_turn, live_turn, within_turn, unless_turn}
use Rattle.casper_laws.proofs.HeldWordCalls.{called}
use Rattle.casper_answers.specs.Aftermath.{LeavesTheVault}

-- What leaves the vault.

module _ (state : State) (outside : Outside) where
  abbrev Left : Turn → Type 0
  Left turn = turn.state.vault ≡ state.vault

  acquire_leaves : (who : ℕ) (wants : List Want) (calls : ℕ) → Left (acquire_step state who wants calls outside)
  acquire_leaves who wants calls = unless_turn Left state _ _ refl refl

  call_leaves : (who : ℕ) (act : Op) (page word : ℕ) (given : State → Answer) (value : State → ℕ) (want : Want)
      → Left (call_step state who want outside (hit_by who act page word (right_for act) given value))
  call_leaves who act page word given value want =
      called Left who act page word given value state want outside (λ can. refl) (acquire_leaves who (want ∷ []) 1) (λ can. acquire_leaves who (want ∷ []) 1)
      (can_hit (own_at state who) page (right_for act)) refl

  finish_leaves : (lead : ℕ) (unfinished : Option Unfinished) → Left (finish_step state lead unfinished)
  finish_leaves lead None = refl
  finish_leaves lead (Some unfinished) = guarded_turn Left (unfinished.lead == lead) answer.NoJob state (finish_turn lead unfinished.outcome) refl (λ is. refl)

  pub leaves_vault : (happened : Event) → LeavesTheVault state happened outside (step state happened outside)
  leaves_vault (event.Join who) may_not = refl
  leaves_vault (event.Read who page word) may_not =
      live_turn Left who state (within (is_in_range page word) (read_turn who page word outside)) refl
      (λ live.
      within_turn Left (is_in_range page word) state (read_turn who page word outside) refl
      (call_leaves who op.Read page word (λ after. answer.Value (value_seen after who page word)) (λ after. value_seen after who page word)
      (record { page = page; right = may.Read })))
  leaves_vault (event.Write who page word value) may_not =
      live_turn Left who state (within (is_in_range page word) (write_turn who page word value outside)) refl
      (λ live.
      within_turn Left (is_in_range page word) state (write_turn who page word value outside) refl
      (call_leaves who op.Write page word (λ after. answer.Ok) (λ after. value) (record { page = page; right = may.Write })))
  leaves_vault (event.Acquire who wants) may_not =
      live_turn Left who state (within (are_in_range wants) (acquire_turn who wants outside)) refl
      (λ live. within_turn Left (are_in_range wants) state (acquire_turn who wants outside) refl (acquire_leaves who wants 1))
  leaves_vault (event.Hold who wants) may_not =
      live_turn Left who state (within (are_in_range wants) (hold_turn who wants outside)) refl
      (λ live. within_turn Left (are_in_range wants) state (hold_turn who wants outside) refl (acquire_leaves who wants heap_line_calls))
  leaves_vault (event.Serve who) may_not = live_turn Left who state (serve_turn who) refl (λ live. refl)
  leaves_vault (event.Stabilise who) may_not = live_turn Left who state (stabilise_turn who) refl (λ live. refl)
  leaves_vault (event.WriteOut lead) may_not = absurd (true≢false may_not)
  leaves_vault (event.Finish lead) may_not = finish_leaves lead state.unfinished
  leaves_vault event.Settle may_not = absurd (true≢false may_not)
  leaves_vault (event.Depart who) may_not = live_turn Left who state (depart_turn who) refl (λ live. refl)
  leaves_vault (event.Vanish who) may_not = live_turn Left who state (vanish_turn who) refl (λ live. refl)
  leaves_vault (event.Lose who) may_not = live_turn Left who state (lose_turn who) refl (λ live. refl)
