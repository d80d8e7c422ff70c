use Rattle.std.proofs.Common.{◌≡◌, ℕ, [], ◌∷◌, Bool, true, false, cond, refl}
use Rattle.std.specs.Prelude.{None, Some, unwrap_or}
use Rattle.casper_words.specs.declared.call.Op.{Op}
use Rattle.casper_words.specs.declared.page.Want.{Want}
use Rattle.casper_space.specs.declared.answer.Answer.{Answer}
use Rattle.casper_model.specs.CallStep.{hit_turn, hit_behind, call_by, acquire_step, is_granted}
use Rattle.casper_model.specs.Hits.{can_hit, with_call}
use Rattle.casper_model.specs.LegalHistory.{right_for}
use Rattle.casper_model.specs.Outside.{Outside}
use Rattle.casper_model.specs.State.{State, own_at, with_own}
use Rattle.casper_model.specs.Turn.{Turn, guarded}
use Rattle.casper_model.proofs.StepRights.{hit_by}

-- a step that a test guards
pub guarded_turn : (P : Turn → Type 0) (test : Bool) (refusal : Answer) (state : State) (turn : State → Turn) → P (record { answer = refusal; state = state })
    → (test ≡ true → P (turn state)) → P (guarded test refusal state turn)
guarded_turn P true refusal state turn stays moves = moves refl
guarded_turn P false refusal state turn stays moves = stays

-- a call by a hit, or by an acquire and the hit after it
module _ (P : Turn → Type 0) (one : ℕ) (act : Op) (page word : ℕ) (answer : State → Answer) (value : State → ℕ) where
  abbrev by_hit : State → Turn
  by_hit state = record { answer = answer state; state = with_own state (with_call (own_at state one) act page word (value state)) }

  -- what has to be shown of the hit, where it can be
  abbrev HitsWell : State → Type 0
  HitsWell state = can_hit (own_at state one) page (right_for act) ≡ true → P (by_hit state)

  hit_or : (turn : Turn) → P turn → HitsWell turn.state → (can : Bool) → can_hit (own_at turn.state one) page (right_for act) ≡ can
      → P (unwrap_or (hit_turn turn.state (answer turn.state) (cond can (Some (with_call (own_at turn.state one) act page word (value turn.state))) None)) turn)
  hit_or turn stays hits true e = hits e
  hit_or turn stays hits false e = stays

  behind : (turn : Turn) → P turn → HitsWell turn.state → (granted : Bool) → P (hit_behind (hit_by one act page word (right_for act) answer value) turn granted)
  behind turn stays hits true = hit_or turn stays hits (can_hit (own_at turn.state one) page (right_for act)) refl
  behind turn stays hits false = stays

  pub called : (state : State) (want : Want) (outside : Outside) → HitsWell state → P (acquire_step state one (want ∷ []) 1 outside)
      → HitsWell (acquire_step state one (want ∷ []) 1 outside).state → (can : Bool) → can_hit (own_at state one) page (right_for act) ≡ can
      → P (call_by state one want outside (hit_by one act page word (right_for act) answer value)
      (hit_turn state (answer state) (cond can (Some (with_call (own_at state one) act page word (value state))) None)))
  called state want outside hits acquired then_hits true e = hits e
  called state want outside hits acquired then_hits false e =
      let turn = acquire_step state one (want ∷ []) 1 outside in behind turn acquired then_hits (is_granted turn.answer)
