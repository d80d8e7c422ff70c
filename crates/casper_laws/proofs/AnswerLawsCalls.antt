use Rattle.std.proofs.Common.{◌≡◌, ℕ, [], ◌∷◌, Bool, true, false, cond, refl, sym, arith, true≢false}
use Rattle.std.specs.Prelude.{None, Some, nat_lt, unwrap_or}
use Rattle.std.proofs.lemmas.Bool.{and_from, lt-ltb}
use Rattle.casper_words.specs.Crew.{IsClient}
use Rattle.casper_words.specs.declared.call.Op.{Op}
use Rattle.casper_words.specs.declared.page.Want.{Want}
use Rattle.casper_space.specs.declared.answer.Answer.{Answer}
use Rattle.casper_model.specs.CallStep.{hit_turn, hit_behind, call_by, call_step, acquire_step, is_granted}
use Rattle.casper_model.specs.Held.{allows}
use Rattle.casper_model.specs.Hits.{can_hit, with_call}
use Rattle.casper_model.specs.LegalHistory.{right_for}
use Rattle.casper_model.specs.Outside.{Outside}
use Rattle.casper_model.specs.Own.{Own, room_of}
use Rattle.casper_model.specs.Rights.{InOrder}
use Rattle.casper_model.specs.State.{State, own_at}
use Rattle.casper_model.specs.Turn.{Turn}
use Rattle.casper_model.proofs.StepRights.{hit_by}
use Rattle.casper_laws.specs.AnswerLaws.{HasRightsAndRoom}
use Rattle.casper_laws.proofs.AnswerLaws.{grants_rights}
use Rattle.casper_laws.proofs.ExactAdditions.{granted_is}
use Rattle.casper_turns.proofs.Lists.{contains_here}

-- with the right and the room that were wanted for a call it can be made
pub can_with : (own : Own) (want : Want) → HasRightsAndRoom own (want ∷ []) 1 → can_hit own want.page want.right ≡ true
can_with own want has =
    and_from (allows own.held want.page want.right) (nat_lt 0 (room_of own)) (has.rights want (contains_here want []))
    (lt-ltb 0 (room_of own) (let room = has.room (omega arith) in omega (arith, room)))

-- after an acquire of one page that is granted the call can be made
can_call : (state : State) (who : ℕ) (want : Want) (outside : Outside) → InOrder state → IsClient who
    → let turn = acquire_step state who (want ∷ []) 1 outside in
    is_granted turn.answer ≡ true → can_hit (own_at turn.state who) want.page want.right ≡ true
can_call state who want outside order is granted =
    let turn = acquire_step state who (want ∷ []) 1 outside in
    can_with (own_at turn.state who) want (grants_rights state order who (want ∷ []) 1 outside is (granted_is turn.answer granted))

-- what passes for each answer to a hit, and for each answer to an acquire that is not granted, passes for the answer to a call
module _ (test : Answer → Bool) (who : ℕ) (act : Op) (page word : ℕ) (given : State → Answer) (seen : State → ℕ) (made : (state : State) → test (given state) ≡ true) where
  passes_behind : (turn : Turn) → (can : Bool) → can ≡ true
      → test (unwrap_or (hit_turn turn.state (given turn.state) (cond can (Some (with_call (own_at turn.state who) act page word (seen turn.state))) None)) turn).answer ≡ true
  passes_behind turn true can = made turn.state
  passes_behind turn false can = absurd (true≢false (sym can))

  passes_granted : (turn : Turn) (granted : Bool) → is_granted turn.answer ≡ granted → (granted ≡ true → can_hit (own_at turn.state who) page (right_for act) ≡ true)
      → (is_granted turn.answer ≡ false → test turn.answer ≡ true) → test (hit_behind (hit_by who act page word (right_for act) given seen) turn granted).answer ≡ true
  passes_granted turn true is can refused = passes_behind turn (can_hit (own_at turn.state who) page (right_for act)) (can refl)
  passes_granted turn false is can refused = refused is

  module _ (state : State) (outside : Outside) (order : InOrder state) (is : IsClient who) where
    abbrev acquired : Turn
    acquired = acquire_step state who (record { page = page; right = right_for act } ∷ []) 1 outside

    passes_by : (is_granted acquired.answer ≡ false → test acquired.answer ≡ true) → (can : Bool)
        → test (call_by state who (record { page = page; right = right_for act }) outside (hit_by who act page word (right_for act) given seen)
        (hit_turn state (given state) (cond can (Some (with_call (own_at state who) act page word (seen state))) None))).answer ≡ true
    passes_by refused true = made state
    passes_by refused false =
        passes_granted acquired (is_granted acquired.answer) refl (can_call state who (record { page = page; right = right_for act }) outside order is) refused

    pub passes_call : (is_granted acquired.answer ≡ false → test acquired.answer ≡ true)
        → test (call_step state who (record { page = page; right = right_for act }) outside (hit_by who act page word (right_for act) given seen)).answer ≡ true
    passes_call refused = passes_by refused (can_hit (own_at state who) page (right_for act))
