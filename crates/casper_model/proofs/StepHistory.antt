use Rattle.std.proofs.Common.{◌≡◌, ◌≢◌, ℕ, List, [], ◌∷◌, ◌++◌, Bool, true, false, cond, refl, sym, ap, ◌∙◌, subst, ⊎_elim}
use Rattle.std.specs.Prelude.{Option, None, Some, unwrap_or, nat_lt}
use Rattle.std.proofs.lemmas.Bool.{and_parts}
use Rattle.std.proofs.lemmas.List.{map-append}
use Rattle.casper_words.specs.Crew.{IsClient}
use Rattle.casper_words.specs.declared.call.Op.{Op}
use Rattle.casper_words.specs.declared.call.Op.TheVariants as op
use Rattle.casper_words.specs.declared.call.Call.{Call}
use Rattle.casper_words.specs.declared.page.Right.TheVariants as may
use Rattle.casper_words.specs.declared.page.Want.{Want}
use Rattle.casper_trail.specs.declared.entry.Entry.{Entry}
use Rattle.casper_trail.specs.declared.item.Item.{Item}
use Rattle.casper_trail.specs.Value.{value_of}
use Rattle.casper_trail.specs.Parts.{live_entries}
use Rattle.casper_trail.specs.Calls.{entry_by, entries_by}
use Rattle.casper_trail.specs.Legal.{IfRead, AreRightAfter}
use Rattle.casper_trail.proofs.LinkLists.{contains_push}
use Rattle.casper_trail.proofs.Pages.{right_joined}
use Rattle.casper_space.specs.declared.answer.Answer.{Answer}
use Rattle.casper_model.specs.Held.{allows, with_first}
use Rattle.casper_model.specs.Client.{Client, Fallen}
use Rattle.casper_model.specs.Shared.{Shared, client_at, fallen_at, of_client, is_live}
use Rattle.casper_model.specs.Own.{Own, room_of}
use Rattle.casper_model.specs.Both.{Turned}
use Rattle.casper_model.specs.Opening.{told_of_fall}
use Rattle.casper_model.specs.Hits.{can_hit, with_call}
use Rattle.casper_model.specs.Outside.{Outside}
use Rattle.casper_model.specs.State.{State, own_at, with_own, after_turn}
use Rattle.casper_model.specs.View.{value_seen, seen_by}
use Rattle.casper_model.specs.Turn.{Turn}
use Rattle.casper_model.specs.CallStep.{hit_turn, hit_behind, call_by, call_step, acquire_step, is_granted}
use Rattle.casper_model.specs.LegalHistory.{right_for, CallIsHeld, IsGoodNow, IsGoodUnlessFallen, IsGood, HasLegalHistory, HasHistory}
use Rattle.casper_model.proofs.Places.{client_unchanged}
use Rattle.casper_model.proofs.GrantedRights.{first_allows_the_same}
use Rattle.casper_model.proofs.TurnRights.{up_as_it_stands}
use Rattle.casper_model.proofs.StepRights.{stands_at, ordered_call}
use Rattle.casper_model.proofs.TurnHistory.{Records}
use Rattle.casper_model.proofs.StateHistory.{history_after, in_owns, history_recorded, history_emptied}

-- a turn whose client had fallen, or records
pub history_turn : {R : Type 0} (state : State) (who : ℕ) (turn : Option Fallen → Turned R) → HasHistory state → IsClient who → (live : is_live state.shared who ≡ true)
    → ((fallen : Fallen) → (turn (Some fallen)).shared ≡ (told_of_fall state.shared (own_at state who)).shared)
    → ((fallen : Fallen) → (turn (Some fallen)).own ≡ (told_of_fall state.shared (own_at state who)).own)
    → (fallen_at state.shared (own_at state who).who ≡ None → (number : ℕ) → number ≢ (own_at state who).who → client_at (turn None).shared number ≡ client_at state.shared number)
    → Records state.shared (own_at state who) (turn None).shared (turn None).own
    → (fallen : Option Fallen) → fallen_at state.shared (own_at state who).who ≡ fallen → HasLegalHistory (after_turn state (turn fallen))
history_turn state who turn has is live shared own others records (Some fallen) e =
    let change : Client → Client = λ client. record client { kept = None; fallen = None } in
    history_emptied state who (turn (Some fallen)).shared (turn (Some fallen)).own has.order has.history is
    (ap (λ (one : Own). one.who) (own fallen)) (ap (λ (one : Own). one.pending) (own fallen)) (ap (λ (one : Own). one.held) (own fallen))
    (ap (λ (one : Shared). one.trail) (shared fallen))
    (λ number apart. ap (λ one. client_at one number) (shared fallen) ∙ client_unchanged (own_at state who).who change state.shared number apart)
history_turn state who turn has is live shared own others records None e =
    history_recorded state who (turn None).shared (turn None).own has.order has.exact.clients has.history is
    (up_as_it_stands state.shared (own_at state who) (stands_at state who has.order live) e) (others e) records

-- the entries that a client sees which is not fallen
seen_up : (shared : Shared) (fallen : Option Fallen) → fallen ≡ None → seen_by shared fallen ≡ live_entries shared.trail
seen_up shared fallen up = ap (seen_by shared) up

good_with_call : (base : List (List ℕ)) (trail : List Item) (own : Own) (act : Op) (page word value : ℕ) → IsGoodNow base trail own
    → allows own.held page (right_for act) ≡ true → IfRead act (value ≡ value_of base (live_entries trail ++ entries_by own.who own.pending) page word)
    → IsGoodNow base trail (with_call own act page word value)
good_with_call base trail own act page word value good held right = record {
  held = λ one inside.
      ⊎_elim
      (λ old. first_allows_the_same page own.held one.page (right_for one.op) ∙ good.held one old)
      (λ is. subst (CallIsHeld (with_first page own.held)) is (first_allows_the_same page own.held page (right_for act) ∙ held))
      (contains_push own.pending call one inside);
  right =
      subst (AreRightAfter base (live_entries trail)) (sym (map-append (entry_by own.who) own.pending (call ∷ [])))
      (right_joined base (live_entries trail) (entries_by own.who own.pending) (entry_by own.who call ∷ []) good.right (right, tt));
  writers = λ at found. good.writers at (sym (first_allows_the_same page own.held at may.Read) ∙ found);
}
  where
    call : Call
    call = record { op = act; page = page; word = word; value = value }

-- a hit
history_call : (state : State) (who : ℕ) (act : Op) (page word value : ℕ) → HasHistory state → IsClient who → can_hit (own_at state who) page (right_for act) ≡ true
    → IfRead act (value ≡ value_seen state who page word)
    → HasHistory (with_own state (with_call (own_at state who) act page word value))
history_call state who act page word value has is can seen = record {
  order = ordered_call state who act page word value (right_for act) has.order is can;
  exact = has.exact;
  history =
      history_after state after state.shared (in_owns state who after has.order is refl) has.history.legal
      (subst (λ number. IsGood state.base state.shared.trail (client_at state.shared number) after) (sym (has.order.shaped.numbers who))
      (by_place (client_at state.shared who) refl (has.history.good who)))
      (λ number apart. has.history.good number);
}
  where
    own : Own
    own = own_at state who

    after : Own
    after = with_call own act page word value

    held : allows own.held page (right_for act) ≡ true
    held = (and_parts (allows own.held page (right_for act)) (nat_lt 0 (room_of own)) can).0

    read_value : (act' : Op) → (view view' : List Entry) → view ≡ view' → IfRead act' (value ≡ value_of state.base view page word)
        → IfRead act' (value ≡ value_of state.base view' page word)
    read_value op.Read view view' same is_value = is_value ∙ ap (λ entries. value_of state.base entries page word) same
    read_value op.Write view view' same is_value = tt
    read_value op.Touch view view' same is_value = tt

    by_place : (place : Option Client) → client_at state.shared who ≡ place → IsGood state.base state.shared.trail place own
        → IsGood state.base state.shared.trail place after
    by_place None e good = tt
    by_place (Some client) e good = by_fallen client.fallen refl good
      where
        by_fallen : (fallen : Option Fallen) → client.fallen ≡ fallen → IsGoodUnlessFallen state.base state.shared.trail own fallen
            → IsGoodUnlessFallen state.base state.shared.trail after fallen
        by_fallen None up good_one =
            let none : fallen_at state.shared own.who ≡ None =
            ap (fallen_at state.shared) (has.order.shaped.numbers who) ∙ ap (of_client None (λ client. client.fallen)) e ∙ up in
            good_with_call state.base state.shared.trail own act page word value good_one held
            (read_value act (seen_by state.shared (fallen_at state.shared own.who) ++ entries_by own.who own.pending)
            (live_entries state.shared.trail ++ entries_by own.who own.pending)
            (ap (λ front. front ++ entries_by own.who own.pending) (seen_up state.shared (fallen_at state.shared own.who) none)) seen)
        by_fallen (Some fallen) fell good_one = tt

-- a call by a hit, or by an acquire and the hit after it
abbrev pub hits : ℕ → Op → ℕ → ℕ → (State → Answer) → (State → ℕ) → State → Option Turn
hits who act page word answer value after =
    hit_turn after (answer after) (cond (can_hit (own_at after who) page (right_for act)) (Some (with_call (own_at after who) act page word (value after))) None)

module _ (who : ℕ) (act : Op) (page word : ℕ) (answer : State → Answer) (value : State → ℕ) (is : IsClient who)
    (seen : (state : State) → IfRead act (value state ≡ value_seen state who page word)) where
  history_hit : (turn : Turn) → HasHistory turn.state → (can : Bool) → can_hit (own_at turn.state who) page (right_for act) ≡ can
      → HasHistory (unwrap_or (hit_turn turn.state (answer turn.state) (cond can (Some (with_call (own_at turn.state who) act page word (value turn.state))) None)) turn).state
  history_hit turn has true e = history_call turn.state who act page word (value turn.state) has is e (seen turn.state)
  history_hit turn has false e = has

  history_behind : (turn : Turn) (granted : Bool) → HasHistory turn.state → HasHistory (hit_behind (hits who act page word answer value) turn granted).state
  history_behind turn true has = history_hit turn has (can_hit (own_at turn.state who) page (right_for act)) refl
  history_behind turn false has = has

  history_by_hit : (state : State) (want : Want) (outside : Outside) → HasHistory state → HasHistory (acquire_step state who (want ∷ []) 1 outside).state
      → (can : Bool) → can_hit (own_at state who) page (right_for act) ≡ can
      → HasHistory (call_by state who want outside (hits who act page word answer value)
      (hit_turn state (answer state) (cond can (Some (with_call (own_at state who) act page word (value state))) None))).state
  history_by_hit state want outside has acquired true e = history_call state who act page word (value state) has is e (seen state)
  history_by_hit state want outside has acquired false e =
      let turn = acquire_step state who (want ∷ []) 1 outside in history_behind turn (is_granted turn.answer) acquired

  pub history_call_step : (state : State) (want : Want) (outside : Outside) → HasHistory state → HasHistory (acquire_step state who (want ∷ []) 1 outside).state
      → HasHistory (call_step state who want outside (hits who act page word answer value)).state
  history_call_step state want outside has acquired =
      history_by_hit state want outside has acquired (can_hit (own_at state who) page (right_for act)) refl
