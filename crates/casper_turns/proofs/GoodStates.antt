use Rattle.std.proofs.Common.{List, zero, suc, ◌∷◌, map, ◌≡◌, ◌≢◌, ◌<◌, ℕ, [], length, Contains, refl, sym, ap, ◌∙◌, subst, ⊎_elim, arith}
use Rattle.std.specs.Prelude.{slice_index_or}
use Rattle.std.specs.List.{range_with_len}
use Rattle.std.proofs.lemmas.Bool.{cases_eq}
use Rattle.std.proofs.lemmas.List.{length-set}
use Rattle.casper_words.specs.Crew.{IsClient}
use Rattle.casper_trail.specs.Calls.{entries_by}
use Rattle.casper_trail.specs.Legal.{AreRightAfter}
use Rattle.casper_model.specs.Own.{Own, blank}
use Rattle.casper_model.specs.Rights.{Agrees}
use Rattle.casper_model.specs.Shared.{Shared}
use Rattle.casper_model.specs.State.{State, own_at, with_own, with_shared, start}
use Rattle.casper_model.proofs.RunRights.{blank_at, nobody_at}
use Rattle.casper_model.proofs.StateHistory.{set_own, other_own}
use Rattle.casper_turns.specs.KeepsClient.{KeepsClient}
use Rattle.casper_turns.specs.Good.{IsGoodShared, IsGoodWith}
use Rattle.casper_turns.specs.GoodStates.{IsGoodState, StartIsGood, StartIsRight, GoodBehindTurn, RightBehindTurn, GoodBehindChange, RightBehindChange}
use Rattle.casper_turns.specs.Kept.{KeptByTurn}
use Rattle.casper_turns.specs.Right.{ReadsAreRight}
use Rattle.casper_turns.proofs.Compose.{good_with_while_apart, reads_while_apart}
use Rattle.casper_turns.proofs.Lists.{nothing_in}
use Rattle.casper_turns.proofs.Start.{start_good}

-- an own part that has nothing is promised nothing
blank_caps : (capacity : ℕ) (numbers : List ℕ) (at : ℕ) (own : Own) → own.cap ≡ 0 → (slice_index_or (map (λ who. blank who capacity) numbers) at own).cap ≡ 0
blank_caps capacity [] at own none = none
blank_caps capacity (number ∷ numbers) zero own none = refl
blank_caps capacity (number ∷ numbers) (suc at) own none = blank_caps capacity numbers at own none

pub start_is_good : StartIsGood
start_is_good vault pages limit capacity = record {
  owns = refl;
  numbers = λ who. (blank_at vault pages limit capacity who).number;
  shared = start_good pages limit;
  each = λ who is.
      let own = own_at (start vault pages limit capacity) who in
      let nothing = blank_at vault pages limit capacity who in
      record {
        client = subst IsClient (sym nothing.number) is;
        agrees = subst (λ place. Agrees place own) (sym (nobody_at pages limit own.who)) (nothing.held, nothing.pending);
        room = let none : length own.pending ≡ 0 = ap length nothing.pending in omega (arith, none);
        few = let none : length own.pending ≡ 0 = ap length nothing.pending in omega (arith, none);
        most = let none : own.cap ≡ 0 = blank_caps capacity (range_with_len 0 33) who (blank who 0) refl in omega (arith, none);
        calls = λ up call inside. absurd (nothing_in call (subst (λ calls. Contains calls call) nothing.pending inside));
      };
}

pub start_is_right : StartIsRight
start_is_right vault pages limit capacity = record {
  legal = tt;
  reads = λ who is up.
      let own = own_at (start vault pages limit capacity) who in
      subst (λ calls. AreRightAfter vault.image [] (entries_by own.who calls)) (sym (blank_at vault pages limit capacity who).pending) tt;
}

module _ (state : State) (who : ℕ) (after : Shared) (own_after : Own) (is : IsClient who) (good : IsGoodState state)
    (named : own_after.who ≡ (own_at state who).who) where
  who_is : own_after.who ≡ who
  who_is = named ∙ good.numbers who

  below : own_after.who < length state.owns
  below = let places : length state.owns ≡ 33 = good.owns in let most = is.1 in let same : own_after.who ≡ who = who_is in omega arith

  -- a fact of each own part
  pub by_number : (P : Own → Type 0) (number : ℕ) → (number ≡ own_after.who → P own_after) → (number ≢ own_after.who → P (own_at state number))
      → P (own_at (with_own (with_shared state after) own_after) number)
  by_number P number now was =
      ⊎_elim (λ same. subst P (sym (set_own state own_after after below number same)) (now same))
      (λ apart. subst P (sym (other_own state own_after after below number apart)) (was apart)) (cases_eq number own_after.who)

  -- where the shared part is good with the own part that was set, and with each other
  pub good_with_each : IsGoodShared after → IsGoodWith after own_after
      → ((number : ℕ) → IsClient number → number ≢ own_after.who → IsGoodWith after (own_at state number)) → IsGoodState (with_own (with_shared state after) own_after)
  good_with_each shared mine others = record {
    owns = length-set state.owns own_after.who own_after ∙ good.owns;
    numbers = λ number. by_number (λ (own : Own). own.who ≡ number) number (λ same. sym same) (λ away. good.numbers number);
    shared = shared;
    each = λ number client. by_number (IsGoodWith after) number (λ same. mine) (λ away. others number client away);
  }

-- the others after a turn
others_apart : (state : State) (who : ℕ) (after : Shared) (own_after : Own) → IsGoodState state → KeptByTurn state.shared (own_at state who) after own_after
    → (number : ℕ) → number ≢ own_after.who → KeepsClient (own_at state number).who state.shared after
others_apart state who after own_after good kept number away =
    kept.others (own_at state number).who (λ same. away (sym (good.numbers number) ∙ same ∙ sym kept.who))

pub good_behind_turn : GoodBehindTurn
good_behind_turn state who after own_after is good kept =
    good_with_each state who after own_after is good kept.who kept.good kept.mine
    (λ number client away.
    good_with_while_apart state.shared after (own_at state number) (good.each number client) (others_apart state who after own_after good kept number away))

pub right_behind_turn : RightBehindTurn
right_behind_turn state who after own_after is good kept right =
    let mine = kept.right state.base (record { legal = right.legal; reads = right.reads who is }) in
    record {
      legal = mine.legal;
      reads = λ number client.
          by_number state who after own_after is good kept.who (ReadsAreRight state.base after) number (λ same. mine.reads)
          (λ away.
          reads_while_apart state.base state.shared after (own_at state number) (good.each number client)
          (others_apart state who after own_after good kept number away) (right.reads number client));
    }

pub good_behind_change : GoodBehindChange
good_behind_change state after good kept = record {
  owns = good.owns;
  numbers = good.numbers;
  shared = kept.good;
  each = λ who is. good_with_while_apart state.shared after (own_at state who) (good.each who is) (kept.apart (own_at state who).who);
}

pub right_behind_change : RightBehindChange
right_behind_change state after good kept right = record {
  legal = kept.legal state.base right.legal;
  reads = λ who is.
      reads_while_apart state.base state.shared after (own_at state who) (good.each who is) (kept.apart (own_at state who).who) (right.reads who is);
}
