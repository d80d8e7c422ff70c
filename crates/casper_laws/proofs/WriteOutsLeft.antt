use Rattle.std.proofs.Common.{◌≡◌, List, true, refl, sym, ap, ◌∙◌, true≢false}
use Rattle.std.specs.Prelude.{Option, None, Some}
use Rattle.casper_model.specs.Own.{Own}
use Rattle.casper_model.specs.Stabilisation.{Stabilisation, is_doubtful}
use Rattle.casper_model.specs.Shared.{Shared}
use Rattle.casper_model.specs.State.{State, Unfinished}
use Rattle.casper_laws.specs.FrozenLaws.{AreWriteOutsInOrder, is_any_doubtful}
use Rattle.casper_turns.proofs.Lists.{any_found, any_of, any_none, same_any}
use Rattle.casper_turns.proofs.FrozenChanges.{LeavesWriteOuts, StaysFrozen, one_of_lead}

-- where one was in doubt one is
are_doubtful : (shared after : Shared) → LeavesWriteOuts shared after → is_any_doubtful shared ≡ true → is_any_doubtful after ≡ true
are_doubtful shared after left is =
    let found = any_found (λ (x : Stabilisation). is_doubtful x.phase) shared.stabilisations is in
    let still = left.doubtful found.0.lead (found.0, found.1, refl, found.2) in
    any_of (λ (x : Stabilisation). is_doubtful x.phase) after.stabilisations still.0 still.1 still.3

-- what stands of the write-outs stands after such a change
pub write_outs_left : (state : State) (after : Shared) (owns : List Own) (unfinished : Option Unfinished) → StaysFrozen state.shared after
    → AreWriteOutsInOrder state unfinished → AreWriteOutsInOrder (record state { shared = after; owns = owns }) unfinished
write_outs_left state after owns None stays order = record {
  most = λ one other inside also doubtful doubtful_too.
      let early = stays.left.were one inside doubtful in
      let early_too = stays.left.were other also doubtful_too in
      one_of_lead after one other stays.frozen inside also
      (sym early.3 ∙ ap (λ (x : Stabilisation). x.lead) (order.most early.0 early_too.0 early.1 early_too.1 early.2 early_too.2) ∙ early_too.3);
  doubt =
      order.doubt
      ∙ same_any (λ one. is_doubtful one.phase) state.shared.stabilisations (λ one. is_doubtful one.phase) after.stabilisations (are_doubtful state.shared after stays.left)
      (λ found.
      let one = any_found (λ (x : Stabilisation). is_doubtful x.phase) after.stabilisations found in
      let early = stays.left.were one.0 one.1 one.2 in
      any_of (λ (x : Stabilisation). is_doubtful x.phase) state.shared.stabilisations early.0 early.1 early.2);
}
write_outs_left state after owns (Some unfinished) stays order = record {
  stabilisation = stays.left.sealed unfinished.lead order.stabilisation;
  alone =
      any_none (λ one. is_doubtful one.phase) after.stabilisations
      (λ one inside doubtful.
      let early = stays.left.were one inside doubtful in
      true≢false (sym (any_of (λ (x : Stabilisation). is_doubtful x.phase) state.shared.stabilisations early.0 early.1 early.2) ∙ order.alone));
  doubt = order.doubt;
}
