use Rattle.std.proofs.Common.{◌≡◌, ◌⊎◌, List, false, refl, ap, ◌∙◌, ⊎_elim, inl, inr, true≢false}
use Rattle.std.specs.Prelude.{Option, None, Some, is_some}
use Rattle.casper_space.specs.Changes.{Change, with_changes}
use Rattle.casper_trail.specs.Image.{image_of}
use Rattle.casper_model.specs.declared.outcome.Outcome.{Outcome}
use Rattle.casper_model.specs.declared.outcome.Outcome.TheVariants as outcome
use Rattle.casper_model.specs.Finish.{doubtful_of}
use Rattle.casper_model.specs.LegalHistory.{HasHistory}
use Rattle.casper_model.specs.Stabilisation.{Stabilisation, is_doubtful}
use Rattle.casper_model.specs.State.{State, Unfinished}
use Rattle.casper_model.specs.Vault.{settled_with, settled_vault}
use Rattle.casper_model.specs.WriteOutStep.{changes_of}
use Rattle.casper_turns.proofs.Lists.{find_found, find_none, any_none}
use Rattle.casper_laws.specs.FrozenLaws.{ended_in_doubt, AreWriteOutsInOrder, HasOrderlyStabilisations, OneIsUnfinished}
use Rattle.casper_laws.specs.StoredImage.{HasStoredImage, image_by, image_due}
use Rattle.casper_laws.proofs.FinishFrozen.{idle_before}
use Rattle.casper_laws.proofs.WrittenImage.{image_written}
use Rattle.casper_sessions.specs.Found.{Found, MayBeFound, MayBeFoundWith}
use Rattle.casper_sessions.specs.Moments.{Moment, IsLeftAt, moment_after, moment_by}
use Rattle.casper_sessions.specs.StopLaws.{FoundAsOfItsMoment, WritesAsOfItsMoment}

-- what is known of a state of a session
pub record IsKnown (state : State) : Type 0 where
  pub history : HasHistory state
  pub orderly : HasOrderlyStabilisations state
  pub stored : HasStoredImage state

module _ (state : State) (known : IsKnown state) (found : Found) (may : MayBeFound state.vault found) where
  stored : HasStoredImage state
  stored = known.stored

  -- what a stop at this moment leaves
  abbrev Left : Moment → Type 0
  Left moment = IsLeftAt moment state.base state.shared.trail found.image

  -- without a doubt the vault is found as it is
  as_it_is : is_some state.vault.doubt ≡ false → found.image ≡ state.vault.image
  as_it_is none = by_doubt state.vault.doubt may none
    where
      by_doubt : (doubt : Option (List Change)) → MayBeFoundWith state.vault doubt found → is_some doubt ≡ false → found.image ≡ state.vault.image
      by_doubt None is without = ap (λ (one : Found). one.image) is
      by_doubt (Some changes) is without = absurd (true≢false without)

  -- in any case it is found as it is, or as it settles
  as_it_settles : (found.image ≡ state.vault.image) ⊎ (found.image ≡ (settled_vault state.vault).image)
  as_it_settles = by_doubt state.vault.doubt may
    where
      by_doubt : (doubt : Option (List Change)) → MayBeFoundWith state.vault doubt found
          → (found.image ≡ state.vault.image) ⊎ (found.image ≡ (settled_with state.vault doubt).image)
      by_doubt None is = inl (ap (λ (one : Found). one.image) is)
      by_doubt (Some changes) is = ⊎_elim (λ old. inl (ap (λ (one : Found). one.image) old)) (λ new. inr (ap (λ (one : Found). one.image) new)) is

  module _ (one : Unfinished) (e : state.unfinished ≡ Some one) (order : OneIsUnfinished state one) where
    due : (how : Outcome) → one.outcome ≡ how → state.vault.image ≡ image_by state.base state.shared.trail one.lead how
    due how is = stored.image ∙ ap (image_due state) e ∙ ap (image_by state.base state.shared.trail one.lead) is

    unfinished_left : (how : Outcome) → one.outcome ≡ how → Left (moment_after one.lead how)
    unfinished_left (outcome.Ok version) is = as_it_is (order.doubt ∙ ap ended_in_doubt is) ∙ due (outcome.Ok version) is
    unfinished_left (outcome.Full need free) is = as_it_is (order.doubt ∙ ap ended_in_doubt is) ∙ due (outcome.Full need free) is
    unfinished_left outcome.Worn is = as_it_is (order.doubt ∙ ap ended_in_doubt is) ∙ due outcome.Worn is
    unfinished_left outcome.Disk is = as_it_is (order.doubt ∙ ap ended_in_doubt is) ∙ due outcome.Disk is
    unfinished_left outcome.Doubt is =
        ⊎_elim (λ old. inl (old ∙ due outcome.Doubt is)) (λ new. inr (new ∙ stored.unfinished one e (ap ended_in_doubt is))) as_it_settles

  by_unfinished : (unfinished : Option Unfinished) → state.unfinished ≡ unfinished → AreWriteOutsInOrder state unfinished
      → Left (moment_by unfinished (doubtful_of state.shared))
  by_unfinished (Some one) e order = unfinished_left one e order one.outcome refl
  by_unfinished None e order = by_doubtful (doubtful_of state.shared) refl
    where
      stable : state.vault.image ≡ image_of state.base state.shared.trail
      stable = stored.image ∙ ap (image_due state) e

      by_doubtful : (doubtful : Option Stabilisation) → doubtful_of state.shared ≡ doubtful → Left (moment_by None doubtful)
      by_doubtful (Some one) is =
          let there = find_found (λ (x : Stabilisation). is_doubtful x.phase) state.shared.stabilisations one is in
          ⊎_elim (λ old. inl (old ∙ stable)) (λ new. inr (new ∙ stored.doubtful one there.0 there.1)) as_it_settles
      by_doubtful None is =
          as_it_is
          (order.doubt ∙ any_none (λ (x : Stabilisation). is_doubtful x.phase) state.shared.stabilisations
          (find_none (λ (x : Stabilisation). is_doubtful x.phase) state.shared.stabilisations is))
          ∙ stable

-- what may be found of the vault is what a stop leaves at that moment
pub found_of_moment : (state : State) → IsKnown state → FoundAsOfItsMoment state
found_of_moment state known found may = by_unfinished state known found may state.unfinished refl known.orderly.written

-- and so are the images of a write-out that runs
pub written_of_moment : (state : State) → IsKnown state → WritesAsOfItsMoment state
written_of_moment state known lead one job free =
    let stable : state.vault.image ≡ image_of state.base state.shared.trail = known.stored.image ∙ ap (image_due state) (idle_before state free).0 in
    record {
      before = inl stable;
      after = inr
          (ap (λ image. with_changes image (changes_of state one)) stable
          ∙ image_written state.base state.shared.trail one.lead known.stored.shape known.history.exact.clients);
    }
