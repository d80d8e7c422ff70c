use Rattle.std.proofs.Common.{◌≡◌, ℕ, ◌==◌, true, false, Contains, refl, sym, ap, ◌∙◌, subst, true≢false}
use Rattle.std.specs.Prelude.{Option, None, Some, is_some}
use Rattle.std.proofs.lemmas.Bool.{eqb-true, eq-eqb}
use Rattle.casper_gather.specs.FinishLaws.{is_failure}
use Rattle.casper_model.specs.declared.outcome.Kept.TheVariants as kept
use Rattle.casper_model.specs.declared.outcome.Outcome.{Outcome}
use Rattle.casper_model.specs.declared.outcome.Outcome.TheVariants as outcome
use Rattle.casper_model.specs.Finish.{finished_by, committed, ended, failed, stabilisation_led_by}
use Rattle.casper_model.specs.Shared.{Shared}
use Rattle.casper_model.specs.Stabilisation.{Stabilisation, is_gathering}
use Rattle.casper_turns.specs.Good.{IsGoodShared}
use Rattle.casper_turns.specs.Kept.{KeptForAll, IsHeld}
use Rattle.casper_turns.proofs.Finishes.{finish_kept}
use Rattle.casper_turns.proofs.FrozenChanges.{one_of_lead}
use Rattle.casper_turns.proofs.Lists.{find_found, find_some}

-- What a finish of the machine's keeps, by how it ended.

module _ (shared : Shared) (good : IsGoodShared shared) (one : Stabilisation) (inside : Contains shared.stabilisations one) where
  -- a stabilisation is the one that its lead leads
  pub led_by_itself : stabilisation_led_by shared one.lead ≡ Some one
  led_by_itself = by (stabilisation_led_by shared one.lead) refl
    where
      by : (found : Option Stabilisation) → stabilisation_led_by shared one.lead ≡ found → stabilisation_led_by shared one.lead ≡ Some one
      by None is =
          absurd (true≢false
          (sym (find_some (λ (other : Stabilisation). other.lead == one.lead) shared.stabilisations one inside (eq-eqb one.lead one.lead refl)) ∙ ap is_some is))
      by (Some other) is =
          let found = find_found (λ (x : Stabilisation). x.lead == one.lead) shared.stabilisations other is in
          is ∙ ap Some (one_of_lead shared other one good.frozen found.0 inside (eqb-true other.lead one.lead found.1))

  module _ (sealed : is_gathering one.phase ≡ false) where
    is_held : IsHeld shared one.lead
    is_held other also same = ap (λ (x : Stabilisation). is_gathering x.phase) (one_of_lead shared other one good.frozen also inside same) ∙ sealed

    finished_kept : (how : Outcome) → KeptForAll shared (finished_by shared how (Some one)).shared
    finished_kept how = subst (λ (found : Option Stabilisation). KeptForAll shared (finished_by shared how found).shared) led_by_itself (finish_kept shared one.lead how good is_held)

    pub committed_kept : KeptForAll shared (committed shared one).shared
    committed_kept = finished_kept (outcome.Ok 0)

    pub doubted_kept : KeptForAll shared (finished_by shared outcome.Doubt (Some one)).shared
    doubted_kept = finished_kept outcome.Doubt

    pub failed_kept : (how : Outcome) → is_failure how ≡ true → one.noted ≡ None → KeptForAll shared (ended shared one (kept.Failed how))
    failed_kept (outcome.Full need free) fails none =
        subst (λ (noted : Option ℕ). KeptForAll shared (failed shared one (outcome.Full need free) noted).shared) none (finished_kept (outcome.Full need free))
    failed_kept outcome.Worn fails none = subst (λ (noted : Option ℕ). KeptForAll shared (failed shared one outcome.Worn noted).shared) none (finished_kept outcome.Worn)
    failed_kept outcome.Disk fails none = subst (λ (noted : Option ℕ). KeptForAll shared (failed shared one outcome.Disk noted).shared) none (finished_kept outcome.Disk)
    failed_kept (outcome.Ok version) fails none = cc
    failed_kept outcome.Doubt fails none = cc
