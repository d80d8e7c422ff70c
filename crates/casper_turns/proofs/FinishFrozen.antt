use Rattle.std.proofs.Common.{◌≡◌, ℕ, true, false, ◌==◌, cond, not, map, Contains, refl, sym, ap, ◌∙◌, true≢false}
use Rattle.std.specs.Prelude.{Some}
use Rattle.std.proofs.lemmas.Bool.{cond_both, eqb-true, eq-eqb, not-true, false_from_ne_true}
use Rattle.casper_words.specs.Crew.{has_member}
use Rattle.casper_words.specs.declared.page.Right.TheVariants as may
use Rattle.casper_trail.specs.declared.mark.Mark.TheVariants.{Commit}
use Rattle.casper_trail.specs.Association.{association_of}
use Rattle.casper_trail.proofs.Rounds.{association_holds_its_client}
use Rattle.casper_trail.proofs.Growth.{others_after_mark}
use Rattle.casper_model.specs.declared.outcome.Kept.{Kept}
use Rattle.casper_model.specs.Held.{allows}
use Rattle.casper_model.specs.Client.{Client}
use Rattle.casper_model.specs.Stabilisation.{Stabilisation, Phase, Gathering, Sealed, Doubtful, is_gathering, is_sealed}
use Rattle.casper_model.specs.Shared.{Shared, rights_at}
use Rattle.casper_model.specs.Finish.{ended, committed}
use Rattle.casper_turns.specs.Frozen.{AreFrozen}
use Rattle.casper_turns.proofs.ApartLeads.{one_with_member}
use Rattle.casper_turns.proofs.FrozenChanges.{MayWriteNoMore, one_of_lead, frozen_mapped, some_frozen}
use Rattle.casper_turns.proofs.TurnFrozen.{rights_each}

-- a stabilisation that ends leaves the others in order
ended_less : (shared : Shared) (one : Stabilisation) (kept : Kept) → MayWriteNoMore shared (ended shared one kept)
ended_less shared one kept =
    rights_each (λ who client. cond (has_member who one.askers) (record client { kept = Some kept }) client) shared
    (λ who client.
    cond_both (has_member who one.askers) (record client { kept = Some kept }) client (λ (after : Client). after.rights ≡ client.rights) (λ is. refl) (λ is. refl))

pub ended_frozen : (shared : Shared) (one : Stabilisation) (kept : Kept) → AreFrozen shared → AreFrozen (ended shared one kept)
ended_frozen shared one kept =
    some_frozen shared (ended shared one kept) (λ lead. not (lead == one.lead)) refl (λ other inside further. refl) (ended_less shared one kept)

pub committed_frozen : (shared : Shared) (one : Stabilisation) → Contains shared.stabilisations one → AreFrozen shared → AreFrozen (committed shared one).shared
committed_frozen shared one inside frozen =
    some_frozen shared (committed shared one).shared (λ lead. not (lead == one.lead)) refl
    (λ other also further.
    others_after_mark shared.trail (Commit one.lead (association_of shared.trail one.lead)) other.lead refl
    (false_from_ne_true (has_member other.lead (association_of shared.trail one.lead))
    (λ found.
    let same : other ≡ one =
    one_with_member shared.trail shared.stabilisations other one other.lead frozen.apart also inside
    (association_holds_its_client shared.trail other.lead (frozen.leads other also)) found in
    true≢false (sym (eq-eqb other.lead one.lead (ap (λ (x : Stabilisation). x.lead) same)) ∙ not-true (other.lead == one.lead) further))))
    (ended_less shared one _) frozen

pub sealed_only : (phase : Phase) → is_sealed phase ≡ true → is_gathering phase ≡ false
sealed_only Gathering is = absurd (true≢false (sym is))
sealed_only Sealed is = refl
sealed_only Doubtful is = absurd (true≢false (sym is))

-- a sealed stabilisation comes into doubt
abbrev pub doubting : ℕ → Stabilisation → Stabilisation
doubting lead one = cond (one.lead == lead) (record one { phase = Doubtful }) one

doubting_leads : (lead : ℕ) (other : Stabilisation) → (doubting lead other).lead ≡ other.lead
doubting_leads lead other =
    cond_both (other.lead == lead) (record other { phase = Doubtful }) other (λ (x : Stabilisation). x.lead ≡ other.lead) (λ is. refl) (λ is. refl)

-- the one may come into doubt where it is not gathering
pub doubt_frozen : (shared : Shared) (one : Stabilisation) → Contains shared.stabilisations one → is_gathering one.phase ≡ false → AreFrozen shared
    → AreFrozen (record shared { stabilisations = map (doubting one.lead) shared.stabilisations })
doubt_frozen shared one inside held frozen =
    frozen_mapped shared (record shared { stabilisations = map (doubting one.lead) shared.stabilisations }) (doubting one.lead) refl (doubting_leads one.lead) (λ other also. refl)
    (λ other also who page member writes.
    quiet other also who page (sym (ap (λ lead. has_member who (association_of shared.trail lead)) (doubting_leads one.lead other)) ∙ member) writes) frozen
  where
    -- a member of the one may write nothing
    quiet : (other : Stabilisation) → Contains shared.stabilisations other → (who page : ℕ) → has_member who (association_of shared.trail other.lead) ≡ true
        → allows (rights_at shared who) page may.Write ≡ true
        → (is_gathering (doubting one.lead other).phase ≡ true) × (has_member who (doubting one.lead other).awaited ≡ true)
    quiet other also who page member writes =
        let was = frozen.quiet other also who page member writes in
        cond_both (other.lead == one.lead) (record other { phase = Doubtful }) other
        (λ (x : Stabilisation). (is_gathering x.phase ≡ true) × (has_member who x.awaited ≡ true))
        (λ is.
        let same : other ≡ one = one_of_lead shared other one frozen also inside (eqb-true other.lead one.lead is) in
        absurd (true≢false (sym was.0 ∙ ap (λ (x : Stabilisation). is_gathering x.phase) same ∙ held)))
        (λ is. was)
