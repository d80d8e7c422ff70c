use Rattle.std.proofs.Common.{◌≡◌, ℕ, List, [], ◌∷◌, true, false, ◌==◌, map, Contains, refl, sym, ap, ◌∙◌, subst, true≢false}
use Rattle.std.specs.Prelude.{Option, None, Some, nat_lt, ⊤}
use Rattle.std.proofs.lemmas.Bool.{cond_both, eqb-true, eq-eqb}
use Rattle.casper_trail.specs.declared.item.Item.{Item}
use Rattle.casper_trail.specs.Image.{image_of, image_with}
use Rattle.casper_trail.proofs.Images.{image_without_commit}
use Rattle.casper_trail.proofs.Pages.{image_after_commit}
use Rattle.casper_model.specs.declared.outcome.Outcome.{Outcome}
use Rattle.casper_model.specs.declared.outcome.Outcome.TheVariants as outcome
use Rattle.casper_model.specs.Outside.{Outside, NothingFailed, LoadFailed, WriteOutFailed, WriteOutDoubted, SettleFailed}
use Rattle.casper_model.specs.Stabilisation.{Stabilisation, Doubtful, is_doubtful}
use Rattle.casper_model.specs.Shared.{Shared}
use Rattle.casper_model.specs.Finish.{finish, finished_by, finished_as, failed, settled, settled_by, stabilisation_led_by, doubtful_of}
use Rattle.casper_space.specs.Changes.{VaultRoom, Change, with_changes, pages_of, free_of, need_of, last_version}
use Rattle.casper_model.specs.Vault.{VaultState, commit, written_unless, written_with, refused_at_once, refused_for_room, settled_vault}
use Rattle.casper_model.specs.State.{State, Unfinished}
use Rattle.casper_model.specs.WriteOutStep.{finish_turn, settle_turn, written_out, changes_of, job_of, busy_lead}
use Rattle.casper_model.specs.LegalHistory.{HasHistory}
use Rattle.casper_turns.specs.Frozen.{AreFrozen, IsSealedBy}
use Rattle.casper_laws.specs.FrozenLaws.{is_any_doubtful, ended_in_doubt, OneIsUnfinished, AreWriteOutsInOrder, HasOrderlyStabilisations}
use Rattle.casper_laws.specs.StoredImage.{image_by, image_due, HasStoredImage}
use Rattle.casper_turns.proofs.Lists.{any_of, none_passes, find_found, find_none, contains_map, not_some}
use Rattle.casper_turns.proofs.FinishFrozen.{doubting}
use Rattle.casper_laws.proofs.FinishFrozen.{finish_well, settled_well, idle_before}
use Rattle.casper_laws.proofs.WrittenImage.{image_written}

-- what a finish leaves of a stored image: it is stable, and a doubt settles to that with the doubtful association
record IsStoredAfter (base : List (List ℕ)) (after : Shared) (image settles : List (List ℕ)) : Type 0 where
  stable : image ≡ image_of base after.trail
  doubtful : (one : Stabilisation) → Contains after.stabilisations one → is_doubtful one.phase ≡ true → settles ≡ image_with base after.trail one.lead

-- where none is in doubt after it
stored_without_doubt : (base : List (List ℕ)) (after : Shared) (image settles : List (List ℕ)) → is_any_doubtful after ≡ false → image ≡ image_of base after.trail
    → IsStoredAfter base after image settles
stored_without_doubt base after image settles none stable = record {
  stable = stable;
  doubtful = λ one inside is. absurd (true≢false (sym is ∙ none_passes (λ (x : Stabilisation). is_doubtful x.phase) after.stabilisations one none inside));
}

-- which stabilisation came into doubt
pub doubted_lead : (shared : Shared) (lead : ℕ) → is_any_doubtful shared ≡ false → (one : Stabilisation) → Contains (map (doubting lead) shared.stabilisations) one
    → is_doubtful one.phase ≡ true → one.lead ≡ lead
doubted_lead shared lead none one inside is =
    let was = contains_map (doubting lead) shared.stabilisations one inside in
    subst (λ (x : Stabilisation). x.lead ≡ lead) was.2
    (cond_both (was.0.lead == lead) (record (was.0) { phase = Doubtful }) was.0 (λ (x : Stabilisation). is_doubtful x.phase ≡ true → x.lead ≡ lead)
    (λ same doubtful. eqb-true was.0.lead lead same)
    (λ apart doubtful. absurd (true≢false (sym doubtful ∙ none_passes (λ (x : Stabilisation). is_doubtful x.phase) shared.stabilisations was.0 none was.1)))
    (ap (λ (x : Stabilisation). is_doubtful x.phase) was.2 ∙ is))

failed_image : (base : List (List ℕ)) (shared : Shared) (one : Stabilisation) (cause : Outcome) (noted : Option ℕ)
    → image_of base (failed shared one cause noted).shared.trail ≡ image_of base shared.trail
failed_image base shared one cause None = refl
failed_image base shared one cause (Some lost) = image_without_commit base shared.trail _ refl

finished_image : (base : List (List ℕ)) (shared : Shared) (one : Stabilisation) (how : Outcome) (image settles : List (List ℕ)) → is_any_doubtful shared ≡ false
    → is_any_doubtful (finished_as shared one how).shared ≡ ended_in_doubt how → image ≡ image_by base shared.trail one.lead how
    → (ended_in_doubt how ≡ true → settles ≡ image_with base shared.trail one.lead) → IsStoredAfter base (finished_as shared one how).shared image settles
finished_image base shared one (outcome.Ok version) image settles none well is doubt =
    stored_without_doubt base _ image settles well (is ∙ sym (image_after_commit base shared.trail one.lead))
finished_image base shared one (outcome.Full need free) image settles none well is doubt =
    stored_without_doubt base _ image settles well (is ∙ sym (failed_image base shared one (outcome.Full need free) one.noted))
finished_image base shared one outcome.Worn image settles none well is doubt =
    stored_without_doubt base _ image settles well (is ∙ sym (failed_image base shared one outcome.Worn one.noted))
finished_image base shared one outcome.Disk image settles none well is doubt =
    stored_without_doubt base _ image settles well (is ∙ sym (failed_image base shared one outcome.Disk one.noted))
finished_image base shared one outcome.Doubt image settles none well is doubt = record {
  stable = is;
  doubtful = λ x inside doubtful. doubt refl ∙ ap (image_with base shared.trail) (sym (doubted_lead shared one.lead none x inside doubtful));
}

finish_image : (base : List (List ℕ)) (shared : Shared) (lead : ℕ) (how : Outcome) (image settles : List (List ℕ)) → AreFrozen shared → IsSealedBy shared lead
    → is_any_doubtful shared ≡ false → image ≡ image_by base shared.trail lead how → (ended_in_doubt how ≡ true → settles ≡ image_with base shared.trail lead)
    → IsStoredAfter base (finish shared lead how).shared image settles
finish_image base shared lead how image settles frozen seal none is doubt =
    by_found (stabilisation_led_by shared lead) refl (finish_well shared lead how frozen seal none).any
  where
    by_found : (one : Option Stabilisation) → stabilisation_led_by shared lead ≡ one → is_any_doubtful (finished_by shared how one).shared ≡ ended_in_doubt how
        → IsStoredAfter base (finished_by shared how one).shared image settles
    by_found None e well = absurd (find_none (λ (x : Stabilisation). x.lead == lead) shared.stabilisations e seal.0 seal.1 (eq-eqb seal.0.lead lead seal.2))
    by_found (Some one) e well =
        let led : one.lead ≡ lead = eqb-true one.lead lead (find_found (λ (x : Stabilisation). x.lead == lead) shared.stabilisations one e).1 in
        finished_image base shared one how image settles none well (is ∙ ap (λ number. image_by base shared.trail number how) (sym led))
        (λ ended. doubt ended ∙ ap (image_with base shared.trail) (sym led))

-- the stored image after a finish
pub finish_stored : (state : State) (lead : ℕ) (unfinished : Unfinished) → HasOrderlyStabilisations state → HasStoredImage state
    → state.unfinished ≡ Some unfinished → (unfinished.lead == lead) ≡ true → HasStoredImage (finish_turn lead unfinished.outcome state).state
finish_stored state lead unfinished orderly stored e same =
    let stands : OneIsUnfinished state unfinished = subst (AreWriteOutsInOrder state) e orderly.written in
    let led : unfinished.lead ≡ lead = eqb-true unfinished.lead lead same in
    let after : IsStoredAfter state.base (finish state.shared lead unfinished.outcome).shared state.vault.image (settled_vault state.vault).image =
    finish_image state.base state.shared lead unfinished.outcome state.vault.image (settled_vault state.vault).image orderly.frozen
    (subst (IsSealedBy state.shared) led stands.stabilisation) stands.alone
    (stored.image ∙ ap (image_due state) e ∙ ap (λ number. image_by state.base state.shared.trail number unfinished.outcome) led)
    (λ ended. stored.unfinished unfinished e ended ∙ ap (image_with state.base state.shared.trail) led) in
    record { shape = stored.shape; image = after.stable; unfinished = λ one none. absurd (not_some one none); doubtful = after.doubtful }

-- after a settle
settle_image : (state : State) (one : Stabilisation) (unfinished : Option Unfinished) → state.unfinished ≡ unfinished → doubtful_of state.shared ≡ Some one
    → HasOrderlyStabilisations state → HasStoredImage state → AreWriteOutsInOrder state unfinished → HasStoredImage (settle_turn state).state
settle_image state one (Some unfinished) is e orderly stored order =
    let found = find_found (λ (x : Stabilisation). is_doubtful x.phase) state.shared.stabilisations one e in
    absurd (true≢false (sym (any_of (λ (x : Stabilisation). is_doubtful x.phase) state.shared.stabilisations one found.0 found.1) ∙ order.alone))
settle_image state one None is e orderly stored order =
    let found = find_found (λ (x : Stabilisation). is_doubtful x.phase) state.shared.stabilisations one e in
    let well = settled_well state.shared one e orderly.frozen order.most in
    record {
      shape = stored.shape;
      image =
          stored.doubtful one found.0 found.1 ∙ sym (image_after_commit state.base state.shared.trail one.lead)
          ∙ ap (λ x. image_of state.base (settled_by state.shared x).shared.trail) (sym e)
          ∙ sym (ap (image_due (settle_turn state).state) is);
      unfinished = λ x some. absurd (not_some x (sym is ∙ some));
      doubtful = λ x inside doubtful.
          absurd (true≢false (sym doubtful ∙ none_passes (λ (y : Stabilisation). is_doubtful y.phase) (settled state.shared).shared.stabilisations x well.any inside));
    }

pub settle_stored : (state : State) (one : Stabilisation) → HasOrderlyStabilisations state → HasStoredImage state → doubtful_of state.shared ≡ Some one
    → HasStoredImage (settle_turn state).state
settle_stored state one orderly stored e = settle_image state one state.unfinished refl e orderly stored orderly.written

-- a commit
module _ (base : List (List ℕ)) (trail : List Item) (lead : ℕ) (vault : VaultState) (is_stable : vault.image ≡ image_of base trail) where
  abbrev IsRefused : Option Outcome → Type 0
  IsRefused None = ⊤
  IsRefused (Some refusal) = (image_by base trail lead refusal ≡ image_of base trail) × (ended_in_doubt refusal ≡ false)

  refused_room : (pages : List ℕ) (room : Option VaultRoom) → IsRefused (refused_for_room pages room)
  refused_room pages None = tt
  refused_room pages (Some room) =
      cond_both (nat_lt (free_of room) (need_of room pages)) (Some (outcome.Full (need_of room pages) (free_of room))) None IsRefused (λ is. (refl, refl)) (λ is. tt)

  refused_once : (pages : List ℕ) → IsRefused (refused_at_once vault pages)
  refused_once pages =
      cond_both (vault.version == last_version) (Some outcome.Worn) (refused_for_room pages vault.room) IsRefused (λ is. (refl, refl)) (λ is. refused_room pages vault.room)

  commit_image : (changes : List Change) (outside : Outside) → with_changes vault.image changes ≡ image_with base trail lead
      → ((commit vault changes outside).vault.image ≡ image_by base trail lead (commit vault changes outside).outcome)
      × (ended_in_doubt (commit vault changes outside).outcome ≡ true → (settled_vault (commit vault changes outside).vault).image ≡ image_with base trail lead)
  commit_image [] outside with_lead = (with_lead, λ never. absurd (true≢false (sym never)))
  commit_image (change ∷ changes) outside with_lead =
      by_refusal (refused_at_once vault (pages_of (change ∷ changes))) (refused_once (pages_of (change ∷ changes)))
    where
      by_outside : (what : Outside)
          → ((written_with vault (change ∷ changes) what).vault.image ≡ image_by base trail lead (written_with vault (change ∷ changes) what).outcome)
          × (ended_in_doubt (written_with vault (change ∷ changes) what).outcome ≡ true
          → (settled_vault (written_with vault (change ∷ changes) what).vault).image ≡ image_with base trail lead)
      by_outside NothingFailed = (with_lead, λ never. absurd (true≢false (sym never)))
      by_outside LoadFailed = (with_lead, λ never. absurd (true≢false (sym never)))
      by_outside WriteOutFailed = (is_stable, λ never. absurd (true≢false (sym never)))
      by_outside WriteOutDoubted = (is_stable, λ ended. with_lead)
      by_outside SettleFailed = (with_lead, λ never. absurd (true≢false (sym never)))

      by_refusal : (refusal : Option Outcome) → IsRefused refusal
          → ((written_unless vault (change ∷ changes) outside refusal).vault.image ≡ image_by base trail lead (written_unless vault (change ∷ changes) outside refusal).outcome)
          × (ended_in_doubt (written_unless vault (change ∷ changes) outside refusal).outcome ≡ true
          → (settled_vault (written_unless vault (change ∷ changes) outside refusal).vault).image ≡ image_with base trail lead)
      by_refusal None is = by_outside outside
      by_refusal (Some refusal) is = (is_stable ∙ sym is.0, λ ended. absurd (true≢false (sym ended ∙ is.1)))

pub write_out_stored : (state : State) (outside : Outside) (lead : ℕ) (one : Stabilisation) → HasHistory state → HasOrderlyStabilisations state → HasStoredImage state
    → job_of state lead ≡ Some one → busy_lead state ≡ None → HasStoredImage (written_out state outside one None).state
write_out_stored state outside lead one history orderly stored job free =
    let idle = idle_before state free in
    let stable : state.vault.image ≡ image_of state.base state.shared.trail = stored.image ∙ ap (image_due state) idle.0 in
    let done =
    commit_image state.base state.shared.trail one.lead state.vault stable (changes_of state one) outside
    (ap (λ image. with_changes image (changes_of state one)) stable ∙ image_written state.base state.shared.trail one.lead stored.shape history.exact.clients) in
    record {
      shape = stored.shape;
      image = done.0;
      unfinished = λ x some ended.
          let same = the_same _ x some in
          done.1 (ap (λ (y : Unfinished). ended_in_doubt y.outcome) same ∙ ended) ∙ ap (λ (y : Unfinished). image_with state.base state.shared.trail y.lead) same;
      doubtful = λ x inside doubtful.
          absurd (true≢false (sym doubtful ∙ none_passes (λ (y : Stabilisation). is_doubtful y.phase) state.shared.stabilisations x idle.1 inside));
    }
  where
    the_same : (one x : Unfinished) → Some one ≡ Some x → one ≡ x
    the_same one x is = ap (λ (found : Option Unfinished). elim found as (λ _. Unfinished) [ None ↦ one | Some y ↦ y ]) is
