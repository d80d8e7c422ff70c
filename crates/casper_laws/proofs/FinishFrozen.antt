use Rattle.std.proofs.Common.{◌≡◌, ℕ, List, [], ◌∷◌, Bool, true, false, ◌==◌, ◌&&◌, cond, Contains, refl, sym, ap, ◌∙◌, subst, true≢false, not, map, filter}
use Rattle.std.specs.Prelude.{Option, None, Some, is_some, option_map, nat_lt, ⊤}
use Rattle.std.proofs.lemmas.Bool.{and_parts, cond_both, eqb-true, cond-true, eq-eqb, not-true}
use Rattle.casper_model.specs.declared.outcome.Outcome.{Outcome}
use Rattle.casper_model.specs.Stabilisation.{Stabilisation, is_sealed, is_doubtful, Doubtful}
use Rattle.casper_model.specs.Finish.{finish, settled, doubtful_of, finished_by, finished_as, failed, committed, settled_by, stabilisation_led_by}
use Rattle.casper_space.specs.Changes.{Change, pages_of, free_of, need_of, last_version, VaultRoom}
use Rattle.casper_model.specs.Vault.{VaultState, commit, written_unless, written_with, refused_at_once, refused_for_room, settled_with, settled_vault}
use Rattle.casper_model.specs.Outside.{Outside, NothingFailed, LoadFailed, WriteOutFailed, WriteOutDoubted, SettleFailed}
use Rattle.casper_model.specs.State.{State, Unfinished}
use Rattle.casper_model.specs.WriteOutStep.{is_unfinished_of, sealed_of, job_of, busy_lead, written_out, changes_of, finish_turn, settle_turn}
use Rattle.casper_model.proofs.Conflicts.{neither}
use Rattle.casper_turns.specs.Frozen.{AreFrozen, IsSealedBy}
use Rattle.casper_laws.specs.FrozenLaws.{is_any_doubtful, ended_in_doubt, NoneIsUnfinished, OneIsUnfinished, AreWriteOutsInOrder, HasOrderlyStabilisations}
use Rattle.casper_turns.proofs.Lists.{any_of, any_none, find_found, find_none, none_passes, contains_map, contains_mapped, contains_filter}
use Rattle.casper_turns.proofs.FinishFrozen.{doubting, doubt_frozen, sealed_only, ended_frozen, committed_frozen}
use Rattle.casper_words.specs.Crew.{has_member}
use Rattle.casper_trail.specs.Association.{association_of}
use Rattle.casper_model.specs.Shared.{Shared}
use Rattle.casper_turns.proofs.FrozenChanges.{one_of_lead}
use Rattle.casper_turns.proofs.LeaveFrozen.{rolled_back_frozen}
use Rattle.casper_model.specs.declared.outcome.Outcome.TheVariants as outcome

-- what holds after the finish of a write-out, or a settle: no two are in doubt, and one is where the write-out ended so
pub record FinishedWell (after : Shared) (doubt : Bool) : Type 0 where
  pub frozen : AreFrozen after
  pub most : (one other : Stabilisation) → Contains after.stabilisations one → Contains after.stabilisations other
      → is_doubtful one.phase ≡ true → is_doubtful other.phase ≡ true → one ≡ other
  pub any : is_any_doubtful after ≡ doubt

-- none is in doubt
without_doubt : (after : Shared) → AreFrozen after → ((one : Stabilisation) → Contains after.stabilisations one → is_doubtful one.phase ≡ true → ⊥)
    → FinishedWell after false
without_doubt after frozen never = record {
  frozen = frozen;
  most = λ one other inside also doubtful doubtful_too. absurd (never one inside doubtful);
  any = any_none (λ one. is_doubtful one.phase) after.stabilisations never;
}

undoubted : (shared : Shared) (test : Stabilisation → Bool) → is_any_doubtful shared ≡ false → (one : Stabilisation) → Contains (filter test shared.stabilisations) one
    → is_doubtful one.phase ≡ true → ⊥
undoubted shared test none one inside doubtful =
    true≢false
    (sym doubtful ∙ none_passes (λ (x : Stabilisation). is_doubtful x.phase) shared.stabilisations one none (contains_filter test shared.stabilisations one inside).0)

failed_well : (shared : Shared) (one : Stabilisation) (cause : Outcome) (noted : Option ℕ) → AreFrozen shared → is_any_doubtful shared ≡ false
    → FinishedWell (failed shared one cause noted).shared false
failed_well shared one cause None frozen none =
    without_doubt _ (ended_frozen shared one _ frozen) (undoubted shared (λ other. not (other.lead == one.lead)) none)
failed_well shared one cause (Some lost) frozen none =
    without_doubt _ (rolled_back_frozen shared lost frozen) (undoubted shared (λ other. not (has_member other.lead (association_of shared.trail lost))) none)

doubt_well : (shared : Shared) (one : Stabilisation) → Contains shared.stabilisations one → is_sealed one.phase ≡ true → AreFrozen shared
    → is_any_doubtful shared ≡ false → FinishedWell (record shared { stabilisations = map (doubting one.lead) shared.stabilisations }) true
doubt_well shared one inside sealed frozen none = record {
  frozen = doubt_frozen shared one inside (sealed_only one.phase sealed) frozen;
  most = λ x y x_in y_in x_doubtful y_doubtful.
      let a = contains_map (doubting one.lead) shared.stabilisations x x_in in
      let b = contains_map (doubting one.lead) shared.stabilisations y y_in in
      let same : a.0 ≡ b.0 =
      one_of_lead shared a.0 b.0 frozen a.1 b.1
      (was_led a.0 a.1 (ap (λ (z : Stabilisation). is_doubtful z.phase) a.2 ∙ x_doubtful)
      ∙ sym (was_led b.0 b.1 (ap (λ (z : Stabilisation). is_doubtful z.phase) b.2 ∙ y_doubtful))) in
      sym a.2 ∙ ap (doubting one.lead) same ∙ b.2;
  any =
      any_of (λ (x : Stabilisation). is_doubtful x.phase) (map (doubting one.lead) shared.stabilisations) (doubting one.lead one)
      (contains_mapped (doubting one.lead) shared.stabilisations one inside)
      (ap (λ (x : Stabilisation). is_doubtful x.phase) (cond-true (one.lead == one.lead) (record one { phase = Doubtful }) one (eq-eqb one.lead one.lead refl)));
}
  where
    was_led : (other : Stabilisation) → Contains shared.stabilisations other → is_doubtful (doubting one.lead other).phase ≡ true → other.lead ≡ one.lead
    was_led other also =
        cond_both (other.lead == one.lead) (record other { phase = Doubtful }) other (λ (x : Stabilisation). is_doubtful x.phase ≡ true → other.lead ≡ one.lead)
        (λ is doubtful. eqb-true other.lead one.lead is)
        (λ is doubtful. absurd (true≢false (sym doubtful ∙ none_passes (λ (x : Stabilisation). is_doubtful x.phase) shared.stabilisations other none also)))

pub finish_well : (shared : Shared) (lead : ℕ) (how : Outcome) → AreFrozen shared → IsSealedBy shared lead → is_any_doubtful shared ≡ false
    → FinishedWell (finish shared lead how).shared (ended_in_doubt how)
finish_well shared lead how frozen seal none = by_found (stabilisation_led_by shared lead) refl
  where
    as_it_ended : (one : Stabilisation) → Contains shared.stabilisations one → is_sealed one.phase ≡ true → (end : Outcome)
        → FinishedWell (finished_as shared one end).shared (ended_in_doubt end)
    as_it_ended one inside sealed (outcome.Ok version) =
        without_doubt _ (committed_frozen shared one inside frozen) (undoubted shared (λ other. not (other.lead == one.lead)) none)
    as_it_ended one inside sealed (outcome.Full need free) = failed_well shared one (outcome.Full need free) one.noted frozen none
    as_it_ended one inside sealed outcome.Worn = failed_well shared one outcome.Worn one.noted frozen none
    as_it_ended one inside sealed outcome.Disk = failed_well shared one outcome.Disk one.noted frozen none
    as_it_ended one inside sealed outcome.Doubt = doubt_well shared one inside sealed frozen none

    by_found : (one : Option Stabilisation) → stabilisation_led_by shared lead ≡ one → FinishedWell (finished_by shared how one).shared (ended_in_doubt how)
    by_found None e = absurd (find_none (λ (x : Stabilisation). x.lead == lead) shared.stabilisations e seal.0 seal.1 (eq-eqb seal.0.lead lead seal.2))
    by_found (Some one) e =
        let found = find_found (λ (x : Stabilisation). x.lead == lead) shared.stabilisations one e in
        let same : seal.0 ≡ one = one_of_lead shared seal.0 one frozen seal.1 found.0 (seal.2 ∙ sym (eqb-true one.lead lead found.1)) in
        as_it_ended one found.0 (ap (λ (x : Stabilisation). is_sealed x.phase) (sym same) ∙ seal.3) how

-- a settle
pub settled_well : (shared : Shared) (one : Stabilisation) → doubtful_of shared ≡ Some one → AreFrozen shared
    → ((x y : Stabilisation) → Contains shared.stabilisations x → Contains shared.stabilisations y → is_doubtful x.phase ≡ true → is_doubtful y.phase ≡ true → x ≡ y)
    → FinishedWell (settled shared).shared false
settled_well shared one e frozen most =
    subst (λ found. FinishedWell (settled_by shared found).shared false) (sym e)
    (without_doubt (committed shared one).shared (committed_frozen shared one here.0 frozen)
    (λ other inside doubtful.
    let was = contains_filter (λ (x : Stabilisation). not (x.lead == one.lead)) shared.stabilisations other inside in
    true≢false
    (sym (eq-eqb other.lead one.lead (ap (λ (x : Stabilisation). x.lead) (most other one was.0 here.0 doubtful here.1)))
    ∙ not-true (other.lead == one.lead) was.1)))
  where
    here : Contains shared.stabilisations one × (is_doubtful one.phase ≡ true)
    here = find_found (λ (x : Stabilisation). is_doubtful x.phase) shared.stabilisations one e

-- the vault
pub settled_has_no_doubt : (vault : VaultState) → is_some (settled_vault vault).doubt ≡ false
settled_has_no_doubt vault = by_doubt vault.doubt refl
  where
    by_doubt : (doubt : Option (List Change)) → vault.doubt ≡ doubt → is_some (settled_with vault doubt).doubt ≡ false
    by_doubt None e = ap is_some e
    by_doubt (Some changes) e = refl

-- a refusal at once leaves no doubt
abbrev pub IsUndoubted : Option Outcome → Type 0
IsUndoubted None = ⊤
IsUndoubted (Some refusal) = ended_in_doubt refusal ≡ false

room_undoubted : (pages : List ℕ) (room : Option VaultRoom) → IsUndoubted (refused_for_room pages room)
room_undoubted pages None = tt
room_undoubted pages (Some room) =
    cond_both (nat_lt (free_of room) (need_of room pages)) (Some (outcome.Full (need_of room pages) (free_of room))) None IsUndoubted (λ is. refl) (λ is. tt)

at_once_undoubted : (vault : VaultState) (pages : List ℕ) → IsUndoubted (refused_at_once vault pages)
at_once_undoubted vault pages =
    cond_both (vault.version == last_version) (Some outcome.Worn) (refused_for_room pages vault.room) IsUndoubted (λ is. refl) (λ is. room_undoubted pages vault.room)

-- a commit leaves a doubt where it ended so
pub commit_doubt : (vault : VaultState) (changes : List Change) (outside : Outside) → is_some vault.doubt ≡ false
    → is_some (commit vault changes outside).vault.doubt ≡ ended_in_doubt (commit vault changes outside).outcome
commit_doubt vault [] outside none = none
commit_doubt vault (change ∷ changes) outside none =
    by_refusal (refused_at_once vault (pages_of (change ∷ changes))) (at_once_undoubted vault (pages_of (change ∷ changes)))
  where
    by_outside : (what : Outside) → is_some (written_with vault (change ∷ changes) what).vault.doubt ≡ ended_in_doubt (written_with vault (change ∷ changes) what).outcome
    by_outside NothingFailed = refl
    by_outside LoadFailed = refl
    by_outside WriteOutFailed = none
    by_outside WriteOutDoubted = refl
    by_outside SettleFailed = refl

    by_refusal : (refusal : Option Outcome) → IsUndoubted refusal
        → is_some (written_unless vault (change ∷ changes) outside refusal).vault.doubt ≡ ended_in_doubt (written_unless vault (change ∷ changes) outside refusal).outcome
    by_refusal None is = by_outside outside
    by_refusal (Some refusal) is = none ∙ sym is

-- the state after a finish
pub finish_order : (state : State) (lead : ℕ) (unfinished : Unfinished) → HasOrderlyStabilisations state → state.unfinished ≡ Some unfinished
    → (unfinished.lead == lead) ≡ true → HasOrderlyStabilisations (finish_turn lead unfinished.outcome state).state
finish_order state lead unfinished order e same =
    let stands : OneIsUnfinished state unfinished = subst (AreWriteOutsInOrder state) e order.written in
    let well : FinishedWell (finish state.shared lead unfinished.outcome).shared (ended_in_doubt unfinished.outcome) =
    finish_well state.shared lead unfinished.outcome order.frozen (subst (IsSealedBy state.shared) (eqb-true unfinished.lead lead same) stands.stabilisation) stands.alone in
    record { frozen = well.frozen; written = record { most = well.most; doubt = stands.doubt ∙ sym well.any } }

-- after a settle
settle_written : (state : State) (one : Stabilisation) (unfinished : Option Unfinished) → doubtful_of state.shared ≡ Some one → AreFrozen state.shared
    → AreWriteOutsInOrder state unfinished → AreFrozen (settled state.shared).shared × AreWriteOutsInOrder (settle_turn state).state unfinished
settle_written state one (Some unfinished) e frozen order =
    let found = find_found (λ (x : Stabilisation). is_doubtful x.phase) state.shared.stabilisations one e in
    absurd (true≢false (sym (any_of (λ (x : Stabilisation). is_doubtful x.phase) state.shared.stabilisations one found.0 found.1) ∙ order.alone))
settle_written state one None e frozen order =
    let well = settled_well state.shared one e frozen order.most in
    (well.frozen, record { most = well.most; doubt = settled_has_no_doubt state.vault ∙ sym well.any })

pub settle_order : (state : State) (one : Stabilisation) → HasOrderlyStabilisations state → doubtful_of state.shared ≡ Some one
    → HasOrderlyStabilisations (settle_turn state).state
settle_order state one order e =
    let done = settle_written state one state.unfinished e order.frozen order.written in record { frozen = done.0; written = done.1 }

-- after a write-out
unmapped : {X Y : Type 0} (f : X → Y) (one : Option X) → option_map f one ≡ None → one ≡ None
unmapped f None is = refl
unmapped f (Some x) is = absurd (true≢false (ap is_some is))

unless_unfinished : {X : Type 0} (test : Bool) (one : Option X) (x : X) → cond test None one ≡ Some x → one ≡ Some x
unless_unfinished {X} test one x =
    cond_both test None one (λ (found : Option X). found ≡ Some x → one ≡ Some x) (λ is e. absurd (true≢false (sym (ap is_some e)))) (λ is e. e)

-- where no write-out is under way
pub idle_before : (state : State) → busy_lead state ≡ None → (state.unfinished ≡ None) × (is_any_doubtful state.shared ≡ false)
idle_before state free =
    let idle = neither (option_map (λ (x : Unfinished). x.lead) state.unfinished) (option_map (λ (x : Stabilisation). x.lead) (doubtful_of state.shared)) free in (
      unmapped (λ (x : Unfinished). x.lead) state.unfinished idle.0,
      any_none (λ (x : Stabilisation). is_doubtful x.phase) state.shared.stabilisations
          (find_none (λ (x : Stabilisation). is_doubtful x.phase) state.shared.stabilisations (unmapped (λ (x : Stabilisation). x.lead) (doubtful_of state.shared) idle.1)),
    )

pub write_out_order : (state : State) (outside : Outside) (lead : ℕ) (one : Stabilisation) → HasOrderlyStabilisations state → job_of state lead ≡ Some one
    → busy_lead state ≡ None → HasOrderlyStabilisations (written_out state outside one None).state
write_out_order state outside lead one order job free = record {
  frozen = order.frozen;
  written = record {
    stabilisation = (one, found.0, refl, (and_parts (one.lead == lead) (is_sealed one.phase) found.1).1);
    alone = alone;
    doubt = commit_doubt state.vault (changes_of state one) outside (before.doubt ∙ alone);
  };
}
  where
    idle : (state.unfinished ≡ None) × (is_any_doubtful state.shared ≡ false)
    idle = idle_before state free

    before : NoneIsUnfinished state
    before = subst (AreWriteOutsInOrder state) idle.0 order.written

    alone : is_any_doubtful state.shared ≡ false
    alone = idle.1

    found : Contains state.shared.stabilisations one × (((one.lead == lead) && is_sealed one.phase) ≡ true)
    found =
        find_found (λ (x : Stabilisation). (x.lead == lead) && is_sealed x.phase) state.shared.stabilisations one
        (unless_unfinished (is_unfinished_of lead state.unfinished) (sealed_of state.shared lead) one job)
