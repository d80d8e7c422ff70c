use Rattle.std.proofs.Common.{◌≡◌, ◌≢◌, ◌⊎◌, ◌≤◌, ◌<◌, ◌+◌, ℕ, List, [], ◌∷◌, Bool, true, false, cond, not, ◌&&◌, ◌||◌, ◌==◌, length, map, refl, sym, ap, ◌∙◌, subst, inl, inr, ⊎_elim, arith, true≢false}
use Rattle.std.specs.Prelude.{Option, None, Some, is_some, option_map, option_and_then, unwrap_or, nat_lt}
use Rattle.std.specs.Option.{option_or}
use Rattle.std.specs.List.{list_any, find}
use Rattle.std.proofs.lemmas.Bool.{and_parts, eq-eqb, eqb-true, ltb-true}
use Rattle.casper_space.specs.Changes.{Change, VaultRoom, last_version, pages_of, need_of, free_of}
use Rattle.casper_space.specs.declared.answer.Answer.{Answer}
use Rattle.casper_space.specs.declared.answer.Answer.TheVariants as answer
use Rattle.casper_model.specs.declared.event.Event.TheVariants as event
use Rattle.casper_model.specs.declared.outcome.Outcome.{Outcome}
use Rattle.casper_model.specs.declared.outcome.Outcome.TheVariants as outcome
use Rattle.casper_model.specs.Answers.{of_write_out, of_finish}
use Rattle.casper_model.specs.Finish.{finish, finished_by, finished_as, failed, settled_by, stabilisation_led_by, doubtful_of}
use Rattle.casper_model.specs.Frozen.{pages_modified_by}
use Rattle.casper_trail.specs.Association.{association_of}
use Rattle.casper_model.specs.Outside.{Outside, NothingFailed, LoadFailed, WriteOutFailed, WriteOutDoubted, SettleFailed, is_settle_failed}
use Rattle.casper_model.specs.Shared.{Shared}
use Rattle.casper_model.specs.Stabilisation.{Stabilisation, is_sealed, is_doubtful}
use Rattle.casper_model.specs.State.{State, Unfinished}
use Rattle.casper_model.specs.Step.{step}
use Rattle.casper_model.specs.Turn.{Turn, guarded}
use Rattle.casper_model.specs.Vault.{VaultState, Written, commit, written_unless, written_with, refused_for_room}
use Rattle.casper_model.specs.WriteOutStep.{changes_of, sealed_of, is_unfinished_of, job_of, busy_lead, written_out, write_out_step, finish_turn, finish_step, settle_turn, settle_step, of_settled}
use Rattle.casper_laws.specs.FrozenLaws.{is_any_doubtful, AreWriteOutsInOrder, OneIsUnfinished}
use Rattle.casper_laws.specs.Additions.{noted_by}
use Rattle.casper_turns.proofs.Lists.{any_of, any_none, find_found, find_none}
use Rattle.casper_laws.proofs.StepImage.{IsOrderly}
use Rattle.casper_answers.specs.WriteOutCauses.{is_no_job, is_vault, is_written, has_job, is_busy_vault, IsBusyLead, pages_due, NoJobExactly, VaultExactly, WornHasItsCause, FullHasItsCause, FaultsAreOfTheOutside, WrittenIsTheVersion, WrittenWhereItCan, end_of, FinishesAsItEnded, SettlesADoubt}

-- Why a write-out, a finish or a settle is answered so.

-- something is found where something passes
found_where_any : {X : Type 0} (test : X → Bool) (list : List X) → is_some (find test list) ≡ list_any test list
found_where_any {X} test list = by_found (find test list) refl
  where
    by_found : (found : Option X) → find test list ≡ found → is_some found ≡ list_any test list
    by_found None e = sym (any_none test list (find_none test list e))
    by_found (Some x) e = let it = find_found test list x e in sym (any_of test list x it.0 it.1)

module _ (state : State) where
  job_where : (lead : ℕ) → is_some (job_of state lead) ≡ has_job state lead
  job_where lead = by_unfinished (is_unfinished_of lead state.unfinished)
    where
      only_first : (one : Bool) → (one && true) ≡ one
      only_first true = refl
      only_first false = refl

      never_both : (one : Bool) → (one && false) ≡ false
      never_both true = refl
      never_both false = refl

      by_unfinished : (mine : Bool) → is_some (cond mine None (sealed_of state.shared lead))
          ≡ (list_any (λ one. (one.lead == lead) && is_sealed one.phase) state.shared.stabilisations && not mine)
      by_unfinished true = sym (never_both (list_any (λ one. (one.lead == lead) && is_sealed one.phase) state.shared.stabilisations))
      by_unfinished false =
          found_where_any (λ (one : Stabilisation). (one.lead == lead) && is_sealed one.phase) state.shared.stabilisations
          ∙ sym (only_first (list_any (λ one. (one.lead == lead) && is_sealed one.phase) state.shared.stabilisations))

  busy_where : is_some (busy_lead state) ≡ is_busy_vault state
  busy_where = by_unfinished state.unfinished
    where
      mapped : (found : Option Stabilisation) → is_some (option_map (λ (one : Stabilisation). one.lead) found) ≡ is_some found
      mapped None = refl
      mapped (Some one) = refl

      by_unfinished : (unfinished : Option Unfinished)
          → is_some (option_or (option_map (λ (one : Unfinished). one.lead) unfinished) (option_map (λ (one : Stabilisation). one.lead) (doubtful_of state.shared)))
          ≡ (is_some unfinished || is_any_doubtful state.shared)
      by_unfinished None = mapped (doubtful_of state.shared) ∙ found_where_any (λ (one : Stabilisation). is_doubtful one.phase) state.shared.stabilisations
      by_unfinished (Some one) = refl

  busy_is : (busy : ℕ) → busy_lead state ≡ Some busy → IsBusyLead state busy
  busy_is busy = by_unfinished state.unfinished refl
    where
      by_doubtful : (found : Option Stabilisation) → doubtful_of state.shared ≡ found → option_map (λ (one : Stabilisation). one.lead) found ≡ Some busy → IsBusyLead state busy
      by_doubtful None e none = absurd (true≢false (sym (ap is_some none)))
      by_doubtful (Some one) e some =
          let found = find_found (λ (x : Stabilisation). is_doubtful x.phase) state.shared.stabilisations one e in
          inr (one, found.0, found.1, ap (λ (x : Option ℕ). unwrap_or x busy) some)

      by_unfinished : (unfinished : Option Unfinished) → state.unfinished ≡ unfinished
          → option_or (option_map (λ (one : Unfinished). one.lead) unfinished) (option_map (λ (one : Stabilisation). one.lead) (doubtful_of state.shared)) ≡ Some busy
          → IsBusyLead state busy
      by_unfinished None e some = by_doubtful (doubtful_of state.shared) refl some
      by_unfinished (Some one) e some = inl (one, e, ap (λ (x : Option ℕ). unwrap_or x busy) some)

  -- there is no job, or the vault is busy, or the pages are written
  by_write_out : (P : Turn → Type 0) (lead : ℕ) (outside : Outside) → (has_job state lead ≡ false → P (record { answer = answer.NoJob; state = state }))
      → (has_job state lead ≡ true → (busy : ℕ) → busy_lead state ≡ Some busy → P (record { answer = answer.Vault busy; state = state }))
      → (has_job state lead ≡ true → is_busy_vault state ≡ false → (one : Stabilisation) → one.lead ≡ lead → P (written_out state outside one None))
      → P (step state (event.WriteOut lead) outside)
  by_write_out P lead outside no_job vault writes = by_job (job_of state lead) refl
    where
      led : (one : Stabilisation) → job_of state lead ≡ Some one → one.lead ≡ lead
      led one = by_unfinished (is_unfinished_of lead state.unfinished)
        where
          by_unfinished : (mine : Bool) → cond mine None (sealed_of state.shared lead) ≡ Some one → one.lead ≡ lead
          by_unfinished true none = absurd (true≢false (sym (ap is_some none)))
          by_unfinished false some =
              eqb-true one.lead lead
              (and_parts (one.lead == lead) (is_sealed one.phase)
              (find_found (λ (x : Stabilisation). (x.lead == lead) && is_sealed x.phase) state.shared.stabilisations one some).1).0

      by_busy : (one : Stabilisation) → job_of state lead ≡ Some one → (busy : Option ℕ) → busy_lead state ≡ busy → P (written_out state outside one busy)
      by_busy one e (Some busy) is = vault (sym (job_where lead) ∙ ap is_some e) busy is
      by_busy one e None is = writes (sym (job_where lead) ∙ ap is_some e) (sym busy_where ∙ ap is_some is) one (led one e)

      by_job : (job : Option Stabilisation) → job_of state lead ≡ job → P (write_out_step state outside job)
      by_job None e = no_job (sym (job_where lead) ∙ ap is_some e)
      by_job (Some one) e = by_busy one e (busy_lead state) refl

  outcome_is_job : (how : Outcome) → (is_no_job (of_write_out how) ≡ false) × (is_vault (of_write_out how) ≡ false)
  outcome_is_job (outcome.Ok version) = (refl, refl)
  outcome_is_job (outcome.Full need free) = (refl, refl)
  outcome_is_job outcome.Worn = (refl, refl)
  outcome_is_job outcome.Disk = (refl, refl)
  outcome_is_job outcome.Doubt = (refl, refl)

  pub no_job_exactly : NoJobExactly state
  no_job_exactly lead outside client =
      by_write_out (λ turn. is_no_job turn.answer ≡ not (has_job state lead)) lead outside (λ none. sym (ap not none)) (λ some busy is. sym (ap not some))
      (λ some free one led. (outcome_is_job (commit state.vault (changes_of state one) outside).outcome).0 ∙ sym (ap not some))

  pub vault_exactly : VaultExactly state
  vault_exactly lead outside client = (
    by_write_out (λ turn. is_vault turn.answer ≡ (has_job state lead && is_busy_vault state)) lead outside
        (λ none. sym (ap (λ one. one && is_busy_vault state) none))
        (λ some busy is. sym (ap (λ one. one && is_busy_vault state) some ∙ sym busy_where ∙ ap is_some is))
        (λ some free one led. (outcome_is_job (commit state.vault (changes_of state one) outside).outcome).1 ∙ sym (ap (λ x. x && is_busy_vault state) some ∙ free)),
    λ busy.
        by_write_out (λ turn. turn.answer ≡ answer.Vault busy → IsBusyLead state busy) lead outside (λ none is. absurd (true≢false (sym (ap is_vault is))))
        (λ some other found is. busy_is busy (found ∙ ap (λ given. Some (lead_in given)) is))
        (λ some free one led is. absurd (true≢false (sym (ap is_vault is) ∙ (outcome_is_job (commit state.vault (changes_of state one) outside).outcome).1))),
  )
    where
      lead_in : Answer → ℕ
      lead_in (answer.Vault other) = other
      lead_in other = 0

-- what a commit of pages comes to
abbrev kind_of : Answer → ℕ
kind_of (answer.Written version) = 1
kind_of (answer.Full need free) = 2
kind_of answer.Worn = 3
kind_of answer.Disk = 4
kind_of answer.Doubt = 5
kind_of other = 0

abbrev first_of : Answer → ℕ
first_of (answer.Written version) = version
first_of (answer.Full need free) = need
first_of other = 0

abbrev second_of : Answer → ℕ
second_of (answer.Full need free) = free
second_of other = 0

differ : {T : Type 0} (one other : ℕ) → (one == other) ≡ false → one ≡ other → T
differ one other apart same = absurd (true≢false (sym (eq-eqb one other same) ∙ apart))

abbrev is_quiet : Outside → Bool
is_quiet NothingFailed = true
is_quiet other = false

not_quiet : {T : Type 0} (outside : Outside) → is_quiet outside ≡ false → outside ≡ NothingFailed → T
not_quiet outside none quiet = absurd (true≢false (sym (ap is_quiet quiet) ∙ none))

record CommitSays (vault : VaultState) (pages : List ℕ) (outside : Outside) (written : Written) : Type 0 where
  worn : kind_of (of_write_out written.outcome) ≡ 3 → (pages ≢ []) × (vault.version ≡ last_version)
  full : kind_of (of_write_out written.outcome) ≡ 2
      → (pages ≢ [])
      × ((room : VaultRoom) × (vault.room ≡ Some room) × (first_of (of_write_out written.outcome) ≡ need_of room pages) × (second_of (of_write_out written.outcome) ≡ free_of room)
      × (free_of room < need_of room pages))
  disk : kind_of (of_write_out written.outcome) ≡ 4 → outside ≡ WriteOutFailed
  doubt : kind_of (of_write_out written.outcome) ≡ 5 → outside ≡ WriteOutDoubted
  ok : kind_of (of_write_out written.outcome) ≡ 1
      → (written.vault.version ≡ first_of (of_write_out written.outcome))
      × (((pages ≡ []) × (first_of (of_write_out written.outcome) ≡ vault.version)) ⊎ ((pages ≢ []) × (first_of (of_write_out written.outcome) ≡ vault.version + 1)))
  can : (pages ≡ []) ⊎ ((vault.version ≢ last_version) × ((room : VaultRoom) → vault.room ≡ Some room → need_of room pages ≤ free_of room)) → outside ≡ NothingFailed
      → is_written (of_write_out written.outcome) ≡ true

commit_says : (vault : VaultState) (changes : List Change) (outside : Outside) → CommitSays vault (pages_of changes) outside (commit vault changes outside)
commit_says vault [] outside = record {
  worn = λ is. differ 1 3 refl is;
  full = λ is. differ 1 2 refl is;
  disk = λ is. differ 1 4 refl is;
  doubt = λ is. differ 1 5 refl is;
  ok = λ is. (refl, inl (refl, refl));
  can = λ may quiet. refl;
}
commit_says vault (change ∷ changes) outside = by_worn (vault.version == last_version) refl
  where
    some : pages_of (change ∷ changes) ≢ []
    some none = true≢false (ap (list_any (λ page. true)) none)

    -- a commit that used the disk
    used : (outside : Outside) → vault.version ≢ last_version → CommitSays vault (pages_of (change ∷ changes)) outside (written_with vault (change ∷ changes) outside)
    used NothingFailed further = record {
      worn = λ is. differ 1 3 refl is;
      full = λ is. differ 1 2 refl is;
      disk = λ is. differ 1 4 refl is;
      doubt = λ is. differ 1 5 refl is;
      ok = λ is. (refl, inr (some, refl));
      can = λ may quiet. refl;
    }
    used LoadFailed further = record {
      worn = λ is. differ 1 3 refl is;
      full = λ is. differ 1 2 refl is;
      disk = λ is. differ 1 4 refl is;
      doubt = λ is. differ 1 5 refl is;
      ok = λ is. (refl, inr (some, refl));
      can = λ may quiet. refl;
    }
    used WriteOutFailed further = record {
      worn = λ is. differ 4 3 refl is;
      full = λ is. differ 4 2 refl is;
      disk = λ is. refl;
      doubt = λ is. differ 4 5 refl is;
      ok = λ is. differ 4 1 refl is;
      can = λ may quiet. not_quiet WriteOutFailed refl quiet;
    }
    used WriteOutDoubted further = record {
      worn = λ is. differ 5 3 refl is;
      full = λ is. differ 5 2 refl is;
      disk = λ is. differ 5 4 refl is;
      doubt = λ is. refl;
      ok = λ is. differ 5 1 refl is;
      can = λ may quiet. not_quiet WriteOutDoubted refl quiet;
    }
    used SettleFailed further = record {
      worn = λ is. differ 1 3 refl is;
      full = λ is. differ 1 2 refl is;
      disk = λ is. differ 1 4 refl is;
      doubt = λ is. differ 1 5 refl is;
      ok = λ is. (refl, inr (some, refl));
      can = λ may quiet. refl;
    }

    by_small : (room : VaultRoom) → vault.room ≡ Some room → vault.version ≢ last_version → (small : Bool) → nat_lt (free_of room) (need_of room (pages_of (change ∷ changes))) ≡ small
        → CommitSays vault (pages_of (change ∷ changes)) outside
        (written_unless vault (change ∷ changes) outside
        (cond small (Some (outcome.Full (need_of room (pages_of (change ∷ changes))) (free_of room))) None))
    by_small room is further true small = record {
      worn = λ no. differ 2 3 refl no;
      full = λ yes. (some, (room, is, refl, refl, ltb-true (free_of room) (need_of room (pages_of (change ∷ changes))) small));
      disk = λ no. differ 2 4 refl no;
      doubt = λ no. differ 2 5 refl no;
      ok = λ no. differ 2 1 refl no;
      can = λ may quiet.
          ⊎_elim (λ none. absurd (some none))
          (λ (fits : (vault.version ≢ last_version) × ((room : VaultRoom) → vault.room ≡ Some room → need_of room (pages_of (change ∷ changes)) ≤ free_of room)).
          let enough = fits.1 room is in
          let less = ltb-true (free_of room) (need_of room (pages_of (change ∷ changes))) small in
          absurd (omega (arith, enough, less)))
          may;
    }
    by_small room is further false small = used outside further

    by_room : (found : Option VaultRoom) → vault.room ≡ found → vault.version ≢ last_version
        → CommitSays vault (pages_of (change ∷ changes)) outside
        (written_unless vault (change ∷ changes) outside (refused_for_room (pages_of (change ∷ changes)) found))
    by_room None e further = used outside further
    by_room (Some room) e further = by_small room e further (nat_lt (free_of room) (need_of room (pages_of (change ∷ changes)))) refl

    by_worn : (worn : Bool) → (vault.version == last_version) ≡ worn
        → CommitSays vault (pages_of (change ∷ changes)) outside
        (written_unless vault (change ∷ changes) outside (cond worn (Some outcome.Worn) (refused_for_room (pages_of (change ∷ changes)) vault.room)))
    by_worn true e = record {
      worn = λ yes. (some, eqb-true vault.version last_version e);
      full = λ no. differ 3 2 refl no;
      disk = λ no. differ 3 4 refl no;
      doubt = λ no. differ 3 5 refl no;
      ok = λ no. differ 3 1 refl no;
      can = λ may quiet.
          ⊎_elim (λ none. absurd (some none))
          (λ (fits : (vault.version ≢ last_version) × ((room : VaultRoom) → vault.room ≡ Some room → need_of room (pages_of (change ∷ changes)) ≤ free_of room)).
          absurd (fits.0 (eqb-true vault.version last_version e)))
          may;
    }
    by_worn false e = by_room vault.room refl (λ same. true≢false (sym (eq-eqb vault.version last_version same) ∙ e))

module _ (state : State) where
  -- the pages that are written are those that are due
  pages_are_due : (one : Stabilisation) (lead : ℕ) → one.lead ≡ lead → pages_of (changes_of state one) ≡ pages_due state lead
  pages_are_due one lead led =
      mapped _ (pages_modified_by state.shared.trail (association_of state.shared.trail one.lead))
      ∙ ap (λ number. pages_modified_by state.shared.trail (association_of state.shared.trail number)) led
    where
      mapped : (words : ℕ → List ℕ) (pages : List ℕ) → pages_of (map (λ page. record { page = page; words = words page }) pages) ≡ pages
      mapped words [] = refl
      mapped words (page ∷ pages) = ap (λ rest. page ∷ rest) (mapped words pages)

  says : (lead : ℕ) (outside : Outside) (one : Stabilisation) → one.lead ≡ lead
      → CommitSays state.vault (pages_due state lead) outside (commit state.vault (changes_of state one) outside)
  says lead outside one led =
      subst (λ pages. CommitSays state.vault pages outside (commit state.vault (changes_of state one) outside)) (pages_are_due one lead led)
      (commit_says state.vault (changes_of state one) outside)

  pub worn_cause : WornHasItsCause state
  worn_cause lead outside client =
      by_write_out state (λ turn. turn.answer ≡ answer.Worn → (pages_due state lead ≢ []) × (state.vault.version ≡ last_version)) lead outside
      (λ none is. differ 0 3 refl (ap kind_of is)) (λ some busy found is. differ 0 3 refl (ap kind_of is)) (λ some free one led is. (says lead outside one led).worn (ap kind_of is))

  pub full_cause : FullHasItsCause state
  full_cause lead need free outside client =
      by_write_out state
      (λ turn.
      turn.answer ≡ answer.Full need free
      → (pages_due state lead ≢ [])
      × ((room : VaultRoom) × (state.vault.room ≡ Some room) × (need ≡ need_of room (pages_due state lead)) × (free ≡ free_of room) × (free < need))) lead outside
      (λ none is. differ 0 2 refl (ap kind_of is)) (λ some busy found is. differ 0 2 refl (ap kind_of is))
      (λ some free_vault one led is.
      let full = (says lead outside one led).full (ap kind_of is) in
      let needs = sym (ap first_of is) ∙ full.1.2 in
      let frees = sym (ap second_of is) ∙ full.1.3 in
      (full.0, (full.1.0, full.1.1, needs, frees, subst (λ x. x < need) (sym frees) (subst (λ x. free_of full.1.0 < x) (sym needs) full.1.4))))

  pub faults_outside : FaultsAreOfTheOutside state
  faults_outside lead outside client = (
    by_write_out state (λ turn. turn.answer ≡ answer.Disk → outside ≡ WriteOutFailed) lead outside (λ none is. differ 0 4 refl (ap kind_of is))
        (λ some busy found is. differ 0 4 refl (ap kind_of is)) (λ some free one led is. (says lead outside one led).disk (ap kind_of is)),
    by_write_out state (λ turn. turn.answer ≡ answer.Doubt → outside ≡ WriteOutDoubted) lead outside (λ none is. differ 0 5 refl (ap kind_of is))
        (λ some busy found is. differ 0 5 refl (ap kind_of is)) (λ some free one led is. (says lead outside one led).doubt (ap kind_of is)),
  )

  pub written_version : WrittenIsTheVersion state
  written_version lead version outside client =
      by_write_out state
      (λ turn.
      turn.answer ≡ answer.Written version
      → (turn.state.vault.version ≡ version)
      × (((pages_due state lead ≡ []) × (version ≡ state.vault.version)) ⊎ ((pages_due state lead ≢ []) × (version ≡ state.vault.version + 1)))) lead outside
      (λ none is. differ 0 1 refl (ap kind_of is)) (λ some busy found is. differ 0 1 refl (ap kind_of is))
      (λ some free one led is.
      let ok = (says lead outside one led).ok (ap kind_of is) in (
        ok.0 ∙ ap first_of is,
        ⊎_elim (λ none. inl (none.0, sym (ap first_of is) ∙ none.1)) (λ written. inr (written.0, sym (ap first_of is) ∙ written.1)) ok.1,
      ))

  pub written_where_it_can : WrittenWhereItCan state
  written_where_it_can lead client job free can =
      by_write_out state (λ turn. is_written turn.answer ≡ true) lead NothingFailed (λ none. absurd (true≢false (sym job ∙ none)))
      (λ some busy found. absurd (true≢false (sym (sym (busy_where state) ∙ ap is_some found) ∙ free))) (λ some free_vault one led. (says lead NothingFailed one led).can can refl)

module _ (state : State) (known : IsOrderly state) where
  abbrev shared : Shared
  shared = state.shared

  -- how a finish ends
  ended_so : (one : Stabilisation) (how : Outcome) → of_finish (Some (finished_as state.shared one how).reply) ≡ end_of how one.noted (length state.shared.trail)
  ended_so one (outcome.Ok version) = refl
  ended_so one (outcome.Full need free) = by_noted one.noted
    where
      by_noted : (noted : Option ℕ) → of_finish (Some (failed state.shared one (outcome.Full need free) noted).reply) ≡ end_of (outcome.Full need free) noted (length state.shared.trail)
      by_noted None = refl
      by_noted (Some lost) = refl
  ended_so one outcome.Worn = by_noted one.noted
    where
      by_noted : (noted : Option ℕ) → of_finish (Some (failed state.shared one outcome.Worn noted).reply) ≡ end_of outcome.Worn noted (length state.shared.trail)
      by_noted None = refl
      by_noted (Some lost) = refl
  ended_so one outcome.Disk = by_noted one.noted
    where
      by_noted : (noted : Option ℕ) → of_finish (Some (failed state.shared one outcome.Disk noted).reply) ≡ end_of outcome.Disk noted (length state.shared.trail)
      by_noted None = refl
      by_noted (Some lost) = refl
  ended_so one outcome.Doubt = refl

  end_is_no_no_job : (how : Outcome) (noted : Option ℕ) (place : ℕ) → is_no_job (end_of how noted place) ≡ false
  end_is_no_no_job (outcome.Ok version) noted place = refl
  end_is_no_no_job (outcome.Full need free) None place = refl
  end_is_no_no_job (outcome.Full need free) (Some lost) place = refl
  end_is_no_no_job outcome.Worn None place = refl
  end_is_no_no_job outcome.Worn (Some lost) place = refl
  end_is_no_no_job outcome.Disk None place = refl
  end_is_no_no_job outcome.Disk (Some lost) place = refl
  end_is_no_no_job outcome.Doubt noted place = refl

  finish_ends : (lead : ℕ) (unfinished : Unfinished) → state.unfinished ≡ Some unfinished → unfinished.lead ≡ lead
      → of_finish (finish state.shared lead unfinished.outcome).reply ≡ end_of unfinished.outcome (noted_by state.shared lead) (length state.shared.trail)
  finish_ends lead unfinished e led = by_found (stabilisation_led_by state.shared lead) refl
    where
      stands : OneIsUnfinished state unfinished
      stands = subst (AreWriteOutsInOrder state) e known.orderly.written

      by_found : (found : Option Stabilisation) → stabilisation_led_by state.shared lead ≡ found
          → of_finish (finished_by state.shared unfinished.outcome found).reply
          ≡ end_of unfinished.outcome (option_and_then (λ (one : Stabilisation). one.noted) found) (length state.shared.trail)
      by_found None none =
          let seal = stands.stabilisation in
          absurd (find_none (λ (x : Stabilisation). x.lead == lead) state.shared.stabilisations none seal.0 seal.1 (eq-eqb seal.0.lead lead (seal.2 ∙ led)))
      by_found (Some one) some = ended_so one unfinished.outcome

  pub finishes_as_it_ended : FinishesAsItEnded state
  finishes_as_it_ended lead outside client = (by_none state.unfinished refl, λ unfinished e led. by_some unfinished e led state.unfinished e)
    where
      by_none : (unfinished : Option Unfinished) → state.unfinished ≡ unfinished → is_no_job (finish_step state lead unfinished).answer ≡ not (is_unfinished_of lead unfinished)
      by_none None e = refl
      by_none (Some unfinished) e = by_lead (unfinished.lead == lead) refl
        where
          by_lead : (same : Bool) → (unfinished.lead == lead) ≡ same
              → is_no_job (guarded same answer.NoJob state (finish_turn lead unfinished.outcome)).answer ≡ not same
          by_lead true same =
              ap is_no_job (finish_ends lead unfinished e (eqb-true unfinished.lead lead same))
              ∙ end_is_no_no_job unfinished.outcome (noted_by state.shared lead) (length state.shared.trail)
          by_lead false same = refl

      by_some : (unfinished : Unfinished) → state.unfinished ≡ Some unfinished → unfinished.lead ≡ lead → (found : Option Unfinished) → found ≡ Some unfinished
          → (finish_step state lead found).answer ≡ end_of unfinished.outcome (noted_by state.shared lead) (length state.shared.trail)
      by_some unfinished e led found is =
          subst (λ (x : Option Unfinished). (finish_step state lead x).answer ≡ end_of unfinished.outcome (noted_by state.shared lead) (length state.shared.trail)) (sym is)
          (by_lead (unfinished.lead == lead) (eq-eqb unfinished.lead lead led))
        where
          by_lead : (same : Bool) → same ≡ true
              → (guarded same answer.NoJob state (finish_turn lead unfinished.outcome)).answer
              ≡ end_of unfinished.outcome (noted_by state.shared lead) (length state.shared.trail)
          by_lead true same = finish_ends lead unfinished e led
          by_lead false same = absurd (true≢false (sym same))

  pub settles_a_doubt : SettlesADoubt state
  settles_a_doubt outside = by_found (doubtful_of state.shared) refl
    where
      any : is_some (doubtful_of state.shared) ≡ is_any_doubtful state.shared
      any = found_where_any (λ (one : Stabilisation). is_doubtful one.phase) state.shared.stabilisations

      some_commits : (found : Option Stabilisation) → is_some found ≡ true → of_settled (settled_by state.shared found).reply ≡ answer.Commit (length state.shared.trail)
      some_commits None none = absurd (true≢false (sym none))
      some_commits (Some one) is = refl

      by_failed : (one : Stabilisation) → doubtful_of state.shared ≡ Some one → (failed : Bool) → is_settle_failed outside ≡ failed
          → (is_settle_failed outside ≡ true → (guarded (not failed) answer.Disk state settle_turn).answer ≡ answer.Disk)
          × (is_settle_failed outside ≡ false → (guarded (not failed) answer.Disk state settle_turn).answer ≡ answer.Commit (length state.shared.trail))
      by_failed one e true is = (λ yes. refl, λ no. absurd (true≢false (sym is ∙ no)))
      by_failed one e false is = (λ yes. absurd (true≢false (sym yes ∙ is)), λ no. some_commits (doubtful_of state.shared) (ap is_some e))

      by_found : (found : Option Stabilisation) → doubtful_of state.shared ≡ found
          → (is_any_doubtful state.shared ≡ false → (settle_step state outside found).answer ≡ answer.Nothing)
          × (is_any_doubtful state.shared ≡ true → is_settle_failed outside ≡ true → (settle_step state outside found).answer ≡ answer.Disk)
          × (is_any_doubtful state.shared ≡ true → is_settle_failed outside ≡ false → (settle_step state outside found).answer ≡ answer.Commit (length state.shared.trail))
      by_found None e =
          (λ none. refl, λ some. absurd (true≢false (sym some ∙ sym any ∙ ap is_some e)), λ some. absurd (true≢false (sym some ∙ sym any ∙ ap is_some e)))
      by_found (Some one) e =
          let found = by_failed one e (is_settle_failed outside) refl in
          (λ none. absurd (true≢false (sym (sym any ∙ ap is_some e) ∙ none)), λ some. found.0, λ some. found.1)
