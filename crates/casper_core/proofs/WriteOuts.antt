use Rattle.std.proofs.Common.{◌≡◌, ◌<◌, ◌==◌, ◌&&◌, ℕ, List, [], Bool, true, false, cond, map, true≢false, refl, sym, ap, ap₂, ◌∙◌, subst}
use Rattle.std.specs.Prelude.{Option, None, Some, IsSome, find, is_some, option_map, Contains, slice_index_or, unwrap_or}
use Rattle.std.specs.Option.{option_or}
use Rattle.std.proofs.lemmas.Bool.{and_parts, eqb-true}
use Rattle.std.proofs.lemmas.List.Elements.{All-contains}
use Rattle.std.proofs.lemmas.Option.{none-some}
use Rattle.casper_words.specs.Crew.{IsClient}
use Rattle.casper_trail.specs.Association.{association_of}
use Rattle.casper_trail.specs.Image.{array_of}
use Rattle.casper_trail.specs.Parts.{live_entries}
use Rattle.casper_trail.specs.Value.{IsArray}
use Rattle.casper_space.specs.Changes.{Change, pages_of}
use Rattle.casper_space.specs.declared.answer.Answer.TheVariants as answer
use Rattle.casper_disk.specs.Vault.{as_changes}
use Rattle.casper_model.specs.declared.event.Event.TheVariants as event
use Rattle.casper_model.specs.declared.outcome.Outcome.{Outcome}
use Rattle.casper_model.specs.declared.outcome.Outcome.TheVariants as outcome
use Rattle.casper_model.specs.Answers.{of_write_out}
use Rattle.casper_model.specs.Frozen.{pages_modified_by}
use Rattle.casper_model.specs.Stabilisation.{Stabilisation, is_sealed, is_doubtful}
use Rattle.casper_model.specs.State.{State, Unfinished}
use Rattle.casper_model.specs.Step.{step}
use Rattle.casper_model.specs.Turn.{Turn}
use Rattle.casper_model.specs.Vault.{VaultState, Written, commit}
use Rattle.casper_model.specs.WriteOutStep.{job_of, busy_lead, changes_of, is_unfinished_of, write_out_step, written_out}
use Rattle.casper_laws.specs.FrozenLaws.{ended_in_doubt}
use Rattle.casper_hub.specs.Committing.{doubtful_in}
use Rattle.casper_hub.specs.HubView.{page_count}
use Rattle.casper_hub.specs.Jobs.{sealed_in, IsJobOf}
use Rattle.casper_hub.specs.Shows.{Shows}
use Rattle.casper_hub.proofs.Relying.{kept_itself}
use Rattle.casper_hub.proofs.StandsFor.{stands_for}
use Rattle.casper_frozen.specs.Jobs.{JobView}
use Rattle.casper_turns.proofs.Lists.{find_found}
use Rattle.casper_core.specs.Acting.{outside_in, outside_written}
use Rattle.casper_core.specs.CoreView.{CoreView}
use Rattle.casper_core.specs.Placing.{changed}
use Rattle.casper_core.specs.Represents.{HasPartsOf, Represents}
use Rattle.casper_core.specs.Shaped.{RepresentsButWords, StepsInShape, outcome_told, written_with, written_unless, write_out_with, step_with}
use Rattle.casper_core.specs.Sound.{IsSound, IsSealedIn}
use Rattle.casper_core.specs.Stepping.{Steps}
use Rattle.casper_core.specs.WritingOut.{busy_in, outside_ended, IsCommit}
use Rattle.casper_core.proofs.Changes.{sound_changed, shape_changed, parts_changed}
use Rattle.casper_core.proofs.JobChanges.{map_map, changes_of_job}
use Rattle.casper_core.proofs.StepParts.{answered_by, answered_same, made_same}

-- A write-out of a core is the machine's.

-- the answer to a write-out tells its outcome, and what the outside did
outcome_answered : (how : Outcome) → outcome_told (of_write_out how) ≡ Some how
outcome_answered (outcome.Ok version) = refl
outcome_answered (outcome.Full need free) = refl
outcome_answered outcome.Worn = refl
outcome_answered outcome.Disk = refl
outcome_answered outcome.Doubt = refl

outside_answered : (how : Outcome) → outside_written (of_write_out how) ≡ outside_ended how
outside_answered (outcome.Ok version) = refl
outside_answered (outcome.Full need free) = refl
outside_answered outcome.Worn = refl
outside_answered outcome.Disk = refl
outside_answered outcome.Doubt = refl

-- the stabilisation that may be written out, by what the core shows
abbrev pub job_in : {V : Type 0} → CoreView V → ℕ → Option Stabilisation
job_in core lead = cond (is_unfinished_of lead core.unfinished) None (sealed_in core.hub lead)

module _ {V : Type 0} (core : CoreView V) (lead : ℕ) (client : IsClient lead) (sound : IsSound core) where
  pub job_here : (state : State) → Shows state.shared core.hub → state.unfinished ≡ core.unfinished → job_of state lead ≡ job_in core lead
  job_here state shows same =
      ap₂ (λ unfinished all. cond (is_unfinished_of lead unfinished) None (find (λ (one : Stabilisation). (one.lead == lead) && is_sealed one.phase) all)) same shows.stabilisations

  pub busy_here : (state : State) → Shows state.shared core.hub → state.unfinished ≡ core.unfinished → busy_lead state ≡ busy_in core
  busy_here state shows same =
      ap₂ (λ unfinished all. option_or (option_map (λ (one : Unfinished). one.lead) unfinished)
      (option_map (λ (one : Stabilisation). one.lead) (find (λ (one : Stabilisation). is_doubtful one.phase) all))) same shows.stabilisations

  -- there is no such write-out to make
  pub no_job_steps : job_in core lead ≡ None → Steps (event.WriteOut lead) answer.NoJob core core
  no_job_steps none state stands =
      answered_same state (event.WriteOut lead) answer.NoJob core core client stands
      (ap (write_out_step state (outside_in (event.WriteOut lead) answer.NoJob)) (job_here state stands.parts.shared stands.parts.unfinished ∙ none)) stands.parts

  pub no_job_made : job_in core lead ≡ None → StepsInShape (event.WriteOut lead) answer.NoJob core core
  no_job_made none state shape =
      made_same state (event.WriteOut lead) answer.NoJob core
      (ap (write_out_with state answer.NoJob) (job_here state shape.shared shape.unfinished ∙ none)) shape

  -- another write-out is unfinished or in doubt
  module _ (one : Stabilisation) (sealed : job_in core lead ≡ Some one) where
    pub busy_steps : (busy : ℕ) → busy_in core ≡ Some busy → Steps (event.WriteOut lead) (answer.Vault busy) core core
    busy_steps busy is state stands =
        let outside = outside_in (event.WriteOut lead) (answer.Vault busy) in
        answered_same state (event.WriteOut lead) (answer.Vault busy) core core client stands
        (ap (write_out_step state outside) (job_here state stands.parts.shared stands.parts.unfinished ∙ sealed)
        ∙ ap (written_out state outside one) (busy_here state stands.parts.shared stands.parts.unfinished ∙ is)) stands.parts

    pub busy_made : (busy : ℕ) → busy_in core ≡ Some busy → StepsInShape (event.WriteOut lead) (answer.Vault busy) core core
    busy_made busy is state shape =
        made_same state (event.WriteOut lead) (answer.Vault busy) core
        (ap (write_out_with state (answer.Vault busy)) (job_here state shape.shared shape.unfinished ∙ sealed)
        ∙ ap (written_unless state (answer.Vault busy) one) (busy_here state shape.shared shape.unfinished ∙ is)) shape

    -- it is made
    module _ (free : busy_in core ≡ None) (how : Outcome) (vault : V) (size : ℕ) (told : VaultState) (same_lead : one.lead ≡ lead) where
      abbrev ending : Unfinished
      ending = record { lead = lead; outcome = how }

      pub written_made : StepsInShape (event.WriteOut lead) (of_write_out how) core (changed core core.hub (Some ending) vault size told)
      written_made state shape =
          let said = of_write_out how in
          let here : step_with state (event.WriteOut lead) said ≡ record { answer = said; state = record state { unfinished = Some ending } } =
          ap (write_out_with state said) (job_here state shape.shared shape.unfinished ∙ sealed)
          ∙ ap (written_unless state said one) (busy_here state shape.shared shape.unfinished ∙ free)
          ∙ ap (written_with state said one) (outcome_answered how)
          ∙ ap (λ number. record { answer = said; state = record state { unfinished = Some (record { lead = number; outcome = how }) } }) same_lead in
          record {
            answers = sym (ap (λ (turn : Turn). turn.answer) here);
            shape = subst (λ (turn : Turn). RepresentsButWords turn.state (changed core core.hub (Some ending) vault size told)) (sym here)
                (shape_changed core sound core.hub (λ who. kept_itself who core.hub) (Some ending) vault size told state state.shared state.vault shape shape.shared);
          }

      module _ (job : JobView) (is_job : IsJobOf core.hub lead job) (commits : IsCommit core.told (as_changes job.changes) how told) where
        -- the changes are those of the machine
        pub same_changes : (state : State) → Represents state core → as_changes job.changes ≡ changes_of state one
        same_changes state stands =
            let trail = stands.parts.shared.trail in
            changes_of_job state.base (page_count core.hub) (subst (λ pages. IsArray pages state.base) stands.parts.pages stands.image.shape) core.hub.trail job.changes
            (pages_modified_by core.hub.trail (association_of core.hub.trail lead)) is_job.pages
            (λ change among. All-contains (λ (change : ℕ × List ℕ). change.0 < page_count core.hub) job.changes change is_job.within among)
            (λ change among. is_job.words state.base stands.parts.frames change among)
            ∙ ap₂ (λ items number. map (λ page. record { page = page; words = slice_index_or (array_of state.base (live_entries items)) page [] })
            (pages_modified_by items (association_of items number))) (sym trail) (sym same_lead)

        write_turn_is : (state : State) → Represents state core → step state (event.WriteOut lead) (outside_in (event.WriteOut lead) (of_write_out how))
            ≡ record { answer = of_write_out how; state = record state { vault = told; unfinished = Some ending } }
        write_turn_is state stands =
            let outside = outside_in (event.WriteOut lead) (of_write_out how) in
            let by : Written → Turn = λ done. record {
              answer = of_write_out done.outcome;
              state = record state { vault = done.vault; unfinished = Some (record { lead = one.lead; outcome = done.outcome }) };
            } in
            let same : commit state.vault (changes_of state one) outside ≡ commit core.told (as_changes job.changes) (outside_ended how) =
            ap₂ (λ from changes. commit from changes outside) stands.parts.vault (sym (same_changes state stands))
            ∙ ap (commit core.told (as_changes job.changes)) (outside_answered how) in
            ap (write_out_step state outside) (job_here state stands.parts.shared stands.parts.unfinished ∙ sealed)
            ∙ ap (written_out state outside one) (busy_here state stands.parts.shared stands.parts.unfinished ∙ free)
            ∙ ap by same
            ∙ ap₂ (λ (ended : Outcome) (left : VaultState). by (record { outcome = ended; vault = left })) commits.ends commits.leaves
            ∙ ap (λ number. record { answer = of_write_out how; state = record state { vault = told; unfinished = Some (record { lead = number; outcome = how }) } }) same_lead

        pub written_steps : Steps (event.WriteOut lead) (of_write_out how) core (changed core core.hub (Some ending) vault size told)
        written_steps state stands =
            let here = write_turn_is state stands in
            answered_by state (event.WriteOut lead) (of_write_out how) core (changed core core.hub (Some ending) vault size told) client stands
            (sym (ap (λ (turn : Turn). turn.answer) here))
            (subst (λ (turn : Turn). HasPartsOf turn.state (changed core core.hub (Some ending) vault size told)) (sym here)
            (parts_changed core sound core.hub (λ who. kept_itself who core.hub) (Some ending) vault size told state state.shared stands.parts stands.parts.shared stands.parts.frames))

-- the pages of changes
pub pages_alike : (pairs : List (ℕ × List ℕ)) → pages_of (as_changes pairs) ≡ map (λ pair. pair.0) pairs
pages_alike pairs = map_map (λ (change : Change). change.page) (λ (pair : ℕ × List ℕ). record { page = pair.0; words = pair.1 }) pairs

-- nobody is busy
none_busy : (unfinished : Option Unfinished) (doubtful : Option Stabilisation)
    → option_or (option_map (λ (one : Unfinished). one.lead) unfinished) (option_map (λ (one : Stabilisation). one.lead) doubtful) ≡ None → doubtful ≡ None
none_busy None None is = refl
none_busy None (Some one) is = absurd (none-some one.lead (sym is))
none_busy (Some one) doubtful is = absurd (none-some one.lead (sym is))

module _ {V : Type 0} (core : CoreView V) (sound : IsSound core) (lead : ℕ) (one : Stabilisation) (sealed : sealed_in core.hub lead ≡ Some one) where
  found_sealed : Contains core.hub.stabilisations one × ((one.lead == lead) && is_sealed one.phase ≡ true)
  found_sealed = find_found (λ (other : Stabilisation). (other.lead == lead) && is_sealed other.phase) core.hub.stabilisations one sealed

  pub lead_of : one.lead ≡ lead
  lead_of = eqb-true one.lead lead (and_parts (one.lead == lead) (is_sealed one.phase) found_sealed.1).0

  pub sealed_is : IsSealedIn core.hub lead
  sealed_is = (one, found_sealed.0, lead_of, (and_parts (one.lead == lead) (is_sealed one.phase) found_sealed.1).1)

  pub client_of : IsClient lead
  client_of =
      let stands = stands_for core.hub sound.hub.stands in
      subst IsClient lead_of (stands.good.frozen.leads one (subst (λ all. Contains all one) (sym stands.shows.stabilisations) found_sealed.0))

  pub job_open : is_unfinished_of lead core.unfinished ≡ false → job_in core lead ≡ Some one
  job_open ready = ap (λ (b : Bool). cond b None (sealed_in core.hub lead)) ready ∙ sealed

  module _ (vault : V) (size : ℕ) (told : VaultState) (same_size : size ≡ core.size) where
    pub sound_written : (how : Outcome) → busy_in core ≡ None → (IsSome told.doubt → how ≡ outcome.Doubt)
        → IsSound (changed core core.hub (Some (record { lead = lead; outcome = how })) vault size told)
    sound_written how free doubted =
        let ending : Unfinished = record { lead = lead; outcome = how } in
        let is_it : (other : Unfinished) → ◌≡◌ {A = Option Unfinished} (Some ending) (Some other) → ending ≡ other = λ other is. ap (λ o. unwrap_or o ending) is in
        sound_changed core sound core.hub (λ who. kept_itself who core.hub) (Some ending) vault size told sound.hub same_size
        (λ other is. subst (λ (u : Unfinished). IsSealedIn core.hub u.lead) (is_it other is) sealed_is)
        (λ other is. none_busy core.unfinished (doubtful_in core.hub) free)
        (λ some. ap ended_in_doubt (doubted some))

    pub sound_unwritten : told.doubt ≡ None → IsSound (changed core core.hub core.unfinished vault size told)
    sound_unwritten sure =
        sound_changed core sound core.hub (λ who. kept_itself who core.hub) core.unfinished vault size told sound.hub same_size sound.written sound.alone
        (λ doubted. absurd (true≢false (sym doubted ∙ ap is_some sure)))
