use Rattle.std.proofs.Common.{◌≡◌, ◌≢◌, ℕ, zero, suc, List, [], ◌∷◌, Bool, true, false, refl, sym, ap, ap₂, ◌∙◌, subst}
use Rattle.std.specs.Prelude.{Option, None, Some, IsTrue, is_some, slice_set}
use Rattle.std.proofs.lemmas.Option.{none-some}
use Rattle.casper_words.specs.Crew.{IsClient}
use Rattle.casper_space.specs.declared.answer.Answer.{Answer}
use Rattle.casper_space.specs.declared.answer.Answer.TheVariants as answer
use Rattle.casper_cache.specs.Own as cache
use Rattle.casper_model.specs.declared.event.Event.{Event}
use Rattle.casper_model.specs.Both.{Turned}
use Rattle.casper_model.specs.Outside.{Outside}
use Rattle.casper_model.specs.Own as machine
use Rattle.casper_model.specs.Rights.{NamesClients}
use Rattle.casper_model.specs.Shared.{Shared}
use Rattle.casper_model.specs.Shared as shared_part
use Rattle.casper_model.specs.State.{State, own_at, after_turn}
use Rattle.casper_model.specs.Step.{step}
use Rattle.casper_model.specs.Turn.{Turn, of_live}
use Rattle.casper_model.specs.Vault.{VaultState}
use Rattle.casper_hub.specs.HubView.{HubView, is_live}
use Rattle.casper_hub.specs.Owned.{own_of}
use Rattle.casper_hub.specs.Sound.{IsSound as Whole}
use Rattle.casper_hub.specs.GoesOn.{KeepsClient, CommitsNothing}
use Rattle.casper_hub.specs.Turns.{IsTurn}
use Rattle.casper_hub.specs.Words.{FramesAreRight, CacheIsRight}
use Rattle.casper_core.specs.Acting.{outside_in, IsTurnResult, KeepsHubRight, Holds}
use Rattle.casper_core.specs.CoreView.{CoreView, cache_at}
use Rattle.casper_core.specs.Placing.{placed, IsPlaced}
use Rattle.casper_core.specs.Shaped.{RepresentsButWords, IsMade, StepsInShape, step_with}
use Rattle.casper_core.specs.Sound.{IsSound}
use Rattle.casper_core.specs.Represents.{own_part, HasPartsOf}
use Rattle.casper_core.specs.Stepping.{IsAnswered, Steps}
use Rattle.casper_core.proofs.MachineTurns.{turned_gives, gives_by}
use Rattle.casper_core.proofs.Places.{sound_placed, parts_placed, shape_placed}
use Rattle.casper_core.proofs.StepParts.{answered_by, answered_same, passed_by, refused_by, live_where, shape_of, shape_at, made_same, placed_again, right_again}

-- A client leaves its place in a core, as it departs or vanishes.

-- of two changes of a place the second stands
pub set_again : {X : Type 0} (xs : List X) (at : ℕ) (first second : X) → slice_set (slice_set xs at first) at second ≡ slice_set xs at second
set_again [] at first second = refl
set_again (x ∷ xs) zero first second = refl
set_again (x ∷ xs) (suc at) first second = ap (λ rest. x ∷ rest) (set_again xs at first second)

-- what a turn of a live client gives as a step
abbrev pub stepped : {R : Type 0} → (Shared → machine.Own → Turned R) → (R → Answer) → ℕ → State → Turn
stepped turning said_of who state =
    let turn = turning state.shared (own_at state who) in record { answer = said_of turn.reply; state = after_turn state turn }

-- an event that is a turn of a client
pub record IsStepOf {R : Type 0} (turning : Shared → machine.Own → Turned R) (said_of : R → Answer) (who : ℕ) (one : Event) : Type 0 where
  pub steps : (state : State) (outside : Outside) → step state one outside ≡ of_live who state (stepped turning said_of who)
  pub made : (state : State) (said : Answer) → step_with state one said ≡ step state one (outside_in one said)
  pub named : NamesClients one

module _ {R : Type 0} (turning : Shared → machine.Own → Turned R) (said_of : R → Answer) (one : Event)
    {V : Type 0} (core : CoreView V) (at who : ℕ) (same : at ≡ who) (client : IsClient who) (is_step : IsStepOf turning said_of who one) (sound : IsSound core) where
  -- an absent client
  absent_here : (state : State) (outside : Outside) → shared_part.is_live state.shared who ≡ false → step state one outside ≡ record { answer = answer.Absent; state = state }
  absent_here state outside gone =
      is_step.steps state outside ∙ refused_by (shared_part.is_live state.shared who) answer.Absent state (stepped turning said_of who) gone

  pub absent_leaving : (caches : List (Option cache.Own)) → cache_at core who ≡ None → caches ≡ core.caches → Steps one answer.Absent core (record core { caches = caches })
  absent_leaving caches none back state stands =
      answered_same state one answer.Absent core (record core { caches = caches }) is_step.named stands
      (absent_here state (outside_in one answer.Absent) (live_where core who false state sound stands.parts.shared (ap is_some none)))
      (subst (λ list. HasPartsOf state (record core { caches = list })) (sym back) stands.parts)

  pub absent_leaving_made : (caches : List (Option cache.Own)) → cache_at core who ≡ None → caches ≡ core.caches → StepsInShape one answer.Absent core (record core { caches = caches })
  absent_leaving_made caches none back state shape =
      made_same state one answer.Absent (record core { caches = caches })
      (is_step.made state answer.Absent
      ∙ absent_here state (outside_in one answer.Absent) (live_where core who false state sound shape.shared (ap is_some none)))
      (subst (λ list. RepresentsButWords state (record core { caches = list })) (sym back) shape)

  -- a client that leaves
  module _ (own : cache.Own) (found : cache_at core who ≡ Some own) (after : HubView) (own_after : cache.Own) (reply : R) (turn : IsTurn turning reply core.hub own after own_after)
      (left : is_live after who ≡ false) (client_after : own_after.client ≡ who) (others : (other : ℕ) → other ≢ who → KeepsClient other core.hub after) (still : CommitsNothing core.hub after) (whole : Whole after) where
    left_place : IsPlaced who core after None
    left_place = record {
      sound = whole;
      others = others;
      still = still;
      live = sym left;
      client = λ other is. absurd (none-some other is);
      same_capacity = λ other is. absurd (none-some other is);
      owns = λ other is. absurd (none-some other is);
    }

    module _ (calls : ℕ) (vault : V) (size : ℕ) (told : VaultState) where
      pub sound_left : size ≡ core.size → is_some told.doubt ≡ is_some core.told.doubt → IsSound (placed core at after None calls vault size told)
      sound_left same_size same_doubt =
          subst (λ number. IsSound (placed core number after None calls vault size told)) (sym same)
          (sound_placed core who after None calls vault size told sound client left_place same_size same_doubt)

      module _ (blank : (state : State) → RepresentsButWords state core → (turning state.shared (own_of own)).own ≡ machine.blank own.client own.capacity) where
        leaving_gives : (state : State) → RepresentsButWords state core
            → IsTurnResult who state (step state one (outside_in one (said_of reply))) (said_of reply) after (own_part core.capacity who None)
        leaving_gives state shape =
            let said = said_of reply in
            let outside = outside_in one said in
            let kept = sound.kept who own found in
            let emptied : own_of own_after ≡ machine.blank who core.capacity =
            turn.owns state.shared shape.shared ∙ blank state shape ∙ ap₂ machine.blank kept.client kept.capacity in
            let here : step state one outside ≡ stepped turning said_of who state =
            is_step.steps state outside
            ∙ passed_by (shared_part.is_live state.shared who) answer.Absent state (stepped turning said_of who) (live_where core who true state sound shape.shared (ap is_some found)) in
            gives_by who state (step state one outside) (stepped turning said_of who state) said after (own_part core.capacity who None) here
            (subst (λ part. IsTurnResult who state (stepped turning said_of who state) said after part) emptied
            (turned_gives turning said_of reply who state core.hub own after own_after (shape_at core who own state client found shape) turn client_after))

        pub leaving_made : StepsInShape one (said_of reply) core (placed core at after None calls vault size told)
        leaving_made state shape =
            let said = said_of reply in
            let gives = leaving_gives state shape in
            subst (λ number. IsMade state one said (placed core number after None calls vault size told)) (sym same)
            (record {
              answers = gives.answers ∙ sym (ap (λ (turned : Turn). turned.answer) (is_step.made state said));
              shape = subst (λ (turned : Turn). RepresentsButWords turned.state (placed core who after None calls vault size told)) (sym (is_step.made state said))
                  (shape_placed core who after None calls vault size told state (step state one (outside_in one said)) said sound client shape gives);
            })

        pub leaving_steps : ((base : List (List ℕ)) → FramesAreRight base core.hub → CacheIsRight base core.hub own → FramesAreRight base after) → told ≡ core.told
            → Steps one (said_of reply) core (placed core at after None calls vault size told)
        leaving_steps frames same_told state stands =
            let said = said_of reply in
            let outside = outside_in one said in
            let gives = leaving_gives state (shape_of state core stands) in
            subst (λ number. IsAnswered state one said (placed core number after None calls vault size told)) (sym same)
            (answered_by state one said core (placed core who after None calls vault size told) is_step.named stands gives.answers
            (parts_placed core who after None calls vault size told state (step state one outside) said sound client left_place stands.parts gives
            (record { frames = frames state.base stands.parts.frames (stands.parts.words who own found); words = λ other is. absurd (none-some other is) })
            same_told))

  -- a client that keeps its cache after all, since it was told that it had fallen
  module _ (own : cache.Own) (found : cache_at core who ≡ Some own) (after : HubView) (own_after : cache.Own) (reply : R) (turn : IsTurn turning reply core.hub own after own_after)
      (tells : Bool) (leaves : KeepsHubRight who tells core.told.image core.hub own after) (holds : Holds who tells core.told.image core.hub own after own_after)
      (calls : ℕ) (vault : V) (size : ℕ) (told : VaultState) where
    stayed_place : IsPlaced who core after (Some own_after)
    stayed_place = placed_again core who own tells core.told.image after own_after sound found leaves holds

    pub sound_stayed : size ≡ core.size → is_some told.doubt ≡ is_some core.told.doubt → IsSound (placed core at after (Some own_after) calls vault size told)
    sound_stayed same_size same_doubt =
        subst (λ number. IsSound (placed core number after (Some own_after) calls vault size told)) (sym same)
        (sound_placed core who after (Some own_after) calls vault size told sound client stayed_place same_size same_doubt)

    staying_gives : (state : State) → RepresentsButWords state core
        → IsTurnResult who state (step state one (outside_in one (said_of reply))) (said_of reply) after (own_of own_after)
    staying_gives state shape =
        let outside = outside_in one (said_of reply) in
        let here : step state one outside ≡ stepped turning said_of who state =
        is_step.steps state outside
        ∙ passed_by (shared_part.is_live state.shared who) answer.Absent state (stepped turning said_of who) (live_where core who true state sound shape.shared (ap is_some found)) in
        gives_by who state (step state one outside) (stepped turning said_of who state) (said_of reply) after (own_of own_after) here
        (turned_gives turning said_of reply who state core.hub own after own_after (shape_at core who own state client found shape) turn holds.client)

    pub staying_made : StepsInShape one (said_of reply) core (placed core at after (Some own_after) calls vault size told)
    staying_made state shape =
        let said = said_of reply in
        let gives = staying_gives state shape in
        subst (λ number. IsMade state one said (placed core number after (Some own_after) calls vault size told)) (sym same)
        (record {
          answers = gives.answers ∙ sym (ap (λ (turned : Turn). turned.answer) (is_step.made state said));
          shape = subst (λ (turned : Turn). RepresentsButWords turned.state (placed core who after (Some own_after) calls vault size told)) (sym (is_step.made state said))
              (shape_placed core who after (Some own_after) calls vault size told state (step state one (outside_in one said)) said sound client shape gives);
        })

    pub staying_steps : IsTrue tells → told ≡ core.told → Steps one (said_of reply) core (placed core at after (Some own_after) calls vault size told)
    staying_steps is_told same_told state stands =
        let said = said_of reply in
        let outside = outside_in one said in
        let gives = staying_gives state (shape_of state core stands) in
        subst (λ number. IsAnswered state one said (placed core number after (Some own_after) calls vault size told)) (sym same)
        (answered_by state one said core (placed core who after (Some own_after) calls vault size told) is_step.named stands gives.answers
        (parts_placed core who after (Some own_after) calls vault size told state (step state one outside) said sound client stayed_place stands.parts gives
        (right_again core who own tells state after own_after is_told found stands leaves holds)
        same_told))
