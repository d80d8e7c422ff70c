use Rattle.std.proofs.Common.{◌≡◌, ◌<◌, ◌≤◌, ℕ, List, [], ◌∷◌, ◌++◌, length, sym, subst, inl, inr, ⊎_elim}
use Rattle.std.specs.Prelude.{slice_index_or}
use Rattle.casper_space.specs.declared.answer.Answer.{Answer}
use Rattle.casper_disk.specs.Vault.{Saved}
use Rattle.casper_disk.proofs.TookLemmas.{took_weaker, took_then}
use Rattle.casper_model.specs.declared.event.Event.{Event}
use Rattle.casper_model.specs.Run.{Happening, state_after}
use Rattle.casper_model.specs.State.{State}
use Rattle.casper_model.specs.Step.{step}
use Rattle.casper_sessions.specs.Moments.{moment_of}
use Rattle.casper_sessions.specs.Within.{IsLeftOf, IsLeftWithin, IsLeftIn}
use Rattle.casper_core.specs.CoreView.{CoreView}
use Rattle.casper_core.specs.Leaving.{Adds, IsLeftBefore, IsLeftDuring, IsLeftByRun}
use Rattle.casper_core.specs.Stepping.{Runs, happening_of, happenings_of}
use Rattle.casper_core.proofs.LeftLemmas.{within_of_left}
use Rattle.casper_core.proofs.ReplayRuns.{happenings_more}

-- What a stop within a run leaves, step after step.

-- what is left within a run is left within one that goes on
left_on : (state : State) (before : List Happening) (next : Happening) (array : List (List ℕ)) → IsLeftIn state before array → IsLeftIn state (before ++ next ∷ []) array
left_on state [] next array left = inl (within_of_left next.event state array left)
left_on state (first ∷ following) next array left =
    ⊎_elim (λ within. inl within) (λ later. inr (left_on (step state first.event first.outside).state following next array later)) left

-- and so is what is left within its last step
left_last : (state : State) (before : List Happening) (next : Happening) (array : List (List ℕ)) → IsLeftWithin (state_after state before) next.event array
    → IsLeftIn state (before ++ next ∷ []) array
left_last state [] next array left = inl left
left_last state (first ∷ following) next array left = inr (left_last (step state first.event first.outside).state following next array left)

-- or at the moment after it
left_after : (state : State) (before : List Happening) (array : List (List ℕ)) → IsLeftOf (state_after state before) (moment_of (state_after state before)) array
    → IsLeftIn state before array
left_after state [] array left = left
left_after state (first ∷ following) array left = inr (left_after (step state first.event first.outside).state following array left)

module _ {V : Type 0} (moment : V → ℕ) (since : V → ℕ → Saved → Type 0) (events : List Event) (said : List Answer) (core middle after : CoreView V)
    (counts : (earlier later : ℕ) (saved : Saved) → earlier ≤ later → since after.vault later saved → since after.vault earlier saved)
    (runs : Runs events said core middle) where
  -- one step more
  pub adds_more : (one : Event) (answer : Answer) → length said < length events → one ≡ slice_index_or events (length said) one
      → Adds moment since core.vault middle.vault (IsLeftByRun events said core) → Adds moment since middle.vault after.vault (IsLeftDuring one middle)
      → Adds moment since core.vault after.vault (IsLeftByRun events (said ++ answer ∷ []) core)
  adds_more one answer below is first next =
      let more = happenings_more events said one answer below is in
      took_then (moment core.vault) (moment middle.vault) (moment after.vault) (since core.vault) (since middle.vault) (since after.vault)
      (IsLeftByRun events (said ++ answer ∷ []) core) counts
      (took_weaker (moment core.vault) (moment middle.vault) (since core.vault) (since middle.vault) (IsLeftByRun events said core)
      (IsLeftByRun events (said ++ answer ∷ []) core)
      (λ saved left state stands. subst (λ all. IsLeftIn state all saved.image) (sym more)
      (left_on state (happenings_of events said) (happening_of one answer) saved.image (left state stands)))
      first)
      (took_weaker (moment middle.vault) (moment after.vault) (since middle.vault) (since after.vault) (IsLeftDuring one middle)
      (IsLeftByRun events (said ++ answer ∷ []) core)
      (λ saved left state stands. subst (λ all. IsLeftIn state all saved.image) (sym more)
      (left_last state (happenings_of events said) (happening_of one answer) saved.image
      (left (state_after state (happenings_of events said)) (runs state stands).stands)))
      next)

  -- a step that was not made
  pub adds_still : Adds moment since core.vault middle.vault (IsLeftByRun events said core) → Adds moment since middle.vault after.vault (IsLeftBefore middle)
      → Adds moment since core.vault after.vault (IsLeftByRun events said core)
  adds_still first next =
      took_then (moment core.vault) (moment middle.vault) (moment after.vault) (since core.vault) (since middle.vault) (since after.vault) (IsLeftByRun events said core) counts first
      (took_weaker (moment middle.vault) (moment after.vault) (since middle.vault) (since after.vault) (IsLeftBefore middle) (IsLeftByRun events said core)
      (λ saved left state stands.
      left_after state (happenings_of events said) saved.image (left (state_after state (happenings_of events said)) (runs state stands).stands))
      next)
