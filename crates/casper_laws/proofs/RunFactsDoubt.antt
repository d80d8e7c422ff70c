use Rattle.std.proofs.Common.{◌≡◌, ◌≤◌, ◌<◌, ℕ, List, [], ◌∷◌, true, false, ◌==◌, length, Contains, refl, sym, ap, ◌∙◌, subst, ⊎_elim, inl, inr, true≢false}
use Rattle.std.specs.Prelude.{Option, None, Some, is_some, option_map, unwrap_or, slice_index_or, ⊤}
use Rattle.std.specs.Option.{option_or}
use Rattle.std.proofs.lemmas.Bool.{cases_lt, cond-true, eq-eqb, eqb-true}
use Rattle.std.proofs.lemmas.List.{get_or_past}
use Rattle.casper_words.specs.Crew.{has_member}
use Rattle.casper_trail.specs.declared.item.Item.{Item}
use Rattle.casper_trail.specs.Value.{IsArray}
use Rattle.casper_trail.specs.Clients.{AreOfClients}
use Rattle.casper_trail.specs.Parts.{live_entries, stable_entries}
use Rattle.casper_trail.specs.Image.{array_of, image_of, image_with}
use Rattle.casper_trail.proofs.Values.{array_keeps_shape}
use Rattle.casper_space.specs.Changes.{Change, with_changes, pages_of}
use Rattle.casper_model.specs.declared.outcome.Outcome.{Outcome}
use Rattle.casper_model.specs.declared.outcome.Outcome.TheVariants as outcome
use Rattle.casper_model.specs.declared.event.Event.{Event}
use Rattle.casper_model.specs.Step.{step}
use Rattle.casper_model.specs.Rights.{NamesClients}
use Rattle.casper_model.specs.Finish.{finish, finished_by, finished_as, stabilisation_led_by, doubtful_of}
use Rattle.casper_model.specs.Outside.{Outside, NothingFailed, LoadFailed, WriteOutFailed, WriteOutDoubted, SettleFailed}
use Rattle.casper_model.specs.Own.{Own}
use Rattle.casper_model.specs.Run.{state_after}
use Rattle.casper_model.specs.Shared.{Shared}
use Rattle.casper_model.specs.Stabilisation.{Stabilisation, is_doubtful}
use Rattle.casper_model.specs.State.{State, Unfinished, start}
use Rattle.casper_model.specs.Vault.{VaultState, commit, refused_at_once, written_unless, written_with, settled_with, settled_vault}
use Rattle.casper_model.specs.WriteOutStep.{busy_lead, changes_of, written_out, finish_turn, settle_turn}
use Rattle.casper_model.proofs.RunHistory.{start_history, step_history}
use Rattle.casper_turns.specs.Frozen.{AreFrozen, IsSealedBy}
use Rattle.casper_laws.specs.FrozenLaws.{is_any_doubtful, ended_in_doubt, AreWriteOutsInOrder, HasOrderlyStabilisations, OneIsUnfinished}
use Rattle.casper_laws.specs.StoredImage.{HasStoredImage, image_due}
use Rattle.casper_laws.specs.RunFacts.{AreOfTheBusyLead, DoubtIsOfOneLead, EveryDoubtIsOfOneLead}
use Rattle.casper_turns.proofs.Lists.{nothing_in, any_found, none_passes, find_found, find_none, map_alike, not_some, any_of}
use Rattle.casper_turns.proofs.KeptByTurns.{KeptByTurns, step_keeps, run_keeps}
use Rattle.casper_laws.proofs.FinishFrozen.{finish_well, idle_before, settled_has_no_doubt}
use Rattle.casper_laws.proofs.FinishImage.{doubted_lead}
use Rattle.casper_laws.proofs.ImageChanges.{pages_of_lead}
use Rattle.casper_laws.proofs.StepFrozen.{start_orderly, step_orderly}
use Rattle.casper_laws.proofs.StepImage.{IsOrderly, LeavesBoth, join_leaves, acquire_leaves, serve_leaves, stabilise_leaves, depart_leaves, vanish_leaves, lose_leaves, start_stored, step_stored}
use Rattle.casper_laws.proofs.WrittenImage.{changes_to, length_changed, changed_page, image_written}

-- the words of a page of an image
abbrev page_in : List (List ℕ) → ℕ → List ℕ
page_in image page = slice_index_or image page []

-- changes as the pages of what they make of an image, where no page past it has words
changes_made : (words : ℕ → List ℕ) (pages : List ℕ) (image : List (List ℕ)) → ((page : ℕ) → length image ≤ page → words page ≡ [])
    → changes_to words pages ≡ changes_to (page_in (with_changes image (changes_to words pages))) pages
changes_made words pages image past =
    map_alike (λ page. record { page = page; words = words page }) (λ page. record { page = page; words = page_in made page }) pages
    (λ page inside. ap (λ list. record { page = page; words = list }) (by_place page inside))
  where
    made : List (List ℕ)
    made = with_changes image (changes_to words pages)

    by_place : (page : ℕ) → Contains pages page → words page ≡ page_in made page
    by_place page inside =
        ⊎_elim
        (λ (below : page < length image).
        sym (changed_page words pages image page below
        ∙ cond-true (has_member page pages) (words page) (page_in image page) (any_of (λ one. one == page) pages page inside (eq-eqb page page refl))))
        (λ (beyond : length image ≤ page).
        past page beyond ∙ sym (get_or_past made page [] (subst (λ count. count ≤ page) (sym (length_changed words pages image)) beyond)))
        (cases_lt page (length image))

-- the changes of a lead's association as the pages of the image with it
changes_in_image : (base : List (List ℕ)) (trail : List Item) (lead : ℕ) → IsArray (length base) base → AreOfClients trail
    → changes_to (page_in (array_of base (live_entries trail))) (pages_of_lead trail lead) ≡ changes_to (page_in (image_with base trail lead)) (pages_of_lead trail lead)
changes_in_image base trail lead shape clients =
    changes_made words (pages_of_lead trail lead) (image_of base trail)
    (λ page beyond.
    get_or_past (array_of base (live_entries trail)) page []
    (subst (λ count. count ≤ page) ((array_keeps_shape (length base) base (stable_entries trail) shape).count ∙ sym (array_keeps_shape (length base) base (live_entries trail) shape).count) beyond))
    ∙ ap (λ image. changes_to (page_in image) (pages_of_lead trail lead)) (image_written base trail lead shape clients)
  where
    words : ℕ → List ℕ
    words = page_in (array_of base (live_entries trail))

-- what is in doubt are the pages that the association of a lead modified, as the vault's image has them once they are made
abbrev IsDoubtOf : VaultState → List Item → ℕ → Type 0
IsDoubtOf vault trail lead =
    (changes : List Change) → vault.doubt ≡ Some changes → changes ≡ changes_to (page_in (with_changes vault.image changes)) (pages_of_lead trail lead)

-- it is so of the lead whose write-out is unfinished or in doubt
record IsDoubtWritten (state : State) : Type 0 where
  unfinished : (one : Unfinished) → state.unfinished ≡ Some one → IsDoubtOf state.vault state.shared.trail one.lead
  doubtful : (one : Stabilisation) → Contains state.shared.stabilisations one → is_doubtful one.phase ≡ true → IsDoubtOf state.vault state.shared.trail one.lead

-- after a turn that leaves the write-outs and the images
doubt_left : (state : State) (after : Shared) (owns : List Own) → IsOrderly state → LeavesBoth state.base state.shared after → IsDoubtWritten state
    → IsDoubtWritten (record state { shared = after; owns = owns })
doubt_left state after owns known both written = record {
  unfinished = λ one e changes doubted.
      let stands : OneIsUnfinished state one = subst (AreWriteOutsInOrder state) e known.orderly.written in
      written.unfinished one e changes doubted
      ∙ ap (changes_to (page_in (with_changes state.vault.image changes))) (sym (both.images.pages one.lead (inl stands.stabilisation)));
  doubtful = λ one inside is changes doubted.
      let was = both.left.were one inside is in
      written.doubtful was.0 was.1 was.2 changes doubted
      ∙ ap (changes_to (page_in (with_changes state.vault.image changes)))
      (sym (both.images.pages was.0.lead (inr (was.0, was.1, refl, was.2))) ∙ ap (pages_of_lead after.trail) was.3);
}

-- after a commit of a vault without a doubt, what is in doubt are its changes, and the image is as it was
commit_doubts : (vault : VaultState) (changes : List Change) (outside : Outside) → vault.doubt ≡ None → (given : List Change)
    → (commit vault changes outside).vault.doubt ≡ Some given → (given ≡ changes) × ((commit vault changes outside).vault.image ≡ vault.image)
commit_doubts vault [] outside none given doubted = absurd (not_some given (sym none ∙ doubted))
commit_doubts vault (change ∷ changes) outside none given doubted =
    by_refusal (refused_at_once vault (pages_of (change ∷ changes))) doubted
  where
    by_outside : (what : Outside) → (written_with vault (change ∷ changes) what).vault.doubt ≡ Some given
        → (given ≡ change ∷ changes) × ((written_with vault (change ∷ changes) what).vault.image ≡ vault.image)
    by_outside NothingFailed is = absurd (not_some given is)
    by_outside LoadFailed is = absurd (not_some given is)
    by_outside WriteOutFailed is = absurd (not_some given (sym none ∙ is))
    by_outside WriteOutDoubted is = (ap (λ found. unwrap_or found given) (sym is), refl)
    by_outside SettleFailed is = absurd (not_some given is)

    by_refusal : (refusal : Option Outcome) → (written_unless vault (change ∷ changes) outside refusal).vault.doubt ≡ Some given
        → (given ≡ change ∷ changes) × ((written_unless vault (change ∷ changes) outside refusal).vault.image ≡ vault.image)
    by_refusal None is = by_outside outside is
    by_refusal (Some refusal) is = absurd (not_some given (sym none ∙ is))

-- after a write-out
write_out_doubts : (state : State) (outside : Outside) (lead : ℕ) (one : Stabilisation) → HasOrderlyStabilisations state → HasStoredImage state
    → busy_lead state ≡ None → IsDoubtWritten (written_out state outside one None).state
write_out_doubts state outside lead one orderly stored free = record {
  unfinished = λ x some given doubted.
      let found = commit_doubts state.vault (changes_of state one) outside none given doubted in
      found.0 ∙ changes_made words pages state.vault.image past
      ∙ ap (λ image. changes_to (page_in (with_changes image (changes_of state one))) pages) (sym found.1)
      ∙ ap (λ changes. changes_to (page_in (with_changes after.image changes)) pages) (sym found.0)
      ∙ ap (λ (y : Option Unfinished). changes_to (page_in (with_changes after.image given)) (pages_of_lead state.shared.trail (unwrap_or y x).lead)) some;
  doubtful = λ x inside doubtful. absurd (true≢false (sym doubtful ∙ none_passes (λ (y : Stabilisation). is_doubtful y.phase) state.shared.stabilisations x idle.1 inside));
}
  where
    idle : (state.unfinished ≡ None) × (is_any_doubtful state.shared ≡ false)
    idle = idle_before state free

    none : state.vault.doubt ≡ None
    none = nothing_there state.vault.doubt ((subst (AreWriteOutsInOrder state) idle.0 orderly.written).doubt ∙ idle.1)
      where
        nothing_there : (doubt : Option (List Change)) → is_some doubt ≡ false → doubt ≡ None
        nothing_there None is = refl
        nothing_there (Some changes) is = absurd (true≢false is)

    after : VaultState
    after = (commit state.vault (changes_of state one) outside).vault

    words : ℕ → List ℕ
    words = page_in (array_of state.base (live_entries state.shared.trail))

    pages : List ℕ
    pages = pages_of_lead state.shared.trail one.lead

    past : (page : ℕ) → length state.vault.image ≤ page → words page ≡ []
    past page beyond =
        get_or_past (array_of state.base (live_entries state.shared.trail)) page []
        (subst (λ count. count ≤ page)
        (ap length (stored.image ∙ ap (image_due state) idle.0) ∙ (array_keeps_shape (length state.base) state.base (stable_entries state.shared.trail) stored.shape).count
        ∙ sym (array_keeps_shape (length state.base) state.base (live_entries state.shared.trail) stored.shape).count)
        beyond)

-- what is in doubt after a finish is so by it, and the trail is as it was
finish_doubts : (shared : Shared) (lead : ℕ) (how : Outcome) → AreFrozen shared → IsSealedBy shared lead → is_any_doubtful shared ≡ false → (x : Stabilisation)
    → Contains (finish shared lead how).shared.stabilisations x → is_doubtful x.phase ≡ true → ((finish shared lead how).shared.trail ≡ shared.trail) × (x.lead ≡ lead)
finish_doubts shared lead how frozen seal none x inside doubtful =
    by_found (stabilisation_led_by shared lead) refl (finish_well shared lead how frozen seal none).any inside
  where
    as_it_ended : (one : Stabilisation) (end : Outcome) → is_any_doubtful (finished_as shared one end).shared ≡ ended_in_doubt end
        → Contains (finished_as shared one end).shared.stabilisations x → ((finished_as shared one end).shared.trail ≡ shared.trail) × (x.lead ≡ one.lead)
    as_it_ended one (outcome.Ok version) well there = absurd (true≢false (sym doubtful ∙ none_passes (λ (y : Stabilisation). is_doubtful y.phase) _ x well there))
    as_it_ended one (outcome.Full need free) well there = absurd (true≢false (sym doubtful ∙ none_passes (λ (y : Stabilisation). is_doubtful y.phase) _ x well there))
    as_it_ended one outcome.Worn well there = absurd (true≢false (sym doubtful ∙ none_passes (λ (y : Stabilisation). is_doubtful y.phase) _ x well there))
    as_it_ended one outcome.Disk well there = absurd (true≢false (sym doubtful ∙ none_passes (λ (y : Stabilisation). is_doubtful y.phase) _ x well there))
    as_it_ended one outcome.Doubt well there = (refl, doubted_lead shared one.lead none x there doubtful)

    by_found : (one : Option Stabilisation) → stabilisation_led_by shared lead ≡ one → is_any_doubtful (finished_by shared how one).shared ≡ ended_in_doubt how
        → Contains (finished_by shared how one).shared.stabilisations x → ((finished_by shared how one).shared.trail ≡ shared.trail) × (x.lead ≡ lead)
    by_found None e well there = absurd (find_none (λ (y : Stabilisation). y.lead == lead) shared.stabilisations e seal.0 seal.1 (eq-eqb seal.0.lead lead seal.2))
    by_found (Some one) e well there =
        let ended = as_it_ended one how well there in
        (ended.0, ended.1 ∙ eqb-true one.lead lead (find_found (λ (y : Stabilisation). y.lead == lead) shared.stabilisations one e).1)

finish_turn_doubts : (state : State) (lead : ℕ) (unfinished : Unfinished) → HasOrderlyStabilisations state → IsDoubtWritten state → state.unfinished ≡ Some unfinished
    → (unfinished.lead == lead) ≡ true → IsDoubtWritten (finish_turn lead unfinished.outcome state).state
finish_turn_doubts state lead unfinished orderly written e same = record {
  unfinished = λ one none. absurd (not_some one none);
  doubtful = λ one inside is changes doubted.
      let stands : OneIsUnfinished state unfinished = subst (AreWriteOutsInOrder state) e orderly.written in
      let led : unfinished.lead ≡ lead = eqb-true unfinished.lead lead same in
      let found = finish_doubts state.shared lead unfinished.outcome orderly.frozen (subst (IsSealedBy state.shared) led stands.stabilisation) stands.alone one inside is in
      written.unfinished unfinished e changes doubted
      ∙ ap (λ number. changes_to (page_in (with_changes state.vault.image changes)) (pages_of_lead state.shared.trail number)) (led ∙ sym found.1)
      ∙ ap (λ items. changes_to (page_in (with_changes state.vault.image changes)) (pages_of_lead items one.lead)) (sym found.0);
}

-- a settled vault has no doubt
settle_doubts : (state : State) → IsDoubtWritten (settle_turn state).state
settle_doubts state = record { unfinished = λ one e changes doubted. never changes doubted; doubtful = λ one inside is changes doubted. never changes doubted }
  where
    never : {P : Type 0} (changes : List Change) → (settled_vault state.vault).doubt ≡ Some changes → P
    never changes doubted = absurd (true≢false (sym (ap is_some doubted) ∙ settled_has_no_doubt state.vault))

-- what is known of a state beside its doubt
record IsKnown (state : State) : Type 0 where
  orderly : IsOrderly state
  stored : HasStoredImage state

doubt_by_turns : KeptByTurns (λ state. ⊤) IsKnown IsDoubtWritten
doubt_by_turns = record {
  hit = λ state who act page word value is calls known written can. record { unfinished = written.unfinished; doubtful = written.doubtful };
  joining = λ state who is known written. doubt_left state _ _ known.orderly (join_leaves state who is known.orderly) written;
  acquiring = λ state who wants calls any is live known written. doubt_left state _ _ known.orderly (acquire_leaves state who is known.orderly live wants calls) written;
  serving = λ state who is live known written. doubt_left state _ _ known.orderly (serve_leaves state who is known.orderly live) written;
  stabilising = λ state who is live known written. doubt_left state _ _ known.orderly (stabilise_leaves state who is known.orderly live) written;
  departing = λ state who is live known written. doubt_left state _ _ known.orderly (depart_leaves state who is known.orderly live) written;
  vanishing = λ state who is live known written. doubt_left state _ _ known.orderly (vanish_leaves state who is known.orderly live) written;
  losing = λ state who is live known written. doubt_left state _ _ known.orderly (lose_leaves state who is known.orderly) written;
  writing = λ state outside lead one known written job free. write_out_doubts state outside lead one known.orderly.orderly known.stored free;
  finishing = λ state lead unfinished known written e same. finish_turn_doubts state lead unfinished known.orderly.orderly written e same;
  settling = λ state one known written e. settle_doubts state;
}

known_step : (state : State) (event : Event) (outside : Outside) → NamesClients event → IsKnown state → IsKnown (step state event outside).state
known_step state event outside named known = record {
  orderly = record {
    history = step_history state event outside named known.orderly.history;
    orderly = step_orderly state event outside named known.orderly.history known.orderly.orderly;
  };
  stored = step_stored state event outside named known.orderly.history known.orderly.orderly known.stored;
}

-- a doubt is of the lead whose write-out is unfinished, or of that whose stabilisation is in doubt
doubt_of_a_lead : (state : State) → IsKnown state → IsDoubtWritten state → DoubtIsOfOneLead state
doubt_of_a_lead state known written changes doubted = by_unfinished state.unfinished refl known.orderly.orderly.written
  where
    of_lead : (one : Stabilisation) → Contains state.shared.stabilisations one → busy_lead state ≡ Some one.lead → IsDoubtOf state.vault state.shared.trail one.lead
        → (settled_vault state.vault).image ≡ image_with state.base state.shared.trail one.lead → AreOfTheBusyLead state changes
    of_lead one inside busy is settles =
        let made : with_changes state.vault.image changes ≡ image_with state.base state.shared.trail one.lead =
        ap (λ doubt. (settled_with state.vault doubt).image) (sym doubted) ∙ settles in (
          one,
          inside,
          busy,
          is changes doubted ∙ ap (λ image. changes_to (page_in image) (pages_of_lead state.shared.trail one.lead)) made
              ∙ sym (changes_in_image state.base state.shared.trail one.lead known.stored.shape known.orderly.history.exact.clients),
          made,
        )

    by_unfinished : (unfinished : Option Unfinished) → state.unfinished ≡ unfinished → AreWriteOutsInOrder state unfinished → AreOfTheBusyLead state changes
    by_unfinished (Some unfinished) e order =
        let seal = order.stabilisation in
        of_lead seal.0 seal.1
        (ap (λ (one : Option Unfinished). option_or (option_map (λ x. x.lead) one) (option_map (λ x. x.lead) (doubtful_of state.shared))) e ∙ ap Some (sym seal.2))
        (subst (IsDoubtOf state.vault state.shared.trail) (sym seal.2) (written.unfinished unfinished e))
        (known.stored.unfinished unfinished e (sym order.doubt ∙ ap is_some doubted) ∙ ap (image_with state.base state.shared.trail) (sym seal.2))
    by_unfinished None e order = by_found (doubtful_of state.shared) refl
      where
        by_found : (found : Option Stabilisation) → doubtful_of state.shared ≡ found → AreOfTheBusyLead state changes
        by_found (Some one) is =
            let found = find_found (λ (x : Stabilisation). is_doubtful x.phase) state.shared.stabilisations one is in
            of_lead one found.0
            (ap (λ (x : Option Unfinished). option_or (option_map (λ y. y.lead) x) (option_map (λ y. y.lead) (doubtful_of state.shared))) e
            ∙ ap (option_map (λ y. y.lead)) is)
            (written.doubtful one found.0 found.1) (known.stored.doubtful one found.0 found.1)
        by_found None is =
            let one = any_found (λ (x : Stabilisation). is_doubtful x.phase) state.shared.stabilisations (sym order.doubt ∙ ap is_some doubted) in
            absurd (find_none (λ (x : Stabilisation). is_doubtful x.phase) state.shared.stabilisations is one.0 one.1 one.2)

-- what stands along a run
record IsKnownWithDoubt (state : State) : Type 0 where
  known : IsKnown state
  written : IsDoubtWritten state

pub every_doubt_of_a_lead : EveryDoubtIsOfOneLead
every_doubt_of_a_lead vault pages limit capacity happenings shape none named =
    let stands =
    run_keeps (λ state. ⊤) IsKnownWithDoubt (λ state event outside name is. tt)
    (λ state event outside name is stand. record {
      known = known_step state event outside name stand.known;
      written =
          step_keeps (λ one. ⊤) IsKnown IsDoubtWritten (λ one e o n is. tt) (λ one is. tt) doubt_by_turns state event outside name stand.known stand.written;
    })
    (start vault pages limit capacity) happenings named tt
    (record {
      known = record {
        orderly = record { history = start_history vault pages limit capacity; orderly = start_orderly vault pages limit capacity none };
        stored = start_stored vault pages limit capacity shape;
      };
      written = record {
        unfinished = λ one some. absurd (not_some one some);
        doubtful = λ one inside. absurd (nothing_in one inside);
      };
    }) in
    doubt_of_a_lead (state_after (start vault pages limit capacity) happenings) stands.known stands.written
