use Rattle.std.proofs.Common.{◌≡◌, ℕ, List, true, false, not, Contains, refl, sym, ap, ◌∙◌, subst, ⊎_elim, true≢false}
use Rattle.std.specs.Prelude.{Option, None, Some, is_some, ⊤}
use Rattle.std.proofs.lemmas.Bool.{cond_both, not-true}
use Rattle.casper_words.specs.Crew.{IsClient, has_member}
use Rattle.casper_words.specs.declared.page.Right.TheVariants as may
use Rattle.casper_words.specs.declared.page.Want.{Want}
use Rattle.casper_trail.specs.Value.{IsArray}
use Rattle.casper_trail.specs.Association.{association_of}
use Rattle.casper_trail.specs.Image.{image_of, image_with}
use Rattle.casper_model.specs.declared.event.Event.TheVariants as event
use Rattle.casper_model.specs.declared.reply.Loss.{Loss}
use Rattle.casper_model.specs.Client.{Fallen}
use Rattle.casper_model.specs.Own.{Own}
use Rattle.casper_model.specs.Both.{Changed, Turned}
use Rattle.casper_model.specs.Stabilisation.{Stabilisation, is_gathering}
use Rattle.casper_model.specs.Shared.{Shared, fallen_at, is_live}
use Rattle.casper_model.specs.Frozen.{stabilisation_of}
use Rattle.casper_model.specs.Acquire.{acquire, acquired_by}
use Rattle.casper_model.specs.Stabilise.{stabilise, stabilised_by}
use Rattle.casper_model.specs.Hits.{with_call}
use Rattle.casper_model.specs.Join.{join}
use Rattle.casper_model.specs.Leave.{serve, served_by, depart, departed_by, vanish, vanished_by}
use Rattle.casper_model.specs.Loss.{lose, lose_by, lost_in, rolled_back}
use Rattle.casper_model.specs.Outside.{NothingFailed}
use Rattle.casper_model.specs.State.{State, Unfinished, own_at, with_own, start}
use Rattle.casper_model.specs.Run.{state_after}
use Rattle.casper_model.specs.Growth.{AddsOwn}
use Rattle.casper_model.specs.Rights.{TurnStands}
use Rattle.casper_model.specs.LegalHistory.{HasHistory}
use Rattle.casper_model.proofs.Additions.{acquire_adds, serve_adds, stabilise_adds, depart_adds}
use Rattle.casper_model.proofs.StepAdditions.{step_adds}
use Rattle.casper_model.proofs.TurnRights.{up_as_it_stands, rights_are_held}
use Rattle.casper_model.proofs.StepRights.{stands_at}
use Rattle.casper_model.proofs.RunHistory.{start_history, step_history, base_after}
use Rattle.casper_turns.specs.Frozen.{AreFrozen, IsSealedBy}
use Rattle.casper_laws.specs.FrozenLaws.{HasOrderlyStabilisations}
use Rattle.casper_laws.specs.StoredImage.{image_due, HasStoredImage, StartsWithItsImage, EachStepKeepsTheImage, EveryRunKeepsTheImage, EveryQuietMomentHasTheStableImage, EveryWrittenImageHasItsAssociation}
use Rattle.casper_turns.proofs.Lists.{nothing_in, contains_filter}
use Rattle.casper_turns.proofs.KeptByTurns.{KeptByTurns, step_keeps, run_keeps}
use Rattle.casper_turns.proofs.FrozenChanges.{IsDoubtfulBy, StaysFrozen, LeavesWriteOuts, stays_itself}
use Rattle.casper_laws.proofs.TurnFrozen.{acquire_stays, serve_stays}
use Rattle.casper_laws.proofs.LeaveFrozen.{stabilise_stays, depart_stays, vanish_stays, join_stays}
use Rattle.casper_turns.proofs.LeaveFrozen.{lost_in_stays}
use Rattle.casper_laws.proofs.StepFrozen.{named, good_if_up, recording_if_up, below_places, start_orderly, step_orderly}
use Rattle.casper_laws.proofs.ImageChanges.{LeavesImages, leaves_same, own_leaves, rollback_leaves, image_left}
use Rattle.casper_laws.proofs.FinishImage.{finish_stored, settle_stored, write_out_stored}

-- what is known of a state beside its stored image
pub record IsOrderly (state : State) : Type 0 where
  pub history : HasHistory state
  pub orderly : HasOrderlyStabilisations state

-- after a rollback
rolled_back_images : (base : List (List ℕ)) (shared : Shared) (lost : ℕ) → AreFrozen shared → LeavesWriteOuts shared (rolled_back shared lost)
    → LeavesImages base shared (rolled_back shared lost)
rolled_back_images base shared lost frozen left =
    rollback_leaves base shared (rolled_back shared lost) lost refl left
    (λ lead is.
    ⊎_elim (λ (seal : IsSealedBy shared lead). let still = left.sealed lead seal in apart still.0 lead still.1 still.2)
    (λ (doubt : IsDoubtfulBy shared lead). let still = left.doubtful lead doubt in apart still.0 lead still.1 still.2) is)
    frozen
  where
    apart : (one : Stabilisation) (lead : ℕ) → Contains (rolled_back shared lost).stabilisations one → one.lead ≡ lead → has_member lead (association_of shared.trail lost) ≡ false
    apart one lead inside led =
        not-true (has_member lead (association_of shared.trail lost))
        (subst (λ number. not (has_member number (association_of shared.trail lost)) ≡ true) led
        (contains_filter (λ (x : Stabilisation). not (has_member x.lead (association_of shared.trail lost))) shared.stabilisations one inside).1)

lost_images : (base : List (List ℕ)) (shared : Shared) (who unrecorded : ℕ) → AreFrozen shared → (one : Option Stabilisation)
    → StaysFrozen shared (lost_in shared who unrecorded one).shared → LeavesImages base shared (lost_in shared who unrecorded one).shared
lost_images base shared who unrecorded frozen None stays = rolled_back_images base shared who frozen stays.left
lost_images base shared who unrecorded frozen (Some one) stays' =
    cond_both (is_gathering one.phase) _ _ (λ (done : Changed Loss). StaysFrozen shared done.shared → LeavesImages base shared done.shared)
    (λ gathering stays. rolled_back_images base shared who frozen stays.left)
    (λ held stays. leaves_same base shared _ refl)
    stays'

-- what a change leaves of the write-outs and the images
pub record LeavesBoth (base : List (List ℕ)) (shared after : Shared) : Type 0 where
  pub left : LeavesWriteOuts shared after
  pub images : LeavesImages base shared after

loss_leaves : (base : List (List ℕ)) (shared : Shared) (who unrecorded : ℕ) → IsClient who → AreFrozen shared
    → LeavesBoth base shared (lost_in shared who unrecorded (stabilisation_of shared who)).shared
loss_leaves base shared who unrecorded is frozen =
    let stays = lost_in_stays shared who unrecorded is frozen (stabilisation_of shared who) refl in
    record { left = stays.left; images = lost_images base shared who unrecorded frozen (stabilisation_of shared who) stays }

lose_leaves_both : (base : List (List ℕ)) (shared : Shared) (who : ℕ) → IsClient who → AreFrozen shared → (fallen : Option Fallen)
    → LeavesBoth base shared (lose_by shared who fallen).shared
lose_leaves_both base shared who is frozen (Some fallen) = record { left = (stays_itself shared frozen).left; images = leaves_same base shared shared refl }
lose_leaves_both base shared who is frozen None = loss_leaves base shared who 0 is frozen

vanished_leaves : (base : List (List ℕ)) (shared : Shared) (own : Own) → IsClient own.who → AreFrozen shared → (fallen : Option Fallen)
    → LeavesImages base shared (vanished_by shared own fallen).shared
vanished_leaves base shared own is frozen (Some fallen) = leaves_same base shared shared refl
vanished_leaves base shared own is frozen None = (loss_leaves base shared own.who _ is frozen).images

-- after a turn of a client that records its calls
turn_leaves : {R : Type 0} (state : State) (who : ℕ) (turn : Option Fallen → Turned R) → is_live state.shared who ≡ true → IsOrderly state
    → StaysFrozen state.shared (turn (fallen_at state.shared (own_at state who).who)).shared
    → ((fallen : Fallen) → (turn (Some fallen)).shared.trail ≡ state.shared.trail)
    → AddsOwn (own_at state who).who (own_at state who).pending state.shared.trail (turn (fallen_at state.shared (own_at state who).who)).shared.trail
    → LeavesBoth state.base state.shared (turn (fallen_at state.shared (own_at state who).who)).shared
turn_leaves state who turn live known stays told adds = record { left = stays.left; images = by_fallen (fallen_at state.shared own.who) refl stays adds }
  where
    own : Own
    own = own_at state who

    stands : TurnStands state.shared own
    stands = stands_at state who known.history.order live

    by_fallen : (fallen : Option Fallen) → fallen_at state.shared own.who ≡ fallen → StaysFrozen state.shared (turn fallen).shared
        → AddsOwn own.who own.pending state.shared.trail (turn fallen).shared.trail → LeavesImages state.base state.shared (turn fallen).shared
    by_fallen (Some fallen) e stay add = leaves_same state.base state.shared _ (told fallen)
    by_fallen None e stay add =
        let is = up_as_it_stands state.shared own stands e in
        own_leaves state.base state.shared _ own known.orderly.frozen (good_if_up state who known.history is)
        (λ page writes. rights_are_held state.shared own stands is page may.Write ∙ writes) stay.left add

-- what each kind of turn leaves
module _ (state : State) (who : ℕ) (is : IsClient who) (known : IsOrderly state) where
  abbrev own : Own
  own = own_at state who

  pub join_leaves : LeavesBoth state.base state.shared (join state.shared (own_at state who)).shared
  join_leaves = record {
    left = (join_stays state.shared own (below_places state who known.history.order is) known.orderly.frozen).left;
    images = leaves_same state.base state.shared _ (step_adds state (event.Join who) NothingFailed);
  }

  pub lose_leaves : LeavesBoth state.base state.shared (lose state.shared who).shared
  lose_leaves = lose_leaves_both state.base state.shared who is known.orderly.frozen (fallen_at state.shared who)

  module _ (live : is_live state.shared who ≡ true) where
    pub acquire_leaves : (wants : List Want) (calls : ℕ) → LeavesBoth state.base state.shared (acquire state.shared (own_at state who) wants calls).shared
    acquire_leaves wants calls =
        turn_leaves state who (acquired_by state.shared own wants calls) live known
        (acquire_stays wants calls state.shared own (named state who known.history.order is) (stands_at state who known.history.order live)
        (recording_if_up state who known.history) known.history.exact.clients known.orderly.frozen)
        (λ fallen. refl) (acquire_adds wants calls state.shared own)

    pub serve_leaves : LeavesBoth state.base state.shared (serve state.shared (own_at state who)).shared
    serve_leaves =
        turn_leaves state who (served_by state.shared own) live known
        (serve_stays state.shared own (named state who known.history.order is) (stands_at state who known.history.order live) (recording_if_up state who known.history)
        known.orderly.frozen)
        (λ fallen. refl) (serve_adds state.shared own)

    pub stabilise_leaves : LeavesBoth state.base state.shared (stabilise state.shared (own_at state who)).shared
    stabilise_leaves =
        turn_leaves state who (stabilised_by state.shared own) live known
        (stabilise_stays state.shared own (named state who known.history.order is) (stands_at state who known.history.order live)
        (recording_if_up state who known.history) known.orderly.frozen)
        (λ fallen. refl) (stabilise_adds state.shared own)

    pub depart_leaves : LeavesBoth state.base state.shared (depart state.shared (own_at state who)).shared
    depart_leaves =
        turn_leaves state who (departed_by state.shared own) live known
        (depart_stays state.shared own (named state who known.history.order is) (stands_at state who known.history.order live) (recording_if_up state who known.history)
        known.orderly.frozen)
        (λ fallen. refl) (depart_adds state.shared own)

    pub vanish_leaves : LeavesBoth state.base state.shared (vanish state.shared (own_at state who)).shared
    vanish_leaves =
        let images = vanished_leaves state.base state.shared own (named state who known.history.order is) known.orderly.frozen (fallen_at state.shared own.who) in
        record {
          left = (vanish_stays state.shared own (named state who known.history.order is) (stands_at state who known.history.order live) known.orderly.frozen).left;
          images = record { stable = images.stable; held = images.held; pages = images.pages };
        }

-- the own parts have no part in the image that is due
same_due : (state : State) (owns : List Own) (unfinished : Option Unfinished) → image_due state unfinished ≡ image_due (record state { owns = owns }) unfinished
same_due state owns None = refl
same_due state owns (Some one) = refl

both_left : (state : State) (after : Shared) (owns : List Own) → IsOrderly state → LeavesBoth state.base state.shared after → HasStoredImage state
    → HasStoredImage (record state { shared = after; owns = owns })
both_left state after owns known both stored = image_left state after owns known.orderly both.left both.images stored

stored_by_turns : KeptByTurns (λ state. ⊤) IsOrderly HasStoredImage
stored_by_turns = record {
  hit = λ state who act page word value is calls known stored can.
      record { shape = stored.shape; image = stored.image ∙ same_due state (with_own state (with_call (own_at state who) act page word value)).owns state.unfinished; unfinished = stored.unfinished; doubtful = stored.doubtful };
  joining = λ state who is known stored. both_left state _ _ known (join_leaves state who is known) stored;
  acquiring = λ state who wants calls any is live known stored. both_left state _ _ known (acquire_leaves state who is known live wants calls) stored;
  serving = λ state who is live known stored. both_left state _ _ known (serve_leaves state who is known live) stored;
  stabilising = λ state who is live known stored. both_left state _ _ known (stabilise_leaves state who is known live) stored;
  departing = λ state who is live known stored. both_left state _ _ known (depart_leaves state who is known live) stored;
  vanishing = λ state who is live known stored. both_left state _ _ known (vanish_leaves state who is known live) stored;
  losing = λ state who is live known stored. both_left state _ _ known (lose_leaves state who is known) stored;
  writing = λ state outside lead one known stored job free. write_out_stored state outside lead one known.history known.orderly stored job free;
  finishing = λ state lead unfinished known stored e same. finish_stored state lead unfinished known.orderly stored e same;
  settling = λ state one known stored e. settle_stored state one known.orderly stored e;
}

pub step_stored : EachStepKeepsTheImage
step_stored state event outside names history orderly stored =
    step_keeps (λ one. ⊤) IsOrderly HasStoredImage (λ one e o n known. tt) (λ one known. tt) stored_by_turns state event outside names
    (record { history = history; orderly = orderly }) stored

pub start_stored : StartsWithItsImage
start_stored vault pages limit capacity shape = record {
  shape = subst (λ count. IsArray count vault.image) (sym shape.count) shape;
  image = refl;
  unfinished = λ one some. absurd (true≢false (sym (ap is_some some)));
  doubtful = λ one inside. absurd (nothing_in one inside);
}

pub every_run_stored : EveryRunKeepsTheImage
every_run_stored vault pages limit capacity happenings shape none names =
    run_keeps IsOrderly HasStoredImage
    (λ state event outside name known. record {
      history = step_history state event outside name known.history;
      orderly = step_orderly state event outside name known.history known.orderly;
    })
    (λ state event outside name known stored. step_stored state event outside name known.history known.orderly stored)
    (start vault pages limit capacity) happenings names
    (record { history = start_history vault pages limit capacity; orderly = start_orderly vault pages limit capacity none })
    (start_stored vault pages limit capacity shape)

-- at a moment that is quiet
pub quiet_image : EveryQuietMomentHasTheStableImage
quiet_image vault pages limit capacity happenings shape none names quiet =
    let state = state_after (start vault pages limit capacity) happenings in
    (every_run_stored vault pages limit capacity happenings shape none names).image ∙ ap (image_due state) quiet
    ∙ ap (λ base. image_of base state.shared.trail) (base_after (start vault pages limit capacity) happenings)

-- and after a write-out
pub written_image : EveryWrittenImageHasItsAssociation
written_image vault pages limit capacity happenings lead version shape none names written =
    let state = state_after (start vault pages limit capacity) happenings in
    (every_run_stored vault pages limit capacity happenings shape none names).image ∙ ap (image_due state) written
    ∙ ap (λ base. image_with base state.shared.trail lead) (base_after (start vault pages limit capacity) happenings)
