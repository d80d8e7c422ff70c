use Rattle.std.proofs.Common.{◌≡◌, ◌⊎◌, ◌+◌, ℕ, suc, List, [], ◌∷◌, ◌++◌, Bool, true, false, cond, ◌==◌, length, take, count_by, refl, sym, ap, ◌∙◌, subst, inl, inr, ⊎_elim, arith, true≢false}
use Rattle.std.specs.Prelude.{Option, None, Some, is_some, option_map, option_and_then, unwrap_or}
use Rattle.std.proofs.lemmas.Bool.{cond-true, and_parts, eqb-true}
use Rattle.std.proofs.lemmas.List.{take-append-le}
use Rattle.std.proofs.lemmas.Option.{slice_get_within}
use Rattle.std.proofs.Math.Seq.{take-append_seam, take-length}
use Rattle.casper_words.specs.Crew.{has_member}
use Rattle.casper_words.specs.declared.page.Right.TheVariants as may
use Rattle.std.proofs.lemmas.List.Sums.{sum_by-cons}
use Rattle.casper_space.specs.declared.answer.Answer.{Answer}
use Rattle.casper_space.specs.declared.answer.Answer.TheVariants as answer
use Rattle.casper_trail.specs.declared.entry.Entry.{Entry}
use Rattle.casper_trail.specs.declared.item.Item.{Item}
use Rattle.casper_trail.specs.declared.item.Item.TheVariants as item
use Rattle.casper_trail.specs.declared.mark.Mark.TheVariants.{Rollback}
use Rattle.casper_trail.specs.Association.{association_of}
use Rattle.casper_trail.specs.Calls.{is_call_of, is_read_or_write}
use Rattle.casper_trail.specs.Fate.{Fate, fate_of, is_live as lives, is_open, decided_first}
use Rattle.casper_trail.specs.Parts.{as_items, live_entries, open_entries}
use Rattle.casper_trail.specs.TrailView.{is_rollback, rollback_count}
use Rattle.casper_trail.proofs.CallLists.{count_append}
use Rattle.casper_trail.proofs.Parts.{fate_of_more}
use Rattle.casper_model.specs.declared.event.Event.{Event}
use Rattle.casper_model.specs.declared.event.Event.TheVariants as event
use Rattle.casper_model.specs.Client.{Client, Fallen}
use Rattle.casper_model.specs.Loss.{fallen_behind, dropped_of}
use Rattle.casper_model.specs.Finish.{doubtful_of}
use Rattle.casper_model.specs.Outside.{Outside}
use Rattle.casper_model.specs.Rights.{NamesClients}
use Rattle.casper_model.specs.Shared.{Shared, client_at, of_client, fallen_at}
use Rattle.casper_model.specs.Stabilisation.{Stabilisation}
use Rattle.casper_model.specs.State.{State}
use Rattle.casper_model.specs.Step.{step}
use Rattle.casper_laws.specs.Additions.{items_added, call_entries, acquire_entries, turn_entries, mark_of, commit_mark, rollback_mark, noted_by}
use Rattle.casper_laws.proofs.AddedBySteps.{step_adds_exactly}
use Rattle.casper_laws.proofs.StepImage.{IsOrderly}
use Rattle.casper_answers.specs.Losses.{carried_out, RecordsFor, RollsBackLosses, HasRollbackOf, FallenAreMarked, FellsTheAssociation, FellsNobodyElse}
use Rattle.casper_answers.proofs.CommitSteps.{place_in_front, place_at_end}
use Rattle.casper_answers.proofs.PlaceMoves.{PlaceMoves}
use Rattle.casper_answers.proofs.StepPlaces.{step_places}

-- Which losses are carried out, and who falls by them.

no_rollbacks : (entries : List Entry) → rollback_count (as_items entries) ≡ 0
no_rollbacks [] = refl
no_rollbacks (entry ∷ entries) = no_rollbacks entries

-- the items that a step adds are the mark of the loss that it carries out, or have no rollback
abbrev Matches : Option ℕ → List Item → List Item → Type 0
Matches None trail items = rollback_count items ≡ 0
Matches (Some lost) trail items = items ≡ rollback_mark trail lost

matches : (state : State) (happened : Event) (given : Answer) → Matches (carried_out state happened given) state.shared.trail (items_added state happened given)
matches state (event.Join who) given = refl
matches state (event.Read who page word) given = no_rollbacks (call_entries state who (record { page = page; right = may.Read }) given)
matches state (event.Write who page word value) given = no_rollbacks (call_entries state who (record { page = page; right = may.Write }) given)
matches state (event.Acquire who wants) given = no_rollbacks (acquire_entries state who wants given)
matches state (event.Hold who wants) given = no_rollbacks (acquire_entries state who wants given)
matches state (event.Serve who) given = no_rollbacks (turn_entries state who given)
matches state (event.Stabilise who) given = no_rollbacks (turn_entries state who given)
matches state (event.WriteOut lead) given = refl
matches state (event.Finish lead) (answer.Commit place) = refl
matches state (event.Finish lead) (answer.Undone place) = by_noted (noted_by state.shared lead)
  where
    by_noted : (noted : Option ℕ) → Matches noted state.shared.trail (mark_of (rollback_mark state.shared.trail) noted)
    by_noted None = refl
    by_noted (Some lost) = refl
matches state (event.Finish lead) other = refl
matches state event.Settle (answer.Commit place) = by_found (doubtful_of state.shared)
  where
    by_found : (found : Option Stabilisation)
        → rollback_count (mark_of (commit_mark state.shared.trail) (option_and_then (λ (one : Stabilisation). Some one.lead) found)) ≡ 0
    by_found None = refl
    by_found (Some one) = refl
matches state event.Settle other = refl
matches state (event.Depart who) given = no_rollbacks (turn_entries state who given)
matches state (event.Vanish who) (answer.VanishLost place unrecorded) = by_fallen (is_some (fallen_at state.shared who))
  where
    by_fallen : (fallen : Bool) → Matches (cond fallen None (Some who)) state.shared.trail (cond fallen [] (rollback_mark state.shared.trail who))
    by_fallen true = refl
    by_fallen false = refl
matches state (event.Vanish who) other = refl
matches state (event.Lose who) (answer.LoseLost place) = refl
matches state (event.Lose who) other = refl

pub records_for : (loss : Option ℕ) (before items : List Item) → Matches loss before items → RecordsFor loss before (before ++ items)
records_for None before items none = count_append is_rollback before items ∙ omega (arith, none)
records_for (Some lost) before items is = ap (λ more. before ++ more) is

is_counted : {X : Type 0} (test : X → Bool) (x : X) (xs : List X) → test x ≡ true → count_by test (x ∷ xs) ≡ 1 + count_by test xs
is_counted test x xs passes = sum_by-cons (λ y. cond (test y) 1 0) x xs ∙ ap (λ one. cond one 1 0 + count_by test xs) passes

not_counted : {X : Type 0} (test : X → Bool) (x : X) (xs : List X) → test x ≡ false → count_by test (x ∷ xs) ≡ count_by test xs
not_counted test x xs out = sum_by-cons (λ y. cond (test y) 1 0) x xs ∙ ap (λ one. cond one 1 0 + count_by test xs) out ∙ omega arith

abbrev one_if : Bool → ℕ
one_if true = 1
one_if false = 0

-- what a rollback drops of a client's calls
drops_calls : (items : List Item) (lost : ℕ) (members : List ℕ) (who : ℕ) → has_member who members ≡ true
    → count_by (is_call_of who) (live_entries items)
    ≡ count_by (is_call_of who) (open_entries items) + count_by (is_call_of who) (live_entries (items ++ item.Mark (Rollback lost members) ∷ []))
drops_calls [] lost members who member = refl
drops_calls (item.Mark mark ∷ items) lost members who member = drops_calls items lost members who member
drops_calls (item.Entry entry ∷ items) lost members who member =
    by_fates (fate_of entry.who items) (fate_of entry.who (items ++ item.Mark (Rollback lost members) ∷ []))
    (λ same.
    fate_of_more entry.who items (item.Mark (Rollback lost members) ∷ [])
    ∙ ap (decided_first (fate_of entry.who items))
    (cond-true (has_member entry.who members) Fate.Dropped Fate.Open (ap (λ number. has_member number members) (eqb-true entry.who who same) ∙ member)))
    (is_call_of who entry) refl (drops_calls items lost members who member)
  where
    count : List Entry → ℕ
    count entries = count_by (is_call_of who) entries

    -- an entry in front counts where it is a call of the client
    counted : (here : Bool) (entries : List Entry) → is_call_of who entry ≡ true → count_by (is_call_of who) (cond here (entry ∷ entries) entries) ≡ one_if here + count_by (is_call_of who) entries
    counted true entries call = is_counted (is_call_of who) entry entries call
    counted false entries call = omega arith

    uncounted : (here : Bool) (entries : List Entry) → is_call_of who entry ≡ false → count_by (is_call_of who) (cond here (entry ∷ entries) entries) ≡ count_by (is_call_of who) entries
    uncounted true entries other = not_counted (is_call_of who) entry entries other
    uncounted false entries other = refl

    ones : (before after : Fate) → after ≡ decided_first before Fate.Dropped → one_if (lives before) ≡ one_if (is_open before) + one_if (lives after)
    ones Fate.Stable after is = let one = ap (λ fate. one_if (lives fate)) is in omega (arith, one)
    ones Fate.Dropped after is = let one = ap (λ fate. one_if (lives fate)) is in omega (arith, one)
    ones Fate.Open after is = let one = ap (λ fate. one_if (lives fate)) is in omega (arith, one)

    by_fates : (before after : Fate) → ((entry.who == who) ≡ true → after ≡ decided_first before Fate.Dropped) → (call : Bool) → is_call_of who entry ≡ call
        → count_by (is_call_of who) (live_entries items)
        ≡ count_by (is_call_of who) (open_entries items) + count_by (is_call_of who) (live_entries (items ++ item.Mark (Rollback lost members) ∷ []))
        → count_by (is_call_of who) (cond (lives before) (entry ∷ live_entries items) (live_entries items))
        ≡ count_by (is_call_of who) (cond (is_open before) (entry ∷ open_entries items) (open_entries items))
        + count_by (is_call_of who)
        (cond (lives after) (entry ∷ live_entries (items ++ item.Mark (Rollback lost members) ∷ [])) (live_entries (items ++ item.Mark (Rollback lost members) ∷ [])))
    by_fates before after decided true e rest =
        let here = counted (lives before) (live_entries items) e in
        let opened = counted (is_open before) (open_entries items) e in
        let later = counted (lives after) (live_entries (items ++ item.Mark (Rollback lost members) ∷ [])) e in
        let one = ones before after (decided (and_parts (entry.who == who) (is_read_or_write entry.op) e).0) in
        omega (arith, here, opened, later, one, rest)
    by_fates before after decided false e rest =
        let here = uncounted (lives before) (live_entries items) e in
        let opened = uncounted (is_open before) (open_entries items) e in
        let later = uncounted (lives after) (live_entries (items ++ item.Mark (Rollback lost members) ∷ [])) e in
        omega (arith, here, opened, later, rest)

-- a place stands with its rollback after more items
pub rollback_more : (trail more : List Item) (place who dropped : ℕ) → HasRollbackOf trail place who dropped → HasRollbackOf (trail ++ more) place who dropped
rollback_more trail more place who dropped has =
    let within = slice_get_within trail place _ has.stands in
    record {
      lost = has.lost;
      members = has.members;
      stands = place_in_front trail more place _ has.stands;
      member = has.member;
      count =
          ap (λ items. count_by (is_call_of who) (live_entries items)) (take-append-le place trail more (omega (arith, within)))
          ∙ has.count
          ∙ ap (λ items. dropped + count_by (is_call_of who) (live_entries items)) (sym (take-append-le (suc place) trail more (omega (arith, within))));
    }

-- a rollback that is recorded, for each of its members
pub rollback_now : (trail : List Item) (lost who : ℕ) → has_member who (association_of trail lost) ≡ true
    → HasRollbackOf (trail ++ rollback_mark trail lost) (length trail) who (dropped_of trail who)
rollback_now trail lost who member = record {
  lost = lost;
  members = association_of trail lost;
  stands = place_at_end trail (item.Mark (Rollback lost (association_of trail lost)));
  member = member;
  count =
      ap (λ items. count_by (is_call_of who) (live_entries items)) (take-append_seam trail (rollback_mark trail lost))
      ∙ drops_calls trail lost (association_of trail lost) who member
      ∙ ap (λ items. dropped_of trail who + count_by (is_call_of who) (live_entries items))
      (sym (take_whole (trail ++ rollback_mark trail lost) (suc (length trail)) (length_push trail (item.Mark (Rollback lost (association_of trail lost))))));
}
  where
    length_push : {X : Type 0} (xs : List X) (x : X) → length (xs ++ x ∷ []) ≡ suc (length xs)
    length_push [] x = refl
    length_push (first ∷ xs) x = ap suc (length_push xs x)

    take_whole : {X : Type 0} (xs : List X) (count : ℕ) → length xs ≡ count → take count xs ≡ xs
    take_whole xs count is = ap (λ number. take number xs) (sym is) ∙ take-length xs

module _ (state : State) (known : IsOrderly state) (happened : Event) (outside : Outside) (is : NamesClients happened) where
  abbrev after : Shared
  after = (step state happened outside).state.shared

  abbrev given : Answer
  given = (step state happened outside).answer

  pub rolls_back : RollsBackLosses state happened outside (step state happened outside)
  rolls_back =
      subst (RecordsFor (carried_out state happened given) state.shared.trail) (sym (step_adds_exactly state happened outside known.history.order))
      (records_for (carried_out state happened given) state.shared.trail (items_added state happened given) (matches state happened given))

  fallen_of_place : Option Client → Option Fallen
  fallen_of_place place = of_client None (λ client. client.fallen) place

  none_fallen : {T : Type 0} (fallen : Option Fallen) (one : Fallen) → fallen ≡ None → fallen ≡ Some one → T
  none_fallen fallen one none some = absurd (true≢false (sym (sym (ap is_some none) ∙ ap is_some some)))

  -- who is fallen was so before, or falls now
  falls_now : (who : ℕ) (fallen : Fallen) → fallen_at after who ≡ Some fallen
      → (fallen_at state.shared who ≡ Some fallen)
      ⊎ ((lost : ℕ) × (carried_out state happened given ≡ Some lost) × (has_member who (association_of state.shared.trail lost) ≡ true)
      × (fallen.mark ≡ length state.shared.trail) × (fallen.dropped ≡ dropped_of state.shared.trail who))
  falls_now who fallen fell = by_place (step_places state known happened outside is who)
    where
      by_ended : (place : Option Client) (change : Client → Client) → ((client : Client) → (change client).fallen ≡ client.fallen)
          → of_client None (λ client. client.fallen) (option_map change place) ≡ of_client None (λ client. client.fallen) place
      by_ended None change same = refl
      by_ended (Some client) change same = same client

      by_fallen : (place : Option Client) → of_client None (λ client. client.fallen) (option_map (fallen_behind state.shared.trail who) place) ≡ Some fallen
          → (fallen.mark ≡ length state.shared.trail) × (fallen.dropped ≡ dropped_of state.shared.trail who)
      by_fallen None some = absurd (true≢false (sym (ap is_some some)))
      by_fallen (Some client) some =
          (sym (ap (λ (x : Option Fallen). (unwrap_or x fallen).mark) some), sym (ap (λ (x : Option Fallen). (unwrap_or x fallen).dropped) some))

      by_place : PlaceMoves state happened given after who
          → (fallen_at state.shared who ≡ Some fallen)
          ⊎ ((lost : ℕ) × (carried_out state happened given ≡ Some lost) × (has_member who (association_of state.shared.trail lost) ≡ true)
          × (fallen.mark ≡ length state.shared.trail) × (fallen.dropped ≡ dropped_of state.shared.trail who))
      by_place (PlaceMoves.stays it) = inl (sym (ap (of_client None (λ client. client.fallen)) it.still) ∙ fell)
      by_place (PlaceMoves.turns it) = none_fallen (fallen_at after who) fallen (ap (of_client None (λ client. client.fallen)) it.turned.live ∙ it.turned.up) fell
      by_place (PlaceMoves.falls it) =
          let now = by_fallen (client_at state.shared who) (sym (ap (of_client None (λ client. client.fallen)) it.fell) ∙ fell) in
          inr (it.lost, it.carried, it.member, now.0, now.1)
      by_place (PlaceMoves.ends it) =
          inl
          (sym (by_ended (client_at state.shared who) (λ client. record client { kept = Some it.outcome }) (λ client. refl))
          ∙ sym (ap (of_client None (λ client. client.fallen)) it.ended) ∙ fell)
      by_place (PlaceMoves.begins it) = none_fallen (fallen_at after who) fallen (ap (of_client None (λ client. client.fallen)) it.joined) fell
      by_place (PlaceMoves.leaves it) = none_fallen (fallen_at after who) fallen (ap (of_client None (λ client. client.fallen)) it.left) fell

  pub fells_nobody_else : FellsNobodyElse state happened outside (step state happened outside)
  fells_nobody_else who fallen fell =
      ⊎_elim (λ before. inl before)
      (λ (now : (lost : ℕ) × (carried_out state happened given ≡ Some lost) × (has_member who (association_of state.shared.trail lost) ≡ true)
      × (fallen.mark ≡ length state.shared.trail) × (fallen.dropped ≡ dropped_of state.shared.trail who)).
      inr (now.0, now.1, now.2, now.3)) (falls_now who fallen fell)

  pub fells_association : FellsTheAssociation state happened outside (step state happened outside)
  fells_association lost who carried member live = by_place (step_places state known happened outside is who)
    where
      by_fallen : (place : Option Client) → is_some (option_map (fallen_behind state.shared.trail who) place) ≡ true
          → (fallen : Fallen) × (of_client None (λ client. client.fallen) (option_map (fallen_behind state.shared.trail who) place) ≡ Some fallen) × (fallen.mark ≡ length state.shared.trail)
      by_fallen None there = absurd (true≢false (sym there))
      by_fallen (Some client) there = (_, refl, refl)

      by_place : PlaceMoves state happened given after who → (fallen : Fallen) × (fallen_at after who ≡ Some fallen) × (fallen.mark ≡ length state.shared.trail)
      by_place (PlaceMoves.stays it) = absurd (it.unfallen lost carried member)
      by_place (PlaceMoves.turns it) = absurd (true≢false (sym (ap is_some carried) ∙ ap is_some it.carried))
      by_place (PlaceMoves.falls it) =
          let found = by_fallen (client_at state.shared who) (ap is_some (sym it.fell) ∙ live) in
          (found.0, ap (of_client None (λ client. client.fallen)) it.fell ∙ found.1, found.2)
      by_place (PlaceMoves.ends it) = absurd (true≢false (sym (ap is_some carried) ∙ ap is_some it.carried))
      by_place (PlaceMoves.begins it) = absurd (true≢false (sym (ap is_some carried) ∙ ap (λ x. is_some (carried_out state x given)) it.by))
      by_place (PlaceMoves.leaves it) = absurd (true≢false (sym live ∙ ap is_some it.left))

  -- what is known of each fallen client stays true
  pub fallen_stay_marked : FallenAreMarked state → FallenAreMarked (step state happened outside).state
  fallen_stay_marked marked who fallen fell =
      ⊎_elim
      (λ before.
      subst (λ trail. HasRollbackOf trail fallen.mark who fallen.dropped) (sym (step_adds_exactly state happened outside known.history.order))
      (rollback_more state.shared.trail (items_added state happened given) fallen.mark who fallen.dropped (marked who fallen before)))
      (λ (now : (lost : ℕ) × (carried_out state happened given ≡ Some lost) × (has_member who (association_of state.shared.trail lost) ≡ true)
      × (fallen.mark ≡ length state.shared.trail) × (fallen.dropped ≡ dropped_of state.shared.trail who)).
      let recorded : after.trail ≡ state.shared.trail ++ rollback_mark state.shared.trail now.0 =
      subst (λ (x : Option ℕ). RecordsFor x state.shared.trail after.trail) now.1 rolls_back in
      subst (λ trail. HasRollbackOf trail fallen.mark who fallen.dropped) (sym recorded)
      (subst (λ mark. HasRollbackOf (state.shared.trail ++ rollback_mark state.shared.trail now.0) mark who fallen.dropped) (sym now.3)
      (subst (HasRollbackOf (state.shared.trail ++ rollback_mark state.shared.trail now.0) (length state.shared.trail) who) (sym now.4)
      (rollback_now state.shared.trail now.0 who now.2))))
      (falls_now who fallen fell)
