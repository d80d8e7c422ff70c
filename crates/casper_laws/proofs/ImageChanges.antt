use Rattle.std.proofs.Common.{◌≡◌, ◌⊎◌, ℕ, List, [], ◌∷◌, ◌++◌, Bool, true, false, ◌==◌, ◌&&◌, not, map, filter, Contains, refl, sym, ap, ◌∙◌, subst, ⊎_elim, inl, inr, true≢false, append-nil, append_assoc}
use Rattle.std.specs.Prelude.{Option, None, Some}
use Rattle.std.specs.List.{list_any}
use Rattle.std.proofs.lemmas.Bool.{cond-false, and_parts, and_from, eq-eqb, false_from_ne_true}
use Rattle.casper_words.specs.Crew.{IsClient, has_member}
use Rattle.casper_words.specs.declared.page.Want.{Want}
use Rattle.casper_words.specs.declared.page.Right.TheVariants as may
use Rattle.casper_trail.specs.declared.entry.Entry.{Entry}
use Rattle.casper_trail.specs.declared.item.Item.{Item}
use Rattle.casper_trail.specs.declared.item.Item.TheVariants as item
use Rattle.casper_trail.specs.declared.mark.Mark.TheVariants.{Rollback}
use Rattle.casper_trail.specs.Value.{is_write}
use Rattle.casper_trail.specs.Fate.{Dropped, Open}
use Rattle.casper_trail.specs.Parts.{as_items, open_entries}
use Rattle.casper_trail.specs.Calls.{entries_by}
use Rattle.casper_trail.specs.Association.{association_of}
use Rattle.casper_trail.specs.Image.{image_of, image_with}
use Rattle.casper_trail.specs.ImageLaws.{is_write_of}
use Rattle.casper_trail.specs.TrailView.{is_commit}
use Rattle.casper_trail.proofs.Pages.{filter_append}
use Rattle.casper_trail.proofs.Parts.{fate_of_entries, open_of_more_entries, open_after_mark}
use Rattle.casper_trail.proofs.Rounds.{association_of_a_member, association_holds_its_client}
use Rattle.casper_trail.proofs.Images.{image_without_commit, image_without_members}
use Rattle.casper_model.specs.declared.outcome.Outcome.{Outcome}
use Rattle.casper_model.specs.declared.outcome.Outcome.TheVariants as outcome
use Rattle.casper_space.specs.Rising.{rising}
use Rattle.casper_model.specs.Frozen.{pages_modified_by}
use Rattle.casper_model.specs.Held.{allows}
use Rattle.casper_model.specs.Own.{Own}
use Rattle.casper_model.specs.Acquire.{touches_by}
use Rattle.casper_model.specs.Stabilisation.{Stabilisation, Phase, Gathering, Sealed, Doubtful, is_gathering, is_sealed, is_doubtful}
use Rattle.casper_model.specs.Shared.{Shared, rights_at}
use Rattle.casper_model.specs.State.{State, Unfinished}
use Rattle.casper_model.specs.Growth.{AddsOwn}
use Rattle.casper_model.specs.LegalHistory.{IsGoodNow}
use Rattle.casper_model.proofs.Entries.{added_by, writes_added}
use Rattle.std.proofs.lemmas.List.{map-append}
use Rattle.casper_turns.specs.Frozen.{AreFrozen, IsSealedBy}
use Rattle.casper_laws.specs.FrozenLaws.{OneIsUnfinished, AreWriteOutsInOrder, HasOrderlyStabilisations}
use Rattle.casper_laws.specs.StoredImage.{image_by, image_due, HasStoredImage}
use Rattle.casper_turns.proofs.Lists.{contains_map, any_none, filter_nothing, filter_filtered}
use Rattle.casper_turns.proofs.FrozenChanges.{IsDoubtfulBy, IsHeldBy, LeavesWriteOuts}

-- the pages that the association of a lead has modified
abbrev pub pages_of_lead : List Item → ℕ → List ℕ
pages_of_lead trail lead = pages_modified_by trail (association_of trail lead)

-- what a change leaves of the images: the stable one, and that with each association that is sealed or in doubt, and the
-- pages that this has modified
pub record LeavesImages (base : List (List ℕ)) (shared after : Shared) : Type 0 where
  pub stable : image_of base after.trail ≡ image_of base shared.trail
  pub held : (lead : ℕ) → IsHeldBy shared lead → image_with base after.trail lead ≡ image_with base shared.trail lead
  pub pages : (lead : ℕ) → IsHeldBy shared lead → pages_of_lead after.trail lead ≡ pages_of_lead shared.trail lead

pub leaves_same : (base : List (List ℕ)) (shared after : Shared) → after.trail ≡ shared.trail → LeavesImages base shared after
leaves_same base shared after same = record {
  stable = ap (image_of base) same;
  held = λ lead is. ap (λ trail. image_with base trail lead) same;
  pages = λ lead is. ap (λ trail. pages_of_lead trail lead) same;
}

-- a stabilisation that is sealed or in doubt is not gathering
held_phase : (phase : Phase) → (is_sealed phase ≡ true) ⊎ (is_doubtful phase ≡ true) → is_gathering phase ≡ false
held_phase Gathering is = ⊎_elim (λ never. absurd (true≢false (sym never))) (λ never. absurd (true≢false (sym never))) is
held_phase Sealed is = refl
held_phase Doubtful is = refl

-- its members may write nothing
held_silent : (shared : Shared) (lead who page : ℕ) → AreFrozen shared → IsHeldBy shared lead → has_member who (association_of shared.trail lead) ≡ true
    → allows (rights_at shared who) page may.Write ≡ true → ⊥
held_silent shared lead who page frozen held member writes =
    ⊎_elim
    (λ (seal : IsSealedBy shared lead). silent seal.0 seal.1 seal.2 (held_phase seal.0.phase (inl seal.3)))
    (λ (doubt : IsDoubtfulBy shared lead). silent doubt.0 doubt.1 doubt.2 (held_phase doubt.0.phase (inr doubt.3))) held
  where
    silent : (one : Stabilisation) → Contains shared.stabilisations one → one.lead ≡ lead → is_gathering one.phase ≡ false → ⊥
    silent one inside led still =
        true≢false
        (sym (frozen.quiet one inside who page (ap (λ number. has_member who (association_of shared.trail number)) led ∙ member) writes).0 ∙ still)

-- whether an entry is a write by a member, and the pages of such writes
abbrev is_write_by : List ℕ → Entry → Bool
is_write_by members entry = is_write entry.op && has_member entry.who members

abbrev pages_written : List Entry → List ℕ
pages_written writes = rising (map (λ entry. entry.page) writes)

-- entries of a client that writes nothing as a member leave the images
entries_leave : (base : List (List ℕ)) (shared after : Shared) (more : List Entry) → after.trail ≡ shared.trail ++ as_items more
    → ((lead : ℕ) → IsHeldBy shared lead → association_of after.trail lead ≡ association_of shared.trail lead)
    → ((lead : ℕ) → IsHeldBy shared lead → (entry : Entry) → Contains more entry → is_write entry.op ≡ true
    → has_member entry.who (association_of shared.trail lead) ≡ true → ⊥)
    → LeavesImages base shared after
entries_leave base shared after more grown stay silent = record {
  stable = ap (image_of base) grown ∙ image_without_commit base shared.trail (as_items more) no_commit;
  held = λ lead is.
      ap (λ trail. image_with base trail lead) grown
      ∙ image_without_members base shared.trail (as_items more) lead no_commit (ap (λ trail. association_of trail lead) (sym grown) ∙ stay lead is)
      (λ who member. fate_of_entries who more)
      (any_none (is_write_of (association_of shared.trail lead)) (as_items more)
      (λ one inside writes.
      let found = contains_map item.Entry more one inside in
      let both = and_parts (is_write found.0.op) (has_member found.0.who (association_of shared.trail lead))
      (ap (is_write_of (association_of shared.trail lead)) found.2 ∙ writes) in
      silent lead is found.0 found.1 both.0 both.1));
  pages = λ lead is.
      ap (pages_modified_by after.trail) (stay lead is)
      ∙ ap (λ entries. pages_written (filter (is_write_by (association_of shared.trail lead)) entries)) (ap open_entries grown ∙ open_of_more_entries shared.trail more)
      ∙ ap pages_written
      (filter_append (is_write_by (association_of shared.trail lead)) (open_entries shared.trail) more
      ∙ ap (λ back. filter (is_write_by (association_of shared.trail lead)) (open_entries shared.trail) ++ back)
      (filter_nothing (is_write_by (association_of shared.trail lead)) more
      (λ entry inside passes.
      let both = and_parts (is_write entry.op) (has_member entry.who (association_of shared.trail lead)) passes in silent lead is entry inside both.0 both.1))
      ∙ append-nil (filter (is_write_by (association_of shared.trail lead)) (open_entries shared.trail)));
}
  where
    no_commit : list_any is_commit (as_items more) ≡ false
    no_commit =
        any_none is_commit (as_items more)
        (λ one inside commits. let found = contains_map item.Entry more one inside in true≢false (sym commits ∙ sym (ap is_commit found.2)))

-- what a turn of a client adds leaves the images
pub own_leaves : (base : List (List ℕ)) (shared after : Shared) (own : Own) → AreFrozen shared → IsGoodNow base shared.trail own
    → ((page : ℕ) → allows own.held page may.Write ≡ true → allows (rights_at shared own.who) page may.Write ≡ true)
    → LeavesWriteOuts shared after → AddsOwn own.who own.pending shared.trail after.trail → LeavesImages base shared after
own_leaves base shared after own frozen good has left adds = by_addition after.trail adds refl
  where
    silent : (wants : List Want) (lead : ℕ) → IsHeldBy shared lead → (entry : Entry) → Contains (added_by own.who own.pending wants) entry → is_write entry.op ≡ true
        → has_member entry.who (association_of shared.trail lead) ≡ true → ⊥
    silent wants lead is entry inside writes member =
        let found =
        writes_added own.who own.held own.pending wants good.held entry entry.page inside (and_from (is_write entry.op) (entry.page == entry.page) writes (eq-eqb entry.page entry.page refl)) in
        held_silent shared lead own.who entry.page frozen is (ap (λ who. has_member who (association_of shared.trail lead)) (sym found.0) ∙ member) (has entry.page found.1)

    by_addition : (trail : List Item) → AddsOwn own.who own.pending shared.trail trail → after.trail ≡ trail → LeavesImages base shared after
    by_addition trail AddsOwn.nothing same = leaves_same base shared after same
    by_addition trail AddsOwn.calls same =
        entries_leave base shared after (added_by own.who own.pending [])
        (same ∙ ap (λ entries. shared.trail ++ as_items entries) (sym (append-nil (entries_by own.who own.pending)))) left.stay (silent [])
    by_addition trail (AddsOwn.touches wants) same =
        entries_leave base shared after (added_by own.who own.pending wants)
        (same ∙ append_assoc shared.trail (as_items (entries_by own.who own.pending)) (as_items (touches_by own.who wants))
        ∙ ap (λ more. shared.trail ++ more) (sym (map-append item.Entry (entries_by own.who own.pending) (touches_by own.who wants)))) left.stay (silent wants)

-- so does the rollback of another association
pub rollback_leaves : (base : List (List ℕ)) (shared after : Shared) (lost : ℕ) → after.trail ≡ shared.trail ++ item.Mark (Rollback lost (association_of shared.trail lost)) ∷ []
    → LeavesWriteOuts shared after
    → ((lead : ℕ) → IsHeldBy shared lead → has_member lead (association_of shared.trail lost) ≡ false) → (AreFrozen shared) → LeavesImages base shared after
rollback_leaves base shared after lost grown left apart frozen = record {
  stable = ap (image_of base) grown ∙ image_without_commit base shared.trail _ refl;
  held = λ lead is.
      ap (λ trail. image_with base trail lead) grown
      ∙ image_without_members base shared.trail _ lead refl (ap (λ trail. association_of trail lead) (sym grown) ∙ left.stay lead is)
      (λ who member. cond-false (has_member who (association_of shared.trail lost)) Dropped Open (outside lead is who member)) refl;
  pages = λ lead is.
      ap (pages_modified_by after.trail) (left.stay lead is)
      ∙ ap (λ entries. pages_written (filter (is_write_by (association_of shared.trail lead)) entries)) (ap open_entries grown ∙ open_after_mark shared.trail _)
      ∙ ap pages_written
      (filter_filtered (is_write_by (association_of shared.trail lead)) (λ entry. not (has_member entry.who (association_of shared.trail lost))) (open_entries shared.trail)
      (λ entry passes.
      ap not (outside lead is entry.who (and_parts (is_write entry.op) (has_member entry.who (association_of shared.trail lead)) passes).1)));
}
  where
    led : (lead : ℕ) → IsHeldBy shared lead → IsClient lead
    led lead is =
        ⊎_elim (λ (seal : IsSealedBy shared lead). subst IsClient seal.2 (frozen.leads seal.0 seal.1))
        (λ (doubt : IsDoubtfulBy shared lead). subst IsClient doubt.2 (frozen.leads doubt.0 doubt.1)) is

    outside : (lead : ℕ) → IsHeldBy shared lead → (who : ℕ) → has_member who (association_of shared.trail lead) ≡ true
        → has_member who (association_of shared.trail lost) ≡ false
    outside lead is who member =
        false_from_ne_true (has_member who (association_of shared.trail lost))
        (λ found.
        true≢false
        (sym (ap (has_member lead)
        (sym (association_of_a_member shared.trail lost who found) ∙ association_of_a_member shared.trail lead who member)
        ∙ association_holds_its_client shared.trail lead (led lead is))
        ∙ apart lead is))

-- the stored image after such a change
pub image_left : (state : State) (after : Shared) (owns : List Own) → HasOrderlyStabilisations state → LeavesWriteOuts state.shared after
    → LeavesImages state.base state.shared after → HasStoredImage state → HasStoredImage (record state { shared = after; owns = owns })
image_left state after owns orderly left leaves stored = record {
  shape = stored.shape;
  image = stored.image ∙ due state.unfinished refl;
  unfinished = λ one e ended. stored.unfinished one e ended ∙ sym (leaves.held one.lead (inl (sealed one e)));
  doubtful = λ one inside is.
      let was = left.were one inside is in
      stored.doubtful was.0 was.1 was.2 ∙ sym (leaves.held was.0.lead (inr (was.0, was.1, refl, was.2)))
      ∙ ap (λ lead. image_with state.base after.trail lead) was.3;
}
  where
    sealed : (one : Unfinished) → state.unfinished ≡ Some one → IsSealedBy state.shared one.lead
    sealed one e =
        let stands : OneIsUnfinished state one = subst (AreWriteOutsInOrder state) e orderly.written in stands.stabilisation

    by_outcome : (lead : ℕ) (how : Outcome) → IsSealedBy state.shared lead
        → image_by state.base state.shared.trail lead how ≡ image_by state.base after.trail lead how
    by_outcome lead (outcome.Ok version) seal = sym (leaves.held lead (inl seal))
    by_outcome lead (outcome.Full need free) seal = sym leaves.stable
    by_outcome lead outcome.Worn seal = sym leaves.stable
    by_outcome lead outcome.Disk seal = sym leaves.stable
    by_outcome lead outcome.Doubt seal = sym leaves.stable

    due : (one : Option Unfinished) → state.unfinished ≡ one → image_due state one ≡ image_due (record state { shared = after; owns = owns }) one
    due None e = sym leaves.stable
    due (Some one) e = by_outcome one.lead one.outcome (sealed one e)
