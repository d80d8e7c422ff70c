use Rattle.std.proofs.Common.{◌≡◌, ℕ, List, [], ◌∷◌, ◌++◌, true, false, ◌==◌, Contains, refl, sym, ap, ◌∙◌, inl, inr, true≢false, append-nil}
use Rattle.std.specs.List.{list_any}
use Rattle.std.proofs.lemmas.Bool.{cond-false, and_parts, and_from, eq-eqb}
use Rattle.casper_words.specs.Crew.{has_member}
use Rattle.casper_words.specs.declared.page.Right.TheVariants as may
use Rattle.casper_words.specs.declared.page.Want.{Want}
use Rattle.casper_trail.specs.declared.entry.Entry.{Entry}
use Rattle.casper_trail.specs.declared.item.Item.{Item}
use Rattle.casper_trail.specs.declared.item.Item.TheVariants as item
use Rattle.casper_trail.specs.declared.mark.Mark.{Mark}
use Rattle.casper_trail.specs.Association.{association_of}
use Rattle.casper_trail.specs.Fate.{Open, fate_of, fate_by, members_of}
use Rattle.casper_trail.specs.ImageLaws.{is_write_of}
use Rattle.casper_trail.specs.Marks.{IsExactMark}
use Rattle.casper_trail.specs.Parts.{as_items}
use Rattle.casper_trail.specs.TrailView.{is_commit}
use Rattle.casper_trail.specs.Value.{is_write}
use Rattle.casper_trail.proofs.Growth.{members_together}
use Rattle.casper_trail.proofs.Parts.{fate_of_entries}
use Rattle.casper_model.specs.Held.{allows}
use Rattle.casper_model.specs.Own.{Own}
use Rattle.casper_model.specs.Shared.{Shared, rights_at}
use Rattle.casper_model.specs.Stabilisation.{Stabilisation, Phase, Gathering, Sealed, Doubtful, is_gathering, is_sealed, is_doubtful}
use Rattle.casper_model.proofs.Entries.{added_by, writes_added}
use Rattle.casper_model.proofs.MarkHistory.{head_of, members_are}
use Rattle.casper_turns.specs.Frozen.{AreFrozen}
use Rattle.casper_turns.specs.Good.{MayRecord}
use Rattle.casper_turns.specs.CommitsNothing.{CommitsNothing}
use Rattle.casper_turns.proofs.FrozenChanges.{IsHeldBy, LeavesWriteOuts}
use Rattle.casper_turns.proofs.Lists.{any_none, contains_map}

-- a stabilisation as it is left: with its lead and its phase
pub record IsLeft (after : Shared) (one : Stabilisation) : Type 0 where
  pub same : Stabilisation
  pub there : Contains after.stabilisations same
  pub lead : same.lead ≡ one.lead
  pub phase : same.phase ≡ one.phase

sealed_is : (phase : Phase) → is_sealed phase ≡ true → phase ≡ Sealed
sealed_is Gathering is = absurd (true≢false (sym is))
sealed_is Sealed is = refl
sealed_is Doubtful is = absurd (true≢false (sym is))

doubtful_is : (phase : Phase) → is_doubtful phase ≡ true → phase ≡ Doubtful
doubtful_is Gathering is = absurd (true≢false (sym is))
doubtful_is Sealed is = absurd (true≢false (sym is))
doubtful_is Doubtful is = refl

held_by : (shared : Shared) (one : Stabilisation) (phase : Phase) → one.phase ≡ phase → Contains shared.stabilisations one → is_gathering phase ≡ false → IsHeldBy shared one.lead
held_by shared one Gathering e inside held = absurd (true≢false held)
held_by shared one Sealed e inside held = inl (one, inside, refl, ap is_sealed e)
held_by shared one Doubtful e inside held = inr (one, inside, refl, ap is_doubtful e)

pub left_as : (shared after : Shared) → LeavesWriteOuts shared after → (one : Stabilisation) (phase : Phase) → one.phase ≡ phase → Contains shared.stabilisations one
    → is_gathering phase ≡ false → IsLeft after one
left_as shared after left one Gathering e inside held = absurd (true≢false held)
left_as shared after left one Sealed e inside held =
    let is = left.sealed one.lead (one, inside, refl, ap is_sealed e) in
    record { same = is.0; there = is.1; lead = is.2; phase = sealed_is is.0.phase is.3 ∙ sym e }
left_as shared after left one Doubtful e inside held =
    let is = left.doubtful one.lead (one, inside, refl, ap is_doubtful e) in
    record { same = is.0; there = is.1; lead = is.2; phase = doubtful_is is.0.phase is.3 ∙ sym e }

-- where the write-outs are left, and what the trail got decides and writes nothing of theirs
pub still_left : (shared after : Shared) (more : List Item) → after.trail ≡ shared.trail ++ more → list_any is_commit more ≡ false → LeavesWriteOuts shared after
    → ((one : Stabilisation) → Contains shared.stabilisations one → is_gathering one.phase ≡ false → (who : ℕ)
    → has_member who (association_of shared.trail one.lead) ≡ true → fate_of who more ≡ Open)
    → ((one : Stabilisation) → Contains shared.stabilisations one → is_gathering one.phase ≡ false → list_any (is_write_of (association_of shared.trail one.lead)) more ≡ false)
    → CommitsNothing shared after
still_left shared after more grown commits left decided written = record {
  more = more;
  trail = grown;
  commits = commits;
  held = λ one inside held.
      let is = left_as shared after left one one.phase refl inside held in
      record {
        same = is.same;
        there = is.there;
        lead = is.lead;
        phase = is.phase;
        members = left.stay one.lead (held_by shared one one.phase refl inside held);
        decided = decided one inside held;
        written = written one inside held;
      };
  doubts = λ one inside doubtful. let was = left.were one inside doubtful in (was.0, was.1, was.3, was.2);
}

pub still_same : (shared after : Shared) → after.trail ≡ shared.trail → LeavesWriteOuts shared after → CommitsNothing shared after
still_same shared after same left =
    still_left shared after [] (same ∙ sym (append-nil shared.trail)) refl left (λ one inside held who member. refl) (λ one inside held. refl)

-- after what a client records: as a member of one it may write nothing
pub still_recorded : (shared after : Shared) (own : Own) (wants : List Want) → after.trail ≡ shared.trail ++ as_items (added_by own.who own.pending wants)
    → AreFrozen shared → MayRecord shared.trail own
    → ((page : ℕ) → allows own.held page may.Write ≡ true → allows (rights_at shared own.who) page may.Write ≡ true)
    → LeavesWriteOuts shared after → CommitsNothing shared after
still_recorded shared after own wants grown frozen good known left =
    still_left shared after (as_items added) grown
    (any_none is_commit (as_items added)
    (λ one inside commits. let found = contains_map item.Entry added one inside in true≢false (sym commits ∙ sym (ap is_commit found.2))))
    left (λ one inside held who member. fate_of_entries who added)
    (λ one inside held.
    any_none (is_write_of (association_of shared.trail one.lead)) (as_items added)
    (λ x there writes.
    let found = contains_map item.Entry added x there in
    let both = and_parts (is_write found.0.op) (has_member found.0.who (association_of shared.trail one.lead))
    (ap (is_write_of (association_of shared.trail one.lead)) found.2 ∙ writes) in
    silent one inside held found.0 found.1 both.0 both.1))
  where
    added : List Entry
    added = added_by own.who own.pending wants

    silent : (one : Stabilisation) → Contains shared.stabilisations one → is_gathering one.phase ≡ false → (entry : Entry) → Contains added entry → is_write entry.op ≡ true
        → has_member entry.who (association_of shared.trail one.lead) ≡ true → ⊥
    silent one inside held entry there writes member =
        let found =
        writes_added own.who own.held own.pending wants good.held entry entry.page there (and_from (is_write entry.op) (entry.page == entry.page) writes (eq-eqb entry.page entry.page refl)) in
        let is : has_member own.who (association_of shared.trail one.lead) ≡ true = ap (λ who. has_member who (association_of shared.trail one.lead)) (sym found.0) ∙ member in
        true≢false (sym (frozen.quiet one inside own.who entry.page is (known entry.page found.1)).0 ∙ held)

-- who is outside of an exact mark has none of its members in its association
pub outside_apart : (items : List Item) (mark : Mark) → IsExactMark items mark → (client who : ℕ) → has_member client (members_of mark) ≡ false
    → has_member who (association_of items client) ≡ true → has_member who (members_of mark) ≡ false
outside_apart items mark exact client who outside found =
    let is = members_are items mark exact in
    ap (has_member who) is ∙ members_together items (head_of mark) who client found ∙ ap (has_member client) (sym is) ∙ outside

-- a mark that does not name who is in an association decides none of its entries
pub undecided : (items : List Item) (mark : Mark) → IsExactMark items mark → (lead who : ℕ) → has_member lead (members_of mark) ≡ false
    → has_member who (association_of items lead) ≡ true → fate_of who (item.Mark mark ∷ []) ≡ Open
undecided items mark exact lead who outside member =
    cond-false (has_member who (members_of mark)) (fate_by mark) Open (outside_apart items mark exact lead who outside member)
