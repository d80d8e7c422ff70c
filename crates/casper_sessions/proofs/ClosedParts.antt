use Rattle.std.proofs.Common.{◌≡◌, ℕ, List, [], ◌∷◌, Bool, true, ◌&&◌, ◌||◌, Contains, refl, sym, subst, ⊎_elim, true≢false}
use Rattle.std.specs.Prelude.{cond}
use Rattle.std.proofs.lemmas.Bool.{cond_both}
use Rattle.casper_words.specs.Crew.{has_member}
use Rattle.casper_trail.specs.declared.entry.Entry.{Entry}
use Rattle.casper_trail.specs.declared.item.Item.{Item}
use Rattle.casper_trail.specs.declared.item.Item.TheVariants as item
use Rattle.casper_trail.specs.Association.{association_of}
use Rattle.casper_trail.specs.Fate.{Fate, Stable, Dropped, Open, fate_of, is_stable, is_open}
use Rattle.casper_trail.specs.Image.{image_of, image_with}
use Rattle.casper_trail.specs.Parts.{entries_where, stable_entries, stable_or_open_of}
use Rattle.casper_trail.proofs.Causes.{stable_is_closed, association_is_closed}
use Rattle.casper_trail.proofs.LinkLists.{contains_there}
use Rattle.casper_model.specs.LegalHistory.{HasHistory}
use Rattle.casper_model.specs.State.{State}
use Rattle.casper_model.proofs.Entries.{contains_cases}
use Rattle.casper_turns.proofs.Lists.{contains_here}
use Rattle.casper_sessions.specs.Moments.{Quiet, Deciding, Written}
use Rattle.casper_sessions.specs.StopLaws.{IsOfAClosedPart, LeavesAClosedPart}

-- and with one entry more
one_more : (test wider : ℕ → Fate → Bool) → ((who : ℕ) (fate : Fate) → test who fate ≡ true → wider who fate ≡ true)
    → (one : Entry) (fate : Fate) (some all : List Entry) (entry : Entry) → (Contains some entry → Contains all entry)
    → Contains (cond (test one.who fate) (one ∷ some) some) entry → Contains (cond (wider one.who fate) (one ∷ all) all) entry
one_more test wider implied one fate some all entry further found =
    cond_both (test one.who fate) (one ∷ some) some (λ (list : List Entry). Contains list entry → Contains (cond (wider one.who fate) (one ∷ all) all) entry)
    (λ passes inside.
    subst (λ (yes : Bool). Contains (cond yes (one ∷ all) all) entry) (sym (implied one.who fate passes))
    (⊎_elim (λ (is : one ≡ entry). subst (λ (x : Entry). Contains (one ∷ all) x) is (contains_here one all))
    (λ later. contains_there one all entry (further later)) (contains_cases one some entry inside)))
    (λ fails inside.
    cond_both (wider one.who fate) (one ∷ all) all (λ (list : List Entry). Contains list entry) (λ yes. contains_there one all entry (further inside))
    (λ not_here. further inside))
    found

-- entries that pass a test pass a wider one
more_pass : (test wider : ℕ → Fate → Bool) → ((who : ℕ) (fate : Fate) → test who fate ≡ true → wider who fate ≡ true)
    → (items : List Item) (entry : Entry) → Contains (entries_where test items) entry → Contains (entries_where wider items) entry
more_pass test wider implied [] entry inside = inside
more_pass test wider implied (item.Mark mark ∷ following) entry inside = more_pass test wider implied following entry inside
more_pass test wider implied (item.Entry one ∷ following) entry found =
    one_more test wider implied one (fate_of one.who following) (entries_where test following) (entries_where wider following) entry
    (more_pass test wider implied following entry) found

stable_passes : (members : List ℕ) (who : ℕ) (fate : Fate) → is_stable fate ≡ true → (is_stable fate || (is_open fate && has_member who members)) ≡ true
stable_passes members who Stable is = refl
stable_passes members who Dropped is = absurd (true≢false (sym is))
stable_passes members who Open is = absurd (true≢false (sym is))

-- whatever the moment, a stop leaves the array of a closed part with all that is stable
pub closed_part : (state : State) → HasHistory state → LeavesAClosedPart state
closed_part state history = by_moment
  where
    stable_part : (array : List (List ℕ)) → array ≡ image_of state.base state.shared.trail → IsOfAClosedPart state.base state.shared.trail array
    stable_part array is = record {
      part = stable_entries state.shared.trail;
      closed = stable_is_closed state.shared.trail history.exact.clients history.exact.marks;
      stable = λ entry inside. inside;
      is = is;
    }

    with_part : (lead : ℕ) (array : List (List ℕ)) → array ≡ image_with state.base state.shared.trail lead
        → IsOfAClosedPart state.base state.shared.trail array
    with_part lead array is = record {
      part = stable_or_open_of (association_of state.shared.trail lead) state.shared.trail;
      closed = association_is_closed state.shared.trail lead history.exact.clients history.exact.marks;
      stable = more_pass (λ who fate. is_stable fate) (λ who fate. is_stable fate || (is_open fate && has_member who (association_of state.shared.trail lead)))
          (stable_passes (association_of state.shared.trail lead)) state.shared.trail;
      is = is;
    }

    by_moment : LeavesAClosedPart state
    by_moment Quiet array is = stable_part array is
    by_moment (Deciding lead) array is = ⊎_elim (stable_part array) (with_part lead array) is
    by_moment (Written lead) array is = with_part lead array is
