use Rattle.std.proofs.Common.{◌≡◌, ◌≢◌, ℕ, zero, suc, List, [], ◌∷◌, ◌++◌, Bool, true, false, cond, not, length, Contains, refl, sym, ap, ◌∙◌, subst, ⊎_elim, true≢false, arith}
use Rattle.std.specs.Prelude.{Option, None, Some, slice_get, is_some, unwrap_or}
use Rattle.std.proofs.lemmas.Bool.{cases_eq, cond_both, both_ways, not-true}
use Rattle.casper_words.specs.Crew.{has_member}
use Rattle.casper_words.specs.declared.call.Call.{Call}
use Rattle.casper_words.specs.declared.page.Want.{Want}
use Rattle.casper_trail.specs.declared.entry.Entry.{Entry}
use Rattle.casper_trail.specs.declared.mark.Mark.{Mark}
use Rattle.casper_trail.specs.declared.mark.Mark.TheVariants.{Commit, Rollback}
use Rattle.casper_trail.specs.declared.item.Item.{Item}
use Rattle.casper_trail.specs.declared.item.Item.TheVariants as item
use Rattle.casper_trail.specs.Fate.{members_of}
use Rattle.casper_trail.specs.Parts.{as_items, open_entries, live_entries}
use Rattle.casper_trail.specs.Calls.{entries_by, touch_by}
use Rattle.casper_trail.specs.Association.{association_of}
use Rattle.casper_trail.proofs.Parts.{open_of_more_entries, open_after_mark}
use Rattle.casper_model.specs.declared.outcome.Outcome.{Outcome}
use Rattle.casper_model.specs.declared.outcome.Outcome.TheVariants as outcome
use Rattle.casper_model.specs.declared.outcome.Kept.{Kept}
use Rattle.casper_model.specs.declared.reply.Loss.{Loss}
use Rattle.casper_model.specs.Client.{Client, Fallen}
use Rattle.casper_model.specs.Stabilisation.{Stabilisation, is_gathering}
use Rattle.casper_model.specs.Shared.{Shared, client_at, fallen_at, of_client}
use Rattle.casper_model.specs.Own.{Own}
use Rattle.casper_model.specs.Both.{Changed}
use Rattle.casper_model.specs.Frozen.{stabilisation_of, members_of_stabilisation as members_in}
use Rattle.casper_model.specs.Acquire.{touches_by}
use Rattle.casper_model.specs.Loss.{lose, lose_by, lost_in, rolled_back, fallen_behind, dropped_of}
use Rattle.casper_model.specs.Leave.{vanished_by}
use Rattle.casper_model.specs.Finish.{finish, finished_by, finished_as, failed, ended, committed, settled, settled_by, stabilisation_led_by, doubtful_of}
use Rattle.casper_model.specs.Rights.{TurnKeeps}
use Rattle.casper_model.specs.FallLaw.{HasFallen, EachFallenIsMarked}
use Rattle.casper_model.proofs.Places.{client_each}
use Rattle.casper_model.proofs.Entries.{contains_append, contains_entry, contains_cases, added_by}
use Rattle.casper_model.proofs.MarkHistory.{contains_kept}
use Rattle.casper_model.proofs.MarkSteps.{changed_from}
use Rattle.casper_model.proofs.TurnHistory.{Records}

place_in_front : {X : Type 0} (xs ys : List X) (at : ℕ) (x : X) → slice_get xs at ≡ Some x → slice_get (xs ++ ys) at ≡ Some x
place_in_front [] ys at x is = absurd (true≢false (sym (ap is_some is)))
place_in_front (first ∷ xs) ys zero x is = is
place_in_front (first ∷ xs) ys (suc at) x is = place_in_front xs ys at x is

place_at_end : {X : Type 0} (xs : List X) (x : X) → slice_get (xs ++ x ∷ []) (length xs) ≡ Some x
place_at_end [] x = refl
place_at_end (first ∷ xs) x = place_at_end xs x

touch_is_by : (who : ℕ) (wants : List Want) (entry : Entry) → Contains (touches_by who wants) entry → entry.who ≡ who
touch_is_by who [] entry inside = absurd (omega (arith, inside.1))
touch_is_by who (want ∷ wants) entry inside =
    ⊎_elim (λ is. ap (λ (one : Entry). one.who) (sym is)) (λ later. touch_is_by who wants entry later) (contains_cases (touch_by who want.page) (touches_by who wants) entry inside)

-- what a turn adds is of its client
added_is_by : (who : ℕ) (calls : List Call) (wants : List Want) (entry : Entry) → Contains (added_by who calls wants) entry → entry.who ≡ who
added_is_by who calls wants entry inside =
    ⊎_elim (λ one. ap (λ (e : Entry). e.who) (sym (contains_entry who calls entry one).2)) (λ touch. touch_is_by who wants entry touch)
    (contains_append (entries_by who calls) (touches_by who wants) entry inside)

-- the turn of another client, and a mark
fallen_with_turn : (trail : List Item) (who : ℕ) (calls : List Call) (wants : List Want) (number : ℕ) (fallen : Fallen) → number ≢ who → HasFallen trail number fallen
    → HasFallen (trail ++ as_items (added_by who calls wants)) number fallen
fallen_with_turn trail who calls wants number fallen apart has = record {
  no_open = λ entry inside is.
      ⊎_elim (λ old. has.no_open entry old is) (λ new. apart (sym is ∙ added_is_by who calls wants entry new))
      (contains_append (open_entries trail) (added_by who calls wants) entry
      (subst (λ entries. Contains entries entry) (open_of_more_entries trail (added_by who calls wants)) inside));
  lost = has.lost;
  members = has.members;
  mark = place_in_front trail (as_items (added_by who calls wants)) fallen.mark (item.Mark (Rollback has.lost has.members)) has.mark;
  named = has.named;
}

left_open : (trail : List Item) (mark : Mark) (entry : Entry) → Contains (open_entries (trail ++ item.Mark mark ∷ [])) entry
    → Contains (open_entries trail) entry × (not (has_member entry.who (members_of mark)) ≡ true)
left_open trail mark entry inside =
    contains_kept (λ one. not (has_member one.who (members_of mark))) (open_entries trail) entry
    (subst (λ entries. Contains entries entry) (open_after_mark trail mark) inside)

fallen_with_mark : (trail : List Item) (mark : Mark) (number : ℕ) (fallen : Fallen) → HasFallen trail number fallen → HasFallen (trail ++ item.Mark mark ∷ []) number fallen
fallen_with_mark trail mark number fallen has = record {
  no_open = λ entry inside is. has.no_open entry (left_open trail mark entry inside).0 is;
  lost = has.lost;
  members = has.members;
  mark = place_in_front trail (item.Mark mark ∷ []) fallen.mark (item.Mark (Rollback has.lost has.members)) has.mark;
  named = has.named;
}

fallen_by_mark : (trail : List Item) (lost : ℕ) (members : List ℕ) (number : ℕ) (fallen : Fallen) → fallen.mark ≡ length trail → has_member number members ≡ true
    → HasFallen (trail ++ item.Mark (Rollback lost members) ∷ []) number fallen
fallen_by_mark trail lost members number fallen place member = record {
  no_open = λ entry inside is.
      both_ways (has_member entry.who members) (not-true (has_member entry.who members) (left_open trail (Rollback lost members) entry inside).1)
      (ap (λ one. has_member one members) is ∙ member);
  lost = lost;
  members = members;
  mark = ap (slice_get (trail ++ item.Mark (Rollback lost members) ∷ [])) place ∙ place_at_end trail (item.Mark (Rollback lost members));
  named = member;
}

-- after a turn that keeps the others
pub marked_kept : (shared : Shared) (own : Own) (after : Shared) (own_after : Own) → TurnKeeps shared own after own_after
    → ((number : ℕ) (fallen : Fallen) → number ≢ own.who → HasFallen shared.trail number fallen → HasFallen after.trail number fallen)
    → EachFallenIsMarked shared → EachFallenIsMarked after
marked_kept shared own after own_after keeps trail marked number client fallen live fell =
    ⊎_elim
    (λ same.
    absurd (true≢false (ap is_some (sym fell ∙ sym (ap (of_client None (λ one. one.fallen)) live) ∙ ap (fallen_at after) same ∙ keeps.up))))
    (λ apart. trail number fallen apart (marked number client fallen (sym (keeps.others number apart) ∙ live) fell))
    (cases_eq number own.who)

pub fallen_recorded : (shared : Shared) (own : Own) (after : Shared) (own_after : Own) → Records shared own after own_after → (number : ℕ) (fallen : Fallen)
    → number ≢ own.who → HasFallen shared.trail number fallen → HasFallen after.trail number fallen
fallen_recorded shared own after own_after records number fallen apart has =
    subst (λ trail. HasFallen trail number fallen) (sym records.trail) (fallen_with_turn shared.trail own.who own.pending records.wants number fallen apart has)

-- after what is no turn of a client
marked_rolled_back : (shared : Shared) (lost : ℕ) → EachFallenIsMarked shared → EachFallenIsMarked (rolled_back shared lost)
marked_rolled_back shared lost marked number client fallen live fell = by_member (has_member number members) refl found.2
  where
    members : List ℕ
    members = association_of shared.trail lost

    change : ℕ → Client → Client
    change who one = cond (has_member who members) (fallen_behind shared.trail who one) one

    found : (before : Client) × (client_at shared number ≡ Some before) × (change number before ≡ client)
    found = changed_from (change number) (client_at shared number) client (sym (client_each change shared number) ∙ live)

    by_member : (member : Bool) → has_member number members ≡ member → cond member (fallen_behind shared.trail number found.0) found.0 ≡ client
        → HasFallen (rolled_back shared lost).trail number fallen
    by_member true e same =
        let is : Some (record { mark = length shared.trail; dropped = dropped_of shared.trail number; seen = live_entries shared.trail }) ≡ Some fallen =
        ap (λ (one : Client). one.fallen) same ∙ fell in
        fallen_by_mark shared.trail lost members number fallen (ap (λ place. (unwrap_or place fallen).mark) (sym is)) e
    by_member false e same =
        fallen_with_mark shared.trail (Rollback lost members) number fallen
        (marked number found.0 fallen found.1 (ap (λ (one : Client). one.fallen) same ∙ fell))

same_fallen : (asker : Bool) (kept : Kept) (before after : Client) → cond asker (record before { kept = Some kept }) before ≡ after → before.fallen ≡ after.fallen
same_fallen true kept before after same = ap (λ (one : Client). one.fallen) same
same_fallen false kept before after same = ap (λ (one : Client). one.fallen) same

had_fallen : (shared : Shared) (one : Stabilisation) (kept : Kept) → EachFallenIsMarked shared → (number : ℕ) (client : Client) (fallen : Fallen)
    → client_at (ended shared one kept) number ≡ Some client → client.fallen ≡ Some fallen → HasFallen shared.trail number fallen
had_fallen shared one kept marked number client fallen live fell =
    let change : ℕ → Client → Client = λ who other. cond (has_member who one.askers) (record other { kept = Some kept }) other in
    let found = changed_from (change number) (client_at shared number) client (sym (client_each change shared number) ∙ live) in
    marked number found.0 fallen found.1 (same_fallen (has_member number one.askers) kept found.0 client found.2 ∙ fell)

marked_ended : (shared : Shared) (one : Stabilisation) (kept : Kept) → EachFallenIsMarked shared → EachFallenIsMarked (ended shared one kept)
marked_ended shared one kept marked number client fallen live fell = had_fallen shared one kept marked number client fallen live fell

marked_committed : (shared : Shared) (one : Stabilisation) → EachFallenIsMarked shared → EachFallenIsMarked (committed shared one).shared
marked_committed shared one marked number client fallen live fell =
    fallen_with_mark shared.trail (Commit one.lead (members_in shared one)) number fallen (had_fallen shared one _ marked number client fallen live fell)

marked_lost : (shared : Shared) (who unrecorded : ℕ) (one : Option Stabilisation) → EachFallenIsMarked shared → EachFallenIsMarked (lost_in shared who unrecorded one).shared
marked_lost shared who unrecorded None marked = marked_rolled_back shared who marked
marked_lost shared who unrecorded (Some one) marked =
    cond_both (is_gathering one.phase) _ _ (λ (done : Changed Loss). EachFallenIsMarked done.shared) (λ gathering. marked_rolled_back shared who marked) (λ sealed. marked)

marked_lose_by : (shared : Shared) (who : ℕ) (fallen : Option Fallen) → EachFallenIsMarked shared → EachFallenIsMarked (lose_by shared who fallen).shared
marked_lose_by shared who (Some fallen) marked = marked
marked_lose_by shared who None marked = marked_lost shared who 0 (stabilisation_of shared who) marked

pub marked_lose : (shared : Shared) (who : ℕ) → EachFallenIsMarked shared → EachFallenIsMarked (lose shared who).shared
marked_lose shared who marked = marked_lose_by shared who (fallen_at shared who) marked

pub marked_vanished : (shared : Shared) (own : Own) (fallen : Option Fallen) → EachFallenIsMarked shared → EachFallenIsMarked (vanished_by shared own fallen).shared
marked_vanished shared own (Some fallen) marked = marked
marked_vanished shared own None marked = marked_lost shared own.who _ (stabilisation_of shared own.who) marked

marked_failed : (shared : Shared) (one : Stabilisation) (cause : Outcome) (noted : Option ℕ) → EachFallenIsMarked shared → EachFallenIsMarked (failed shared one cause noted).shared
marked_failed shared one cause None marked = marked_ended shared one _ marked
marked_failed shared one cause (Some lost) marked = marked_rolled_back shared lost marked

marked_finished : (shared : Shared) (one : Stabilisation) (how : Outcome) → EachFallenIsMarked shared → EachFallenIsMarked (finished_as shared one how).shared
marked_finished shared one (outcome.Ok version) marked = marked_committed shared one marked
marked_finished shared one (outcome.Full need free) marked = marked_failed shared one (outcome.Full need free) one.noted marked
marked_finished shared one outcome.Worn marked = marked_failed shared one outcome.Worn one.noted marked
marked_finished shared one outcome.Disk marked = marked_failed shared one outcome.Disk one.noted marked
marked_finished shared one outcome.Doubt marked = marked

marked_finished_by : (shared : Shared) (how : Outcome) (one : Option Stabilisation) → EachFallenIsMarked shared → EachFallenIsMarked (finished_by shared how one).shared
marked_finished_by shared how None marked = marked
marked_finished_by shared how (Some one) marked = marked_finished shared one how marked

pub marked_finish : (shared : Shared) (lead : ℕ) (how : Outcome) → EachFallenIsMarked shared → EachFallenIsMarked (finish shared lead how).shared
marked_finish shared lead how marked = marked_finished_by shared how (stabilisation_led_by shared lead) marked

marked_settled_by : (shared : Shared) (one : Option Stabilisation) → EachFallenIsMarked shared → EachFallenIsMarked (settled_by shared one).shared
marked_settled_by shared None marked = marked
marked_settled_by shared (Some one) marked = marked_committed shared one marked

pub marked_settled : (shared : Shared) → EachFallenIsMarked shared → EachFallenIsMarked (settled shared).shared
marked_settled shared marked = marked_settled_by shared (doubtful_of shared) marked
