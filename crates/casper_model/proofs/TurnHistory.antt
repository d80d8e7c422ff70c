use Rattle.std.proofs.Common.{◌≡◌, ◌⊎◌, ℕ, List, [], ◌∷◌, ◌++◌, true, Contains, refl, sym, ap, ◌∙◌, subst, inl, inr, ⊎_elim, true≢false, arith, append-nil, append_assoc}
use Rattle.std.specs.Prelude.{Option, None, Some}
use Rattle.std.specs.List.{list_any}
use Rattle.std.proofs.lemmas.Bool.{and_parts}
use Rattle.std.proofs.lemmas.List.{map-append}
use Rattle.casper_words.specs.Crew.{IsClient, has_member}
use Rattle.casper_words.specs.declared.call.Call.{Call}
use Rattle.casper_words.specs.declared.page.Right.TheVariants as may
use Rattle.casper_words.specs.declared.page.Want.{Want}
use Rattle.casper_trail.specs.declared.entry.Entry.{Entry}
use Rattle.casper_trail.specs.declared.item.Item.{Item}
use Rattle.casper_trail.specs.declared.item.Item.TheVariants as item
use Rattle.casper_trail.specs.Value.{writes_page}
use Rattle.casper_trail.specs.Parts.{as_items, open_entries, live_entries}
use Rattle.casper_trail.specs.Calls.{entries_by}
use Rattle.casper_trail.specs.Legal.{IsLegal, AreRightAfter}
use Rattle.casper_trail.specs.Clients.{AreOfClients}
use Rattle.casper_trail.specs.Association.{association_of}
use Rattle.casper_trail.specs.GrowthLaws.{WritersAreWith}
use Rattle.casper_trail.proofs.Rounds.{list_any_implies, association_holds_its_client}
use Rattle.casper_trail.proofs.Parts.{live_of_more_entries, open_of_more_entries}
use Rattle.casper_trail.proofs.InTurn.{legal_of_more_entries}
use Rattle.casper_trail.proofs.Pages.{right_joined}
use Rattle.casper_trail.proofs.CallLists.{clients_of_more, clients_of_calls}
use Rattle.casper_model.specs.declared.reply.Reply.{Reply}
use Rattle.casper_model.specs.declared.outcome.Kept.{Kept}
use Rattle.casper_model.specs.Held.{is_of, covers, allows, missing_of}
use Rattle.casper_model.specs.Stabilisation.{Stabilisation}
use Rattle.casper_model.specs.Shared.{Shared}
use Rattle.casper_model.specs.Own.{Own}
use Rattle.casper_model.specs.Both.{Both}
use Rattle.casper_model.specs.Frozen.{stabilisation_of}
use Rattle.casper_model.specs.Opening.{opened, given_up, begun, gathering_of, handed_in, handed_in_to, given_in_opening}
use Rattle.casper_model.specs.Acquire.{acquired_by, answered, touches_by}
use Rattle.casper_model.specs.Stabilise.{stabilised_by, stabilised, stabilised_in, kept_at}
use Rattle.casper_model.specs.Leave.{served_by, departed_by}
use Rattle.casper_model.specs.LegalHistory.{right_for, IsGoodNow}
use Rattle.casper_model.proofs.HeldRights.{passes, covers_read, allows_covered, lowered_allow_no_more}
use Rattle.casper_model.proofs.GrantedRights.{granted_allow}
use Rattle.casper_model.proofs.OpeningRights.{opened_allows_no_more}
use Rattle.casper_model.proofs.Additions.{trail_opened, who_opened}
use Rattle.casper_model.proofs.Entries.{contains_append, contains_left, contains_entry, added_by, writes_added, right_behind, writers_with_more, writers_with_touch}

-- what a turn of a client that is not fallen records: its pending calls, and touches of the pages that it did not hold
pub record Records (shared : Shared) (own : Own) (after : Shared) (own_after : Own) : Type 0 where
  pub wants : List Want
  pub trail : after.trail ≡ shared.trail ++ as_items (added_by own.who own.pending wants)
  pub who : own_after.who ≡ own.who
  pub pending : own_after.pending ≡ []
  pub pages : (page : ℕ) → allows own_after.held page may.Read ≡ true → (allows own.held page may.Read ≡ true) ⊎ (list_any (is_of page) wants ≡ true)

-- what another client's turn leaves of a client that is good
pub good_other : (base : List (List ℕ)) (trail : List Item) (own other : Own) (wants : List Want) → IsClient other.who → IsGoodNow base trail own
    → ((page : ℕ) → allows own.held page may.Write ≡ true → allows other.held page may.Read ≡ true → ⊥) → IsGoodNow base trail other
    → IsGoodNow base (trail ++ as_items (added_by own.who own.pending wants)) other
good_other base trail own other wants is acting apart good = record {
  held = good.held;
  right =
      subst (λ live. AreRightAfter base live (entries_by other.who other.pending)) (sym (live_of_more_entries trail added))
      (right_behind base (live_entries trail) added (entries_by other.who other.pending)
      (λ write entry there inside writes.
      let found = contains_entry other.who other.pending entry inside in
      let reads : allows other.held found.0.page may.Read ≡ true =
      allows_covered other.held found.0.page (right_for found.0.op) may.Read (covers_read (right_for found.0.op)) (good.held found.0 found.1) in
      apart entry.page (writes_added own.who own.held own.pending wants acting.held write entry.page there writes).1
      (subst (λ page. allows other.held page may.Read ≡ true) (ap (λ (e : Entry). e.page) found.2) reads))
      good.right);
  writers = λ page found.
      writers_with_more trail added page other.who is (good.writers page found)
      (λ entry inside writes. absurd (apart page (writes_added own.who own.held own.pending wants acting.held entry page inside writes).1 found));
}
  where
    added : List Entry
    added = added_by own.who own.pending wants

-- calls and touches stand one after the other
added_split : (trail : List Item) (who : ℕ) (calls : List Call) (wants : List Want)
    → trail ++ as_items (added_by who calls wants) ≡ trail ++ as_items (entries_by who calls) ++ as_items (touches_by who wants)
added_split trail who calls wants =
    ap (λ more. trail ++ more) (map-append item.Entry (entries_by who calls) (touches_by who wants))
    ∙ sym (append_assoc trail (as_items (entries_by who calls)) (as_items (touches_by who wants)))

-- and what its own turn leaves
pub good_own : (base : List (List ℕ)) (trail : List Item) (own own_after : Own) (wants : List Want) → IsClient own.who → AreOfClients trail
    → IsGoodNow base trail own → own_after.who ≡ own.who → own_after.pending ≡ []
    → ((page : ℕ) → allows own_after.held page may.Read ≡ true → (allows own.held page may.Read ≡ true) ⊎ (list_any (is_of page) wants ≡ true))
    → IsGoodNow base (trail ++ as_items (added_by own.who own.pending wants)) own_after
good_own base trail own own_after wants is clients good who pending pages = record {
  held = λ call inside. absurd (nothing_in call (subst (λ calls. Contains calls call) pending inside));
  right = subst (λ calls. AreRightAfter base (live_entries after) (entries_by own_after.who calls)) (sym pending) tt;
  writers = λ page found. subst (WritersAreWith after page) (sym who) (writers_of page (pages page found));
}
  where
    added : List Entry
    added = added_by own.who own.pending wants

    after : List Item
    after = trail ++ as_items added

    nothing_in : (call : Call) → Contains [] call → ⊥
    nothing_in call inside = omega (arith, inside.1)

    itself : (entry : Entry) (page : ℕ) → Contains added entry → writes_page page entry ≡ true → has_member entry.who (association_of after own.who) ≡ true
    itself entry page inside writes =
        ap (λ one. has_member one (association_of after own.who)) (writes_added own.who own.held own.pending wants good.held entry page inside writes).0
        ∙ association_holds_its_client after own.who is

    with_calls : List Item
    with_calls = trail ++ as_items (entries_by own.who own.pending)

    writers_of : (page : ℕ) → (allows own.held page may.Read ≡ true) ⊎ (list_any (is_of page) wants ≡ true) → WritersAreWith after page own.who
    writers_of page (inl had) write inside writes =
        writers_with_more trail added page own.who is (good.writers page had) (λ entry there is_write. itself entry page there is_write) write inside writes
    writers_of page (inr wanted) write inside writes =
        ⊎_elim
        (λ old.
        let before : Contains (open_entries with_calls) write =
        subst (λ entries. Contains entries write) (sym (open_of_more_entries trail (entries_by own.who own.pending)))
        (contains_left (open_entries trail) (entries_by own.who own.pending) write old) in
        ap (λ list. has_member write.who (association_of list own.who)) (added_split trail own.who own.pending wants)
        ∙ writers_with_touch with_calls own.who wants page is
        (clients_of_more trail (as_items (entries_by own.who own.pending)) clients (clients_of_calls own.who own.pending is)) wanted write before writes)
        (λ now. itself write page now writes)
        (contains_append (open_entries trail) added write (subst (λ entries. Contains entries write) (open_of_more_entries trail added) inside))

touches_right : (base : List (List ℕ)) (before : List Entry) (who : ℕ) (wants : List Want) → AreRightAfter base before (touches_by who wants)
touches_right base before who [] = tt
touches_right base before who (want ∷ wants) = (tt, touches_right base _ who wants)

-- a trail that is legal stays so
pub legal_recorded : (base : List (List ℕ)) (trail : List Item) (own : Own) (wants : List Want) → IsLegal base trail → IsGoodNow base trail own
    → IsLegal base (trail ++ as_items (added_by own.who own.pending wants))
legal_recorded base trail own wants legal good =
    (legal_of_more_entries base trail (added_by own.who own.pending wants)).1
    (legal, right_joined base (live_entries trail) (entries_by own.who own.pending) (touches_by own.who wants) good.right (touches_right base _ own.who wants))

-- what each turn records
pending_handed_in : (both : Both) (one : Option Stabilisation) → (handed_in_to both one).own.pending ≡ both.own.pending
pending_handed_in both None = refl
pending_handed_in both (Some one) = refl

pub pending_opened : (shared : Shared) (own : Own) → (opened shared own).own.pending ≡ []
pending_opened shared own = let both = given_up (begun shared own) in pending_handed_in both (gathering_of both.shared both.own.who)

no_touches : (trail : List Item) (who : ℕ) (calls : List Call) → trail ++ as_items (entries_by who calls) ≡ trail ++ as_items (added_by who calls [])
no_touches trail who calls = ap (λ entries. trail ++ as_items entries) (sym (append-nil (entries_by who calls)))

pub opened_records : (shared : Shared) (own : Own) → Records shared own (opened shared own).shared (opened shared own).own
opened_records shared own = record {
  wants = [];
  trail = trail_opened shared own ∙ no_touches shared.trail own.who own.pending;
  who = who_opened shared own;
  pending = pending_opened shared own;
  pages = λ page found. inl (opened_allows_no_more shared own page may.Read found);
}

-- the same with fewer pages
records_less : (shared : Shared) (own : Own) (after again : Shared) (own_after own_again : Own) → Records shared own after own_after → again.trail ≡ after.trail
    → own_again.who ≡ own_after.who → own_again.pending ≡ own_after.pending
    → ((page : ℕ) → allows own_again.held page may.Read ≡ true → allows own_after.held page may.Read ≡ true) → Records shared own again own_again
records_less shared own after again own_after own_again records trail who pending less = record {
  wants = records.wants;
  trail = trail ∙ records.trail;
  who = who ∙ records.who;
  pending = pending ∙ records.pending;
  pages = λ page found. records.pages page (less page found);
}

granted_records : (shared : Shared) (own : Own) (given : List ℕ) (wants : List Want)
    → Records shared own (answered (opened shared own) given wants (missing_of (opened shared own).own.held wants) None).shared
    (answered (opened shared own) given wants (missing_of (opened shared own).own.held wants) None).own
granted_records shared own given wants =
    let both = opened shared own in
    let missing = missing_of both.own.held wants in
    record {
      wants = missing;
      trail =
          ap (λ trail. trail ++ as_items (touches_by both.own.who missing)) (trail_opened shared own)
          ∙ ap (λ who. shared.trail ++ as_items (entries_by own.who own.pending) ++ as_items (touches_by who missing)) (who_opened shared own)
          ∙ sym (added_split shared.trail own.who own.pending missing);
      who = who_opened shared own;
      pending = pending_opened shared own;
      pages = λ page found.
          ⊎_elim
          (λ had. inl (opened_allows_no_more shared own page may.Read had))
          (λ new. inr (list_any_implies (passes page may.Read) (is_of page) (λ want both. (and_parts (is_of page want) (covers want.right may.Read) both).0) missing new))
          (granted_allow both.own.capacity wants both.own.held page may.Read found);
    }

answered_records : (shared : Shared) (own : Own) (given : List ℕ) (wants : List Want) (refusal : Option Reply)
    → Records shared own (answered (opened shared own) given wants (missing_of (opened shared own).own.held wants) refusal).shared
    (answered (opened shared own) given wants (missing_of (opened shared own).own.held wants) refusal).own
answered_records shared own given wants None = granted_records shared own given wants
answered_records shared own given wants (Some reply) =
    records_less shared own (opened shared own).shared _ (opened shared own).own (opened shared own).own (opened_records shared own) refl refl refl (λ page found. found)

pub acquire_records : (wants : List Want) (calls : ℕ) (shared : Shared) (own : Own)
    → Records shared own (acquired_by shared own wants calls None).shared (acquired_by shared own wants calls None).own
acquire_records wants calls shared own = answered_records shared own (given_in_opening shared own) wants _

pub serve_records : (shared : Shared) (own : Own) → Records shared own (served_by shared own None).shared (served_by shared own None).own
serve_records shared own = opened_records shared own

stabilised_in_records : (shared : Shared) (own : Own) (one : Option Stabilisation)
    → Records shared own (stabilised_in (opened shared own) one).shared (stabilised_in (opened shared own) one).own
stabilised_in_records shared own None =
    records_less shared own (opened shared own).shared _ (opened shared own).own (handed_in (opened shared own)).own (opened_records shared own) refl refl refl
    (λ page found. lowered_allow_no_more (opened shared own).own.held page may.Read found)
stabilised_in_records shared own (Some one) =
    records_less shared own (opened shared own).shared _ (opened shared own).own (opened shared own).own (opened_records shared own) refl refl refl (λ page found. found)

stabilised_records : (shared : Shared) (own : Own) (kept : Option Kept)
    → Records shared own (stabilised (opened shared own) kept).shared (stabilised (opened shared own) kept).own
stabilised_records shared own None = stabilised_in_records shared own (stabilisation_of (opened shared own).shared (opened shared own).own.who)
stabilised_records shared own (Some outcome) = opened_records shared own

pub stabilise_records : (shared : Shared) (own : Own) → Records shared own (stabilised_by shared own None).shared (stabilised_by shared own None).own
stabilise_records shared own = stabilised_records shared own (kept_at shared own.who)

pub depart_records : (shared : Shared) (own : Own) → Records shared own (departed_by shared own None).shared (departed_by shared own None).own
depart_records shared own =
    records_less shared own (opened shared own).shared _ (opened shared own).own (departed_by shared own None).own (opened_records shared own) refl refl
    (sym (pending_opened shared own)) (λ page found. absurd (true≢false (sym found)))
