use Rattle.std.proofs.Common.{◌≡◌, ℕ, zero, List, [], ◌∷◌, ◌++◌, Bool, false, filter, Contains, refl, ap, sym, ◌∙◌, append-nil, arith}
use Rattle.std.proofs.lemmas.Bool.{cond-false}
use Rattle.casper_trail.specs.declared.entry.Entry.{Entry}
use Rattle.casper_trail.specs.Value.{writes_page}
use Rattle.casper_trail.specs.Parts.{live_entries}
use Rattle.casper_trail.specs.Legal.{AreRightAfter}
use Rattle.casper_trail.specs.Calls.{entries_by, Pending, pending_entries}
use Rattle.casper_trail.specs.WholeLaws.{WriteNoPageOf, WritesNoPageOfEach, ArePendingApart, ArePendingRight, WholeIsLegal}
use Rattle.casper_trail.proofs.LinkLists.{contains_there}
use Rattle.casper_trail.proofs.InTurn.{legal_of_more_entries}
use Rattle.casper_trail.proofs.Pages.{filter_append, right_joined, right_by_same_writes}

-- a filter that no element passes
filter_empty : {X : Type 0} (test : X → Bool) (xs : List X) → ((x : X) → Contains xs x → test x ≡ false) → filter test xs ≡ []
filter_empty test [] fails = refl
filter_empty test (x ∷ xs) fails =
    cond-false (test x) (x ∷ filter test xs) (filter test xs) (fails x (zero, omega arith, refl))
    ∙ filter_empty test xs (λ one inside. fails one (contains_there x xs one inside))

-- entries that are right after some stay right after more that write none of their pages
right_elsewhere : (base : List (List ℕ)) (before between entries : List Entry) → WriteNoPageOf between entries
    → AreRightAfter base before entries → AreRightAfter base (before ++ between) entries
right_elsewhere base before between entries elsewhere =
    right_by_same_writes base before (before ++ between) entries
    (λ entry inside. sym (filter_append (writes_page entry.page) before between
    ∙ ap (λ back. filter (writes_page entry.page) before ++ back) (filter_empty (writes_page entry.page) between (λ write inside'. elsewhere write entry inside' inside))
    ∙ append-nil (filter (writes_page entry.page) before)))

pending_still_right : (base : List (List ℕ)) (entries : List Entry) (own : Pending) (others : List Pending) → WritesNoPageOfEach own others
    → ArePendingRight base entries others → ArePendingRight base (entries ++ entries_by own.who own.calls) others
pending_still_right base entries own [] apart right = tt
pending_still_right base entries own (other ∷ others) apart right = (
  right_elsewhere base entries (entries_by own.who own.calls) (entries_by other.who other.calls) apart.0 right.0,
  pending_still_right base entries own others apart.1 right.1,
)

pending_right : (base : List (List ℕ)) (entries : List Entry) (pending : List Pending) → ArePendingRight base entries pending → ArePendingApart pending
    → AreRightAfter base entries (pending_entries pending)
pending_right base entries [] right apart = tt
pending_right base entries (own ∷ others) right apart =
    right_joined base entries (entries_by own.who own.calls) (pending_entries others) right.0
    (pending_right base (entries ++ entries_by own.who own.calls) others (pending_still_right base entries own others apart.0 right.1) apart.1)

pub whole_is_legal : WholeIsLegal
whole_is_legal base items pending legal right apart =
    (legal_of_more_entries base items (pending_entries pending)).1 (legal, pending_right base (live_entries items) pending right apart)
