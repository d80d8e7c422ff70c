use Rattle.std.proofs.Common.{◌≡◌, ◌⊎◌, ◌<◌, ℕ, zero, suc, List, [], ◌∷◌, ◌++◌, Bool, true, false, ◌&&◌, ◌||◌, ◌==◌, filter, length, slice_index_or, Contains, refl, ap, sym, ◌∙◌, subst, ⊎_elim, inl, inr, arith, append-nil, append_assoc, le_of_suc-le-suc, true≢false}
use Rattle.std.proofs.lemmas.Bool.{and_parts, eqb-true, false_from_ne_true, cond-false}
use Rattle.std.specs.List.{list_any}
use Rattle.casper_words.specs.Crew.{IsClient, has_member}
use Rattle.casper_words.specs.declared.call.Op.{Op}
use Rattle.casper_words.specs.declared.call.Op.TheVariants as op
use Rattle.casper_words.specs.declared.call.Call.{Call}
use Rattle.casper_words.specs.declared.page.Right.TheVariants as may
use Rattle.casper_words.specs.declared.page.Want.{Want}
use Rattle.casper_trail.specs.declared.entry.Entry.{Entry}
use Rattle.casper_trail.specs.declared.item.Item.{Item}
use Rattle.casper_trail.specs.declared.item.Item.TheVariants as item
use Rattle.casper_trail.specs.Value.{writes_page, is_write}
use Rattle.casper_trail.specs.Parts.{as_items, open_entries}
use Rattle.casper_trail.specs.Calls.{entry_by, entries_by, touch_by}
use Rattle.casper_trail.specs.Legal.{AreRightAfter}
use Rattle.casper_trail.specs.Clients.{AreOfClients}
use Rattle.casper_trail.specs.Association.{IsClosedUnderLinks, AreLinked, joins, links_among, association_of}
use Rattle.casper_trail.specs.GrowthLaws.{WritersAreWith}
use Rattle.casper_trail.proofs.LinkLists.{contains_there, links_grow, links_last}
use Rattle.casper_trail.proofs.Links.{client_at as writer_is_client}
use Rattle.casper_trail.proofs.Parts.{open_of_more_entries}
use Rattle.casper_trail.proofs.Pages.{filter_append, right_by_same_writes}
use Rattle.casper_trail.proofs.Rounds.{association_within, association_closed, association_holds_its_client, association_of_linked}
use Rattle.casper_trail.proofs.CallLists.{clients_of_more}
use Rattle.casper_model.specs.Held.{is_of, allows}
use Rattle.casper_model.specs.Acquire.{touches_by}
use Rattle.casper_model.specs.LegalHistory.{right_for, CallIsHeld}

-- what a list contains that begins with an element
pub contains_cases : {X : Type 0} (first : X) (xs : List X) (x : X) → Contains (first ∷ xs) x → (first ≡ x) ⊎ Contains xs x
contains_cases {X} first xs x inside = at inside.0 inside.1 inside.2
  where
    at : (k : ℕ) → k < suc (length xs) → slice_index_or (first ∷ xs) k x ≡ x → (first ≡ x) ⊎ Contains xs x
    at zero below is = inl is
    at (suc k) below is = inr (k, le_of_suc-le-suc below, is)

pub contains_append : {X : Type 0} (xs ys : List X) (x : X) → Contains (xs ++ ys) x → Contains xs x ⊎ Contains ys x
contains_append [] ys x inside = inr inside
contains_append (first ∷ xs) ys x inside =
    ⊎_elim (λ is. inl (zero, omega arith, is))
    (λ later. ⊎_elim (λ left. inl (contains_there first xs x left)) inr (contains_append xs ys x later))
    (contains_cases first (xs ++ ys) x inside)

pub contains_left : {X : Type 0} (xs ys : List X) (x : X) → Contains xs x → Contains (xs ++ ys) x
contains_left [] ys x inside = absurd (omega (arith, inside.1))
contains_left (first ∷ xs) ys x inside =
    ⊎_elim (λ is. (zero, omega arith, is)) (λ later. contains_there first (xs ++ ys) x (contains_left xs ys x later)) (contains_cases first xs x inside)

-- what calls are recorded as
pub contains_entry : (who : ℕ) (calls : List Call) (entry : Entry) → Contains (entries_by who calls) entry → (call : Call) × Contains calls call × (entry_by who call ≡ entry)
contains_entry who [] entry inside = absurd (omega (arith, inside.1))
contains_entry who (call ∷ calls) entry inside =
    ⊎_elim (λ is. (call, (zero, omega arith, refl), is))
    (λ later. let found = contains_entry who calls entry later in (found.0, contains_there call calls found.0 found.1, found.2))
    (contains_cases (entry_by who call) (entries_by who calls) entry inside)

-- what a turn records: calls of a client, and touches by it
abbrev pub added_by : ℕ → List Call → List Want → List Entry
added_by who calls wants = entries_by who calls ++ touches_by who wants

touch_writes_not : (who : ℕ) (wants : List Want) (entry : Entry) (page : ℕ) → Contains (touches_by who wants) entry → writes_page page entry ≡ true → ⊥
touch_writes_not who [] entry page inside writes = omega (arith, inside.1)
touch_writes_not who (want ∷ wants) entry page inside writes =
    ⊎_elim (λ is. true≢false (sym writes ∙ ap (writes_page page) (sym is))) (λ later. touch_writes_not who wants entry page later writes)
    (contains_cases (touch_by who want.page) (touches_by who wants) entry inside)

call_writes : (held : List Want) (call : Call) (page : ℕ) → CallIsHeld held call → (is_write call.op && (call.page == page)) ≡ true → allows held page may.Write ≡ true
call_writes held call page is writes = by_op call.op refl
  where
    same : call.page ≡ page
    same = eqb-true call.page page (and_parts (is_write call.op) (call.page == page) writes).1

    by_op : (act : Op) → call.op ≡ act → allows held page may.Write ≡ true
    by_op op.Read e = absurd (true≢false (sym (and_parts (is_write call.op) (call.page == page) writes).0 ∙ ap is_write e))
    by_op op.Write e = subst (λ at. allows held at may.Write ≡ true) same (ap (λ act. allows held call.page (right_for act)) (sym e) ∙ is)
    by_op op.Touch e = absurd (true≢false (sym (and_parts (is_write call.op) (call.page == page) writes).0 ∙ ap is_write e))

-- the writes among what a turn records are of its client, on pages that it may write
pub writes_added : (who : ℕ) (held : List Want) (calls : List Call) (wants : List Want) → ((call : Call) → Contains calls call → CallIsHeld held call)
    → (entry : Entry) (page : ℕ) → Contains (added_by who calls wants) entry → writes_page page entry ≡ true
    → (entry.who ≡ who) × (allows held page may.Write ≡ true)
writes_added who held calls wants are entry page inside writes =
    ⊎_elim
    (λ one.
    let found = contains_entry who calls entry one in
    let as_call = ap (writes_page page) found.2 ∙ writes in
    (ap (λ (e : Entry). e.who) (sym found.2), call_writes held found.0 page (are found.0 found.1) as_call))
    (λ touch. absurd (touch_writes_not who wants entry page touch writes))
    (contains_append (entries_by who calls) (touches_by who wants) entry inside)

filter_none : {X : Type 0} (test : X → Bool) (xs : List X) → ((x : X) → Contains xs x → test x ≡ false) → filter test xs ≡ []
filter_none test [] fails = refl
filter_none test (x ∷ xs) fails =
    cond-false (test x) (x ∷ filter test xs) (filter test xs) (fails x (zero, omega arith, refl))
    ∙ filter_none test xs (λ one inside. fails one (contains_there x xs one inside))

-- calls that are right stay right after entries that write none of their pages
pub right_behind : (base : List (List ℕ)) (before between entries : List Entry)
    → ((write entry : Entry) → Contains between write → Contains entries entry → writes_page entry.page write ≡ true → ⊥)
    → AreRightAfter base before entries → AreRightAfter base (before ++ between) entries
right_behind base before between entries apart =
    right_by_same_writes base before (before ++ between) entries
    (λ entry inside.
    sym (filter_append (writes_page entry.page) before between
    ∙ ap (λ back. filter (writes_page entry.page) before ++ back)
    (filter_none (writes_page entry.page) between (λ write there. false_from_ne_true (writes_page entry.page write) (apart write entry there inside)))
    ∙ append-nil (filter (writes_page entry.page) before)))

-- associations only grow by entries
pub association_with_more : (items : List Item) (more : List Entry) (client : ℕ) → IsClient client → (who : ℕ) → has_member who (association_of items client) ≡ true
    → has_member who (association_of (items ++ as_items more) client) ≡ true
association_with_more items more client is who found =
    association_within items client (λ one. has_member one (association_of (items ++ as_items more) client)) closed
    (λ also. association_holds_its_client (items ++ as_items more) client also) who found
  where
    linked : (one other : ℕ) → AreLinked items one other → AreLinked (items ++ as_items more) one other
    linked one other links =
        ap (λ entries. list_any (joins one other) (links_among entries)) (open_of_more_entries items more)
        ∙ links_grow (joins one other) (open_entries items) more links

    closed : IsClosedUnderLinks items (λ one. has_member one (association_of (items ++ as_items more) client))
    closed one other is_one is_other links = association_closed (items ++ as_items more) client is one other is_one is_other (linked one other links)

-- the open writes of a page are still of the association after entries whose writes of it are
pub writers_with_more : (items : List Item) (more : List Entry) (page client : ℕ) → IsClient client → WritersAreWith items page client
    → ((entry : Entry) → Contains more entry → writes_page page entry ≡ true → has_member entry.who (association_of (items ++ as_items more) client) ≡ true)
    → WritersAreWith (items ++ as_items more) page client
writers_with_more items more page client is before new write inside writes =
    ⊎_elim
    (λ old. association_with_more items more client is write.who (before write old writes))
    (λ now. new write now writes)
    (contains_append (open_entries items) more write (subst (λ entries. Contains entries write) (open_of_more_entries items more) inside))

-- a client that touches a page is with the writers of its open writes
pub writers_with_touch : (items : List Item) (who : ℕ) (wants : List Want) (page : ℕ) → IsClient who → AreOfClients items → list_any (is_of page) wants ≡ true
    → (write : Entry) → Contains (open_entries items) write → writes_page page write ≡ true
    → has_member write.who (association_of (items ++ as_items (touches_by who wants)) who) ≡ true
writers_with_touch items who [] page is clients found write inside writes = absurd (true≢false (sym found))
writers_with_touch items who (want ∷ wants) page is clients found write inside writes =
    ap (λ list. has_member write.who (association_of list who)) (sym (append_assoc items (item.Entry (touch_by who want.page) ∷ []) (as_items (touches_by who wants))))
    ∙ by_first (is_of page want) refl
    (λ clients' rest inside'. writers_with_touch (items ++ item.Entry (touch_by who want.page) ∷ []) who wants page is clients' rest write inside' writes)
  where
    next : List Item
    next = items ++ item.Entry (touch_by who want.page) ∷ []

    opened : open_entries next ≡ open_entries items ++ touch_by who want.page ∷ []
    opened = open_of_more_entries items (touch_by who want.page ∷ [])

    writer : IsClient write.who
    writer = writer_is_client items write inside.0 clients inside.1 inside.2

    by_first : (first : Bool) → is_of page want ≡ first
        → (AreOfClients next → list_any (is_of page) wants ≡ true → Contains (open_entries next) write
        → has_member write.who (association_of (next ++ as_items (touches_by who wants)) who) ≡ true)
        → has_member write.who (association_of (next ++ as_items (touches_by who wants)) who) ≡ true
    by_first true e later =
        let same : want.page ≡ page = eqb-true want.page page e in
        let linked : AreLinked next write.who who =
        ap (λ entries. list_any (joins write.who who) (links_among entries)) opened
        ∙ links_last (open_entries items) (touch_by who want.page) write inside (subst (λ at. writes_page at write ≡ true) (sym same) writes) in
        let one : association_of next write.who ≡ association_of next who = association_of_linked next write.who who writer is linked in
        association_with_more next (touches_by who wants) who is write.who
        (ap (has_member write.who) (sym one) ∙ association_holds_its_client next write.who writer)
    by_first false e later =
        later (clients_of_more items (item.Entry (touch_by who want.page) ∷ []) clients (is, tt))
        (ap (λ first. first || list_any (is_of page) wants) (sym e) ∙ found)
        (subst (λ entries. Contains entries write) (sym opened) (contains_left (open_entries items) (touch_by who want.page ∷ []) write inside))
