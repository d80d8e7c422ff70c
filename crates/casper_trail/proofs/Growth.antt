use Rattle.std.proofs.Common.{◌≡◌, ◌⊎◌, ℕ, filter, List, [], ◌∷◌, ◌++◌, Bool, true, false, ◌&&◌, ◌||◌, ◌==◌, not, Contains, refl, ap, sym, ◌∙◌, subst, ⊎_elim, append_assoc, append-nil, zero, arith}
use Rattle.std.specs.List.{list_any}
use Rattle.std.proofs.lemmas.Bool.{cond-true, ne_eqb, or_cases, or_left, or_right, eq-eqb, eqb-true, and_parts, not-true, true≢false}
use Rattle.casper_words.specs.Crew.{IsClient, has_member, crew_of}
use Rattle.casper_words.proofs.CrewLemmas.{has_member_crew_of, IsCrew_crew_of, same_crew}
use Rattle.casper_trail.specs.declared.entry.Entry.{Entry}
use Rattle.casper_trail.specs.declared.mark.Mark.{Mark}
use Rattle.casper_trail.specs.declared.mark.Mark.TheVariants.{Commit, Rollback}
use Rattle.casper_trail.specs.declared.item.Item.{Item}
use Rattle.casper_trail.specs.declared.item.Item.TheVariants as item
use Rattle.casper_trail.specs.Value.{writes_page}
use Rattle.casper_trail.specs.Fate.{members_of}
use Rattle.casper_trail.specs.Parts.{open_entries, as_items}
use Rattle.casper_trail.specs.Clients.{AreOfClients}
use Rattle.casper_trail.specs.Association.{AreLinked, IsClosedUnderLinks, links_among, joins, association_of, alone}
use Rattle.casper_trail.specs.Marks.{IsExactMark}
use Rattle.casper_trail.specs.Calls.{entry_by, entries_by}
use Rattle.casper_trail.specs.GrowthLaws.{AssociationGrows, AloneWithoutEntries, AssociationOfOneMore, AssociationOfMoreCalls, AssociationsUnite, OthersStayApart, MembersAfterMark, OthersAfterMark}
use Rattle.casper_trail.proofs.Parts.{open_of_more_entries, open_after_mark}
use Rattle.casper_trail.proofs.Rounds.{association_is_a_crew, association_holds_its_client, association_of_a_member, association_closed, association_within, client_of_association, alone_is}
use Rattle.casper_trail.proofs.Links.{one_association_a_page, client_at, linked_together}
use Rattle.casper_trail.proofs.LinkLists.{contains_there, contains_push, links_push, links_grow, links_last, links_of_some, links_in_some}

same_bool : (a b : Bool) → (a ≡ true → b ≡ true) → (b ≡ true → a ≡ true) → a ≡ b
same_bool true b to from = sym (to refl)
same_bool false true to from = absurd (true≢false (sym (from refl)))
same_bool false false to from = refl

-- membership of an association is closed under links, whoever it is of
closed_any : (items : List Item) (client : ℕ) → IsClosedUnderLinks items (λ who. has_member who (association_of items client))
closed_any items client one other is_one is_other linked found =
    association_closed items client (client_of_association items client one found) one other is_one is_other linked found

-- an association is within another of the same client where that is closed under its links
within_closed : (items more : List Item) (client : ℕ) → IsClosedUnderLinks more (λ who. has_member who (association_of items client))
    → (who : ℕ) → has_member who (association_of more client) ≡ true → has_member who (association_of items client) ≡ true
within_closed items more client closed =
    association_within more client (λ who. has_member who (association_of items client)) closed (association_holds_its_client items client)

-- associations of one client that are closed under each other's links are equal
same_association : (items more : List Item) (client : ℕ) → IsClosedUnderLinks more (λ who. has_member who (association_of items client))
    → IsClosedUnderLinks items (λ who. has_member who (association_of more client)) → association_of more client ≡ association_of items client
same_association items more client closed closed' =
    same_crew (association_of more client) (association_of items client) (association_is_a_crew more client) (association_is_a_crew items client)
    (λ who _. same_bool (has_member who (association_of more client)) (has_member who (association_of items client))
    (within_closed items more client closed who) (within_closed more items client closed' who))

-- two members of one association are in the same associations
pub members_together : (items : List Item) (client one other : ℕ) → has_member one (association_of items other) ≡ true
    → has_member one (association_of items client) ≡ has_member other (association_of items client)
members_together items client one other found =
    let is : IsClient other = client_of_association items other one found in
    let same : association_of items one ≡ association_of items other = association_of_a_member items other one found in
    same_bool (has_member one (association_of items client)) (has_member other (association_of items client))
    (λ inside. ap (has_member other) (sym (association_of_a_member items client one inside) ∙ same) ∙ association_holds_its_client items other is)
    (λ inside. ap (has_member one) (sym (association_of_a_member items client other inside)) ∙ found)

-- links stay as an entry is added
linked_then : (items : List Item) (entry : Entry) (one other : ℕ) → AreLinked items one other → AreLinked (items ++ item.Entry entry ∷ []) one other
linked_then items entry one other linked =
    ap (λ entries. list_any (joins one other) (links_among entries)) (open_of_more_entries items (entry ∷ []))
    ∙ links_grow (joins one other) (open_entries items) (entry ∷ []) linked

-- a link with one more entry is old, or is of the entry and an open write on its page
linked_now : (items : List Item) (entry : Entry) (one other : ℕ) → AreLinked (items ++ item.Entry entry ∷ []) one other
    → AreLinked items one other ⊎ ((write : Entry) × Contains (open_entries items) write × (writes_page entry.page write ≡ true)
    × (joins one other (record { writer = write.who; user = entry.who }) ≡ true))
linked_now items entry one other linked =
    links_push (open_entries items) entry one other
    (sym (ap (λ entries. list_any (joins one other) (links_among entries)) (open_of_more_entries items (entry ∷ []))) ∙ linked)

-- a test is closed under the new links too where it gives the ends of each the same answer
closed_now : (items : List Item) (entry : Entry) (test : ℕ → Bool) → IsClosedUnderLinks items test
    → ((write : Entry) → Contains (open_entries items) write → writes_page entry.page write ≡ true → test write.who ≡ test entry.who)
    → IsClosedUnderLinks (items ++ item.Entry entry ∷ []) test
closed_now items entry test closed same one other is_one is_other linked holds =
    ⊎_elim
    (λ (old : AreLinked items one other). closed one other is_one is_other old holds)
    (λ (new : (write : Entry) × Contains (open_entries items) write × (writes_page entry.page write ≡ true)
    × (joins one other (record { writer = write.who; user = entry.who }) ≡ true)).
    across test one other new.0.who entry.who new.3 (same new.0 new.1 new.2) holds)
    (linked_now items entry one other linked)
  where
    across : (test : ℕ → Bool) (one other writer user : ℕ) → joins one other (record { writer = writer; user = user }) ≡ true → test writer ≡ test user
        → test one ≡ true → test other ≡ true
    across test one other writer user joined equal holds =
        ⊎_elim
        (λ first. let parts = and_parts (writer == one) (user == other) first in
        ap test (sym (eqb-true user other parts.1)) ∙ sym equal ∙ ap test (eqb-true writer one parts.0) ∙ holds)
        (λ second. let parts = and_parts (writer == other) (user == one) second in
        ap test (sym (eqb-true writer other parts.0)) ∙ equal ∙ ap test (eqb-true user one parts.1) ∙ holds)
        (or_cases ((writer == one) && (user == other)) ((writer == other) && (user == one)) joined)

closed_then : (items : List Item) (entry : Entry) (test : ℕ → Bool) → IsClosedUnderLinks (items ++ item.Entry entry ∷ []) test → IsClosedUnderLinks items test
closed_then items entry test closed one other is_one is_other linked holds = closed one other is_one is_other (linked_then items entry one other linked) holds

pub association_grows : AssociationGrows
association_grows items [] client who found = ap (λ list. has_member who (association_of list client)) (append-nil items) ∙ found
association_grows items (entry ∷ more) client who found =
    let next = items ++ item.Entry entry ∷ [] in
    ap (λ list. has_member who (association_of list client)) (sym (append_assoc items (item.Entry entry ∷ []) (as_items more)))
    ∙ association_grows next more client who
    (association_within items client (λ one. has_member one (association_of next client))
    (closed_then items entry (λ one. has_member one (association_of next client)) (closed_any next client))
    (association_holds_its_client next client) who found)

-- a client that is linked with none is alone
alone_unlinked : (items : List Item) (client : ℕ) → ((other : ℕ) → AreLinked items client other → ⊥) → association_of items client ≡ alone client
alone_unlinked items client unlinked =
    same_crew (association_of items client) (alone client) (association_is_a_crew items client) (IsCrew_crew_of (λ one. one == client))
    (λ who is_who. same_bool (has_member who (association_of items client)) (has_member who (alone client))
    (λ found. has_member_crew_of (λ one. one == client) who is_who
    ∙ association_within items client (λ one. one == client)
    (λ one other is_one is_other linked same. absurd (unlinked other (subst (λ w. AreLinked items w other) (eqb-true one client same) linked)))
    (λ _. eq-eqb client client refl) who found)
    (λ found. let is = alone_is client who found in
    ap (λ w. has_member w (association_of items client)) is.1 ∙ association_holds_its_client items client (subst IsClient is.1 is.0)))

filter_full : {X : Type 0} (test : X → Bool) (xs : List X) → ((x : X) → Contains xs x → test x ≡ true) → filter test xs ≡ xs
filter_full test [] pass = refl
filter_full {X} test (x ∷ xs) pass =
    cond-true (test x) (x ∷ filter test xs) (filter test xs) (pass x (zero, omega arith, refl))
    ∙ ap (λ (rest : List X). x ∷ rest) (filter_full test xs (λ one inside. pass one (contains_there x xs one inside)))

pub alone_without_entries : AloneWithoutEntries
alone_without_entries items client others =
    let test = λ (who : ℕ). not (who == client) in
    alone_unlinked items client
    (λ other linked.
    let parts = links_of_some test (open_entries items) client other
    (ap (λ entries. list_any (joins client other) (links_among entries))
    (filter_full (λ (entry : Entry). test entry.who) (open_entries items) (λ entry inside. ap not (ne_eqb entry.who client (others entry inside)))) ∙ linked) in
    true≢false (sym (eq-eqb client client refl) ∙ not-true (client == client) parts.1))

pub association_of_one_more : AssociationOfOneMore
association_of_one_more items entry is writers client =
    same_association items (items ++ item.Entry entry ∷ []) client
    (closed_now items entry (λ who. has_member who (association_of items client)) (closed_any items client)
    (λ write inside writes. members_together items client write.who entry.who (writers write inside writes)))
    (closed_then items entry (λ who. has_member who (association_of (items ++ item.Entry entry ∷ []) client)) (closed_any (items ++ item.Entry entry ∷ []) client))

pub association_of_more_calls : AssociationOfMoreCalls
association_of_more_calls items who [] is writers client = ap (λ list. association_of list client) (append-nil items)
association_of_more_calls items who (call ∷ calls) is writers client =
    let next = items ++ item.Entry (entry_by who call) ∷ [] in
    let first : (one : ℕ) → association_of next one ≡ association_of items one =
    association_of_one_more items (entry_by who call) is (writers call (zero, omega arith, refl)) in
    ap (λ list. association_of list client) (sym (append_assoc items (item.Entry (entry_by who call) ∷ []) (as_items (entries_by who calls))))
    ∙ association_of_more_calls next who calls is
    (λ later inside write open_now writes.
    ap (has_member write.who) (first who)
    ∙ ⊎_elim
    (λ (old : Contains (open_entries items) write). writers later (contains_there call calls later inside) write old writes)
    (λ (new : entry_by who call ≡ write). ap (λ (e : Entry). has_member e.who (association_of items who)) (sym new) ∙ association_holds_its_client items who is)
    (contains_push (open_entries items) (entry_by who call) write
    (subst (λ entries. Contains entries write) (open_of_more_entries items (entry_by who call ∷ [])) open_now)))
    client
    ∙ first client

module _ (items : List Item) (write entry : Entry) (clients : AreOfClients items) (is : IsClient entry.who)
    (inside : Contains (open_entries items) write) (writes : writes_page entry.page write ≡ true) where
  more : List Item
  more = items ++ item.Entry entry ∷ []

  united : ℕ → Bool
  united who = has_member who (association_of items entry.who) || has_member who (association_of items write.who)

  writer_is : IsClient write.who
  writer_is = client_at items write inside.0 clients inside.1 inside.2

  -- each open write of the page is of the one association
  with_writer : (other : Entry) → Contains (open_entries items) other → writes_page entry.page other ≡ true
      → has_member other.who (association_of items write.who) ≡ true
  with_writer other inside' writes' =
      ap (has_member other.who) (sym (one_association_a_page items entry.page other write clients inside' inside writes' writes))
      ∙ association_holds_its_client items other.who (client_at items other inside'.0 clients inside'.1 inside'.2)

  united_closed : IsClosedUnderLinks items united
  unfolding united
  united_closed one other is_one is_other linked holds =
      ⊎_elim
      (λ here. or_left (has_member other (association_of items entry.who)) (has_member other (association_of items write.who))
      (closed_any items entry.who one other is_one is_other linked here))
      (λ there. or_right (has_member other (association_of items entry.who)) (has_member other (association_of items write.who))
      (closed_any items write.who one other is_one is_other linked there))
      (or_cases (has_member one (association_of items entry.who)) (has_member one (association_of items write.who)) holds)

  entry_united : united entry.who ≡ true
  unfolding united
  entry_united = or_left (has_member entry.who (association_of items entry.who)) (has_member entry.who (association_of items write.who))
      (association_holds_its_client items entry.who is)

  linked_to_writer : AreLinked more write.who entry.who
  unfolding more
  linked_to_writer =
      ap (λ entries. list_any (joins write.who entry.who) (links_among entries)) (open_of_more_entries items (entry ∷ []))
      ∙ links_last (open_entries items) entry write inside writes

  into_united : (who : ℕ) → has_member who (association_of more entry.who) ≡ true → united who ≡ true
  unfolding more united
  into_united =
      association_within more entry.who united
      (closed_now items entry united united_closed
      (λ other inside' writes'. or_right (has_member other.who (association_of items entry.who)) (has_member other.who (association_of items write.who))
      (with_writer other inside' writes') ∙ sym entry_united))
      (λ _. entry_united)

  from_united : (who : ℕ) → united who ≡ true → has_member who (association_of more entry.who) ≡ true
  unfolding more united
  from_united who holds =
      let closed : IsClosedUnderLinks items (λ one. has_member one (association_of more entry.who)) =
      closed_then items entry (λ one. has_member one (association_of more entry.who)) (closed_any more entry.who) in
      let own : has_member entry.who (association_of more entry.who) ≡ true = association_holds_its_client more entry.who is in
      ⊎_elim
      (λ here. association_within items entry.who (λ one. has_member one (association_of more entry.who)) closed (λ _. own) who here)
      (λ there. association_within items write.who (λ one. has_member one (association_of more entry.who)) closed
      (λ _. linked_together more entry.who write.who entry.who writer_is is linked_to_writer ∙ own) who there)
      (or_cases (has_member who (association_of items entry.who)) (has_member who (association_of items write.who)) holds)

  unite : association_of more entry.who ≡ crew_of united
  unfolding more
  unite =
      same_crew (association_of more entry.who) (crew_of united) (association_is_a_crew more entry.who) (IsCrew_crew_of united)
      (λ who is_who. same_bool (has_member who (association_of more entry.who)) (has_member who (crew_of united))
      (λ found. has_member_crew_of united who is_who ∙ into_united who found)
      (λ found. from_united who (sym (has_member_crew_of united who is_who) ∙ found)))

  stay_apart : (client : ℕ) → has_member client (association_of items entry.who) ≡ false → has_member client (association_of items write.who) ≡ false
      → association_of more client ≡ association_of items client
  unfolding more
  stay_apart client apart apart' =
      let not_entry : has_member entry.who (association_of items client) ≡ true → ⊥ =
      λ found. true≢false (sym (ap (has_member client) (association_of_a_member items client entry.who found)
      ∙ association_holds_its_client items client (client_of_association items client entry.who found)) ∙ apart) in
      let not_writer : (other : Entry) → Contains (open_entries items) other → writes_page entry.page other ≡ true
      → has_member other.who (association_of items client) ≡ true → ⊥ =
      λ other inside' writes' found. true≢false
      (sym (ap (has_member client) (sym (association_of_a_member items write.who other.who (with_writer other inside' writes')) ∙ association_of_a_member items client other.who found)
      ∙ association_holds_its_client items client (client_of_association items client other.who found)) ∙ apart') in
      same_association items more client
      (closed_now items entry (λ who. has_member who (association_of items client)) (closed_any items client)
      (λ other inside' writes'. same_bool (has_member other.who (association_of items client)) (has_member entry.who (association_of items client))
      (λ found. absurd (not_writer other inside' writes' found)) (λ found. absurd (not_entry found))))
      (closed_then items entry (λ who. has_member who (association_of more client)) (closed_any more client))

pub associations_unite : AssociationsUnite
unfolding more united
associations_unite items write entry clients is inside writes = unite items write entry clients is inside writes

pub others_stay_apart : OthersStayApart
unfolding more
others_stay_apart items write entry client clients is inside writes apart apart' = stay_apart items write entry clients is inside writes client apart apart'

-- after a mark the links are those between clients that are no members
linked_after : (items : List Item) (mark : Mark) (one other : ℕ) → AreLinked (items ++ item.Mark mark ∷ []) one other
    → (AreLinked items one other) × (has_member one (members_of mark) ≡ false) × (has_member other (members_of mark) ≡ false)
linked_after items mark one other linked =
    let parts = links_of_some (λ who. not (has_member who (members_of mark))) (open_entries items) one other
    (sym (ap (λ entries. list_any (joins one other) (links_among entries)) (open_after_mark items mark)) ∙ linked) in
    (parts.0, not-true (has_member one (members_of mark)) parts.1, not-true (has_member other (members_of mark)) parts.2)

linked_still : (items : List Item) (mark : Mark) (one other : ℕ) → AreLinked items one other
    → has_member one (members_of mark) ≡ false → has_member other (members_of mark) ≡ false → AreLinked (items ++ item.Mark mark ∷ []) one other
linked_still items mark one other linked out out' =
    ap (λ entries. list_any (joins one other) (links_among entries)) (open_after_mark items mark)
    ∙ links_in_some (λ who. not (has_member who (members_of mark))) (open_entries items) one other (ap not out) (ap not out') linked

pub members_after_mark : MembersAfterMark
members_after_mark items mark client named =
    alone_unlinked (items ++ item.Mark mark ∷ []) client
    (λ other linked. true≢false (sym named ∙ (linked_after items mark client other linked).1))

-- of an exact mark's members and others no two are linked
apart_by_mark : (items : List Item) (mark : Mark) → IsExactMark items mark → (one other : ℕ) → IsClient one → IsClient other → AreLinked items one other
    → has_member one (members_of mark) ≡ has_member other (members_of mark)
apart_by_mark items (Commit lead members) exact one other is_one is_other linked =
    ap (has_member one) exact ∙ linked_together items lead one other is_one is_other linked ∙ sym (ap (has_member other) exact)
apart_by_mark items (Rollback lost members) exact one other is_one is_other linked =
    ap (has_member one) exact ∙ linked_together items lost one other is_one is_other linked ∙ sym (ap (has_member other) exact)

-- whether the clients of an association that is not the mark's are outside of the mark
outside_of_mark : (items : List Item) (mark : Mark) (client who : ℕ) → IsExactMark items mark → has_member client (members_of mark) ≡ false
    → has_member who (association_of items client) ≡ true → has_member who (members_of mark) ≡ false
outside_of_mark items (Commit lead members) client who exact out found =
    ap (has_member who) exact ∙ members_together items lead who client found ∙ sym (ap (has_member client) exact) ∙ out
outside_of_mark items (Rollback lost members) client who exact out found =
    ap (has_member who) exact ∙ members_together items lost who client found ∙ sym (ap (has_member client) exact) ∙ out

pub others_after_mark : OthersAfterMark
others_after_mark items mark client exact out =
    let more = items ++ item.Mark mark ∷ [] in
    let closed : IsClosedUnderLinks more (λ who. has_member who (association_of items client)) =
    λ one other is_one is_other linked found. closed_any items client one other is_one is_other (linked_after items mark one other linked).0 found in
    same_association items more client closed
    (λ one other is_one is_other linked found.
    let outside : has_member one (members_of mark) ≡ false = outside_of_mark items mark client one exact out (within_closed items more client closed one found) in
    closed_any more client one other is_one is_other
    (linked_still items mark one other linked outside (sym (apart_by_mark items mark exact one other is_one is_other linked) ∙ outside)) found)
