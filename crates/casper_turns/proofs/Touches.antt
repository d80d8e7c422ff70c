use Rattle.std.proofs.Common.{◌≡◌, ℕ, List, [], ◌∷◌, ◌++◌, true, false, ◌&&◌, Contains, sym, ap, ◌∙◌, subst, ⊎_elim, true≢false, append_assoc, append-nil}
use Rattle.std.specs.List.{list_any}
use Rattle.std.proofs.lemmas.Bool.{cases_Bool, and_parts, and_from, false_from_ne_true}
use Rattle.casper_words.specs.Crew.{IsClient, has_member}
use Rattle.casper_words.specs.declared.page.Want.{Want}
use Rattle.casper_words.specs.declared.page.Right.TheVariants as may
use Rattle.casper_trail.specs.declared.entry.Entry.{Entry}
use Rattle.casper_trail.specs.declared.item.Item.{Item}
use Rattle.casper_trail.specs.declared.item.Item.TheVariants as item
use Rattle.casper_trail.specs.Value.{writes_page}
use Rattle.casper_trail.specs.Parts.{as_items, open_entries}
use Rattle.casper_trail.specs.Calls.{entries_by, touch_by}
use Rattle.casper_trail.specs.Clients.{AreOfClients}
use Rattle.casper_trail.specs.Association.{association_of}
use Rattle.casper_trail.proofs.Parts.{open_of_more_entries}
use Rattle.casper_trail.proofs.Rounds.{association_of_a_member, association_holds_its_client}
use Rattle.casper_trail.proofs.Growth.{association_of_one_more, association_of_more_calls, others_stay_apart}
use Rattle.casper_trail.proofs.CallLists.{clients_of_more}
use Rattle.casper_trail.proofs.Links.{client_at as writer_is_client}
use Rattle.casper_trail.proofs.LinkLists.{contains_there}
use Rattle.casper_model.specs.Acquire.{touches_by}
use Rattle.casper_trail.specs.Modified.{is_modified_by}
use Rattle.casper_model.specs.LegalHistory.{right_for}
use Rattle.casper_turns.specs.Good.{MayRecord}
use Rattle.casper_model.specs.Own.{Own}
use Rattle.casper_model.proofs.HeldRights.{covers_read, allows_covered}
use Rattle.casper_model.proofs.Entries.{contains_append}
use Rattle.casper_turns.proofs.Lists.{contains_here, any_found, any_none, any_of}

-- who is no member of an association has none of its members in its own
pub not_member_back : (items : List Item) (lead who : ℕ) → IsClient who → has_member who (association_of items lead) ≡ false
    → has_member lead (association_of items who) ≡ false
not_member_back items lead who is out =
    false_from_ne_true (has_member lead (association_of items who))
    (λ found.
    true≢false
    (sym (association_holds_its_client items who is) ∙ sym (ap (has_member who) (association_of_a_member items who lead found)) ∙ out))

-- an open write of a page that an association has not modified is of no member
pub writer_is_out : (items : List Item) (members : List ℕ) (page : ℕ) (write : Entry) → is_modified_by members items page ≡ false
    → Contains (open_entries items) write → writes_page page write ≡ true → has_member write.who members ≡ false
writer_is_out items members page write clean inside writes =
    false_from_ne_true (has_member write.who members)
    (λ found.
    true≢false
    (sym (any_of (λ entry. writes_page page entry && has_member entry.who members) (open_entries items) write inside
    (and_from (writes_page page write) (has_member write.who members) writes found))
    ∙ clean))

-- a touch by a client outside of an association, on a page that it has not modified, leaves it
touch_leaves : (items : List Item) (who page lead : ℕ) → AreOfClients items → IsClient who → has_member who (association_of items lead) ≡ false
    → is_modified_by (association_of items lead) items page ≡ false
    → association_of (items ++ item.Entry (touch_by who page) ∷ []) lead ≡ association_of items lead
touch_leaves items who page lead clients is out clean =
    ⊎_elim
    (λ written.
    let found = any_found (writes_page page) (open_entries items) written in
    let writer : IsClient found.0.who = writer_is_client items found.0 found.1.0 clients found.1.1 found.1.2 in
    others_stay_apart items found.0 (touch_by who page) lead clients is found.1 found.2 (not_member_back items lead who is out)
    (not_member_back items lead found.0.who writer (writer_is_out items (association_of items lead) page found.0 clean found.1 found.2)))
    (λ unwritten.
    association_of_one_more items (touch_by who page) is
    (λ write inside writes. absurd (true≢false (sym (any_of (writes_page page) (open_entries items) write inside writes) ∙ unwritten))) lead)
    (cases_Bool (list_any (writes_page page) (open_entries items)))

-- so do touches by it
pub touches_leave : (items : List Item) (who : ℕ) (wants : List Want) (lead : ℕ) → AreOfClients items → IsClient who → has_member who (association_of items lead) ≡ false
    → ((want : Want) → Contains wants want → is_modified_by (association_of items lead) items want.page ≡ false)
    → association_of (items ++ as_items (touches_by who wants)) lead ≡ association_of items lead
touches_leave items who [] lead clients is out clean = ap (λ list. association_of list lead) (append-nil items)
touches_leave items who (want ∷ wants) lead clients is out clean =
    let next = items ++ item.Entry (touch_by who want.page) ∷ [] in
    let first : association_of next lead ≡ association_of items lead = touch_leaves items who want.page lead clients is out (clean want (contains_here want wants)) in
    ap (λ list. association_of list lead) (sym (append_assoc items (item.Entry (touch_by who want.page) ∷ []) (as_items (touches_by who wants))))
    ∙ touches_leave next who wants lead (clients_of_more items (item.Entry (touch_by who want.page) ∷ []) clients (is, tt)) is
    (ap (has_member who) first ∙ out)
    (λ other inside.
    any_none (λ entry. writes_page other.page entry && has_member entry.who (association_of next lead)) (open_entries next)
    (λ entry there both.
    let parts = and_parts (writes_page other.page entry) (has_member entry.who (association_of next lead)) both in
    ⊎_elim
    (λ old.
    true≢false
    (sym (sym (ap (has_member entry.who) first) ∙ parts.1)
    ∙ writer_is_out items (association_of items lead) other.page entry (clean other (contains_there want wants other inside)) old parts.0))
    (λ new. is_touch who want.page other.page entry new parts.0)
    (contains_append (open_entries items) (touch_by who want.page ∷ []) entry
    (subst (λ entries. Contains entries entry) (open_of_more_entries items (touch_by who want.page ∷ [])) there))))
    ∙ first
  where
    is_touch : (one page at : ℕ) (entry : Entry) → Contains (touch_by one page ∷ []) entry → writes_page at entry ≡ true → ⊥
    is_touch one page at entry inside writes =
        true≢false (sym (any_of (writes_page at) (touch_by one page ∷ []) entry inside writes))

-- the pending calls of a good client leave all associations
pub calls_leave : (items : List Item) (own : Own) → IsClient own.who → MayRecord items own → (client : ℕ)
    → association_of (items ++ as_items (entries_by own.who own.pending)) client ≡ association_of items client
calls_leave items own is good client =
    association_of_more_calls items own.who own.pending is
    (λ call inside. good.writers call.page (allows_covered own.held call.page (right_for call.op) may.Read (covers_read (right_for call.op)) (good.held call inside)))
    client
