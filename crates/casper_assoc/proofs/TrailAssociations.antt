use Rattle.std.proofs.Common.{◌≡◌, ◌≢◌, ◌<◌, ℕ, ◌+◌, Bool, true, false, cond, nat_eq, List, [], ◌∷◌, ◌++◌, Option, None, Some, option_map, count_by, set, length, replicate, take, get_or, eq-eqb, refl, sym, ap, ◌∙◌, subst, ⊎_elim, arith, append_assoc, append-nil, zero, suc}
use Rattle.std.specs.List.{find}
use Rattle.std.proofs.lemmas.Bool.{ne_eqb, eqb-true, cases_eq}
use Rattle.std.proofs.lemmas.List.{take_more, get_or-set_same, get_or-set_other, map-append}
use Rattle.casper_words.specs.declared.call.Call.{Call}
use Rattle.casper_words.specs.declared.page.Want.{Want}
use Rattle.casper_words.specs.Crew.{IsClient, has_member}
use Rattle.casper_trail.specs.declared.entry.Entry.{Entry}
use Rattle.casper_trail.specs.declared.item.Item.{Item}
use Rattle.casper_trail.specs.declared.item.Item.TheVariants as item
use Rattle.casper_trail.specs.Value.{writes_page}
use Rattle.casper_trail.specs.Fate.{members_of}
use Rattle.casper_trail.specs.Parts.{open_entries, as_items}
use Rattle.casper_trail.specs.Calls.{is_read_or_write, touch_by}
use Rattle.casper_trail.specs.Clients.{AreOfClients}
use Rattle.casper_trail.specs.Modified.{is_modified_by}
use Rattle.casper_trail.specs.Association.{association_of}
use Rattle.casper_trail.specs.GrowthLaws.{WritersAreWith}
use Rattle.casper_trail.proofs.CallLists.{clients_of_more}
use Rattle.casper_trail.proofs.Links.{client_at}
use Rattle.casper_assoc.specs.Labelling.{Labelling, label_of, clients_labelled, writer_of, page_label_of, is_writer, IsSound, AreAlone, MergesParts, DissolvesPart, UnlabelsPages}
use Rattle.casper_assoc.specs.TrailLabels.{AreLabelsOf, IsFreeOrOf, MergesWithPage, NotesCalls, named_by}
use Rattle.casper_assoc.specs.TrailAssociations.{AssociationsView, AreAssociationsOf, open_calls_of, PagesAreWithin, AreMembersOf, RecordsCalls, TouchesPage, TouchesEach, touches_by, DissolvesAssociation}
use Rattle.casper_assoc.specs.AssociationsLaws.{ModifiedByTheWriter, MembersLabelledTheModified}
use Rattle.casper_assoc.proofs.TrailParts.{found_in, no_open_write, together, first_of, writers_label, labels_at_the_start, entry_merges_parts, pages_of_a_part}
use Rattle.casper_assoc.proofs.TrailCalls.{calls_within_part}
use Rattle.casper_assoc.proofs.TrailMarks.{mark_dissolves_part, exact_members}
use Rattle.casper_assoc.proofs.WrittenLists.{within_some, listed_at}
use Rattle.casper_assoc.specs.Written.{AreWrittenBy}
use Rattle.casper_assoc.proofs.TrailCounts.{open_calls_after_calls, open_calls_after_touch, open_calls_after_mark}

none_at : (count place : ℕ) → get_or (replicate {A = ℕ} count 0) place 0 ≡ 0
none_at zero place = refl
none_at (suc count) zero = refl
none_at (suc count) (suc place) = none_at count place

-- the associations of the trail that begins
pub begun : (all : AssociationsView) → AreAlone all.labelling → ((page : ℕ) → writer_of all.labelling page ≡ None) → all.counts ≡ replicate 33 0
    → AreAssociationsOf all []
begun all own none zeros = record {
  labels = labels_at_the_start all.labelling own none;
  calls = λ who _. ap (λ (counts : List ℕ). get_or counts who 0) zeros ∙ none_at 33 who;
}

-- the clients with a label are the association of each of them
pub members_are : (all : AssociationsView) (who label : ℕ) (members : List ℕ) → IsClient who → label ≡ label_of all.labelling who
    → members ≡ clients_labelled all.labelling label → AreMembersOf all who members
members_are all who label members is same labelled items are =
    labelled ∙ ap (clients_labelled all.labelling) same ∙ are.labels.parts who is

-- a page whose open writes are of a client's association has no label or the client's
writer_is_with : (all : Labelling) (items : List Item) (who page : ℕ) → IsClient who → AreOfClients items → AreLabelsOf all items
    → WritersAreWith items page who → IsFreeOrOf (label_of all who) (page_label_of all page)
writer_is_with all items who page is clients labels with_them =
    subst (λ (o : Option ℕ). IsFreeOrOf (label_of all who) (option_map (label_of all) o)) (sym (labels.pages page))
    (go (find (writes_page page) (open_entries items)) refl)
  where
    go : (first : Option Entry) → find (writes_page page) (open_entries items) ≡ first
        → IsFreeOrOf (label_of all who) (option_map (label_of all) (option_map (λ (e : Entry). e.who) first))
    go None found = tt
    go (Some first) found =
        let one = found_in (writes_page page) (open_entries items) first found in
        eqb-true (label_of all first.who) (label_of all who)
        (sym (together all items who first.who labels is (client_at items first one.0.0 clients one.0.1 one.0.2)) ∙ with_them first one.0 one.1)

-- a count at one place of counts
count_at : (counts : List ℕ) (who client count : ℕ) → who < length counts
    → get_or (set counts who (get_or counts who 0 + count)) client 0 ≡ get_or counts client 0 + cond (nat_eq who client) count 0
count_at counts who client count within =
    ⊎_elim
    (λ (same : client ≡ who).
    let test : nat_eq who client ≡ true = eq-eqb who client (sym same) in
    rw test (ap (λ c. get_or (set counts who (get_or counts who 0 + count)) c 0) same
    ∙ get_or-set_same counts who (get_or counts who 0 + count) 0 within
    ∙ ap (λ c. get_or counts c 0 + count) (sym same)))
    (λ (differ : client ≢ who).
    let test : nat_eq who client ≡ false = ne_eqb who client (λ same. differ (sym same)) in
    rw test (get_or-set_other counts who client (get_or counts who 0 + count) 0 differ ∙ omega arith))
    (cases_eq client who)

recorded : (old new : AssociationsView) (who : ℕ) (calls : List Call) → IsClient who → who < length old.counts
    → NotesCalls old.labelling new.labelling who calls → new.labelling.labels ≡ old.labelling.labels
    → new.counts ≡ set old.counts who (open_calls_of old who + count_by (λ call. is_read_or_write call.op) calls)
    → RecordsCalls old new who calls
recorded old new who calls is within noted same counted items clients are with_them = record {
  labels = calls_within_part old.labelling new.labelling items who calls clients is are.labels
      (λ call inside. writer_is_with old.labelling items who call.page is clients are.labels (with_them call inside)) noted same;
  calls = λ client is_client.
      ap (λ (counts : List ℕ). get_or counts client 0) counted
      ∙ count_at old.counts who client (count_by (λ (call : Call). is_read_or_write call.op) calls) within
      ∙ ap (λ n. n + cond (nat_eq who client) (count_by (λ (call : Call). is_read_or_write call.op) calls) 0) (are.calls client is_client)
      ∙ sym (open_calls_after_calls items who client calls);
}

-- the same where the count is at the place of the client's number
pub recorded_at : (old new : AssociationsView) (who place counted : ℕ) (calls : List Call) → place ≡ who → IsClient place
    → length old.counts ≡ 33 → NotesCalls old.labelling new.labelling who calls → new.labelling.labels ≡ old.labelling.labels
    → counted ≡ count_by (λ call. is_read_or_write call.op) calls
    → new.counts ≡ set old.counts place (get_or old.counts place 0 + counted) → RecordsCalls old new who calls
recorded_at old new who place counted calls at is places noted same count set_there =
    recorded old new who calls (subst (λ w. IsClient w) at is) (omega (arith, places, at, is.1)) noted same
    (set_there ∙ ap (λ p. set old.counts p (get_or old.counts p 0 + counted)) at
    ∙ ap (λ n. set old.counts who (get_or old.counts who 0 + n)) count)

touched : (old new : AssociationsView) (who page : ℕ) → IsClient who
    → MergesWithPage old.labelling new.labelling who (page_label_of old.labelling page) → new.counts ≡ old.counts → TouchesPage old new who page
touched old new who page is merges same items clients are = record {
  labels = entry_merges_parts old.labelling new.labelling new.labelling items (touch_by who page) clients is are.labels merges refl;
  calls = λ client is_client.
      ap (λ (counts : List ℕ). get_or counts client 0) same ∙ are.calls client is_client
      ∙ sym (open_calls_after_touch items who page client);
}

-- a touch of a page with a label merges the two parts
pub touched_labelled : (old new : AssociationsView) (who page own label : ℕ) → IsClient who → own ≡ label_of old.labelling who
    → page_label_of old.labelling page ≡ Some label → MergesParts old.labelling new.labelling own label
    → new.labelling.writers ≡ old.labelling.writers → new.counts ≡ old.counts → TouchesPage old new who page
touched_labelled old new who page own label is mine at merges writers same =
    touched old new who page is
    (subst (λ (o : Option ℕ). MergesWithPage old.labelling new.labelling who o) (sym at)
    (subst (λ l. MergesParts old.labelling new.labelling l label) mine merges, writers)) same

-- and of any other page nothing
pub touched_free : (all : AssociationsView) (who page : ℕ) → IsClient who → page_label_of all.labelling page ≡ None → TouchesPage all all who page
touched_free all who page is at =
    touched all all who page is (subst (λ (o : Option ℕ). MergesWithPage all.labelling all.labelling who o) (sym at) refl) refl

clients_of_touches : (who : ℕ) (wants : List Want) → IsClient who → AreOfClients (as_items (touches_by who wants))
clients_of_touches who [] is = tt
clients_of_touches who (want ∷ wants) is = (is, clients_of_touches who wants is)

pub touched_none : (all : AssociationsView) (who : ℕ) → TouchesEach all all who []
touched_none all who items clients are = subst (λ (l : List Item). AreAssociationsOf all l) (sym (append-nil items)) are

touched_more : (old mid new : AssociationsView) (who : ℕ) (wants : List Want) (want : Want) → IsClient who → TouchesEach old mid who wants
    → TouchesPage mid new who want.page → TouchesEach old new who (wants ++ want ∷ [])
touched_more old mid new who wants want is before next items clients are =
    subst (λ (l : List Item). AreAssociationsOf new l) longer
    (next (items ++ as_items (touches_by who wants)) (clients_of_more items (as_items (touches_by who wants)) clients
    (clients_of_touches who wants is)) (before items clients are))
  where
    longer : (items ++ as_items (touches_by who wants)) ++ item.Entry (touch_by who want.page) ∷ []
        ≡ items ++ as_items (touches_by who (wants ++ want ∷ []))
    longer =
        append_assoc items (as_items (touches_by who wants)) (item.Entry (touch_by who want.page) ∷ [])
        ∙ ap (λ (l : List Item). items ++ l) (sym (map-append item.Entry (touches_by who wants) (touch_by who want.page ∷ [])))
        ∙ ap (λ (l : List Entry). items ++ as_items l) (sym (map-append (λ (w : Want). touch_by who w.page) wants (want ∷ [])))

-- one want more of a list
pub touched_next : (old mid new : AssociationsView) (who : ℕ) (wants : List Want) (i : ℕ) (want : Want) → i < length wants
    → want ≡ get_or wants i want → IsClient who → TouchesEach old mid who (take i wants) → TouchesPage mid new who want.page
    → TouchesEach old new who (take (i + 1) wants)
touched_next old mid new who wants i want within at is before next =
    subst (λ (l : List Want). TouchesEach old new who l)
    (sym (take_more wants i want within ∙ ap (λ (w : Want). take i wants ++ w ∷ []) (sym at)))
    (touched_more old mid new who (take i wants) want is before next)

pub dissolved : (old new : AssociationsView) (who label : ℕ) (members : List ℕ) → IsSound old.labelling → IsClient who
    → label ≡ label_of old.labelling who → members ≡ clients_labelled old.labelling label
    → DissolvesPart old.labelling new.labelling label → UnlabelsPages old.labelling new.labelling label
    → ((client : ℕ) → IsClient client → get_or new.counts client 0 ≡ cond (has_member client members) 0 (get_or old.counts client 0))
    → DissolvesAssociation old new who
dissolved old new who label members sound is same labelled dissolves unlabels counts items mark clients are exact named = record {
  labels = mark_dissolves_part old.labelling new.labelling items mark sound clients (subst (λ w. IsClient w) (sym named) is) exact are.labels
      (subst (λ l. DissolvesPart old.labelling new.labelling l) at_mark dissolves)
      (subst (λ l. UnlabelsPages old.labelling new.labelling l) at_mark unlabels);
  calls = λ client is_client.
      counts client is_client
      ∙ ap (λ (l : List ℕ). cond (has_member client l) 0 (get_or old.counts client 0)) of_mark
      ∙ ap (λ n. cond (has_member client (members_of mark)) 0 n) (are.calls client is_client)
      ∙ sym (open_calls_after_mark items mark client);
}
  where
    at_mark : label ≡ label_of old.labelling (named_by mark)
    at_mark = same ∙ ap (label_of old.labelling) (sym named)

    of_mark : members ≡ members_of mark
    of_mark = members_are old who label members is same labelled items are ∙ ap (association_of items) (sym named)
        ∙ sym (exact_members items mark exact)

-- the pages that a client labelled are pages of the store
pub written_within : (all : AssociationsView) (who : ℕ) (pages : List ℕ) → AreWrittenBy all.labelling.writers who pages → PagesAreWithin all pages
written_within all who pages written page inside =
    within_some all.labelling.writers page who ((written.exactly page).0 (listed_at pages inside.0 page inside.1 (sym inside.2)))

-- the client that labelled a page is a client
labelled_by_client : (all : Labelling) (items : List Item) (page who : ℕ) → AreOfClients items → AreLabelsOf all items
    → writer_of all page ≡ Some who → IsClient who
labelled_by_client all items page who clients labels at =
    let first = first_of items page who (find (writes_page page) (open_entries items)) refl (sym (labels.pages page) ∙ at) in
    let one = found_in (writes_page page) (open_entries items) first.0 first.1 in
    subst (λ w. IsClient w) first.2 (client_at items first.0 one.0.0 clients one.0.1 one.0.2)

pub modified_by_the_writer : ModifiedByTheWriter
modified_by_the_writer all items page write clients are inside writes = go (find (writes_page page) (open_entries items)) refl
  where
    go : (first : Option Entry) → find (writes_page page) (open_entries items) ≡ first
        → (who : ℕ) × (writer_of all.labelling page ≡ Some who) × (has_member write.who (association_of items who) ≡ true)
    go None found = absurd (no_open_write items page found write inside writes)
    go (Some first) found =
        let one = found_in (writes_page page) (open_entries items) first found in (
          first.who,
          are.labels.pages page ∙ ap (option_map (λ (e : Entry). e.who)) found,
          together all.labelling items first.who write.who are.labels (client_at items first one.0.0 clients one.0.1 one.0.2)
              (client_at items write inside.0 clients inside.1 inside.2)
              ∙ eq-eqb (label_of all.labelling write.who) (label_of all.labelling first.who)
              (writers_label all.labelling items page first write clients are.labels found inside writes),
        )

-- a page that passes has a writer that does
passing_writer : (test : ℕ → Bool) (writer : Option ℕ) → is_writer test writer ≡ true → (who : ℕ) × (writer ≡ Some who) × (test who ≡ true)
passing_writer test None passes = cc
passing_writer test (Some who) passes = (who, refl, passes)

pub members_labelled_the_modified : MembersLabelledTheModified
members_labelled_the_modified all items client page clients are is = (forward, back)
  where
    by_label : (who : ℕ) → writer_of all.labelling page ≡ Some who
        → has_member who (association_of items client) ≡ nat_eq (label_of all.labelling who) (label_of all.labelling client)
    by_label who at = together all.labelling items client who are.labels is
        (labelled_by_client all.labelling items page who clients are.labels at)

    forward : is_modified_by (association_of items client) items page ≡ true
        → (who : ℕ) × (has_member who (association_of items client) ≡ true) × (writer_of all.labelling page ≡ Some who)
    forward modified =
        let one = passing_writer (λ who. nat_eq (label_of all.labelling who) (label_of all.labelling client)) (writer_of all.labelling page)
        (sym (pages_of_a_part all.labelling items client page clients are.labels is) ∙ modified) in
        (one.0, by_label one.0 one.1 ∙ one.2, one.1)

    back : (who : ℕ) × (has_member who (association_of items client) ≡ true) × (writer_of all.labelling page ≡ Some who)
        → is_modified_by (association_of items client) items page ≡ true
    back one =
        pages_of_a_part all.labelling items client page clients are.labels is
        ∙ ap (is_writer (λ who. nat_eq (label_of all.labelling who) (label_of all.labelling client))) one.2
        ∙ sym (by_label one.0 one.2) ∙ one.1
