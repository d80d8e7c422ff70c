use Rattle.std.proofs.Common.{◌≡◌, ℕ, zero, Bool, true, false, ◌&&◌, ◌||◌, cond, nat_eq, List, [], ◌∷◌, ◌++◌, Contains, Option, None, Some, option_map, is_some, get_or, eq-eqb, refl, sym, ap, ◌∙◌, subst, ⊎_elim, arith}
use Rattle.std.specs.List.{list_any, find}
use Rattle.std.specs.Option.{option_or}
use Rattle.std.proofs.lemmas.List.Folds.{find-append}
use Rattle.std.proofs.lemmas.Bool.{ne_eqb, eqb-true, eqb-false, cases_Bool, or_parts, and_parts, true≢false}
use Rattle.casper_words.specs.Crew.{IsClient, has_member, crew_of}
use Rattle.casper_words.proofs.CrewLemmas.{crew_of_same, has_member_crew_of}
use Rattle.casper_trail.specs.declared.entry.Entry.{Entry}
use Rattle.casper_trail.specs.declared.item.Item.{Item}
use Rattle.casper_trail.specs.declared.item.Item.TheVariants as item
use Rattle.casper_trail.specs.Value.{is_write, writes_page}
use Rattle.casper_trail.specs.Parts.{open_entries}
use Rattle.casper_trail.specs.Modified.{is_modified_by}
use Rattle.casper_trail.specs.Clients.{AreOfClients}
use Rattle.casper_trail.specs.Association.{association_of}
use Rattle.casper_trail.specs.GrowthLaws.{WritersAreWith}
use Rattle.casper_trail.proofs.LinkLists.{contains_there}
use Rattle.casper_trail.proofs.Parts.{open_of_more_entries}
use Rattle.casper_trail.proofs.Pages.{some_passes, unmodified_page, page_of_others, page_of_association}
use Rattle.casper_trail.proofs.Rounds.{association_holds_its_client, association_of_a_member}
use Rattle.casper_trail.proofs.Links.{client_at, one_association_a_page}
use Rattle.casper_trail.proofs.Growth.{alone_without_entries, association_of_one_more, associations_unite, others_stay_apart as others_of_the_trail}
use Rattle.casper_assoc.specs.Labelling.{Labelling, label_of, clients_labelled, writer_of, page_label_of, is_writer, MergesParts}
use Rattle.casper_assoc.specs.TrailLabels.{first_writer, AreLabelsOf, ModifiedPagesAreLabelled, WritersHaveThePagesLabel, PagesOfAPart, LabelsAtTheStart, MergesWithPage, NotesEntry, EntryMergesParts, IsFreeOrOf, EntryWithinPart}
use Rattle.casper_assoc.proofs.PartsOfClients.{member_is, merged_part, others_stay_apart}

-- what is found is in the list and passes
pub found_in : {X : Type 0} (test : X → Bool) (xs : List X) (x : X) → find test xs ≡ Some x → Contains xs x × (test x ≡ true)
found_in test [] x found = cc
found_in {X} test (y ∷ ys) x found =
    ⊎_elim
    (λ (here : test y ≡ true).
    let first : Some y ≡ Some x = rw here at found in
    let same : y ≡ x = cc in
    ((zero, omega arith, same), subst (λ z. test z ≡ true) same here))
    (λ (there : test y ≡ false).
    let later : find test ys ≡ Some x = rw there at found in
    let rest = found_in test ys x later in
    (contains_there y ys x rest.0, rest.1))
    (cases_Bool (test y))

pub is_some_find : {X : Type 0} (test : X → Bool) (xs : List X) → is_some (find test xs) ≡ list_any test xs
is_some_find test [] = refl
is_some_find test (x ∷ xs) =
    ⊎_elim
    (λ (here : test x ≡ true). rw here refl)
    (λ (there : test x ≡ false). rw there (is_some_find test xs))
    (cases_Bool (test x))

-- where no open write of a page is found, there is none
pub no_open_write : (items : List Item) (page : ℕ) → find (writes_page page) (open_entries items) ≡ None → (write : Entry)
    → Contains (open_entries items) write
    → writes_page page write ≡ true → ⊥
no_open_write items page none =
    unmodified_page items page (sym (is_some_find (writes_page page) (open_entries items)) ∙ ap (λ (o : Option Entry). is_some o) none)

is_some_map : {X Y : Type 0} (f : X → Y) (o : Option X) → is_some (option_map f o) ≡ is_some o
is_some_map f None = refl
is_some_map f (Some x) = refl

pub modified_pages_are_labelled : ModifiedPagesAreLabelled
modified_pages_are_labelled all items page labels =
    is_some_map (label_of all) (writer_of all page)
    ∙ ap (λ (o : Option ℕ). is_some o) (labels.pages page)
    ∙ is_some_map (λ (write : Entry). write.who) (find (writes_page page) (open_entries items))
    ∙ is_some_find (writes_page page) (open_entries items)

-- whether clients are together, by their labels
pub together : (all : Labelling) (items : List Item) (client other : ℕ) → AreLabelsOf all items → IsClient client → IsClient other
    → has_member other (association_of items client) ≡ nat_eq (label_of all other) (label_of all client)
together all items client other labels is is_other =
    ap (has_member other) (sym (labels.parts client is)) ∙ member_is all (label_of all client) other is_other

-- clients of one association have one label
pub one_label : (all : Labelling) (items : List Item) (one other : ℕ) → AreLabelsOf all items → IsClient one → IsClient other
    → association_of items one ≡ association_of items other → label_of all one ≡ label_of all other
one_label all items one other labels is is_other same =
    eqb-true (label_of all one) (label_of all other)
    (sym (together all items other one labels is_other is) ∙ ap (has_member one) (sym same) ∙ association_holds_its_client items one is)

-- the first open write of a page that a client labelled
pub first_of : (items : List Item) (page who : ℕ) (first : Option Entry) → find (writes_page page) (open_entries items) ≡ first
    → option_map (λ write. write.who) first ≡ Some who
    → (write : Entry) × (find (writes_page page) (open_entries items) ≡ Some write) × (write.who ≡ who)
first_of items page who None found is = cc
first_of items page who (Some write) found is = (write, found, cc)

-- each open write of a page is of a client with the label of the first
pub writers_label : (all : Labelling) (items : List Item) (page : ℕ) (first write : Entry) → AreOfClients items → AreLabelsOf all items
    → find (writes_page page) (open_entries items) ≡ Some first → Contains (open_entries items) write → writes_page page write ≡ true
    → label_of all write.who ≡ label_of all first.who
writers_label all items page first write clients labels found inside writes =
    let one = found_in (writes_page page) (open_entries items) first found in
    one_label all items write.who first.who labels (client_at items write inside.0 clients inside.1 inside.2)
    (client_at items first one.0.0 clients one.0.1 one.0.2)
    (one_association_a_page items page write first clients inside one.0 writes one.1)

pub writers_have_the_pages_label : WritersHaveThePagesLabel
writers_have_the_pages_label all items page write clients labels inside writes =
    go (find (writes_page page) (open_entries items)) refl
  where
    go : (first : Option Entry) → find (writes_page page) (open_entries items) ≡ first
        → page_label_of all page ≡ Some (label_of all write.who)
    go None found = absurd (no_open_write items page found write inside writes)
    go (Some first) found =
        ap (option_map (label_of all)) (labels.pages page ∙ ap (option_map (λ (e : Entry). e.who)) found)
        ∙ ap Some (sym (writers_label all items page first write clients labels found inside writes))

pub pages_of_a_part : PagesOfAPart
pages_of_a_part all items client page clients labels is =
    go (find (writes_page page) (open_entries items)) refl
    ∙ ap (is_writer (λ who. nat_eq (label_of all who) (label_of all client))) (sym (labels.pages page))
  where
    members : List ℕ
    members = association_of items client

    none : find (writes_page page) (open_entries items) ≡ None → is_modified_by members items page ≡ false
    none found =
        ⊎_elim
        (λ (modified : is_modified_by members items page ≡ true).
        let one = some_passes (λ (entry : Entry). writes_page page entry && has_member entry.who members) (open_entries items) modified in
        absurd (no_open_write items page found one.0 one.1 (and_parts (writes_page page one.0) (has_member one.0.who members) one.2).0))
        (λ (clean : is_modified_by members items page ≡ false). clean)
        (cases_Bool (is_modified_by members items page))

    go : (first : Option Entry) → find (writes_page page) (open_entries items) ≡ first
        → is_modified_by members items page ≡ is_writer (λ who. nat_eq (label_of all who) (label_of all client))
        (option_map (λ (e : Entry). e.who) first)
    go None found = none found
    go (Some first) found =
        let one = found_in (writes_page page) (open_entries items) first found in
        let is_first : IsClient first.who = client_at items first one.0.0 clients one.0.1 one.0.2 in
        let member = together all items client first.who labels is is_first in
        ⊎_elim
        (λ (modified : is_modified_by members items page ≡ true).
        modified ∙ sym (page_of_association items client page clients modified first one.0 one.1) ∙ member)
        (λ (clean : is_modified_by members items page ≡ false).
        clean ∙ sym (page_of_others members items page clean first one.0 one.1) ∙ member)
        (cases_Bool (is_modified_by members items page))

pub labels_at_the_start : LabelsAtTheStart
labels_at_the_start all own none = record {
  parts = λ client is.
      crew_of_same (λ other. nat_eq (label_of all other) (label_of all client)) (λ other. nat_eq other client)
      (λ other is_other. ap (λ l. nat_eq l (label_of all client)) (own other is_other) ∙ ap (nat_eq other) (own client is))
      ∙ sym (alone_without_entries [] client (λ entry inside. absurd (omega (arith, inside.1))));
  pages = λ page. none page;
}

pub or_none : {X : Type 0} (o : Option X) → option_or o None ≡ o
or_none None = refl
or_none (Some x) = refl

pub map_or : {X Y : Type 0} (f : X → Y) (o p : Option X) → option_map f (option_or o p) ≡ option_or (option_map f o) (option_map f p)
map_or f None p = refl
map_or f (Some x) p = refl

-- the first writer of a page after an entry
writer_after : (items : List Item) (entry : Entry) (page : ℕ) → first_writer (items ++ item.Entry entry ∷ []) page
    ≡ option_or (first_writer items page) (cond (writes_page page entry) (Some (entry.who)) None)
writer_after items entry page =
    ap (λ (entries : List Entry). option_map (λ (e : Entry). e.who) (find (writes_page page) entries))
    (open_of_more_entries items (entry ∷ []))
    ∙ ap (option_map (λ (e : Entry). e.who)) (find-append (writes_page page) (open_entries items) (entry ∷ []))
    ∙ map_or (λ (e : Entry). e.who) (find (writes_page page) (open_entries items)) (find (writes_page page) (entry ∷ []))
    ∙ ap (option_or (first_writer items page)) (one (writes_page page entry))
  where
    one : (b : Bool) → option_map (λ (e : Entry). e.who) (cond b (Some entry) None) ≡ cond b (Some (entry.who)) None
    one true = refl
    one false = refl

-- the writers of pages after an entry
pages_after : (merged new : Labelling) (items : List Item) (entry : Entry) (write : Bool) → is_write entry.op ≡ write
    → NotesEntry merged new entry write
    → ((page : ℕ) → writer_of merged page ≡ first_writer items page) → (page : ℕ)
    → writer_of new page ≡ first_writer (items ++ item.Entry entry ∷ []) page
pages_after merged new items entry false is noted pages page =
    ap (λ (all : Labelling). writer_of all page) noted ∙ pages page ∙ sym (or_none (first_writer items page))
    ∙ ap (λ b. option_or (first_writer items page) (cond (b && nat_eq entry.page page) (Some (entry.who)) None)) (sym is)
    ∙ sym (writer_after items entry page)
pages_after merged new items entry true is noted pages page =
    noted.0 page
    ∙ ap (λ o. cond (nat_eq page entry.page) (option_or o (Some (entry.who))) o) (pages page)
    ∙ ⊎_elim
    (λ (here : nat_eq page entry.page ≡ true).
    let back : nat_eq entry.page page ≡ true = eq-eqb entry.page page (sym (eqb-true page entry.page here)) in
    rw (here, is, back) refl)
    (λ (elsewhere : nat_eq page entry.page ≡ false).
    let back : nat_eq entry.page page ≡ false = ne_eqb entry.page page (λ same. eqb-false page entry.page elsewhere (sym same)) in
    rw (elsewhere, is, back) (sym (or_none (first_writer items page))))
    (cases_Bool (nat_eq page entry.page))
    ∙ sym (writer_after items entry page)

-- the labels after an entry are those of the merged parts
labels_after : (merged new : Labelling) (entry : Entry) (write : Bool) → NotesEntry merged new entry write → new.labels ≡ merged.labels
labels_after merged new entry false noted = ap (λ (all : Labelling). all.labels) noted
labels_after merged new entry true noted = noted.1

-- parts whose labels are the same
pub parts_by_labels : (one other : Labelling) → ((client : ℕ) → IsClient client → label_of one client ≡ label_of other client)
    → (client : ℕ)
    → IsClient client
    → clients_labelled one (label_of one client) ≡ clients_labelled other (label_of other client)
parts_by_labels one other same client is =
    crew_of_same (λ d. nat_eq (label_of one d) (label_of one client)) (λ d. nat_eq (label_of other d) (label_of other client))
    (λ d is_d. ap (λ l. nat_eq l (label_of one client)) (same d is_d) ∙ ap (nat_eq (label_of other d)) (same client is))

-- the parts after an entry on a page without a label
unlabelled_parts : (old : Labelling) (items : List Item) (entry : Entry) → IsClient entry.who → AreLabelsOf old items
    → writer_of old entry.page ≡ None
    → (client : ℕ) → IsClient client → clients_labelled old (label_of old client) ≡ association_of (items ++ item.Entry entry ∷ []) client
unlabelled_parts old items entry is labels none client is_client =
    labels.parts client is_client ∙ sym (association_of_one_more items entry is alone_on client)
  where
    nothing : (first : Option Entry) → option_map (λ (write : Entry). write.who) first ≡ None → first ≡ None
    nothing None e = refl
    nothing (Some write) e = cc

    alone_on : WritersAreWith items entry.page entry.who
    alone_on write inside writes =
        absurd (no_open_write items entry.page
        (nothing (find (writes_page entry.page) (open_entries items)) (sym (labels.pages entry.page) ∙ none)) write inside writes)

-- the parts after an entry on a page with a label
united_parts : (old merged : Labelling) (items : List Item) (entry first : Entry) → AreOfClients items → IsClient entry.who
    → AreLabelsOf old items
    → find (writes_page entry.page) (open_entries items) ≡ Some first
    → MergesParts old merged (label_of old entry.who) (label_of old first.who)
    → (client : ℕ) → IsClient client → clients_labelled merged (label_of merged client) ≡ association_of (items ++ item.Entry entry ∷ []) client
united_parts old merged items entry first clients is labels found merges client is_client =
    ⊎_elim
    (λ (either : (nat_eq (label_of old client) a || nat_eq (label_of old client) b) ≡ true).
    ap (clients_labelled merged) (label_of_either either)
    ∙ merged_part old merged a b merges
    ∙ ap (λ (l : List ℕ). crew_of (λ d. has_member d l || has_member d (clients_labelled old b))) (labels.parts entry.who is)
    ∙ ap (λ (l : List ℕ). crew_of (λ d. has_member d (association_of items entry.who) || has_member d l)) (labels.parts first.who is_first)
    ∙ sym union
    ∙ sym (association_of_a_member next entry.who client
    (ap (has_member client) union
    ∙ has_member_crew_of (λ d. has_member d (association_of items entry.who) || has_member d
    (association_of items first.who)) client is_client
    ∙ ap (λ t. t || has_member client (association_of items first.who)) (together old items entry.who client labels is is_client)
    ∙ ap (λ t. nat_eq (label_of old client) a || t) (together old items first.who client labels is_first is_client)
    ∙ either)))
    (λ (neither : (nat_eq (label_of old client) a || nat_eq (label_of old client) b) ≡ false).
    let parts = or_parts (nat_eq (label_of old client) a) (nat_eq (label_of old client) b) neither in
    let kept : label_of merged client ≡ label_of old client = merges client is_client ∙ ap (λ t. cond t a (label_of old client)) parts.1 in
    ap (clients_labelled merged) kept
    ∙ others_stay_apart old merged a b (label_of old client) merges (eqb-false (label_of old client) a parts.0)
    (eqb-false (label_of old client) b parts.1)
    ∙ labels.parts client is_client
    ∙ sym (others_of_the_trail items first entry client clients is inside.0 inside.1
    (together old items entry.who client labels is is_client ∙ parts.0) (together old items first.who client labels is_first is_client
    ∙ parts.1)))
    (cases_Bool (nat_eq (label_of old client) a || nat_eq (label_of old client) b))
  where
    a : ℕ
    a = label_of old entry.who

    b : ℕ
    b = label_of old first.who

    next : List Item
    next = items ++ item.Entry entry ∷ []

    inside : Contains (open_entries items) first × (writes_page entry.page first ≡ true)
    inside = found_in (writes_page entry.page) (open_entries items) first found

    is_first : IsClient first.who
    is_first = client_at items first inside.0.0 clients inside.0.1 inside.0.2

    union : association_of next entry.who ≡ crew_of (λ d. has_member d (association_of items entry.who) || has_member d
        (association_of items first.who))
    union = associations_unite items first entry clients is inside.0 inside.1

    label_of_either : (nat_eq (label_of old client) a || nat_eq (label_of old client) b) ≡ true → label_of merged client ≡ a
    label_of_either either =
        merges client is_client
        ∙ ⊎_elim
        (λ (second : nat_eq (label_of old client) b ≡ true). rw second refl)
        (λ (other : nat_eq (label_of old client) b ≡ false).
        let mine : nat_eq (label_of old client) a ≡ true = first_of_two (nat_eq (label_of old client) a)
        (nat_eq (label_of old client) b) either other in
        rw other (eqb-true (label_of old client) a mine))
        (cases_Bool (nat_eq (label_of old client) b))
      where
        first_of_two : (s t : Bool) → (s || t) ≡ true → t ≡ false → s ≡ true
        first_of_two true t e n = refl
        first_of_two false t e n = absurd (true≢false (sym e ∙ n))

pub entry_merges_parts : EntryMergesParts
entry_merges_parts old merged new items entry clients is labels merges noted = record {
  parts = λ client is_client.
      parts_by_labels new merged (λ one _. ap (λ (l : List ℕ). get_or l one 0)
      (labels_after merged new entry (is_write entry.op) noted)) client is_client
      ∙ parts (writer_of old entry.page) refl merges client is_client;
  pages = pages_after merged new items entry (is_write entry.op) refl noted
      (λ page. ap (λ (l : List (Option ℕ)). get_or l page None) (writers (page_label_of old entry.page) merges) ∙ labels.pages page);
}
  where
    parts : (writer : Option ℕ) → writer_of old entry.page ≡ writer → MergesWithPage old merged entry.who (option_map (label_of old) writer)
        → (client : ℕ) → IsClient client → clients_labelled merged (label_of merged client) ≡ association_of
        (items ++ item.Entry entry ∷ []) client
    parts None at same client is_client =
        ap (λ (all : Labelling). clients_labelled all (label_of all client)) same ∙ unlabelled_parts old items entry is labels at client is_client
    parts (Some who) at united client is_client =
        let one = first_of items entry.page who (find (writes_page entry.page) (open_entries items)) refl (sym (labels.pages entry.page)
        ∙ at) in
        united_parts old merged items entry one.0 clients is labels one.1
        (subst (λ w. MergesParts old merged (label_of old entry.who) (label_of old w)) (sym one.2) united.0) client is_client

    writers : (label : Option ℕ) → MergesWithPage old merged entry.who label → merged.writers ≡ old.writers
    writers None same = ap (λ (all : Labelling). all.writers) same
    writers (Some label) united = united.1

pub entry_within_part : EntryWithinPart
entry_within_part old new items entry clients is labels free noted =
    entry_merges_parts old old new items entry clients is labels (nothing (page_label_of old entry.page) free) noted
  where
    kept : (own label mine : ℕ) → label ≡ mine → own ≡ cond (nat_eq own label) mine own
    kept own label mine same =
        ⊎_elim
        (λ (second : nat_eq own label ≡ true). rw second (eqb-true own label second ∙ same))
        (λ (other : nat_eq own label ≡ false). rw other refl)
        (cases_Bool (nat_eq own label))

    nothing : (label : Option ℕ) → IsFreeOrOf (label_of old entry.who) label → MergesWithPage old old entry.who label
    nothing None free = refl
    nothing (Some label) same = (λ client _. kept (label_of old client) label (label_of old entry.who) same, refl)
