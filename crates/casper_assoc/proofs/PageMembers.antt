use Rattle.std.proofs.Common.{◌≡◌, ℕ, Bool, true, false, ◌&&◌, nat_eq, List, [], Option, None, Some, option_map, eq-eqb, refl, sym, ap, ◌∙◌}
use Rattle.std.proofs.lemmas.Bool.{eqb-true, and_parts}
use Rattle.casper_words.specs.Crew.{IsClient, has_member}
use Rattle.casper_words.proofs.CrewLemmas.{has_member_crew_of, IsCrew_crew_of, client_from_member}
use Rattle.casper_trail.specs.declared.entry.Entry.{Entry}
use Rattle.casper_trail.specs.declared.item.Item.{Item}
use Rattle.casper_trail.specs.Value.{writes_page}
use Rattle.casper_trail.specs.Parts.{open_entries}
use Rattle.casper_trail.specs.Modified.{is_modified_by}
use Rattle.casper_trail.specs.Association.{association_of}
use Rattle.casper_trail.proofs.Pages.{some_passes}
use Rattle.casper_trail.proofs.Rounds.{client_of_association}
use Rattle.casper_assoc.specs.Labelling.{label_of, clients_labelled, writer_of, page_label_of, is_writer}
use Rattle.casper_assoc.specs.TrailAssociations.{AssociationsView, AreMembersOfPage}
use Rattle.casper_assoc.proofs.TrailParts.{pages_of_a_part}

-- two tests that only a fact lets pass are the same where they are under that fact
pub same_under : (P : Type 0) (s t : Bool) → (s ≡ true → P) → (t ≡ true → P) → (P → s ≡ t) → s ≡ t
same_under P true t left right same = same (left refl)
same_under P false true left right same = same (right refl)
same_under P false false left right same = refl

-- only the association of a client modifies a page
modified_by_clients : (items : List Item) (client page : ℕ) → is_modified_by (association_of items client) items page ≡ true → IsClient client
modified_by_clients items client page modified =
    let members = association_of items client in
    let one = some_passes (λ (entry : Entry). writes_page page entry && has_member entry.who members) (open_entries items) modified in
    client_of_association items client one.0.who (and_parts (writes_page page one.0) (has_member one.0.who members) one.2).1

-- whether the writer has a client's label is whether the client has the writer's
by_label : (label_at : ℕ → ℕ) (writer : Option ℕ) (label client : ℕ) → option_map label_at writer ≡ Some label
    → is_writer (λ who. nat_eq (label_at who) (label_at client)) writer ≡ nat_eq (label_at client) label
by_label label_at None label client at = cc
by_label label_at (Some who) label client at =
    let here : label_at who ≡ label = cc in
    same_under (label_at client ≡ label) (nat_eq (label_at who) (label_at client)) (nat_eq (label_at client) label)
    (λ same. sym (eqb-true (label_at who) (label_at client) same) ∙ here)
    (λ same. eqb-true (label_at client) label same)
    (λ same. eq-eqb (label_at who) (label_at client) (here ∙ sym same) ∙ sym (eq-eqb (label_at client) label same))

-- the clients with the label of a page are those whose association modifies it
pub labelled_are_members : (all : AssociationsView) (page label : ℕ) (members : List ℕ) → page_label_of all.labelling page ≡ Some label
    → members ≡ clients_labelled all.labelling label → AreMembersOfPage all page members
labelled_are_members all page label members at labelled items clients are client =
    same_under (IsClient client) (is_modified_by (association_of items client) items page) (has_member client members)
    (modified_by_clients items client page)
    (λ inside. client_from_member (clients_labelled all.labelling label) client (IsCrew_crew_of test) (sym (ap (has_member client) labelled) ∙ inside))
    (λ is.
    pages_of_a_part all.labelling items client page clients are.labels is
    ∙ by_label (label_of all.labelling) (writer_of all.labelling page) label client at
    ∙ sym (has_member_crew_of test client is)
    ∙ sym (ap (has_member client) labelled))
  where
    test : ℕ → Bool
    test client = nat_eq (label_of all.labelling client) label

-- and no association modifies a page without a label
pub unlabelled_has_none : (all : AssociationsView) (page : ℕ) (members : List ℕ) → page_label_of all.labelling page ≡ None → members ≡ []
    → AreMembersOfPage all page members
unlabelled_has_none all page members at empty items clients are client =
    same_under (IsClient client) (is_modified_by (association_of items client) items page) (has_member client members)
    (modified_by_clients items client page)
    (λ inside. cc)
    (λ is.
    pages_of_a_part all.labelling items client page clients are.labels is
    ∙ nobody (writer_of all.labelling page) at
    ∙ sym (ap (has_member client) empty))
  where
    nobody : (writer : Option ℕ) → option_map (label_of all.labelling) writer ≡ None
        → is_writer (λ who. nat_eq (label_of all.labelling who) (label_of all.labelling client)) writer ≡ false
    nobody None none = refl
    nobody (Some who) none = cc
