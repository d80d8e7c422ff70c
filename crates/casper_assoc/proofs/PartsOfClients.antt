use Rattle.std.proofs.Common.{◌≡◌, ℕ, Bool, true, false, ◌||◌, cond, nat_eq, Option, None, Some, option_map, eq-eqb, refl, sym, ap, ◌∙◌, subst, ⊎_elim}
use Rattle.std.proofs.lemmas.Bool.{ne_eqb, eqb-true, eqb-false, cases_Bool}
use Rattle.casper_words.specs.Crew.{IsClient, has_member}
use Rattle.casper_words.proofs.CrewLemmas.{has_member_crew_of, crew_of_same, IsCrew_crew_of, client_from_member}
use Rattle.casper_assoc.specs.Labelling.{Labelling, label_of, clients_labelled, writer_of, IsLabel}
use Rattle.casper_assoc.specs.PartLaws.{ClientsAreInTheirPart, MembersHaveTheLabel, PartsGoByLabel, PageLabelsAreLabels, WrittenPagesHaveTheLabel, LabelledPagesAreWritten, MergedPart, OthersStayApart, DissolvedAlone, OthersStayWhole}

-- a client is in a part exactly where it has the label
pub member_is : (all : Labelling) (label client : ℕ) → IsClient client
    → has_member client (clients_labelled all label) ≡ nat_eq (label_of all client) label
member_is all label client is = has_member_crew_of (λ one. nat_eq (label_of all one) label) client is

pub clients_are_in_their_part : ClientsAreInTheirPart
clients_are_in_their_part all client is = member_is all (label_of all client) client is
    ∙ eq-eqb (label_of all client) (label_of all client) refl

pub members_have_the_label : MembersHaveTheLabel
members_have_the_label all label client found =
    let is : IsClient client = client_from_member (clients_labelled all label) client
    (IsCrew_crew_of (λ one. nat_eq (label_of all one) label)) found in
    eqb-true (label_of all client) label (sym (member_is all label client is) ∙ found)

pub parts_go_by_label : PartsGoByLabel
parts_go_by_label all client other is = member_is all (label_of all client) other is

-- a page with a label was labelled by a client with that label
writer_behind : (all : Labelling) (page label : ℕ) (writer : Option ℕ) → writer_of all page ≡ writer
    → option_map (label_of all) writer ≡ Some label
    → (who : ℕ) × (writer_of all page ≡ Some who) × (label_of all who ≡ label)
writer_behind all page label None at labelled = cc
writer_behind all page label (Some who) at labelled = (who, at, cc)

pub page_labels_are_labels : PageLabelsAreLabels
page_labels_are_labels all page label sound labelled =
    let one = writer_behind all page label (writer_of all page) refl labelled in
    subst (λ l. IsLabel all l) one.2 (sound.labels one.0 (sound.writers page one.0 one.1))

pub written_pages_have_the_label : WrittenPagesHaveTheLabel
written_pages_have_the_label all who pages page written listed = ap (option_map (label_of all)) ((written.exactly page).0 listed)

pub labelled_pages_are_written : LabelledPagesAreWritten
labelled_pages_are_written all page label sound labelled =
    let one = writer_behind all page label (writer_of all page) refl labelled in
    (one.0, one.1, member_is all label one.0 (sound.writers page one.0 one.1) ∙ eq-eqb (label_of all one.0) label one.2)

pub merged_part : MergedPart
merged_part old new a b merges =
    crew_of_same (λ client. nat_eq (label_of new client) a)
    (λ client. has_member client (clients_labelled old a) || has_member client (clients_labelled old b))
    (λ client is.
    ap (λ l. nat_eq l a) (merges client is)
    ∙ cases (label_of old client)
    ∙ sym (ap (λ t. t || has_member client (clients_labelled old b)) (member_is old a client is)
    ∙ ap (λ t. nat_eq (label_of old client) a || t) (member_is old b client is)))
  where
    cases : (label : ℕ) → nat_eq (cond (nat_eq label b) a label) a ≡ (nat_eq label a || nat_eq label b)
    cases label =
        ⊎_elim
        (λ (second : nat_eq label b ≡ true). rw second (eq-eqb a a refl ∙ sym (or_true (nat_eq label a))))
        (λ (other : nat_eq label b ≡ false). rw other (sym (or_false (nat_eq label a))))
        (cases_Bool (nat_eq label b))
      where
        or_true : (t : Bool) → (t || true) ≡ true
        or_true true = refl
        or_true false = refl

        or_false : (t : Bool) → (t || false) ≡ t
        or_false true = refl
        or_false false = refl

pub others_stay_apart : OthersStayApart
others_stay_apart old new a b label merges not_first not_second =
    crew_of_same (λ client. nat_eq (label_of new client) label) (λ client. nat_eq (label_of old client) label)
    (λ client is. ap (λ l. nat_eq l label) (merges client is) ∙ cases (label_of old client))
  where
    cases : (own : ℕ) → nat_eq (cond (nat_eq own b) a own) label ≡ nat_eq own label
    cases own =
        ⊎_elim
        (λ (second : nat_eq own b ≡ true).
        let first_fails : nat_eq a label ≡ false = ne_eqb a label (λ same. not_first (sym same)) in
        let own_fails : nat_eq own label ≡ false = ne_eqb own label (λ same. not_second (sym same ∙ eqb-true own b second)) in
        rw second (first_fails ∙ sym own_fails))
        (λ (other : nat_eq own b ≡ false). rw other refl)
        (cases_Bool (nat_eq own b))

pub dissolved_alone : DissolvedAlone
dissolved_alone old new label client sound dissolves is mine =
    let own : label_of new client ≡ client = dissolves client is
    ∙ ap (λ t. cond t client (label_of old client)) (eq-eqb (label_of old client) label mine) in
    ap (clients_labelled new) own
    ∙ crew_of_same (λ other. nat_eq (label_of new other) client) (λ other. nat_eq other client)
    (λ other is_other. ap (λ l. nat_eq l client) (dissolves other is_other) ∙ cases other is_other)
  where
    cases : (other : ℕ) → IsClient other → nat_eq (cond (nat_eq (label_of old other) label) other
        (label_of old other)) client ≡ nat_eq other client
    cases other is_other =
        ⊎_elim
        (λ (member : nat_eq (label_of old other) label ≡ true). rw member refl)
        (λ (apart : nat_eq (label_of old other) label ≡ false).
        let label_fails : nat_eq (label_of old other) client ≡ false =
        ne_eqb (label_of old other) client
        (λ same. eqb-false (label_of old other) label apart (sym (sound.labels other is_other).1 ∙ ap (label_of old) same ∙ mine)) in
        let number_fails : nat_eq other client ≡ false = ne_eqb other client
        (λ same. eqb-false (label_of old other) label apart (ap (label_of old) same ∙ mine)) in
        rw apart (label_fails ∙ sym number_fails))
        (cases_Bool (nat_eq (label_of old other) label))

pub others_stay_whole : OthersStayWhole
others_stay_whole old new label other sound dissolves is_label differ =
    crew_of_same (λ client. nat_eq (label_of new client) other) (λ client. nat_eq (label_of old client) other)
    (λ client is. ap (λ l. nat_eq l other) (dissolves client is) ∙ cases client)
  where
    cases : (client : ℕ) → nat_eq (cond (nat_eq (label_of old client) label) client (label_of old client)) other ≡ nat_eq
        (label_of old client) other
    cases client =
        ⊎_elim
        (λ (member : nat_eq (label_of old client) label ≡ true).
        let mine : label_of old client ≡ label = eqb-true (label_of old client) label member in
        let number_fails : nat_eq client other ≡ false = ne_eqb client other
        (λ same. differ (sym is_label.1 ∙ ap (label_of old) (sym same) ∙ mine)) in
        let label_fails : nat_eq (label_of old client) other ≡ false =
        ne_eqb (label_of old client) other (λ same. differ (sym same ∙ mine)) in
        rw member (number_fails ∙ sym label_fails))
        (λ (apart : nat_eq (label_of old client) label ≡ false). rw apart refl)
        (cases_Bool (nat_eq (label_of old client) label))
