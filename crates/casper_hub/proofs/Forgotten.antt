use Rattle.std.proofs.Common.{◌≡◌, ◌≢◌, ◌<◌, ◌+◌, ◌==◌, ℕ, List, Bool, true, false, cond, refl, sym, ap, ◌∙◌, ⊎_elim, true≢false}
use Rattle.std.specs.Prelude.{Option, None, Some}
use Rattle.std.proofs.lemmas.Bool.{false_from_ne_true, cases_eq, eq-eqb, ne_eqb}
use Rattle.std.proofs.lemmas.Option.{none-some}
use Rattle.casper_words.specs.Crew.{IsClient, has_member}
use Rattle.casper_trail.specs.declared.item.Item.{Item}
use Rattle.casper_trail.specs.Association.{association_of}
use Rattle.casper_trail.specs.Clients.{AreOfClients}
use Rattle.casper_trail.specs.Modified.{is_modified_by}
use Rattle.casper_assoc.specs.Labelling.{is_writer, writer_of}
use Rattle.casper_assoc.specs.TrailAssociations.{AssociationsView, AreAssociationsOf}
use Rattle.casper_assoc.proofs.TrailAssociations.{members_labelled_the_modified}
use Rattle.casper_hub.specs.Felling.{is_among}
use Rattle.casper_hub.proofs.Felling.{among_members, among_next, among_here, among_out, among_none}

-- The pages that members of an association labelled are those that it modified.

some_is : (one other : ℕ) → ◌≡◌ {A = Option ℕ} (Some one) (Some other) → one ≡ other
some_is one other is = cc

pub forgotten_modified : (all : AssociationsView) (items : List Item) (lost page : ℕ) (members : List ℕ) → AreOfClients items → AreAssociationsOf all items → IsClient lost
    → members ≡ association_of items lost
    → is_writer (is_among 33 members) (writer_of all.labelling page) ≡ is_modified_by (association_of items lost) items page
forgotten_modified all items lost page members clients are client same = by (writer_of all.labelling page) refl
  where
    unmodified : ((who : ℕ) → writer_of all.labelling page ≡ Some who → has_member who (association_of items lost) ≡ false)
        → is_modified_by (association_of items lost) items page ≡ false
    unmodified none =
        false_from_ne_true (is_modified_by (association_of items lost) items page)
        (λ modified. let found = (members_labelled_the_modified all items lost page clients are client).0 modified in true≢false (sym found.1 ∙ none found.0 found.2))

    by : (writer : Option ℕ) → writer_of all.labelling page ≡ writer → is_writer (is_among 33 members) writer ≡ is_modified_by (association_of items lost) items page
    by None is = sym (unmodified (λ who found. absurd (none-some who (sym is ∙ found))))
    by (Some who) is = among_members items lost who members same ∙ member (has_member who (association_of items lost)) refl
      where
        member : (b : Bool) → has_member who (association_of items lost) ≡ b → has_member who (association_of items lost) ≡ is_modified_by (association_of items lost) items page
        member true inside = inside ∙ sym ((members_labelled_the_modified all items lost page clients are client).1 (who, inside, is))
        member false out =
            out ∙ sym (unmodified (λ other found. ap (λ n. has_member n (association_of items lost)) (some_is other who (sym found ∙ is)) ∙ out))

-- The frames of these pages are dropped, those of one member after another.

-- those of one more
pub forgets_next : {X : Type 0} (members : List ℕ) (number who : ℕ) (writer : Option ℕ) (old now new : Option X) → who ≡ number → 0 < number → has_member who members ≡ true
    → now ≡ cond (is_writer (is_among number members) writer) None old → new ≡ cond (is_writer (λ one. one == who) writer) None now
    → new ≡ cond (is_writer (is_among (number + 1) members) writer) None old
forgets_next members number who None old now new same least member now_is new_is = new_is ∙ now_is
forgets_next {X} members number who (Some one) old now new same least member now_is new_is = ⊎_elim here there (cases_eq one number)
  where
    here : one ≡ number → new ≡ cond (is_among (number + 1) members one) None old
    here at =
        new_is ∙ ap (λ b. cond {A = Option X} b None now) (eq-eqb one who (at ∙ sym same))
        ∙ sym (ap (λ b. cond {A = Option X} b None old)
        (ap (is_among (number + 1) members) at ∙ among_here members number least (ap (λ n. has_member n members) (sym same) ∙ member)))

    there : one ≢ number → new ≡ cond (is_among (number + 1) members one) None old
    there apart =
        new_is ∙ ap (λ b. cond {A = Option X} b None now) (ne_eqb one who (λ at. apart (at ∙ same)))
        ∙ now_is ∙ ap (λ b. cond {A = Option X} b None old) (sym (among_next members one number apart))

-- those of one that is no member stay
pub keeps_next : {X : Type 0} (members : List ℕ) (number who : ℕ) (writer : Option ℕ) (old now : Option X) → who ≡ number → has_member who members ≡ false
    → now ≡ cond (is_writer (is_among number members) writer) None old → now ≡ cond (is_writer (is_among (number + 1) members) writer) None old
keeps_next members number who None old now same out now_is = now_is
keeps_next {X} members number who (Some one) old now same out now_is =
    now_is ∙ ap (λ b. cond {A = Option X} b None old) (⊎_elim here (λ apart. sym (among_next members one number apart)) (cases_eq one number))
  where
    here : one ≡ number → is_among number members one ≡ is_among (number + 1) members one
    here at =
        let none : has_member one members ≡ false = ap (λ n. has_member n members) (at ∙ sym same) ∙ out in
        among_out number members one none ∙ sym (among_out (number + 1) members one none)

-- none at first
pub forgets_none : {X : Type 0} (members : List ℕ) (writer : Option ℕ) (old : Option X) → old ≡ cond (is_writer (is_among 1 members) writer) None old
forgets_none members None old = refl
forgets_none {X} members (Some one) old = sym (ap (λ b. cond {A = Option X} b None old) (among_none members one))
