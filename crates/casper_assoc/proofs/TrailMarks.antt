use Rattle.std.proofs.Common.{◌≡◌, ℕ, Bool, true, false, cond, not, nat_eq, List, [], ◌∷◌, ◌++◌, Contains, zero, Option, None, Some, option_map, refl, sym, ap, ◌∙◌, ⊎_elim, arith}
use Rattle.std.specs.List.{find, filter}
use Rattle.std.proofs.lemmas.Bool.{eqb-true, eqb-false, cases_Bool}
use Rattle.casper_words.specs.Crew.{IsClient, has_member}
use Rattle.casper_trail.specs.declared.entry.Entry.{Entry}
use Rattle.casper_trail.specs.declared.mark.Mark.{Mark}
use Rattle.casper_trail.specs.declared.mark.Mark.TheVariants.{Commit, Rollback}
use Rattle.casper_trail.specs.declared.item.Item.{Item}
use Rattle.casper_trail.specs.declared.item.Item.TheVariants as item
use Rattle.casper_trail.specs.Value.{writes_page}
use Rattle.casper_trail.specs.Fate.{members_of as members_of_mark}
use Rattle.casper_trail.specs.Parts.{open_entries}
use Rattle.casper_trail.specs.Association.{association_of}
use Rattle.casper_trail.specs.Marks.{IsExactMark}
use Rattle.casper_trail.proofs.LinkLists.{contains_there}
use Rattle.casper_trail.proofs.Parts.{open_after_mark}
use Rattle.casper_trail.proofs.Links.{client_at}
use Rattle.casper_trail.proofs.Growth.{members_after_mark, others_after_mark}
use Rattle.casper_assoc.specs.Labelling.{label_of, clients_labelled, writer_of, is_writer}
use Rattle.casper_assoc.specs.TrailLabels.{first_writer, named_by, MarkDissolvesPart}
use Rattle.casper_assoc.proofs.PartsOfClients.{dissolved_alone, others_stay_whole}
use Rattle.casper_assoc.proofs.TrailParts.{found_in, together, writers_label}

-- what is found and kept is found among what is kept
find_kept : {X : Type 0} (test keep : X → Bool) (xs : List X) (x : X) → find test xs ≡ Some x → keep x ≡ true
    → find test (filter keep xs) ≡ Some x
find_kept test keep [] x found kept = cc
find_kept {X} test keep (y ∷ ys) x found kept =
    ⊎_elim
    (λ (here : test y ≡ true).
    let first : Some y ≡ Some x = rw here at found in
    let same : y ≡ x = cc in
    let stays : keep y ≡ true = ap keep same ∙ kept in
    rw (stays, here) first)
    (λ (there : test y ≡ false).
    let later : find test ys ≡ Some x = rw there at found in
    let rest : find test (filter keep ys) ≡ Some x = find_kept test keep ys x later kept in
    ⊎_elim
    (λ (stays : keep y ≡ true). rw (stays, there) rest)
    (λ (goes : keep y ≡ false). rw goes rest)
    (cases_Bool (keep y)))
    (cases_Bool (test y))

-- where none that passes is kept, nothing is found
find_none_kept : {X : Type 0} (test keep : X → Bool) (xs : List X) → ((x : X) → Contains xs x → test x ≡ true → keep x ≡ false)
    → find test (filter keep xs) ≡ None
find_none_kept test keep [] goes = refl
find_none_kept {X} test keep (y ∷ ys) goes =
    let rest : find test (filter keep ys) ≡ None = find_none_kept test keep ys
    (λ x inside passes. goes x (contains_there y ys x inside) passes) in
    ⊎_elim
    (λ (stays : keep y ≡ true).
    ⊎_elim
    (λ (here : test y ≡ true). let never : true ≡ false = sym stays ∙ goes y (zero, omega arith, refl) here in cc)
    (λ (there : test y ≡ false). rw (stays, there) rest)
    (cases_Bool (test y)))
    (λ (left : keep y ≡ false). rw left rest)
    (cases_Bool (keep y))

find_none_stays : {X : Type 0} (test keep : X → Bool) (xs : List X) → find test xs ≡ None → find test (filter keep xs) ≡ None
find_none_stays test keep [] none = refl
find_none_stays test keep (y ∷ ys) none =
    ⊎_elim
    (λ (here : test y ≡ true). let never : Some y ≡ None = rw here at none in cc)
    (λ (there : test y ≡ false).
    let before : find test ys ≡ None = rw there at none in
    let rest : find test (filter keep ys) ≡ None = find_none_stays test keep ys before in
    ⊎_elim
    (λ (stays : keep y ≡ true). rw (stays, there) rest)
    (λ (goes : keep y ≡ false). rw goes rest)
    (cases_Bool (keep y)))
    (cases_Bool (test y))

-- the members of an exact mark are the association that it names
pub exact_members : (items : List Item) (mark : Mark) → IsExactMark items mark → members_of_mark mark ≡ association_of items (named_by mark)
exact_members items (Commit lead members) exact = exact
exact_members items (Rollback lost members) exact = exact

pub mark_dissolves_part : MarkDissolvesPart
mark_dissolves_part old new items mark sound clients is exact labels dissolves unlabels = record { parts = parts; pages = pages }
  where
    label : ℕ
    label = label_of old (named_by mark)

    -- a client is a member of the mark exactly where it has the label
    is_member : (client : ℕ) → IsClient client → has_member client (members_of_mark mark) ≡ nat_eq (label_of old client) label
    is_member client is_client = ap (has_member client) (exact_members items mark exact)
        ∙ together old items (named_by mark) client labels is is_client

    parts : (client : ℕ) → IsClient client → clients_labelled new (label_of new client) ≡ association_of (items ++ item.Mark mark ∷ []) client
    parts client is_client =
        ⊎_elim
        (λ (mine : nat_eq (label_of old client) label ≡ true).
        dissolved_alone old new label client sound dissolves is_client (eqb-true (label_of old client) label mine)
        ∙ sym (members_after_mark items mark client (is_member client is_client ∙ mine)))
        (λ (other : nat_eq (label_of old client) label ≡ false).
        let kept : label_of new client ≡ label_of old client = dissolves client is_client
        ∙ ap (λ t. cond t client (label_of old client)) other in
        ap (clients_labelled new) kept
        ∙ others_stay_whole old new label (label_of old client) sound dissolves (sound.labels client is_client)
        (eqb-false (label_of old client) label other)
        ∙ labels.parts client is_client
        ∙ sym (others_after_mark items mark client exact (is_member client is_client ∙ other)))
        (cases_Bool (nat_eq (label_of old client) label))

    keeps : Entry → Bool
    keeps entry = not (has_member entry.who (members_of_mark mark))

    after : (page : ℕ) → first_writer (items ++ item.Mark mark ∷ []) page ≡ option_map (λ (e : Entry). e.who)
        (find (writes_page page) (filter keeps (open_entries items)))
    after page = ap (λ (entries : List Entry). option_map (λ (e : Entry). e.who) (find (writes_page page) entries))
        (open_after_mark items mark)

    go : (page : ℕ) (first : Option Entry) → find (writes_page page) (open_entries items) ≡ first
        → cond (is_writer (λ who. nat_eq (label_of old who) label) (option_map (λ (e : Entry). e.who) first)) None
        (option_map (λ (e : Entry). e.who) first)
        ≡ option_map (λ (e : Entry). e.who) (find (writes_page page) (filter keeps (open_entries items)))
    go page None found = ap (option_map (λ (e : Entry). e.who)) (sym (find_none_stays (writes_page page) keeps (open_entries items) found))
    go page (Some first) found =
        let one = found_in (writes_page page) (open_entries items) first found in
        let is_first : IsClient first.who = client_at items first one.0.0 clients one.0.1 one.0.2 in
        ⊎_elim
        (λ (mine : nat_eq (label_of old first.who) label ≡ true).
        rw mine (ap (option_map (λ (e : Entry). e.who)) (sym (find_none_kept (writes_page page) keeps (open_entries items)
        (λ write inside writes.
        ap not (is_member write.who (client_at items write inside.0 clients inside.1 inside.2)
        ∙ ap (λ l. nat_eq l label) (writers_label old items page first write clients labels found inside writes) ∙ mine))))))
        (λ (other : nat_eq (label_of old first.who) label ≡ false).
        rw other (ap (option_map (λ (e : Entry). e.who)) (sym (find_kept (writes_page page) keeps (open_entries items) first found
        (ap not (is_member first.who is_first ∙ other))))))
        (cases_Bool (nat_eq (label_of old first.who) label))

    pages : (page : ℕ) → writer_of new page ≡ first_writer (items ++ item.Mark mark ∷ []) page
    pages page =
        unlabels page
        ∙ ap (λ (o : Option ℕ). cond (is_writer (λ who. nat_eq (label_of old who) label) o) None o) (labels.pages page)
        ∙ go page (find (writes_page page) (open_entries items)) refl
        ∙ sym (after page)
