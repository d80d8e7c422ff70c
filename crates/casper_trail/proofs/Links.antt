use Rattle.std.proofs.Common.{◌≡◌, ◌<◌, ◌⊎◌, ◌+◌, ℕ, zero, suc, List, [], ◌∷◌, ◌++◌, Bool, true, false, ◌&&◌, ◌==◌, map, filter, length, slice_index_or, Contains, refl, ap, sym, ◌∙◌, subst, ⊎_elim, inl, inr, arith, length-append}
use Rattle.std.specs.List.{list_any}
use Rattle.std.proofs.lemmas.Bool.{cond_both, cond-true, or_left, or_right, and_parts, and_from, eqb-true, eq-eqb, true≢false}
use Rattle.std.proofs.lemmas.List.{get_or_at}
use Rattle.std.proofs.lemmas.List.Folds.{list_any-append}
use Rattle.casper_words.specs.Crew.{IsClient, has_member}
use Rattle.casper_trail.specs.declared.entry.Entry.{Entry}
use Rattle.casper_trail.specs.declared.item.Item.{Item}
use Rattle.casper_trail.specs.declared.item.Item.TheVariants as item
use Rattle.casper_trail.specs.Value.{writes_page, is_write}
use Rattle.casper_trail.specs.Fate.{Open, fate_of, is_open, decided_first}
use Rattle.casper_trail.specs.Parts.{open_entries, entries_where}
use Rattle.casper_trail.specs.Clients.{AreOfClients}
use Rattle.casper_trail.specs.Association.{links_from, links_among, joins, AreLinked, association_of}
use Rattle.casper_trail.specs.CauseLaws.{OpenEntriesLink, OneAssociationAPage}
use Rattle.casper_trail.proofs.Parts.{part_of_more}
use Rattle.casper_trail.proofs.Rounds.{association_closed, client_of_association, association_of_linked, linked_back}

-- an element that passes is found among what is made of those that pass
any_at : {X Y : Type 0} (p : Y → Bool) (f : X → Y) (q : X → Bool) (xs : List X) (y : X) (k : ℕ) → k < length xs → slice_index_or xs k y ≡ y
    → q y ≡ true → p (f y) ≡ true → list_any p (map f (filter q xs)) ≡ true
any_at p f q [] y k below is kept found = absurd (omega (arith, below))
any_at p f q (x ∷ xs) y zero below is kept found =
    cond_both (q x) (x ∷ filter q xs) (filter q xs) (λ few. list_any p (map f few) ≡ true)
    (λ _. or_left (p (f x)) (list_any p (map f (filter q xs))) (ap (λ z. p (f z)) is ∙ found))
    (λ lost. absurd (true≢false (sym kept ∙ sym (ap q is) ∙ lost)))
any_at p f q (x ∷ xs) y (suc k) below is kept found =
    let rest : list_any p (map f (filter q xs)) ≡ true = any_at p f q xs y k (omega (arith, below)) is kept found in
    cond_both (q x) (x ∷ filter q xs) (filter q xs) (λ few. list_any p (map f few) ≡ true)
    (λ _. or_right (p (f x)) (list_any p (map f (filter q xs))) rest)
    (λ _. rest)

joins_both : (one other : ℕ) → joins one other (record { writer = one; user = other }) ≡ true
joins_both one other =
    or_left ((one == one) && (other == other)) ((one == other) && (other == one)) (and_from (one == one) (other == other) (eq-eqb one one refl) (eq-eqb other other refl))

joins_back : (one other : ℕ) → joins other one (record { writer = one; user = other }) ≡ true
joins_back one other =
    or_right ((one == other) && (other == one)) ((one == one) && (other == other)) (and_from (one == one) (other == other) (eq-eqb one one refl) (eq-eqb other other refl))

-- a write is linked to each later entry on its page
pub link_to : (write : Entry) (following : List Entry) (entry : Entry) → Contains following entry → writes_page entry.page write ≡ true
    → list_any (joins write.who entry.who) (links_from write following) ≡ true
link_to write following entry inside writes =
    any_at (joins write.who entry.who) (λ (later : Entry). record { writer = write.who; user = later.who }) (λ (later : Entry). writes_page later.page write)
    following entry inside.0 inside.1 inside.2 writes (joins_both write.who entry.who)

link_back : (write : Entry) (following : List Entry) (entry : Entry) → Contains following entry → writes_page entry.page write ≡ true
    → list_any (joins entry.who write.who) (links_from write following) ≡ true
link_back write following entry inside writes =
    any_at (joins entry.who write.who) (λ (later : Entry). record { writer = write.who; user = later.who }) (λ (later : Entry). writes_page later.page write)
    following entry inside.0 inside.1 inside.2 writes (joins_back write.who entry.who)

link_within : (before : List Entry) (write : Entry) (following : List Entry) (entry : Entry) → Contains following entry → writes_page entry.page write ≡ true
    → list_any (joins write.who entry.who) (links_among (before ++ write ∷ following)) ≡ true
link_within [] write following entry inside writes =
    list_any-append (joins write.who entry.who) (links_from write following) (links_among following)
    ∙ or_left (list_any (joins write.who entry.who) (links_from write following)) (list_any (joins write.who entry.who) (links_among following))
    (link_to write following entry inside writes)
link_within (first ∷ before) write following entry inside writes =
    let all = before ++ write ∷ following in
    list_any-append (joins write.who entry.who) (links_from first all) (links_among all)
    ∙ or_right (list_any (joins write.who entry.who) (links_from first all)) (list_any (joins write.who entry.who) (links_among all))
    (link_within before write following entry inside writes)

pub contains_middle : {X : Type 0} (front back : List X) (x : X) → Contains (front ++ x ∷ back) x
contains_middle front back x =
    let long : length (front ++ x ∷ back) ≡ length front + suc (length back) = length-append front (x ∷ back) in
    (length front, omega (arith, long), get_or_at front x back x (length front) refl)

pub open_entries_link : OpenEntriesLink
open_entries_link items before middle after write entry is writes =
    ap (λ entries. list_any (joins write.who entry.who) (links_among entries)) is
    ∙ link_within before write (middle ++ entry ∷ after) entry (contains_middle middle after entry) writes

-- two writes of a page are one entry, or their clients are linked
same_or_linked : (entries : List Entry) (page : ℕ) (one other : Entry) (j k : ℕ)
    → j < length entries → slice_index_or entries j one ≡ one → k < length entries → slice_index_or entries k other ≡ other
    → writes_page page one ≡ true → writes_page page other ≡ true
    → (one ≡ other) ⊎ (list_any (joins one.who other.who) (links_among entries) ≡ true)
same_or_linked [] page one other j k j_below is_one k_below is_other writes writes' = absurd (omega (arith, j_below))
same_or_linked (first ∷ entries) page one other zero zero j_below is_one k_below is_other writes writes' = inl (sym is_one ∙ is_other)
same_or_linked (first ∷ entries) page one other zero (suc k) j_below is_one k_below is_other writes writes' =
    let on_page : other.page ≡ page = eqb-true other.page page (and_parts (is_write other.op) (other.page == page) writes').1 in
    let here : writes_page other.page first ≡ true = ap (λ (e : Entry). writes_page other.page e) is_one ∙ ap (λ p. writes_page p one) on_page ∙ writes in
    let found : list_any (joins first.who other.who) (links_from first entries) ≡ true = link_to first entries other (k, omega (arith, k_below), is_other) here in
    inr (list_any-append (joins one.who other.who) (links_from first entries) (links_among entries)
    ∙ or_left (list_any (joins one.who other.who) (links_from first entries)) (list_any (joins one.who other.who) (links_among entries))
    (ap (λ (e : Entry). list_any (joins e.who other.who) (links_from first entries)) (sym is_one) ∙ found))
same_or_linked (first ∷ entries) page one other (suc j) zero j_below is_one k_below is_other writes writes' =
    let on_page : one.page ≡ page = eqb-true one.page page (and_parts (is_write one.op) (one.page == page) writes).1 in
    let here : writes_page one.page first ≡ true = ap (λ (e : Entry). writes_page one.page e) is_other ∙ ap (λ p. writes_page p other) on_page ∙ writes' in
    let found : list_any (joins one.who first.who) (links_from first entries) ≡ true = link_back first entries one (j, omega (arith, j_below), is_one) here in
    inr (list_any-append (joins one.who other.who) (links_from first entries) (links_among entries)
    ∙ or_left (list_any (joins one.who other.who) (links_from first entries)) (list_any (joins one.who other.who) (links_among entries))
    (ap (λ (e : Entry). list_any (joins one.who e.who) (links_from first entries)) (sym is_other) ∙ found))
same_or_linked (first ∷ entries) page one other (suc j) (suc k) j_below is_one k_below is_other writes writes' =
    ⊎_elim
    (λ same. inl same)
    (λ linked. inr (list_any-append (joins one.who other.who) (links_from first entries) (links_among entries)
    ∙ or_right (list_any (joins one.who other.who) (links_from first entries)) (list_any (joins one.who other.who) (links_among entries)) linked))
    (same_or_linked entries page one other j k (omega (arith, j_below)) is_one (omega (arith, k_below)) is_other writes writes')

-- each open entry is of a client
pub client_at : (items : List Item) (entry : Entry) (k : ℕ) → AreOfClients items → k < length (open_entries items) → slice_index_or (open_entries items) k entry ≡ entry → IsClient entry.who
client_at [] entry k clients below is = absurd (omega (arith, below))
client_at (item.Mark mark ∷ items) entry k clients below is = client_at items entry k clients below is
client_at (item.Entry first ∷ items) entry k clients below is =
    cond_both (is_open (fate_of first.who items)) (first ∷ open_entries items) (open_entries items)
    (λ entries. k < length entries → slice_index_or entries k entry ≡ entry → IsClient entry.who)
    (λ _. at_place (λ j. client_at items entry j clients.1) k)
    (λ _ below is. client_at items entry k clients.1 below is)
    below is
  where
    at_place : ((j : ℕ) → j < length (open_entries items) → slice_index_or (open_entries items) j entry ≡ entry → IsClient entry.who)
        → (k : ℕ) → k < suc (length (open_entries items)) → slice_index_or (first ∷ open_entries items) k entry ≡ entry → IsClient entry.who
    at_place later zero below is = subst (λ (e : Entry). IsClient e.who) is clients.0
    at_place later (suc k) below is = later k (omega (arith, below)) is

pub one_association_a_page : OneAssociationAPage
one_association_a_page items page one other clients in_one in_other writes writes' =
    ⊎_elim
    (λ same. ap (λ (e : Entry). association_of items e.who) same)
    (λ linked. association_of_linked items one.who other.who
    (client_at items one in_one.0 clients in_one.1 in_one.2) (client_at items other in_other.0 clients in_other.1 in_other.2) linked)
    (same_or_linked (open_entries items) page one other in_one.0 in_other.0 in_one.1 in_one.2 in_other.1 in_other.2 writes writes')

-- linked clients are in the same associations
pub linked_together : (items : List Item) (client one other : ℕ) → IsClient one → IsClient other → AreLinked items one other
    → has_member one (association_of items client) ≡ has_member other (association_of items client)
linked_together items client one other is_one is_other linked =
    same_bool (has_member one (association_of items client)) (has_member other (association_of items client))
    (λ found. association_closed items client (client_of_association items client one found) one other is_one is_other linked found)
    (λ found. association_closed items client (client_of_association items client other found) other one is_other is_one (linked_back items one other linked) found)
  where
    same_bool : (a b : Bool) → (a ≡ true → b ≡ true) → (b ≡ true → a ≡ true) → a ≡ b
    same_bool true b to from = sym (to refl)
    same_bool false true to from = absurd (true≢false (sym (from refl)))
    same_bool false false to from = refl

-- an entry that is open stands among the open entries
pub open_head : (entry : Entry) (following : List Item) → fate_of entry.who following ≡ Open
    → open_entries (item.Entry entry ∷ following) ≡ entry ∷ open_entries following
open_head entry following is_open_now = cond-true (is_open (fate_of entry.who following)) (entry ∷ open_entries following) (open_entries following) (ap is_open is_open_now)

-- a write and a later entry on its page that are both open link their clients
pub open_link : (before middle after : List Item) (write entry : Entry) → writes_page entry.page write ≡ true
    → fate_of write.who (middle ++ item.Entry entry ∷ after) ≡ Open → fate_of entry.who after ≡ Open
    → AreLinked (before ++ item.Entry write ∷ (middle ++ item.Entry entry ∷ after)) write.who entry.who
open_link before middle after write entry writes write_open entry_open =
    let rest = middle ++ item.Entry entry ∷ after in
    let front = entries_where (λ who fate. is_open (decided_first fate (fate_of who (item.Entry write ∷ rest)))) before in
    let between = entries_where (λ who fate. is_open (decided_first fate (fate_of who (item.Entry entry ∷ after)))) middle in
    let later : open_entries rest ≡ between ++ entry ∷ open_entries after =
    part_of_more (λ who fate. is_open fate) middle (item.Entry entry ∷ after) ∙ ap (λ back. between ++ back) (open_head entry after entry_open) in
    open_entries_link (before ++ item.Entry write ∷ rest) front between (open_entries after) write entry
    (part_of_more (λ who fate. is_open fate) before (item.Entry write ∷ rest)
    ∙ ap (λ back. front ++ back) (open_head write rest write_open ∙ ap (λ back. write ∷ back) later))
    writes
