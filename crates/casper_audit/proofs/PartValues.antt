use Rattle.std.proofs.Common.{◌≡◌, ℕ, zero, arith, Bool, true, false, cond, List, [], ◌∷◌, ◌++◌, fold, Contains, ap, sym, subst, ◌∙◌, refl}
use Rattle.std.proofs.lemmas.Bool.{cond_both}
use Rattle.std.proofs.lemmas.List.{append-nil}
use Rattle.casper_words.specs.Crew.{has_member}
use Rattle.casper_trail.specs.declared.entry.Entry.{Entry}
use Rattle.casper_trail.specs.declared.mark.Mark.{Mark}
use Rattle.casper_trail.specs.declared.mark.Mark.TheVariants.{Commit, Rollback}
use Rattle.casper_trail.specs.declared.item.Item.{Item}
use Rattle.casper_trail.specs.declared.item.Item.TheVariants as item
use Rattle.casper_trail.specs.Value.{word_at, writes_word, value_after, value_of}
use Rattle.casper_trail.specs.Fate.{Fate, Stable, Dropped, Open, fate_of, fate_by, members_of, is_live, is_stable, is_open, decided_first}
use Rattle.casper_trail.specs.Parts.{entries_where, live_entries, stable_entries, open_entries}
use Rattle.casper_trail.proofs.LinkLists.{contains_there}
use Rattle.casper_trail.proofs.Parts.{part_of_more}

-- the clients of the open writes of a word pass
abbrev pub WordWritersPass : List Item → ℕ → ℕ → (ℕ → Type 0) → Type 0
WordWritersPass items page word P = (write : Entry) → Contains (open_entries items) write → writes_word page word write ≡ true → P write.who

passes_after : (entry : Entry) (items : List Item) (page word : ℕ) (P : ℕ → Type 0) → WordWritersPass (item.Entry entry ∷ items) page word P → WordWritersPass items page word P
passes_after entry items page word P pass write inside =
    pass write (cond_both (is_open (fate_of entry.who items)) (entry ∷ open_entries items) (open_entries items) (λ entries. Contains entries write)
    (λ _. contains_there entry (open_entries items) write inside) (λ _. inside))

passes_front : (entry : Entry) (items : List Item) (page word : ℕ) (P : ℕ → Type 0) → WordWritersPass (item.Entry entry ∷ items) page word P
    → fate_of entry.who items ≡ Open → writes_word page word entry ≡ true → P entry.who
passes_front entry items page word P pass is =
    pass entry (subst (λ (fate : Fate). Contains (cond (is_open fate) (entry ∷ open_entries items) (open_entries items)) entry) (sym is) (zero, omega arith, refl))

-- one entry more in front of two parts
alike_front : (one other : ℕ → Fate → Bool) (entry : Entry) (items : List Item) (page word value : ℕ)
    → ((who : ℕ) → one who Stable ≡ other who Stable) → ((who : ℕ) → one who Dropped ≡ other who Dropped)
    → WordWritersPass (item.Entry entry ∷ items) page word (λ who. one who Open ≡ other who Open)
    → ((v : ℕ) → fold (value_after page word) v (entries_where one items) ≡ fold (value_after page word) v (entries_where other items))
    → fold (value_after page word) value (entries_where one (item.Entry entry ∷ items)) ≡ fold (value_after page word) value (entries_where other (item.Entry entry ∷ items))
alike_front one other entry items page word value stable dropped pass later = by_write (writes_word page word entry) refl
  where
    by_fate : (fate : Fate) → (fate ≡ Open → one entry.who Open ≡ other entry.who Open) → one entry.who fate ≡ other entry.who fate
    by_fate Stable opens = stable entry.who
    by_fate Dropped opens = dropped entry.who
    by_fate Open opens = opens refl

    both : (b : Bool) → fold (value_after page word) value (cond b (entry ∷ entries_where one items) (entries_where one items))
        ≡ fold (value_after page word) value (cond b (entry ∷ entries_where other items) (entries_where other items))
    both true = later (value_after page word value entry)
    both false = later value

    skipped : writes_word page word entry ≡ false → (b : Bool) (list : List Entry) → fold (value_after page word) value (cond b (entry ∷ list) list) ≡ fold (value_after page word) value list
    skipped e true list = ap (λ (v : ℕ). fold (value_after page word) v list) (ap (λ (b : Bool). cond b entry.value value) e)
    skipped e false list = refl

    by_write : (b : Bool) → writes_word page word entry ≡ b
        → fold (value_after page word) value (cond (one entry.who (fate_of entry.who items)) (entry ∷ entries_where one items) (entries_where one items))
        ≡ fold (value_after page word) value (cond (other entry.who (fate_of entry.who items)) (entry ∷ entries_where other items) (entries_where other items))
    by_write true e =
        both (one entry.who (fate_of entry.who items))
        ∙ ap (λ (b : Bool). fold (value_after page word) value (cond b (entry ∷ entries_where other items) (entries_where other items)))
        (by_fate (fate_of entry.who items) (λ is. passes_front entry items page word (λ who. one who Open ≡ other who Open) pass is e))
    by_write false e =
        skipped e (one entry.who (fate_of entry.who items)) (entries_where one items)
        ∙ later value
        ∙ sym (skipped e (other entry.who (fate_of entry.who items)) (entries_where other items))

-- two parts that decide alike but for open entries, and alike for the open writes of a word, give the word one value
values_alike : (one other : ℕ → Fate → Bool) (items : List Item) (page word value : ℕ)
    → ((who : ℕ) → one who Stable ≡ other who Stable) → ((who : ℕ) → one who Dropped ≡ other who Dropped)
    → WordWritersPass items page word (λ who. one who Open ≡ other who Open)
    → fold (value_after page word) value (entries_where one items) ≡ fold (value_after page word) value (entries_where other items)
values_alike one other [] page word value stable dropped pass = refl
values_alike one other (item.Mark mark ∷ items) page word value stable dropped pass = values_alike one other items page word value stable dropped pass
values_alike one other (item.Entry entry ∷ items) page word value stable dropped pass =
    alike_front one other entry items page word value stable dropped pass
    (λ v. values_alike one other items page word v stable dropped (passes_after entry items page word (λ who. one who Open ≡ other who Open) pass))

-- the part of the items before a mark that a test of fates leaves after it
abbrev pub marked : (Fate → Bool) → Mark → ℕ → Fate → Bool
marked test mark who fate = test (decided_first fate (cond (has_member who (members_of mark)) (fate_by mark) Open))

part_after_mark : (test : Fate → Bool) (items : List Item) (mark : Mark) → entries_where (λ who fate. test fate) (items ++ item.Mark mark ∷ []) ≡ entries_where (marked test mark) items
part_after_mark test items mark =
    part_of_more (λ who fate. test fate) items (item.Mark mark ∷ []) ∙ append-nil (entries_where (marked test mark) items)

-- the value of a word after a mark, by one part before it
value_by_part : (base : List (List ℕ)) (test : Fate → Bool) (other : Fate → Bool) (items : List Item) (mark : Mark) (page word : ℕ)
    → ((who : ℕ) → marked test mark who Stable ≡ other Stable) → ((who : ℕ) → marked test mark who Dropped ≡ other Dropped)
    → WordWritersPass items page word (λ who. marked test mark who Open ≡ other Open)
    → value_of base (entries_where (λ who fate. test fate) (items ++ item.Mark mark ∷ [])) page word ≡ value_of base (entries_where (λ who fate. other fate) items) page word
value_by_part base test other items mark page word stable dropped pass =
    ap (λ (entries : List Entry). value_of base entries page word) (part_after_mark test items mark)
    ∙ values_alike (marked test mark) (λ who fate. other fate) items page word (word_at base page word) stable dropped pass

-- the two values of a word whose open writes are of members of the mark
pub theirs_after_commit : (base : List (List ℕ)) (items : List Item) (lead : ℕ) (members : List ℕ) (page word : ℕ) → WordWritersPass items page word (λ who. has_member who members ≡ true)
    → (value_of base (live_entries (items ++ item.Mark (Commit lead members) ∷ [])) page word ≡ value_of base (live_entries items) page word)
    × (value_of base (stable_entries (items ++ item.Mark (Commit lead members) ∷ [])) page word ≡ value_of base (live_entries items) page word)
theirs_after_commit base items lead members page word pass = (
  value_by_part base is_live is_live items (Commit lead members) page word (λ who. refl) (λ who. refl)
      (λ write inside writes. ap (λ (b : Bool). is_live (cond b Stable Open)) (pass write inside writes)),
  value_by_part base is_stable is_live items (Commit lead members) page word (λ who. refl) (λ who. refl)
      (λ write inside writes. ap (λ (b : Bool). is_stable (cond b Stable Open)) (pass write inside writes)),
)

pub theirs_after_rollback : (base : List (List ℕ)) (items : List Item) (lost : ℕ) (members : List ℕ) (page word : ℕ) → WordWritersPass items page word (λ who. has_member who members ≡ true)
    → (value_of base (live_entries (items ++ item.Mark (Rollback lost members) ∷ [])) page word ≡ value_of base (stable_entries items) page word)
    × (value_of base (stable_entries (items ++ item.Mark (Rollback lost members) ∷ [])) page word ≡ value_of base (stable_entries items) page word)
theirs_after_rollback base items lost members page word pass = (
  value_by_part base is_live is_stable items (Rollback lost members) page word (λ who. refl) (λ who. refl)
      (λ write inside writes. ap (λ (b : Bool). is_live (cond b Dropped Open)) (pass write inside writes)),
  value_by_part base is_stable is_stable items (Rollback lost members) page word (λ who. refl) (λ who. refl)
      (λ write inside writes. ap (λ (b : Bool). is_stable (cond b Dropped Open)) (pass write inside writes)),
)

-- and of a word whose open writes are of others
pub others_after_mark : (base : List (List ℕ)) (items : List Item) (mark : Mark) (page word : ℕ) → WordWritersPass items page word (λ who. has_member who (members_of mark) ≡ false)
    → (value_of base (live_entries (items ++ item.Mark mark ∷ [])) page word ≡ value_of base (live_entries items) page word)
    × (value_of base (stable_entries (items ++ item.Mark mark ∷ [])) page word ≡ value_of base (stable_entries items) page word)
others_after_mark base items mark page word pass = (
  value_by_part base is_live is_live items mark page word (λ who. refl) (λ who. refl)
      (λ write inside writes. ap (λ (b : Bool). is_live (cond b (fate_by mark) Open)) (pass write inside writes)),
  value_by_part base is_stable is_stable items mark page word (λ who. refl) (λ who. refl)
      (λ write inside writes. ap (λ (b : Bool). is_stable (cond b (fate_by mark) Open)) (pass write inside writes)),
)
