use Rattle.std.proofs.Common.{◌≡◌, ℕ, List, [], ◌∷◌, ◌++◌, Bool, true, false, cond, ◌==◌, filter, refl, ap, sym, ◌∙◌, subst, append_assoc, append-nil}
use Rattle.std.proofs.lemmas.Bool.{cond_both, or_right, true≢false}
use Rattle.casper_trail.specs.declared.entry.Entry.{Entry}
use Rattle.casper_trail.specs.declared.item.Item.{Item}
use Rattle.casper_trail.specs.declared.item.Item.TheVariants as item
use Rattle.casper_trail.specs.Value.{writes_page, value_of}
use Rattle.casper_trail.specs.Fate.{Fate, Stable, Dropped, Open, fate_of, decided_first, is_live}
use Rattle.casper_trail.specs.Parts.{entries_where, live_entries}
use Rattle.casper_trail.specs.Clients.{AreOfClients}
use Rattle.casper_trail.specs.EachInTurn.{EachAfter}
use Rattle.casper_trail.specs.Legal.{IsLegalNext, IfRead, IsRightAfter, AreRightAfter}
use Rattle.casper_trail.specs.Marks.{HasExactMarks}
use Rattle.casper_trail.specs.CauseLaws.{LiveIsLegal}
use Rattle.casper_trail.proofs.Values.{value_by_its_page}
use Rattle.casper_trail.proofs.Parts.{fate_of_more, part_by, part_of_more}
use Rattle.casper_trail.proofs.InTurn.{legal_without_marks}
use Rattle.casper_trail.proofs.Causes.{cause_shares_fate}

-- whether an entry of a client is live after the items that follow too
lives_on : List Item → ℕ → Fate → Bool
lives_on following who fate = is_live (decided_first fate (fate_of who following))

-- the entries of the items before that are live after the items that follow
live_before : List Item → List Item → List Entry
live_before following before = entries_where (lives_on following) before

first_of_three : (one two three : Fate) → decided_first (decided_first one two) three ≡ decided_first one (decided_first two three)
first_of_three Stable two three = refl
first_of_three Dropped two three = refl
first_of_three Open two three = refl

-- one more item before, in place of one more that follows
live_before_next : (next : Item) (following before : List Item)
    → live_before following (before ++ next ∷ []) ≡ live_before (next ∷ following) before ++ entries_where (lives_on following) (next ∷ [])
unfolding live_before lives_on
live_before_next next following before =
    part_of_more (lives_on following) before (next ∷ [])
    ∙ ap (λ front. front ++ entries_where (lives_on following) (next ∷ []))
    (part_by (λ who fate. lives_on following who (decided_first fate (fate_of who (next ∷ [])))) (lives_on (next ∷ following))
    (λ who fate. ap is_live (first_of_three fate (fate_of who (next ∷ [])) (fate_of who following)
    ∙ ap (decided_first fate) (sym (fate_of_more who (next ∷ []) following)))) before)

-- lists that agree after a filter still do after an entry that both take where it passes
pub push_same : (pass : Entry → Bool) (entry : Entry) (a b : Bool) (xs ys : List Entry) → filter pass xs ≡ filter pass ys → (pass entry ≡ true → a ≡ b)
    → filter pass (cond a (entry ∷ xs) xs) ≡ filter pass (cond b (entry ∷ ys) ys)
push_same pass entry true true xs ys same equal = ap (λ (rest : List Entry). cond (pass entry) (entry ∷ rest) rest) same
push_same pass entry false false xs ys same equal = same
push_same pass entry true false xs ys same equal =
    cond_both (pass entry) (entry ∷ filter pass xs) (filter pass xs) (λ list. list ≡ filter pass ys) (λ passes. absurd (true≢false (equal passes))) (λ _. same)
push_same pass entry false true xs ys same equal =
    cond_both (pass entry) (entry ∷ filter pass ys) (filter pass ys) (λ list. filter pass xs ≡ list) (λ passes. absurd (true≢false (sym (equal passes)))) (λ _. same)

-- a live entry saw no write of its page that is dropped later
same_writes : (items : List Item) → AreOfClients items → HasExactMarks items → (entry : Entry) (following : List Item) → is_live (fate_of entry.who following) ≡ true
    → (before middle : List Item) → items ≡ before ++ (middle ++ item.Entry entry ∷ following)
    → filter (writes_page entry.page) (live_entries middle) ≡ filter (writes_page entry.page) (live_before following middle)
unfolding live_before lives_on
same_writes items clients exact entry following alive before [] split = refl
same_writes items clients exact entry following alive before (item.Mark mark ∷ middle) split =
    same_writes items clients exact entry following alive (before ++ item.Mark mark ∷ []) middle
    (split ∙ sym (append_assoc before (item.Mark mark ∷ []) (middle ++ item.Entry entry ∷ following)))
same_writes items clients exact entry following alive before (item.Entry write ∷ middle) split =
    push_same (writes_page entry.page) write (is_live (fate_of write.who middle)) (lives_on following write.who (fate_of write.who middle))
    (live_entries middle) (live_before following middle)
    (same_writes items clients exact entry following alive (before ++ item.Entry write ∷ []) middle
    (split ∙ sym (append_assoc before (item.Entry write ∷ []) (middle ++ item.Entry entry ∷ following))))
    (λ writes. by_fate (fate_of write.who middle)
    (λ open_then. ap is_live (cause_shares_fate before middle following write entry (subst AreOfClients split clients) (subst HasExactMarks split exact)
    (or_right (write.who == entry.who) (writes_page entry.page write) writes) open_then) ∙ alive))
  where
    by_fate : (fate : Fate) → (fate ≡ Open → is_live (fate_of write.who following) ≡ true) → is_live fate ≡ is_live (decided_first fate (fate_of write.who following))
    by_fate Stable lives = refl
    by_fate Dropped lives = refl
    by_fate Open lives = sym (lives refl)

-- what a read saw over one list it saw over another with the same writes of its page
pub right_over : (base : List (List ℕ)) (one other : List Entry) (entry : Entry)
    → filter (writes_page entry.page) one ≡ filter (writes_page entry.page) other → IsRightAfter base one entry → IsRightAfter base other entry
right_over base one other entry same right =
    let value : value_of base one entry.page entry.word ≡ value_of base other entry.page entry.word =
    value_by_its_page base one entry.page entry.word ∙ ap (λ entries. value_of base entries entry.page entry.word) same
    ∙ sym (value_by_its_page base other entry.page entry.word) in
    subst (λ v. IfRead entry.op (entry.value ≡ v)) value right

live_right : (base : List (List ℕ)) (items : List Item) → AreOfClients items → HasExactMarks items → (before following : List Item) → items ≡ before ++ following
    → EachAfter (IsLegalNext base) before following → AreRightAfter base (live_before following before) (live_entries following)
unfolding live_before lives_on
live_right base items clients exact before [] split legal = tt
live_right base items clients exact before (item.Mark mark ∷ following) split legal =
    subst (λ live. AreRightAfter base live (live_entries following))
    (live_before_next (item.Mark mark) following before ∙ append-nil (live_before (item.Mark mark ∷ following) before))
    (live_right base items clients exact (before ++ item.Mark mark ∷ []) following (split ∙ sym (append_assoc before (item.Mark mark ∷ []) following)) legal.1)
live_right base items clients exact before (item.Entry entry ∷ following) split legal =
    step (is_live (fate_of entry.who following)) refl
    (subst (λ live. AreRightAfter base live (live_entries following)) (live_before_next (item.Entry entry) following before)
    (live_right base items clients exact (before ++ item.Entry entry ∷ []) following (split ∙ sym (append_assoc before (item.Entry entry ∷ []) following)) legal.1))
  where
    step : (alive : Bool) → is_live (fate_of entry.who following) ≡ alive
        → AreRightAfter base (live_before (item.Entry entry ∷ following) before ++ entries_where (lives_on following) (item.Entry entry ∷ [])) (live_entries following)
        → AreRightAfter base (live_before (item.Entry entry ∷ following) before) (cond alive (entry ∷ live_entries following) (live_entries following))
    step true is rest = (
      right_over base (live_entries before) (live_before (item.Entry entry ∷ following) before) entry
          (same_writes items clients exact entry following is [] before split) legal.0,
      subst (λ alive. AreRightAfter base (live_before (item.Entry entry ∷ following) before ++ cond alive (entry ∷ []) []) (live_entries following)) is rest,
    )
    step false is rest =
        subst (λ live. AreRightAfter base live (live_entries following)) (append-nil (live_before (item.Entry entry ∷ following) before))
        (subst (λ alive. AreRightAfter base (live_before (item.Entry entry ∷ following) before ++ cond alive (entry ∷ []) []) (live_entries following)) is rest)

pub live_is_legal : LiveIsLegal
unfolding live_before
live_is_legal base items clients exact legal =
    (legal_without_marks base (live_entries items)).1 (live_right base items clients exact [] items refl legal)
