use Rattle.std.proofs.Common.{List, [], ◌∷◌, ◌++◌, ℕ, sym, subst, append_assoc, append-nil}
use Rattle.casper_trail.specs.declared.entry.Entry.{Entry}
use Rattle.casper_trail.specs.declared.item.Item.{Item}
use Rattle.casper_trail.specs.declared.item.Item.TheVariants as item
use Rattle.casper_trail.specs.Parts.{live_entries, as_items}
use Rattle.casper_trail.specs.EachInTurn.{EachAfter}
use Rattle.casper_trail.specs.Legal.{IsLegalNext, AreRightAfter}
use Rattle.casper_trail.specs.Marks.{IsExactNext}
use Rattle.casper_trail.specs.LegalLaws.{LegalOfMoreEntries, LegalWithoutMarks, LegalAfterMark, LegalPrefix, ExactOfMoreEntries, ExactAfterMark, ExactPrefix, ExactAtEachMark, RightAtEachEntry}
use Rattle.casper_trail.proofs.Parts.{live_of_more_entries}

pub each_of_more : (P : List Item → Item → Type 0) (before items more : List Item)
    → EachAfter P before items → EachAfter P (before ++ items) more → EachAfter P before (items ++ more)
each_of_more P before [] more each each' = subst (λ start. EachAfter P start more) (append-nil before) each'
each_of_more P before (next ∷ items) more each each' =
    (each.0, each_of_more P (before ++ next ∷ []) items more each.1 (subst (λ start. EachAfter P start more) (sym (append_assoc before (next ∷ []) items)) each'))

pub each_of_prefix : (P : List Item → Item → Type 0) (before items more : List Item) → EachAfter P before (items ++ more) → EachAfter P before items
each_of_prefix P before [] more each = tt
each_of_prefix P before (next ∷ items) more each = (each.0, each_of_prefix P (before ++ next ∷ []) items more each.1)

pub each_of_rest : (P : List Item → Item → Type 0) (before items more : List Item) → EachAfter P before (items ++ more) → EachAfter P (before ++ items) more
each_of_rest P before [] more each = subst (λ start. EachAfter P start more) (sym (append-nil before)) each
each_of_rest P before (next ∷ items) more each =
    subst (λ start. EachAfter P start more) (append_assoc before (next ∷ []) items) (each_of_rest P (before ++ next ∷ []) items more each.1)

-- entries after items are legal in turn where each is right after the live ones
right_from_legal : (base : List (List ℕ)) (items : List Item) (more : List Entry)
    → EachAfter (IsLegalNext base) items (as_items more) → AreRightAfter base (live_entries items) more
right_from_legal base items [] each = tt
right_from_legal base items (next ∷ more) each =
    (each.0, subst (λ live. AreRightAfter base live more) (live_of_more_entries items (next ∷ [])) (right_from_legal base (items ++ item.Entry next ∷ []) more each.1))

legal_from_right : (base : List (List ℕ)) (items : List Item) (more : List Entry)
    → AreRightAfter base (live_entries items) more → EachAfter (IsLegalNext base) items (as_items more)
legal_from_right base items [] right = tt
legal_from_right base items (next ∷ more) right =
    (right.0, legal_from_right base (items ++ item.Entry next ∷ []) more (subst (λ live. AreRightAfter base live more) (sym (live_of_more_entries items (next ∷ []))) right.1))

pub legal_of_more_entries : LegalOfMoreEntries
legal_of_more_entries base items more = (
  λ legal. (
    each_of_prefix (IsLegalNext base) [] items (as_items more) legal,
    right_from_legal base items more (each_of_rest (IsLegalNext base) [] items (as_items more) legal),
  ),
  λ both. each_of_more (IsLegalNext base) [] items (as_items more) both.0 (legal_from_right base items more both.1),
)

pub legal_without_marks : LegalWithoutMarks
legal_without_marks base entries = (right_from_legal base [] entries, legal_from_right base [] entries)

pub legal_after_mark : LegalAfterMark
legal_after_mark base items mark legal = each_of_more (IsLegalNext base) [] items (item.Mark mark ∷ []) legal (tt, tt)

pub legal_prefix : LegalPrefix
legal_prefix base items more legal = each_of_prefix (IsLegalNext base) [] items more legal

exact_entries : (before : List Item) (more : List Entry) → EachAfter IsExactNext before (as_items more)
exact_entries before [] = tt
exact_entries before (next ∷ more) = (tt, exact_entries (before ++ item.Entry next ∷ []) more)

pub exact_of_more_entries : ExactOfMoreEntries
exact_of_more_entries items more exact = each_of_more IsExactNext [] items (as_items more) exact (exact_entries items more)

pub exact_after_mark : ExactAfterMark
exact_after_mark items mark exact is_exact = each_of_more IsExactNext [] items (item.Mark mark ∷ []) exact (is_exact, tt)

pub exact_prefix : ExactPrefix
exact_prefix items more exact = each_of_prefix IsExactNext [] items more exact

pub exact_at_each_mark : ExactAtEachMark
exact_at_each_mark before after mark exact = (each_of_rest IsExactNext [] before (item.Mark mark ∷ after) exact).0

pub right_at_each_entry : RightAtEachEntry
right_at_each_entry base before after entry legal = (each_of_rest (IsLegalNext base) [] before (item.Entry entry ∷ after) legal).0
