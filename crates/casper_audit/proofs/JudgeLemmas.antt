use Rattle.std.proofs.Common.{◌≡◌, ◌<◌, ℕ, Bool, true, false, not, ◌==◌, List, Option, Some, None, sym, subst, ◌∙◌, refl}
use Rattle.std.specs.Prelude.{MatchBool, MatchOption}
use Rattle.std.proofs.lemmas.Bool.{eqb-true, eqb-false}
use Rattle.casper_words.specs.declared.call.Op.{Op}
use Rattle.casper_words.specs.declared.call.Op.TheVariants.{Read}
use Rattle.casper_trail.specs.declared.entry.Entry.{Entry}
use Rattle.casper_trail.specs.declared.mark.Mark.{Mark}
use Rattle.casper_trail.specs.declared.item.Item.{Item}
use Rattle.casper_trail.specs.declared.item.Item.TheVariants as item
use Rattle.casper_trail.specs.Value.{value_of}
use Rattle.casper_trail.specs.Legal.{IfRead, IsRightAfter}
use Rattle.casper_trail.specs.Marks.{IsExactMark}
use Rattle.casper_audit.specs.declared.verdict.AuditRule.{AuditRule}
use Rattle.casper_audit.specs.Text.{most_pages}
use Rattle.casper_audit.specs.Verdicts.{IsBad, IsGood}

pub within_pages : (page : ℕ) → page < 262144 → page < most_pages
unfolding most_pages
within_pages page below = below

-- a read is right where its value is the word's
pub read_judged : (base : List (List ℕ)) (entries : List Entry) (entry : Entry) (live : ℕ) → entry.op ≡ Read → live ≡ value_of base entries entry.page entry.word
    → MatchBool (not (live == entry.value)) (¬ IsRightAfter base entries entry) (IsRightAfter base entries entry)
read_judged base entries entry live reads is = by_value (live == entry.value) refl
  where
    by_value : (b : Bool) → (live == entry.value) ≡ b → MatchBool (not b) (¬ IsRightAfter base entries entry) (IsRightAfter base entries entry)
    by_value true e = subst (λ (op : Op). IfRead op (entry.value ≡ value_of base entries entry.page entry.word)) (sym reads) (sym (eqb-true live entry.value e) ∙ is)
    by_value false e = λ right. eqb-false live entry.value e (is ∙ sym (subst (λ (op : Op). IfRead op (entry.value ≡ value_of base entries entry.page entry.word)) reads right))

-- a mark is good where its members are exact
pub mark_judged : (base : List (List ℕ)) (items : List Item) (mark : Mark) (found : Option AuditRule)
    → MatchOption found (IsExactMark items mark) (λ rule. IsBad rule base items (item.Mark mark))
    → MatchOption found (IsGood base items (item.Mark mark)) (λ rule. IsBad rule base items (item.Mark mark))
mark_judged base items mark None exact = (tt, exact)
mark_judged base items mark (Some rule) bad = bad
