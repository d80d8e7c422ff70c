use Rattle.std.specs.Prelude.{◌≡◌, ◌≢◌, ℕ, ◌+◌, ◌<◌, ◌≤◌, List, [], length, Option, Some, Result, Ok, Err}
use Rattle.casper_io.specs.Lines.{TakesLine, TakesEnd, TakesPart}
use Rattle.casper_io.specs.Reading.{most_lines, ReadsLines, TakesAny}
use Rattle.casper_io.specs.Told.{WhereTold}
use Rattle.casper_trail.specs.declared.item.Item.{Item}
use Rattle.casper_trail.specs.declared.item.Item.TheVariants as item
use Rattle.casper_trail.specs.declared.mark.Mark.TheVariants.{Commit, Rollback}
use Rattle.casper_trail.specs.Parts.{live_entries}
use Rattle.casper_trail.specs.TrailView.{entry_count}
use Rattle.casper_trail.specs.Legal.{IsLegal, IsLegalNext, IsRightAfter}
use Rattle.casper_trail.specs.Marks.{HasExactMarks, IsExactNext}
use Rattle.casper_trail.specs.Association.{association_of}
use Rattle.casper_audit.specs.declared.parse.Parsed.TheVariants as parsed
use Rattle.casper_audit.specs.declared.verdict.AuditRule.{AuditRule}
use Rattle.casper_audit.specs.declared.verdict.AuditRule.TheVariants as rule
use Rattle.casper_audit.specs.declared.verdict.Verdict.{Verdict}
use Rattle.casper_audit.specs.declared.verdict.Verdict.TheVariants as verdict
use Rattle.casper_audit.specs.declared.verdict.AuditFault.{AuditFault}
use Rattle.casper_audit.specs.declared.verdict.AuditFault.TheVariants as fault
use Rattle.casper_audit.specs.Lines.{line_parsed}
use Rattle.casper_audit.specs.Text.{TrailText, base_of, text_of}
use Rattle.casper_audit.specs.Reading.{TakesBadLine}

-- an item after others is bad: a read has not the value of its word over the entries that are live before it, or the members of a mark
-- are not the association, in the items before it, of its lead or of the client that was lost
abbrev pub IsBad : AuditRule → List (List ℕ) → List Item → Item → Type 0
IsBad rule.Read base before (item.Entry entry) = ¬ IsRightAfter base (live_entries before) entry
IsBad rule.Read base before (item.Mark mark) = ⊥
IsBad rule.Commit base before (item.Entry entry) = ⊥
IsBad rule.Commit base before (item.Mark (Commit lead members)) = members ≢ association_of before lead
IsBad rule.Commit base before (item.Mark (Rollback lost members)) = ⊥
IsBad rule.Rollback base before (item.Entry entry) = ⊥
IsBad rule.Rollback base before (item.Mark (Commit lead members)) = ⊥
IsBad rule.Rollback base before (item.Mark (Rollback lost members)) = members ≢ association_of before lost

-- an item after others is not bad
abbrev pub IsGood : List (List ℕ) → List Item → Item → Type 0
IsGood base before next = IsLegalNext base before next × IsExactNext before next

-- a line stands next whose item is bad after the text before it
pub record TakesBadItem (which : AuditRule) (text : TrailText) (before after : Option (List ℕ)) : Type 0 where
  pub line : List ℕ
  pub takes : WhereTold before after (TakesLine line)
  pub next : Item
  pub says : line_parsed line ≡ parsed.Item next
  pub bad : IsBad which (base_of text.words) text.items next

-- after so many lines that say a text, the audit ended with this result
abbrev pub EndsWith : Result Verdict AuditFault → TrailText → ℕ → Option (List ℕ) → Option (List ℕ) → Type 0
EndsWith (Ok (verdict.Legal entries)) text count before after = (entries ≡ entry_count text.items) × WhereTold before after (TakesEnd [])
EndsWith (Ok (verdict.FirstBad at which)) text count before after = (at ≡ length text.items) × (count < most_lines) × TakesBadItem which text before after
EndsWith (Err fault.Memory) text count before after = TakesAny before after
EndsWith (Err fault.Read) text count before after = (part : List ℕ) × WhereTold before after (TakesPart part)
EndsWith (Err (fault.BadLine number)) text count before after = (number ≡ count + 1) × TakesBadLine text number before after

-- an audit from the bytes left before to those left after it, with its result
pub record IsAudit (before after : Option (List ℕ)) (result : Result Verdict AuditFault) : Type 0 where
  -- the lines that were read whole, and what was left after them
  pub lines : List (List ℕ)
  pub rest : Option (List ℕ)
  pub reads : ReadsLines before lines rest
  pub few : length lines ≤ most_lines
  -- what they say: no line and no item among them is bad
  pub text : TrailText
  pub says : text_of lines ≡ Some text
  pub legal : IsLegal (base_of text.words) text.items
  pub exact : HasExactMarks text.items
  -- why the audit ended there
  pub ends : EndsWith result text (length lines) rest after
