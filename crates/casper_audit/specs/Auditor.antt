use Rattle.std.specs.Prelude.{◌≡◌, ℕ, List, length, Option, Some, None, Result, Ok, Err}
use Rattle.casper_io.specs.Lines.{TakesPart, TakesTooLong}
use Rattle.casper_io.specs.Told.{WhereTold}
use Rattle.casper_trail.specs.declared.item.Item.{Item}
use Rattle.casper_trail.specs.TrailView.{entry_count}
use Rattle.casper_trail.specs.Legal.{IsLegal}
use Rattle.casper_trail.specs.Marks.{HasExactMarks}
use Rattle.casper_audit.specs.declared.auditor.Auditor.{Auditor}
use Rattle.casper_audit.specs.declared.parse.Parsed.{Parsed}
use Rattle.casper_audit.specs.declared.parse.Parsed.TheVariants as parsed
use Rattle.casper_audit.specs.declared.verdict.Verdict.{Verdict}
use Rattle.casper_audit.specs.declared.verdict.Verdict.TheVariants as verdict
use Rattle.casper_audit.specs.declared.verdict.AuditFault.{AuditFault}
use Rattle.casper_audit.specs.declared.verdict.AuditFault.TheVariants as fault
use Rattle.casper_audit.specs.Text.{TrailText, base_of, last_word, after_parsed}
use Rattle.casper_audit.specs.Keeps.{IsLedger}
use Rattle.casper_audit.specs.Verdicts.{IsBad}

-- an auditor stands after a text of which no item is bad
pub record HasTaken (text : TrailText) (auditor : Auditor) : Type 0 where
  pub ledger : IsLedger (base_of text.words) text.items auditor.ledger
  pub last : auditor.last ≡ last_word text.words
  pub items : auditor.items ≡ length text.items
  pub entries : auditor.entries ≡ entry_count text.items
  pub legal : IsLegal (base_of text.words) text.items
  pub exact : HasExactMarks text.items

-- the auditor stands after one line more
pub record StandsAfter (said : Parsed) (text : TrailText) (auditor : Auditor) : Type 0 where
  pub after : TrailText
  pub is : after_parsed text said ≡ Some after
  pub stands : HasTaken after auditor

-- the item that a line says is the first bad one
pub record FoundBad (said : Parsed) (text : TrailText) (at : ℕ) (bad : Item → Type 0) : Type 0 where
  pub next : Item
  pub says : said ≡ parsed.Item next
  pub place : at ≡ length text.items
  pub is_bad : bad next

-- what a line of this number said was taken after a text, or refused
abbrev pub TakesParsed : ℕ → Parsed → TrailText → Auditor → Result (Option Verdict) AuditFault → Type 0
TakesParsed number said text auditor (Ok None) = StandsAfter said text auditor
TakesParsed number said text auditor (Ok (Some (verdict.Legal entries))) = ⊥
TakesParsed number said text auditor (Ok (Some (verdict.FirstBad at which))) = FoundBad said text at (IsBad which (base_of text.words) text.items)
TakesParsed number said text auditor (Err fault.Memory) = Unit {0}
TakesParsed number said text auditor (Err fault.Read) = ⊥
TakesParsed number said text auditor (Err (fault.BadLine n)) = (n ≡ number) × (after_parsed text said ≡ None)

-- no line stands next: the source failed, or a line is too long
abbrev pub NoLine : AuditFault → ℕ → Option (List ℕ) → Option (List ℕ) → Type 0
NoLine fault.Memory number before after = ⊥
NoLine fault.Read number before after = (part : List ℕ) × WhereTold before after (TakesPart part)
NoLine (fault.BadLine n) number before after = (n ≡ number) × (line : List ℕ) × WhereTold before after (TakesTooLong line)
