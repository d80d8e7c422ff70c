use Rattle.std.proofs.Common.{◌≡◌, ◌<◌, ◌≤◌, ◌+◌, ℕ, arith, Bool, true, false, List, [], ◌∷◌, ◌++◌, length, length-append, Option, Some, None, Result, Ok, Err, ap, sym, subst, ◌∙◌, refl, inl, inr}
use Rattle.std.specs.Prelude.{option_and_then, MatchBool, IsErrAnd}
use Rattle.std.proofs.lemmas.Bool.{true≢false}
use Rattle.casper_io.specs.Lines.{TakesLine, TakesEnd}
use Rattle.casper_io.specs.declared.lines.Next.TheVariants as next
use Rattle.casper_io.specs.Reading.{most_lines, ReadsLines}
use Rattle.casper_io.specs.Told.{WhereTold}
use Rattle.casper_io.proofs.LinesRead.{reads_more}
use Rattle.casper_trail.proofs.Values.{fold_append}
use Rattle.casper_audit.specs.declared.auditor.Auditor.{Auditor}
use Rattle.casper_audit.specs.declared.verdict.Verdict.{Verdict}
use Rattle.casper_audit.specs.declared.verdict.Verdict.TheVariants as verdict
use Rattle.casper_audit.specs.declared.verdict.AuditFault.{AuditFault}
use Rattle.casper_audit.specs.declared.verdict.AuditFault.TheVariants as fault
use Rattle.casper_audit.specs.Lines.{line_parsed}
use Rattle.casper_audit.specs.Text.{TrailText, no_text, after_line, text_of}
use Rattle.casper_audit.specs.Verdicts.{IsAudit}
use Rattle.casper_audit.specs.Auditor.{HasTaken, StandsAfter, TakesParsed, NoLine}

-- an auditor stands after so many lines
pub record Behind (first left : Option (List ℕ)) (count : ℕ) (auditor : Auditor) : Type 0 where
  pub lines : List (List ℕ)
  pub counted : length lines ≡ count
  pub reads : ReadsLines first lines left
  pub text : TrailText
  pub says : text_of lines ≡ Some text
  pub stands : HasTaken text auditor

pub behind_none : (left : Option (List ℕ)) (auditor : Auditor) → HasTaken no_text auditor → Behind left left 0 auditor
behind_none left auditor stands = record { lines = []; counted = refl; reads = refl; text = no_text; says = refl; stands = stands }

pub behind_more : {first left last : Option (List ℕ)} {count : ℕ} {auditor auditor' : Auditor} (line : List ℕ) (behind : Behind first left count auditor) → WhereTold left last (TakesLine line)
    → StandsAfter (line_parsed line) behind.text auditor' → Behind first last (count + 1) auditor'
behind_more {first} {left} {last} {count} line behind takes after = record {
  lines = behind.lines ++ line ∷ [];
  counted = length-append behind.lines (line ∷ []) ∙ ap (λ (n : ℕ). n + 1) behind.counted;
  reads = reads_more first behind.lines left line last behind.reads takes;
  text = after.after;
  says = fold_append (λ (text : Option TrailText) (one : List ℕ). option_and_then (λ before. after_line before one) text) (Some no_text) behind.lines (line ∷ [])
      ∙ ap (option_and_then (λ (before : TrailText). after_line before line)) behind.says ∙ after.is;
  stands = after.stands;
}

-- want of memory before a line was read
pub audit_without : (left : Option (List ℕ)) → IsAudit left left (Err fault.Memory)
audit_without left = record {
  lines = [];
  rest = left;
  reads = refl;
  few = omega arith;
  text = no_text;
  says = refl;
  legal = tt;
  exact = tt;
  ends = inl refl;
}

module _ {first left last : Option (List ℕ)} {count : ℕ} {auditor : Auditor} (behind : Behind first left count auditor) where
  -- the text has ended
  pub audit_ended : (entries : ℕ) → count ≤ most_lines → WhereTold left last (TakesEnd []) → entries ≡ auditor.entries → IsAudit first last (Ok (verdict.Legal entries))
  audit_ended entries few takes counts = record {
    lines = behind.lines;
    rest = left;
    reads = behind.reads;
    few = omega (arith, behind.counted);
    text = behind.text;
    says = behind.says;
    legal = behind.stands.legal;
    exact = behind.stands.exact;
    ends = (counts ∙ behind.stands.entries, takes);
  }

  -- no line stood next
  pub audit_failed : (why : AuditFault) → count ≤ most_lines → NoLine why (count + 1) left last → IsAudit first last (Err why)
  audit_failed fault.Memory few none = absurd none
  audit_failed fault.Read few none = record {
    lines = behind.lines;
    rest = left;
    reads = behind.reads;
    few = omega (arith, behind.counted);
    text = behind.text;
    says = behind.says;
    legal = behind.stands.legal;
    exact = behind.stands.exact;
    ends = none;
  }
  audit_failed (fault.BadLine n) few none = record {
    lines = behind.lines;
    rest = left;
    reads = behind.reads;
    few = omega (arith, behind.counted);
    text = behind.text;
    says = behind.says;
    legal = behind.stands.legal;
    exact = behind.stands.exact;
    ends = (none.0 ∙ ap (λ (k : ℕ). k + 1) (sym behind.counted), (none.1, inl none.2));
  }

  -- one line too many stood next
  pub audit_past : (line : List ℕ) → count ≡ most_lines → WhereTold left last (TakesLine line) → IsAudit first last (Err (fault.BadLine (most_lines + 1)))
  audit_past line most takes = record {
    lines = behind.lines;
    rest = left;
    reads = behind.reads;
    few = omega (arith, behind.counted, most);
    text = behind.text;
    says = behind.says;
    legal = behind.stands.legal;
    exact = behind.stands.exact;
    ends = (ap (λ (k : ℕ). k + 1) (sym (behind.counted ∙ most)), (line, inr (takes, inr refl)));
  }

  -- the item of the next line is bad
  pub audit_bad : (line : List ℕ) (said : Verdict) (auditor' : Auditor) → count < most_lines → WhereTold left last (TakesLine line)
      → TakesParsed (count + 1) (line_parsed line) behind.text auditor' (Ok (Some said)) → IsAudit first last (Ok said)
  audit_bad line (verdict.Legal entries) auditor' few takes found = absurd found
  audit_bad line (verdict.FirstBad at which) auditor' few takes found = record {
    lines = behind.lines;
    rest = left;
    reads = behind.reads;
    few = omega (arith, behind.counted);
    text = behind.text;
    says = behind.says;
    legal = behind.stands.legal;
    exact = behind.stands.exact;
    ends = (found.place, omega (arith, behind.counted), record { line = line; takes = takes; next = found.next; says = found.says; bad = found.is_bad });
  }

  -- the next line is bad, or memory was short
  pub audit_refused : (line : List ℕ) (why : AuditFault) (auditor' : Auditor) → count < most_lines → WhereTold left last (TakesLine line)
      → TakesParsed (count + 1) (line_parsed line) behind.text auditor' (Err why) → IsAudit first last (Err why)
  audit_refused line fault.Read auditor' few takes found = absurd found
  audit_refused line fault.Memory auditor' few takes found = record {
    lines = behind.lines;
    rest = left;
    reads = behind.reads;
    few = omega (arith, behind.counted);
    text = behind.text;
    says = behind.says;
    legal = behind.stands.legal;
    exact = behind.stands.exact;
    ends = inr (Ok next.Line, line, takes);
  }
  audit_refused line (fault.BadLine n) auditor' few takes found = record {
    lines = behind.lines;
    rest = left;
    reads = behind.reads;
    few = omega (arith, behind.counted);
    text = behind.text;
    says = behind.says;
    legal = behind.stands.legal;
    exact = behind.stands.exact;
    ends = (found.0 ∙ ap (λ (k : ℕ). k + 1) (sym behind.counted), (line, inr (takes, inl found.1)));
  }

-- a line stood next
pub is_line : (P Q : Type 0) (found : Bool) → found ≡ true → MatchBool found P Q → P
is_line P Q true e h = h
is_line P Q false e h = absurd (true≢false (sym e))

-- the line was taken, and no item is bad
pub taken_line : (number : ℕ) (bytes line : List ℕ) (text : TrailText) (auditor : Auditor) (found : Option Verdict) → bytes ≡ line → found ≡ None
    → TakesParsed number (line_parsed bytes) text auditor (Ok found) → StandsAfter (line_parsed line) text auditor
taken_line number bytes line text auditor None same none takes = subst (λ (b : List ℕ). StandsAfter (line_parsed b) text auditor) same takes
taken_line number bytes line text auditor (Some said) same none takes = absurd (let h : Some said ≡ None = none in cc)

-- what holds of the one error holds of the result
pub err_is : {T : Type 0} (result : Result T AuditFault) (why : AuditFault) (P : Result T AuditFault → Type 0) → IsErrAnd result (λ e. e ≡ why) → P (Err why) → P result
err_is (Ok x) why P fails h = absurd fails
err_is {T} (Err e) why P fails h = subst (λ (f : AuditFault). P (Err f)) (sym fails) h
