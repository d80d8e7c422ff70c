use Rattle.std.proofs.Common.{◌≡◌, ℕ, Bool, false, List, [], Option, Some, None, Result, Ok, Err, ap, sym, subst, ◌∙◌, refl, inl, inr, ◌⊎◌, IfSome}
use Rattle.casper_audit.specs.declared.verdict.AuditFault.{AuditFault}
use Rattle.casper_audit.specs.declared.verdict.AuditFault.TheVariants as trail_fault
use Rattle.casper_audit.specs.declared.verdict.Verdict.{Verdict}
use Rattle.casper_audit.specs.declared.verdict.Verdict.TheVariants as verdict
use Rattle.casper_audit.specs.Verdicts.{IsAudit}
use Rattle.casper_io.specs.Told.{WhereTold}
use Rattle.casper_io.specs.Lines.{TakesEnd}
use Rattle.casper_trail.specs.declared.item.Item.{Item}
use Rattle.casper_disk.specs.Vault.{Saved}
use Rattle.casper_space.specs.declared.answer.Answer.{Answer}
use Rattle.casper_app.specs.declared.cause.Cause.{Cause}
use Rattle.casper_app.specs.declared.cause.Cause.TheVariants as cause
use Rattle.casper_app.specs.declared.end.End.{End}
use Rattle.casper_app.specs.declared.end.End.TheVariants as end
use Rattle.casper_app.specs.declared.replay.Replay.{Replay}
use Rattle.casper_app.specs.Reading.{IsReading}
use Rattle.casper_app.specs.Ending.{EndsWith, IsReadAndDone, RunsAudit, RunsRefusal, end_of_audit}
use Rattle.casper_app.specs.Texts.{tells_number}

-- How a call ends.

-- words are refused for no fault of the sink
pub not_write : (refused : Cause) → (refused ≡ cause.Usage) ⊎ (refused ≡ cause.Unbuilt 0) → refused ≡ cause.Write → ⊥
not_write refused why write = elim why [ inl usage ↦ cc | inr unbuilt ↦ cc ]

-- words were refused
pub runs_refusal : (refused : Cause) (left taken taken_after : Option (List ℕ)) (answers : List Answer) (items : List Item) (last : End) → EndsWith (end.Stopped refused) last taken taken_after
    → answers ≡ [] → items ≡ [] → RunsRefusal refused left left taken taken_after answers items last
runs_refusal refused left taken taken_after answers items last ending no_answers no_items = record {
  out = ending.out;
  taken_is = ending.taken;
  refusal = record {
    unread = refl;
    answered = no_answers;
    recorded = no_items;
    said = ending.said;
    said_is = ending.said_is;
    written = ending.written;
  };
}

end_told : (rest after : Option (List ℕ)) → WhereTold rest after (TakesEnd []) → IfSome after (λ left. left ≡ [])
end_told None None h = tt
end_told None (Some after) h = absurd h
end_told (Some rest) None h = absurd h
end_told (Some rest) (Some after) h = h.rest

-- where the source was read to its end, it is there
pub done_at_end : {V : Type 0} {tells : Bool} {faults moment : V → ℕ} {since : V → ℕ → Saved → Type 0} {left left_after taken between : Option (List ℕ)} {old new : Replay V} (count : ℕ)
    → IsReading tells faults moment since left left_after taken between old new (Ok count) → IfSome left_after (λ bytes. bytes ≡ [])
done_at_end {V} {tells} {faults} {moment} {since} {left} {left_after} count reading = end_told reading.rest left_after reading.ends.0

-- only an audit that read the whole text means to be done
pub audit_done : (found : Result Verdict AuditFault) (left left_after : Option (List ℕ)) → IsAudit left left_after found → IsReadAndDone (end_of_audit found) → IfSome left_after (λ bytes. bytes ≡ [])
audit_done (Ok (verdict.Legal entries)) left left_after audit done = end_told audit.rest left_after audit.ends.1
audit_done (Ok (verdict.FirstBad at rule)) left left_after audit done = absurd done
audit_done (Err trail_fault.Memory) left left_after audit done = absurd done
audit_done (Err trail_fault.Read) left left_after audit done = absurd done
audit_done (Err (trail_fault.BadLine number)) left left_after audit done = absurd done

pub audit_read : (found : Result Verdict AuditFault) → end_of_audit found ≡ end.Stopped cause.Read → found ≡ Err trail_fault.Read
audit_read (Ok (verdict.Legal entries)) same = cc
audit_read (Ok (verdict.FirstBad at rule)) same = cc
audit_read (Err trail_fault.Memory) same = cc
audit_read (Err trail_fault.Read) same = refl
audit_read (Err (trail_fault.BadLine number)) same = cc

pub audit_writes_not : (found : Result Verdict AuditFault) → end_of_audit found ≡ end.Stopped cause.Write → ⊥
audit_writes_not (Ok (verdict.Legal entries)) same = cc
audit_writes_not (Ok (verdict.FirstBad at rule)) same = cc
audit_writes_not (Err trail_fault.Memory) same = cc
audit_writes_not (Err trail_fault.Read) same = cc
audit_writes_not (Err (trail_fault.BadLine number)) same = cc

pub done_meant : (meant last : End) → (last ≡ meant) ⊎ (last ≡ end.Stopped cause.Write) ⊎ (last ≡ end.Stopped cause.Memory) → IsReadAndDone last → IsReadAndDone meant
done_meant meant last ended done = elim ended [
  | inl same ↦ subst IsReadAndDone same done
  | inr other ↦ absurd (elim other [ inl write ↦ subst IsReadAndDone write done | inr memory ↦ subst IsReadAndDone memory done ])
]

pub read_meant : (meant last : End) → (last ≡ meant) ⊎ (last ≡ end.Stopped cause.Write) ⊎ (last ≡ end.Stopped cause.Memory) → last ≡ end.Stopped cause.Read → meant ≡ end.Stopped cause.Read
read_meant meant last ended read = elim ended [
  | inl same ↦ sym same ∙ read
  | inr other ↦ absurd (elim other [
    | inl write ↦ (let no : end.Stopped cause.Write ≡ end.Stopped cause.Read = sym write ∙ read in cc)
    | inr memory ↦ (let no : end.Stopped cause.Memory ≡ end.Stopped cause.Read = sym memory ∙ read in cc)
  ])
]

-- a call whose source failed ends so, unless the sink fails
pub source_by : (meant last : End) (before after : ℕ) → (meant ≡ end.Stopped cause.Read) ⊎ (after ≡ before)
    → (tells_number meant ≡ false → (last ≡ meant) ⊎ (last ≡ end.Stopped cause.Write))
    → (last ≡ end.Stopped cause.Read) ⊎ (last ≡ end.Stopped cause.Write) ⊎ (after ≡ before)
source_by meant last before after why ended = elim why [
  | inl read ↦ elim (ended (ap tells_number read)) [ inl same ↦ inl (same ∙ read) | inr write ↦ inr (inl write) ]
  | inr same ↦ inr (inr same)
]

-- one cause stopped both
pub stopped_by : (why other : Cause) → ◌≡◌ {A = Result ℕ Cause} (Err why) (Err other) → end.Stopped why ≡ end.Stopped other
stopped_by why other same = ap end.Stopped (let causes : why ≡ other = cc in causes)

-- an audit and the line that tells how it ended
pub runs_audit : (found : Result Verdict AuditFault) (meant last : End) (left left_after taken taken_after : Option (List ℕ)) (answers : List Answer) (items : List Item)
    → IsAudit left left_after found → meant ≡ end_of_audit found → EndsWith meant last taken taken_after → answers ≡ [] → items ≡ []
    → RunsAudit left left_after taken taken_after answers items last
runs_audit found meant last left left_after taken taken_after answers items audit same ending no_answers no_items = record {
  found = found;
  audit = audit;
  ends = subst (λ (e : End). EndsWith e last taken taken_after) same ending;
  answered = no_answers;
  recorded = no_items;
}

-- how a call ended after all, by another name of how it meant to end
pub end_by : (meant meant' last : End) → meant ≡ meant' → (last ≡ meant) ⊎ (last ≡ end.Stopped cause.Write) ⊎ (last ≡ end.Stopped cause.Memory)
    → (last ≡ meant') ⊎ (last ≡ end.Stopped cause.Write) ⊎ (last ≡ end.Stopped cause.Memory)
end_by meant meant' last same ended = subst (λ (e : End). (last ≡ e) ⊎ (last ≡ end.Stopped cause.Write) ⊎ (last ≡ end.Stopped cause.Memory)) same ended
