use Rattle.std.proofs.Common.{◌≡◌, ◌+◌, ℕ, Bool, false, Vec, replicate, ◌∷◌, ◌++◌, ◌∙◌, [], List, length, refl, ap, arith, length-append}
use Rattle.casper_disk.specs.Calls.{KeepsRecord, IsArmed}
use Rattle.casper_disk.specs.Disk.{IsLooseWithin}
use Rattle.casper_disk.specs.MemDisk.{Held}
use Rattle.casper_disk.specs.Record.{content_before, content_at, loose_at}
use Rattle.casper_disk.specs.Plan.{armed_with}
use Rattle.casper_disk.specs.declared.fail.Fail.{Fail}
use Rattle.casper_disk.specs.declared.step.Step.{Step}
use Rattle.casper_disk.specs.declared.step.Step.TheVariants as step
use Rattle.std.specs.declared.alloc.Global.{Global}
use Rattle.casper_disk.proofs.RecordLemmas.{content_at_before, loose_at_before}

-- a call with a step, which taken back gives the content before it, keeps the record
pub step_keeps : (before after : Held) (last : Step) → after.steps ≡ before.steps ++ last ∷ []
    → content_before (last ∷ []) after.content ≡ before.content → KeepsRecord before after
step_keeps before after last is undone = record {
  later = omega (arith, ap length is, length-append before.steps (last ∷ []));
  content = λ moment within. ap (λ (steps : List Step). content_at steps after.content moment) is
      ∙ content_at_before before.steps last before.content after.content moment within undone;
  loose = λ moment within. ap (λ (steps : List Step). loose_at steps moment) is ∙ loose_at_before before.steps last moment within;
}

-- a disk with a new record, by its parts
pub armed_by_parts : (fails : List Fail) (calls : ℕ) (before after : Held) (missed : Vec Bool Global) → missed.items ≡ before.marks
    → after.content ≡ before.content → after.steps ≡ before.steps ++ step.Missed missed ∷ [] → after.armed ≡ length after.steps → after.room ≡ calls
    → after.marks ≡ replicate (length before.content) false → after.plan ≡ armed_with fails before.plan → IsArmed fails calls before after
armed_by_parts fails calls before after missed marked content steps armed room marks plan =
    let count : after.armed ≡ length before.steps + 1 = armed ∙ ap length steps ∙ length-append before.steps (step.Missed missed ∷ []) in
    let parts : after ≡ record { content = after.content; steps = after.steps; armed = after.armed; room = after.room; marks = after.marks; plan = after.plan } = refl in
    record { missed = missed; marked = marked; disk = cc }

-- what is loose is within itself
pub all_within : (old new : ℕ → Bool) → new ≡ old → IsLooseWithin old new
all_within old new same = λ at out. ap (λ (loose : ℕ → Bool). loose at) same ∙ out
