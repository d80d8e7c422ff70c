use Rattle.std.specs.Prelude.{ℕ, ◌≡◌, refl, List, length, Result}
use Rattle.std.proofs.Common.{◌∙◌, ap}
use Rattle.std.proofs.lemmas.List.{length-set}
use Rattle.casper_words.specs.declared.call.Call.{Call}
use Rattle.casper_words.specs.declared.call.Op.{Op}
use Rattle.casper_words.specs.declared.call.Op.TheVariants as op
use Rattle.casper_words.specs.declared.page.Want.{Want}
use Rattle.casper_space.specs.Plain.{PlainPages, PlainStep, pages_after_op}
use Rattle.casper_shell.specs.declared.refusal.HoldRefusal.{HoldRefusal}

-- a hold of pages in memory changes nothing
abbrev pub PlainTurn : PlainPages → List Want → ℕ → Result (Unit {0}) HoldRefusal → PlainPages → Type 0
PlainTurn before wants calls result after = after ≡ before

length_after : (kind : Op) (pages : List (List ℕ)) (page word value : ℕ) → length (pages_after_op kind pages page word value) ≡ length pages
length_after op.Read pages page word value = refl
length_after op.Write pages page word value = length-set pages page _
length_after op.Touch pages page word value = refl

-- no call changes the number of pages
pub plain_pages_stay : (before : PlainPages) (call : Call) (after : PlainPages) → PlainStep before call after → length after.pages ≡ length before.pages
plain_pages_stay before call after step = ap (λ (pages : List (List ℕ)). length pages) step.pages ∙ length_after call.op before.pages call.page call.word call.value
