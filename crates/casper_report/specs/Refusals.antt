use Rattle.std.specs.Prelude.{ℕ, Bool, true, false, List, codes}
use Rattle.casper_report.specs.Texts.{as_line, pair_line, word_line}
use Rattle.casper_report.specs.declared.refusal.Refusal.{Refusal}
use Rattle.casper_report.specs.declared.refusal.Refusal.TheVariants as refusal

-- the line for a store that was refused
abbrev pub refusal_line : Refusal → List ℕ
refusal_line refusal.NoSuch = as_line (codes "refused nosuch")
refusal_line refusal.Exists = as_line (codes "refused exists")
refusal_line refusal.NotAStore = as_line (codes "refused notastore")
refusal_line (refusal.Version number) = word_line (codes "refused version") number
refusal_line (refusal.BadSize pages frames) = pair_line (codes "refused badsize") pages frames
refusal_line (refusal.Short need have) = pair_line (codes "refused short") need have
refusal_line refusal.NoRoot = as_line (codes "refused noroot")
refusal_line (refusal.BadBody seq count) = pair_line (codes "refused badbody") seq count
refusal_line (refusal.BadMap page frame) = pair_line (codes "refused badmap") page frame

-- whether that line tells a number: its text takes memory, and each other one is constant
abbrev pub counts : Refusal → Bool
counts refusal.NoSuch = false
counts refusal.Exists = false
counts refusal.NotAStore = false
counts refusal.NoRoot = false
counts (refusal.Version number) = true
counts (refusal.BadSize pages frames) = true
counts (refusal.Short need have) = true
counts (refusal.BadBody seq count) = true
counts (refusal.BadMap page frame) = true
