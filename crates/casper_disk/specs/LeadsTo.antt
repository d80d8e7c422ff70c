use Rattle.std.specs.Prelude.{◌≡◌, ◌++◌, ◌≤◌, List, [], length}
use Rattle.std.proofs.Common.{◌∙◌, refl, ap, sym, arith}
use Rattle.std.proofs.lemmas.List.{append-nil, append_assoc}
use Rattle.casper_disk.specs.File.{Filed}
use Rattle.casper_disk.specs.MemDisk.{Held}
use Rattle.casper_disk.specs.Calls.{KeepsRecord}
use Rattle.casper_disk.specs.MemVault.{HeldPages}
use Rattle.casper_disk.specs.Vault.{Saved}

-- what each call of a disk over a file keeps: it has as many blocks, and its faults never fall
pub record FiledLeadsTo (before after : Filed) : Type 0 where
  pub size : after.size ≡ before.size
  pub faults : before.faults ≤ after.faults

-- what each call of a disk in memory keeps: it has as many blocks, its record of earlier moments stays, the same calls are to fail,
-- and its faults never fall
pub record HeldLeadsTo (before after : Held) : Type 0 where
  pub size : length after.content ≡ length before.content
  pub kept : KeepsRecord before after
  pub fails : after.plan.fails ≡ before.plan.fails
  pub faults : before.plan.faults ≤ after.plan.faults

-- what each call of a vault in memory keeps: it has as many pages, its version never falls, and what it was before each earlier commit
-- stays
pub record PagesLeadTo (before after : HeldPages) : Type 0 where
  pub size : length after.pages ≡ length before.pages
  pub version : before.version ≤ after.version
  pub more : List Saved
  pub past : after.past ≡ before.past ++ more

-- each of them leads to itself, and on
pub filed_itself : (disk : Filed) → FiledLeadsTo disk disk
filed_itself disk = record { size = refl; faults = omega arith }

pub filed_on : (first second third : Filed) → FiledLeadsTo first second → FiledLeadsTo second third → FiledLeadsTo first third
filed_on first second third early late = record { size = late.size ∙ early.size; faults = omega (arith, early.faults, late.faults) }

pub held_itself : (disk : Held) → HeldLeadsTo disk disk
held_itself disk = record {
  size = refl;
  kept = record { later = omega arith; content = λ moment within. refl; loose = λ moment within. refl };
  fails = refl;
  faults = omega arith;
}

pub held_on : (first second third : Held) → HeldLeadsTo first second → HeldLeadsTo second third → HeldLeadsTo first third
held_on first second third early late = record {
  size = late.size ∙ early.size;
  kept = record {
    later = omega (arith, early.kept.later, late.kept.later);
    content = λ moment within. late.kept.content moment (omega (arith, within, early.kept.later)) ∙ early.kept.content moment within;
    loose = λ moment within. late.kept.loose moment (omega (arith, within, early.kept.later)) ∙ early.kept.loose moment within;
  };
  fails = late.fails ∙ early.fails;
  faults = omega (arith, early.faults, late.faults);
}

pub pages_themselves : (vault : HeldPages) → PagesLeadTo vault vault
pages_themselves vault = record { size = refl; version = omega arith; more = []; past = sym (append-nil vault.past) }

pub pages_on : (first second third : HeldPages) → PagesLeadTo first second → PagesLeadTo second third → PagesLeadTo first third
pages_on first second third early late = record {
  size = late.size ∙ early.size;
  version = omega (arith, early.version, late.version);
  more = early.more ++ late.more;
  past = late.past ∙ ap (λ (past : List Saved). past ++ late.more) early.past ∙ append_assoc first.past early.more late.more;
}
