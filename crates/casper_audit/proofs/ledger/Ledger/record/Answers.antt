use Rattle.std.proofs.Common.{[], ◌∷◌, ◌++◌, sym, subst}
use Rattle.casper_trail.specs.declared.item.Item.{Item}
use Rattle.casper_trail.specs.Marks.{IsExactNext}
use Rattle.casper_audit.specs.Keeps.{IsLedger}
use Rattle.casper_audit.proofs.OutcomeLemmas.{on_ok}
use Rattle.casper_audit.proofs.ledger.Ledger.record.Goals as goal

pub returns-in-Entry : goal.returns-in-Entry
returns-in-Entry c = on_ok c.add.result
    (λ adds base items exact keeps. subst (λ (next : Item). IsLedger base (items ++ next ∷ []) c.add.new.self) (sym c.in-Entry.is) (adds base items keeps))
    c.add.ensures

pub returns-in-Mark : goal.returns-in-Mark
returns-in-Mark c = on_ok c.settle.result
    (λ settles base items exact keeps. subst (λ (next : Item). IsLedger base (items ++ next ∷ []) c.settle.new.self) (sym c.in-Mark.is)
    (settles base items (subst (λ (next : Item). IsExactNext items next) c.in-Mark.is exact) keeps))
    c.settle.ensures
