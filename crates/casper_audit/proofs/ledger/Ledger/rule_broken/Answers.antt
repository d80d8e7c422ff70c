use Rattle.std.proofs.Common.{sym, subst}
use Rattle.std.specs.Prelude.{MatchOption}
use Rattle.casper_trail.specs.declared.item.Item.{Item}
use Rattle.casper_audit.specs.Verdicts.{IsBad, IsGood}
use Rattle.casper_audit.proofs.JudgeLemmas.{mark_judged}
use Rattle.casper_audit.proofs.ledger.Ledger.rule_broken.Goals as goal

pub returns-in-Mark : goal.returns-in-Mark
returns-in-Mark c = λ base items keeps.
    subst (λ (next : Item). MatchOption c.mark_broken.result (IsGood base items next) (λ rule. IsBad rule base items next)) (sym c.in-Mark.is)
    (mark_judged base items c.in-Mark.mark c.mark_broken.result (c.mark_broken.ensures base items keeps))
