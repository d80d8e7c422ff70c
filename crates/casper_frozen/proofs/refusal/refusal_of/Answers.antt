use Rattle.std.proofs.Common.{◌==◌, true, false, List, Option, None, Some, length, sym, ap, ◌∙◌, subst}
use Rattle.casper_gather.specs.declared.stab.Stab.{Stab}
use Rattle.casper_frozen.specs.declared.refusal.Refusal.{Refusal}
use Rattle.casper_frozen.specs.Refused.{Refuses}
use Rattle.casper_frozen.proofs.Refusing.{nothing_missing, nothing_unended, doubt_is_told, doubt_refuses, frozen_refuses}
use Rattle.casper_frozen.proofs.refusal.refusal_of.Goals as goal
use Rattle.casper_frozen.proofs.refusal.refusal_of.Goals.{then-is_empty-via-then-is_empty, then-is_empty-via-else-is_empty+then-is_empty-2}

pub returns-then-is_empty : goal.returns-then-is_empty
returns-then-is_empty c =
    elim c.then-is_empty.branch [
      | then-is_empty-via-then-is_empty w ↦ record {
        refused = nothing_unended c.args.unended.now c.args.associations.now c.args.who c.args.missing.now
            (ap (λ (each : List Stab). length each == 0) (sym c.each.ensures) ∙ sym c.is_empty.ensures ∙ w.if-is_empty.true);
      }
      | then-is_empty-via-else-is_empty+then-is_empty-2 w ↦ record {
        refused = nothing_missing c.args.unended.now c.args.associations.now c.args.who c.args.missing.now
            (sym w.is_empty-else-is_empty.ensures ∙ w.if-is_empty-2.true);
      }
    ]

pub returns-then-is_doubt_among : goal.returns-then-is_doubt_among
returns-then-is_doubt_among c = record {
  refused = doubt_refuses c.args.unended.now c.args.associations.now c.args.who c.args.missing.now
      (sym c.is_empty-else-is_empty.ensures ∙ c.if-is_empty-2.false)
      (doubt_is_told c.args.unended.now c.args.associations.now c.args.who c.args.missing.now c.members-own.result c.members_of_pages.result
      c.union-concerned.result c.each-2.result.now c.is_doubt_among.result true c.members-own.ensures.members c.members_of_pages.ensures.members
      c.union-concerned.ensures.left c.union-concerned.ensures.right c.union-concerned.ensures.members c.each-2.ensures
      c.is_doubt_among.ensures c.if-is_doubt_among.true);
}

pub returns-in_err-one : goal.returns-in_err-one
returns-in_err-one c =
    let P : Option Refusal → Type 0 = λ refused. Refuses c.args.unended.now c.args.associations.now c.args.who c.args.missing.now refused in
    record {
      refused = subst P (sym c.from_residual.ensures) (frozen_refuses c.args.unended.now c.args.associations.now c.args.who c.args.missing.now c.members-own.result None
          (sym c.is_empty-else-is_empty.ensures ∙ c.if-is_empty-2.false)
          (doubt_is_told c.args.unended.now c.args.associations.now c.args.who c.args.missing.now c.members-own.result c.members_of_pages.result
          c.union-concerned.result c.each-2.result.now c.is_doubt_among.result false c.members-own.ensures.members c.members_of_pages.ensures.members
          c.union-concerned.ensures.left c.union-concerned.ensures.right c.union-concerned.ensures.members c.each-2.ensures
          c.is_doubt_among.ensures c.if-is_doubt_among.false)
          c.members-own.ensures.members c.in_err-one.ensures.frozen);
    }

pub returns : goal.returns
returns c = record {
  refused = frozen_refuses c.args.unended.now c.args.associations.now c.args.who c.args.missing.now c.members-own.result (Some c.in_ok-one.one)
      (sym c.is_empty-else-is_empty.ensures ∙ c.if-is_empty-2.false)
      (doubt_is_told c.args.unended.now c.args.associations.now c.args.who c.args.missing.now c.members-own.result c.members_of_pages.result
      c.union-concerned.result c.each-2.result.now c.is_doubt_among.result false c.members-own.ensures.members c.members_of_pages.ensures.members
      c.union-concerned.ensures.left c.union-concerned.ensures.right c.union-concerned.ensures.members c.each-2.ensures
      c.is_doubt_among.ensures c.if-is_doubt_among.false)
      c.members-own.ensures.members c.in_ok-one.ensures.frozen;
}
