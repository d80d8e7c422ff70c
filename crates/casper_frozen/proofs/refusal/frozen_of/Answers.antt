use Rattle.std.proofs.Common.{sym, ap, ◌∙◌}
use Rattle.casper_frozen.specs.Finding.{frozen_among}
use Rattle.casper_frozen.proofs.Refusing.{own_is_frozen, page_is_frozen}
use Rattle.casper_frozen.proofs.refusal.frozen_of.Goals as goal

pub returns-in-Some : goal.returns-in-Some
returns-in-Some c = record {
  frozen = own_is_frozen c.args.unended.now c.args.associations.now c.args.own c.args.missing.now c.in-Some.one
      (ap (frozen_among c.args.own) (sym c.each.ensures) ∙ sym c.frozen_among.ensures ∙ c.in-Some.is);
}

pub returns-in-None : goal.returns-in-None
returns-in-None c = record {
  frozen = page_is_frozen c.args.unended.now c.args.associations.now c.args.own c.args.missing.now c.frozen_of_pages.result
      (ap (frozen_among c.args.own) (sym c.each.ensures) ∙ sym c.frozen_among.ensures ∙ c.in-None.is) c.frozen_of_pages.ensures.frozen;
}
