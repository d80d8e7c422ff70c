use Rattle.std.proofs.Common.{sym, ap, ◌∙◌}
use Rattle.casper_frozen.specs.Finding.{frozen_among}
use Rattle.casper_frozen.proofs.Pages.{one_page_passed, one_page_found}
use Rattle.casper_frozen.proofs.refusal.frozen_of_pages.Goals as goal

pub page_members-members-requires : goal.page_members-members-requires
page_members-members-requires c =
    record { within = c.requires.within c.want-item.result (c.loop-want.want-index, c.loop-want-test.true, sym c.want-item.is) }

pub returns-in-Some : goal.returns-in-Some
returns-in-Some c = record {
  frozen = one_page_found c.args.unended.now c.args.associations.now c.args.missing.now c.loop-want.want-index c.want-item.result
      c.page_members-members.result c.in-Some.one c.loop-want-test.true c.want-item.is c.page_members-members.ensures.members
      (ap (frozen_among c.page_members-members.result) (sym c.each.ensures) ∙ sym c.frozen_among.ensures ∙ c.in-Some.is) c.loop-want.invariant;
}

pub loop-want-preserved : goal.loop-want-preserved
loop-want-preserved c =
    one_page_passed c.args.unended.now c.args.associations.now c.args.missing.now c.loop-want.want-index c.want-item.result
    c.page_members-members.result c.loop-want-test.true c.want-item.is c.page_members-members.ensures.members
    (ap (frozen_among c.page_members-members.result) (sym c.each.ensures) ∙ sym c.frozen_among.ensures ∙ c.in_default.is) c.loop-want.invariant
