use Rattle.std.proofs.Common.{sym}
use Rattle.casper_frozen.proofs.Pages.{one_page_more}
use Rattle.casper_frozen.proofs.refusal.members_of_pages.Goals as goal

pub page_members-requires : goal.page_members-requires
page_members-requires c = record { within = c.requires.within c.want-item.result (c.loop-want.want-index, c.loop-want-test.true, sym c.want-item.is) }

pub loop-want-preserved : goal.loop-want-preserved
loop-want-preserved c = record {
  so_far = one_page_more c.args.associations.now c.args.missing.now c.loop-want.want-index c.want-item.result c.loop-want.members
      c.page_members.result c.union-members.result c.loop-want-test.true c.want-item.is c.union-members.ensures.left c.union-members.ensures.right
      c.page_members.ensures.members c.union-members.ensures.members c.loop-want.invariant.so_far;
  crew = c.union-members.ensures.crew;
}
