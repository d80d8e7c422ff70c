use Rattle.std.proofs.Common.{sym}
use Rattle.casper_stable.proofs.PieceLemmas.{page_frame, map_frame}
use Rattle.casper_stable.proofs.pieces.frame_at.Goals as goal

pub returns-then-at-pages : goal.returns-then-at-pages
returns-then-at-pages c = sym (page_frame c.args.pages.now c.args.maps.now c.args.at c.if-at-pages.true)

pub returns-else-at-pages : goal.returns-else-at-pages
returns-else-at-pages c = sym (map_frame c.args.pages.now c.args.maps.now c.args.at c.if-at-pages.false c.requires)
