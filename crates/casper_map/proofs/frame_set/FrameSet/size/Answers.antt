use Rattle.std.proofs.Common.{length, sym, ◌∙◌, ap}
use Rattle.casper_map.proofs.BitLemmas.{members_long}
use Rattle.casper_map.proofs.frame_set.FrameSet.size.Goals as goal

pub returns : goal.returns
returns c = sym (members_long c.self.inside.words.items c.self.inside.size) ∙ ap length c.self.view_is
