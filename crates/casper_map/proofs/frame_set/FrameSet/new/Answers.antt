use Rattle.std.proofs.Common.{rules, ◌≡◌}
use Rattle.casper_map.proofs.BitLemmas.{zeros, made_empty}
use Rattle.casper_map.proofs.frame_set.FrameSet.new.Goals as goal

pub returns : goal.returns
returns c =
    let clear : c.in_ok-words.words.items ≡ zeros c.div_ceil.result = search rules in
    record { empty = made_empty c.in_ok-words.words.items c.div_ceil.result c.args.size clear }
