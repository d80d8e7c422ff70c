use Rattle.std.proofs.Common.{◌<◌, length, arith}
use Rattle.casper_hub.proofs.Deciding.{read_within}
use Rattle.casper_hub.proofs.decide.missing_of.Goals as goal

pub right_kept-requires : goal.right_kept-requires
right_kept-requires c =
    let within : c.loop-want.want-index < length c.args.wants.now = omega arith in
    c.requires.range c.want-item.result (read_within c.args.wants.now c.loop-want.want-index c.want-item.result within c.want-item.is)
