use Rattle.std.proofs.Common.{◌<◌, length, arith}
use Rattle.casper_hub.proofs.Deciding.{read_within}
use Rattle.casper_hub.proofs.decide.first_unframed.Goals as goal

pub has_frame-requires : goal.has_frame-requires
has_frame-requires c =
    let within : c.loop-want.want-index < length c.args.missing.now = omega arith in
    c.requires c.want-item.result (read_within c.args.missing.now c.loop-want.want-index c.want-item.result within c.want-item.is)
