use Rattle.std.proofs.Common.{◌∙◌, ap, arith}
use Rattle.casper_map.specs.Numbers.{numbers_of_block}
use Rattle.casper_map.proofs.ByteLemmas.{numbers_read}
use Rattle.casper_map.proofs.numbers.numbers_of.Goals as goal

pub returns : goal.returns
returns c =
    numbers_read c.bytes-bytes.result.now c.loop-place.numbers c.loop-place.invariant.long (λ k below. c.loop-place.invariant.read k (omega arith))
    ∙ ap numbers_of_block c.bytes-bytes.ensures.bytes
