use Rattle.std.proofs.Common.{◌∙◌, ap}
use Rattle.casper_rec.specs.Values.{with_values}
use Rattle.casper_root.specs.Format.{body_fields, body_block, zero_block}
use Rattle.casper_root.proofs.BlockLemmas.{written_on_zeros}
use Rattle.casper_root.proofs.body.Body.to_block.Goals as goal

pub returns : goal.returns
unfolding body_block
returns c =
    written_on_zeros _ body_fields c.values.result _ _ c.body_rec.ensures c.clear.ensures c.write.ensures.written
    ∙ ap (λ list. with_values body_fields list zero_block) c.values.ensures.values
