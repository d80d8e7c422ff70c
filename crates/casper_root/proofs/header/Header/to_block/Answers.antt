use Rattle.std.proofs.Common.{◌≡◌, [], ◌∷◌, ◌∙◌, ap}
use Rattle.std.specs.Prelude.{codes}
use Rattle.byteorder.specs.Endian.{little_number}
use Rattle.casper_rec.specs.Values.{with_values}
use Rattle.casper_root.specs.Format.{header_fields, header_block, zero_block}
use Rattle.casper_root.proofs.BlockLemmas.{written_on_zeros}
use Rattle.casper_root.proofs.header.Header.to_block.Goals as goal

pub returns : goal.returns
unfolding header_block
returns c =
    let name : c.from_le_bytes-name.result ≡ little_number 8 (codes "CASPER01") = c.from_le_bytes-name.ensures in
    let pages = c.args.self.now.pages in
    let frames = c.args.self.now.frames in
    written_on_zeros _ header_fields _ _ _ c.header_rec.ensures c.clear.ensures c.write.ensures.written
    ∙ ap (λ number. with_values header_fields (number ∷ pages ∷ frames ∷ []) zero_block) name
