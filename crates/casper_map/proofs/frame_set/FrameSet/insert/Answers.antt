use Rattle.std.proofs.Common.{◌≡◌, ℕ, ◌*◌, ◌/◌, ◌%◌, ◌^◌, ◌<◌, Bool, true, List, length, get_or, set, ◌∙◌, ap, arith}
use Rattle.std.specs.Prelude.{bit_or}
use Rattle.std.proofs.lemmas.List.{get_or_read}
use Rattle.casper_map.specs.Bits.{flags_of_bits}
use Rattle.casper_map.proofs.BitLemmas.{members_long, members_with}
use Rattle.casper_map.proofs.frame_set.FrameSet.insert.Goals as goal

pub index-requires : goal.index-requires
index-requires c =
    omega (arith, c.self.inside.words.ok.0, c.self.invariant.0, members_long c.self.inside.words.items c.self.inside.size, ap length c.self.view_is)

pub index_mut-requires : goal.index_mut-requires
index_mut-requires c =
    omega (arith, c.self.inside.words.ok.0, c.self.invariant.0, members_long c.self.inside.words.items c.self.inside.size, ap length c.self.view_is)

pub returns : goal.returns
returns c =
    let words = c.self.inside.words.items in
    let size = c.self.inside.size in
    let frame = c.args.frame in
    let below : frame < size = omega (arith, members_long words size, ap length c.self.view_is) in
    let within : frame / 64 < length words = omega (arith, c.self.invariant.0) in
    let word : c.index.result.now ≡ get_or words (frame / 64) 0 = get_or_read words (frame / 64) c.index.result.now within c.index.ensures 0 in
    ap (λ (w : ℕ). flags_of_bits (set words (frame / 64) (bit_or w (1 * 2 ^ (frame % 64) % 2 ^ 64))) size) word
    ∙ members_with words size frame below within ∙ ap (λ (list : List Bool). set list frame true) c.self.view_is
