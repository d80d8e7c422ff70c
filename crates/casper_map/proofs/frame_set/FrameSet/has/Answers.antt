use Rattle.std.proofs.Common.{◌≡◌, ℕ, ◌/◌, ◌%◌, ◌<◌, Bool, List, length, get_or, sym, ◌∙◌, ap, arith}
use Rattle.std.specs.Prelude.{◌==◌}
use Rattle.std.specs.Int.{bit_at}
use Rattle.std.proofs.lemmas.List.{get_or_read}
use Rattle.std.proofs.lemmas.Nat.Bits.{shr_and_one}
use Rattle.casper_map.specs.Bits.{is_member}
use Rattle.casper_map.proofs.BitLemmas.{members_long, member_at}
use Rattle.casper_map.proofs.frame_set.FrameSet.has.Goals as goal

pub index-requires : goal.index-requires
index-requires c =
    omega (arith, c.self.inside.words.ok.0, c.self.invariant.0, members_long c.self.inside.words.items c.self.inside.size, ap length c.self.view_is)

pub returns : goal.returns
returns c =
    let words = c.self.inside.words.items in
    let frame = c.args.frame in
    let below : frame < c.self.inside.size = omega (arith, members_long words c.self.inside.size, ap length c.self.view_is) in
    let within : frame / 64 < length words = omega (arith, c.self.invariant.0) in
    let word : c.index.result.now ≡ get_or words (frame / 64) 0 = get_or_read words (frame / 64) c.index.result.now within c.index.ensures 0 in
    ap (λ (bit : ℕ). bit == 1) (shr_and_one c.index.result.now (frame % 64)) ∙ ap (λ (w : ℕ). bit_at w (frame % 64) == 1) word
    ∙ sym (member_at words c.self.inside.size frame below) ∙ ap (λ (set : List Bool). is_member set frame) c.self.view_is
