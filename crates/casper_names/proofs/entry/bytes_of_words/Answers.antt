use Rattle.std.proofs.Common.{◌≡◌, ◌∙◌}
use Rattle.std.specs.Int.{w64, to_le_bytes}
use Rattle.casper_names.proofs.entry.bytes_of_words.Goals as goal

pub returns : goal.returns
returns c =
    let first : c.copy_from_slice.new.self ≡ to_le_bytes w64 c.args.first = c.copy_from_slice.ensures.after ∙ c.to_le_bytes.ensures in
    let second : c.copy_from_slice-2.new.self ≡ to_le_bytes w64 c.args.second = c.copy_from_slice-2.ensures.after ∙ c.to_le_bytes-2.ensures in
    let third : c.copy_from_slice-3.new.self ≡ to_le_bytes w64 c.args.third = c.copy_from_slice-3.ensures.after ∙ c.to_le_bytes-3.ensures in
    rw (first, second, third)
