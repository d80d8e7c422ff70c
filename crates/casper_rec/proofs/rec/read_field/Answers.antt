use Rattle.std.proofs.Common.{◌≡◌, ap, sym, inl, inr, ◌∙◌, ◌-◌, length, take, drop, arith}
use Rattle.std.proofs.lemmas.List.{take_rest}
use Rattle.byteorder.specs.Endian.{little_number}
use Rattle.casper_rec.specs.Values.{value_at}
use Rattle.casper_rec.proofs.rec.read_field.Goals as goal

pub returns-then-field-eq4-clause-value : goal.returns-then-field-eq4-clause-value
unfolding value_at
returns-then-field-eq4-clause-value c =
    let four : 4 ≡ c.args.field.width = omega arith in
    let rest = take_rest c.args.bytes.now c.args.field.offset in
    let read : c.read_u32.result ≡ little_number 4 (take (length c.args.bytes.now - c.args.field.offset) (drop c.args.field.offset c.args.bytes.now)) = c.read_u32.ensures in
    read ∙ ap (little_number 4) rest ∙ ap (λ n. little_number n (drop c.args.field.offset c.args.bytes.now)) four

pub returns-else-field-eq4-clause-value : goal.returns-else-field-eq4-clause-value
unfolding value_at
returns-else-field-eq4-clause-value c =
    let eight : 8 ≡ c.args.field.width = elim c.requires.place.width [ inl four ↦ absurd (omega arith) | inr eight ↦ sym eight ] in
    let rest = take_rest c.args.bytes.now c.args.field.offset in
    let read : c.read_u64.result ≡ little_number 8 (take (length c.args.bytes.now - c.args.field.offset) (drop c.args.field.offset c.args.bytes.now)) = c.read_u64.ensures in
    read ∙ ap (little_number 8) rest ∙ ap (λ n. little_number n (drop c.args.field.offset c.args.bytes.now)) eight
