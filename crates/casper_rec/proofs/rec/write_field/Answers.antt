use Rattle.std.proofs.Common.{refl, inl, inr, arith}
use Rattle.casper_rec.proofs.FieldLemmas.{put_is_with_value}
use Rattle.casper_rec.proofs.rec.write_field.Goals as goal

pub returns-then-field-eq4 : goal.returns-then-field-eq4
returns-then-field-eq4 c =
    put_is_with_value c.args.into.now c.args.field c.args.value 4 _ _ _ (omega arith) c.write_u32.ensures refl c.put.ensures.bytes

pub returns-else-field-eq4 : goal.returns-else-field-eq4
returns-else-field-eq4 c =
    put_is_with_value c.args.into.now c.args.field c.args.value 8 _ _ _ (elim c.requires.place.width [ inl four ↦ absurd (omega arith) | inr eight ↦ eight ]) c.write_u64.ensures refl c.put-else-field-eq4.ensures.bytes
