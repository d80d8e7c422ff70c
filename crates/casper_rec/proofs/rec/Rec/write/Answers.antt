use Rattle.std.proofs.Common.{◌≡◌, ℕ, List, ◌<◌, ◌^◌, ◌∙◌, inl, inr, sym, ap, subst, get_or, length, arith}
use Rattle.std.proofs.lemmas.Bool.{cases_lt}
use Rattle.std.proofs.lemmas.List.{get_or_past}
use Rattle.casper_rec.specs.declared.field.Field.{Field}
use Rattle.casper_rec.specs.Table.{IsTable}
use Rattle.casper_rec.specs.Values.{values_of, with_values, FitFields}
use Rattle.casper_rec.proofs.TableLemmas.{field_at, fits_at, values_of-with_values, bytes_outside, all_written}
use Rattle.casper_rec.proofs.rec.Rec.write.Goals as goal

pub write_field-requires-clause-place : goal.write_field-requires-clause-place
write_field-requires-clause-place g c = field_at 0 c.self.inside.fields c.loop-place.place _ c.self.invariant.1 (omega arith)

pub write_field-requires-clause-value : goal.write_field-requires-clause-value
write_field-requires-clause-value g c four =
    let view : c.args.self.now ≡ c.self.inside.fields = cc in
    let P : List Field → Type 0 = λ list. FitFields list c.args.values.now in
    fits_at c.self.inside.fields c.args.values.now c.loop-place.place _ 0 (subst P view c.requires) (omega arith) (omega arith) four

pub returns-clause-values : goal.returns-clause-values
returns-clause-values g c =
    let view : c.args.self.now ≡ c.self.inside.fields = cc in
    let size : length c.args.self.now ≡ g.row.N = ap length view ∙ c.self.invariant.0 in
    let table : IsTable c.args.self.now = subst IsTable (sym view) c.self.invariant.1 in
    let written : c.loop-place.into ≡ with_values c.args.self.now c.args.values.now c.args.into.now = all_written c.args.self.now c.args.values.now c.args.into.now c.loop-place.into c.loop-place.place (omega arith) c.loop-place.invariant.written in
    let size_of_values : length c.args.values.now ≡ g.row.N = c.told-values in
    let wide : (k : ℕ) → get_or c.args.values.now k 0 < 2 ^ 64 = λ k. elim (cases_lt k (length c.args.values.now)) [
      | inl within ↦ c.loop-place.invariant.wide k (omega arith)
      | inr past ↦ rw (get_or_past c.args.values.now k 0 past) (omega arith)
    ] in
    ap (values_of c.args.self.now) written
    ∙ values_of-with_values 0 c.args.self.now c.args.values.now c.args.into.now table c.bytes-whole.ensures.long (omega arith) c.requires wide

pub returns-clause-others : goal.returns-clause-others
returns-clause-others g c place outside =
    let view : c.args.self.now ≡ c.self.inside.fields = cc in
    let size : length c.args.self.now ≡ g.row.N = ap length view ∙ c.self.invariant.0 in
    let table : IsTable c.args.self.now = subst IsTable (sym view) c.self.invariant.1 in
    let written : c.loop-place.into ≡ with_values c.args.self.now c.args.values.now c.args.into.now = all_written c.args.self.now c.args.values.now c.args.into.now c.loop-place.into c.loop-place.place (omega arith) c.loop-place.invariant.written in
    ap (λ (list : List ℕ). get_or list place 0) written
    ∙ bytes_outside 0 c.args.self.now c.args.values.now c.args.into.now place table c.bytes-whole.ensures.long outside
