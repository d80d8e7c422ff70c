use Rattle.std.proofs.Common.{◌≡◌, ◌∙◌, ap, length, arith}
use Rattle.casper_rec.proofs.TableLemmas.{field_at, fit_from_each}
use Rattle.casper_rec.proofs.rec.Rec.read.Goals as goal

pub read_field-requires-clause-place : goal.read_field-requires-clause-place
read_field-requires-clause-place g c = field_at 0 c.self.inside.fields c.loop-place.place _ c.self.invariant.1 (omega arith)

pub returns-clause-fit : goal.returns-clause-fit
returns-clause-fit g c =
    let view : c.args.self.now ≡ c.self.inside.fields = cc in
    let size : length c.args.self.now ≡ g.row.N = ap length view ∙ c.self.invariant.0 in
    fit_from_each c.args.self.now c.loop-place.values (λ k d within four. c.loop-place.invariant.fit k d (omega arith) four)
