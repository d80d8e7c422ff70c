use Rattle.std.proofs.Common.{◌≡◌, ℕ, ◌≤◌, ◌∷◌, subst, sym, length, arith}
use Rattle.casper_rec.specs.Values.{FitFields}
use Rattle.casper_root.specs.Format.{body_fields}
use Rattle.casper_root.proofs.BlockLemmas.{two_and_others, numbers_fit}
use Rattle.casper_root.proofs.body.Body.values.Goals as goal

pub returns-clause-fit : goal.returns-clause-fit
returns-clause-fit c =
    let seq = c.args.self.now.seq in
    let count : ℕ = length c.args.self.now.maps in
    let few : count ≤ 16 = c.as_slice.ensures.few in
    let held = c.loop-place.invariant in
    let fit : FitFields body_fields (seq ∷ count ∷ c.places.result) =
    ((λ four. absurd (omega arith)), ((λ four. omega arith), numbers_fit 12 16 c.places.result (λ k within. held.small k (omega arith)))) in
    let same : c.loop-place.values ≡ seq ∷ count ∷ c.places.result = two_and_others c.loop-place.values c.places.result seq count (omega arith) held.seq held.count (λ k within. held.numbers k (omega arith)) in
    subst (FitFields body_fields) (sym same) fit
