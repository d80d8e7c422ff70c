use Rattle.std.proofs.Common.{◌≡◌, ◌∙◌, ℕ, length, replicate, sym, arith}
use Rattle.std.proofs.lemmas.List.{ext_get_or, length-replicate, get_or-replicate}
use Rattle.casper_stable.proofs.reading.clear.Goals as goal

pub returns : goal.returns
returns c =
    let done : c.loop-word.word ≡ 512 = omega arith in
    let long : length c.loop-word.into ≡ 512 = c.loop-word.invariant.0 (omega (arith, done)) in
    ext_get_or 0 c.loop-word.into (replicate 512 0) (long ∙ sym (length-replicate {A = ℕ} 512 0))
    (λ k within. c.loop-word.invariant.1 k (omega (arith, within, long, done))
    ∙ sym (get_or-replicate 512 k 0 0 (omega (arith, within, long))))
