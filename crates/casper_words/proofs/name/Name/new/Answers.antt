use Rattle.std.proofs.Common.{ℕ, ◌≤◌, length, List, drop, replicate, refl, sym, arith, rules, subst}
use Rattle.std.proofs.lemmas.List.{take_at}
use Rattle.casper_words.specs.Name.{IsName}
use Rattle.casper_words.proofs.PaddedLemmas.{IsPadded_written}
use Rattle.casper_words.proofs.name.Name.new.Goals as goal

pub invariant_of-result : goal.invariant_of-result
invariant_of-result c =
    let bytes = c.args.bytes.now in
    let short : length bytes ≤ 24 = omega arith in
    let P : List ℕ → Type 0 = λ xs. IsName xs in
    let named : IsName bytes = search rules in
    rw c.copy_from_slice.ensures.after
    (IsPadded_written 24 0 bytes short, subst P (sym (take_at bytes (drop (length bytes) (replicate 24 0)) (length bytes) refl)) named)
