use Rattle.std.proofs.Common.{◌≡◌, ◌∙◌, sym, length, subst, arith, rules}
use Rattle.casper_text.proofs.NumberLemmas.{number_of-not_begun}
use Rattle.casper_text.proofs.DigitLemmas.{HasRead, HasRead-more, no_number, whole_number}
use Rattle.casper_text.proofs.numbers.number.Goals as goal

pub returns-then-not-begins_as_number : goal.returns-then-not-begins_as_number
returns-then-not-begins_as_number c = sym (number_of-not_begun c.args.word.now (sym (c.if-not-begins_as_number.ensures {u = tt})))

pub returns-in_err-value : goal.returns-in_err-value
returns-in_err-value c =
    c.from_residual.ensures
    ∙ sym (no_number c.args.word.now c.loop-byte.byte-index c.loop-byte.value c.loop-byte-test.true c.loop-byte.invariant (search rules))

pub loop-byte-preserved : goal.loop-byte-preserved
loop-byte-preserved c =
    HasRead-more c.args.word.now c.loop-byte.byte-index c.loop-byte.value c.in_ok-value.value c.loop-byte-test.true
    (search rules) (search rules) (search rules) c.loop-byte.invariant

pub returns : goal.returns
returns c =
    let whole : c.loop-byte.byte-index ≡ length c.args.word.now = omega arith in
    sym (whole_number c.args.word.now c.loop-byte.value (sym (c.if-not-begins_as_number.ensures {u = tt}))
    (subst (λ n. HasRead c.args.word.now n c.loop-byte.value) whole c.loop-byte.invariant))
