use Rattle.std.proofs.Common.{◌^◌, sym, ◌∙◌, arith}
use Rattle.casper_text.proofs.NumberLemmas.{number_below-no_number, number_below-narrowed}
use Rattle.casper_text.proofs.numbers.small_number.Goals as goal

pub returns-in_err-number : goal.returns-in_err-number
returns-in_err-number c =
    c.from_residual.ensures
    ∙ sym (number_below-no_number (2 ^ 32) c.args.word.now (omega arith) (sym (c.in_err-number.ensures {u = tt})))

pub returns : goal.returns
returns c =
    c.ok.ensures.value
    ∙ number_below-narrowed (2 ^ 32) c.args.word.now c.in_ok-number.field-0 c.try_from.result (omega arith) (sym (c.in_ok-number.ensures {u = tt})) c.try_from.ensures
