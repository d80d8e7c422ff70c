use Rattle.std.proofs.Common.{◌∙◌, sym}
use Rattle.casper_text.proofs.ReferenceLemmas.{reference_of-no_dot, reference_of-no_page, reference_of-no_place, reference_of-both}
use Rattle.casper_text.proofs.references.reference.Goals as goal

pub returns-in_err-dot : goal.returns-in_err-dot
returns-in_err-dot c =
    c.from_residual.ensures
    ∙ sym (reference_of-no_dot c.args.word.now (sym c.first_dot.ensures.place ∙ c.in_err-dot.was {u = tt}))

pub returns-in_err-page : goal.returns-in_err-page
returns-in_err-page c =
    let found = sym c.first_dot.ensures.place ∙ c.in_ok-dot.was {u = tt} in
    let page = sym c.small_number.ensures ∙ c.in_err-page.was {u = tt} in
    c.from_residual-in_err-page.ensures ∙ sym (reference_of-no_page c.args.word.now c.in_ok-dot.dot found page)

pub returns-in_err-word : goal.returns-in_err-word
returns-in_err-word c =
    let found = sym c.first_dot.ensures.place ∙ c.in_ok-dot.was {u = tt} in
    let place = sym c.small_number-2.ensures ∙ c.in_err-word.was {u = tt} in
    c.from_residual-in_err-word.ensures ∙ sym (reference_of-no_place c.args.word.now c.in_ok-dot.dot found place)

pub returns : goal.returns
returns c =
    let found = sym c.first_dot.ensures.place ∙ c.in_ok-dot.was {u = tt} in
    let page = sym c.small_number.ensures ∙ c.in_ok-page.was {u = tt} in
    let place = sym c.small_number-2.ensures ∙ c.in_ok-word.was {u = tt} in
    sym (reference_of-both c.args.word.now c.in_ok-dot.dot c.in_ok-page.page c.in_ok-word.word found page place)
