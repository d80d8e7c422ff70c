use Rattle.std.proofs.Common.{◌∙◌, sym}
use Rattle.casper_app.proofs.WantLemmas.{want_of-no_colon, want_of-no_page, want_of-no_right, want_of-both}
use Rattle.casper_app.proofs.schedule.want_of.Goals as goal

pub returns-in_err-colon : goal.returns-in_err-colon
returns-in_err-colon c =
    c.from_residual.ensures
    ∙ sym (want_of-no_colon c.args.word.now (sym c.first_colon.ensures.place ∙ c.in_err-colon.was {u = tt}))

pub returns-in_err-place_of : goal.returns-in_err-place_of
returns-in_err-place_of c =
    let found = sym c.first_colon.ensures.place ∙ c.in_ok-colon.was {u = tt} in
    let page = sym c.place_of.ensures ∙ c.in_err-place_of.was {u = tt} in
    c.from_residual-in_err-place_of.ensures ∙ sym (want_of-no_page c.args.word.now c.in_ok-colon.colon found page)

pub returns-in_err-right : goal.returns-in_err-right
returns-in_err-right c =
    let found = sym c.first_colon.ensures.place ∙ c.in_ok-colon.was {u = tt} in
    let right = sym c.right_of.ensures ∙ c.in_err-right.was {u = tt} in
    c.from_residual-in_err-right.ensures ∙ sym (want_of-no_right c.args.word.now c.in_ok-colon.colon found right)

pub returns : goal.returns
returns c =
    let found = sym c.first_colon.ensures.place ∙ c.in_ok-colon.was {u = tt} in
    let page = sym c.place_of.ensures ∙ c.in_ok-place_of.was {u = tt} in
    let right = sym c.right_of.ensures ∙ c.in_ok-right.was {u = tt} in
    sym (want_of-both c.args.word.now c.in_ok-colon.colon c.in_ok-place_of.field-0 c.in_ok-right.right found page right)
