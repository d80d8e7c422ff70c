use Rattle.std.proofs.Common.{◌≡◌, ◌∷◌, [], ◌∙◌, ap, ℕ, List, Ok, slice_index, sym}
use Rattle.std.proofs.lemmas.Result.{err_from_is_err_and}
use Rattle.casper_heap.specs.Walk.{read_at, walk_calls}
use Rattle.casper_heap.specs.Objects.{count_at, field_place}
use Rattle.casper_heap.proofs.Counts.{field_taken, field_refused, place_found, get_taken, get_refused}
use Rattle.casper_heap.proofs.Following.{made_then, made_as, made_no_more, made_told}
use Rattle.casper_heap.proofs.Walking.{read_made}
use Rattle.casper_heap.proofs.fields.get.Goals as goal

pub returns-in_err-place-clause-answer : goal.returns-in_err-place-clause-answer
returns-in_err-place-clause-answer g c =
    let words = (g.W.Words.seen c.args.words.now).words c.args.r.page in
    let p = err_from_is_err_and c.from_residual.result c.from_residual.ensures.1 in
    rw (p.1, p.2)
    (sym (get_refused words c.args.r.word c.args.i (count_at words c.args.r.word) c.in_err-place.field-0.0 (sym c.find_field.ensures.answer ∙ c.in_err-place.was)))

pub returns-in_err-place-clause-made : goal.returns-in_err-place-clause-made
returns-in_err-place-clause-made g c =
    made_no_more
    (field_refused c.args.r.word c.args.i _ c.in_err-place.field-0.0 (sym c.find_field.ensures.answer ∙ c.in_err-place.was) _)
    c.find_field.ensures.made

pub returns-clause-answer : goal.returns-clause-answer
returns-clause-answer g c =
    let words = (g.W.Words.seen c.args.words.now).words c.args.r.page in
    let taken = sym c.find_field.ensures.answer ∙ c.in_ok-place.was in
    ap (λ (value : ℕ). Ok value) (c.get.ensures.word ∙ ap (λ (pages : ℕ → List ℕ). slice_index (pages c.args.r.page) c.in_ok-place.place) c.find_field.ensures.words)
    ∙ sym (get_taken words c.args.r.word c.args.i (count_at words c.args.r.word) c.in_ok-place.place taken)

pub returns-clause-made : goal.returns-clause-made
returns-clause-made g c =
    let words = (g.W.Words.seen c.args.words.now).words c.args.r.page in
    let taken = sym c.find_field.ensures.answer ∙ c.in_ok-place.was in
    let one = c.get.ensures in
    let count = count_at words c.args.r.word in
    let place = place_found c.args.r.word c.args.i count c.in_ok-place.place taken in
    made_told (walk_calls (g.W.Words.seen c.args.words.now).words c.args.r.page)
    (field_taken c.args.r.word c.args.i count c.in_ok-place.place taken (read_at c.args.r.page words (field_place c.args.r.word c.args.i) ∷ [])
    ∙ ap (λ (at : ℕ). read_at c.args.r.page words at ∷ []) place)
    (made_then (λ pages. read_at c.args.r.page (pages c.args.r.page) c.in_ok-place.place ∷ []) c.find_field.ensures.made c.find_field.ensures.words
    (read_made one.word one.right one.words one.made one.left one.step))
