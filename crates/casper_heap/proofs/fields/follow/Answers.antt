use Rattle.std.proofs.Common.{◌≡◌, ◌+◌, ◌∷◌, [], ◌∙◌, ap, ℕ, List, Some, slice_index, sym}
use Rattle.std.specs.Int.{bit_at}
use Rattle.casper_heap.specs.Answers.{target_of}
use Rattle.std.proofs.lemmas.Result.{err_from_is_err_and}
use Rattle.casper_heap.specs.Walk.{read_at, walk_calls}
use Rattle.casper_heap.specs.Objects.{count_at, field_of, field_place}
use Rattle.casper_heap.proofs.Counts.{field_taken, field_refused, place_found, follow_taken, follow_refused}
use Rattle.casper_heap.proofs.Following.{made_then, made_as, made_no_more, made_told}
use Rattle.casper_heap.proofs.Walking.{read_made}
use Rattle.casper_heap.proofs.fields.follow.Goals as goal

pub returns-in_err-place-clause-answer : goal.returns-in_err-place-clause-answer
returns-in_err-place-clause-answer g c =
    let words = (g.W.Words.seen c.args.words.now).words c.args.r.page in
    let p = err_from_is_err_and c.from_residual.result c.from_residual.ensures.1 in
    rw (p.1, p.2)
    (sym (follow_refused words c.args.r.word c.args.i c.args.pages (count_at words c.args.r.word) c.in_err-place.field-0.0
    (sym c.find_field.ensures.answer ∙ c.in_err-place.was)))

pub returns-in_err-place-clause-made : goal.returns-in_err-place-clause-made
returns-in_err-place-clause-made g c =
    made_no_more
    (field_refused c.args.r.word c.args.i _ c.in_err-place.field-0.0 (sym c.find_field.ensures.answer ∙ c.in_err-place.was) _)
    c.find_field.ensures.made

pub returns-clause-answer : goal.returns-clause-answer
returns-clause-answer g c =
    let page = c.args.r.page in
    let words = (g.W.Words.seen c.args.words.now).words page in
    let taken = sym c.find_field.ensures.answer ∙ c.in_ok-place.was in
    let tags : c.get-tags.result ≡ slice_index words (c.args.r.word + 1) =
    c.get-tags.ensures.word ∙ ap (λ (pages : ℕ → List ℕ). slice_index (pages page) (c.args.r.word + 1)) c.find_field.ensures.words in
    let value : c.get-value.result ≡ slice_index words c.in_ok-place.place =
    c.get-value.ensures.word ∙ ap (λ (pages : ℕ → List ℕ). slice_index (pages page) c.in_ok-place.place) (c.get-tags.ensures.words ∙ c.find_field.ensures.words) in
    c.as_reference.ensures ∙ ap (λ (tags : ℕ). target_of c.args.pages (Some (field_of (bit_at tags c.args.i) c.get-value.result))) tags
    ∙ ap (λ (value : ℕ). target_of c.args.pages (Some (field_of (bit_at (slice_index words (c.args.r.word + 1)) c.args.i) value))) value
    ∙ sym (follow_taken words c.args.r.word c.args.i c.args.pages (count_at words c.args.r.word) c.in_ok-place.place taken)

pub returns-clause-made : goal.returns-clause-made
returns-clause-made g c =
    let page = c.args.r.page in
    let pages = (g.W.Words.seen c.args.words.now).words in
    let words = pages page in
    let taken = sym c.find_field.ensures.answer ∙ c.in_ok-place.was in
    let tags = c.get-tags.ensures in
    let value = c.get-value.ensures in
    let count = count_at words c.args.r.word in
    let place = place_found c.args.r.word c.args.i count c.in_ok-place.place taken in
    made_told (walk_calls pages page)
    (field_taken c.args.r.word c.args.i count c.in_ok-place.place taken
    (read_at page words (c.args.r.word + 1) ∷ read_at page words (field_place c.args.r.word c.args.i) ∷ [])
    ∙ ap (λ (at : ℕ). read_at page words (c.args.r.word + 1) ∷ read_at page words at ∷ []) place)
    (made_then (λ pages. read_at page (pages page) (c.args.r.word + 1) ∷ read_at page (pages page) c.in_ok-place.place ∷ [])
    c.find_field.ensures.made c.find_field.ensures.words
    (made_then (λ pages. read_at page (pages page) c.in_ok-place.place ∷ [])
    (read_made tags.word tags.right tags.words tags.made tags.left tags.step) tags.words
    (read_made value.word value.right value.words value.made value.left value.step)))
