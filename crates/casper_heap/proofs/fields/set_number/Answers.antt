use Rattle.std.proofs.Common.{◌≡◌, ◌+◌, ◌∷◌, [], ◌∙◌, ap, subst, length, ℕ, List, sym}
use Rattle.casper_space.specs.WordCalls.{with_word}
use Rattle.std.proofs.lemmas.Result.{err_from_is_err_and}
use Rattle.casper_heap.specs.Walk.{walk_calls}
use Rattle.casper_heap.specs.Objects.{count_at, field_place}
use Rattle.casper_heap.specs.HeapCalls.{store_calls, without_tag, tags_at}
use Rattle.casper_heap.proofs.Counts.{count_there, field_taken, field_refused, set_taken, set_refused}
use Rattle.casper_heap.proofs.Following.{made_then, made_no_more, made_told}
use Rattle.casper_heap.proofs.Storing.{number_objects}
use Rattle.casper_heap.proofs.fields.set_number.Goals as goal

pub returns-in_err-find_field-clause-answer : goal.returns-in_err-find_field-clause-answer
returns-in_err-find_field-clause-answer g c =
    let words = (g.W.Words.seen c.args.words.now).words c.args.r.page in
    let p = err_from_is_err_and c.from_residual.result c.from_residual.ensures.1 in
    rw (p.1, p.2)
    (sym (set_refused words c.args.r.word c.args.i (count_at words c.args.r.word) c.in_err-find_field.field-0.0
    (sym c.find_field.ensures.answer ∙ c.in_err-find_field.was)))

pub returns-in_err-find_field-clause-made : goal.returns-in_err-find_field-clause-made
returns-in_err-find_field-clause-made g c =
    made_no_more
    (field_refused c.args.r.word c.args.i _ c.in_err-find_field.field-0.0 (sym c.find_field.ensures.answer ∙ c.in_err-find_field.was) _)
    c.find_field.ensures.made

pub returns-clause-answer : goal.returns-clause-answer
returns-clause-answer g c =
    let words = (g.W.Words.seen c.args.words.now).words c.args.r.page in
    let taken = sym c.find_field.ensures.answer ∙ c.in_ok-find_field.was in
    sym (set_taken words c.args.r.word c.args.i (count_at words c.args.r.word) c.in_ok-find_field.field-0 taken)

pub returns-clause-made : goal.returns-clause-made
returns-clause-made g c =
    let words = (g.W.Words.seen c.args.words.now).words c.args.r.page in
    let taken = sym c.find_field.ensures.answer ∙ c.in_ok-find_field.was in
    made_told (walk_calls (g.W.Words.seen c.args.words.now).words c.args.r.page)
    (field_taken c.args.r.word c.args.i (count_at words c.args.r.word) c.in_ok-find_field.field-0 taken _)
    (made_then (λ pages. store_calls c.args.r.page (pages c.args.r.page) c.args.r.word c.args.i c.args.v
    (without_tag (tags_at (pages c.args.r.page) c.args.r.word) c.args.i)) c.find_field.ensures.made c.find_field.ensures.words
    c.store.ensures.made)

pub returns-clause-changed : goal.returns-clause-changed
returns-clause-changed g c =
    let pages : ℕ → List ℕ = (g.W.Words.seen c.args.words.now).words in
    let page = c.args.r.page in
    let word = c.args.r.word in
    let at = c.args.i in
    let there = count_there word at (count_at (pages page) word) c.in_ok-find_field.field-0 (sym c.find_field.ensures.answer ∙ c.in_ok-find_field.was) in
    number_objects pages (g.W.Words.seen c.store.new.words).words c.args.r there.0 at c.args.v
    (subst (λ (pages : ℕ → List ℕ). length (pages page) ≡ 512) c.find_field.ensures.words c.store.ensures.long) there.1 there.2
    (c.store.ensures.made.words
    ∙ ap (λ (pages : ℕ → List ℕ). with_word (with_word pages page (field_place word at) c.args.v) page (word + 1) (without_tag (tags_at (pages page) word) at))
    c.find_field.ensures.words)
