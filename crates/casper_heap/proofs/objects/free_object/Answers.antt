use Rattle.std.proofs.Common.{◌≡◌, ◌∷◌, [], ◌∙◌, ap, subst, length, ℕ, List, Option, sym}
use Rattle.casper_space.specs.WordCalls.{write_of, with_word}
use Rattle.casper_space.proofs.Making.{made_both, made_write}
use Rattle.casper_heap.specs.Walk.{walk_calls}
use Rattle.casper_heap.specs.HeapCalls.{free_write}
use Rattle.casper_heap.proofs.Following.{made_told}
use Rattle.casper_heap.proofs.Storing.{freed_objects}
use Rattle.casper_heap.proofs.objects.free_object.Goals as goal

pub returns-clause-made : goal.returns-clause-made
returns-clause-made g c =
    let pages : ℕ → List ℕ = (g.W.Words.seen c.args.words.now).words in
    let one = c.set.ensures in
    made_told (walk_calls pages c.args.r.page)
    (ap (λ (count : Option ℕ). free_write count c.args.r) (sym c.count_fields.ensures.count ∙ c.in-Some.is)
    ∙ ap (λ (count : ℕ). write_of c.args.r.page c.args.r.word count ∷ []) (sym c.from.ensures))
    (made_both c.count_fields.ensures.made (made_write one.right one.words one.made one.left one.step))

pub returns-clause-changed : goal.returns-clause-changed
returns-clause-changed g c =
    let pages : ℕ → List ℕ = (g.W.Words.seen c.args.words.now).words in
    let page = c.args.r.page in
    let word = c.args.r.word in
    freed_objects pages (g.W.Words.seen c.set.new.self).words c.args.r c.in-Some.count
    (subst (λ (pages : ℕ → List ℕ). length (pages page) ≡ 512) c.count_fields.ensures.words c.set.ensures.long)
    (sym c.count_fields.ensures.count ∙ c.in-Some.is)
    (c.set.ensures.words ∙ ap (λ (pages : ℕ → List ℕ). with_word pages page word c.from.result) c.count_fields.ensures.words
    ∙ ap (λ (count : ℕ). with_word pages page word count) c.from.ensures)
