use Rattle.std.proofs.Common.{◌≡◌, [], ◌∙◌, ◌==◌, cond, ap, sym, List, Option, Some, ℕ}
use Rattle.casper_heap.specs.declared.block.HeapBlock.{HeapBlock}
use Rattle.casper_heap.specs.Walk.{fields_in, walk_calls}
use Rattle.casper_heap.specs.Objects.{count_at}
use Rattle.casper_heap.specs.HeapCalls.{where_object}
use Rattle.casper_heap.proofs.Standing.{object_stands}
use Rattle.casper_heap.proofs.Following.{made_then, made_told}
use Rattle.casper_heap.proofs.fields.count_where_both.Goals as goal

pub returns-in-Some-count_second-clause-within : goal.returns-in-Some-count_second-clause-within
returns-in-Some-count_second-clause-within g c =
    let pages : ℕ → List ℕ = (g.W.Words.seen c.args.words.now).words in
    let counted : count_at (pages c.args.page) c.args.word ≡ Some c.in-Some.count =
    sym (c.fields_at.ensures ∙ ap (λ (blocks : List HeapBlock). fields_in blocks c.args.word) (c.deref.ensures.0 ∙ c.walk_page-walk.ensures.blocks)) ∙ c.in-Some.is in
    let so = object_stands (pages c.args.page) c.args.word c.in-Some.count counted in
    (so.few, so.ends)

pub returns-in-Some-count_second-clause-made : goal.returns-in-Some-count_second-clause-made
returns-in-Some-count_second-clause-made g c =
    let pages : ℕ → List ℕ = (g.W.Words.seen c.args.words.now).words in
    let counted : count_at (pages c.args.page) c.args.word ≡ Some c.in-Some.count =
    sym (c.fields_at.ensures ∙ ap (λ (blocks : List HeapBlock). fields_in blocks c.args.word) (c.deref.ensures.0 ∙ c.walk_page-walk.ensures.blocks)) ∙ c.in-Some.is in
    made_told (walk_calls pages c.args.page)
    (ap (λ (count : Option ℕ). where_object count (cond (c.args.other == c.args.page) [] (walk_calls pages c.args.other))) counted)
    (made_then (λ pages. cond (c.args.other == c.args.page) [] (walk_calls pages c.args.other)) c.walk_page-walk.ensures.made c.walk_page-walk.ensures.words
    c.count_second.ensures.made)

pub returns-in-None-clause-made : goal.returns-in-None-clause-made
returns-in-None-clause-made g c =
    let pages : ℕ → List ℕ = (g.W.Words.seen c.args.words.now).words in
    let counted : count_at (pages c.args.page) c.args.word ≡ Some c.in-Some.count =
    sym (c.fields_at.ensures ∙ ap (λ (blocks : List HeapBlock). fields_in blocks c.args.word) (c.deref.ensures.0 ∙ c.walk_page-walk.ensures.blocks)) ∙ c.in-Some.is in
    made_told (walk_calls pages c.args.page)
    (ap (λ (count : Option ℕ). where_object count (cond (c.args.other == c.args.page) [] (walk_calls pages c.args.other))) counted)
    (made_then (λ pages. cond (c.args.other == c.args.page) [] (walk_calls pages c.args.other)) c.walk_page-walk.ensures.made c.walk_page-walk.ensures.words
    c.count_second.ensures.made)
