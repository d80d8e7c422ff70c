use Rattle.std.proofs.Common.{arith, ◌+◌, ◌++◌, cond, subst, length, ◌≡◌, ◌∷◌, [], ◌∙◌, ap, ℕ, List, Option, Some, sym}
use Rattle.casper_heap.specs.declared.block.HeapBlock.{HeapBlock}
use Rattle.casper_heap.specs.Walk.{walk_calls, blocks_of, walk_end, first_free}
use Rattle.casper_heap.specs.Answers.{place_of_new}
use Rattle.std.specs.Prelude.{is_some, option_map}
use Rattle.casper_space.specs.WordCalls.{write_of, words_after}
use Rattle.casper_heap.specs.Objects.{fields_of}
use Rattle.casper_heap.specs.HeapCalls.{new_writes, object_writes}
use Rattle.casper_heap.proofs.NewObjects.{place_is_new, new_objects}
use Rattle.casper_space.proofs.Making.{made_both}
use Rattle.casper_heap.proofs.NewPlaces.{new_within_by, new_list, length_new}
use Rattle.casper_heap.proofs.Following.{made_told, made_no_more}
use Rattle.casper_heap.proofs.objects.alloc_object.Goals as goal

pub write_new-requires-clause-within : goal.write_new-requires-clause-within
write_new-requires-clause-within g c =
    let words = (g.W.Words.seen c.args.words.now).words c.args.page in
    let freed : c.free_place-free.result ≡ first_free (blocks_of words) c.args.n =
    c.free_place-free.ensures ∙ ap (λ (blocks : List HeapBlock). first_free blocks c.args.n) (c.deref.ensures.0 ∙ c.walk_page-walk.ensures.blocks) in
    new_within_by words c.free_place-free.result c.walk_page-walk.result.end c.args.n c.in-Some.place freed (sym c.place_for.ensures ∙ c.in-Some.is)

pub returns-clause-made : goal.returns-clause-made
returns-clause-made g c =
    let pages : ℕ → List ℕ = (g.W.Words.seen c.args.words.now).words in
    let words = pages c.args.page in
    let freed : c.free_place-free.result ≡ first_free (blocks_of words) c.args.n =
    c.free_place-free.ensures ∙ ap (λ (blocks : List HeapBlock). first_free blocks c.args.n) (c.deref.ensures.0 ∙ c.walk_page-walk.ensures.blocks) in
    made_told (walk_calls pages c.args.page)
    (sym (ap (λ (free : Option ℕ). new_writes free c.args.page (walk_end words) c.args.n) freed)
    ∙ sym (ap (λ (end : ℕ). new_writes c.free_place-free.result c.args.page end c.args.n) c.walk_page-walk.ensures.end)
    ∙ new_list c.free_place-free.result c.args.page c.walk_page-walk.result.end c.args.n c.in-Some.place (sym c.place_for.ensures ∙ c.in-Some.is))
    (made_both c.walk_page-walk.ensures.made c.write_new.ensures.made)

pub returns-clause-new : goal.returns-clause-new
returns-clause-new g c =
    let words = (g.W.Words.seen c.args.words.now).words c.args.page in
    let freed : c.free_place-free.result ≡ first_free (blocks_of words) c.args.n =
    c.free_place-free.ensures ∙ ap (λ (blocks : List HeapBlock). first_free blocks c.args.n) (c.deref.ensures.0 ∙ c.walk_page-walk.ensures.blocks) in
    ap (option_map (fields_of words c.in-Some.place))
    (place_is_new words c.free_place-free.result c.walk_page-walk.result.end c.args.n c.in-Some.place freed c.walk_page-walk.ensures.end
    (sym c.place_for.ensures ∙ c.in-Some.is))

pub returns-clause-changed : goal.returns-clause-changed
returns-clause-changed g c =
    let pages : ℕ → List ℕ = (g.W.Words.seen c.args.words.now).words in
    let page = c.args.page in
    let words = pages page in
    let freed : c.free_place-free.result ≡ first_free (blocks_of words) c.args.n =
    c.free_place-free.ensures ∙ ap (λ (blocks : List HeapBlock). first_free blocks c.args.n) (c.deref.ensures.0 ∙ c.walk_page-walk.ensures.blocks) in
    let list = object_writes page c.in-Some.place c.args.n ++ cond (is_some c.free_place-free.result) [] (write_of page 0 (c.in-Some.place + c.args.n + 2) ∷ []) in
    new_objects pages (g.W.Words.seen c.write_new.new.words).words page c.args.n c.in-Some.place c.walk_page-walk.result.end c.free_place-free.result freed
    c.walk_page-walk.ensures.end (sym c.place_for.ensures ∙ c.in-Some.is) c.requires.some c.requires.few
    (subst (λ (pages : ℕ → List ℕ). length (pages page) ≡ 512) c.walk_page-walk.ensures.words c.write_new.ensures.long)
    (c.write_new.ensures.made.words ∙ ap (λ (pages : ℕ → List ℕ). words_after pages list) c.walk_page-walk.ensures.words)

pub returns-clause-few : goal.returns-clause-few
returns-clause-few g c =
    let writes = length_new c.args.page c.in-Some.place c.args.n c.free_place-free.result in
    let walk = c.walk_page-walk.ensures.few in
    let room = c.write_new.ensures.made.room in
    let few = c.requires.few in
    omega (arith, writes, walk, room, few)
