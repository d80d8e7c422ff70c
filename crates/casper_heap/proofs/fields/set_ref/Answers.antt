use Rattle.std.proofs.Common.{◌≡◌, ◌<◌, ◌+◌, ◌*◌, ◌∷◌, ◌++◌, [], ◌∙◌, ap, subst, length, Option, Some, ℕ, List, Bool, true, false, cond, Ok, Err, arith, sym}
use Rattle.std.specs.Prelude.{nat_lt}
use Rattle.casper_space.specs.WordCalls.{with_word}
use Rattle.std.proofs.lemmas.Bool.Decides.{nat_tests}
use Rattle.casper_words.specs.declared.call.Call.{Call}
use Rattle.casper_heap.specs.declared.fault.HeapFault.{HeapFault}
use Rattle.casper_heap.specs.declared.fault.HeapFault.TheVariants.{NoField}
use Rattle.casper_heap.specs.Walk.{walk_calls}
use Rattle.casper_heap.specs.Objects.{count_at, field_place, fields_of}
use Rattle.casper_heap.specs.HeapCalls.{store_calls, with_tag, tags_at, second_walk, where_object}
use Rattle.casper_heap.proofs.Counts.{both_there, ref_by_field, ref_list}
use Rattle.casper_heap.proofs.Following.{made_then, made_as}
use Rattle.casper_heap.proofs.Storing.{reference_objects}
use Rattle.casper_heap.proofs.fields.set_ref.Goals as goal

pub returns-then-i-count-clause-answer : goal.returns-then-i-count-clause-answer
returns-then-i-count-clause-answer g c =
    let pages : ℕ → List ℕ = (g.W.Words.seen c.args.words.now).words in
    let test : nat_lt c.args.i c.in_ok-count.count ≡ false = grind (arith, nat_tests) in
    sym (ref_by_field (pages c.args.r.page) c.args.r.word c.args.i (fields_of (pages c.args.to.page) c.args.to.word) (count_at (pages c.args.r.page) c.args.r.word)
    (count_at (pages c.args.to.page) c.args.to.word) c.in_ok-count.count (sym c.count_where_both.ensures.answer ∙ c.in_ok-count.was)
    ∙ ap (λ (b : Bool). cond b (Ok tt) (Err HeapFault.NoField)) test)

pub returns-clause-answer : goal.returns-clause-answer
returns-clause-answer g c =
    let pages : ℕ → List ℕ = (g.W.Words.seen c.args.words.now).words in
    let test : nat_lt c.args.i c.in_ok-count.count ≡ true = grind (arith, nat_tests) in
    sym (ref_by_field (pages c.args.r.page) c.args.r.word c.args.i (fields_of (pages c.args.to.page) c.args.to.word) (count_at (pages c.args.r.page) c.args.r.word)
    (count_at (pages c.args.to.page) c.args.to.word) c.in_ok-count.count (sym c.count_where_both.ensures.answer ∙ c.in_ok-count.was)
    ∙ ap (λ (b : Bool). cond b (Ok tt) (Err HeapFault.NoField)) test)

pub returns-clause-made : goal.returns-clause-made
returns-clause-made g c =
    let pages : ℕ → List ℕ = (g.W.Words.seen c.args.words.now).words in
    let page = c.args.r.page in
    let word = c.args.r.word in
    let store : (ℕ → List ℕ) → ℕ → List Call =
    λ pages value. store_calls page (pages page) word c.args.i value (with_tag (tags_at (pages page) word) c.args.i) in
    let test : nat_lt c.args.i c.in_ok-count.count ≡ true = grind (arith, nat_tests) in
    made_as
    (ref_list (count_at (pages page) word) (count_at (pages c.args.to.page) c.args.to.word) c.in_ok-count.count c.args.i (walk_calls pages page)
    (second_walk pages c.args.r c.args.to) (store pages (512 * c.args.to.page + c.args.to.word)) (sym c.count_where_both.ensures.answer ∙ c.in_ok-count.was) test)
    (made_as (ap (λ (value : ℕ). (walk_calls pages page ++ where_object (count_at (pages page) word) (second_walk pages c.args.r c.args.to)) ++ store pages value) (sym c.number_of_place-value.ensures))
    (made_then (λ pages. store pages c.number_of_place-value.result) c.count_where_both.ensures.made c.count_where_both.ensures.words c.store.ensures.made))

pub returns-clause-changed : goal.returns-clause-changed
returns-clause-changed g c =
    let pages : ℕ → List ℕ = (g.W.Words.seen c.args.words.now).words in
    let page = c.args.r.page in
    let word = c.args.r.word in
    let to = c.args.to in
    let at = c.args.i in
    let there : count_at (pages page) word ≡ Some c.in_ok-count.count =
    both_there (count_at (pages page) word) (count_at (pages to.page) to.word) c.in_ok-count.count (sym c.count_where_both.ensures.answer ∙ c.in_ok-count.was) in
    reference_objects pages (g.W.Words.seen c.store.new.words).words c.args.r c.in_ok-count.count at to.page to.word
    (subst (λ (pages : ℕ → List ℕ). length (pages page) ≡ 512) c.count_where_both.ensures.words c.store.ensures.long) there c.if-i-count.false
    c.in_ok-count.ensures.target
    (c.store.ensures.made.words
    ∙ ap (λ (pages : ℕ → List ℕ). with_word (with_word pages page (field_place word at) c.number_of_place-value.result) page (word + 1) (with_tag (tags_at (pages page) word) at))
    c.count_where_both.ensures.words
    ∙ ap (λ (value : ℕ). with_word (with_word pages page (field_place word at) value) page (word + 1) (with_tag (tags_at (pages page) word) at))
    c.number_of_place-value.ensures)
