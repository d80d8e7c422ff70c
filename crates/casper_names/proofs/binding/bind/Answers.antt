use Rattle.std.proofs.Common.{◌≡◌, ◌++◌, [], ◌∙◌, ℕ, List, Option, Some, None, length, ap, subst, sym}
use Rattle.std.proofs.lemmas.List.{append-nil}
use Rattle.casper_space.specs.WordCalls.{words_after}
use Rattle.casper_space.proofs.Making.{made_both}
use Rattle.casper_heap.proofs.Following.{made_then, made_as}
use Rattle.casper_heap.specs.Walk.{walk_calls}
use Rattle.casper_heap.specs.Objects.{objects_of}
use Rattle.casper_names.specs.Table.{entries_of, names_of, scan_calls}
use Rattle.casper_names.specs.Binding.{entry_for, entry_writes, with_entry, with_name, value_of_ref}
use Rattle.casper_names.proofs.Binds.{bound_names, chosen_list}
use Rattle.casper_names.proofs.Writing.{after_entry, written_entries}
use Rattle.casper_names.proofs.binding.bind.Goals as goal

pub returns-in_default-clause-made : goal.returns-in_default-clause-made
returns-in_default-clause-made g c =
    let pages : ℕ → List ℕ = (g.W.Words.seen c.args.words.now).words in
    let words = pages 0 in
    let name = c.args.name.now in
    let chose : entry_for words name ≡ None =
    sym (c.scan_to_bind.ensures.entry ∙ ap (λ (pages : ℕ → List ℕ). entry_for (pages 0) name) c.is_object.ensures.words) ∙ c.in_default.is in
    made_as (chosen_list (objects_of pages c.args.r) (walk_calls pages c.args.r.page) (scan_calls words) (entry_for words name) None name (value_of_ref c.args.r)
    (sym c.is_object.ensures.answer ∙ c.if-not-is_object.false) chose)
    (made_then (λ pages. scan_calls (pages 0) ++ []) c.is_object.ensures.made c.is_object.ensures.words
    (made_as (append-nil (scan_calls ((g.W.Words.seen c.is_object.new.words).words 0))) c.scan_to_bind.ensures.made))

pub returns-clause-bound : goal.returns-clause-bound
returns-clause-bound g c =
    λ other.
    let pages : ℕ → List ℕ = (g.W.Words.seen c.args.words.now).words in
    let words = pages 0 in
    let name = c.args.name.now in
    let entry = c.in-Some.entry in
    let value = c.number_of_place-value.result in
    let same : (g.W.Words.seen c.scan_to_bind.new.words).words ≡ pages = c.scan_to_bind.ensures.words ∙ c.is_object.ensures.words in
    let chose : entry_for words name ≡ Some entry =
    sym (c.scan_to_bind.ensures.entry ∙ ap (λ (pages : ℕ → List ℕ). entry_for (pages 0) name) c.is_object.ensures.words) ∙ c.in-Some.is in
    let long : length words ≡ 512 = subst (λ (pages : ℕ → List ℕ). length (pages 0) ≡ 512) same c.write_entry.ensures.long in
    let after : (g.W.Words.seen c.write_entry.new.words).words 0 ≡ after_entry words entry name value =
    ap (λ (pages : ℕ → List ℕ). pages 0) c.write_entry.ensures.made.words
    ∙ ap (λ (pages : ℕ → List ℕ). words_after pages (entry_writes entry name value) 0) same in
    ap (λ (words : List ℕ). names_of words other) after
    ∙ bound_names words name entry value chose c.in-Some.ensures.within long c.write_entry.ensures.name other
    ∙ ap (λ (value : ℕ). with_name (names_of words) name value other) c.number_of_place-value.ensures

pub returns-clause-entry : goal.returns-clause-entry
returns-clause-entry g c =
    let pages : ℕ → List ℕ = (g.W.Words.seen c.args.words.now).words in
    let words = pages 0 in
    let name = c.args.name.now in
    let entry = c.in-Some.entry in
    let value = c.number_of_place-value.result in
    let same : (g.W.Words.seen c.scan_to_bind.new.words).words ≡ pages = c.scan_to_bind.ensures.words ∙ c.is_object.ensures.words in
    let chose : entry_for words name ≡ Some entry =
    sym (c.scan_to_bind.ensures.entry ∙ ap (λ (pages : ℕ → List ℕ). entry_for (pages 0) name) c.is_object.ensures.words) ∙ c.in-Some.is in
    let long : length words ≡ 512 = subst (λ (pages : ℕ → List ℕ). length (pages 0) ≡ 512) same c.write_entry.ensures.long in
    let after : (g.W.Words.seen c.write_entry.new.words).words 0 ≡ after_entry words entry name value =
    ap (λ (pages : ℕ → List ℕ). pages 0) c.write_entry.ensures.made.words
    ∙ ap (λ (pages : ℕ → List ℕ). words_after pages (entry_writes entry name value) 0) same in
    ap entries_of after
    ∙ written_entries words entry name value c.in-Some.ensures.within long c.write_entry.ensures.name
    ∙ ap (λ (choice : Option ℕ). with_entry (entries_of words) choice name) (sym chose)

pub returns-clause-made : goal.returns-clause-made
returns-clause-made g c =
    let pages : ℕ → List ℕ = (g.W.Words.seen c.args.words.now).words in
    let words = pages 0 in
    let name = c.args.name.now in
    let entry = c.in-Some.entry in
    let value = c.number_of_place-value.result in
    let chose : entry_for words name ≡ Some entry =
    sym (c.scan_to_bind.ensures.entry ∙ ap (λ (pages : ℕ → List ℕ). entry_for (pages 0) name) c.is_object.ensures.words) ∙ c.in-Some.is in
    made_as (chosen_list (objects_of pages c.args.r) (walk_calls pages c.args.r.page) (scan_calls words) (entry_for words name) (Some entry) name (value_of_ref c.args.r)
    (sym c.is_object.ensures.answer ∙ c.if-not-is_object.false) chose)
    (made_as (ap (λ (value : ℕ). walk_calls pages c.args.r.page ++ (scan_calls words ++ entry_writes entry name value)) (sym c.number_of_place-value.ensures))
    (made_then (λ pages. scan_calls (pages 0) ++ entry_writes entry name value) c.is_object.ensures.made c.is_object.ensures.words
    (made_both c.scan_to_bind.ensures.made c.write_entry.ensures.made)))
