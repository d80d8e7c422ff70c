use Rattle.std.proofs.Common.{◌≡◌, ◌∷◌, [], ◌∙◌, ℕ, List, Option, Some, ap, sym}
use Rattle.std.specs.Prelude.{position}
use Rattle.casper_heap.proofs.Following.{made_then, made_told}
use Rattle.casper_heap.proofs.Walking.{read_made}
use Rattle.casper_names.specs.Table.{is_named, entry_of, value_read, value_place, table_read, scan_calls}
use Rattle.casper_names.proofs.names.lookup.Goals as goal

pub returns-clause-made : goal.returns-clause-made
returns-clause-made g c =
    let words = (g.W.Words.seen c.args.words.now).words 0 in
    let name = c.args.name.now in
    let one = c.get.ensures in
    let found : entry_of words name ≡ Some c.in-Some.entry =
    sym (c.find_entry.ensures.entry ∙ ap (λ (entries : List (Option (List ℕ))). position (is_named name) entries)
    (c.deref.ensures.0 ∙ c.scan-entries.ensures.entries)) ∙ c.in-Some.is in
    made_told (scan_calls words) (ap (value_read words) found)
    (made_then (λ pages. table_read (pages 0) (value_place c.in-Some.entry) ∷ []) c.scan-entries.ensures.made c.scan-entries.ensures.words
    (read_made one.word one.right one.words one.made one.left one.step))
