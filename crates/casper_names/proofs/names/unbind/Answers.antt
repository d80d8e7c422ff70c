use Rattle.std.proofs.Common.{◌≡◌, ◌<◌, ◌*◌, ◌∙◌, ℕ, List, Option, Some, length, ap, subst, arith, sym}
use Rattle.std.specs.Prelude.{position, slice_set}
use Rattle.casper_space.proofs.Making.{made_both, made_write}
use Rattle.casper_heap.proofs.Following.{made_told}
use Rattle.casper_names.specs.Table.{is_named, entries_of, entry_of, names_of, without_entry, unbind_write, scan_calls}
use Rattle.casper_heap.proofs.Storing.{set_here}
use Rattle.casper_names.proofs.Keeping.{others_kept}
use Rattle.casper_names.proofs.Naming.{entries_count, removed_entries}
use Rattle.casper_names.proofs.names.unbind.Goals as goal

pub returns-clause-made : goal.returns-clause-made
returns-clause-made g c =
    let words = (g.W.Words.seen c.args.words.now).words 0 in
    let name = c.args.name.now in
    let one = c.set.ensures in
    let found : entry_of words name ≡ Some c.in-Some.entry =
    sym (c.find_entry.ensures.entry ∙ ap (λ (entries : List (Option (List ℕ))). position (is_named name) entries)
    (c.deref.ensures.0 ∙ c.scan-entries.ensures.entries)) ∙ c.in-Some.is in
    made_told (scan_calls words) (ap unbind_write found)
    (made_both c.scan-entries.ensures.made (made_write one.right one.words one.made one.left one.step))

pub returns-clause-removed : goal.returns-clause-removed
returns-clause-removed g c =
    let pages : ℕ → List ℕ = (g.W.Words.seen c.args.words.now).words in
    let words = pages 0 in
    let name = c.args.name.now in
    let entries : c.deref.result.now ≡ entries_of words = c.deref.ensures.0 ∙ c.scan-entries.ensures.entries in
    let found : entry_of words name ≡ Some c.in-Some.entry =
    sym (c.find_entry.ensures.entry ∙ ap (λ (entries : List (Option (List ℕ))). position (is_named name) entries) entries) ∙ c.in-Some.is in
    let below : c.in-Some.entry < length c.deref.result.now = c.in-Some.ensures.within in
    let size : length c.deref.result.now ≡ 64 = ap length entries ∙ entries_count words in
    let long : length words ≡ 512 = subst (λ (pages : ℕ → List ℕ). length (pages 0) ≡ 512) c.scan-entries.ensures.words c.set.ensures.long in
    ap (λ (pages : ℕ → List ℕ). entries_of (pages 0)) c.set.ensures.words
    ∙ ap entries_of (set_here (g.W.Words.seen c.scan-entries.new.words).words 0 (5 * c.in-Some.entry) 0)
    ∙ ap (λ (pages : ℕ → List ℕ). entries_of (slice_set (pages 0) (5 * c.in-Some.entry) 0)) c.scan-entries.ensures.words
    ∙ removed_entries words c.in-Some.entry (omega (arith, below, size)) long
    ∙ ap (without_entry (entries_of words)) (sym found)

pub returns-clause-others : goal.returns-clause-others
returns-clause-others g c =
    λ other apart.
    let pages : ℕ → List ℕ = (g.W.Words.seen c.args.words.now).words in
    let words = pages 0 in
    let name = c.args.name.now in
    let entries : c.deref.result.now ≡ entries_of words = c.deref.ensures.0 ∙ c.scan-entries.ensures.entries in
    let found : entry_of words name ≡ Some c.in-Some.entry =
    sym (c.find_entry.ensures.entry ∙ ap (λ (entries : List (Option (List ℕ))). position (is_named name) entries) entries) ∙ c.in-Some.is in
    let below : c.in-Some.entry < length c.deref.result.now = c.in-Some.ensures.within in
    let size : length c.deref.result.now ≡ 64 = ap length entries ∙ entries_count words in
    let long : length words ≡ 512 = subst (λ (pages : ℕ → List ℕ). length (pages 0) ≡ 512) c.scan-entries.ensures.words c.set.ensures.long in
    ap (λ (pages : ℕ → List ℕ). names_of (pages 0) other) c.set.ensures.words
    ∙ ap (λ (words : List ℕ). names_of words other) (set_here (g.W.Words.seen c.scan-entries.new.words).words 0 (5 * c.in-Some.entry) 0)
    ∙ ap (λ (pages : ℕ → List ℕ). names_of (slice_set (pages 0) (5 * c.in-Some.entry) 0) other) c.scan-entries.ensures.words
    ∙ others_kept words name other c.in-Some.entry found (omega (arith, below, size)) long apart
