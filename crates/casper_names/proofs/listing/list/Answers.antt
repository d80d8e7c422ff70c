use Rattle.std.proofs.Common.{◌≡◌, ◌≤◌, ◌+◌, ◌++◌, ◌∙◌, ℕ, List, Option, length, get_or, ap, sym, subst, arith, add-one, length-append}
use Rattle.std.specs.List.{flat_map, range_with_len}
use Rattle.casper_words.specs.declared.call.Call.{Call}
use Rattle.casper_space.specs.WordCalls.{HasMade}
use Rattle.casper_space.proofs.Making.{made_both}
use Rattle.casper_heap.proofs.Following.{made_as, made_then}
use Rattle.casper_names.specs.Table.{name_at, entries_of, names_in, listed, valid_read, valid_reads}
use Rattle.casper_names.proofs.Naming.{flat_more, entries_count, entry_at, listed_short, all_names, all_values}
use Rattle.casper_names.proofs.listing.list.Goals as goal

pub bounds-deref-entry : goal.bounds-deref-entry
bounds-deref-entry g c =
    let words = (g.W.Words.seen c.args.words.now).words 0 in
    let size : length c.deref.result.now ≡ 64 = ap length (c.deref.ensures.0 ∙ c.scan-entries.ensures.entries) ∙ entries_count words in
    omega (arith, size)

pub loop-entry-preserved : goal.loop-entry-preserved
loop-entry-preserved g c =
    let first : ℕ → List ℕ = (g.W.Words.seen c.args.words.now).words in
    let pages : ℕ → List ℕ = (g.W.Words.seen c.scan-entries.new.words).words in
    let words = pages 0 in
    let at = c.loop-entry.entry in
    let so = c.loop-entry.invariant in
    let one = c.list_entry.ensures in
    let found = c.index-deref-entry.result in
    let reads : ℕ → List Call = λ k. valid_read words k (name_at words k) in
    let names : ℕ → List (List ℕ) = λ k. listed (name_at words k) in
    let none : 0 + at ≡ at = omega arith in
    let is : found ≡ name_at words at =
    c.index-deref-entry.is
    ∙ ap (λ (entries : List (Option (List ℕ))). get_or entries at found) (c.deref.ensures.0 ∙ c.scan-entries.ensures.entries)
    ∙ entry_at (first 0) at found c.loop-entry-test.true
    ∙ ap (λ (pages : ℕ → List ℕ). name_at (pages 0) at) (sym c.scan-entries.ensures.words) in
    let same : (g.W.Words.seen c.loop-entry.words).words ≡ pages = so.words in
    let size : length c.list_entry.new.into ≡ length c.loop-entry.into + length (listed found) = ap length one.added ∙ length-append c.loop-entry.into (listed found) in
    let short = listed_short found in
    let few : length c.loop-entry.into ≤ at = so.few in
    let room : (g.W.Words.seen c.scan-entries.new.words).room ≤ (g.W.Words.seen c.loop-entry.words).room + at = so.room in
    let left : (g.W.Words.seen c.loop-entry.words).room ≤ (g.W.Words.seen c.list_entry.new.words).room + 1 = one.left in
    record {
      right = one.made.right ∙ so.right;
      words = one.words ∙ so.words;
      made = made_as (ap (λ (n : ℕ). flat_map reads (range_with_len 0 n)) (add-one at)
          ∙ flat_more reads 0 at ∙ ap (λ (k : ℕ). flat_map reads (range_with_len 0 at) ++ reads k) none)
          (made_both so.made (subst (λ (name : Option (List ℕ)). HasMade g.W.Words.seen g.W.Words.step c.loop-entry.words (valid_read words at name) c.list_entry.new.words) is
          (subst (λ (pages : ℕ → List ℕ). HasMade g.W.Words.seen g.W.Words.step c.loop-entry.words (valid_read (pages 0) at found) c.list_entry.new.words) same one.made)));
      into = one.added ∙ ap (λ (list : List (List ℕ)). list ++ listed found) so.into
          ∙ ap (λ (name : Option (List ℕ)). flat_map names (range_with_len 0 at) ++ listed name) is
          ∙ sym (ap (λ (n : ℕ). flat_map names (range_with_len 0 n)) (add-one at)
          ∙ flat_more names 0 at ∙ ap (λ (k : ℕ). flat_map names (range_with_len 0 at) ++ names k) none);
      few = omega (arith, size, short, few);
      room = omega (arith, room, left);
    }

pub returns-clause-names : goal.returns-clause-names
returns-clause-names g c =
    c.loop-entry.invariant.into
    ∙ all_names ((g.W.Words.seen c.scan-entries.new.words).words 0) c.loop-entry.entry (omega arith)
    ∙ ap (λ (pages : ℕ → List ℕ). names_in (entries_of (pages 0))) c.scan-entries.ensures.words

pub returns-clause-made : goal.returns-clause-made
returns-clause-made g c =
    made_then (λ pages. valid_reads (pages 0)) c.scan-entries.ensures.made c.scan-entries.ensures.words
    (made_as (sym (all_values ((g.W.Words.seen c.scan-entries.new.words).words 0) c.loop-entry.entry (omega arith))) c.loop-entry.invariant.made)
