use Rattle.std.proofs.Common.{◌≡◌, ◌≤◌, ◌+◌, ◌*◌, ◌∷◌, [], ◌++◌, ◌∙◌, ℕ, List, map, length, ap, sym, subst, arith, add-one}
use Rattle.std.specs.List.{flat_map, range_with_len}
use Rattle.std.proofs.lemmas.List.FromFn.{map-range_with_len_more, length-map-range_with_len}
use Rattle.casper_space.specs.WordCalls.{HasMade}
use Rattle.casper_space.proofs.Making.{made_both}
use Rattle.casper_heap.proofs.Following.{made_as}
use Rattle.casper_names.specs.Table.{name_at, entry_reads}
use Rattle.casper_names.proofs.Naming.{flat_more, all_entries, all_reads}
use Rattle.casper_names.proofs.entry.scan.Goals as goal

pub push-requires : goal.push-requires
push-requires g c =
    let words = (g.W.Words.seen c.args.words.now).words 0 in
    let so = c.loop-entry.invariant in
    let size : length c.loop-entry.entries.items ≡ c.loop-entry.entry =
    ap length so.entries ∙ length-map-range_with_len (name_at words) 0 c.loop-entry.entry in
    omega (arith, size)

pub loop-entry-preserved : goal.loop-entry-preserved
loop-entry-preserved g c =
    let words = (g.W.Words.seen c.args.words.now).words 0 in
    let at = c.loop-entry.entry in
    let so = c.loop-entry.invariant in
    let one = c.read_entry-name.ensures in
    let none : 0 + at ≡ at = omega arith in
    let room : (g.W.Words.seen c.args.words.now).room ≤ (g.W.Words.seen c.loop-entry.words).room + 4 * at = so.room in
    let few : (g.W.Words.seen c.loop-entry.words).room ≤ (g.W.Words.seen c.read_entry-name.new.words).room + 4 = one.few in
    let same : (g.W.Words.seen c.loop-entry.words).words ≡ (g.W.Words.seen c.args.words.now).words = so.words in
    record {
      right = one.made.right ∙ so.right;
      words = one.words ∙ so.words;
      made = made_as (ap (λ (n : ℕ). flat_map (entry_reads words) (range_with_len 0 n)) (add-one at)
          ∙ flat_more (entry_reads words) 0 at ∙ ap (λ (k : ℕ). flat_map (entry_reads words) (range_with_len 0 at) ++ entry_reads words k) none)
          (made_both so.made (subst (λ (pages : ℕ → List ℕ). HasMade g.W.Words.seen g.W.Words.step c.loop-entry.words (entry_reads (pages 0) at) c.read_entry-name.new.words) same one.made));
      entries = c.push.ensures.items ∙ ap (λ (list : List _). list ++ c.read_entry-name.result ∷ []) so.entries
          ∙ ap (λ (name : _). map (name_at words) (range_with_len 0 at) ++ name ∷ [])
          (one.name ∙ ap (λ (pages : ℕ → List ℕ). name_at (pages 0) at) same)
          ∙ sym (map-range_with_len_more (name_at words) 0 at at none);
      room = omega arith;
    }

pub returns-clause-entries : goal.returns-clause-entries
returns-clause-entries g c =
    c.loop-entry.invariant.entries ∙ all_entries ((g.W.Words.seen c.args.words.now).words 0) c.loop-entry.entry (omega arith)

pub returns-clause-made : goal.returns-clause-made
returns-clause-made g c =
    made_as (sym (all_reads ((g.W.Words.seen c.args.words.now).words 0) c.loop-entry.entry (omega arith))) c.loop-entry.invariant.made
