use Rattle.std.proofs.Common.{◌≡◌, ◌∙◌, ℕ, List, take, drop, length, ap}
use Rattle.std.specs.Int.{w64, from_le_bytes}
use Rattle.casper_words.specs.Padded.{padded}
use Rattle.casper_space.proofs.Making.{made_both, made_write}
use Rattle.casper_names.specs.Binding.{name_word}
use Rattle.casper_names.proofs.Writing.{made_write_of}
use Rattle.casper_names.proofs.entry.write_entry.Goals as goal

pub returns-clause-made : goal.returns-clause-made
returns-clause-made g c =
    let name = c.args.name.now in
    let bytes : c.padded_bytes-bytes.result ≡ padded 24 0 name = c.padded_bytes-bytes.ensures in
    let count : length c.bytes.result.now ≡ length name = ap length c.bytes.ensures.bytes in
    let first : c.word_from.result ≡ name_word name 0 = c.word_from.ensures ∙ ap (λ (bytes : List ℕ). from_le_bytes w64 (take 8 (drop 0 bytes))) bytes in
    let second : c.word_from-2.result ≡ name_word name 1 = c.word_from-2.ensures ∙ ap (λ (bytes : List ℕ). from_le_bytes w64 (take 8 (drop 8 bytes))) bytes in
    let third : c.word_from-3.result ≡ name_word name 2 = c.word_from-3.ensures ∙ ap (λ (bytes : List ℕ). from_le_bytes w64 (take 8 (drop 16 bytes))) bytes in
    let a = c.set.ensures in
    let b = c.set-2.ensures in
    let d = c.set-3.ensures in
    let e = c.set-4.ensures in
    let f = c.set-5.ensures in
    made_both (made_write_of count (made_write a.right a.words a.made a.left a.step))
    (made_both (made_write_of first (made_write b.right b.words b.made b.left b.step))
    (made_both (made_write_of second (made_write d.right d.words d.made d.left d.step))
    (made_both (made_write_of third (made_write e.right e.words e.made e.left e.step))
    (made_write f.right f.words f.made f.left f.step))))
