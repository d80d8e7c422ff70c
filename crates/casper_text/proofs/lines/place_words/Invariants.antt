use Rattle.std.proofs.Common.{◌≤◌, ◌*◌, length}
use Rattle.std.specs.Vec.{vec_capacity}
use Rattle.casper_text.proofs.LineLemmas.{IsRead}
use Rattle.casper_text.proofs.lines.place_words.Given as goal

-- at most every other byte before the word that stands there began a word
abbrev pub invariant-loop-at : goal.invariant-loop-at
invariant-loop-at l =
    IsRead l.line l.spans.items l.from l.at
    × (2 * length l.spans.items ≤ l.from)
    × (vec_capacity l.fn.spans ≤ vec_capacity l.spans)
