use Rattle.std.proofs.Common.{◌≡◌, map, drop}
use Rattle.casper_text.specs.Span.{word_at}
use Rattle.casper_audit.specs.Lines.{members_in, members_behind}
use Rattle.casper_audit.proofs.parse.members_of.Given as goal

abbrev pub invariant-loop-word : goal.invariant-loop-word
invariant-loop-word l = members_in (map (word_at l.line) l.words) ≡ members_behind l.last l.members (map (word_at l.line) (drop l.word-index l.words))
