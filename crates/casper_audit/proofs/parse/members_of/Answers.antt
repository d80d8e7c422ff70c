use Rattle.std.proofs.Common.{arith, ◌+◌, ℕ, List, map, drop, sym, ◌∙◌, ap}
use Rattle.casper_text.specs.Span.{word_at}
use Rattle.casper_audit.specs.Lines.{client_in, members_behind}
use Rattle.casper_audit.proofs.ParseLemmas.{member_next}
use Rattle.casper_audit.proofs.parse.members_of.Goals as goal

pub loop-word-preserved : goal.loop-word-preserved
loop-word-preserved c =
    c.loop-word.invariant
    ∙ member_next c.args.line.now c.args.words.now c.loop-word.word-index c.loop-word.last c.in_ok-who.who c.loop-word.members _ c.loop-word-test.true
    (ap client_in (sym c.of.ensures) ∙ sym c.client_of.ensures ∙ c.in_ok-who.was) (omega arith)
    ∙ ap (λ (members : List ℕ). members_behind c.in_ok-who.who members (map (word_at c.args.line.now) (drop (c.loop-word.word-index + 1) c.args.words.now))) (sym c.with-members.ensures.members)
    ∙ ap (λ (last : ℕ). members_behind last c.with-members.result (map (word_at c.args.line.now) (drop (c.loop-word.word-index + 1) c.args.words.now))) (sym c.number-last.ensures.number)
