use Rattle.std.proofs.Common.{arith}
use Rattle.casper_text.proofs.LineLemmas.{IsRead-more, IsRead-space, IsRead-end}
use Rattle.casper_text.proofs.lines.place_words.Goals as goal
use Rattle.casper_text.proofs.lines.place_words.Goals.{then-byte-eq32, else-byte-eq32}

pub loop-at-preserved : goal.loop-at-preserved
loop-at-preserved c =
    let line = c.args.line.now in
    let read = c.loop-at.invariant.0 in
    elim c.if-byte-eq32.branch [
      | then-byte-eq32 w ↦
          let begun = read.begun in (
            rw (w.spans-is, w.from-is, w.push_between.ensures.items)
                (IsRead-space line c.loop-at.spans.items c.loop-at.from c.loop-at.at read c.loop-at-test.true w.if-byte-eq32.true),
            rw (w.spans-is, w.from-is) (omega (arith, begun, w.push_between.ensures.count, c.loop-at.invariant.1)),
            rw w.spans-is (omega (arith, w.push_between.ensures.room, c.loop-at.invariant.2)),
          )
      | else-byte-eq32 w ↦ (
        rw (w.spans-is, w.from-is)
            (IsRead-more line c.loop-at.spans.items c.loop-at.from c.loop-at.at read c.loop-at-test.true w.if-byte-eq32.false),
        rw (w.spans-is, w.from-is) c.loop-at.invariant.1,
        rw w.spans-is c.loop-at.invariant.2,
      )
    ]

pub returns-clause-words : goal.returns-clause-words
returns-clause-words c =
    rw c.push_between-2.ensures.items
    (IsRead-end c.args.line.now c.loop-at.spans.items c.loop-at.from c.loop-at.at (omega arith) c.loop-at.invariant.0).words_are

pub returns-clause-within : goal.returns-clause-within
returns-clause-within c =
    rw c.push_between-2.ensures.items
    (IsRead-end c.args.line.now c.loop-at.spans.items c.loop-at.from c.loop-at.at (omega arith) c.loop-at.invariant.0).within
