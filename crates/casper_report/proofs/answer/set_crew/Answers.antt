use Rattle.std.proofs.Common.{◌≡◌, ◌<◌, arith}
use Rattle.casper_report.proofs.TextLemmas.{line_grows, line_ends}
use Rattle.casper_report.proofs.answer.set_crew.Goals as goal

pub loop-below-preserved : goal.loop-below-preserved
loop-below-preserved c = (
  λ _. c.push_member.ensures.crew,
  line_grows c.args.word.now c.args.crew c.loop-below.below c.loop-below.text.items c.push_member.new.text.items c.loop-below.invariant.1 c.in_ok-push_member.ensures.text,
)

pub returns : goal.returns
returns c =
    let all : c.loop-below.below ≡ 32 = omega arith in
    let some : 0 < c.loop-below.below = omega arith in
    line_ends c.args.word.now c.args.crew c.loop-below.below c.loop-below.text.items c.push_text.new.text.items all (c.loop-below.invariant.0 some) c.loop-below.invariant.1 (c.in_ok-push_text.ensures {u = tt})
