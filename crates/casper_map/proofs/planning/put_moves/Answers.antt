use Rattle.std.proofs.Common.{ℕ, ◌+◌, ◌<◌, List, length, take, get_or, set, sym, subst, arith}
use Rattle.std.specs.Prelude.{Option, Some}
use Rattle.std.proofs.lemmas.List.{take_all}
use Rattle.casper_map.specs.Planned.{Show, with_moves}
use Rattle.casper_map.proofs.PlanLemmas.{show_hit, show_miss, moves_long, moves_more}
use Rattle.casper_map.proofs.planning.put_moves.Goals as goal
use Rattle.casper_map.proofs.planning.put_moves.Goals.{then-target-first+then-target-first-2, else-target-first, else-target-first-via-then-target-first+else-target-first-2, else-target-first-via-else-target-first}

pub loop-target-preserved : goal.loop-target-preserved
loop-target-preserved c places base within show =
    let moves = c.args.moves.now in
    let i = c.loop-target.target-index in
    let move = get_or moves i (0, 0) in
    let first = c.args.first in
    let before = with_moves base (take i moves) places in
    let numbers = c.loop-target.numbers in
    let held : Show before (base + first) numbers = c.loop-target.invariant places base within show in
    let there : base + move.0 < length before = omega (arith, moves_long base (take i moves) places, within i (0, 0) c.loop-target-test.true) in
    subst (λ (list : List (Option ℕ)). Show list (base + first) c.if-target-first.numbers) (sym (moves_more base moves places i (0, 0) c.loop-target-test.true))
    (elim c.if-target-first.branch [
      | then-target-first+then-target-first-2 w ↦
          subst (λ (list : List ℕ). Show (set before (base + move.0) (Some move.1)) (base + first) list) (sym w.numbers-is)
          (show_hit before base first move.0 move.1 numbers held there w.if-target-first.true w.if-target-first-2.true)
      | else-target-first w ↦
          subst (λ (list : List ℕ). Show (set before (base + move.0) (Some move.1)) (base + first) list) (sym w.numbers-is)
          (show_miss before base first move.0 move.1 numbers held
          (λ high low. elim w.else-target-first.branch [
            | else-target-first-via-then-target-first+else-target-first-2 v ↦ omega (arith, v.if-target-first-2.false)
            | else-target-first-via-else-target-first v ↦ omega (arith, v.if-target-first.false)
          ]))
    ])

pub returns : goal.returns
returns c places base within show =
    subst (λ (moves : List (ℕ × ℕ)). Show (with_moves base moves places) (base + c.args.first) c.loop-target.numbers)
    (take_all c.loop-target.target-index c.args.moves.now (omega arith)) (c.loop-target.invariant places base within show)
