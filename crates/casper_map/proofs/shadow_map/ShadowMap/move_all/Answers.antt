use Rattle.std.proofs.Common.{◌≡◌, ◌+◌, ℕ, List, length, take, get_or, set, false, sym, ◌∙◌, ap, subst, arith}
use Rattle.std.specs.Prelude.{Option, Some, nat_le}
use Rattle.std.proofs.lemmas.Bool.{or_parts, leb-false}
use Rattle.std.proofs.lemmas.List.{take_all}
use Rattle.casper_map.specs.Faulty.{is_faulty_beside}
use Rattle.casper_map.specs.Levels.{names}
use Rattle.casper_map.specs.Mapped.{Mapped}
use Rattle.casper_map.specs.Planned.{with_moves}
use Rattle.casper_map.proofs.PlanLemmas.{moves_more, moves_long}
use Rattle.casper_map.proofs.MoveLemmas.{next_new}
use Rattle.casper_map.proofs.shadow_map.ShadowMap.move_all.Goals as goal

pub move_to-requires-clause-within : goal.move_to-requires-clause-within
move_to-requires-clause-within c =
    omega (
      arith,
      c.requires.within c.loop-target.target-index (0, 0) c.loop-target-test.true,
      ap (λ (held : Mapped). length held.places) c.loop-target.invariant,
      moves_long c.args.first (take c.loop-target.target-index c.args.moves.now) c.args.self.now.places,
    )

pub move_to-requires-clause-free : goal.move_to-requires-clause-free
move_to-requires-clause-free c =
    let i = c.loop-target.target-index in
    subst (λ (held : Mapped). is_faulty_beside held.frames held.places (Some (get_or c.args.moves.now i (0, 0)).1) ≡ false) (sym c.loop-target.invariant)
    (next_new c.args.self.now.frames c.args.first c.args.self.now.places c.args.moves.now i c.requires.new_frames c.loop-target-test.true)

pub move_to-requires-clause-in_range : goal.move_to-requires-clause-in_range
move_to-requires-clause-in_range c =
    let frame = (get_or c.args.moves.now c.loop-target.target-index (0, 0)).1 in
    let self = c.loop-target.self in
    leb-false self.frames frame (or_parts (nat_le self.frames frame) (names self.places frame) (move_to-requires-clause-free c)).0

pub loop-target-preserved : goal.loop-target-preserved
loop-target-preserved c =
    let move = get_or c.args.moves.now c.loop-target.target-index (0, 0) in
    let moved : Mapped → Mapped = λ held. record held { places = set held.places (c.args.first + move.0) (Some move.1) } in
    let with : List (Option ℕ) → Mapped = λ places. record c.args.self.now { places = places } in
    c.move_to.ensures ∙ ap moved c.loop-target.invariant
    ∙ ap with (sym (moves_more c.args.first c.args.moves.now c.args.self.now.places c.loop-target.target-index (0, 0) c.loop-target-test.true))

pub returns : goal.returns
returns c =
    c.loop-target.invariant
    ∙ ap (λ (moves : List (ℕ × ℕ)). record c.args.self.now { places = with_moves c.args.first moves c.args.self.now.places })
    (take_all c.loop-target.target-index c.args.moves.now (omega (arith, c.loop-target-test.false)))
