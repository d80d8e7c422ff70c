use Rattle.std.proofs.Common.{◌≡◌, ℕ, List, length, sym, ◌∙◌, ap, subst, arith}
use Rattle.std.proofs.lemmas.List.{length-replicate, length-take}
use Rattle.casper_map.specs.Planned.{Planned, Show, AreWithin, with_moves}
use Rattle.casper_map.proofs.PlannedLemmas.{maps_within, maps_shown}
use Rattle.casper_map.proofs.shadow_map.ShadowMap.maps.Goals as goal

pub returns : goal.returns
returns c =
    let held = c.args.self.now in
    let plan = c.args.plan.now in
    let maps = c.as_slice.ensures ∙ ap (λ (given : Planned). given.maps) c.plan.view_is in
    let sizes = c.blocks-count.ensures.mapped in
    let within : AreWithin 0 held.places c.as_slice.result.now = subst (λ (moves : List (ℕ × ℕ)). AreWithin 0 held.places moves) (sym maps) (maps_within held plan sizes c.requires) in
    let show : Show (with_moves 0 plan.maps held.places) 0 c.put_moves.new.numbers =
    subst (λ (moves : List (ℕ × ℕ)). Show (with_moves 0 moves held.places) 0 c.put_moves.new.numbers) maps (c.put_moves.ensures held.places 0 within c.put_numbers_from.ensures) in
    let long : length c.put_moves.new.numbers ≡ held.first_page =
    omega (arith, c.put_moves.auto.numbers, c.put_numbers_from.auto.numbers, length-take {A = ℕ}, length-replicate {A = ℕ}, c.blocks-count.ensures.count, c.blocks-count.ensures.few) in
    c.in-Some.ensures.list ∙ maps_shown held plan c.put_moves.new.numbers sizes long show
