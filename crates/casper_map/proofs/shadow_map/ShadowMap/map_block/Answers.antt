use Rattle.std.proofs.Common.{◌≡◌, ◌+◌, ◌*◌, ℕ, List, length, sym, ◌∙◌, ap, subst}
use Rattle.std.proofs.lemmas.List.{length-replicate}
use Rattle.casper_map.specs.Numbers.{block_of_numbers}
use Rattle.casper_map.specs.Planned.{Planned, Show, AreWithin, with_moves}
use Rattle.casper_map.proofs.PlannedLemmas.{pages_within, block_shown}
use Rattle.casper_map.proofs.shadow_map.ShadowMap.map_block.Goals as goal

pub returns : goal.returns
returns c =
    let held = c.args.self.now in
    let plan = c.args.plan.now in
    let number = c.args.number in
    let pages = c.as_slice.ensures ∙ ap (λ (given : Planned). given.pages) c.plan.view_is in
    let sizes = c.blocks-first_page.ensures.mapped in
    let within : AreWithin held.first_page held.places c.as_slice.result.now = subst (λ (moves : List (ℕ × ℕ)). AreWithin held.first_page held.places moves) (sym pages) (pages_within held plan sizes c.requires.plan) in
    let before : Show held.places (held.first_page + 1024 * number) c.put_numbers_from.new.numbers =
    subst (λ (first : ℕ). Show held.places (first + 1024 * number) c.put_numbers_from.new.numbers) c.blocks-first_page.ensures.count c.put_numbers_from.ensures in
    let show : Show (with_moves held.first_page plan.pages held.places) (held.first_page + 1024 * number) c.put_moves.new.numbers =
    subst (λ (moves : List (ℕ × ℕ)). Show (with_moves held.first_page moves held.places) (held.first_page + 1024 * number) c.put_moves.new.numbers) pages
    (c.put_moves.ensures held.places held.first_page within before) in
    let long : length c.put_moves.new.numbers ≡ 1024 = c.put_moves.auto.numbers ∙ c.put_numbers_from.auto.numbers ∙ length-replicate {A = ℕ} 1024 0 in
    c.put_numbers.ensures ∙ ap block_of_numbers (block_shown held plan number c.put_moves.new.numbers sizes c.requires.plan long show)
