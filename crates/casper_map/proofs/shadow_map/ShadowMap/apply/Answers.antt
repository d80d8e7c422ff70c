use Rattle.std.proofs.Common.{◌≡◌, ℕ, List, length, sym, ◌∙◌, ap, subst, arith}
use Rattle.casper_map.specs.Mapped.{Mapped}
use Rattle.casper_map.specs.Planned.{Planned, AreWithin, AreNew, with_moves}
use Rattle.casper_map.proofs.PlanLemmas.{moves_long}
use Rattle.casper_map.proofs.PlannedLemmas.{pages_within, maps_within, maps_new, pages_new}
use Rattle.casper_map.proofs.shadow_map.ShadowMap.apply.Goals as goal

pub move_all-requires-clause-within : goal.move_all-requires-clause-within
move_all-requires-clause-within c =
    let held = c.args.self.now in
    let plan = c.args.plan.now in
    subst (λ (moves : List (ℕ × ℕ)). AreWithin 0 held.places moves) (sym (c.as_slice.ensures ∙ ap (λ (given : Planned). given.maps) c.plan.view_is))
    (maps_within held plan c.blocks-first.ensures.mapped c.requires)

pub move_all-requires-clause-new_frames : goal.move_all-requires-clause-new_frames
move_all-requires-clause-new_frames c =
    let held = c.args.self.now in
    subst (λ (moves : List (ℕ × ℕ)). AreNew held.frames held.places moves) (sym (c.as_slice.ensures ∙ ap (λ (given : Planned). given.maps) c.plan.view_is))
    (maps_new held c.args.plan.now c.requires)

pub move_all-requires-2-clause-within : goal.move_all-requires-2-clause-within
move_all-requires-2-clause-within c =
    let held = c.args.self.now in
    let plan = c.args.plan.now in
    let pages = c.as_slice-2.ensures ∙ ap (λ (given : Planned). given.pages) c.plan.view_is in
    let long : length c.move_all.new.self.places ≡ length held.places = ap (λ (map : Mapped). length map.places) c.move_all.ensures ∙ moves_long 0 c.as_slice.result.now held.places in
    subst (λ (moves : List (ℕ × ℕ)). AreWithin c.blocks-first.result c.move_all.new.self.places moves) (sym pages)
    (λ k d within. let low = pages_within held plan c.blocks-first.ensures.mapped c.requires k d within in omega (arith, low, long, c.blocks-first.ensures.count))

pub move_all-requires-2-clause-new_frames : goal.move_all-requires-2-clause-new_frames
move_all-requires-2-clause-new_frames c =
    let held = c.args.self.now in
    let plan = c.args.plan.now in
    let maps = c.as_slice.ensures ∙ ap (λ (given : Planned). given.maps) c.plan.view_is in
    let pages = c.as_slice-2.ensures ∙ ap (λ (given : Planned). given.pages) c.plan.view_is in
    let moved : List (ℕ × ℕ) → Mapped = λ moves. record held { places = with_moves 0 moves held.places } in
    subst (λ (map : Mapped). AreNew map.frames map.places c.as_slice-2.result.now) (sym (c.move_all.ensures ∙ ap moved maps))
    (subst (λ (moves : List (ℕ × ℕ)). AreNew held.frames (with_moves 0 plan.maps held.places) moves) (sym pages) (pages_new held plan c.requires))

pub returns : goal.returns
returns c =
    let held = c.args.self.now in
    let plan = c.args.plan.now in
    let maps = c.as_slice.ensures ∙ ap (λ (given : Planned). given.maps) c.plan.view_is in
    let pages = c.as_slice-2.ensures ∙ ap (λ (given : Planned). given.pages) c.plan.view_is in
    let second : Mapped → Mapped = λ map. record map { places = with_moves c.blocks-first.result c.as_slice-2.result.now map.places } in
    let both : ℕ → List (ℕ × ℕ) → List (ℕ × ℕ) → Mapped = λ first later earlier. record held { places = with_moves first later (with_moves 0 earlier held.places) } in
    c.move_all-2.ensures ∙ ap second c.move_all.ensures
    ∙ ap (λ (first : ℕ). both first c.as_slice-2.result.now c.as_slice.result.now) c.blocks-first.ensures.count
    ∙ ap (λ (later : List (ℕ × ℕ)). both held.first_page later c.as_slice.result.now) pages
    ∙ ap (λ (earlier : List (ℕ × ℕ)). both held.first_page plan.pages earlier) maps
