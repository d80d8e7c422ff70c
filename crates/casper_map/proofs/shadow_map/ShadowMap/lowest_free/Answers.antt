use Rattle.std.proofs.Common.{◌≡◌, ◌+◌, ℕ, List, length, take, filter, sym, ◌∙◌, ap, subst, arith}
use Rattle.std.specs.List.{range_with_len}
use Rattle.casper_map.specs.Mapped.{Mapped, free_frames}
use Rattle.casper_map.proofs.PlanLemmas.{is_free, Taken, taken_more, taken_all, taken_front}
use Rattle.casper_map.proofs.shadow_map.ShadowMap.lowest_free.Goals as goal

pub next_free-requires : goal.next_free-requires
next_free-requires c = c.loop-taken.invariant.within

pub unreachable-requires : goal.unreachable-requires
unreachable-requires c =
    let own = c.self.inside in
    let all = taken_all own.first_page own.places.items own.named own.used c.loop-taken.frames.items c.loop-taken.from c.loop-taken._taken c.self.invariant c.loop-taken.invariant c.in_default.ensures in
    omega (arith, all, c.requires, c.loop-taken-test.true, ap (λ (held : Mapped). length (free_frames held)) c.self.view_is)

pub loop-taken-preserved : goal.loop-taken-preserved
loop-taken-preserved c =
    let own = c.self.inside in
    let more = taken_more own.first_page own.places.items own.named own.used c.loop-taken.frames.items c.loop-taken.from c.loop-taken._taken c.in-Some.frame c.self.invariant c.loop-taken.invariant c.in-Some.ensures in
    subst (λ (list : List ℕ). Taken own.places.items own.named list (c.in-Some.frame + 1) (c.loop-taken._taken + 1)) (sym c.in_ok-push.ensures.items) more

pub returns : goal.returns
returns c =
    let own = c.self.inside in
    let end : c.loop-taken._taken ≡ c.args.count = omega (arith, c.loop-taken-test.false) in
    taken_front own.first_page own.places.items own.named c.loop-taken.frames.items c.loop-taken.from c.loop-taken._taken c.loop-taken.invariant
    ∙ ap (λ (count : ℕ). take count (filter (is_free own.places.items) (range_with_len 0 (length own.named)))) end
    ∙ ap (λ (held : Mapped). take c.args.count (free_frames held)) c.self.view_is
