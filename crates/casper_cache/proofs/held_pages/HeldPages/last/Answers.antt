use Rattle.std.proofs.Common.{◌∙◌, ◌∷◌, ◌++◌, [], ℕ, List, ap, sym, map, reverse}
use Rattle.casper_cache.specs.declared.held.Held.{Held}
use Rattle.casper_cache.proofs.LastPages.{pages_back, pages_back-more, next-taken, none-taken}
use Rattle.casper_cache.proofs.held_pages.HeldPages.last.Goals as goal
use Rattle.casper_cache.proofs.held_pages.HeldPages.last.Goals.{in-Some, in_default}

pub loop-preserved : goal.loop-preserved
loop-preserved c =
    let all : List ℕ = reverse (map (λ (entry : Held). entry.page) c.args.self.now.held) in
    elim c.match-next_back.branch [
      | in-Some w ↦
          let left = c.next_back.new.self in
          let here = sym (pages_back-more left (w.in-Some.page.now, w.in-Some.field-0-1.now)) ∙ ap pages_back (sym w.in-Some.ensures.steps) ∙ c.loop.invariant.1 in
          let next = next-taken c.loop.counter all w.in-Some.page.now (pages_back left) here in
          (w.pages-is ∙ w.push.ensures ∙ ap (λ l. l ++ w.in-Some.page.now ∷ []) c.loop.invariant.0 ∙ sym next.0, next.1)
      | in_default w ↦
          let none = none-taken c.loop.counter all (ap pages_back (sym w.in_default.ensures.steps.0) ∙ c.loop.invariant.1) in
          (w.pages-is ∙ c.loop.invariant.0 ∙ sym none.0, ap pages_back w.in_default.ensures.steps.1 ∙ none.1)
    ]
