use Rattle.std.proofs.Common.{◌≡◌, ◌+◌, ℕ, List, refl, sym, ◌∙◌, ap, subst, arith, vec_len}
use Rattle.std.proofs.Common.{Vec, Global}
use Rattle.casper_map.proofs.ListLemmas.{FoundBlocks, found_new, found_old}
use Rattle.casper_map.proofs.planning.blocks_under.Goals as goal
use Rattle.casper_map.proofs.planning.blocks_under.Goals.{then-block-next+in_ok-push, else-block-next}

found_is : (pages blocks now : List ℕ) (i next next_now : ℕ) → now ≡ blocks → next_now ≡ next → FoundBlocks pages blocks i next → FoundBlocks pages now i next_now
found_is pages blocks now i next next_now same same_next found =
    subst (λ (list : List ℕ). FoundBlocks pages list i next_now) (sym same) (subst (λ (number : ℕ). FoundBlocks pages blocks i number) (sym same_next) found)

pub loop-page-preserved : goal.loop-page-preserved
loop-page-preserved c =
    let pages = c.args.pages.now in
    let held = c.loop-page.invariant in
    elim c.if-block-next.branch [
      | then-block-next+in_ok-push w ↦ record {
        found = found_is pages _ _ (c.loop-page.page-index + 1) _ _ (ap (λ (v : Vec ℕ Global). v.items) w.blocks-is ∙ w.in_ok-push.ensures.items) w.next-is
            (found_new pages c.loop-page.blocks.items c.loop-page.page-index c.loop-page.next _ c.loop-page-test.true held.found refl w.if-block-next.true);
        few = omega (arith, held.few, ap (λ (v : Vec ℕ Global). vec_len v) w.blocks-is, w.in_ok-push.ensures.len);
      }
      | else-block-next w ↦ record {
        found = found_is pages _ _ (c.loop-page.page-index + 1) _ _ (ap (λ (v : Vec ℕ Global). v.items) w.blocks-is) w.next-is
            (found_old pages c.loop-page.blocks.items c.loop-page.page-index c.loop-page.next _ c.loop-page-test.true c.requires held.found refl w.if-block-next.false);
        few = omega (arith, held.few, ap (λ (v : Vec ℕ Global). vec_len v) w.blocks-is);
      }
    ]
