use Rattle.std.proofs.Common.{◌≡◌, ◌+◌, ◌/◌, ◌∙◌, ℕ, List, true, ap, replicate, arith}
use Rattle.std.proofs.lemmas.List.{take-replicate}
use Rattle.casper_root.specs.declared.roots.Roots.{Roots}
use Rattle.casper_root.specs.declared.slot.Slot.TheVariants as slot
use Rattle.casper_map.specs.Numbers.{no_frame}
use Rattle.casper_stable.proofs.formatting.new_roots.Goals as goal

pub returns : goal.returns
returns c =
    let header = c.args.header in
    let made : List ℕ → Roots = λ maps. record { header = header; slot = slot.A; body = record { seq = 1; maps = maps }; spare_closed = true } in
    let count : c.div_ceil-count.result ≡ (header.pages + 1023) / 1024 = omega (arith, c.div_ceil-count.ensures) in
    ap made (c.in-Some.ensures.list
    ∙ take-replicate {X = ℕ} c.div_ceil-count.result 16 no_frame (omega (arith, count, c.requires.most_pages))
    ∙ ap (λ (n : ℕ). replicate n no_frame) count)
