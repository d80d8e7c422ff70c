use Rattle.std.proofs.Common.{◌≡◌, ◌+◌, ◌<◌, ◌≤◌, ℕ, length, get_or, set, sym, ◌∙◌, ap, subst, arith}
use Rattle.std.specs.Prelude.{None}
use Rattle.std.proofs.lemmas.List.{get_or_read, get_or_past}
use Rattle.std.proofs.lemmas.List.Edits.{fill_by_more}
use Rattle.casper_map.specs.Faulty.{frame_at}
use Rattle.casper_map.specs.Mapped.{Mapped}
use Rattle.casper_map.specs.Numbers.{number_of}
use Rattle.casper_map.proofs.shadow_map.ShadowMap.put_numbers_from.Goals as goal
use Rattle.casper_map.proofs.shadow_map.ShadowMap.put_numbers_from.Goals.{then-place-len, else-place-len}

pub loop-at-preserved : goal.loop-at-preserved
loop-at-preserved c =
    let places = c.self.inside.places.items in
    let place = c.args.from + c.loop-at.at in
    let long = c.self.inside.places.ok.0 in
    let shown : ℕ → ℕ = λ k. number_of (frame_at places (c.args.from + k)) in
    let is : c.if-place-len.number ≡ shown c.loop-at.at =
    elim c.if-place-len.branch [
      | then-place-len w ↦
          let within : place < length places = omega (arith, w.if-place-len.true, c.len.ensures, long) in
          w.number-is ∙ w.number_of.ensures ∙ ap number_of (get_or_read places place w.index.result.now within w.index.ensures None)
      | else-place-len w ↦
          let past : length places ≤ place = omega (arith, w.if-place-len.false, c.len.ensures, long) in
          w.number-is ∙ w.number_of-else-place-len.ensures ∙ ap number_of (sym (get_or_past places place None past))
    ] in
    subst (λ (number : ℕ). (k : ℕ) → k < c.loop-at.at + 1 → get_or (set c.loop-at.numbers c.loop-at.at number) k 0 ≡ shown k) (sym is)
    (fill_by_more shown c.loop-at.numbers c.loop-at.at 0 (omega (arith, c.loop-at-test.true)) c.loop-at.invariant)

pub returns : goal.returns
returns c k low =
    c.loop-at.invariant k (omega (arith, low, c.loop-at-test.false))
    ∙ ap (λ (held : Mapped). number_of (frame_at held.places (c.args.from + k))) c.self.view_is
