use Rattle.std.proofs.Common.{◌<◌, ◌-◌, ◌∙◌, ◌≤◌, ℕ, List, [], ap, subst, sym, arith, length, get_or}
use Rattle.casper_map.specs.Numbers.{block_of_numbers}
use Rattle.casper_map.specs.Planned.{Planned, block_numbers, with_plan}
use Rattle.casper_stable.specs.Writing.{Written, piece_count, IsPiece}
use Rattle.casper_stable.proofs.PieceLemmas.{number_within, changes_long}
use Rattle.std.proofs.lemmas.List.{get_or_read}
use Rattle.casper_stable.proofs.pieces.WrittenPieces.fill.Goals as goal

pub map_block-requires-clause-block : goal.map_block-requires-clause-block
map_block-requires-clause-block c =
    let own : Written = record { held = c.self.inside.map.now; plan = c.self.inside.plan.now; changes = c.self.inside.changes.now } in
    let early : c.args.piece < piece_count own = subst (λ (written : Written). c.args.piece < piece_count written)
    (sym c.self.view_is) c.requires in
    let pages = c.as_slice-pages.ensures ∙ ap (λ (plan : Planned). plan.pages) c.plan.view_is in
    let maps = c.as_slice.ensures ∙ ap (λ (plan : Planned). plan.maps) c.plan.view_is in
    number_within own c.as_slice.result.now (c.args.piece - length c.as_slice-pages.result.now) c.self.invariant maps
    (let one = ap length pages in let other = ap length maps in let late = c.if-at-pages.false in omega (arith, early, late, one, other))

pub returns-then-at-pages : goal.returns-then-at-pages
returns-then-at-pages c =
    let own : Written = record { held = c.self.inside.map.now; plan = c.self.inside.plan.now; changes = c.self.inside.changes.now } in
    let pages = c.as_slice-pages.ensures ∙ ap (λ (plan : Planned). plan.pages) c.plan.view_is in
    let early : c.args.piece < length own.plan.pages = (let one = ap length pages in let low = c.if-at-pages.true in omega
    (arith, one, low)) in
    let within : c.args.piece < length own.changes = omega (arith, early, changes_long own c.self.invariant) in
    subst (λ (written : Written). IsPiece written c.args.piece c.to_block.new.into) c.self.view_is
    (record {
      page = λ low. c.to_block.ensures.back
          ∙ ap (λ (pair : ℕ × List ℕ). pair.1) (sym c.index-self-at.is
          ∙ get_or_read own.changes c.args.piece c.index-self-at.result within c.index-self-at.is (0, []));
      map = λ late. absurd (omega (arith, early, late));
    })

pub returns-else-at-pages : goal.returns-else-at-pages
returns-else-at-pages c =
    let own : Written = record { held = c.self.inside.map.now; plan = c.self.inside.plan.now; changes = c.self.inside.changes.now } in
    let pages = c.as_slice-pages.ensures ∙ ap (λ (plan : Planned). plan.pages) c.plan.view_is in
    let maps = c.as_slice.ensures ∙ ap (λ (plan : Planned). plan.maps) c.plan.view_is in
    let late : length own.plan.pages ≤ c.args.piece = (let one = ap length pages in let high = c.if-at-pages.false in omega
    (arith, one, high)) in
    let bytes : ℕ → List ℕ = λ number. block_of_numbers (block_numbers (with_plan own.plan own.held) number) in
    subst (λ (written : Written). IsPiece written c.args.piece c.map_block.new.into) c.self.view_is
    (record {
      page = λ early. absurd (omega (arith, early, late));
      map = λ high. c.map_block.ensures
          ∙ ap (λ (list : List (ℕ × ℕ)). bytes (get_or {A = ℕ × ℕ} list (c.args.piece - length c.as_slice-pages.result.now) (0, 0)).0) maps
          ∙ ap (λ (list : List (ℕ × ℕ)). bytes (get_or {A = ℕ × ℕ} own.plan.maps (c.args.piece - length list) (0, 0)).0) pages;
    })
