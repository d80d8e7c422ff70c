use Rattle.std.proofs.Common.{◌<◌, ◌+◌, ◌∙◌, ℕ, ap, sym, subst, arith}
use Rattle.casper_map.specs.Planned.{Planned}
use Rattle.casper_stable.specs.Writing.{Written, piece_count, piece_place}
use Rattle.casper_stable.proofs.PieceLemmas.{piece_within, piece_read}
use Rattle.casper_stable.proofs.pieces.WrittenPieces.place.Goals as goal

pub overflow_add-result : goal.overflow_add-result
overflow_add-result c =
    let own : Written = record { held = c.self.inside.map.now; plan = c.self.inside.plan.now; changes = c.self.inside.changes.now } in
    let early : c.args.piece < piece_count own = subst (λ (written : Written). c.args.piece < piece_count written)
    (sym c.self.view_is) c.requires in
    let within = piece_within own c.args.piece c.self.invariant early in
    let is = c.frame_at.ensures ∙ piece_read c.as_slice.result.now c.as_slice-2.result.now own c.args.piece
    (c.as_slice.ensures ∙ ap (λ (plan : Planned). plan.pages) c.plan.view_is) (c.as_slice-2.ensures
    ∙ ap (λ (plan : Planned). plan.maps) c.plan.view_is) in
    let few = c.self.invariant.few in
    omega (arith, is, within, few)

pub returns : goal.returns
returns c =
    let own : Written = record { held = c.self.inside.map.now; plan = c.self.inside.plan.now; changes = c.self.inside.changes.now } in
    let is = c.frame_at.ensures ∙ piece_read c.as_slice.result.now c.as_slice-2.result.now own c.args.piece
    (c.as_slice.ensures ∙ ap (λ (plan : Planned). plan.pages) c.plan.view_is) (c.as_slice-2.ensures
    ∙ ap (λ (plan : Planned). plan.maps) c.plan.view_is) in
    ap (λ (frame : ℕ). 5 + frame) is ∙ ap (λ (written : Written). piece_place written c.args.piece) c.self.view_is
