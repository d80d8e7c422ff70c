use Rattle.std.proofs.Common.{◌≡◌, ◌+◌, ℕ, List, true, false, sym, ap, ◌∙◌, subst, arith}
use Rattle.casper_frozen.specs.Counting.{AreWrittenBelow}
use Rattle.casper_frozen.proofs.Counted.{none_written, more_written, same_written}
use Rattle.casper_frozen.proofs.modified.written_by.Goals as goal
use Rattle.casper_frozen.proofs.modified.written_by.Goals.{in-Some+then-has+in_ok-extend_from_slice, in-Some+else-has, in_default}

pub loop-number-init : goal.loop-number-init
loop-number-init c =
    subst (λ (pages : List ℕ). AreWrittenBelow c.args.associations.now.labelling.writers c.args.members 1 pages) (sym c.new-pages.ensures.items)
    (none_written c.args.associations.now.labelling.writers c.args.members)

pub loop-number-preserved : goal.loop-number-preserved
loop-number-preserved c = elim c.match-new.branch [
  | in-Some+then-has+in_ok-extend_from_slice w ↦
      subst (λ (pages : List ℕ). AreWrittenBelow c.args.associations.now.labelling.writers c.args.members (c.loop-number.number + 1) pages)
      (sym (ap (λ v. v.items) w.pages-is ∙ w.in_ok-extend_from_slice.ensures.items))
      (more_written c.args.associations.now.labelling.writers c.args.members c.loop-number.number w.in-Some.who c.loop-number.pages.items
      w.written.result.now w.in-Some.ensures.number (omega (arith, c.loop-number.auto.number)) (sym w.has.ensures.member ∙ w.if-has.true)
      w.written.ensures.pages c.loop-number.invariant)
  | in-Some+else-has w ↦
      rw w.pages-is
      (same_written c.args.associations.now.labelling.writers c.args.members c.loop-number.number w.in-Some.who c.loop-number.pages.items
      w.in-Some.ensures.number (sym w.has.ensures.member ∙ w.if-has.false) c.loop-number.invariant)
  | in_default w ↦ let never : false ≡ true = w.in_default.ensures.exactly.1 (omega arith, omega arith) in cc
]
