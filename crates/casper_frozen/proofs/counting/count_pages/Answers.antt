use Rattle.std.proofs.Common.{◌≡◌, ◌+◌, ℕ, true, false, sym, ◌∙◌, subst, arith}
use Rattle.casper_frozen.proofs.Counted.{CountsBelow, counts_none, counts_more, more_are_few, counts_same, counts_all}
use Rattle.casper_frozen.proofs.counting.count_pages.Goals as goal
use Rattle.casper_frozen.proofs.counting.count_pages.Goals.{in-Some+then-has, in-Some+else-has, in_default}

-- a test does not both pass and fail
false_is_not_true : false ≡ true → ⊥
false_is_not_true e = cc

pub loop-number-init : goal.loop-number-init
loop-number-init c = counts_none c.args.associations.now.labelling.writers c.args.members

pub overflow_cast-count : goal.overflow_cast-count
overflow_cast-count c =
    let few = more_are_few c.args.associations.now.labelling.writers c.args.members c.loop-number.number c.loop-number.count c.in-Some.who c.written.result.now
    c.in-Some.ensures.number (omega (arith, c.loop-number.auto.number)) (sym c.has.ensures.member ∙ c.if-has.true) c.written.ensures.pages c.loop-number.invariant in
    omega (arith, few, c.requires.short)

pub overflow_add-count : goal.overflow_add-count
overflow_add-count c =
    let few = more_are_few c.args.associations.now.labelling.writers c.args.members c.loop-number.number c.loop-number.count c.in-Some.who c.written.result.now
    c.in-Some.ensures.number (omega (arith, c.loop-number.auto.number)) (sym c.has.ensures.member ∙ c.if-has.true) c.written.ensures.pages c.loop-number.invariant in
    omega (arith, few, c.requires.short)

pub loop-number-preserved : goal.loop-number-preserved
loop-number-preserved c = elim c.match-new.branch [
  | in-Some+then-has w ↦
      subst (λ (count : ℕ). CountsBelow c.args.associations.now.labelling.writers c.args.members (c.loop-number.number + 1) count) (sym w.count-is)
      (counts_more c.args.associations.now.labelling.writers c.args.members c.loop-number.number c.loop-number.count w.in-Some.who w.written.result.now
      w.in-Some.ensures.number (omega (arith, c.loop-number.auto.number)) (sym w.has.ensures.member ∙ w.if-has.true) w.written.ensures.pages
      c.loop-number.invariant)
  | in-Some+else-has w ↦
      subst (λ (count : ℕ). CountsBelow c.args.associations.now.labelling.writers c.args.members (c.loop-number.number + 1) count) (sym w.count-is)
      (counts_same c.args.associations.now.labelling.writers c.args.members c.loop-number.number c.loop-number.count w.in-Some.who w.in-Some.ensures.number
      (sym w.has.ensures.member ∙ w.if-has.false) c.loop-number.invariant)
  | in_default w ↦
      let never : false ≡ true = w.in_default.ensures.exactly.1 (omega arith, omega arith) in
      absurd (false_is_not_true never)
]

pub returns : goal.returns
returns c = record {
  pages = counts_all c.args.associations.now c.args.members c.loop-number.number c.loop-number.count (omega arith) c.loop-number.invariant;
}
