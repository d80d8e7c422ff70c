use Rattle.std.proofs.Common.{◌≡◌, ℕ, Bool, true, false, nat_eq, get_or, eq-eqb, sym, ap, ◌∙◌, arith}
use Rattle.std.proofs.lemmas.Bool.{ne_eqb}
use Rattle.casper_assoc.specs.Labelling.{Labelling, label_of}
use Rattle.casper_assoc.proofs.Places.{none_passing, one_passing, none_more_passing, all_passing}
use Rattle.casper_assoc.proofs.labels.Labels.members.Goals as goal
use Rattle.casper_assoc.proofs.labels.Labels.members.Goals.{in-Some+then-self-number, in-Some+else-self-number, in_default}

pub loop-number-init : goal.loop-number-init
loop-number-init c =
    none_passing (λ client. nat_eq
    (label_of c.args.self.now client) c.args.label) c.none-members.result c.none-members.ensures.crew c.none-members.ensures.empty

pub loop-number-preserved : goal.loop-number-preserved
loop-number-preserved c =
    let test : ℕ → Bool = λ client. nat_eq (label_of c.args.self.now client) c.args.label in
    let shown = ap (λ (all : Labelling). nat_eq (label_of all c.loop-number.number) c.args.label) c.self.view_is in
    elim c.match-new.branch [
      | in-Some+then-self-number w ↦
          w.members-is
          ∙ one_passing test c.loop-number.members w.with-members.result c.loop-number.number w.in-Some.who c.loop-number.invariant
          w.in-Some.ensures.number
          (sym shown ∙ eq-eqb (get_or c.self.inside.labels c.loop-number.number 0) c.args.label w.if-self-number.true)
          w.with-members.ensures.members
      | in-Some+else-self-number w ↦
          w.members-is ∙ none_more_passing test c.loop-number.members c.loop-number.number c.loop-number.invariant (sym shown
          ∙ ne_eqb (get_or c.self.inside.labels c.loop-number.number 0) c.args.label w.if-self-number.false)
      | in_default w ↦
          let never : false ≡ true = w.in_default.ensures.exactly.1 (omega arith, omega arith) in cc
    ]

pub returns-clause-members : goal.returns-clause-members
returns-clause-members c =
    all_passing (λ client. nat_eq
    (label_of c.args.self.now client) c.args.label) c.loop-number.members c.loop-number.number c.loop-number.invariant
    c.loop-number-test.false
