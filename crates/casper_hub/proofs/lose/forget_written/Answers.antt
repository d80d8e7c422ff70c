use Rattle.std.proofs.Common.{◌≡◌, ℕ, None, false, true, cond, length, refl, sym, ap, ◌∙◌, subst, arith}
use Rattle.casper_assoc.specs.Labelling.{is_writer, writer_of}
use Rattle.casper_hub.specs.Felling.{is_among}
use Rattle.casper_hub.specs.HubView.{frame_in}
use Rattle.casper_hub.proofs.Forgotten.{forgets_none, forgets_next, keeps_next}
use Rattle.casper_hub.proofs.lose.forget_written.Goals as goal
use Rattle.casper_hub.proofs.lose.forget_written.Goals.{in-Some+then-has, in-Some+else-has, in_default}

-- a test does not both pass and fail
false_is_not_true : false ≡ true → ⊥
false_is_not_true e = cc

pub loop-number-init : goal.loop-number-init
loop-number-init c = record {
  rights = refl;
  count = refl;
  frames = λ page. forgets_none c.args.members (writer_of c.args.associations.now.labelling page) (frame_in c.args.pages.now page);
}

pub forget_of-requires : goal.forget_of-requires
forget_of-requires c = c.requires ∙ sym (ap length c.loop-number.invariant.rights)

pub loop-number-preserved : goal.loop-number-preserved
loop-number-preserved c = elim c.match-new.branch [
  | in-Some+then-has w ↦ record {
    rights = ap (λ p. p.rights) w.pages-is ∙ w.forget_of.ensures.rights ∙ c.loop-number.invariant.rights;
    count = ap (λ p. length p.frames) w.pages-is ∙ w.forget_of.ensures.count ∙ c.loop-number.invariant.count;
    frames = λ page.
        forgets_next c.args.members c.loop-number.number w.in-Some.who (writer_of c.args.associations.now.labelling page) (frame_in c.args.pages.now page)
        (frame_in c.loop-number.pages page) (frame_in c.match-new.pages page) w.in-Some.ensures.number (omega (arith, c.loop-number.auto.number))
        (sym w.has.ensures.member ∙ w.if-has.true) (c.loop-number.invariant.frames page) (ap (λ p. frame_in p page) w.pages-is ∙ w.forget_of.ensures.frames page);
  }
  | in-Some+else-has w ↦ record {
    rights = ap (λ p. p.rights) w.pages-is ∙ c.loop-number.invariant.rights;
    count = ap (λ p. length p.frames) w.pages-is ∙ c.loop-number.invariant.count;
    frames = λ page.
        ap (λ p. frame_in p page) w.pages-is
        ∙ keeps_next c.args.members c.loop-number.number w.in-Some.who (writer_of c.args.associations.now.labelling page) (frame_in c.args.pages.now page)
        (frame_in c.loop-number.pages page) w.in-Some.ensures.number (sym w.has.ensures.member ∙ w.if-has.false) (c.loop-number.invariant.frames page);
  }
  | in_default w ↦
      let never : false ≡ true = w.in_default.ensures.exactly.1 (omega arith, omega arith) in
      absurd (false_is_not_true never)
]

pub returns-clause-frames : goal.returns-clause-frames
returns-clause-frames c page =
    let last : c.loop-number.number ≡ 33 = omega arith in
    subst (λ (n : ℕ). frame_in c.loop-number.pages page
    ≡ cond (is_writer (is_among n c.args.members) (writer_of c.args.associations.now.labelling page)) None (frame_in c.args.pages.now page)) last
    (c.loop-number.invariant.frames page)
