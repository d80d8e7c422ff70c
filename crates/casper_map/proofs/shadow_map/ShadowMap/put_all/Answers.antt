use Rattle.std.proofs.Common.{◌≡◌, ◌+◌, ◌*◌, ◌<◌, ℕ, length, get_or, refl, sym, ◌∙◌, ap, subst, arith}
use Rattle.std.proofs.lemmas.List.{length-set}
use Rattle.std.specs.Prelude.{Some, Result, MatchResult}
use Rattle.casper_root.specs.declared.fault.OpenFault.{OpenFault}
use Rattle.casper_root.specs.declared.fault.OpenFault.TheVariants as fault
use Rattle.casper_map.specs.Faulty.{is_faulty_beside, first_faulty}
use Rattle.casper_map.specs.Mapped.{Mapped}
use Rattle.casper_map.specs.Numbers.{frame_in, number_of}
use Rattle.casper_map.specs.Reading.{IsRead, HasNoneFrom, HasSizesOf, IsFirstBad}
use Rattle.casper_map.proofs.ReadLemmas.{read_more, unread_more, read_stops, handed_on, faulty_number, answer_ok, answer_err, first_bad, not_disk}
use Rattle.casper_map.proofs.shadow_map.ShadowMap.put_all.Goals as goal

pub returns-in_err-put-clause-put : goal.returns-in_err-put-clause-put
returns-in_err-put-clause-put c all read stand =
    let self = c.loop-at.self in
    let at = c.loop-at.at in
    let number = get_or c.args.numbers.now at 0 in
    let upto = c.args.place + at in
    let sizes = c.loop-at.invariant.sizes in
    let before = c.loop-at.invariant.read all read stand in
    let count = before.count in
    let within : upto < length self.places = omega (arith, c.requires.within, sizes.places, c.loop-at-test.true) in
    let is = stand at c.loop-at-test.true in
    let answer = answer_err (is_faulty_beside self.frames self.places (frame_in number)) (fault.BadMap (c.args.page + c.args.each * at) number) c.in_err-put.field-0.0 c.in_err-put.ensures.answer in
    let first : first_faulty c.args.self.now.frames all ≡ Some upto =
    subst (λ (frames : ℕ). first_faulty frames all ≡ Some upto) sizes.frames (read_stops upto all self (frame_in number) before c.loop-at.invariant.unread within is answer.0) in
    subst (λ (result : Result (Unit {0}) OpenFault). MatchResult result (λ x. IsRead (c.args.place + length c.args.numbers.now) all c.put.new.self)
    (IsFirstBad c.args.self.now.frames all c.args.place (c.args.place + length c.args.numbers.now) c.args.page c.args.each))
    (sym (handed_on c.from_residual.result c.in_err-put.field-0.0 c.from_residual.ensures.1))
    (first_bad c.args.self.now.frames at all c.args.place (c.args.place + length c.args.numbers.now) c.args.page c.args.each upto number c.in_err-put.field-0.0 refl (omega (arith, c.loop-at-test.true)) (omega (arith, count)) first
    (ap number_of is ∙ faulty_number self.frames number self.places answer.0) answer.1)

pub loop-at-preserved : goal.loop-at-preserved
loop-at-preserved c =
    let self = c.loop-at.self in
    let at = c.loop-at.at in
    let number = get_or c.args.numbers.now at 0 in
    let upto = c.args.place + at in
    let sizes = c.loop-at.invariant.sizes in
    let unread = c.loop-at.invariant.unread in
    let within : upto < length self.places = omega (arith, c.requires.within, sizes.places, c.loop-at-test.true) in
    let fine = answer_ok (is_faulty_beside self.frames self.places (frame_in number)) (fault.BadMap (c.args.page + c.args.each * at) number) c.in_ok-put.field-0 c.in_ok-put.ensures.answer in
    let next : upto + 1 ≡ c.args.place + (at + 1) = omega arith in
    let new = c.in_ok-put.ensures.put in
    record {
      read = λ all read stand.
          subst (λ (k : ℕ). IsRead k all c.put.new.self) next
          (subst (λ (held : Mapped). IsRead (upto + 1) all held) (sym new)
          (read_more upto all self (frame_in number) (c.loop-at.invariant.read all read stand) unread within (stand at c.loop-at-test.true) fine));
      unread =
          subst (λ (k : ℕ). HasNoneFrom k c.put.new.self) next
          (subst (λ (held : Mapped). HasNoneFrom (upto + 1) held) (sym new) (unread_more upto self (frame_in number) unread));
      sizes = subst (λ (held : Mapped). HasSizesOf c.args.self.now held) (sym new) (record {
        first_page = sizes.first_page;
        places = length-set self.places upto (frame_in number) ∙ sizes.places;
        frames = sizes.frames;
      });
    }

pub returns-in_err-put-clause-undisturbed : goal.returns-in_err-put-clause-undisturbed
returns-in_err-put-clause-undisturbed c disk =
    let self = c.loop-at.self in
    let number = get_or c.args.numbers.now c.loop-at.at 0 in
    let page = c.args.page + c.args.each * c.loop-at.at in
    let answer = answer_err (is_faulty_beside self.frames self.places (frame_in number)) (fault.BadMap page number) c.in_err-put.field-0.0 c.in_err-put.ensures.answer in
    not_disk c.in_err-put.field-0.0 page number answer.1 (sym (handed_on c.from_residual.result c.in_err-put.field-0.0 c.from_residual.ensures.1) ∙ disk)
