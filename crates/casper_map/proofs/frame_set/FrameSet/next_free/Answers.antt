use Rattle.std.proofs.Common.{◌≡◌, ◌<◌, ◌-◌, ◌+◌, ◌%◌, ◌/◌, ℕ, length, get_or, arith, ⊎_elim, subst, ap}
use Rattle.std.proofs.lemmas.Bool.{cases_lt}
use Rattle.std.proofs.lemmas.List.{get_or_read}
use Rattle.casper_map.specs.Bits.{IsLowestClear}
use Rattle.casper_map.proofs.BitLemmas.{members_long, word_clear, next_found, none_found}
use Rattle.casper_map.proofs.frame_set.FrameSet.next_free.Goals as goal

pub loop-at-init : goal.loop-at-init
loop-at-init c = record {
  above = omega arith;
  within = omega (arith, members_long c.self.inside.words.items c.self.inside.size, ap length c.self.view_is, c.requires);
  members = λ other high low. absurd (omega arith);
}

pub returns-then-frame-self : goal.returns-then-frame-self
returns-then-frame-self c =
    let words = c.self.inside.words.items in
    let at = c.loop-at.at in
    let within : at / 64 < length words = omega (arith, c.self.invariant.0) in
    let word : c.index-word.result.now ≡ get_or words (at / 64) 0 = get_or_read words (at / 64) c.index-word.result.now within c.index-word.ensures 0 in
    let found = word_clear words at c.in-Some.place (subst (λ (w : ℕ). IsLowestClear w (at % 64) c.in-Some.place) word c.in-Some.ensures) in
    let frame = at - at % 64 + c.in-Some.place in
    next_found words c.self.inside.size c.args.from frame c.args.self.now c.self.view_is (omega (arith, c.loop-at.invariant.above, found.0)) c.if-frame-self.true found.1
    (λ other high low. ⊎_elim (λ before. c.loop-at.invariant.members other high before) (λ behind. found.2 other behind low) (cases_lt other at))

pub returns-else-frame-self : goal.returns-else-frame-self
returns-else-frame-self c =
    let words = c.self.inside.words.items in
    let at = c.loop-at.at in
    let within : at / 64 < length words = omega (arith, c.self.invariant.0) in
    let word : c.index-word.result.now ≡ get_or words (at / 64) 0 = get_or_read words (at / 64) c.index-word.result.now within c.index-word.ensures 0 in
    let found = word_clear words at c.in-Some.place (subst (λ (w : ℕ). IsLowestClear w (at % 64) c.in-Some.place) word c.in-Some.ensures) in
    none_found words c.self.inside.size c.args.from c.args.self.now c.self.view_is
    (λ other high low. ⊎_elim (λ before. c.loop-at.invariant.members other high before) (λ behind. found.2 other behind (omega (arith, c.if-frame-self.false))) (cases_lt other at))

pub returns : goal.returns
returns c =
    none_found c.self.inside.words.items c.self.inside.size c.args.from c.args.self.now c.self.view_is
    (λ other high low. c.loop-at.invariant.members other high (omega (arith, c.loop-at-test.false)))
