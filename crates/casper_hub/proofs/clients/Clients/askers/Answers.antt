use Rattle.std.proofs.Common.{◌≡◌, ℕ, Bool, true, false, ◌∙◌, if◌then◌else◌, arith}
use Rattle.casper_words.specs.declared.page.Right.{Right}
use Rattle.casper_model.specs.Held.{is_to_write}
use Rattle.casper_model.specs.Opening.{any_right}
use Rattle.casper_hub.specs.Asks.{asks_for}
use Rattle.casper_hub.proofs.Askers.{none_passing, one_passing, none_more_passing, asks_found, asks_not_itself, all_passing}
use Rattle.casper_hub.proofs.clients.Clients.askers.Goals as goal
use Rattle.casper_hub.proofs.clients.Clients.askers.Goals.{in-Some+then-ne+then-are_for, in-Some+else-ne, else-ne-via-then-ne+else-are_for, else-ne-via-else-ne, in_default}

pub loop-number-init : goal.loop-number-init
loop-number-init c =
    none_passing (asks_for (if c.args.to_write then is_to_write else any_right) c.args.self.now c.args.who c.args.page)
    c.none-askers.result c.none-askers.ensures.crew c.none-askers.ensures.empty

pub loop-number-preserved : goal.loop-number-preserved
loop-number-preserved c =
    let test : Right → Bool = if c.args.to_write then is_to_write else any_right in
    let asks : ℕ → Bool = asks_for test c.args.self.now c.args.who c.args.page in
    elim c.match-new.branch [
      | in-Some+then-ne+then-are_for w ↦
          w.askers-is
          ∙ one_passing asks c.loop-number.askers w.with-askers.result c.loop-number.number w.in-Some.other c.loop-number.invariant w.in-Some.ensures.number
          (asks_found test c.args.self.now c.args.who c.args.page c.loop-number.number w.in-Some.other w.asks_of.result.now w.ne.result w.are_for.result true
          w.in-Some.ensures.number w.ne.ensures w.if-ne.true w.asks_of.ensures.asks w.are_for.ensures w.if-are_for.true)
          w.with-askers.ensures.members
      | in-Some+else-ne w ↦ elim w.else-ne.branch [
        | else-ne-via-then-ne+else-are_for v ↦
            w.askers-is
            ∙ none_more_passing asks c.loop-number.askers c.loop-number.number c.loop-number.invariant
            (asks_found test c.args.self.now c.args.who c.args.page c.loop-number.number w.in-Some.other v.asks_of.result.now w.ne.result v.are_for.result false
            w.in-Some.ensures.number w.ne.ensures v.if-ne.true v.asks_of.ensures.asks v.are_for.ensures v.if-are_for.false)
        | else-ne-via-else-ne v ↦
            w.askers-is
            ∙ none_more_passing asks c.loop-number.askers c.loop-number.number c.loop-number.invariant
            (asks_not_itself test c.args.self.now c.args.who c.args.page c.loop-number.number w.in-Some.other w.ne.result
            w.in-Some.ensures.number w.ne.ensures v.if-ne.false)
      ]
      | in_default w ↦
          let never : false ≡ true = w.in_default.ensures.exactly.1 (omega arith, omega arith) in cc
    ]

pub returns : goal.returns
returns c =
    all_passing (asks_for (if c.args.to_write then is_to_write else any_right) c.args.self.now c.args.who c.args.page)
    c.loop-number.askers c.loop-number.number c.loop-number.invariant c.loop-number-test.false
