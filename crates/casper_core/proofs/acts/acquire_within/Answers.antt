use Rattle.std.proofs.Common.{◌≡◌, ◌<◌, true, sym, subst, rules}
use Rattle.std.specs.Prelude.{None, Some, Contains, nat_lt}
use Rattle.std.specs.List.{list_all}
use Rattle.casper_words.specs.declared.page.Want.{Want}
use Rattle.casper_space.specs.declared.answer.Answer.TheVariants as answer
use Rattle.casper_model.specs.Outside.{NothingFailed, LoadFailed}
use Rattle.casper_model.specs.Step.{acquire_turn}
use Rattle.casper_model.specs.CallStep.{acquire_step}
use Rattle.casper_model.specs.Answers.{of_reply}
use Rattle.casper_model.specs.Turn.{within, are_in_range}
use Rattle.casper_hub.specs.HubView.{page_count}
use Rattle.casper_hub.specs.Owned.{own_of}
use Rattle.casper_core.specs.Loading.{Acquired}
use Rattle.casper_core.proofs.CallTurns.{leaves_hit, as_answered}
use Rattle.casper_core.proofs.MachineTurns.{gives_by, acquired_gives, failed_gives}
use Rattle.casper_core.proofs.StepParts.{passed_by, all_in_range}
use Rattle.casper_core.proofs.acts.acquire_within.Goals as goal

pub returns-then-not-all-clause-leaves : goal.returns-then-not-all-clause-leaves
returns-then-not-all-clause-leaves g c = leaves_hit c.args.who g.V.Vault.tells (g.V.Vault.image c.args.vault.now) c.args.hub.now c.args.cache.now c.requires.sound

pub returns-in_default-clause-makes : goal.returns-in_default-clause-makes
returns-in_default-clause-makes g c = λ state part.
    let below : (want : Want) → Contains c.args.wants.now want → want.page < page_count c.args.hub.now = search rules in
    let in_range : are_in_range c.args.wants.now state ≡ true =
    subst (λ pages. list_all (λ want. nat_lt want.page pages) c.args.wants.now ≡ true) (sym part.shared.pages) (all_in_range c.args.wants.now (page_count c.args.hub.now) below) in
    let acquired = subst (λ one. Acquired c.args.hub.now c.args.cache.now c.as_slice-wants.result.now 1 one c.acquire.new.hub c.acquire.new.cache) c.in_default.is c.in_ok-reply.ensures.turn in
    let moved = subst (λ list. Acquired c.args.hub.now c.args.cache.now list 1 None c.acquire.new.hub c.acquire.new.cache) c.as_slice-wants.ensures.list acquired in
    gives_by c.args.who state (within (are_in_range c.args.wants.now) (acquire_turn c.args.who c.args.wants.now LoadFailed) state) (acquire_step state c.args.who c.args.wants.now 1 LoadFailed)
    answer.Disk c.acquire.new.hub (own_of c.acquire.new.cache)
    (passed_by (are_in_range c.args.wants.now state) answer.Range state (acquire_turn c.args.who c.args.wants.now LoadFailed) in_range)
    (failed_gives c.args.who state c.args.hub.now c.args.cache.now c.args.wants.now 1 c.acquire.new.hub c.acquire.new.cache part moved).1

pub returns-clause-makes : goal.returns-clause-makes
returns-clause-makes g c = λ state part.
    let below : (want : Want) → Contains c.args.wants.now want → want.page < page_count c.args.hub.now = search rules in
    let in_range : are_in_range c.args.wants.now state ≡ true =
    subst (λ pages. list_all (λ want. nat_lt want.page pages) c.args.wants.now ≡ true) (sym part.shared.pages) (all_in_range c.args.wants.now (page_count c.args.hub.now) below) in
    let acquired = subst (λ one. Acquired c.args.hub.now c.args.cache.now c.as_slice-wants.result.now 1 one c.acquire.new.hub c.acquire.new.cache) c.in-Some.is c.in_ok-reply.ensures.turn in
    let moved = subst (λ list. Acquired c.args.hub.now c.args.cache.now list 1 (Some c.in-Some.reply) c.acquire.new.hub c.acquire.new.cache) c.as_slice-wants.ensures.list acquired in
    as_answered c.args.who state (λ outside. within (are_in_range c.args.wants.now) (acquire_turn c.args.who c.args.wants.now outside) state) c.in-Some.reply c.answer_of.result
    c.acquire.new.hub (own_of c.acquire.new.cache) moved.1 c.answer_of.ensures
    (gives_by c.args.who state (within (are_in_range c.args.wants.now) (acquire_turn c.args.who c.args.wants.now NothingFailed) state) (acquire_step state c.args.who c.args.wants.now 1 NothingFailed)
    (of_reply c.in-Some.reply) c.acquire.new.hub (own_of c.acquire.new.cache)
    (passed_by (are_in_range c.args.wants.now state) answer.Range state (acquire_turn c.args.who c.args.wants.now NothingFailed) in_range)
    (acquired_gives c.args.who state c.args.hub.now c.args.cache.now c.args.wants.now 1 c.in-Some.reply c.acquire.new.hub c.acquire.new.cache part moved
    c.in_ok-reply.ensures.holds.client))
