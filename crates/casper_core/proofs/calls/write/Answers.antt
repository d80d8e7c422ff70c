use Rattle.std.proofs.Common.{sym, ap, ◌∙◌, subst, refl, ◌∷◌, [], true≢false}
use Rattle.casper_cache.specs.Own as cache
use Rattle.casper_words.specs.declared.page.Right.TheVariants as may
use Rattle.casper_space.specs.declared.answer.Answer.TheVariants as answer
use Rattle.casper_model.specs.Outside.{NothingFailed}
use Rattle.casper_model.specs.State.{with_own}
use Rattle.casper_model.specs.CallStep.{write_hit}
use Rattle.casper_words.specs.declared.call.Op.TheVariants as op
use Rattle.casper_hub.specs.Owned.{Owns, own_of}
use Rattle.casper_model.specs.Step.{write_turn}
use Rattle.casper_core.specs.Acting.{Holds}
use Rattle.casper_core.specs.Loading.{Acquired}
use Rattle.casper_core.specs.Shaped.{IsShape}
use Rattle.casper_hub.proofs.Hitting.{owns_behind_write, right_behind_write}
use Rattle.casper_core.proofs.MachineTurns.{called_gives}
use Rattle.casper_core.proofs.CallTurns.{call_hits, call_refused, call_failed, call_granted, granted_can, not_granted, never_disk, as_answered, leaves_hit, holds_again, holds_itself}
use Rattle.casper_hub.proofs.HeldHits.{cannot_write}
use Rattle.casper_core.proofs.HitTurns.{write_hits, write_misses}
use Rattle.casper_core.proofs.calls.write.Goals as goal

pub returns-then-hit_write-clause-makes : goal.returns-then-hit_write-clause-makes
returns-then-hit_write-clause-makes g c = λ state part.
    let hits = write_hits c.args.who state c.args.hub.now c.args.cache.now c.args.page c.args.word c.args.value c.hit_write.new.self part.part c.requires.owns.sound (c.if-hit_write.ensures.exactly.0 refl)
    c.if-hit_write.ensures.hit in
    let client = ap (λ (own : cache.Own). own.client) c.if-hit_write.ensures.hit ∙ c.requires.client in
    call_hits c.args.who (record { page = c.args.page; right = may.Write }) (λ after. write_hit after c.args.who c.args.page c.args.word c.args.value) state NothingFailed
    (record { answer = answer.Ok; state = with_own state (own_of c.hit_write.new.self) }) answer.Ok c.args.hub.now (own_of c.hit_write.new.self) hits
    (called_gives c.args.who state (own_of c.hit_write.new.self) answer.Ok c.args.hub.now client part.place part.shared)

pub returns-then-hit_write-clause-leaves : goal.returns-then-hit_write-clause-leaves
returns-then-hit_write-clause-leaves g c = leaves_hit c.args.who g.V.Vault.tells (g.V.Vault.image c.args.vault.now) c.args.hub.now c.args.cache.now c.requires.sound

pub returns-then-hit_write-clause-holds : goal.returns-then-hit_write-clause-holds
returns-then-hit_write-clause-holds g c =
    let can = c.if-hit_write.ensures.exactly.0 refl in
    subst (Holds c.args.who g.V.Vault.tells (g.V.Vault.image c.args.vault.now) c.args.hub.now c.args.cache.now c.args.hub.now) (sym c.if-hit_write.ensures.hit)
    (holds_again c.args.who g.V.Vault.tells (g.V.Vault.image c.args.vault.now) c.args.hub.now c.args.cache.now c.args.hub.now c.args.cache.now
    (cache.after_write c.args.cache.now (record { op = op.Write; page = c.args.page; word = c.args.word; value = c.args.value }))
    (holds_itself c.args.who g.V.Vault.tells (g.V.Vault.image c.args.vault.now) c.args.hub.now c.args.cache.now c.requires.owns c.requires.client) refl refl
    (owns_behind_write c.args.hub.now c.args.cache.now c.args.page c.args.word c.args.value c.requires.owns can)
    (λ base right. right_behind_write base c.args.hub.now c.args.cache.now c.args.page c.args.word c.args.value c.requires.word c.requires.owns can right))

pub returns-in_default-clause-makes : goal.returns-in_default-clause-makes
returns-in_default-clause-makes g c = λ state part.
    let same = c.if-hit_write.ensures.miss in
    let here = subst (IsShape c.args.who state c.args.hub.now) (sym same) part in
    let owns = subst (Owns c.args.hub.now) (sym same) c.requires.owns in
    let misses = write_misses c.args.who state c.args.hub.now c.hit_write.new.self c.args.page c.args.word c.args.value here.part owns.sound
    (λ can. true≢false (sym (c.if-hit_write.ensures.exactly.1 (subst (λ (own : cache.Own). cache.CanWrite own c.args.page) same can)))) in
    let acquired = subst (λ one. Acquired c.args.hub.now c.hit_write.new.self (record { page = c.args.page; right = may.Write } ∷ []) 1 one c.acquire.new.hub c.acquire.new.cache)
    c.in_default.is c.in_ok-reply.ensures.turn in
    call_failed c.args.who (record { page = c.args.page; right = may.Write }) (λ after. write_hit after c.args.who c.args.page c.args.word c.args.value) state c.args.hub.now c.hit_write.new.self c.acquire.new.hub c.acquire.new.cache misses here acquired

pub returns-then-hit_write-2-clause-makes : goal.returns-then-hit_write-2-clause-makes
returns-then-hit_write-2-clause-makes g c = λ state part.
    let same = c.if-hit_write.ensures.miss in
    let here = subst (IsShape c.args.who state c.args.hub.now) (sym same) part in
    let owns = subst (Owns c.args.hub.now) (sym same) c.requires.owns in
    let misses = write_misses c.args.who state c.args.hub.now c.hit_write.new.self c.args.page c.args.word c.args.value here.part owns.sound
    (λ can. true≢false (sym (c.if-hit_write.ensures.exactly.1 (subst (λ (own : cache.Own). cache.CanWrite own c.args.page) same can)))) in
    let acquired = subst (λ one. Acquired c.args.hub.now c.hit_write.new.self (record { page = c.args.page; right = may.Write } ∷ []) 1 one c.acquire.new.hub c.acquire.new.cache)
    c.in-Some.is c.in_ok-reply.ensures.turn in
    let hit = c.if-hit_write-2.ensures in
    let holds = c.in_ok-reply.ensures.holds in
    call_granted c.args.who (record { page = c.args.page; right = may.Write }) (λ after. write_hit after c.args.who c.args.page c.args.word c.args.value) state c.args.hub.now c.hit_write.new.self c.in-Some.reply c.acquire.new.hub c.acquire.new.cache
    answer.Ok c.hit_write-in-Granted.new.self misses here acquired c.in-Granted.is holds.client
    (ap (λ (own : cache.Own). own.client) hit.hit ∙ holds.client)
    (λ gives. write_hits c.args.who _ c.acquire.new.hub c.acquire.new.cache c.args.page c.args.word c.args.value c.hit_write-in-Granted.new.self gives.part holds.owns.sound
    (hit.exactly.0 refl) hit.hit)

pub returns-then-hit_write-2-clause-holds : goal.returns-then-hit_write-2-clause-holds
returns-then-hit_write-2-clause-holds g c =
    let hit = c.if-hit_write-2.ensures in
    let can = hit.exactly.0 refl in
    let holds = subst (λ own. Holds c.args.who g.V.Vault.tells (g.V.Vault.image c.args.vault.now) c.args.hub.now own c.acquire.new.hub c.acquire.new.cache) c.if-hit_write.ensures.miss
    c.in_ok-reply.ensures.holds in
    subst (Holds c.args.who g.V.Vault.tells (g.V.Vault.image c.args.vault.now) c.args.hub.now c.args.cache.now c.acquire.new.hub) (sym hit.hit)
    (holds_again c.args.who g.V.Vault.tells (g.V.Vault.image c.args.vault.now) c.args.hub.now c.args.cache.now c.acquire.new.hub c.acquire.new.cache
    (cache.after_write c.acquire.new.cache (record { op = op.Write; page = c.args.page; word = c.args.word; value = c.args.value })) holds refl refl
    (owns_behind_write c.acquire.new.hub c.acquire.new.cache c.args.page c.args.word c.args.value holds.owns can)
    (λ base right. right_behind_write base c.acquire.new.hub c.acquire.new.cache c.args.page c.args.word c.args.value c.requires.word holds.owns can right))

pub unreachable-requires : goal.unreachable-requires
unreachable-requires g c =
    let acquired = subst (λ one. Acquired c.args.hub.now c.hit_write.new.self (record { page = c.args.page; right = may.Write } ∷ []) 1 one c.acquire.new.hub c.acquire.new.cache)
    c.in-Some.is c.in_ok-reply.ensures.turn in
    true≢false
    (sym (granted_can c.args.hub.now c.hit_write.new.self (record { page = c.args.page; right = may.Write }) c.in-Some.reply c.acquire.new.hub c.acquire.new.cache c.in-Granted.is c.requires.sound acquired)
    ∙ cannot_write c.acquire.new.cache c.args.page c.in_ok-reply.ensures.holds.owns.sound (λ can. true≢false (sym (c.if-hit_write-2.ensures.exactly.1 can))))

pub returns-clause-makes : goal.returns-clause-makes
returns-clause-makes g c = λ state part.
    let same = c.if-hit_write.ensures.miss in
    let here = subst (IsShape c.args.who state c.args.hub.now) (sym same) part in
    let owns = subst (Owns c.args.hub.now) (sym same) c.requires.owns in
    let misses = write_misses c.args.who state c.args.hub.now c.hit_write.new.self c.args.page c.args.word c.args.value here.part owns.sound
    (λ can. true≢false (sym (c.if-hit_write.ensures.exactly.1 (subst (λ (own : cache.Own). cache.CanWrite own c.args.page) same can)))) in
    let acquired = subst (λ one. Acquired c.args.hub.now c.hit_write.new.self (record { page = c.args.page; right = may.Write } ∷ []) 1 one c.acquire.new.hub c.acquire.new.cache)
    c.in-Some.is c.in_ok-reply.ensures.turn in
    as_answered c.args.who state (λ outside. write_turn c.args.who c.args.page c.args.word c.args.value outside state) c.in-Some.reply c.answer_of.result c.acquire.new.hub (own_of c.acquire.new.cache) acquired.1
    c.answer_of.ensures
    (call_refused c.args.who (record { page = c.args.page; right = may.Write }) (λ after. write_hit after c.args.who c.args.page c.args.word c.args.value) state c.args.hub.now c.hit_write.new.self c.in-Some.reply c.acquire.new.hub c.acquire.new.cache misses here acquired
    c.in_ok-reply.ensures.holds.client (not_granted c.in-Some.reply c.in_default-reply.not-Granted))

pub returns-clause-failed : goal.returns-clause-failed
returns-clause-failed g c = λ disk.
    let acquired = subst (λ one. Acquired c.args.hub.now c.hit_write.new.self (record { page = c.args.page; right = may.Write } ∷ []) 1 one c.acquire.new.hub c.acquire.new.cache)
    c.in-Some.is c.in_ok-reply.ensures.turn in
    absurd (never_disk c.in-Some.reply c.answer_of.result acquired.1 c.answer_of.ensures disk)
