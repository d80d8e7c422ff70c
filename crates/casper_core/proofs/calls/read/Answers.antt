use Rattle.std.proofs.Common.{sym, ap, ◌∙◌, subst, refl, ◌∷◌, [], true≢false}
use Rattle.casper_cache.specs.Own as cache
use Rattle.casper_words.specs.declared.page.Right.TheVariants as may
use Rattle.casper_space.specs.declared.answer.Answer.TheVariants as answer
use Rattle.casper_model.specs.Outside.{NothingFailed}
use Rattle.casper_model.specs.State.{own_at, with_own}
use Rattle.casper_model.specs.CallStep.{read_hit, hit_turn}
use Rattle.casper_model.specs.Hits.{hit_read}
use Rattle.casper_model.specs.Turn.{Turn}
use Rattle.casper_words.specs.declared.call.Op.TheVariants as op
use Rattle.casper_hub.specs.Owned.{Owns, own_of}
use Rattle.casper_model.specs.Step.{read_turn}
use Rattle.casper_core.specs.Acting.{IsPart, IsTurnResult, Holds}
use Rattle.casper_core.specs.Loading.{Acquired}
use Rattle.casper_core.specs.Shaped.{IsShape}
use Rattle.casper_hub.proofs.Hitting.{owns_behind_read, right_behind_read}
use Rattle.casper_core.proofs.MachineTurns.{called_gives}
use Rattle.casper_core.proofs.CallTurns.{sees_part, sees_behind, shape_of_part, read_refused, call_hits, call_refused, call_failed, call_granted, granted_can, not_granted, never_disk, as_answered, leaves_hit, holds_again, holds_itself}
use Rattle.casper_hub.proofs.HeldHits.{cannot_read}
use Rattle.casper_core.proofs.HitTurns.{read_hits, read_misses, read_hits_with, read_misses_with}
use Rattle.casper_core.proofs.calls.read.Goals as goal

pub returns-in-Some-clause-makes : goal.returns-in-Some-clause-makes
returns-in-Some-clause-makes g c = λ state part.
    let hits = read_hits_with c.args.who state c.args.hub.now c.args.cache.now c.args.page c.args.word c.in-Some.value c.hit_read.new.self part.part c.requires.owns.sound (c.in-Some.ensures.exactly.0 refl) c.in-Some.ensures.hit in
    let client = ap (λ (own : cache.Own). own.client) c.in-Some.ensures.hit ∙ c.requires.client in
    call_hits c.args.who (record { page = c.args.page; right = may.Read }) (λ after. hit_turn after (answer.Value c.in-Some.value) (hit_read (own_at after c.args.who) c.args.page c.args.word c.in-Some.value)) state NothingFailed
    (record { answer = answer.Value c.in-Some.value; state = with_own state (own_of c.hit_read.new.self) }) (answer.Value c.in-Some.value) c.args.hub.now (own_of c.hit_read.new.self) hits
    (called_gives c.args.who state (own_of c.hit_read.new.self) (answer.Value c.in-Some.value) c.args.hub.now client part.place part.shared)

pub returns-in-Some-clause-does : goal.returns-in-Some-clause-does
returns-in-Some-clause-does g c = λ told state part.
    let sees = sees_part c.args.who (g.V.Vault.image c.args.vault.now) state c.args.hub.now c.args.cache.now part c.requires.owns c.requires.client in
    let hits = read_hits c.args.who state c.args.hub.now c.args.cache.now c.args.page c.args.word c.in-Some.value c.hit_read.new.self sees (c.in-Some.ensures.exactly.0 refl) c.requires.word
    c.in-Some.ensures.value c.in-Some.ensures.hit in
    let client = ap (λ (own : cache.Own). own.client) c.in-Some.ensures.hit ∙ c.requires.client in
    call_hits c.args.who (record { page = c.args.page; right = may.Read }) (λ after. read_hit after c.args.who c.args.page c.args.word) state NothingFailed
    (record { answer = answer.Value c.in-Some.value; state = with_own state (own_of c.hit_read.new.self) }) (answer.Value c.in-Some.value) c.args.hub.now (own_of c.hit_read.new.self) hits
    (called_gives c.args.who state (own_of c.hit_read.new.self) (answer.Value c.in-Some.value) c.args.hub.now client part.place part.shared)

pub returns-in-Some-clause-leaves : goal.returns-in-Some-clause-leaves
returns-in-Some-clause-leaves g c = leaves_hit c.args.who g.V.Vault.tells (g.V.Vault.image c.args.vault.now) c.args.hub.now c.args.cache.now c.requires.sound

pub returns-in-Some-clause-holds : goal.returns-in-Some-clause-holds
returns-in-Some-clause-holds g c =
    let can = c.in-Some.ensures.exactly.0 refl in
    subst (Holds c.args.who g.V.Vault.tells (g.V.Vault.image c.args.vault.now) c.args.hub.now c.args.cache.now c.args.hub.now) (sym c.in-Some.ensures.hit)
    (holds_again c.args.who g.V.Vault.tells (g.V.Vault.image c.args.vault.now) c.args.hub.now c.args.cache.now c.args.hub.now c.args.cache.now
    (cache.after_read c.args.cache.now (record { op = op.Read; page = c.args.page; word = c.args.word; value = c.in-Some.value }))
    (holds_itself c.args.who g.V.Vault.tells (g.V.Vault.image c.args.vault.now) c.args.hub.now c.args.cache.now c.requires.owns c.requires.client) refl refl
    (owns_behind_read c.args.hub.now c.args.cache.now c.args.page c.args.word c.in-Some.value c.requires.owns can)
    (λ base right. right_behind_read base c.args.hub.now c.args.cache.now c.args.page c.args.word c.in-Some.value c.requires.owns right))

pub returns-in_default-2-clause-makes : goal.returns-in_default-2-clause-makes
returns-in_default-2-clause-makes g c = λ state part.
    let same = c.in_default.ensures.miss in
    let here = subst (IsShape c.args.who state c.args.hub.now) (sym same) part in
    let owns = subst (Owns c.args.hub.now) (sym same) c.requires.owns in
    let misses = read_misses c.args.who state c.args.hub.now c.hit_read.new.self c.args.page c.args.word here.part owns.sound
    (λ can. true≢false (sym (c.in_default.ensures.exactly.1 (subst (λ (own : cache.Own). cache.CanRead own c.args.page) same can)))) in
    let acquired = subst (λ one. Acquired c.args.hub.now c.hit_read.new.self (record { page = c.args.page; right = may.Read } ∷ []) 1 one c.acquire.new.hub c.acquire.new.cache)
    c.in_default-2.is c.in_ok-reply.ensures.turn in
    call_failed c.args.who (record { page = c.args.page; right = may.Read }) (λ after. read_hit after c.args.who c.args.page c.args.word) state c.args.hub.now c.hit_read.new.self c.acquire.new.hub c.acquire.new.cache misses here acquired

pub returns-in_default-2-clause-does : goal.returns-in_default-2-clause-does
returns-in_default-2-clause-does g c = λ told state part.
    returns-in_default-2-clause-makes g c state (shape_of_part c.args.who (g.V.Vault.image c.args.vault.now) state c.args.hub.now c.args.cache.now part)

pub returns-in-Some-hit_read-clause-makes : goal.returns-in-Some-hit_read-clause-makes
returns-in-Some-hit_read-clause-makes g c = λ state part.
    let same = c.in_default.ensures.miss in
    let here = subst (IsShape c.args.who state c.args.hub.now) (sym same) part in
    let owns = subst (Owns c.args.hub.now) (sym same) c.requires.owns in
    let misses = read_misses_with c.args.who state c.args.hub.now c.hit_read.new.self c.args.page c.args.word c.in-Some-hit_read.value here.part owns.sound
    (λ can. true≢false (sym (c.in_default.ensures.exactly.1 (subst (λ (own : cache.Own). cache.CanRead own c.args.page) same can)))) in
    let acquired = subst (λ one. Acquired c.args.hub.now c.hit_read.new.self (record { page = c.args.page; right = may.Read } ∷ []) 1 one c.acquire.new.hub c.acquire.new.cache)
    c.in-Some-2.is c.in_ok-reply.ensures.turn in
    let hit = c.in-Some-hit_read.ensures in
    let holds = c.in_ok-reply.ensures.holds in
    call_granted c.args.who (record { page = c.args.page; right = may.Read }) (λ after. hit_turn after (answer.Value c.in-Some-hit_read.value) (hit_read (own_at after c.args.who) c.args.page c.args.word c.in-Some-hit_read.value)) state c.args.hub.now c.hit_read.new.self c.in-Some-2.reply c.acquire.new.hub c.acquire.new.cache
    (answer.Value c.in-Some-hit_read.value) c.hit_read-in-Granted.new.self misses here acquired c.in-Granted.is holds.client
    (ap (λ (own : cache.Own). own.client) hit.hit ∙ holds.client)
    (λ gives. read_hits_with c.args.who _ c.acquire.new.hub c.acquire.new.cache c.args.page c.args.word c.in-Some-hit_read.value c.hit_read-in-Granted.new.self gives.part holds.owns.sound
    (hit.exactly.0 refl) hit.hit)

pub returns-in-Some-hit_read-clause-does : goal.returns-in-Some-hit_read-clause-does
returns-in-Some-hit_read-clause-does g c = λ told state part.
    let same = c.in_default.ensures.miss in
    let here = subst (IsPart c.args.who (g.V.Vault.image c.args.vault.now) state c.args.hub.now) (sym same) part in
    let owns = subst (Owns c.args.hub.now) (sym same) c.requires.owns in
    let misses = read_misses c.args.who state c.args.hub.now c.hit_read.new.self c.args.page c.args.word here.part owns.sound
    (λ can. true≢false (sym (c.in_default.ensures.exactly.1 (subst (λ (own : cache.Own). cache.CanRead own c.args.page) same can)))) in
    let acquired = subst (λ one. Acquired c.args.hub.now c.hit_read.new.self (record { page = c.args.page; right = may.Read } ∷ []) 1 one c.acquire.new.hub c.acquire.new.cache)
    c.in-Some-2.is c.in_ok-reply.ensures.turn in
    let hit = c.in-Some-hit_read.ensures in
    let holds = c.in_ok-reply.ensures.holds in
    call_granted c.args.who (record { page = c.args.page; right = may.Read }) (λ after. read_hit after c.args.who c.args.page c.args.word) state c.args.hub.now c.hit_read.new.self c.in-Some-2.reply c.acquire.new.hub c.acquire.new.cache
    (answer.Value c.in-Some-hit_read.value) c.hit_read-in-Granted.new.self misses (shape_of_part c.args.who (g.V.Vault.image c.args.vault.now) state c.args.hub.now c.hit_read.new.self here) acquired c.in-Granted.is holds.client
    (ap (λ (own : cache.Own). own.client) hit.hit ∙ holds.client)
    (λ gives. read_hits c.args.who _ c.acquire.new.hub c.acquire.new.cache c.args.page c.args.word c.in-Some-hit_read.value c.hit_read-in-Granted.new.self
    (sees_behind c.args.who g.V.Vault.tells (g.V.Vault.image c.args.vault.now) state c.args.hub.now c.hit_read.new.self _ _ c.acquire.new.hub c.acquire.new.cache told here gives holds)
    (hit.exactly.0 refl) c.requires.word hit.value hit.hit)

pub returns-in-Some-hit_read-clause-holds : goal.returns-in-Some-hit_read-clause-holds
returns-in-Some-hit_read-clause-holds g c =
    let hit = c.in-Some-hit_read.ensures in
    let can = hit.exactly.0 refl in
    let holds = subst (λ own. Holds c.args.who g.V.Vault.tells (g.V.Vault.image c.args.vault.now) c.args.hub.now own c.acquire.new.hub c.acquire.new.cache) c.in_default.ensures.miss
    c.in_ok-reply.ensures.holds in
    subst (Holds c.args.who g.V.Vault.tells (g.V.Vault.image c.args.vault.now) c.args.hub.now c.args.cache.now c.acquire.new.hub) (sym hit.hit)
    (holds_again c.args.who g.V.Vault.tells (g.V.Vault.image c.args.vault.now) c.args.hub.now c.args.cache.now c.acquire.new.hub c.acquire.new.cache
    (cache.after_read c.acquire.new.cache (record { op = op.Read; page = c.args.page; word = c.args.word; value = c.in-Some-hit_read.value })) holds refl refl
    (owns_behind_read c.acquire.new.hub c.acquire.new.cache c.args.page c.args.word c.in-Some-hit_read.value holds.owns can)
    (λ base right. right_behind_read base c.acquire.new.hub c.acquire.new.cache c.args.page c.args.word c.in-Some-hit_read.value holds.owns right))

pub unreachable-requires : goal.unreachable-requires
unreachable-requires g c =
    let acquired = subst (λ one. Acquired c.args.hub.now c.hit_read.new.self (record { page = c.args.page; right = may.Read } ∷ []) 1 one c.acquire.new.hub c.acquire.new.cache)
    c.in-Some-2.is c.in_ok-reply.ensures.turn in
    true≢false
    (sym (granted_can c.args.hub.now c.hit_read.new.self (record { page = c.args.page; right = may.Read }) c.in-Some-2.reply c.acquire.new.hub c.acquire.new.cache c.in-Granted.is c.requires.sound acquired)
    ∙ cannot_read c.acquire.new.cache c.args.page c.in_ok-reply.ensures.holds.owns.sound (λ can. true≢false (sym (c.in-None.ensures.exactly.1 can))))

pub returns-in_default-reply-clause-makes : goal.returns-in_default-reply-clause-makes
returns-in_default-reply-clause-makes g c = λ state part.
    let same = c.in_default.ensures.miss in
    let here = subst (IsShape c.args.who state c.args.hub.now) (sym same) part in
    let owns = subst (Owns c.args.hub.now) (sym same) c.requires.owns in
    let misses = read_misses c.args.who state c.args.hub.now c.hit_read.new.self c.args.page c.args.word here.part owns.sound
    (λ can. true≢false (sym (c.in_default.ensures.exactly.1 (subst (λ (own : cache.Own). cache.CanRead own c.args.page) same can)))) in
    let acquired = subst (λ one. Acquired c.args.hub.now c.hit_read.new.self (record { page = c.args.page; right = may.Read } ∷ []) 1 one c.acquire.new.hub c.acquire.new.cache)
    c.in-Some-2.is c.in_ok-reply.ensures.turn in
    subst (λ (turn : Turn). IsTurnResult c.args.who state turn c.answer_of.result c.acquire.new.hub (own_of c.acquire.new.cache))
    (sym (read_refused c.args.who c.args.page c.args.word state c.in-Some-2.reply c.answer_of.result c.answer_of.ensures))
    (as_answered c.args.who state (λ outside. read_turn c.args.who c.args.page c.args.word outside state) c.in-Some-2.reply c.answer_of.result c.acquire.new.hub (own_of c.acquire.new.cache) acquired.1
    c.answer_of.ensures
    (call_refused c.args.who (record { page = c.args.page; right = may.Read }) (λ after. read_hit after c.args.who c.args.page c.args.word) state c.args.hub.now c.hit_read.new.self c.in-Some-2.reply c.acquire.new.hub c.acquire.new.cache misses here acquired
    c.in_ok-reply.ensures.holds.client (not_granted c.in-Some-2.reply c.in_default-reply.not-Granted)))

pub returns-in_default-reply-clause-does : goal.returns-in_default-reply-clause-does
returns-in_default-reply-clause-does g c = λ told state part.
    subst (λ (turn : Turn). IsTurnResult c.args.who state turn c.answer_of.result c.acquire.new.hub (own_of c.acquire.new.cache))
    (read_refused c.args.who c.args.page c.args.word state c.in-Some-2.reply c.answer_of.result c.answer_of.ensures)
    (returns-in_default-reply-clause-makes g c state (shape_of_part c.args.who (g.V.Vault.image c.args.vault.now) state c.args.hub.now c.args.cache.now part))

pub returns-in_default-reply-clause-failed : goal.returns-in_default-reply-clause-failed
returns-in_default-reply-clause-failed g c = λ disk.
    let acquired = subst (λ one. Acquired c.args.hub.now c.hit_read.new.self (record { page = c.args.page; right = may.Read } ∷ []) 1 one c.acquire.new.hub c.acquire.new.cache)
    c.in-Some-2.is c.in_ok-reply.ensures.turn in
    absurd (never_disk c.in-Some-2.reply c.answer_of.result acquired.1 c.answer_of.ensures disk)
