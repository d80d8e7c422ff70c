use Rattle.std.proofs.Common.{◌<◌, ◌∙◌, sym, ap, subst, arith, refl}
use Rattle.std.specs.Prelude.{Some, None, length, slice_set}
use Rattle.casper_words.specs.Crew.{IsClient}
use Rattle.casper_space.specs.declared.answer.Answer.TheVariants as answer
use Rattle.casper_model.specs.declared.event.Event.TheVariants as event
use Rattle.casper_model.specs.Answers.{of_depart}
use Rattle.casper_model.specs.Leave.{depart}
use Rattle.casper_model.specs.Own as machine
use Rattle.casper_hub.specs.Owned.{own_of}
use Rattle.casper_hub.proofs.StandsFor.{stands_for}
use Rattle.casper_core.specs.Acting.{KeepsHubRight, Holds}
use Rattle.casper_core.specs.CoreView.{CoreView, told_by}
use Rattle.casper_core.specs.Placing.{placed}
use Rattle.casper_core.specs.Shaped.{StepsInShape}
use Rattle.casper_core.specs.Sound.{IsSound}
use Rattle.casper_core.specs.Stepping.{Steps}
use Rattle.casper_core.proofs.CoreTurns.{found_at, put_back}
use Rattle.casper_core.proofs.Departs.{up_as_it_departs, departed_own, depart_capacity}
use Rattle.casper_core.proofs.Leaves.{set_again, absent_leaving, absent_leaving_made, sound_left, leaving_steps, leaving_made, sound_stayed, staying_steps, staying_made}
use Rattle.casper_core.proofs.Losses.{depart_is}
use Rattle.casper_core.proofs.state.Core.depart.Goals as goal

pub returns-in_default-clause-step : goal.returns-in_default-clause-step
returns-in_default-clause-step g c = λ told.
    let core : CoreView g.row.V.Denot = record {
      hub = c.self.inside.hub;
      caches = c.self.inside.caches.items;
      capacity = c.self.inside.capacity;
      unfinished = c.self.inside.unfinished;
      calls = c.self.inside.calls;
      vault = c.self.inside.vault;
      size = g.V.Vault.size c.self.inside.vault;
      told = told_by g.V.Vault.image g.V.Vault.version g.V.Vault.room g.V.Vault.doubt c.self.inside.vault;
    } in
    let sound : IsSound core = c.self.invariant in
    let same = c.number-place.ensures.number in
    let client : IsClient c.args.who = subst IsClient same (c.number-place.ensures.least, c.number-place.ensures.most) in
    let below : c.args.who < length core.caches = omega (arith, client.1, sound.places) in
    let none = found_at core.caches c.number-place.result c.args.who c.index_mut.result.now None same below c.index_mut.ensures.value c.in_default.is in
    subst (λ one. Steps (event.Depart c.args.who) answer.Absent one (record core { caches = slice_set core.caches c.number-place.result c.index_mut.result.now })) c.self.view_is
    (absent_leaving depart of_depart (event.Depart c.args.who) core c.number-place.result c.args.who same client (depart_is c.args.who client) sound (slice_set core.caches c.number-place.result c.index_mut.result.now) none
    (put_back core.caches c.number-place.result c.index_mut.result.now c.index_mut.ensures.value))

pub returns-in_default-clause-shape : goal.returns-in_default-clause-shape
returns-in_default-clause-shape g c =
    let core : CoreView g.row.V.Denot = record {
      hub = c.self.inside.hub;
      caches = c.self.inside.caches.items;
      capacity = c.self.inside.capacity;
      unfinished = c.self.inside.unfinished;
      calls = c.self.inside.calls;
      vault = c.self.inside.vault;
      size = g.V.Vault.size c.self.inside.vault;
      told = told_by g.V.Vault.image g.V.Vault.version g.V.Vault.room g.V.Vault.doubt c.self.inside.vault;
    } in
    let sound : IsSound core = c.self.invariant in
    let same = c.number-place.ensures.number in
    let client : IsClient c.args.who = subst IsClient same (c.number-place.ensures.least, c.number-place.ensures.most) in
    let below : c.args.who < length core.caches = omega (arith, client.1, sound.places) in
    let none = found_at core.caches c.number-place.result c.args.who c.index_mut.result.now None same below c.index_mut.ensures.value c.in_default.is in
    subst (λ one. StepsInShape (event.Depart c.args.who) answer.Absent one (record core { caches = slice_set core.caches c.number-place.result c.index_mut.result.now })) c.self.view_is
    (absent_leaving_made depart of_depart (event.Depart c.args.who) core c.number-place.result c.args.who same client (depart_is c.args.who client) sound (slice_set core.caches c.number-place.result c.index_mut.result.now) none
    (put_back core.caches c.number-place.result c.index_mut.result.now c.index_mut.ensures.value))

pub depart-requires-clause-client : goal.depart-requires-clause-client
depart-requires-clause-client g c =
    let core : CoreView g.row.V.Denot = record {
      hub = c.self.inside.hub;
      caches = c.self.inside.caches.items;
      capacity = c.self.inside.capacity;
      unfinished = c.self.inside.unfinished;
      calls = c.self.inside.calls;
      vault = c.self.inside.vault;
      size = g.V.Vault.size c.self.inside.vault;
      told = told_by g.V.Vault.image g.V.Vault.version g.V.Vault.room g.V.Vault.doubt c.self.inside.vault;
    } in
    let sound : IsSound core = c.self.invariant in
    let same = c.number-place.ensures.number in
    let client : IsClient c.args.who = subst IsClient same (c.number-place.ensures.least, c.number-place.ensures.most) in
    let below : c.args.who < length core.caches = omega (arith, client.1, sound.places) in
    let found = found_at core.caches c.number-place.result c.args.who c.index_mut.result.now (Some c.in-Some.cache) same below c.index_mut.ensures.value c.in-Some.is in
    (sound.kept c.args.who c.in-Some.cache found).client

pub depart-requires-clause-owns : goal.depart-requires-clause-owns
depart-requires-clause-owns g c =
    let core : CoreView g.row.V.Denot = record {
      hub = c.self.inside.hub;
      caches = c.self.inside.caches.items;
      capacity = c.self.inside.capacity;
      unfinished = c.self.inside.unfinished;
      calls = c.self.inside.calls;
      vault = c.self.inside.vault;
      size = g.V.Vault.size c.self.inside.vault;
      told = told_by g.V.Vault.image g.V.Vault.version g.V.Vault.room g.V.Vault.doubt c.self.inside.vault;
    } in
    let sound : IsSound core = c.self.invariant in
    let same = c.number-place.ensures.number in
    let client : IsClient c.args.who = subst IsClient same (c.number-place.ensures.least, c.number-place.ensures.most) in
    let below : c.args.who < length core.caches = omega (arith, client.1, sound.places) in
    let found = found_at core.caches c.number-place.result c.args.who c.index_mut.result.now (Some c.in-Some.cache) same below c.index_mut.ensures.value c.in-Some.is in
    (sound.kept c.args.who c.in-Some.cache found).owns

pub invariant_of-self-in-Ok : goal.invariant_of-self-in-Ok
invariant_of-self-in-Ok g c =
    let core : CoreView g.row.V.Denot = record {
      hub = c.self.inside.hub;
      caches = c.self.inside.caches.items;
      capacity = c.self.inside.capacity;
      unfinished = c.self.inside.unfinished;
      calls = c.self.inside.calls;
      vault = c.self.inside.vault;
      size = g.V.Vault.size c.self.inside.vault;
      told = told_by g.V.Vault.image g.V.Vault.version g.V.Vault.room g.V.Vault.doubt c.self.inside.vault;
    } in
    let sound : IsSound core = c.self.invariant in
    let same = c.number-place.ensures.number in
    let client : IsClient c.args.who = subst IsClient same (c.number-place.ensures.least, c.number-place.ensures.most) in
    let below : c.args.who < length core.caches = omega (arith, client.1, sound.places) in
    let found = found_at core.caches c.number-place.result c.args.who c.index_mut.result.now (Some c.in-Some.cache) same below c.index_mut.ensures.value c.in-Some.is in
    let ensured = c.in_ok-reply.ensures in
    let left = ensured.absent c.in-Ok.is in
    let twice = set_again core.caches c.number-place.result (Some c.depart.new.cache) None in
    subst (λ caches. IsSound (record (placed core c.number-place.result c.depart.new.self None core.calls core.vault core.size core.told) { caches = caches })) (sym twice)
    (sound_left depart of_depart (event.Depart c.args.who) core c.number-place.result c.args.who same client (depart_is c.args.who client) sound c.in-Some.cache found c.depart.new.self c.depart.new.cache c.in_ok-reply.reply ensured.turn left ensured.client_after ensured.others ensured.still ensured.sound
    core.calls core.vault core.size core.told refl refl)

pub returns-in-Ok-clause-step : goal.returns-in-Ok-clause-step
returns-in-Ok-clause-step g c = λ told.
    let core : CoreView g.row.V.Denot = record {
      hub = c.self.inside.hub;
      caches = c.self.inside.caches.items;
      capacity = c.self.inside.capacity;
      unfinished = c.self.inside.unfinished;
      calls = c.self.inside.calls;
      vault = c.self.inside.vault;
      size = g.V.Vault.size c.self.inside.vault;
      told = told_by g.V.Vault.image g.V.Vault.version g.V.Vault.room g.V.Vault.doubt c.self.inside.vault;
    } in
    let sound : IsSound core = c.self.invariant in
    let same = c.number-place.ensures.number in
    let client : IsClient c.args.who = subst IsClient same (c.number-place.ensures.least, c.number-place.ensures.most) in
    let below : c.args.who < length core.caches = omega (arith, client.1, sound.places) in
    let found = found_at core.caches c.number-place.result c.args.who c.index_mut.result.now (Some c.in-Some.cache) same below c.index_mut.ensures.value c.in-Some.is in
    let ensured = c.in_ok-reply.ensures in
    let left = ensured.absent c.in-Ok.is in
    let twice = set_again core.caches c.number-place.result (Some c.depart.new.cache) None in
    let after : CoreView g.row.V.Denot = placed core c.number-place.result c.depart.new.self None core.calls core.vault core.size core.told in
    subst (λ one. Steps (event.Depart c.args.who) answer.Left one (record after { caches = slice_set (slice_set core.caches c.number-place.result (Some c.depart.new.cache)) c.number-place.result None })) c.self.view_is
    (subst (λ caches. Steps (event.Depart c.args.who) answer.Left core (record after { caches = caches })) (sym twice)
    (subst (λ said. Steps (event.Depart c.args.who) said core after) (ap of_depart c.in-Ok.is)
    (leaving_steps depart of_depart (event.Depart c.args.who) core c.number-place.result c.args.who same client (depart_is c.args.who client) sound c.in-Some.cache found c.depart.new.self c.depart.new.cache c.in_ok-reply.reply ensured.turn left ensured.client_after ensured.others ensured.still ensured.sound
    core.calls core.vault core.size core.told
    (λ state shape. departed_own state.shared (own_of c.in-Some.cache) (up_as_it_departs state.shared (own_of c.in-Some.cache) (sym c.in-Ok.is ∙ ensured.turn.replies state.shared shape.shared))) ensured.frames refl)))

pub returns-in-Ok-clause-shape : goal.returns-in-Ok-clause-shape
returns-in-Ok-clause-shape g c =
    let core : CoreView g.row.V.Denot = record {
      hub = c.self.inside.hub;
      caches = c.self.inside.caches.items;
      capacity = c.self.inside.capacity;
      unfinished = c.self.inside.unfinished;
      calls = c.self.inside.calls;
      vault = c.self.inside.vault;
      size = g.V.Vault.size c.self.inside.vault;
      told = told_by g.V.Vault.image g.V.Vault.version g.V.Vault.room g.V.Vault.doubt c.self.inside.vault;
    } in
    let sound : IsSound core = c.self.invariant in
    let same = c.number-place.ensures.number in
    let client : IsClient c.args.who = subst IsClient same (c.number-place.ensures.least, c.number-place.ensures.most) in
    let below : c.args.who < length core.caches = omega (arith, client.1, sound.places) in
    let found = found_at core.caches c.number-place.result c.args.who c.index_mut.result.now (Some c.in-Some.cache) same below c.index_mut.ensures.value c.in-Some.is in
    let ensured = c.in_ok-reply.ensures in
    let left = ensured.absent c.in-Ok.is in
    let twice = set_again core.caches c.number-place.result (Some c.depart.new.cache) None in
    let after : CoreView g.row.V.Denot = placed core c.number-place.result c.depart.new.self None core.calls core.vault core.size core.told in
    subst (λ one. StepsInShape (event.Depart c.args.who) answer.Left one (record after { caches = slice_set (slice_set core.caches c.number-place.result (Some c.depart.new.cache)) c.number-place.result None })) c.self.view_is
    (subst (λ caches. StepsInShape (event.Depart c.args.who) answer.Left core (record after { caches = caches })) (sym twice)
    (subst (λ said. StepsInShape (event.Depart c.args.who) said core after) (ap of_depart c.in-Ok.is)
    (leaving_made depart of_depart (event.Depart c.args.who) core c.number-place.result c.args.who same client (depart_is c.args.who client) sound c.in-Some.cache found c.depart.new.self c.depart.new.cache c.in_ok-reply.reply ensured.turn left ensured.client_after ensured.others ensured.still ensured.sound
    core.calls core.vault core.size core.told
    (λ state shape. departed_own state.shared (own_of c.in-Some.cache) (up_as_it_departs state.shared (own_of c.in-Some.cache) (sym c.in-Ok.is ∙ ensured.turn.replies state.shared shape.shared))))))

pub returns-in-Ok-clause-sound : goal.returns-in-Ok-clause-sound
returns-in-Ok-clause-sound g c =
    let core : CoreView g.row.V.Denot = record {
      hub = c.self.inside.hub;
      caches = c.self.inside.caches.items;
      capacity = c.self.inside.capacity;
      unfinished = c.self.inside.unfinished;
      calls = c.self.inside.calls;
      vault = c.self.inside.vault;
      size = g.V.Vault.size c.self.inside.vault;
      told = told_by g.V.Vault.image g.V.Vault.version g.V.Vault.room g.V.Vault.doubt c.self.inside.vault;
    } in
    let sound : IsSound core = c.self.invariant in
    let same = c.number-place.ensures.number in
    let client : IsClient c.args.who = subst IsClient same (c.number-place.ensures.least, c.number-place.ensures.most) in
    let below : c.args.who < length core.caches = omega (arith, client.1, sound.places) in
    let found = found_at core.caches c.number-place.result c.args.who c.index_mut.result.now (Some c.in-Some.cache) same below c.index_mut.ensures.value c.in-Some.is in
    let ensured = c.in_ok-reply.ensures in
    let left = ensured.absent c.in-Ok.is in
    let twice = set_again core.caches c.number-place.result (Some c.depart.new.cache) None in
    subst (λ caches. IsSound (record (placed core c.number-place.result c.depart.new.self None core.calls core.vault core.size core.told) { caches = caches })) (sym twice)
    (sound_left depart of_depart (event.Depart c.args.who) core c.number-place.result c.args.who same client (depart_is c.args.who client) sound c.in-Some.cache found c.depart.new.self c.depart.new.cache c.in_ok-reply.reply ensured.turn left ensured.client_after ensured.others ensured.still ensured.sound
    core.calls core.vault core.size core.told refl refl)

pub invariant_of-self-in_default-reply : goal.invariant_of-self-in_default-reply
invariant_of-self-in_default-reply g c =
    let core : CoreView g.row.V.Denot = record {
      hub = c.self.inside.hub;
      caches = c.self.inside.caches.items;
      capacity = c.self.inside.capacity;
      unfinished = c.self.inside.unfinished;
      calls = c.self.inside.calls;
      vault = c.self.inside.vault;
      size = g.V.Vault.size c.self.inside.vault;
      told = told_by g.V.Vault.image g.V.Vault.version g.V.Vault.room g.V.Vault.doubt c.self.inside.vault;
    } in
    let sound : IsSound core = c.self.invariant in
    let same = c.number-place.ensures.number in
    let client : IsClient c.args.who = subst IsClient same (c.number-place.ensures.least, c.number-place.ensures.most) in
    let below : c.args.who < length core.caches = omega (arith, client.1, sound.places) in
    let found = found_at core.caches c.number-place.result c.args.who c.index_mut.result.now (Some c.in-Some.cache) same below c.index_mut.ensures.value c.in-Some.is in
    let ensured = c.in_ok-reply.ensures in
    let stands = stands_for core.hub sound.hub.stands in
    let leaves : KeepsHubRight c.args.who g.V.Vault.tells core.told.image core.hub c.in-Some.cache c.depart.new.self = record {
      sound = ensured.sound;
      others = ensured.others;
      still = ensured.still;
      frames = λ told base stored frames words. ensured.frames base frames words;
    } in
    let holds : Holds c.args.who g.V.Vault.tells core.told.image core.hub c.in-Some.cache c.depart.new.self c.depart.new.cache = record {
      client = ensured.client_after;
      capacity = ap (λ (own : machine.Own). own.capacity) (ensured.turn.owns stands.shared stands.shows) ∙ depart_capacity stands.shared (own_of c.in-Some.cache);
      owns = ensured.owned (ensured.stays c.in_default-reply.not-Ok);
      words = λ told base stored frames words. ensured.words base frames words;
    } in
    sound_stayed depart of_depart (event.Depart c.args.who) core c.number-place.result c.args.who same client (depart_is c.args.who client) sound c.in-Some.cache found c.depart.new.self c.depart.new.cache c.in_ok-reply.reply ensured.turn
    g.V.Vault.tells leaves holds core.calls core.vault core.size core.told refl refl

pub returns-clause-step : goal.returns-clause-step
returns-clause-step g c = λ told.
    let core : CoreView g.row.V.Denot = record {
      hub = c.self.inside.hub;
      caches = c.self.inside.caches.items;
      capacity = c.self.inside.capacity;
      unfinished = c.self.inside.unfinished;
      calls = c.self.inside.calls;
      vault = c.self.inside.vault;
      size = g.V.Vault.size c.self.inside.vault;
      told = told_by g.V.Vault.image g.V.Vault.version g.V.Vault.room g.V.Vault.doubt c.self.inside.vault;
    } in
    let sound : IsSound core = c.self.invariant in
    let same = c.number-place.ensures.number in
    let client : IsClient c.args.who = subst IsClient same (c.number-place.ensures.least, c.number-place.ensures.most) in
    let below : c.args.who < length core.caches = omega (arith, client.1, sound.places) in
    let found = found_at core.caches c.number-place.result c.args.who c.index_mut.result.now (Some c.in-Some.cache) same below c.index_mut.ensures.value c.in-Some.is in
    let ensured = c.in_ok-reply.ensures in
    let stands = stands_for core.hub sound.hub.stands in
    let leaves : KeepsHubRight c.args.who g.V.Vault.tells core.told.image core.hub c.in-Some.cache c.depart.new.self = record {
      sound = ensured.sound;
      others = ensured.others;
      still = ensured.still;
      frames = λ told base stored frames words. ensured.frames base frames words;
    } in
    let holds : Holds c.args.who g.V.Vault.tells core.told.image core.hub c.in-Some.cache c.depart.new.self c.depart.new.cache = record {
      client = ensured.client_after;
      capacity = ap (λ (own : machine.Own). own.capacity) (ensured.turn.owns stands.shared stands.shows) ∙ depart_capacity stands.shared (own_of c.in-Some.cache);
      owns = ensured.owned (ensured.stays c.in_default-reply.not-Ok);
      words = λ told base stored frames words. ensured.words base frames words;
    } in
    subst (λ one. Steps (event.Depart c.args.who) c.answer_of_depart.result one (placed core c.number-place.result c.depart.new.self (Some c.depart.new.cache) core.calls core.vault core.size core.told)) c.self.view_is
    (subst (λ said. Steps (event.Depart c.args.who) said core (placed core c.number-place.result c.depart.new.self (Some c.depart.new.cache) core.calls core.vault core.size core.told)) (sym c.answer_of_depart.ensures)
    (staying_steps depart of_depart (event.Depart c.args.who) core c.number-place.result c.args.who same client (depart_is c.args.who client) sound c.in-Some.cache found c.depart.new.self c.depart.new.cache c.in_ok-reply.reply ensured.turn
    g.V.Vault.tells leaves holds core.calls core.vault core.size core.told told refl))

pub returns-clause-shape : goal.returns-clause-shape
returns-clause-shape g c =
    let core : CoreView g.row.V.Denot = record {
      hub = c.self.inside.hub;
      caches = c.self.inside.caches.items;
      capacity = c.self.inside.capacity;
      unfinished = c.self.inside.unfinished;
      calls = c.self.inside.calls;
      vault = c.self.inside.vault;
      size = g.V.Vault.size c.self.inside.vault;
      told = told_by g.V.Vault.image g.V.Vault.version g.V.Vault.room g.V.Vault.doubt c.self.inside.vault;
    } in
    let sound : IsSound core = c.self.invariant in
    let same = c.number-place.ensures.number in
    let client : IsClient c.args.who = subst IsClient same (c.number-place.ensures.least, c.number-place.ensures.most) in
    let below : c.args.who < length core.caches = omega (arith, client.1, sound.places) in
    let found = found_at core.caches c.number-place.result c.args.who c.index_mut.result.now (Some c.in-Some.cache) same below c.index_mut.ensures.value c.in-Some.is in
    let ensured = c.in_ok-reply.ensures in
    let stands = stands_for core.hub sound.hub.stands in
    let leaves : KeepsHubRight c.args.who g.V.Vault.tells core.told.image core.hub c.in-Some.cache c.depart.new.self = record {
      sound = ensured.sound;
      others = ensured.others;
      still = ensured.still;
      frames = λ told base stored frames words. ensured.frames base frames words;
    } in
    let holds : Holds c.args.who g.V.Vault.tells core.told.image core.hub c.in-Some.cache c.depart.new.self c.depart.new.cache = record {
      client = ensured.client_after;
      capacity = ap (λ (own : machine.Own). own.capacity) (ensured.turn.owns stands.shared stands.shows) ∙ depart_capacity stands.shared (own_of c.in-Some.cache);
      owns = ensured.owned (ensured.stays c.in_default-reply.not-Ok);
      words = λ told base stored frames words. ensured.words base frames words;
    } in
    subst (λ one. StepsInShape (event.Depart c.args.who) c.answer_of_depart.result one (placed core c.number-place.result c.depart.new.self (Some c.depart.new.cache) core.calls core.vault core.size core.told)) c.self.view_is
    (subst (λ said. StepsInShape (event.Depart c.args.who) said core (placed core c.number-place.result c.depart.new.self (Some c.depart.new.cache) core.calls core.vault core.size core.told)) (sym c.answer_of_depart.ensures)
    (staying_made depart of_depart (event.Depart c.args.who) core c.number-place.result c.args.who same client (depart_is c.args.who client) sound c.in-Some.cache found c.depart.new.self c.depart.new.cache c.in_ok-reply.reply ensured.turn
    g.V.Vault.tells leaves holds core.calls core.vault core.size core.told))

pub returns-clause-sound : goal.returns-clause-sound
returns-clause-sound g c =
    let core : CoreView g.row.V.Denot = record {
      hub = c.self.inside.hub;
      caches = c.self.inside.caches.items;
      capacity = c.self.inside.capacity;
      unfinished = c.self.inside.unfinished;
      calls = c.self.inside.calls;
      vault = c.self.inside.vault;
      size = g.V.Vault.size c.self.inside.vault;
      told = told_by g.V.Vault.image g.V.Vault.version g.V.Vault.room g.V.Vault.doubt c.self.inside.vault;
    } in
    let sound : IsSound core = c.self.invariant in
    let same = c.number-place.ensures.number in
    let client : IsClient c.args.who = subst IsClient same (c.number-place.ensures.least, c.number-place.ensures.most) in
    let below : c.args.who < length core.caches = omega (arith, client.1, sound.places) in
    let found = found_at core.caches c.number-place.result c.args.who c.index_mut.result.now (Some c.in-Some.cache) same below c.index_mut.ensures.value c.in-Some.is in
    let ensured = c.in_ok-reply.ensures in
    let stands = stands_for core.hub sound.hub.stands in
    let leaves : KeepsHubRight c.args.who g.V.Vault.tells core.told.image core.hub c.in-Some.cache c.depart.new.self = record {
      sound = ensured.sound;
      others = ensured.others;
      still = ensured.still;
      frames = λ told base stored frames words. ensured.frames base frames words;
    } in
    let holds : Holds c.args.who g.V.Vault.tells core.told.image core.hub c.in-Some.cache c.depart.new.self c.depart.new.cache = record {
      client = ensured.client_after;
      capacity = ap (λ (own : machine.Own). own.capacity) (ensured.turn.owns stands.shared stands.shows) ∙ depart_capacity stands.shared (own_of c.in-Some.cache);
      owns = ensured.owned (ensured.stays c.in_default-reply.not-Ok);
      words = λ told base stored frames words. ensured.words base frames words;
    } in
    sound_stayed depart of_depart (event.Depart c.args.who) core c.number-place.result c.args.who same client (depart_is c.args.who client) sound c.in-Some.cache found c.depart.new.self c.depart.new.cache c.in_ok-reply.reply ensured.turn
    g.V.Vault.tells leaves holds core.calls core.vault core.size core.told refl refl
