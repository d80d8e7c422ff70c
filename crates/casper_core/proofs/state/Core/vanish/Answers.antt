use Rattle.std.proofs.Common.{◌<◌, sym, subst, arith, refl}
use Rattle.std.specs.Prelude.{Some, None, length, slice_set}
use Rattle.casper_words.specs.Crew.{IsClient}
use Rattle.casper_space.specs.declared.answer.Answer.TheVariants as answer
use Rattle.casper_model.specs.declared.event.Event.TheVariants as event
use Rattle.casper_model.specs.Answers.{of_vanish}
use Rattle.casper_model.specs.Leave.{vanish}
use Rattle.casper_core.specs.CoreView.{CoreView, told_by}
use Rattle.casper_core.specs.Placing.{placed}
use Rattle.casper_core.specs.Shaped.{StepsInShape}
use Rattle.casper_core.specs.Sound.{IsSound}
use Rattle.casper_core.specs.Stepping.{Steps}
use Rattle.casper_core.proofs.CoreTurns.{found_at, put_back}
use Rattle.casper_core.proofs.Leaves.{set_again, absent_leaving, absent_leaving_made, sound_left, leaving_steps, leaving_made}
use Rattle.casper_core.proofs.Losses.{vanish_is}
use Rattle.casper_core.proofs.state.Core.vanish.Goals as goal

pub returns-in_default-clause-step : goal.returns-in_default-clause-step
returns-in_default-clause-step g c = λ told.
    let core : CoreView g.row.V.Denot = record {
      hub = c.self.inside.hub;
      caches = c.self.inside.caches.items;
      capacity = c.self.inside.capacity;
      unfinished = c.self.inside.unfinished;
      calls = c.self.inside.calls;
      vault = c.self.inside.vault;
      size = g.V.Vault.size c.self.inside.vault;
      told = told_by g.V.Vault.image g.V.Vault.version g.V.Vault.room g.V.Vault.doubt c.self.inside.vault;
    } in
    let sound : IsSound core = c.self.invariant in
    let same = c.number-place.ensures.number in
    let client : IsClient c.args.who = subst IsClient same (c.number-place.ensures.least, c.number-place.ensures.most) in
    let below : c.args.who < length core.caches = omega (arith, client.1, sound.places) in
    let none = found_at core.caches c.number-place.result c.args.who c.index_mut.result.now None same below c.index_mut.ensures.value c.in_default.is in
    subst (λ one. Steps (event.Vanish c.args.who) answer.Absent one (record core { caches = slice_set core.caches c.number-place.result c.index_mut.result.now })) c.self.view_is
    (absent_leaving vanish of_vanish (event.Vanish c.args.who) core c.number-place.result c.args.who same client (vanish_is c.args.who client) sound (slice_set core.caches c.number-place.result c.index_mut.result.now) none
    (put_back core.caches c.number-place.result c.index_mut.result.now c.index_mut.ensures.value))

pub returns-in_default-clause-shape : goal.returns-in_default-clause-shape
returns-in_default-clause-shape g c =
    let core : CoreView g.row.V.Denot = record {
      hub = c.self.inside.hub;
      caches = c.self.inside.caches.items;
      capacity = c.self.inside.capacity;
      unfinished = c.self.inside.unfinished;
      calls = c.self.inside.calls;
      vault = c.self.inside.vault;
      size = g.V.Vault.size c.self.inside.vault;
      told = told_by g.V.Vault.image g.V.Vault.version g.V.Vault.room g.V.Vault.doubt c.self.inside.vault;
    } in
    let sound : IsSound core = c.self.invariant in
    let same = c.number-place.ensures.number in
    let client : IsClient c.args.who = subst IsClient same (c.number-place.ensures.least, c.number-place.ensures.most) in
    let below : c.args.who < length core.caches = omega (arith, client.1, sound.places) in
    let none = found_at core.caches c.number-place.result c.args.who c.index_mut.result.now None same below c.index_mut.ensures.value c.in_default.is in
    subst (λ one. StepsInShape (event.Vanish c.args.who) answer.Absent one (record core { caches = slice_set core.caches c.number-place.result c.index_mut.result.now })) c.self.view_is
    (absent_leaving_made vanish of_vanish (event.Vanish c.args.who) core c.number-place.result c.args.who same client (vanish_is c.args.who client) sound (slice_set core.caches c.number-place.result c.index_mut.result.now) none
    (put_back core.caches c.number-place.result c.index_mut.result.now c.index_mut.ensures.value))

pub vanish-loss-requires-clause-client : goal.vanish-loss-requires-clause-client
vanish-loss-requires-clause-client g c =
    let core : CoreView g.row.V.Denot = record {
      hub = c.self.inside.hub;
      caches = c.self.inside.caches.items;
      capacity = c.self.inside.capacity;
      unfinished = c.self.inside.unfinished;
      calls = c.self.inside.calls;
      vault = c.self.inside.vault;
      size = g.V.Vault.size c.self.inside.vault;
      told = told_by g.V.Vault.image g.V.Vault.version g.V.Vault.room g.V.Vault.doubt c.self.inside.vault;
    } in
    let sound : IsSound core = c.self.invariant in
    let same = c.number-place.ensures.number in
    let client : IsClient c.args.who = subst IsClient same (c.number-place.ensures.least, c.number-place.ensures.most) in
    let below : c.args.who < length core.caches = omega (arith, client.1, sound.places) in
    let found = found_at core.caches c.number-place.result c.args.who c.index_mut.result.now (Some c.in-Some.cache) same below c.index_mut.ensures.value c.in-Some.is in
    (sound.kept c.args.who c.in-Some.cache found).client

pub vanish-loss-requires-clause-owns : goal.vanish-loss-requires-clause-owns
vanish-loss-requires-clause-owns g c =
    let core : CoreView g.row.V.Denot = record {
      hub = c.self.inside.hub;
      caches = c.self.inside.caches.items;
      capacity = c.self.inside.capacity;
      unfinished = c.self.inside.unfinished;
      calls = c.self.inside.calls;
      vault = c.self.inside.vault;
      size = g.V.Vault.size c.self.inside.vault;
      told = told_by g.V.Vault.image g.V.Vault.version g.V.Vault.room g.V.Vault.doubt c.self.inside.vault;
    } in
    let sound : IsSound core = c.self.invariant in
    let same = c.number-place.ensures.number in
    let client : IsClient c.args.who = subst IsClient same (c.number-place.ensures.least, c.number-place.ensures.most) in
    let below : c.args.who < length core.caches = omega (arith, client.1, sound.places) in
    let found = found_at core.caches c.number-place.result c.args.who c.index_mut.result.now (Some c.in-Some.cache) same below c.index_mut.ensures.value c.in-Some.is in
    (sound.kept c.args.who c.in-Some.cache found).owns

pub invariant_of-self-2 : goal.invariant_of-self-2
invariant_of-self-2 g c =
    let core : CoreView g.row.V.Denot = record {
      hub = c.self.inside.hub;
      caches = c.self.inside.caches.items;
      capacity = c.self.inside.capacity;
      unfinished = c.self.inside.unfinished;
      calls = c.self.inside.calls;
      vault = c.self.inside.vault;
      size = g.V.Vault.size c.self.inside.vault;
      told = told_by g.V.Vault.image g.V.Vault.version g.V.Vault.room g.V.Vault.doubt c.self.inside.vault;
    } in
    let sound : IsSound core = c.self.invariant in
    let same = c.number-place.ensures.number in
    let client : IsClient c.args.who = subst IsClient same (c.number-place.ensures.least, c.number-place.ensures.most) in
    let below : c.args.who < length core.caches = omega (arith, client.1, sound.places) in
    let found = found_at core.caches c.number-place.result c.args.who c.index_mut.result.now (Some c.in-Some.cache) same below c.index_mut.ensures.value c.in-Some.is in
    let ensured = c.vanish-loss.ensures in
    let left = ensured.absent in
    let twice = set_again core.caches c.number-place.result (Some c.vanish-loss.new.cache) None in
    subst (λ caches. IsSound (record (placed core c.number-place.result c.vanish-loss.new.self None core.calls core.vault core.size core.told) { caches = caches })) (sym twice)
    (sound_left vanish of_vanish (event.Vanish c.args.who) core c.number-place.result c.args.who same client (vanish_is c.args.who client) sound c.in-Some.cache found c.vanish-loss.new.self c.vanish-loss.new.cache c.vanish-loss.result ensured.turn left ensured.client_after ensured.others ensured.still ensured.sound
    core.calls core.vault core.size core.told refl refl)

pub returns-clause-step : goal.returns-clause-step
returns-clause-step g c = λ told.
    let core : CoreView g.row.V.Denot = record {
      hub = c.self.inside.hub;
      caches = c.self.inside.caches.items;
      capacity = c.self.inside.capacity;
      unfinished = c.self.inside.unfinished;
      calls = c.self.inside.calls;
      vault = c.self.inside.vault;
      size = g.V.Vault.size c.self.inside.vault;
      told = told_by g.V.Vault.image g.V.Vault.version g.V.Vault.room g.V.Vault.doubt c.self.inside.vault;
    } in
    let sound : IsSound core = c.self.invariant in
    let same = c.number-place.ensures.number in
    let client : IsClient c.args.who = subst IsClient same (c.number-place.ensures.least, c.number-place.ensures.most) in
    let below : c.args.who < length core.caches = omega (arith, client.1, sound.places) in
    let found = found_at core.caches c.number-place.result c.args.who c.index_mut.result.now (Some c.in-Some.cache) same below c.index_mut.ensures.value c.in-Some.is in
    let ensured = c.vanish-loss.ensures in
    let left = ensured.absent in
    let twice = set_again core.caches c.number-place.result (Some c.vanish-loss.new.cache) None in
    let after : CoreView g.row.V.Denot = placed core c.number-place.result c.vanish-loss.new.self None core.calls core.vault core.size core.told in
    subst (λ one. Steps (event.Vanish c.args.who) c.answer_of_vanish.result one (record after { caches = slice_set (slice_set core.caches c.number-place.result (Some c.vanish-loss.new.cache)) c.number-place.result None })) c.self.view_is
    (subst (λ caches. Steps (event.Vanish c.args.who) c.answer_of_vanish.result core (record after { caches = caches })) (sym twice)
    (subst (λ said. Steps (event.Vanish c.args.who) said core after) (sym c.answer_of_vanish.ensures)
    (leaving_steps vanish of_vanish (event.Vanish c.args.who) core c.number-place.result c.args.who same client (vanish_is c.args.who client) sound c.in-Some.cache found c.vanish-loss.new.self c.vanish-loss.new.cache c.vanish-loss.result ensured.turn left ensured.client_after ensured.others ensured.still ensured.sound
    core.calls core.vault core.size core.told
    (λ state shape. refl) (λ base frames words. ensured.frames base frames) refl)))

pub returns-clause-shape : goal.returns-clause-shape
returns-clause-shape g c =
    let core : CoreView g.row.V.Denot = record {
      hub = c.self.inside.hub;
      caches = c.self.inside.caches.items;
      capacity = c.self.inside.capacity;
      unfinished = c.self.inside.unfinished;
      calls = c.self.inside.calls;
      vault = c.self.inside.vault;
      size = g.V.Vault.size c.self.inside.vault;
      told = told_by g.V.Vault.image g.V.Vault.version g.V.Vault.room g.V.Vault.doubt c.self.inside.vault;
    } in
    let sound : IsSound core = c.self.invariant in
    let same = c.number-place.ensures.number in
    let client : IsClient c.args.who = subst IsClient same (c.number-place.ensures.least, c.number-place.ensures.most) in
    let below : c.args.who < length core.caches = omega (arith, client.1, sound.places) in
    let found = found_at core.caches c.number-place.result c.args.who c.index_mut.result.now (Some c.in-Some.cache) same below c.index_mut.ensures.value c.in-Some.is in
    let ensured = c.vanish-loss.ensures in
    let left = ensured.absent in
    let twice = set_again core.caches c.number-place.result (Some c.vanish-loss.new.cache) None in
    let after : CoreView g.row.V.Denot = placed core c.number-place.result c.vanish-loss.new.self None core.calls core.vault core.size core.told in
    subst (λ one. StepsInShape (event.Vanish c.args.who) c.answer_of_vanish.result one (record after { caches = slice_set (slice_set core.caches c.number-place.result (Some c.vanish-loss.new.cache)) c.number-place.result None })) c.self.view_is
    (subst (λ caches. StepsInShape (event.Vanish c.args.who) c.answer_of_vanish.result core (record after { caches = caches })) (sym twice)
    (subst (λ said. StepsInShape (event.Vanish c.args.who) said core after) (sym c.answer_of_vanish.ensures)
    (leaving_made vanish of_vanish (event.Vanish c.args.who) core c.number-place.result c.args.who same client (vanish_is c.args.who client) sound c.in-Some.cache found c.vanish-loss.new.self c.vanish-loss.new.cache c.vanish-loss.result ensured.turn left ensured.client_after ensured.others ensured.still ensured.sound
    core.calls core.vault core.size core.told
    (λ state shape. refl))))

pub returns-clause-sound : goal.returns-clause-sound
returns-clause-sound g c =
    let core : CoreView g.row.V.Denot = record {
      hub = c.self.inside.hub;
      caches = c.self.inside.caches.items;
      capacity = c.self.inside.capacity;
      unfinished = c.self.inside.unfinished;
      calls = c.self.inside.calls;
      vault = c.self.inside.vault;
      size = g.V.Vault.size c.self.inside.vault;
      told = told_by g.V.Vault.image g.V.Vault.version g.V.Vault.room g.V.Vault.doubt c.self.inside.vault;
    } in
    let sound : IsSound core = c.self.invariant in
    let same = c.number-place.ensures.number in
    let client : IsClient c.args.who = subst IsClient same (c.number-place.ensures.least, c.number-place.ensures.most) in
    let below : c.args.who < length core.caches = omega (arith, client.1, sound.places) in
    let found = found_at core.caches c.number-place.result c.args.who c.index_mut.result.now (Some c.in-Some.cache) same below c.index_mut.ensures.value c.in-Some.is in
    let ensured = c.vanish-loss.ensures in
    let left = ensured.absent in
    let twice = set_again core.caches c.number-place.result (Some c.vanish-loss.new.cache) None in
    subst (λ caches. IsSound (record (placed core c.number-place.result c.vanish-loss.new.self None core.calls core.vault core.size core.told) { caches = caches })) (sym twice)
    (sound_left vanish of_vanish (event.Vanish c.args.who) core c.number-place.result c.args.who same client (vanish_is c.args.who client) sound c.in-Some.cache found c.vanish-loss.new.self c.vanish-loss.new.cache c.vanish-loss.result ensured.turn left ensured.client_after ensured.others ensured.still ensured.sound
    core.calls core.vault core.size core.told refl refl)
