use Rattle.std.proofs.Common.{◌≡◌, ◌<◌, sym, subst, arith}
use Rattle.std.specs.Prelude.{Some, None, length, slice_set}
use Rattle.casper_space.specs.declared.answer.Answer.TheVariants as answer
use Rattle.casper_words.specs.Crew.{IsClient}
use Rattle.casper_model.specs.State.{State}
use Rattle.casper_core.specs.CoreView.{CoreView, told_by}
use Rattle.casper_core.specs.Acting.{RefinesTurn}
use Rattle.casper_core.specs.ClientTurns.{client_turn}
use Rattle.casper_core.specs.Loading.{OnlyLoads}
use Rattle.casper_core.specs.Placing.{placed}
use Rattle.casper_core.specs.Shaped.{RefinesTurnButValues, StepsInShape, client_turn_with}
use Rattle.casper_core.specs.Sound.{IsSound}
use Rattle.casper_core.specs.Represents.{Represents}
use Rattle.casper_core.specs.Stepping.{Steps}
use Rattle.casper_core.proofs.CoreTurns.{found_at, put_back, if_ok, on_err, both_errs, absent_turn, absent_made, sound_turn, turn_steps, turn_made, turn_unchanged}
use Rattle.casper_core.proofs.state.Core.turn.Given as given
use Rattle.casper_core.proofs.state.Core.turn.Goals as goal

-- the core that is entered
abbrev entered : (g : given.Over) (c : goal.After-act-arg-3-1 g) → CoreView g.row.V.Denot
entered g c = record {
  hub = c.self.inside.hub;
  caches = c.self.inside.caches.items;
  capacity = c.self.inside.capacity;
  unfinished = c.self.inside.unfinished;
  calls = c.self.inside.calls;
  vault = c.self.inside.vault;
  size = g.V.Vault.size c.self.inside.vault;
  told = told_by g.V.Vault.image g.V.Vault.version g.V.Vault.room g.V.Vault.doubt c.self.inside.vault;
}

pub returns-in_default-clause-step : goal.returns-in_default-clause-step
returns-in_default-clause-step g c = λ told.
    let core : CoreView g.row.V.Denot = record {
      hub = c.self.inside.hub;
      caches = c.self.inside.caches.items;
      capacity = c.self.inside.capacity;
      unfinished = c.self.inside.unfinished;
      calls = c.self.inside.calls;
      vault = c.self.inside.vault;
      size = g.V.Vault.size c.self.inside.vault;
      told = told_by g.V.Vault.image g.V.Vault.version g.V.Vault.room g.V.Vault.doubt c.self.inside.vault;
    } in
    let sound : IsSound core = c.self.invariant in
    let client : IsClient c.args.who = subst IsClient c.number.ensures.number (c.number.ensures.least, c.number.ensures.most) in
    let below : c.args.who < length core.caches = omega (arith, client.1, sound.places) in
    let none = found_at core.caches c.number.result c.args.who c.index_mut.result.now None c.number.ensures.number below c.index_mut.ensures.value c.in_default.is in
    subst (λ one. Steps c.args.event.now answer.Absent one (record core { caches = slice_set core.caches c.number.result c.index_mut.result.now })) c.self.view_is
    (absent_turn core c.number.result c.args.who c.number.ensures.number client sound c.args.event.now (slice_set core.caches c.number.result c.index_mut.result.now) c.requires.turn none
    (put_back core.caches c.number.result c.index_mut.result.now c.index_mut.ensures.value))

pub returns-in_default-clause-shape : goal.returns-in_default-clause-shape
returns-in_default-clause-shape g c =
    let core : CoreView g.row.V.Denot = record {
      hub = c.self.inside.hub;
      caches = c.self.inside.caches.items;
      capacity = c.self.inside.capacity;
      unfinished = c.self.inside.unfinished;
      calls = c.self.inside.calls;
      vault = c.self.inside.vault;
      size = g.V.Vault.size c.self.inside.vault;
      told = told_by g.V.Vault.image g.V.Vault.version g.V.Vault.room g.V.Vault.doubt c.self.inside.vault;
    } in
    let sound : IsSound core = c.self.invariant in
    let client : IsClient c.args.who = subst IsClient c.number.ensures.number (c.number.ensures.least, c.number.ensures.most) in
    let below : c.args.who < length core.caches = omega (arith, client.1, sound.places) in
    let none = found_at core.caches c.number.result c.args.who c.index_mut.result.now None c.number.ensures.number below c.index_mut.ensures.value c.in_default.is in
    subst (λ one. StepsInShape c.args.event.now answer.Absent one (record core { caches = slice_set core.caches c.number.result c.index_mut.result.now })) c.self.view_is
    (absent_made core c.number.result c.args.who c.number.ensures.number client sound c.args.event.now (slice_set core.caches c.number.result c.index_mut.result.now) c.requires.turn none
    (put_back core.caches c.number.result c.index_mut.result.now c.index_mut.ensures.value))

pub act-requires-clause-client : goal.act-requires-clause-client
act-requires-clause-client g c =
    let sound : IsSound (entered g c) = c.self.invariant in
    let client : IsClient c.args.who = subst IsClient c.number.ensures.number (c.number.ensures.least, c.number.ensures.most) in
    let below : c.args.who < length (entered g c).caches = omega (arith, client.1, sound.places) in
    let found = found_at (entered g c).caches c.number.result c.args.who c.index_mut.result.now (Some c.in-Some.cache) c.number.ensures.number below c.index_mut.ensures.value c.in-Some.is in
    (sound.kept c.args.who c.in-Some.cache found).client

pub act-requires-clause-owns : goal.act-requires-clause-owns
act-requires-clause-owns g c =
    let sound : IsSound (entered g c) = c.self.invariant in
    let client : IsClient c.args.who = subst IsClient c.number.ensures.number (c.number.ensures.least, c.number.ensures.most) in
    let below : c.args.who < length (entered g c).caches = omega (arith, client.1, sound.places) in
    let found = found_at (entered g c).caches c.number.result c.args.who c.index_mut.result.now (Some c.in-Some.cache) c.number.ensures.number below c.index_mut.ensures.value c.in-Some.is in
    (sound.kept c.args.who c.in-Some.cache found).owns

pub invariant_of-self-2 : goal.invariant_of-self-2
invariant_of-self-2 g c =
    let core : CoreView g.row.V.Denot = record {
      hub = c.self.inside.hub;
      caches = c.self.inside.caches.items;
      capacity = c.self.inside.capacity;
      unfinished = c.self.inside.unfinished;
      calls = c.self.inside.calls;
      vault = c.self.inside.vault;
      size = g.V.Vault.size c.self.inside.vault;
      told = told_by g.V.Vault.image g.V.Vault.version g.V.Vault.room g.V.Vault.doubt c.self.inside.vault;
    } in
    let sound : IsSound core = c.self.invariant in
    let client : IsClient c.args.who = subst IsClient c.number.ensures.number (c.number.ensures.least, c.number.ensures.most) in
    let below : c.args.who < length core.caches = omega (arith, client.1, sound.places) in
    let found = found_at core.caches c.number.result c.args.who c.index_mut.result.now (Some c.in-Some.cache) c.number.ensures.number below c.index_mut.ensures.value c.in-Some.is in
    sound_turn core c.number.result c.args.who c.number.ensures.number client sound c.in-Some.cache found g.V.Vault.tells c.act.new.hub c.act.new.cache c.self.inside.calls c.act.new.vault
    (g.V.Vault.size c.act.new.vault) (told_by g.V.Vault.image g.V.Vault.version g.V.Vault.room g.V.Vault.doubt c.act.new.vault) c.act.ensures.leaves c.act.ensures.holds
    c.act.ensures.vault.same_size c.act.ensures.vault.same_doubt

pub returns-clause-sound : goal.returns-clause-sound
returns-clause-sound g c =
    let core : CoreView g.row.V.Denot = record {
      hub = c.self.inside.hub;
      caches = c.self.inside.caches.items;
      capacity = c.self.inside.capacity;
      unfinished = c.self.inside.unfinished;
      calls = c.self.inside.calls;
      vault = c.self.inside.vault;
      size = g.V.Vault.size c.self.inside.vault;
      told = told_by g.V.Vault.image g.V.Vault.version g.V.Vault.room g.V.Vault.doubt c.self.inside.vault;
    } in
    let sound : IsSound core = c.self.invariant in
    let client : IsClient c.args.who = subst IsClient c.number.ensures.number (c.number.ensures.least, c.number.ensures.most) in
    let below : c.args.who < length core.caches = omega (arith, client.1, sound.places) in
    let found = found_at core.caches c.number.result c.args.who c.index_mut.result.now (Some c.in-Some.cache) c.number.ensures.number below c.index_mut.ensures.value c.in-Some.is in
    sound_turn core c.number.result c.args.who c.number.ensures.number client sound c.in-Some.cache found g.V.Vault.tells c.act.new.hub c.act.new.cache c.self.inside.calls c.act.new.vault
    (g.V.Vault.size c.act.new.vault) (told_by g.V.Vault.image g.V.Vault.version g.V.Vault.room g.V.Vault.doubt c.act.new.vault) c.act.ensures.leaves c.act.ensures.holds
    c.act.ensures.vault.same_size c.act.ensures.vault.same_doubt

pub returns-clause-step : goal.returns-clause-step
returns-clause-step g c = λ told.
    let core : CoreView g.row.V.Denot = record {
      hub = c.self.inside.hub;
      caches = c.self.inside.caches.items;
      capacity = c.self.inside.capacity;
      unfinished = c.self.inside.unfinished;
      calls = c.self.inside.calls;
      vault = c.self.inside.vault;
      size = g.V.Vault.size c.self.inside.vault;
      told = told_by g.V.Vault.image g.V.Vault.version g.V.Vault.room g.V.Vault.doubt c.self.inside.vault;
    } in
    let sound : IsSound core = c.self.invariant in
    let client : IsClient c.args.who = subst IsClient c.number.ensures.number (c.number.ensures.least, c.number.ensures.most) in
    let below : c.args.who < length core.caches = omega (arith, client.1, sound.places) in
    let found = found_at core.caches c.number.result c.args.who c.index_mut.result.now (Some c.in-Some.cache) c.number.ensures.number below c.index_mut.ensures.value c.in-Some.is in
    let after : CoreView g.row.V.Denot = placed core c.number.result c.act.new.hub (Some c.act.new.cache) c.self.inside.calls c.act.new.vault (g.V.Vault.size c.act.new.vault)
    (told_by g.V.Vault.image g.V.Vault.version g.V.Vault.room g.V.Vault.doubt c.act.new.vault) in
    if_ok c.act.result (λ answer. RefinesTurn c.args.who g.V.Vault.tells core.told.image (client_turn c.args.who c.args.event.now) core.hub c.in-Some.cache answer c.act.new.hub c.act.new.cache)
    (λ answer. Steps c.args.event.now answer c.args.self.now after) c.act.ensures.does
    (λ answer does. subst (λ one. Steps c.args.event.now answer one after) c.self.view_is
    (turn_steps core c.number.result c.args.who c.number.ensures.number client sound c.in-Some.cache found g.V.Vault.tells c.act.new.hub c.act.new.cache c.self.inside.calls c.act.new.vault
    (g.V.Vault.size c.act.new.vault) (told_by g.V.Vault.image g.V.Vault.version g.V.Vault.room g.V.Vault.doubt c.act.new.vault) c.act.ensures.leaves c.act.ensures.holds
    c.args.event.now answer c.requires.turn told (c.act.ensures.vault.told told) does))

pub returns-clause-shape : goal.returns-clause-shape
returns-clause-shape g c =
    let core : CoreView g.row.V.Denot = record {
      hub = c.self.inside.hub;
      caches = c.self.inside.caches.items;
      capacity = c.self.inside.capacity;
      unfinished = c.self.inside.unfinished;
      calls = c.self.inside.calls;
      vault = c.self.inside.vault;
      size = g.V.Vault.size c.self.inside.vault;
      told = told_by g.V.Vault.image g.V.Vault.version g.V.Vault.room g.V.Vault.doubt c.self.inside.vault;
    } in
    let sound : IsSound core = c.self.invariant in
    let client : IsClient c.args.who = subst IsClient c.number.ensures.number (c.number.ensures.least, c.number.ensures.most) in
    let below : c.args.who < length core.caches = omega (arith, client.1, sound.places) in
    let found = found_at core.caches c.number.result c.args.who c.index_mut.result.now (Some c.in-Some.cache) c.number.ensures.number below c.index_mut.ensures.value c.in-Some.is in
    let after : CoreView g.row.V.Denot = placed core c.number.result c.act.new.hub (Some c.act.new.cache) c.self.inside.calls c.act.new.vault (g.V.Vault.size c.act.new.vault)
    (told_by g.V.Vault.image g.V.Vault.version g.V.Vault.room g.V.Vault.doubt c.act.new.vault) in
    if_ok c.act.result (λ answer. RefinesTurnButValues c.args.who (client_turn_with c.args.who c.args.event.now) core.hub c.in-Some.cache answer c.act.new.hub c.act.new.cache)
    (λ answer. StepsInShape c.args.event.now answer c.args.self.now after) c.act.ensures.makes
    (λ answer makes. subst (λ one. StepsInShape c.args.event.now answer one after) c.self.view_is
    (turn_made core c.number.result c.args.who c.number.ensures.number client sound c.in-Some.cache found g.V.Vault.tells c.act.new.hub c.act.new.cache c.self.inside.calls c.act.new.vault
    (g.V.Vault.size c.act.new.vault) (told_by g.V.Vault.image g.V.Vault.version g.V.Vault.room g.V.Vault.doubt c.act.new.vault) c.act.ensures.leaves c.act.ensures.holds
    c.args.event.now answer c.requires.turn makes))

pub returns-clause-stands : goal.returns-clause-stands
returns-clause-stands g c = λ told.
    let core : CoreView g.row.V.Denot = record {
      hub = c.self.inside.hub;
      caches = c.self.inside.caches.items;
      capacity = c.self.inside.capacity;
      unfinished = c.self.inside.unfinished;
      calls = c.self.inside.calls;
      vault = c.self.inside.vault;
      size = g.V.Vault.size c.self.inside.vault;
      told = told_by g.V.Vault.image g.V.Vault.version g.V.Vault.room g.V.Vault.doubt c.self.inside.vault;
    } in
    let sound : IsSound core = c.self.invariant in
    let client : IsClient c.args.who = subst IsClient c.number.ensures.number (c.number.ensures.least, c.number.ensures.most) in
    let below : c.args.who < length core.caches = omega (arith, client.1, sound.places) in
    let found = found_at core.caches c.number.result c.args.who c.index_mut.result.now (Some c.in-Some.cache) c.number.ensures.number below c.index_mut.ensures.value c.in-Some.is in
    let after : CoreView g.row.V.Denot = placed core c.number.result c.act.new.hub (Some c.act.new.cache) c.self.inside.calls c.act.new.vault (g.V.Vault.size c.act.new.vault)
    (told_by g.V.Vault.image g.V.Vault.version g.V.Vault.room g.V.Vault.doubt c.act.new.vault) in
    on_err c.act.result (OnlyLoads core.hub c.act.new.hub × (c.act.new.cache ≡ c.in-Some.cache)) ((state : State) → Represents state c.args.self.now → Represents state after)
    (both_errs c.act.result (OnlyLoads core.hub c.act.new.hub) (c.act.new.cache ≡ c.in-Some.cache) c.act.ensures.memory c.act.ensures.cache_stays)
    (λ loads state stands.
    turn_unchanged core c.number.result c.args.who c.number.ensures.number client sound c.in-Some.cache found g.V.Vault.tells c.act.new.hub c.act.new.cache c.self.inside.calls c.act.new.vault
    (g.V.Vault.size c.act.new.vault) (told_by g.V.Vault.image g.V.Vault.version g.V.Vault.room g.V.Vault.doubt c.act.new.vault) c.act.ensures.leaves c.act.ensures.holds
    told (c.act.ensures.vault.told told) loads.0 loads.1 state (subst (Represents state) (sym c.self.view_is) stands))
