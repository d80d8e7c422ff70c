use Rattle.std.proofs.Common.{◌≡◌, ◌≢◌, ◌<◌, ◌≤◌, ℕ, List, [], Bool, true, false, ◌==◌, cond, refl, sym, ap, ◌∙◌, subst, arith}
use Rattle.std.specs.Prelude.{Option, None, Some, unwrap_or, Ok, Err}
use Rattle.std.proofs.lemmas.Option.{none-some}
use Rattle.std.proofs.lemmas.List.{set-get_or}
use Rattle.casper_words.specs.Crew.{IsClient}
use Rattle.casper_trail.specs.TrailView.{entry_count}
use Rattle.casper_space.specs.declared.answer.Answer.TheVariants as answer
use Rattle.casper_cache.specs.Own as cache
use Rattle.casper_model.specs.declared.event.Event.TheVariants as event
use Rattle.casper_model.specs.declared.reply.JoinRefusal.{JoinRefusal}
use Rattle.casper_model.specs.declared.reply.JoinRefusal.TheVariants as refusal
use Rattle.casper_model.specs.Own as machine
use Rattle.casper_model.specs.Client.{Client}
use Rattle.casper_model.specs.Shared.{Shared, client_at}
use Rattle.casper_model.specs.Both.{Turned}
use Rattle.casper_model.specs.Room.{free_room}
use Rattle.casper_model.specs.Join.{join, joined_by}
use Rattle.casper_model.specs.Answers.{of_join}
use Rattle.casper_model.specs.State.{State, own_at, after_turn}
use Rattle.casper_model.specs.Step.{step}
use Rattle.casper_hub.specs.HubView.{HubView, is_live, cap_in}
use Rattle.casper_hub.specs.Owned.{Owns, own_of, new_cache}
use Rattle.casper_hub.specs.Sound as hub
use Rattle.casper_hub.specs.GoesOn.{KeepsClient, CommitsNothing}
use Rattle.casper_hub.specs.Turns.{IsJoin, Joins}
use Rattle.casper_hub.specs.Words.{FramesAreRight, CacheIsRight}
use Rattle.casper_hub.proofs.Relying.{kept_itself, nothing_itself}
use Rattle.casper_core.specs.Acting.{outside_of, IsTurnResult}
use Rattle.casper_core.specs.CoreView.{CoreView, cache_at}
use Rattle.casper_core.specs.Placing.{placed, IsPlaced}
use Rattle.casper_core.specs.Shaped.{RepresentsButWords, IsMade, StepsInShape}
use Rattle.casper_core.specs.Sound.{IsSound}
use Rattle.casper_core.specs.Represents.{own_part, HasPartsOf}
use Rattle.casper_core.specs.Stepping.{IsAnswered, Steps}
use Rattle.casper_core.proofs.MachineTurns.{moved_gives}
use Rattle.casper_core.proofs.Places.{sound_placed, parts_placed, shape_placed}
use Rattle.casper_core.proofs.StepParts.{answered_by, shape_of, number_at}

-- A client joins a core.

-- a refused join leaves the own part
refused_by_room : (shared : Shared) (own : machine.Own) (other : machine.Own) (after : Shared) (none : Bool) (why : JoinRefusal)
    → (cond {A = Turned (Option JoinRefusal)} none (record { reply = Some (refusal.TrailFull (entry_count shared.trail)); shared = shared; own = own }) (record { reply = None; shared = after; own = other })).reply ≡ Some why
    → (cond {A = Turned (Option JoinRefusal)} none (record { reply = Some (refusal.TrailFull (entry_count shared.trail)); shared = shared; own = own }) (record { reply = None; shared = after; own = other })).own ≡ own
refused_by_room shared own other after true why is = refl
refused_by_room shared own other after false why is = absurd (none-some why is)

refused_by_place : (shared : Shared) (own : machine.Own) (place : Option Client) (why : JoinRefusal) → (joined_by shared own place).reply ≡ Some why → (joined_by shared own place).own ≡ own
refused_by_place shared own (Some client) why is = refl
refused_by_place shared own None why is = refused_by_room shared own _ _ (free_room shared == 0) why is

refused_same : (shared : Shared) (own : machine.Own) (why : JoinRefusal) → (join shared own).reply ≡ Some why → (join shared own).own ≡ own
refused_same shared own why is = refused_by_place shared own (client_at shared own.who) why is

pub join_of : (who : ℕ) (why : JoinRefusal) (before after : HubView) → why ≢ refusal.Memory → Joins who (Err why) before after → IsJoin who (Err why) before after
join_of who refusal.Memory before after other is = absurd (other refl)
join_of who refusal.Busy before after other is = is
join_of who (refusal.TrailFull entries) before after other is = is

module _ {V : Type 0} (core : CoreView V) (who : ℕ) (client : IsClient who) (sound : IsSound core) where
  capacity_at : (place : Option cache.Own) → cache_at core who ≡ place → (own_part core.capacity who place).capacity ≡ core.capacity
  capacity_at None is = refl
  capacity_at (Some own) is = (sound.kept who own is).capacity

  pub placed_same : IsPlaced who core core.hub (cache_at core who)
  placed_same = record {
    sound = sound.hub;
    others = λ other away. kept_itself other core.hub;
    still = nothing_itself core.hub;
    live = sound.live who;
    client = λ own is. (sound.kept who own is).client;
    same_capacity = λ own is. (sound.kept who own is).capacity;
    owns = λ own is. (sound.kept who own is).owns;
  }

  -- the join is refused
  refused_gives : (why : JoinRefusal) (state : State) → IsJoin who (Err why) core.hub core.hub → RepresentsButWords state core
      → IsTurnResult who state (step state (event.Join who) (outside_of (of_join (Some why)))) (of_join (Some why)) core.hub (own_part core.capacity who (cache_at core who))
  refused_gives why state is shape =
      let own = own_at state who in
      let turn = join state.shared own in
      let number = number_at core who state sound shape in
      let reply : Some why ≡ turn.reply = is.replies state.shared own number shape.shared in
      let same : turn.own ≡ own = refused_same state.shared own why (sym reply) in
      let given = moved_gives who state turn.shared turn.own (of_join turn.reply) core.hub (ap (λ (one : machine.Own). one.who) same ∙ number)
      (omega (arith, client.1, shape.places)) (is.shows state.shared own number shape.shared) in
      let there : turn.own ≡ own_part core.capacity who (cache_at core who) = same ∙ shape.owns who (omega (arith, client.1)) in
      subst (λ one. IsTurnResult who state (record { answer = of_join turn.reply; state = after_turn state turn }) (of_join (Some why)) core.hub one) there
      (subst (λ one. IsTurnResult who state (record { answer = of_join turn.reply; state = after_turn state turn }) one core.hub turn.own) (ap of_join (sym reply)) given)

  pub join_refused : (why : JoinRefusal) (after : HubView) → after ≡ core.hub → IsJoin who (Err why) core.hub after → Steps (event.Join who) (of_join (Some why)) core (record core { hub = after })
  join_refused why after same is state stands =
      let said = of_join (Some why) in
      let here : IsJoin who (Err why) core.hub core.hub = subst (λ one. IsJoin who (Err why) core.hub one) same is in
      let gives = refused_gives why state here (shape_of state core stands) in
      let parts = parts_placed core who core.hub (cache_at core who) core.calls core.vault core.size core.told state (step state (event.Join who) (outside_of said)) said sound client placed_same stands.parts
      gives (record { frames = stands.parts.frames; words = λ own found. stands.parts.words who own found })
      refl in
      answered_by state (event.Join who) said core (record core { hub = after }) client stands gives.answers
      (subst (λ one. HasPartsOf (step state (event.Join who) (outside_of said)).state (record core { hub = one })) (sym same)
      (subst (λ caches. HasPartsOf (step state (event.Join who) (outside_of said)).state (record core { caches = caches })) (set-get_or core.caches who None) parts))

  pub refused_made : (why : JoinRefusal) (after : HubView) → after ≡ core.hub → IsJoin who (Err why) core.hub after
      → StepsInShape (event.Join who) (of_join (Some why)) core (record core { hub = after })
  refused_made why after same is state shape =
      let said = of_join (Some why) in
      let gives = refused_gives why state (subst (λ one. IsJoin who (Err why) core.hub one) same is) shape in
      record {
        answers = gives.answers;
        shape = subst (λ one. RepresentsButWords (step state (event.Join who) (outside_of said)).state (record core { hub = one })) (sym same)
            (subst (λ caches. RepresentsButWords (step state (event.Join who) (outside_of said)).state (record core { caches = caches })) (set-get_or core.caches who None)
            (shape_placed core who core.hub (cache_at core who) core.calls core.vault core.size core.told state (step state (event.Join who) (outside_of said)) said sound client shape gives));
      }

  -- the client has joined, with a new cache
  module _ (after : HubView) (own : cache.Own) (own_is : own ≡ record { client = who; capacity = core.capacity; held = []; pending = []; cap = cap_in after who })
      (own_sound : cache.IsSound own) (done : Unit {0}) (joins : IsJoin who (Ok done) core.hub after) (live : is_live after who ≡ true) (owned : (capacity : ℕ) → 8 ≤ capacity → capacity ≤ 1024 → Owns after (new_cache who capacity (cap_in after who)))
      (others : (other : ℕ) → other ≢ who → KeepsClient other core.hub after) (still : CommitsNothing core.hub after) (hub_sound : hub.IsSound after) where
    owns_new : Owns after own
    owns_new = subst (Owns after) (sym own_is) (owned core.capacity sound.least sound.most)

    is_it : (one : cache.Own) → ◌≡◌ {A = Option cache.Own} (Some own) (Some one) → own ≡ one
    is_it one is = ap (λ o. unwrap_or o own) is

    pub placed_new : IsPlaced who core after (Some own)
    placed_new = record {
      sound = hub_sound;
      others = others;
      still = still;
      live = sym live;
      client = λ one is. subst (λ (o : cache.Own). o.client ≡ who) (is_it one is) (ap (λ (o : cache.Own). o.client) own_is);
      same_capacity = λ one is. subst (λ (o : cache.Own). o.capacity ≡ core.capacity) (is_it one is) (ap (λ (o : cache.Own). o.capacity) own_is);
      owns = λ one is. subst (Owns after) (is_it one is) owns_new;
    }

    pub sound_join : (at : ℕ) → at ≡ who → IsSound (placed core at after (Some own) core.calls core.vault core.size core.told)
    sound_join at same =
        subst (λ number. IsSound (placed core number after (Some own) core.calls core.vault core.size core.told)) (sym same)
        (sound_placed core who after (Some own) core.calls core.vault core.size core.told sound client placed_new refl refl)

    joined_gives : (state : State) → RepresentsButWords state core → IsTurnResult who state (step state (event.Join who) (outside_of answer.Joined)) answer.Joined after (own_of own)
    joined_gives state shape =
        let mine = own_at state who in
        let turn = join state.shared mine in
        let number = number_at core who state sound shape in
        let reply : None ≡ turn.reply = joins.replies state.shared mine number shape.shared in
        let below : who < 33 = omega (arith, client.1) in
        let capacity : mine.capacity ≡ core.capacity = ap (λ (one : machine.Own). one.capacity) (shape.owns who below) ∙ capacity_at (cache_at core who) refl in
        let same : turn.own ≡ own_of own =
        joins.owns state.shared mine number shape.shared
        ∙ ap (λ count. record (machine.blank who count) { cap = cap_in after who }) capacity
        ∙ ap own_of (sym own_is) in
        let given = moved_gives who state turn.shared turn.own (of_join turn.reply) after (ap (λ (one : machine.Own). one.who) same ∙ ap (λ (o : cache.Own). o.client) own_is)
        (omega (arith, client.1, shape.places)) (joins.shows state.shared mine number shape.shared) in
        subst (λ one. IsTurnResult who state (record { answer = of_join turn.reply; state = after_turn state turn }) answer.Joined after one) same
        (subst (λ one. IsTurnResult who state (record { answer = of_join turn.reply; state = after_turn state turn }) one after turn.own) (ap of_join (sym reply)) given)

    pub join_made : (at : ℕ) → at ≡ who → StepsInShape (event.Join who) answer.Joined core (placed core at after (Some own) core.calls core.vault core.size core.told)
    join_made at same state shape =
        let gives = joined_gives state shape in
        subst (λ number. IsMade state (event.Join who) answer.Joined (placed core number after (Some own) core.calls core.vault core.size core.told)) (sym same)
        (record {
          answers = gives.answers;
          shape = shape_placed core who after (Some own) core.calls core.vault core.size core.told state (step state (event.Join who) (outside_of answer.Joined)) answer.Joined sound client shape gives;
        })

    pub join_steps : ((base : List (List ℕ)) → FramesAreRight base core.hub → FramesAreRight base after) → (at : ℕ) → at ≡ who
        → Steps (event.Join who) answer.Joined core (placed core at after (Some own) core.calls core.vault core.size core.told)
    join_steps frames at same state stands =
        let gives = joined_gives state (shape_of state core stands) in
        subst (λ number. IsAnswered state (event.Join who) answer.Joined (placed core number after (Some own) core.calls core.vault core.size core.told)) (sym same)
        (answered_by state (event.Join who) answer.Joined core (placed core who after (Some own) core.calls core.vault core.size core.told) client stands gives.answers
        (parts_placed core who after (Some own) core.calls core.vault core.size core.told state (step state (event.Join who) (outside_of answer.Joined)) answer.Joined sound client placed_new stands.parts
        gives
        (record {
          frames = frames state.base stands.parts.frames;
          words = λ one is. subst (CacheIsRight state.base after) (sym own_is ∙ is_it one is) (λ page. tt);
        })
        refl))
