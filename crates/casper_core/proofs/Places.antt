use Rattle.std.proofs.Common.{◌≡◌, ◌≢◌, ◌⊎◌, ◌<◌, ℕ, length, length-set, get_or-set_same, get_or-set_other, sym, ap, ◌∙◌, subst, ⊎_elim, arith}
use Rattle.std.specs.Prelude.{Option, None, Some, is_some}
use Rattle.std.proofs.lemmas.Bool.{cases_eq}
use Rattle.casper_words.specs.Crew.{IsClient}
use Rattle.casper_cache.specs.Own as cache
use Rattle.casper_model.specs.State.{State, own_at}
use Rattle.casper_model.specs.Turn.{Turn}
use Rattle.casper_model.specs.Vault.{VaultState}
use Rattle.casper_space.specs.declared.answer.Answer.{Answer}
use Rattle.casper_hub.specs.HubView.{HubView, is_live, page_count}
use Rattle.casper_hub.specs.Words.{FramesAreRight, CacheIsRight}
use Rattle.casper_hub.proofs.Relying.{live_while_kept, pages_while_kept, owns_while_kept, right_while_kept}
use Rattle.casper_hub.specs.GoesOn.{KeepsClient}
use Rattle.casper_core.specs.Acting.{IsTurnResult}
use Rattle.casper_core.specs.CoreView.{CoreView, cache_at}
use Rattle.casper_core.specs.Placing.{placed, IsPlaced, IsRight}
use Rattle.casper_core.specs.Shaped.{RepresentsButWords}
use Rattle.casper_core.specs.Sound.{Keeps, IsSound}
use Rattle.casper_core.specs.Represents.{own_part, HasPartsOf}
use Rattle.casper_core.proofs.StillLeads.{sealed_stays, alone_stays, in_doubt_stays}

-- A core after a turn of a client is sound, and its parts are those of the state after it.

module _ {V : Type 0} (core : CoreView V) (who : ℕ) (hub : HubView) (place : Option cache.Own) (calls : ℕ) (vault : V) (size : ℕ) (told : VaultState) where
  pub at_place : IsSound core → IsClient who → cache_at (placed core who hub place calls vault size told) who ≡ place
  at_place sound client = get_or-set_same core.caches who place None (omega (arith, sound.places, client.1))

  pub elsewhere : (other : ℕ) → other ≢ who → cache_at (placed core who hub place calls vault size told) other ≡ cache_at core other
  elsewhere other away = get_or-set_other core.caches who other place None away

  pages_stay : IsSound core → IsClient who → IsPlaced who core hub place → page_count hub ≡ page_count core.hub
  pages_stay sound client is = let none : 0 ≢ who = omega (arith, client.0) in pages_while_kept 0 core.hub hub sound.hub (is.others 0 none)

  live_at : IsSound core → IsClient who → IsPlaced who core hub place → (other : ℕ) → (other ≡ who) ⊎ (other ≢ who)
      → is_some (cache_at (placed core who hub place calls vault size told) other) ≡ is_live hub other
  live_at sound client is other cases =
      ⊎_elim
      (λ (same : other ≡ who).
      subst (λ number. is_some (cache_at (placed core who hub place calls vault size told) number) ≡ is_live hub number) (sym same)
      (ap is_some (at_place sound client) ∙ is.live))
      (λ (away : other ≢ who). ap is_some (elsewhere other away) ∙ sound.live other ∙ sym (live_while_kept other core.hub hub sound.hub (is.others other away)))
      cases

  kept_at : IsSound core → IsClient who → IsPlaced who core hub place → (other : ℕ) (own : cache.Own) → (other ≡ who) ⊎ (other ≢ who)
      → cache_at (placed core who hub place calls vault size told) other ≡ Some own → Keeps (placed core who hub place calls vault size told) other own
  kept_at sound client is other own cases found =
      ⊎_elim
      (λ (same : other ≡ who).
      let here : place ≡ Some own = sym (at_place sound client) ∙ subst (λ number. cache_at (placed core who hub place calls vault size told) number ≡ Some own) same found in
      record { client = is.client own here ∙ sym same; capacity = is.same_capacity own here; owns = is.owns own here })
      (λ (away : other ≢ who).
      let kept = sound.kept other own (sym (elsewhere other away) ∙ found) in
      record {
        client = kept.client;
        capacity = kept.capacity;
        owns = owns_while_kept core.hub hub own sound.hub kept.owns (subst (λ number. KeepsClient number core.hub hub) (sym kept.client) (is.others other away));
      })
      cases

  pub sound_placed : IsSound core → IsClient who → IsPlaced who core hub place → size ≡ core.size → is_some told.doubt ≡ is_some core.told.doubt
      → IsSound (placed core who hub place calls vault size told)
  sound_placed sound client is same_size same_doubt = record {
    hub = is.sound;
    places = length-set core.caches who place ∙ sound.places;
    live = λ other. live_at sound client is other (cases_eq other who);
    kept = λ other own found. kept_at sound client is other own (cases_eq other who) found;
    least = sound.least;
    most = sound.most;
    size = same_size ∙ sound.size ∙ sym (pages_stay sound client is);
    written = λ one is_one. sealed_stays core.hub hub sound.hub is.still one.lead (sound.written one is_one);
    alone = λ one is_one. alone_stays core.hub hub sound.hub is.still (sound.alone one is_one);
    doubtful = λ doubted. in_doubt_stays core.hub hub sound.hub is.still core.unfinished (sound.doubtful (sym same_doubt ∙ doubted));
  }

  module _ (state : State) (turn : Turn) (answer : Answer) where
    owns_at : IsSound core → IsClient who → ((other : ℕ) → other < 33 → own_at state other ≡ own_part core.capacity other (cache_at core other)) → IsTurnResult who state turn answer hub (own_part core.capacity who place) → (other : ℕ) → other < 33 → (other ≡ who) ⊎ (other ≢ who)
        → own_at turn.state other ≡ own_part core.capacity other (cache_at (placed core who hub place calls vault size told) other)
    owns_at sound client owns gives other below cases =
        ⊎_elim
        (λ (same : other ≡ who).
        subst (λ number. own_at turn.state number ≡ own_part core.capacity number (cache_at (placed core who hub place calls vault size told) number)) (sym same)
        (gives.part ∙ ap (own_part core.capacity who) (sym (at_place sound client))))
        (λ (away : other ≢ who). gives.others other away ∙ owns other below ∙ ap (own_part core.capacity other) (sym (elsewhere other away)))
        cases

    pub shape_placed : IsSound core → IsClient who → RepresentsButWords state core → IsTurnResult who state turn answer hub (own_part core.capacity who place)
        → RepresentsButWords turn.state (placed core who hub place calls vault size told)
    shape_placed sound client shape gives = record {
      shared = gives.shared;
      places = gives.places ∙ shape.places;
      owns = λ other below. owns_at sound client shape.owns gives other below (cases_eq other who);
      unfinished = gives.unfinished ∙ shape.unfinished;
    }

    words_at : IsSound core → IsClient who → IsPlaced who core hub place → HasPartsOf state core → IsRight state.base hub place → (other : ℕ) (own : cache.Own) → (other ≡ who) ⊎ (other ≢ who)
        → cache_at (placed core who hub place calls vault size told) other ≡ Some own → CacheIsRight state.base hub own
    words_at sound client is parts right other own cases found =
        ⊎_elim
        (λ (same : other ≡ who).
        right.words own (sym (at_place sound client) ∙ subst (λ number. cache_at (placed core who hub place calls vault size told) number ≡ Some own) same found))
        (λ (away : other ≢ who).
        let there = sym (elsewhere other away) ∙ found in
        let kept = sound.kept other own there in
        right_while_kept state.base core.hub hub own sound.hub kept.owns (subst (λ number. KeepsClient number core.hub hub) (sym kept.client) (is.others other away)) (parts.words other own there))
        cases

    pub parts_placed : IsSound core → IsClient who → IsPlaced who core hub place → HasPartsOf state core → IsTurnResult who state turn answer hub (own_part core.capacity who place)
        → IsRight state.base hub place → told ≡ core.told
        → HasPartsOf turn.state (placed core who hub place calls vault size told)
    parts_placed sound client is parts gives right same_told = record {
      shared = gives.shared;
      owns = λ other below. owns_at sound client parts.owns gives other below (cases_eq other who);
      unfinished = gives.unfinished ∙ parts.unfinished;
      vault = gives.vault ∙ parts.vault ∙ sym same_told;
      pages = ap length gives.base ∙ parts.pages ∙ sym (pages_stay sound client is);
      frames = subst (λ base. FramesAreRight base hub) (sym gives.base) right.frames;
      words = λ other own found. subst (λ base. CacheIsRight base hub own) (sym gives.base) (words_at sound client is parts right other own (cases_eq other who) found);
    }
