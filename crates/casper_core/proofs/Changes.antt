use Rattle.std.proofs.Common.{◌≡◌, ℕ, refl, sym, ◌∙◌}
use Rattle.std.specs.Prelude.{Option, None, Some, IsSome}
use Rattle.casper_cache.specs.Own as cache
use Rattle.casper_model.specs.Shared.{Shared}
use Rattle.casper_model.specs.State.{State, Unfinished}
use Rattle.casper_model.specs.Vault.{VaultState}
use Rattle.casper_hub.specs.Committing.{doubtful_in}
use Rattle.casper_hub.specs.GoesOn.{KeepsClient}
use Rattle.casper_hub.specs.HubView.{HubView, page_count}
use Rattle.casper_hub.specs.Shows.{Shows}
use Rattle.casper_hub.specs.Sound.{IsSound as Whole}
use Rattle.casper_hub.specs.Words.{FramesAreRight}
use Rattle.casper_hub.proofs.Relying.{live_while_kept, pages_while_kept, owns_while_kept, right_while_kept}
use Rattle.casper_core.specs.CoreView.{CoreView, cache_at}
use Rattle.casper_core.specs.Placing.{changed}
use Rattle.casper_core.specs.Represents.{HasPartsOf}
use Rattle.casper_core.specs.Shaped.{RepresentsButWords}
use Rattle.casper_core.specs.Sound.{Keeps, IsSound, IsSealedIn, IsInDoubt}

-- A core after a step that is no turn of a client: each client keeps its cache.

module _ {V : Type 0} (core : CoreView V) (sound : IsSound core) (after : HubView) (kept : (who : ℕ) → KeepsClient who core.hub after)
    (unfinished : Option Unfinished) (vault : V) (size : ℕ) (told : VaultState) where
  pages_stay : page_count after ≡ page_count core.hub
  pages_stay = pages_while_kept 0 core.hub after sound.hub (kept 0)

  kept_here : (who : ℕ) (own : cache.Own) → cache_at core who ≡ Some own → Keeps (changed core after unfinished vault size told) who own
  kept_here who own found =
      let keeps = sound.kept who own found in
      record { client = keeps.client; capacity = keeps.capacity; owns = owns_while_kept core.hub after own sound.hub keeps.owns (kept own.client) }

  pub sound_changed : Whole after → size ≡ core.size → ((one : Unfinished) → unfinished ≡ Some one → IsSealedIn after one.lead)
      → ((one : Unfinished) → unfinished ≡ Some one → doubtful_in after ≡ None) → (IsSome told.doubt → IsInDoubt unfinished after)
      → IsSound (changed core after unfinished vault size told)
  sound_changed whole same_size written alone doubtful = record {
    hub = whole;
    places = sound.places;
    live = λ who. sound.live who ∙ sym (live_while_kept who core.hub after sound.hub (kept who));
    kept = kept_here;
    least = sound.least;
    most = sound.most;
    size = same_size ∙ sound.size ∙ sym pages_stay;
    written = written;
    alone = alone;
    doubtful = doubtful;
  }

  pub shape_changed : (state : State) (shared : Shared) (of_state : VaultState) → RepresentsButWords state core → Shows shared after
      → RepresentsButWords (record state { shared = shared; vault = of_state; unfinished = unfinished }) (changed core after unfinished vault size told)
  shape_changed state shared of_state shape shows = record { shared = shows; places = shape.places; owns = shape.owns; unfinished = refl }

  pub parts_changed : (state : State) (shared : Shared) → HasPartsOf state core → Shows shared after → FramesAreRight state.base after
      → HasPartsOf (record state { shared = shared; vault = told; unfinished = unfinished }) (changed core after unfinished vault size told)
  parts_changed state shared parts shows frames = record {
    shared = shows;
    owns = parts.owns;
    unfinished = refl;
    vault = refl;
    pages = parts.pages ∙ sym pages_stay;
    frames = frames;
    words = λ who own found. right_while_kept state.base core.hub after own sound.hub (sound.kept who own found).owns (kept own.client) (parts.words who own found);
  }
