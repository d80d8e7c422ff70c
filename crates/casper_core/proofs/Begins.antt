use Rattle.std.proofs.Common.{◌≡◌, ◌<◌, ◌≤◌, ℕ, List, [], false, length, replicate, refl, sym, ap, ◌∙◌, ⊎_elim, arith, true≢false}
use Rattle.std.specs.Prelude.{Option, None, is_some, slice_index_or}
use Rattle.std.proofs.lemmas.Bool.{cases_lt}
use Rattle.std.proofs.lemmas.List.{get_or-replicate, get_or_past, length-replicate}
use Rattle.std.proofs.lemmas.List.FromFn.{get_or-map-range_with_len}
use Rattle.std.proofs.lemmas.Option.{none-some}
use Rattle.casper_trail.specs.Value.{IsArray}
use Rattle.casper_cache.specs.Own as cache
use Rattle.casper_model.specs.Own as machine
use Rattle.casper_model.specs.Shared.{new_shared}
use Rattle.casper_model.specs.State.{start, own_at}
use Rattle.casper_model.proofs.RunHistory.{start_history}
use Rattle.casper_model.proofs.RoomRuns.{every_run_room}
use Rattle.casper_laws.proofs.StepFrozen.{start_orderly}
use Rattle.casper_laws.proofs.StepImage.{start_stored}
use Rattle.casper_hub.specs.HubView.{is_live, page_count}
use Rattle.casper_hub.specs.Shows.{Shows}
use Rattle.casper_hub.specs.Sound.{IsSound as Whole}
use Rattle.casper_hub.specs.Words.{FramesAreRight}
use Rattle.casper_core.specs.CoreView.{CoreView, cache_at}
use Rattle.casper_core.specs.Shaped.{RepresentsButWords}
use Rattle.casper_core.specs.Sound.{IsSound}
use Rattle.casper_core.specs.Represents.{own_part, Represents}

-- A core as its session begins.

module _ {V : Type 0} (core : CoreView V) (whole : Whole core.hub) (empty : core.caches ≡ replicate 33 None) (absent : (who : ℕ) → is_live core.hub who ≡ false)
    (size : core.size ≡ page_count core.hub) (finished : core.unfinished ≡ None) where
  none_at : (who : ℕ) → cache_at core who ≡ None
  none_at who =
      ap (λ caches. slice_index_or caches who None) empty
      ∙ ⊎_elim (λ (below : who < 33). get_or-replicate 33 who None None below)
      (λ (past : 33 ≤ who). get_or_past (replicate {A = Option cache.Own} 33 None) who None (omega (arith, past, length-replicate {A = Option cache.Own} 33 None)))
      (cases_lt who 33)

  pub sound_new : 8 ≤ core.capacity → core.capacity ≤ 1024 → core.told.doubt ≡ None → IsSound core
  sound_new least most sure = record {
    hub = whole;
    places = ap length empty ∙ length-replicate {A = Option cache.Own} 33 None;
    live = λ who. ap is_some (none_at who) ∙ sym (absent who);
    kept = λ who own found. absurd (none-some own (sym (none_at who) ∙ found));
    least = least;
    most = most;
    size = size;
    written = λ one is. absurd (none-some one (sym finished ∙ is));
    alone = λ one is. absurd (none-some one (sym finished ∙ is));
    doubtful = λ doubted. absurd (true≢false (sym doubted ∙ ap is_some sure));
  }

  owns_new : (limit who : ℕ) → who < 33 → own_at (start core.told core.size limit core.capacity) who ≡ own_part core.capacity who (cache_at core who)
  owns_new limit who below =
      get_or-map-range_with_len (λ one. machine.blank one core.capacity) 0 33 who who (machine.blank who 0) below (omega arith)
      ∙ ap (own_part core.capacity who) (sym (none_at who))

  pub shape_new : (limit : ℕ) → Shows (new_shared core.size limit) core.hub → RepresentsButWords (start core.told core.size limit core.capacity) core
  shape_new limit shows = record { shared = shows; places = refl; owns = owns_new limit; unfinished = sym finished }

  pub stands_new : (limit : ℕ) → Shows (new_shared core.size limit) core.hub → ((base : List (List ℕ)) → FramesAreRight base core.hub) → core.told.doubt ≡ None
      → IsArray core.size core.told.image → Represents (start core.told core.size limit core.capacity) core
  stands_new limit shows frames sure shape = record {
    parts = record {
      shared = shows;
      owns = owns_new limit;
      unfinished = sym finished;
      vault = refl;
      pages = shape.count ∙ size;
      frames = frames core.told.image;
      words = λ who own found. absurd (none-some own (sym (none_at who) ∙ found));
    };
    history = start_history core.told core.size limit core.capacity;
    room = every_run_room core.told core.size limit core.capacity [] tt;
    orderly = start_orderly core.told core.size limit core.capacity sure;
    image = start_stored core.told core.size limit core.capacity shape;
  }
