use Rattle.std.proofs.Common.{◌≡◌, ℕ, ◌-◌, ◌<◌, List, [], ◌++◌, Bool, not, ◌&&◌, ◌==◌, length, filter_map, get_or-set_same, get_or-set_other, sym, ap, ap₂, ◌∙◌, subst, ⊎_elim, arith}
use Rattle.std.specs.Prelude.{Option, None, slice_set}
use Rattle.std.proofs.lemmas.Bool.{cases_eq}
use Rattle.casper_words.specs.Crew.{clients}
use Rattle.casper_words.specs.declared.page.Right.{Right}
use Rattle.casper_trail.specs.declared.item.Item.{Item}
use Rattle.casper_trail.specs.Parts.{as_items}
use Rattle.casper_trail.specs.TrailView.{entry_count}
use Rattle.casper_trail.specs.Calls.{entries_by}
use Rattle.casper_dir.specs.Rights.{right_at}
use Rattle.casper_cache.specs.declared.held.Held.{Held}
use Rattle.casper_cache.specs.Holding.{ArePagesDistinct}
use Rattle.casper_cache.specs.Own as cache
use Rattle.casper_model.specs.Held.{is_to_write}
use Rattle.casper_model.specs.Opening.{any_right}
use Rattle.casper_model.specs.Stabilisation.{Stabilisation}
use Rattle.casper_hub.specs.HubView.{ClientView, PagesView, place_in, asks_of, caps_of, begun_with}
use Rattle.casper_hub.specs.HubFields.{hub_of}
use Rattle.casper_hub.specs.Asks.{are_for, asks_for, is_asked_for}
use Rattle.casper_hub.specs.Given.{met, right_kept, kept_as, topped, asked_below, GivesUp, Meets}
use Rattle.casper_hub.specs.Stages.{Opens}
use Rattle.casper_hub.proofs.KeptPages.{any_same}
use Rattle.casper_hub.proofs.Left.{distinct-kept}
use Rattle.casper_hub.proofs.Opened.{asks_of_begun, length_kept}
use Rattle.casper_hub.proofs.Meeting.{right_after_asks}

-- a client with another cap asks for what it asked for
pub asks_beside_cap : (places after : List (Option ClientView)) (who cap : ℕ) → who < length places → after ≡ slice_set places who (begun_with cap (place_in places who))
    → (other : ℕ) → asks_of (place_in after other) ≡ asks_of (place_in places other)
asks_beside_cap places after who cap within is other =
    ap (λ (l : List (Option ClientView)). asks_of (place_in l other)) is
    ∙ ⊎_elim
    (λ same. ap (λ n. asks_of (place_in (slice_set places who (begun_with cap (place_in places who))) n)) same
    ∙ ap asks_of (get_or-set_same places who (begun_with cap (place_in places who)) None within)
    ∙ asks_of_begun cap (place_in places who) ∙ ap (λ n. asks_of (place_in places n)) (sym same))
    (λ apart. ap asks_of (get_or-set_other places who other (begun_with cap (place_in places who)) None apart))
    (cases_eq other who)

-- the same asks leave the same rights
pub right_kept_same : (pages : PagesView) (places after : List (Option ClientView)) (who page : ℕ) → ((other : ℕ) → asks_of (place_in after other) ≡ asks_of (place_in places other))
    → right_kept pages after who page ≡ right_kept pages places who page
right_kept_same pages places after who page same =
    ap₂ (λ wholly asked. met wholly asked (right_at pages.rights who page)) (asked is_to_write) (asked any_right)
  where
    asked : (test : Right → Bool) → is_asked_for test after who page ≡ is_asked_for test places who page
    asked test =
        any_same (asks_for test after who page) (asks_for test places who page) (λ other. ap (λ asks. not (other == who) && are_for test asks page) (same other)) clients

-- a cache without pending calls stays sound as pages are given up
pub sound_opened : (who cap : ℕ) (pages after : PagesView) (own own_after : cache.Own) → cache.IsSound own → GivesUp who pages own.held after own_after.held
    → own_after ≡ record own { pending = []; cap = cap; held = own_after.held } → cache.IsSound own_after
sound_opened who cap pages after own own_after sound gives is =
    subst (λ (o : cache.Own). cache.IsSound o) (sym is)
    (record {
      distinct = subst (λ (l : List Held). ArePagesDistinct l) (sym gives.held_is) (distinct-kept (right_at pages.rights who) (right_at after.rights who) own.held sound.distinct);
      few =
          let long : length own_after.held ≡ length (filter_map (kept_as (right_at pages.rights who) (right_at after.rights who)) own.held) = ap length gives.held_is in
          let less = length_kept (kept_as (right_at pages.rights who) (right_at after.rights who)) own.held in
          let few = sound.few in
          omega (arith, long, less, few);
      pending = omega arith;
      least = sound.least;
      most = sound.most;
    })

-- a cache whose pending calls were recorded, and that then gave pages up
pub own_given : (own recorded own_after : cache.Own) (cap : ℕ) → recorded ≡ record own { pending = []; cap = cap } → own_after ≡ record recorded { held = own_after.held }
    → own_after ≡ record own { pending = []; cap = cap; held = own_after.held }
own_given own recorded own_after cap was is = is ∙ ap (λ (o : cache.Own). record o { held = own_after.held }) was

-- pages that a cache gave up once its calls were recorded it gave up as it was before
pub gives_recorded : (who cap : ℕ) (pages after : PagesView) (own recorded : cache.Own) (held_after : List Held) → recorded ≡ record own { pending = []; cap = cap }
    → GivesUp who pages recorded.held after held_after → GivesUp who pages own.held after held_after
gives_recorded who cap pages after own recorded held_after was gives =
    subst (λ (l : List Held). GivesUp who pages l after held_after) (ap (λ (o : cache.Own). o.held) was) gives

-- what was recorded, and the asks that then were met, open a turn
pub opens_recorded : (who limit : ℕ) (stabilisations : List Stabilisation) (free : ℕ) (trail trail_after : List Item) (places after : List (Option ClientView)) (pages pages_after : PagesView) (own recorded own_after : cache.Own)
    → who < length places → free ≡ limit - entry_count trail - caps_of places
    → trail_after ≡ trail ++ as_items (entries_by who own.pending)
    → after ≡ slice_set places who (begun_with (topped own free) (place_in places who))
    → recorded ≡ record own { pending = []; cap = topped own free } → own_after ≡ record recorded { held = own_after.held }
    → Meets who (asked_below 33 is_to_write after who) (asked_below 33 any_right after who) pages recorded.held pages_after own_after.held
    → Opens who (hub_of trail limit stabilisations places pages) own (hub_of trail_after limit stabilisations after pages_after) own_after
opens_recorded who limit stabilisations free trail trail_after places after pages pages_after own recorded own_after within room grows changed was is meets = record {
  hub_is = ap₂ (λ items clients. hub_of items limit stabilisations clients pages_after) grows
      (changed ∙ ap (λ n. slice_set places who (begun_with (topped own n) (place_in places who))) room);
  own_is = own_given own recorded own_after (topped own free) was is ∙ ap (λ n. record own { pending = []; cap = topped own n; held = own_after.held }) room;
  gives = gives_recorded who (topped own free) pages pages_after own recorded own_after.held was meets.gives;
  kept = λ page. right_after_asks who after pages pages_after recorded.held own_after.held meets page
      ∙ right_kept_same pages places after who page (asks_beside_cap places after who (topped own free) within changed);
}
