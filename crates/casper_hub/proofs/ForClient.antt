use Rattle.std.proofs.Common.{◌≡◌, ℕ, List, [], sym, ap, ap₂, subst, ◌∙◌}
use Rattle.std.specs.Prelude.{Option, None, slice_set}
use Rattle.casper_words.specs.declared.page.Want.{Want}
use Rattle.casper_trail.specs.declared.item.Item.{Item}
use Rattle.casper_dir.specs.Rights.{right_at}
use Rattle.casper_cache.specs.declared.held.Held.{Held}
use Rattle.casper_cache.specs.Holding.{right_of}
use Rattle.casper_cache.specs.Own as cache
use Rattle.casper_model.specs.Stabilisation.{Stabilisation}
use Rattle.casper_hub.specs.HubView.{HubView, ClientView, PagesView, place_in, cap_in, right_in, fallen_in, with_asks}
use Rattle.casper_hub.specs.HubFields.{hub_of}
use Rattle.casper_hub.specs.Given.{Covers, GivesUp}
use Rattle.casper_hub.specs.Stages.{Leaves, Opens, OpensTurn, Refuses, without_asker}
use Rattle.casper_hub.specs.Owned.{Owns}
use Rattle.casper_hub.specs.Sound.{IsSound}
use Rattle.casper_hub.proofs.Whole.{Owning, whole, owning}
use Rattle.casper_hub.proofs.Opened.{covers_owned, opened_rights}
use Rattle.casper_hub.specs.GoesOn.{KeepsClient, CommitsNothing}
use Rattle.casper_hub.proofs.Giving.{covers_after}
use Rattle.casper_hub.proofs.Relying.{kept_itself, nothing_itself}

-- What holds for the client of a cache, said of its number.

-- a hub owns the cache of a client that has not fallen
pub owning_for : (who : ℕ) (hub : HubView) (own : cache.Own) → own.client ≡ who → IsSound hub → Owns hub own → fallen_in hub who ≡ None → Owning hub own
owning_for who hub own is sound owns up = owning hub own sound owns (ap (fallen_in hub) is ∙ up)

-- a hub that owns a cache covers it
pub covers_for : (who : ℕ) (hub : HubView) (own : cache.Own) → own.client ≡ who → IsSound hub → Owns hub own → fallen_in hub who ≡ None
    → Covers who hub.pages own.held
covers_for who hub own is sound owns up =
    subst (λ (w : ℕ). Covers w hub.pages own.held) is (covers_owned hub own (whole hub sound) (owning_for who hub own is sound owns up))

-- what opened a turn of this client opened one of the cache's
pub opens_for : (who limit : ℕ) (stabilisations : List Stabilisation) (items trail : List Item) (places : List (Option ClientView)) (pages : PagesView) (own own_after : cache.Own) (after : HubView) → own.client ≡ who → items ≡ trail
    → Opens who (hub_of items limit stabilisations places pages) own after own_after → Opens own.client (hub_of trail limit stabilisations places pages) own after own_after
opens_for who limit stabilisations items trail places pages own own_after after is same opens =
    subst (λ (w : ℕ). Opens w (hub_of trail limit stabilisations places pages) own after own_after) (sym is)
    (subst (λ (l : List Item). Opens who (hub_of l limit stabilisations places pages) own after own_after) same opens)

-- and whose asks were replaced was refused
pub refuses_for : (who : ℕ) (asks : List Want) (hub : HubView) (own : cache.Own) (trail : List Item) (limit : ℕ) (stabilisations : List Stabilisation) (places after : List (Option ClientView)) (pages : PagesView) (own_after : cache.Own)
    → own.client ≡ who → OpensTurn own.client hub own (hub_of trail limit stabilisations places pages) own_after
    → after ≡ slice_set places who (with_asks asks (place_in places who)) → Refuses own.client asks hub own (hub_of trail limit stabilisations after pages) own_after
refuses_for who asks hub own trail limit stabilisations places after pages own_after is opens changed = record {
  opened = hub_of trail limit stabilisations places pages;
  opens = opens;
  hub_is = ap (λ l. hub_of trail limit stabilisations l pages) (subst (λ (w : ℕ). after ≡ slice_set places w (with_asks asks (place_in places w))) (sym is) changed);
}

-- after an opening the cache covers its client's rights
pub covers_opened_for : (who : ℕ) (hub : HubView) (own : cache.Own) (after : HubView) (own_after : cache.Own) → own.client ≡ who → IsSound hub → Owns hub own → fallen_in hub who ≡ None
    → Opens own.client hub own after own_after → Covers who after.pages own_after.held
covers_opened_for who hub own after own_after is sound owns up opens =
    subst (λ (w : ℕ). Covers w after.pages own_after.held) is
    (covers_after own.client hub.pages after.pages own.held own_after.held (covers_owned hub own (whole hub sound) (owning_for who hub own is sound owns up)) opens.gives)

-- and has just those
pub rights_opened_for : (who : ℕ) (hub : HubView) (own : cache.Own) (after : HubView) (own_after : cache.Own) → own.client ≡ who → IsSound hub → Owns hub own → fallen_in hub who ≡ None
    → Opens own.client hub own after own_after → (page : ℕ) → right_at after.pages.rights who page ≡ right_of page own_after.held
rights_opened_for who hub own after own_after is sound owns up opens page =
    ap (λ w. right_in after w page) (sym is) ∙ opened_rights hub own after own_after (owning_for who hub own is sound owns up) opens (whole hub sound) page

-- a client that then gave up every page, became absent and waits for no outcome left
pub leaves_for : (who : ℕ) (hub : HubView) (own : cache.Own) (trail : List Item) (limit : ℕ) (stabilisations forgotten : List Stabilisation) (places places_after : List (Option ClientView))
    (pages pages_after : PagesView) (own_opened own_given own_after : cache.Own) → own.client ≡ who → OpensTurn own.client hub own (hub_of trail limit stabilisations places pages) own_opened
    → GivesUp who pages own_opened.held pages_after own_given.held → ((page : ℕ) → right_at pages_after.rights who page ≡ right_of page own_given.held)
    → own_given ≡ record own_opened { held = [] } → places_after ≡ slice_set places who None → forgotten ≡ without_asker who stabilisations → own_after ≡ record own_given { cap = 0 }
    → Leaves own.client hub own (hub_of trail limit forgotten places_after pages_after) own_after
leaves_for who hub own trail limit stabilisations forgotten places places_after pages pages_after own_opened own_given own_after is opens gives all given left forgot allowed = record {
  opened = hub_of trail limit stabilisations places pages;
  opened_own = own_opened;
  opens = opens;
  gives = subst (λ (w : ℕ). GivesUp w pages own_opened.held pages_after []) (sym is)
      (subst (λ (l : List Held). GivesUp who pages own_opened.held pages_after l) (ap (λ (o : cache.Own). o.held) given) gives);
  none = λ page. ap (λ w. right_at pages_after.rights w page) is ∙ all page ∙ ap (λ (o : cache.Own). right_of page o.held) given;
  hub_is = ap₂ (λ list l. hub_of trail limit list l pages_after) (forgot ∙ ap (λ w. without_asker w stabilisations) (sym is)) (left ∙ ap (λ w. slice_set places w None) (sym is));
  own_is = allowed ∙ ap (λ (o : cache.Own). record o { cap = 0 }) given;
}

-- the server knows the cap of the cache
pub cap_for : (who : ℕ) (hub : HubView) (own : cache.Own) → own.client ≡ who → IsSound hub → Owns hub own → fallen_in hub who ≡ None → cap_in hub who ≡ own.cap
cap_for who hub own is sound owns up = ap (λ (w : ℕ). cap_in hub w) (sym is) ∙ (owning_for who hub own is sound owns up).cap

-- room taken in the trail changes nothing
module _ (hub : HubView) (limit : ℕ) (stabilisations : List Stabilisation) (items trail : List Item) (places : List (Option ClientView)) (pages : PagesView) (view : hub_of trail limit stabilisations places pages ≡ hub) (same : items ≡ trail) where
  reserved_same : hub_of items limit stabilisations places pages ≡ hub
  reserved_same = ap (λ (l : List Item). hub_of l limit stabilisations places pages) same ∙ view

  pub kept_reserved : (other : ℕ) → KeepsClient other hub (hub_of items limit stabilisations places pages)
  kept_reserved other = subst (λ (h : HubView). KeepsClient other hub h) (sym reserved_same) (kept_itself other hub)

  pub nothing_reserved : CommitsNothing hub (hub_of items limit stabilisations places pages)
  nothing_reserved = subst (λ (h : HubView). CommitsNothing hub h) (sym reserved_same) (nothing_itself hub)
