use Rattle.std.proofs.Common.{◌≡◌, ◌≤◌, ℕ, List, [], true, length, get_or-set_same, get_or-set_other, append-nil, refl, sym, ap, ◌∙◌, subst, Contains, arith}
use Rattle.std.specs.Prelude.{Option, None, Some, is_some, option_map, slice_set}
use Rattle.casper_words.specs.Crew.{IsClient}
use Rattle.casper_words.specs.declared.page.Right.{Right}
use Rattle.casper_words.specs.declared.page.Want.{Want}
use Rattle.casper_trail.specs.declared.item.Item.{Item}
use Rattle.casper_cache.specs.Own as cache
use Rattle.casper_model.specs.declared.reply.Reply.{Reply}
use Rattle.casper_model.specs.declared.reply.Reply.TheVariants as reply
use Rattle.casper_model.specs.declared.reply.Served.{Served}
use Rattle.casper_model.specs.declared.reply.Served.TheVariants as served
use Rattle.casper_model.specs.Acquire.{acquire, acquired_by}
use Rattle.casper_model.specs.Client.{Client}
use Rattle.casper_model.specs.Held.{allows}
use Rattle.casper_model.specs.Leave.{serve, served_by, depart, departed_by}
use Rattle.casper_model.specs.Opening.{told_of_fall}
use Rattle.casper_model.specs.Shared.{Shared, client_at, fallen_at, rights_at, of_client}
use Rattle.casper_model.proofs.Places.{client_changed, client_unchanged}
use Rattle.casper_model.proofs.OpeningRights.{places_changed}
use Rattle.casper_hub.specs.HubView.{HubView, ClientView, FallenView, client_in, asks_of, fallen_in, right_in, is_live, risen}
use Rattle.casper_hub.specs.Owned.{own_of}
use Rattle.casper_hub.specs.Shows.{permits, fallen_of, Shows, ShowsClient}
use Rattle.casper_hub.specs.Sound.{IsWellFormed}
use Rattle.casper_hub.specs.Turns.{IsTurn}
use Rattle.casper_hub.proofs.Changing.{changed_here, formed_changed}
use Rattle.casper_hub.proofs.Showing.{fall_shown}
use Rattle.casper_hub.proofs.ShownAfter.{shows_after}
use Rattle.casper_hub.proofs.Whole.{Whole}

-- What is left once a fallen client was told of its fall.

-- a hub whose client was told
abbrev pub told : HubView → ℕ → HubView
told hub who = record hub { clients = slice_set hub.clients who (risen (client_in hub who)) }

-- a client that was told, as the machine has it
abbrev rise : Client → Client
rise client = record client { kept = None; fallen = None }

shown_risen : (trail : List Item) (place : Option Client) (shown : Option ClientView) → ShowsClient trail place shown
    → ShowsClient trail (option_map rise place) (risen shown)
shown_risen trail None None shows = tt
shown_risen trail None (Some shown) shows = absurd shows
shown_risen trail (Some client) None shows = absurd shows
shown_risen trail (Some client) (Some shown) shows = record { cap = shows.cap; asks = shows.asks; kept = refl; fallen = refl }

rights_risen : (place : Option Client)
    → of_client [] (λ (client : Client). client.rights) (option_map rise place) ≡ of_client [] (λ (client : Client). client.rights) place
rights_risen None = refl
rights_risen (Some client) = refl

asks_risen : (place : Option ClientView) → asks_of (risen place) ≡ asks_of place
asks_risen None = refl
asks_risen (Some client) = refl

live_risen : (place : Option ClientView) → is_some (risen place) ≡ is_some place
live_risen None = refl
live_risen (Some client) = refl

-- the hub after it stands for what the machine has after it
told_shows : (shared : Shared) (hub : HubView) (own : cache.Own) → Shows shared hub → Whole hub → IsClient own.client
    → Shows (told_of_fall shared (own_of own)).shared (told hub own.client)
told_shows shared hub own shows sound client =
    shows_after own.client shared (told_of_fall shared (own_of own)).shared hub (told hub own.client) shows sound
    (record {
      trail = shows.trail;
      more = [];
      grows = sym (append-nil hub.trail);
      limit = refl;
      limit_too = refl;
      pages = refl;
      pages_too = refl;
      stabilisations = shows.stabilisations;
      places = places_changed own.client rise shared;
      clients = λ other apart. client_unchanged own.client rise shared other apart;
      clients_too = λ other apart. get_or-set_other hub.clients own.client other (risen (client_in hub own.client)) None apart;
      holders = sound.holders;
      rights = λ other page is apart. refl;
    })
    acting acting_rights
  where
    there : client_at (told_of_fall shared (own_of own)).shared own.client ≡ option_map rise (client_at shared own.client)
    there = client_changed own.client rise shared

    here : client_in (told hub own.client) own.client ≡ risen (client_in hub own.client)
    here =
        let most = client.1 in
        let long = sound.places in
        get_or-set_same hub.clients own.client (risen (client_in hub own.client)) None (omega (arith, most, long))

    acting : ShowsClient hub.trail (client_at (told_of_fall shared (own_of own)).shared own.client) (client_in (told hub own.client) own.client)
    acting =
        subst (λ place. ShowsClient hub.trail place (client_in (told hub own.client) own.client)) (sym there)
        (subst (λ shown. ShowsClient hub.trail (option_map rise (client_at shared own.client)) shown) (sym here)
        (shown_risen hub.trail (client_at shared own.client) (client_in hub own.client) (shows.clients own.client)))

    acting_rights : (page : ℕ) (right : Right)
        → allows (rights_at (told_of_fall shared (own_of own)).shared own.client) page right ≡ permits (right_in (told hub own.client) own.client page) right
    acting_rights page right =
        ap (λ place. allows (of_client [] (λ (client : Client). client.rights) place) page right) there
        ∙ ap (λ rights. allows rights page right) (rights_risen (client_at shared own.client))
        ∙ shows.rights own.client page right

-- what was done as a client was told
pub record Tells (hub : HubView) (own : cache.Own) (after : HubView) (own_after : cache.Own) : Type 0 where
  pub sound : Whole hub
  pub client : IsClient own.client
  pub hub_is : after ≡ told hub own.client
  pub own_is : own_after ≡ record own { held = []; pending = [] }

module _ (hub : HubView) (own : cache.Own) (after : HubView) (own_after : cache.Own) (tells : Tells hub own after own_after) where
  module _ (fallen : FallenView) (fell : fallen_in hub own.client ≡ Some fallen) where
    fell_at : (shared : Shared) → Shows shared hub → fallen_at shared own.client ≡ Some (fallen_of hub.trail fallen)
    fell_at shared shows = fall_shown shared hub shows own.client ∙ ap (option_map (fallen_of hub.trail)) fell

    -- it is the machine's turn, whichever turn that is
    pub told_serve : IsTurn serve (served.RolledBack fallen.mark fallen.dropped (length own.pending)) hub own after own_after
    told_serve = record {
      replies = λ shared shows. sym (ap (λ f. (served_by shared (own_of own) f).reply) (fell_at shared shows));
      shows = λ shared shows.
          subst (λ f. Shows (served_by shared (own_of own) f).shared after) (sym (fell_at shared shows))
          (subst (λ (h : HubView). Shows (told_of_fall shared (own_of own)).shared h) (sym tells.hub_is) (told_shows shared hub own shows tells.sound tells.client));
      owns = λ shared shows. ap own_of tells.own_is ∙ sym (ap (λ f. (served_by shared (own_of own) f).own) (fell_at shared shows));
    }

  -- the parts of the hub fit together
  pub told_formed : IsWellFormed after
  told_formed =
      subst IsWellFormed (sym tells.hub_is)
      (formed_changed hub hub.trail own.client (risen (client_in hub own.client)) hub.pages tells.sound.sound.formed tells.client
      (λ ask inside. tells.sound.asked own.client ask (subst (λ (asks : List Want). Contains asks ask) (asks_risen (client_in hub own.client)) inside))
      refl refl tells.sound.holders (λ client page is differ. refl) (tells.sound.framed own.client) (λ page is. is) tells.sound.sound.formed.modified)

  -- the client stays live, and its cache is sound
  pub told_live : is_live hub own.client ≡ true → is_live after own_after.client ≡ true
  told_live live =
      ap (is_live after) (ap (λ (o : cache.Own). o.client) tells.own_is) ∙ ap (λ (h : HubView). is_live h own.client) tells.hub_is
      ∙ ap is_some (changed_here hub hub.trail own.client (risen (client_in hub own.client)) hub.pages tells.sound.places tells.client)
      ∙ live_risen (client_in hub own.client) ∙ live

  pub told_cache : cache.IsSound own → cache.IsSound own_after
  told_cache sound = subst (λ (o : cache.Own). cache.IsSound o) (sym tells.own_is) (record {
    distinct = tt;
    few = omega arith;
    pending = omega arith;
    least = sound.least;
    most = sound.most;
  })

  pub told_few : length own_after.held ≤ own_after.capacity
  told_few = subst (λ (o : cache.Own). length o.held ≤ o.capacity) (sym tells.own_is) (omega arith)

-- a fallen client's departure and acquire are answered like its serve
module _ (hub : HubView) (own : cache.Own) (fallen : FallenView) (fell : fallen_in hub own.client ≡ Some fallen) (after : HubView) (own_after : cache.Own)
    (answer : Served) (turn : IsTurn serve answer hub own after own_after) where
  fell_so : (shared : Shared) → Shows shared hub → fallen_at shared own.client ≡ Some (fallen_of hub.trail fallen)
  fell_so shared shows = fall_shown shared hub shows own.client ∙ ap (option_map (fallen_of hub.trail)) fell

  pub told_depart : IsTurn depart answer hub own after own_after
  told_depart = record {
    replies = λ shared shows. turn.replies shared shows ∙ ap (λ t. t.reply) (same shared shows);
    shows = λ shared shows. subst (λ t. Shows t.shared after) (same shared shows) (turn.shows shared shows);
    owns = λ shared shows. turn.owns shared shows ∙ ap (λ t. t.own) (same shared shows);
  }
    where
      same : (shared : Shared) → Shows shared hub → serve shared (own_of own) ≡ depart shared (own_of own)
      same shared shows = ap (served_by shared (own_of own)) (fell_so shared shows) ∙ sym (ap (departed_by shared (own_of own)) (fell_so shared shows))

-- what an acquire answers where a serve answers this
abbrev as_reply : Served → Reply
as_reply served.Ok = reply.Granted
as_reply (served.RolledBack mark recorded unrecorded) = reply.RolledBack mark recorded unrecorded

module _ (hub : HubView) (own : cache.Own) (fallen : FallenView) (fell : fallen_in hub own.client ≡ Some fallen) (after : HubView) (own_after : cache.Own)
    (mark recorded unrecorded : ℕ) (turn : IsTurn serve (served.RolledBack mark recorded unrecorded) hub own after own_after) (wants : List Want) (calls : ℕ) where
  pub told_acquire : IsTurn (λ shared own. acquire shared own wants calls) (reply.RolledBack mark recorded unrecorded) hub own after own_after
  told_acquire = record {
    replies = λ shared shows.
        ap as_reply (turn.replies shared shows) ∙ ap (λ f. as_reply (served_by shared (own_of own) f).reply) (fell_too shared shows)
        ∙ sym (ap (λ f. (acquired_by shared (own_of own) wants calls f).reply) (fell_too shared shows));
    shows = λ shared shows.
        subst (λ s. Shows s after)
        (ap (λ f. (served_by shared (own_of own) f).shared) (fell_too shared shows) ∙ sym (ap (λ f. (acquired_by shared (own_of own) wants calls f).shared) (fell_too shared shows)))
        (turn.shows shared shows);
    owns = λ shared shows.
        turn.owns shared shows ∙ ap (λ f. (served_by shared (own_of own) f).own) (fell_too shared shows)
        ∙ sym (ap (λ f. (acquired_by shared (own_of own) wants calls f).own) (fell_too shared shows));
  }
    where
      fell_too : (shared : Shared) → Shows shared hub → fallen_at shared own.client ≡ Some (fallen_of hub.trail fallen)
      fell_too shared shows = fall_shown shared hub shows own.client ∙ ap (option_map (fallen_of hub.trail)) fell
