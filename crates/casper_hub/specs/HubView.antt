use Rattle.std.specs.Prelude.{ℕ, List, [], Bool, false, Option, None, Some, is_some, is_none, length, option_map, slice_index_or, sum_by, count_by, take, ◌-◌, option_and_then}
use Rattle.std.specs.Option.{option_map_or}
use Rattle.casper_words.specs.declared.page.Want.{Want}
use Rattle.casper_words.specs.declared.page.Right.{Right}
use Rattle.casper_trail.specs.declared.item.Item.{Item}
use Rattle.casper_trail.specs.TrailView.{entry_count}
use Rattle.casper_dir.specs.declared.holders.Holders.{Holders}
use Rattle.casper_dir.specs.Rights.{right_at}
use Rattle.casper_model.specs.declared.outcome.Kept.{Kept}
use Rattle.casper_model.specs.Stabilisation.{Stabilisation}

-- a client that was rolled back and has not been told: the place of the mark, and how many of its recorded reads and
-- writes the mark dropped
pub record FallenView : Type 0 where
  pub mark : ℕ
  pub dropped : ℕ

-- what the server knows of a live client: how many more entries may be recorded for it, the wants of its last acquire that
-- were blocked, the outcome that is kept for it, and whether it is fallen
pub record ClientView : Type 0 where
  pub cap : ℕ
  pub asks : List Want
  pub kept : Option Kept
  pub fallen : Option FallenView

-- the pages: who holds each, and the words of those of which the server has a frame
pub record PagesView : Type 0 where
  pub rights : List Holders
  pub frames : List (Option (List ℕ))

-- what contracts see of a hub: the trail, how many entries it may have, the live clients, each at the place of its number, the
-- stabilisations, and the pages
pub record HubView : Type 0 where
  pub trail : List Item
  pub limit : ℕ
  pub clients : List (Option ClientView)
  pub stabilisations : List Stabilisation
  pub pages : PagesView

-- a client as it joins
abbrev pub new_client_view : ℕ → ClientView
new_client_view cap = record { cap = cap; asks = []; kept = None; fallen = None }

-- a client among the places, if it is live
abbrev pub place_in : List (Option ClientView) → ℕ → Option ClientView
place_in clients who = slice_index_or clients who None

-- how many more entries may be recorded for the client of a place, and its asks
abbrev pub cap_of : Option ClientView → ℕ
cap_of place = option_map_or (λ client. client.cap) place 0

abbrev pub asks_of : Option ClientView → List Want
asks_of place = option_map_or (λ client. client.asks) place []

-- the fall of the client of a place, if it is fallen
abbrev pub fall_of : Option ClientView → Option FallenView
fall_of place = option_and_then (λ client. client.fallen) place

-- a place whose client, if it is live, has this cap, or these asks
abbrev pub with_cap : ℕ → Option ClientView → Option ClientView
with_cap cap place = option_map {T = ClientView} (λ client. record client { cap = cap }) place

-- a place as a turn of its client begins, if it is live: with this cap, and no outcome is kept any more
abbrev pub begun_with : ℕ → Option ClientView → Option ClientView
begun_with cap place = option_map {T = ClientView} (λ client. record client { cap = cap; kept = None }) place

-- a place whose client, if it is live, has this outcome kept for it
abbrev pub with_kept : Kept → Option ClientView → Option ClientView
with_kept outcome place = option_map {T = ClientView} (λ client. record client { kept = Some outcome }) place

abbrev pub with_asks : List Want → Option ClientView → Option ClientView
with_asks asks place = option_map {T = ClientView} (λ client. record client { asks = asks }) place

-- a place whose client, if it is live, was told of its fall: no outcome is kept any more; or falls: then its asks are taken away
abbrev pub risen : Option ClientView → Option ClientView
risen place = option_map {T = ClientView} (λ client. record client { kept = None; fallen = None }) place

abbrev pub felled : FallenView → Option ClientView → Option ClientView
felled fallen place = option_map {T = ClientView} (λ client. record client { asks = []; fallen = Some fallen }) place

-- whether the client of a place is live and not fallen, and how many are
abbrev pub is_up : Option ClientView → Bool
is_up None = false
is_up (Some client) = is_none client.fallen

abbrev pub count_up : List (Option ClientView) → ℕ
count_up clients = count_by is_up clients

-- how many entries are promised to all clients together
abbrev pub caps_of : List (Option ClientView) → ℕ
caps_of clients = sum_by cap_of clients

-- the words of the frame that the server has of a page
abbrev pub frame_in : PagesView → ℕ → Option (List ℕ)
frame_in pages page = slice_index_or pages.frames page None

abbrev pub client_in : HubView → ℕ → Option ClientView
client_in hub who = place_in hub.clients who

abbrev pub is_live : HubView → ℕ → Bool
is_live hub who = is_some (client_in hub who)

abbrev pub cap_in : HubView → ℕ → ℕ
cap_in hub who = cap_of (client_in hub who)

abbrev pub asks_in : HubView → ℕ → List Want
asks_in hub who = asks_of (client_in hub who)

abbrev pub fallen_in : HubView → ℕ → Option FallenView
fallen_in hub who = fall_of (client_in hub who)

-- the right of a client to a page
abbrev pub right_in : HubView → ℕ → ℕ → Option Right
right_in hub who page = right_at hub.pages.rights who page

-- how many pages the store has
abbrev pub page_count : HubView → ℕ
page_count hub = length hub.pages.rights

-- how many entries may still be promised
abbrev pub free_in : HubView → ℕ
free_in hub = hub.limit - entry_count hub.trail - caps_of hub.clients

-- the items that a client has seen: all, or where it is fallen those before its mark
abbrev pub items_behind : List Item → Option FallenView → List Item
items_behind trail None = trail
items_behind trail (Some fallen) = take fallen.mark trail

abbrev pub items_seen : HubView → ℕ → List Item
items_seen hub who = items_behind hub.trail (fallen_in hub who)
