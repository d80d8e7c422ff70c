use Rattle.std.specs.Prelude.{◌≡◌, ℕ, List, Bool, false, Option, None, Some, length, option_map, ⊤}
use Rattle.casper_words.specs.declared.page.Right.{Right}
use Rattle.casper_trail.specs.declared.item.Item.{Item}
use Rattle.casper_trail.specs.Parts.{live_entries}
use Rattle.casper_model.specs.Held.{covers, allows}
use Rattle.casper_model.specs.Client.{Client, Fallen}
use Rattle.casper_model.specs.Shared.{Shared, client_at, rights_at}
use Rattle.casper_hub.specs.HubView.{HubView, ClientView, FallenView, client_in, items_behind, page_count, right_in}

-- whether a right to a page, where there is one, allows what is wanted
abbrev pub permits : Option Right → Right → Bool
permits None wanted = false
permits (Some right) wanted = covers right wanted

-- a fallen client as the machine has it: it goes on to see the live entries as it fell
abbrev pub fallen_of : List Item → FallenView → Fallen
fallen_of trail fallen = record { mark = fallen.mark; dropped = fallen.dropped; seen = live_entries (items_behind trail (Some fallen)) }

-- the machine's account of a live client is what the server knows of it
pub record ShowsLive (trail : List Item) (client : Client) (shown : ClientView) : Type 0 where
  pub cap : client.cap ≡ shown.cap
  pub asks : client.asks ≡ shown.asks
  pub kept : client.kept ≡ shown.kept
  pub fallen : client.fallen ≡ option_map (fallen_of trail) shown.fallen

abbrev pub ShowsClient : List Item → Option Client → Option ClientView → Type 0
ShowsClient trail None None = ⊤
ShowsClient trail None (Some shown) = ⊥
ShowsClient trail (Some client) None = ⊥
ShowsClient trail (Some client) (Some shown) = ShowsLive trail client shown

-- a hub stands for the shared part of the machine. Of the rights of a client the order is left open, and an absent one has none
pub record Shows (shared : Shared) (hub : HubView) : Type 0 where
  pub trail : shared.trail ≡ hub.trail
  pub limit : shared.limit ≡ hub.limit
  pub pages : shared.pages ≡ page_count hub
  pub places : length shared.clients ≡ 33
  pub stabilisations : shared.stabilisations ≡ hub.stabilisations
  pub clients : (who : ℕ) → ShowsClient hub.trail (client_at shared who) (client_in hub who)
  pub rights : (who page : ℕ) (right : Right) → allows (rights_at shared who) page right ≡ permits (right_in hub who page) right
