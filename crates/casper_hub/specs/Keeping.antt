use Rattle.std.specs.Prelude.{◌≡◌, ◌<◌, ◌≤◌, ◌+◌, ℕ, List, Option, length, Contains}
use Rattle.casper_words.specs.declared.call.Call.{Call}
use Rattle.casper_trail.specs.declared.item.Item.{Item}
use Rattle.casper_trail.specs.TrailView.{TrailView}
use Rattle.casper_assoc.specs.TrailAssociations.{AssociationsView, AreAssociationsOf, CallsAreWithWriters, pages_in}
use Rattle.casper_gather.specs.declared.stab.Stab.{Stab}
use Rattle.casper_hub.specs.HubView.{ClientView, PagesView, count_up}

-- what the server keeps beside what contracts see of it: the associations of the trail, and room in the trail for a rollback mark for
-- each live client that has not fallen and for the last mark of each stabilisation, so that neither a loss nor a finish takes memory
pub record IsKeptUp (recorded : TrailView) (most : ℕ) (kept : AssociationsView) (clients : List (Option ClientView)) (unended : List Stab) (held : PagesView) : Type 0 where
  pub limit : recorded.limit ≡ most
  pub associations : AreAssociationsOf kept recorded.items
  pub pages : pages_in kept ≡ length held.rights
  pub room : count_up clients + length unended ≤ recorded.room

-- calls of a client that may be recorded: each is on a page of the store, the open writes of which are of the client's association
pub record MayBeRecorded (items : List Item) (pages : PagesView) (who : ℕ) (calls : List Call) : Type 0 where
  pub within : (call : Call) → Contains calls call → call.page < length pages.rights
  pub writers : CallsAreWithWriters items who calls
