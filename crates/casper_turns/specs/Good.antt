use Rattle.std.specs.Prelude.{◌≡◌, ◌≤◌, ℕ, List, [], length, true, None, Some, Contains}
use Rattle.casper_words.specs.Crew.{IsClient}
use Rattle.casper_words.specs.declared.call.Call.{Call}
use Rattle.casper_words.specs.declared.page.Right.TheVariants as may
use Rattle.casper_trail.specs.declared.item.Item.{Item}
use Rattle.casper_trail.specs.GrowthLaws.{WritersAreWith}
use Rattle.casper_model.specs.Client.{Client, Fallen}
use Rattle.casper_model.specs.ExactHistory.{IsExact}
use Rattle.casper_model.specs.FallLaw.{EachFallenIsMarked}
use Rattle.casper_model.specs.Held.{allows}
use Rattle.casper_model.specs.LegalHistory.{CallIsHeld}
use Rattle.casper_model.specs.Own.{Own}
use Rattle.casper_model.specs.Rights.{OneWriterOrReaders, Agrees}
use Rattle.casper_model.specs.Room.{most_cap}
use Rattle.casper_model.specs.RoomLaw.{IsWithin}
use Rattle.casper_model.specs.Shared.{Shared, client_at, rights_at, fallen_at}
use Rattle.casper_turns.specs.Frozen.{AreFrozen}
use Rattle.casper_turns.specs.Noted.{NotedAreMembers, NotedAreUp}

-- the open writes of a page are of the association of each client that may read it
abbrev pub WritersAreWithHolders : Shared → Type 0
WritersAreWithHolders shared =
    (who page : ℕ) → allows (rights_at shared who) page may.Read ≡ true → WritersAreWith shared.trail page who

-- a fallen client has no right and no ask
abbrev pub FallenHaveNothing : Shared → Type 0
FallenHaveNothing shared =
    (who : ℕ) (client : Client) (fallen : Fallen) → client_at shared who ≡ Some client → client.fallen ≡ Some fallen
    → (client.rights ≡ []) × (client.asks ≡ [])

-- no client is promised more than the most
abbrev pub CapsAreFew : Shared → Type 0
CapsAreFew shared = (who : ℕ) (client : Client) → client_at shared who ≡ Some client → client.cap ≤ most_cap

-- what is good of a shared part alone: there is a place for each number and nobody has the number 0, each page has one
-- writer or many readers, marks are exact and entries of clients, a holder of a modified page is with its writers, a fallen
-- client has nothing and its mark stands in the trail, stabilisations are apart and their members silent, a noted loss is
-- of a member that has not fallen, the entries and caps are within the limit, and each cap is at most 4,100
pub record IsGoodShared (shared : Shared) : Type 0 where
  pub places : length shared.clients ≡ 33
  pub nobody : client_at shared 0 ≡ None
  pub exclusive : OneWriterOrReaders shared
  pub exact : IsExact shared.trail
  pub writers : WritersAreWithHolders shared
  pub bare : FallenHaveNothing shared
  pub marked : EachFallenIsMarked shared
  pub frozen : AreFrozen shared
  pub noted : NotedAreMembers shared
  pub unfallen : NotedAreUp shared
  pub within : IsWithin shared
  pub caps : CapsAreFew shared

-- what is good of a shared part with one client's own part: what is known to all of the client is what it has itself, its
-- pending calls are within its cap and at most 4,096, its cap is at most 4,100, and unless it is fallen it has the right that each of them needs
pub record IsGoodWith (shared : Shared) (own : Own) : Type 0 where
  pub client : IsClient own.who
  pub agrees : Agrees (client_at shared own.who) own
  pub room : length own.pending ≤ own.cap
  pub few : length own.pending ≤ 4096
  pub most : own.cap ≤ most_cap
  pub calls : fallen_at shared own.who ≡ None → (call : Call) → Contains own.pending call → CallIsHeld own.held call

-- what lets a client record its calls, where it is not fallen: it has the right that each pending call needs, and the open
-- writes of each page that it holds are of its association
pub record MayRecord (trail : List Item) (own : Own) : Type 0 where
  pub held : (call : Call) → Contains own.pending call → CallIsHeld own.held call
  pub writers : (page : ℕ) → allows own.held page may.Read ≡ true → WritersAreWith trail page own.who
