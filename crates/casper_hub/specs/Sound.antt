use Rattle.std.specs.Prelude.{◌≡◌, ℕ, ◌<◌, ◌^◌, true, Some, Contains, length, IsSome}
use Rattle.casper_words.specs.declared.page.Right.TheVariants as may
use Rattle.casper_words.specs.declared.page.Want.{Want}
use Rattle.casper_trail.specs.Modified.{is_modified}
use Rattle.casper_dir.specs.Rights.{AreAllClients}
use Rattle.casper_model.specs.Shared.{Shared}
use Rattle.casper_turns.specs.Good.{IsGoodShared}
use Rattle.casper_hub.specs.HubView.{HubView, right_in, frame_in, page_count, asks_in}
use Rattle.casper_hub.specs.Shows.{Shows}

-- the parts of a hub fit together: there is a place for each number, each holder of a page is a client, there are as many frames as
-- pages, asks name pages of the store, the server has a frame of each page that somebody holds for writing, and the server has a frame of
-- each page that is modified
pub record IsWellFormed (hub : HubView) : Type 0 where
  pub places : length hub.clients ≡ 33
  pub holders : AreAllClients hub.pages.rights
  pub frames : length hub.pages.frames ≡ page_count hub
  pub short : page_count hub < 2 ^ 32
  pub fits : hub.limit < 2 ^ 32
  pub framed : (who page : ℕ) → right_in hub who page ≡ Some may.Write → IsSome (frame_in hub.pages page)
  pub modified : (page : ℕ) → is_modified hub.trail page ≡ true → IsSome (frame_in hub.pages page)
  pub asked : (who : ℕ) (ask : Want) → Contains (asks_in hub who) ask → ask.page < page_count hub

-- a hub stands for a shared part of the machine that is good
pub record StandsFor (hub : HubView) : Type 0 where
  pub shared : Shared
  pub shows : Shows shared hub
  pub good : IsGoodShared shared

unfoldable pub Stands : HubView → Type 0
Stands hub = StandsFor hub

-- what is true of every hub
pub record IsSound (hub : HubView) : Type 0 where
  pub formed : IsWellFormed hub
  pub stands : Stands hub
