use Rattle.std.specs.Prelude.{◌≡◌, ℕ, ◌<◌, ◌≤◌, Bool, List, Option, None, Some, is_some, IsSome, IsTrue, false}
use Rattle.casper_words.specs.declared.page.Want.{Want}
use Rattle.casper_trail.specs.Modified.{is_modified}
use Rattle.casper_space.specs.Changes.{Change, VaultRoom}
use Rattle.casper_disk.specs.Disk.{Took}
use Rattle.casper_disk.specs.Vault.{Saved, page_at}
use Rattle.casper_cache.specs.Own as cache
use Rattle.casper_model.specs.declared.reply.Reply.{Reply}
use Rattle.casper_model.specs.declared.reply.Reply.TheVariants.{Granted}
use Rattle.casper_model.specs.Shared.{Shared}
use Rattle.casper_model.specs.Acquire.{acquire, missing_once_opened, none_missing}
use Rattle.casper_model.specs.Answers.{of_reply}
use Rattle.casper_model.specs.Run.{is_disk}
use Rattle.casper_hub.specs.HubView.{HubView, frame_in, page_count}
use Rattle.casper_hub.specs.Owned.{own_of}
use Rattle.casper_hub.specs.Shows.{Shows}
use Rattle.casper_hub.specs.Turns.{IsTurn}
use Rattle.casper_hub.specs.Words.{IsStored}
use Rattle.casper_core.specs.CoreView.{told_by}

-- a vault was read and no more: it tells what it told, a stop since then leaves what a stop then might have left, and what each call
-- of it keeps stayed
pub record OnlyReads {V : Type 0} (tells : Bool) (size : V → ℕ) (image : V → List (List ℕ)) (version : V → ℕ) (room : V → Option VaultRoom) (doubt : V → Option (List Change))
    (now : V → Saved → Type 0) (moment : V → ℕ) (since : V → ℕ → Saved → Type 0) (faults : V → ℕ) (leads_to : V → V → Type 0) (before after : V) : Type 0 where
  pub same_size : size after ≡ size before
  pub same_version : version after ≡ version before
  pub same_room : room after ≡ room before
  pub same_doubt : is_some (doubt after) ≡ is_some (doubt before)
  pub told : IsTrue tells → told_by image version room doubt after ≡ told_by image version room doubt before
  pub images : IsTrue tells → Took (moment before) (moment after) (since before) (since after) (now before)
  pub never_falls : faults before ≤ faults after
  pub leads : leads_to before after

-- a vault has its pages, the count of its faults did not fall, and what each call of it keeps stayed
pub record KeepsVault {V : Type 0} (size : V → ℕ) (faults : V → ℕ) (leads_to : V → V → Type 0) (before after : V) : Type 0 where
  pub same_size : size after ≡ size before
  pub never_falls : faults before ≤ faults after
  pub leads : leads_to before after

-- the server got frames of pages and no more
pub record OnlyLoads (hub after : HubView) : Type 0 where
  pub same : after ≡ record hub { pages = record hub.pages { frames = after.pages.frames } }
  pub stays : (page : ℕ) → IsSome (frame_in hub.pages page) → IsSome (frame_in after.pages page)

-- the pages of a vault's image that are not modified have the values over the stable entries
abbrev pub AreStored : List (List ℕ) → HubView → List (List ℕ) → Type 0
AreStored base hub image = (page : ℕ) → page < page_count hub → is_modified hub.trail page ≡ false → IsStored base hub page (page_at image page)

-- an acquire would have been granted with a page missing, and a page could not be read: nothing has changed
pub record LoadFails (hub : HubView) (own : cache.Own) (wants : List Want) (calls : ℕ) (after : HubView) (own_after : cache.Own) : Type 0 where
  pub granted : (shared : Shared) → Shows shared hub → (acquire shared (own_of own) wants calls).reply ≡ Granted
  pub missing : (shared : Shared) → Shows shared hub → none_missing (missing_once_opened shared (own_of own) wants) ≡ false
  pub loads : OnlyLoads hub after
  pub own_same : own_after ≡ own

-- what an acquire comes to once the pages that it needs were loaded, or a load failed
abbrev pub Acquired : HubView → cache.Own → List Want → ℕ → Option Reply → HubView → cache.Own → Type 0
Acquired hub own wants calls None after own_after = LoadFails hub own wants calls after own_after
Acquired hub own wants calls (Some reply) after own_after =
    IsTurn (λ shared own. acquire shared own wants calls) reply hub own after own_after × (is_disk (of_reply reply) ≡ false)
