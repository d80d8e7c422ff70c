use Rattle.std.specs.Prelude.{◌≡◌, ℕ, ◌==◌, List, [], ◌∷◌, ◌++◌, ◌&&◌, length, map, cond, Option, None, Some, option_and_then}
use Rattle.casper_words.specs.Crew.{crew_of, has_member}
use Rattle.casper_trail.specs.declared.item.Item.{Item}
use Rattle.casper_trail.specs.Association.{association_of}
use Rattle.casper_dir.specs.Rights.{writes_some}
use Rattle.casper_cache.specs.Own as cache
use Rattle.casper_model.specs.declared.outcome.Kept.{Kept}
use Rattle.casper_model.specs.declared.reply.StabReply.{StabReply}
use Rattle.casper_model.specs.Frozen.{pages_modified_by, stabilisation_of as machine_stabilisation_of}
use Rattle.casper_model.specs.Stabilisation.{Stabilisation}
use Rattle.casper_model.specs.Stabilise.{reply_awaiting, reply_in_phase, reply_of_kept, with_asker}
use Rattle.casper_gather.specs.Bookkeeping.{begun_by}
use Rattle.casper_hub.specs.HubView.{HubView, ClientView, PagesView}
use Rattle.casper_hub.specs.Stages.{HandsInWith, part_of}

-- What a stabilising turn leaves once it has opened.

-- the outcome that is kept for the client of a place
abbrev pub kept_of : Option ClientView → Option Kept
kept_of place = option_and_then (λ client. client.kept) place

-- the members of a client's association that hold a page for writing
abbrev pub awaited_in : List Item → PagesView → ℕ → List ℕ
awaited_in trail pages who = crew_of (λ member. has_member member (association_of trail who) && writes_some pages.rights member)

-- how many pages the association of a client has modified
abbrev pub modified_in : List Item → ℕ → ℕ
modified_in trail who = length (pages_modified_by trail (association_of trail who))

-- the stabilisations once a client waits for the outcome of one of them
abbrev pub with_asked : ℕ → Stabilisation → List Stabilisation → List Stabilisation
with_asked who one all = map (λ other. cond (other.lead == one.lead) (with_asker who other) other) all

-- the client waits for the outcome of this one, and is told how far it is
pub record Asks (who : ℕ) (one : Stabilisation) (reply : StabReply) (hub : HubView) (own : cache.Own) (after : HubView) (own_after : cache.Own) : Type 0 where
  pub replies : reply ≡ reply_in_phase one one.phase
  pub hub_is : after ≡ record hub { stabilisations = with_asked who one hub.stabilisations }
  pub own_is : own_after ≡ own

-- the client handed in its pages, and leads a stabilisation of its association, which is the last one
pub record Freezes (who : ℕ) (reply : StabReply) (hub : HubView) (own : cache.Own) (after : HubView) (own_after : cache.Own) : Type 0 where
  pub replies : reply ≡ reply_awaiting (awaited_in hub.trail after.pages who) (modified_in hub.trail who)
  pub hands : HandsInWith who (hub.stabilisations ++ begun_by who (awaited_in hub.trail after.pages who) ∷ []) hub own after own_after

-- by the stabilisation that the client is a member of
abbrev pub AsksOrFreezes : ℕ → Option Stabilisation → StabReply → HubView → cache.Own → HubView → cache.Own → Type 0
AsksOrFreezes who None reply hub own after own_after = Freezes who reply hub own after own_after
AsksOrFreezes who (Some one) reply hub own after own_after = Asks who one reply hub own after own_after

-- the stabilisation that a client is a member of, if there is one
abbrev pub stabilisation_in : HubView → ℕ → Option Stabilisation
stabilisation_in hub who = machine_stabilisation_of (part_of hub) who

-- by the outcome that was kept: it is told, and else the client asks or freezes
abbrev pub Stabilises : ℕ → Option Kept → StabReply → HubView → cache.Own → HubView → cache.Own → Type 0
Stabilises who None reply hub own after own_after = AsksOrFreezes who (stabilisation_in hub who) reply hub own after own_after
Stabilises who (Some outcome) reply hub own after own_after = (reply ≡ reply_of_kept outcome) × (after ≡ hub) × (own_after ≡ own)
