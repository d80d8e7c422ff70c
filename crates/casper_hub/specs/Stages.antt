use Rattle.std.specs.Prelude.{◌≡◌, ◌≢◌, ℕ, ◌-◌, List, [], ◌++◌, ◌==◌, length, slice_set, take, ◌≤◌, Option, None, Some, cond, map}
use Rattle.casper_words.specs.Crew.{IsClient}
use Rattle.casper_words.specs.declared.page.Right.TheVariants as may
use Rattle.casper_words.specs.declared.page.Want.{Want}
use Rattle.casper_trail.specs.Parts.{as_items}
use Rattle.casper_trail.specs.Calls.{entries_by}
use Rattle.casper_dir.specs.Rights.{right_at}
use Rattle.casper_cache.specs.Own as cache
use Rattle.casper_cache.specs.Holding.{right_of, with_right}
use Rattle.casper_model.specs.Acquire.{touches_by}
use Rattle.casper_model.specs.Opening.{gathering_of}
use Rattle.casper_model.specs.Shared.{Shared}
use Rattle.casper_model.specs.Stabilisation.{Stabilisation, handed_in_by, without}
use Rattle.casper_hub.specs.HubView.{HubView, PagesView, client_in, page_count, free_in, begun_with, with_cap, with_asks}
use Rattle.casper_hub.specs.Given.{GivesUp, right_kept, lowered_right, topped}
use Rattle.casper_hub.specs.Installing.{with_pages, all_granted, all_raised, all_fronted}
use Rattle.casper_hub.specs.Deciding.{missing_in, blockers_in, unframed_in}

-- What the parts of a turn leave, one after another.

-- a turn began, and met the asks of the others: the pending calls are recorded, the cap is topped up, no outcome is kept, and pages
-- are given up
pub record Opens (who : ℕ) (hub : HubView) (own : cache.Own) (after : HubView) (own_after : cache.Own) : Type 0 where
  pub hub_is : after ≡ record hub {
    trail = hub.trail ++ as_items (entries_by who own.pending);
    clients = slice_set hub.clients who (begun_with (topped own (free_in hub)) (client_in hub who));
    pages = after.pages;
  }
  pub own_is : own_after ≡ record own { pending = []; cap = topped own (free_in hub); held = own_after.held }
  pub gives : GivesUp who hub.pages own.held after.pages own_after.held
  pub kept : (page : ℕ) → right_at after.pages.rights who page ≡ right_kept hub.pages hub.clients who page

-- what a hub shows of the machine's shared part without its clients
abbrev pub part_of : HubView → Shared
part_of hub = record { trail = hub.trail; limit = hub.limit; pages = page_count hub; clients = []; stabilisations = hub.stabilisations }

-- the gathering stabilisation that a client is a member of, if there is one
abbrev pub gathering_in : HubView → ℕ → Option Stabilisation
gathering_in hub who = gathering_of (part_of hub) who

-- the stabilisations once a client has handed in to one of them
abbrev pub with_handed_in : ℕ → Stabilisation → List Stabilisation → List Stabilisation
with_handed_in who gathering all = map (λ one. cond (one.lead == gathering.lead) (handed_in_by who one) one) all

-- the pages that a client holds for writing were handed in, and are kept for reading; the stabilisations are then these
pub record HandsInWith (who : ℕ) (stabilisations : List Stabilisation) (hub : HubView) (own : cache.Own) (after : HubView) (own_after : cache.Own) : Type 0 where
  pub hub_is : after ≡ record hub { stabilisations = stabilisations; pages = after.pages }
  pub own_is : own_after ≡ record own { held = map (with_right may.Read) own.held }
  pub gives : GivesUp who hub.pages own.held after.pages own_after.held
  pub rights : (page : ℕ) → right_at after.pages.rights who page ≡ lowered_right (right_at hub.pages.rights who page)

-- they were handed in to a gathering stabilisation
abbrev pub HandsInTo : ℕ → Stabilisation → HubView → cache.Own → HubView → cache.Own → Type 0
HandsInTo who gathering hub own after own_after = HandsInWith who (with_handed_in who gathering hub.stabilisations) hub own after own_after

-- they were, where there is one
abbrev pub HandsIn : ℕ → Option Stabilisation → HubView → cache.Own → HubView → cache.Own → Type 0
HandsIn who None hub own after own_after = (after ≡ hub) × (own_after ≡ own)
HandsIn who (Some gathering) hub own after own_after = HandsInTo who gathering hub own after own_after

-- a turn opened: it began and met the asks of the others, and handed in where the client's association is gathering
pub record OpensTurn (who : ℕ) (hub : HubView) (own : cache.Own) (after : HubView) (own_after : cache.Own) : Type 0 where
  pub met : HubView
  pub met_own : cache.Own
  pub opens : Opens who hub own met met_own
  pub hands : HandsIn who (gathering_in met who) met met_own after own_after

-- and the asks of the client were replaced
pub record Refuses (who : ℕ) (asks : List Want) (hub : HubView) (own : cache.Own) (after : HubView) (own_after : cache.Own) : Type 0 where
  pub opened : HubView
  pub opens : OpensTurn who hub own opened own_after
  pub hub_is : after ≡ record opened { clients = slice_set opened.clients who (with_asks asks (client_in opened who)) }

-- the stabilisations once a client waits for no outcome
abbrev pub without_asker : ℕ → List Stabilisation → List Stabilisation
without_asker who all = map {A = Stabilisation} (λ one. record one { askers = without who one.askers }) all

-- every page was given up and the client is absent, so that it waits for no outcome
pub record Leaves (who : ℕ) (hub : HubView) (own : cache.Own) (after : HubView) (own_after : cache.Own) : Type 0 where
  pub opened : HubView
  pub opened_own : cache.Own
  pub opens : OpensTurn who hub own opened opened_own
  pub gives : GivesUp who opened.pages opened_own.held after.pages []
  pub none : (page : ℕ) → right_at after.pages.rights who page ≡ None
  pub hub_is : after ≡ record opened {
    clients = slice_set opened.clients who None;
    stabilisations = without_asker who opened.stabilisations;
    pages = after.pages;
  }
  pub own_is : own_after ≡ record opened_own { held = []; cap = 0 }

-- an acquire can be granted: these are the wants that will be missing, nobody stands in the way, there is room for the touches, and
-- the server has a frame of each missing page
pub record CanGrant (who : ℕ) (hub : HubView) (own : cache.Own) (wants missing : List Want) : Type 0 where
  pub missing_is : missing ≡ missing_in hub.pages hub.clients who wants
  pub unblocked : blockers_in hub.pages hub.clients who missing ≡ []
  pub room : length missing ≤ topped own (free_in hub)
  pub framed : unframed_in hub.pages missing ≡ None

-- an acquire was granted: the missing pages were installed, the turn opened, the rights were given and touched, the wanted pages were
-- brought to the front, and the pages that were used longest ago were given up
pub record Grants (who : ℕ) (wants missing : List Want) (hub : HubView) (own : cache.Own) (after : HubView) (own_after : cache.Own) : Type 0 where
  pub opened : HubView
  pub opened_own : cache.Own
  pub opens : Opens who hub (record own { held = with_pages hub.pages own.held missing }) opened opened_own
  pub granted : PagesView
  pub granted_frames : granted.frames ≡ opened.pages.frames
  pub granted_count : length granted.rights ≡ length opened.pages.rights
  pub granted_rights : (page : ℕ) → right_at granted.rights who page ≡ all_granted page (right_at opened.pages.rights who page) missing
  pub granted_others : (client page : ℕ) → IsClient client → client ≢ who → right_at granted.rights client page ≡ right_at opened.pages.rights client page
  pub gives : GivesUp who granted (all_fronted (all_raised opened_own.held missing) wants) after.pages own_after.held
  pub all : (page : ℕ) → right_at after.pages.rights who page ≡ right_of page own_after.held
  pub hub_is : after ≡ record opened {
    trail = opened.trail ++ as_items (touches_by who missing);
    clients = slice_set opened.clients who (with_asks [] (with_cap (opened_own.cap - length missing) (client_in opened who)));
    pages = after.pages;
  }
  pub own_is : own_after ≡ record opened_own {
    cap = opened_own.cap - length missing;
    held = take own.capacity (all_fronted (all_raised opened_own.held missing) wants);
  }
