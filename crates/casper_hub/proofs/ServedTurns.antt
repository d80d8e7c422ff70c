use Rattle.std.proofs.Common.{◌≡◌, ◌<◌, ℕ, List, [], ◌++◌, length, get_or-set_same, get_or-set_other, refl, sym, ap, ◌∙◌, subst, arith}
use Rattle.std.specs.Prelude.{None, Some, option_map}
use Rattle.casper_trail.specs.Parts.{as_items}
use Rattle.casper_trail.specs.Calls.{entries_by}
use Rattle.casper_dir.specs.Rights.{right_at}
use Rattle.casper_cache.specs.declared.held.Held.{Held}
use Rattle.casper_cache.specs.Own as cache
use Rattle.casper_model.specs.declared.reply.Served.{Served}
use Rattle.casper_model.specs.declared.reply.Served.TheVariants as served
use Rattle.casper_model.specs.Held.{allows}
use Rattle.casper_words.specs.declared.page.Right.{Right}
use Rattle.casper_model.specs.Client.{Client}
use Rattle.casper_model.specs.Shared.{Shared, client_at, rights_at, of_client}
use Rattle.casper_turns.specs.Good.{IsGoodShared, IsGoodWith}
use Rattle.casper_turns.specs.Kept.{KeptByTurn}
use Rattle.casper_turns.specs.StageLaws.{IsStage, IsUnderWay}
use Rattle.casper_turns.proofs.StageTurns.{each_stage_keeps, each_stage_goes_on, kept_both}
use Rattle.casper_model.specs.Own.{Own}
use Rattle.casper_model.specs.Opening.{begun, given_up}
use Rattle.casper_model.specs.Both.{Both, Turned, turned}
use Rattle.casper_hub.specs.HubView.{HubView, client_in, free_in, right_in, begun_with}
use Rattle.casper_hub.specs.Shows.{permits, fallen_of, Shows, ShowsClient}
use Rattle.casper_hub.specs.Owned.{wants_of, own_of}
use Rattle.casper_hub.specs.Given.{right_kept, topped}
use Rattle.casper_hub.specs.Stages.{Opens}
use Rattle.casper_hub.specs.Turns.{IsTurn}
use Rattle.casper_hub.specs.Sound.{IsWellFormed}
use Rattle.casper_hub.proofs.Whole.{Whole, Owning, whole, fallen_shown}
use Rattle.casper_hub.proofs.Showing.{allows_right, liveness_shown}
use Rattle.casper_hub.proofs.Standing.{Live, live_shown}
use Rattle.casper_hub.proofs.OpenedTurns.{kept_held, right_kept_held, distinct_kept_held, own_met, client_met, others_met, places_met, kept_same}
use Rattle.casper_hub.proofs.ShownAfter.{shows_after}
use Rattle.casper_hub.proofs.StandsFor.{good_with}
use Rattle.casper_hub.proofs.Transport.{stands_behind}

-- a client that is live has a place among those of its hub
pub place_within : (hub : HubView) (own : cache.Own) → Whole hub → Owning hub own → own.client < length hub.clients
place_within hub own sound owns = omega (arith, owns.client.1, sound.places)

-- the own part after an opening of a cache that its hub owns
pub own_after_opening : (hub : HubView) (own : cache.Own) (after : HubView) (own_after : cache.Own) → Whole hub → Owning hub own → Opens own.client hub own after own_after
    → own_of own_after ≡ record (own_of own) { cap = topped own (free_in hub); held = wants_of (kept_held hub own); pending = [] }
own_after_opening hub own after own_after sound owns opens =
    ap own_of opens.own_is
    ∙ ap (λ held. record (own_of own) { cap = topped own (free_in hub); held = wants_of held; pending = [] })
    (opens.gives.held_is ∙ kept_same (right_in hub own.client) (right_at after.pages.rights own.client) (right_kept hub.pages hub.clients own.client) opens.kept own.held)

-- a hub that began a turn and met the asks stands for the machine that did, also where the cache held further pages
pub met_shows : (shared : Shared) (hub : HubView) (own : cache.Own) (held : List Held) (after : HubView) (own_after : cache.Own) → Shows shared hub → Whole hub → Owning hub own
    → Opens own.client hub (record own { held = held }) after own_after → Shows (given_up (begun shared (own_of own))).shared after
met_shows shared hub own held after own_after shows sound owns opens =
    shows_after own.client shared met.shared hub after shows sound
    (record {
      more = as_items (entries_by own.client own.pending);
      grows = ap (λ (h : HubView). h.trail) opens.hub_is;
      trail = ap (λ trail. trail ++ as_items (entries_by own.client own.pending)) shows.trail ∙ sym (ap (λ (h : HubView). h.trail) opens.hub_is);
      limit = refl;
      limit_too = ap (λ (h : HubView). h.limit) opens.hub_is;
      pages = refl;
      pages_too = opens.gives.rights_count;
      stabilisations = shows.stabilisations ∙ sym (ap (λ (h : HubView). h.stabilisations) opens.hub_is);
      places = places_met shared (own_of own);
      clients = λ other apart. others_met shared (own_of own) other apart;
      clients_too = λ other apart. ap (λ (h : HubView). client_in h other) opens.hub_is ∙ get_or-set_other hub.clients own.client other (begun_with (topped own (free_in hub)) (client_in hub own.client)) None apart;
      holders = opens.gives.holders;
      rights = λ other page is apart. opens.gives.others other page is apart;
    })
    acting acting_rights
  where
    met : Both
    met = given_up (begun shared (own_of own))

    live : Live shared hub own.client
    live = live_shown shared hub own.client shows sound owns.live owns.up

    machine_own : met.own ≡ record (own_of own) { cap = topped own (free_in hub); held = wants_of (kept_held hub own); pending = [] }
    machine_own = own_met shared hub own shows sound owns

    there : client_at met.shared own.client ≡ Some (record (live.client) { cap = met.own.cap; rights = met.own.held; kept = None })
    there = client_met shared (own_of own) live.client live.at

    here : client_in after own.client ≡ Some (record (live.shown) { cap = topped own (free_in hub); kept = None })
    here =
        ap (λ (h : HubView). client_in h own.client) opens.hub_is
        ∙ get_or-set_same hub.clients own.client (begun_with (topped own (free_in hub)) (client_in hub own.client)) None (place_within hub own sound owns)
        ∙ ap (begun_with (topped own (free_in hub))) live.is

    acting : ShowsClient after.trail (client_at met.shared own.client) (client_in after own.client)
    acting =
        subst (λ place. ShowsClient after.trail place (client_in after own.client)) (sym there)
        (subst (λ shown. ShowsClient after.trail (Some (record (live.client) { cap = met.own.cap; rights = met.own.held; kept = None })) shown) (sym here)
        (record {
          cap = ap (λ (o : Own). o.cap) machine_own;
          asks = live.shows.asks;
          kept = refl;
          fallen = live.shows.fallen ∙ ap (option_map (fallen_of hub.trail)) live.up ∙ sym (ap (option_map (fallen_of after.trail)) live.up);
        }))

    acting_rights : (page : ℕ) (right : Right) → allows (rights_at met.shared own.client) page right ≡ permits (right_at after.pages.rights own.client page) right
    acting_rights page right =
        ap (λ place. allows (of_client [] (λ (client : Client). client.rights) place) page right) there
        ∙ ap (λ (o : Own). allows o.held page right) machine_own ∙ allows_right (kept_held hub own) (distinct_kept_held hub own owns) page right
        ∙ ap (λ one. permits one right) (right_kept_held hub own sound owns page ∙ sym (opens.kept page))

-- the machine's turn as far as it then is
abbrev pub meeting : Shared → Own → Turned Served
meeting shared own = turned served.Ok (given_up (begun shared own))

-- it keeps what a turn keeps
pub kept_meeting : (hub : HubView) (own : cache.Own) → Owning hub own → (shared : Shared) → Shows shared hub → IsGoodShared shared
    → KeptByTurn shared (own_of own) (meeting shared (own_of own)).shared (meeting shared (own_of own)).own
kept_meeting hub own owns shared shows good =
    kept_both shared (own_of own) first.shared first.own (given_up first).shared (given_up first).own
    kept (each_stage_keeps first.shared first.own (given_up first).shared (given_up first).own (IsStage.giving_up way) kept.good kept.mine).0
  where
    first : Both
    first = begun shared (own_of own)

    mine : IsGoodWith shared (own_of own)
    mine = good_with hub (own_of own) owns.owned.good shared shows good

    stage : IsStage shared (own_of own) first.shared first.own
    stage = IsStage.beginning (liveness_shown shared hub shows own.client ∙ owns.live) (fallen_shown shared hub own shows owns)

    kept : KeptByTurn shared (own_of own) first.shared first.own
    kept = (each_stage_keeps shared (own_of own) first.shared first.own stage good mine).0

    way : IsUnderWay first.shared first.own
    way = each_stage_goes_on shared (own_of own) first.shared first.own stage good mine

-- so the hub stands for a shared part that is good
pub met_whole : (hub : HubView) (own : cache.Own) (held : List Held) (after : HubView) (own_after : cache.Own) → Whole hub → Owning hub own
    → Opens own.client hub (record own { held = held }) after own_after → IsWellFormed after → Whole after
met_whole hub own held after own_after sound owns opens formed =
    whole after
    (record {
      formed = formed;
      stands = stands_behind meeting hub own after (λ shared shows. met_shows shared hub own held after own_after shows sound owns opens)
          (kept_meeting hub own owns) sound.sound.stands;
    })

-- and the cache for the machine's own part
pub met_turn : (hub : HubView) (own : cache.Own) (after : HubView) (own_after : cache.Own) → Whole hub → Owning hub own → Opens own.client hub own after own_after
    → IsTurn meeting served.Ok hub own after own_after
met_turn hub own after own_after sound owns opens = record {
  replies = λ shared shows. refl;
  shows = λ shared shows. met_shows shared hub own own.held after own_after shows sound owns opens;
  owns = λ shared shows. own_after_opening hub own after own_after sound owns opens ∙ sym (own_met shared hub own shows sound owns);
}
