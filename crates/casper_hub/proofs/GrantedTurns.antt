use Rattle.std.proofs.Common.{◌≡◌, ◌<◌, ℕ, ◌+◌, ◌-◌, List, [], ◌++◌, true, false, length, take, length-set, get_or-set_same, get_or-set_other, refl, sym, ap, ap₂, ◌∙◌, subst}
use Rattle.std.specs.Prelude.{None, Some, option_map, nat_lt}
use Rattle.casper_words.specs.declared.page.Want.{Want}
use Rattle.casper_trail.specs.Parts.{as_items}
use Rattle.casper_cache.specs.Own as cache
use Rattle.casper_model.specs.declared.reply.Reply.{Reply}
use Rattle.casper_model.specs.declared.reply.Reply.TheVariants.{Granted}
use Rattle.casper_model.specs.Held.{allows, with_granted}
use Rattle.casper_model.specs.Stabilisation.{is_empty}
use Rattle.casper_model.specs.Client.{Client}
use Rattle.casper_model.specs.Shared.{Shared, client_at, rights_at, of_client}
use Rattle.casper_words.specs.declared.page.Right.{Right}
use Rattle.casper_dir.specs.Rights.{right_at}
use Rattle.casper_model.specs.Own.{Own}
use Rattle.casper_model.specs.Both.{Both, Turned}
use Rattle.casper_model.specs.Opening.{opened, given_in_opening}
use Rattle.casper_model.specs.Acquire as acquiring
use Rattle.casper_model.specs.Acquire.{acquire, granted, touches_by}
use Rattle.casper_model.proofs.Places.{client_changed, client_unchanged}
use Rattle.casper_model.proofs.OpeningRights.{places_changed}
use Rattle.casper_hub.specs.HubView.{HubView, ClientView, client_in, free_in, with_cap, begun_with, with_asks}
use Rattle.casper_hub.specs.Shows.{permits, fallen_of, Shows, ShowsClient}
use Rattle.casper_hub.specs.Owned.{wants_of, own_of}
use Rattle.casper_hub.specs.Given.{topped}
use Rattle.casper_hub.specs.Installing.{with_pages, all_raised, all_fronted}
use Rattle.casper_hub.specs.Deciding.{missing_in, blockers_in}
use Rattle.casper_hub.specs.Stages.{CanGrant, Grants}
use Rattle.casper_hub.specs.Turns.{Acquires, first_unframed}
use Rattle.casper_hub.proofs.Whole.{Whole, Owning}
use Rattle.casper_hub.proofs.Showing.{allows_right}
use Rattle.casper_hub.proofs.Standing.{Live, live_shown}
use Rattle.casper_hub.proofs.OpenedTurns.{kept_held}
use Rattle.casper_hub.proofs.TurnOpened.{own_opened, client_opened, opened_shows}
use Rattle.casper_hub.specs.Stages.{gathering_in, part_of}
use Rattle.casper_frozen.specs.Refused.{refused_at_once}
use Rattle.casper_hub.proofs.ShownAfter.{shows_after}
use Rattle.casper_hub.proofs.ServedTurns.{place_within}
use Rattle.casper_hub.proofs.DepartedTurns.{client_of_opening}
use Rattle.casper_hub.proofs.Blocking.{missing_same}
use Rattle.casper_hub.proofs.AcquiredTurns.{granted_answer}

-- the own part of the machine once it is granted
own_granted : (shared : Shared) (hub : HubView) (own : cache.Own) (wants missing : List Want) → Shows shared hub → Whole hub → Owning hub own → gathering_in hub own.client ≡ None
    → (granted wants missing (acquiring.with_asks [] (opened shared (own_of own)))).own
    ≡ record (own_of own) { cap = topped own (free_in hub) - length missing; held = with_granted own.capacity wants (wants_of (kept_held hub own)); pending = [] }
own_granted shared hub own wants missing shows sound owns apart =
    ap (λ (o : Own). record o { cap = o.cap - length missing; held = with_granted o.capacity wants o.held }) (own_opened shared hub own shows sound owns apart)

-- the places of the hub after the opening of an acquire that is granted
places_granted : (hub : HubView) (own : cache.Own) (wants missing : List Want) (after : HubView) (own_after : cache.Own)
    → (grants : Grants own.client wants missing hub own after own_after) → length grants.opened.clients ≡ length hub.clients
places_granted hub own wants missing after own_after grants = ap (λ (h : HubView). length h.clients) grants.opens.hub_is ∙ length-set hub.clients own.client _

-- the cap of the cache after its opening
cap_granted : (hub : HubView) (own : cache.Own) (wants missing : List Want) (after : HubView) (own_after : cache.Own) → (grants : Grants own.client wants missing hub own after own_after)
    → grants.opened_own.cap ≡ topped own (free_in hub)
cap_granted hub own wants missing after own_after grants = ap (λ (o : cache.Own). o.cap) grants.opens.own_is

-- a hub that granted an acquire stands for the machine that granted it
granted_shows : (shared : Shared) (hub : HubView) (own : cache.Own) (wants missing : List Want) (after : HubView) (own_after : cache.Own) → Shows shared hub → Whole hub → Owning hub own → gathering_in hub own.client ≡ None
    → (grants : Grants own.client wants missing hub own after own_after) → Whole grants.opened → cache.IsSound own_after
    → with_granted own.capacity wants (wants_of (kept_held hub own)) ≡ wants_of own_after.held
    → Shows (granted wants missing (acquiring.with_asks [] (opened shared (own_of own)))).shared after
granted_shows shared hub own wants missing after own_after shows sound owns apart grants sound_opened sound_after held_same =
    shows_after own.client both.shared both_after.shared grants.opened after shows_opened sound_opened
    (record {
      more = as_items (touches_by own.client missing);
      grows = ap (λ (h : HubView). h.trail) grants.hub_is;
      trail = ap₂ (λ trail who. trail ++ as_items (touches_by who missing)) shows_opened.trail who ∙ sym (ap (λ (h : HubView). h.trail) grants.hub_is);
      limit = refl;
      limit_too = ap (λ (h : HubView). h.limit) grants.hub_is;
      pages = refl;
      pages_too = grants.gives.rights_count ∙ grants.granted_count;
      stabilisations = shows_opened.stabilisations ∙ sym (ap (λ (h : HubView). h.stabilisations) grants.hub_is);
      places = places_changed both.own.who agreeing touched ∙ places_changed both.own.who asking both.shared;
      clients = λ other apart.
          client_unchanged both.own.who agreeing touched other (λ is. apart (is ∙ who))
          ∙ client_unchanged both.own.who asking both.shared other (λ is. apart (is ∙ who));
      clients_too = λ other apart.
          ap (λ (h : HubView). client_in h other) grants.hub_is
          ∙ get_or-set_other grants.opened.clients own.client other (with_asks [] (with_cap (grants.opened_own.cap - length missing) (client_in grants.opened own.client))) None apart;
      holders = grants.gives.holders;
      rights = λ other page is apart. grants.gives.others other page is apart ∙ grants.granted_others other page is apart;
    })
    acting acting_rights
  where
    both : Both
    both = opened shared (own_of own)

    both_after : Both
    both_after = granted wants missing (acquiring.with_asks [] both)

    asking : Client → Client
    asking client = record client { asks = [] }

    agreeing : Client → Client
    agreeing client = record client { cap = both_after.own.cap; rights = both_after.own.held }

    touched : Shared
    touched = record ((acquiring.with_asks [] both).shared) { trail = both_after.shared.trail }

    who : both.own.who ≡ own.client
    who = client_of_opening shared (own_of own)

    shows_opened : Shows both.shared grants.opened
    shows_opened = opened_shows shared hub own shows sound owns apart (with_pages hub.pages own.held missing) grants.opened grants.opened_own grants.opens

    live : Live shared hub own.client
    live = live_shown shared hub own.client shows sound owns.live owns.up

    machine_own : both_after.own ≡ record (own_of own) { cap = topped own (free_in hub) - length missing; held = with_granted own.capacity wants (wants_of (kept_held hub own)); pending = [] }
    machine_own = own_granted shared hub own wants missing shows sound owns apart

    opened_client : Client
    opened_client = record (live.client) { cap = both.own.cap; rights = both.own.held; kept = None }

    there : client_at both_after.shared own.client ≡ Some (agreeing (asking opened_client))
    there =
        ap (client_at both_after.shared) (sym who)
        ∙ client_changed both.own.who agreeing touched
        ∙ ap (option_map agreeing) (client_changed both.own.who asking both.shared
        ∙ ap (option_map asking) (ap (client_at both.shared) who ∙ client_opened shared hub own shows sound owns apart live.client live.at))

    within : own.client < length grants.opened.clients
    within = subst (λ count. own.client < count) (sym (places_granted hub own wants missing after own_after grants)) (place_within hub own sound owns)

    opened_here : client_in grants.opened own.client ≡ Some (record (live.shown) { cap = topped own (free_in hub); kept = None })
    opened_here =
        ap (λ (h : HubView). client_in h own.client) grants.opens.hub_is
        ∙ get_or-set_same hub.clients own.client (begun_with (topped own (free_in hub)) (client_in hub own.client)) None (place_within hub own sound owns)
        ∙ ap (begun_with (topped own (free_in hub))) live.is

    shown_after : ClientView
    shown_after = record (live.shown) { cap = grants.opened_own.cap - length missing; asks = []; kept = None }

    here : client_in after own.client ≡ Some shown_after
    here =
        ap (λ (h : HubView). client_in h own.client) grants.hub_is
        ∙ get_or-set_same grants.opened.clients own.client (with_asks [] (with_cap (grants.opened_own.cap - length missing) (client_in grants.opened own.client))) None within
        ∙ ap (λ place. with_asks [] (with_cap (grants.opened_own.cap - length missing) place)) opened_here

    acting : ShowsClient after.trail (client_at both_after.shared own.client) (client_in after own.client)
    acting =
        subst (λ place. ShowsClient after.trail place (client_in after own.client)) (sym there)
        (subst (λ shown. ShowsClient after.trail (Some (agreeing (asking opened_client))) shown) (sym here)
        (record {
          cap = ap (λ (o : Own). o.cap) machine_own ∙ ap (λ cap. cap - length missing) (sym (cap_granted hub own wants missing after own_after grants));
          asks = refl;
          kept = refl;
          fallen = live.shows.fallen ∙ ap (option_map (fallen_of hub.trail)) live.up ∙ sym (ap (option_map (fallen_of after.trail)) live.up);
        }))

    acting_rights : (page : ℕ) (right : Right) → allows (rights_at both_after.shared own.client) page right ≡ permits (right_at after.pages.rights own.client page) right
    acting_rights page right =
        ap (λ place. allows (of_client [] (λ (client : Client). client.rights) place) page right) there
        ∙ ap (λ (o : Own). allows o.held page right) machine_own ∙ ap (λ held. allows held page right) held_same
        ∙ allows_right own_after.held sound_after.distinct page right ∙ ap (λ one. permits one right) (sym (grants.all page))

-- the cache after it stands for the machine's own part
own_after_granting : (shared : Shared) (hub : HubView) (own : cache.Own) (wants missing : List Want) (after : HubView) (own_after : cache.Own) → Shows shared hub → Whole hub → Owning hub own → gathering_in hub own.client ≡ None
    → (grants : Grants own.client wants missing hub own after own_after) → with_granted own.capacity wants (wants_of (kept_held hub own)) ≡ wants_of own_after.held
    → own_of own_after ≡ (granted wants missing (acquiring.with_asks [] (opened shared (own_of own)))).own
own_after_granting shared hub own wants missing after own_after shows sound owns apart grants held_same =
    ap own_of own_is
    ∙ ap (λ held. record (own_of own) { cap = topped own (free_in hub) - length missing; held = held; pending = [] }) (sym held_same)
    ∙ sym (own_granted shared hub own wants missing shows sound owns apart)
  where
    own_is : own_after ≡ record own { pending = []; cap = topped own (free_in hub) - length missing; held = own_after.held }
    own_is =
        grants.own_is
        ∙ ap (λ (o : cache.Own). record o { cap = o.cap - length missing; held = take own.capacity (all_fronted (all_raised grants.opened_own.held missing) wants) }) grants.opens.own_is
        ∙ ap (λ held. record own { pending = []; cap = topped own (free_in hub) - length missing; held = held }) (sym (ap (λ (o : cache.Own). o.held) grants.own_is))

-- an acquire that the hub grants is one that the machine grants
pub grant_turn : (hub : HubView) (own : cache.Own) (wants missing : List Want) (calls : ℕ) (after : HubView) (own_after : cache.Own) → Whole hub → Owning hub own → gathering_in hub own.client ≡ None → refused_at_once (part_of hub) own.client (missing_in hub.pages hub.clients own.client wants) ≡ None
    → is_empty (blockers_in hub.pages hub.clients own.client (missing_in hub.pages hub.clients own.client wants)) ≡ true
    → nat_lt (topped own (free_in hub)) (length (missing_in hub.pages hub.clients own.client wants) + calls) ≡ false
    → CanGrant own.client hub own wants missing → (grants : Grants own.client wants missing hub own after own_after) → Whole grants.opened → cache.IsSound own_after
    → with_granted own.capacity wants (wants_of (kept_held hub own)) ≡ wants_of own_after.held
    → Acquires hub own wants calls Granted after own_after
grant_turn hub own wants missing calls after own_after sound owns apart free empty short can grants sound_opened sound_after held_same = (
  record {
    replies = λ shared shows. sym (ap (λ (t : Turned Reply). t.reply) (answer shared shows));
    shows = λ shared shows. subst (λ (t : Turned Reply). Shows t.shared after) (sym (answer shared shows))
        (subst (λ list. Shows (granted wants list (acquiring.with_asks [] (opened shared (own_of own)))).shared after) can.missing_is
        (granted_shows shared hub own wants missing after own_after shows sound owns apart grants sound_opened sound_after held_same));
    owns = λ shared shows.
        own_after_granting shared hub own wants missing after own_after shows sound owns apart grants held_same
        ∙ ap (λ list. (granted wants list (acquiring.with_asks [] (opened shared (own_of own)))).own) can.missing_is
        ∙ sym (ap (λ (t : Turned Reply). t.own) (answer shared shows));
  },
  λ shared shows. ap (first_unframed hub) (missing_same shared hub own wants shows sound owns apart ∙ sym can.missing_is) ∙ can.framed,
)
  where
    answer : (shared : Shared) (shows : Shows shared hub) → acquire shared (own_of own) wants calls
        ≡ acquiring.answered (opened shared (own_of own)) (given_in_opening shared (own_of own)) wants
        (missing_in hub.pages hub.clients own.client wants) None
    answer shared shows = granted_answer shared hub own wants calls shows sound owns apart free empty short
