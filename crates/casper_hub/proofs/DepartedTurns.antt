use Rattle.std.proofs.Common.{◌≡◌, ◌<◌, ℕ, List, [], length, map, length-set, get_or-set_same, get_or-set_other, append-nil, refl, sym, ap, ◌∙◌, subst, arith}
use Rattle.std.specs.Prelude.{Option, None, Some, option_map}
use Rattle.casper_words.specs.declared.page.Want.{Want}
use Rattle.casper_trail.specs.declared.item.Item.{Item}
use Rattle.casper_words.specs.declared.page.Right.{Right}
use Rattle.casper_dir.specs.Rights.{right_at, AreAllClients}
use Rattle.casper_cache.specs.Own as cache
use Rattle.casper_model.specs.declared.reply.Served.TheVariants as served
use Rattle.casper_model.specs.Client.{Client, Fallen}
use Rattle.casper_model.specs.Stabilisation.{Stabilisation, without}
use Rattle.casper_model.specs.Shared.{Shared, client_at, fallen_at, rights_at, of_client}
use Rattle.casper_model.specs.Held.{allows}
use Rattle.casper_model.specs.Own.{Own, blank}
use Rattle.casper_model.specs.Both.{Both}
use Rattle.casper_words.specs.declared.call.Call.{Call}
use Rattle.casper_model.specs.Opening.{begun, given_up, gathering_of, handed_in_to, opened}
use Rattle.casper_model.specs.Acquire as acquiring
use Rattle.casper_model.specs.Leave.{depart, departed_by, absent}
use Rattle.casper_model.proofs.Places.{client_placed, client_unplaced, client_changed, client_unchanged}
use Rattle.casper_model.proofs.OpeningRights.{places_changed}
use Rattle.casper_hub.specs.HubView.{HubView, ClientView, client_in, with_asks}
use Rattle.casper_hub.specs.Shows.{permits, Shows, ShowsClient}
use Rattle.casper_hub.specs.Owned.{own_of}
use Rattle.casper_hub.specs.Stages.{Leaves, Refuses}
use Rattle.casper_hub.specs.Turns.{IsTurn}
use Rattle.casper_hub.proofs.Whole.{Whole, Owning, fallen_shown}
use Rattle.casper_hub.proofs.ShownAfter.{shows_after}
use Rattle.casper_hub.proofs.ServedTurns.{place_within}
use Rattle.casper_hub.proofs.TurnOpened.{opening_turn, opening_places, opening_pending}

-- the client of the machine's opening
pub client_of_opening : (shared : Shared) (own : Own) → (opened shared own).own.who ≡ own.who
client_of_opening shared own = by (gathering_of (given_up (begun shared own)).shared (given_up (begun shared own)).own.who)
  where
    by : (gathering : Option Stabilisation) → (handed_in_to (given_up (begun shared own)) gathering).own.who ≡ own.who
    by None = refl
    by (Some gathering) = refl

-- a client that becomes absent is shown as absent
absent_shows : (shared : Shared) (hub : HubView) (own : cache.Own) (after : HubView) (own_after : cache.Own) → Shows shared hub → Whole hub → Owning hub own
    → (leaves : Leaves own.client hub own after own_after) → Whole leaves.opened → Shows (absent (opened shared (own_of own))).shared after
absent_shows shared hub own after own_after shows sound owns leaves sound_opened =
    shows_after own.client both.shared (absent both).shared leaves.opened after shows_opened sound_opened
    (record {
      trail = shows_opened.trail ∙ sym (ap (λ (h : HubView). h.trail) leaves.hub_is);
      more = [];
      grows = ap (λ (h : HubView). h.trail) leaves.hub_is ∙ sym (append-nil leaves.opened.trail);
      limit = refl;
      limit_too = ap (λ (h : HubView). h.limit) leaves.hub_is;
      pages = refl;
      pages_too = leaves.gives.rights_count;
      stabilisations = ap (map forget) shows_opened.stabilisations ∙ ap (λ who. map (λ (one : Stabilisation). record one { askers = without who one.askers }) leaves.opened.stabilisations) who
          ∙ sym (ap (λ (h : HubView). h.stabilisations) leaves.hub_is);
      places = length-set both.shared.clients both.own.who None;
      clients = λ other apart. client_unplaced both.own.who None both.shared other (λ is. apart (is ∙ who));
      clients_too = λ other apart. ap (λ (h : HubView). client_in h other) leaves.hub_is ∙ get_or-set_other leaves.opened.clients own.client other None None apart;
      holders = leaves.gives.holders;
      rights = λ other page is apart. leaves.gives.others other page is apart;
    })
    acting
    (λ page right.
    ap (λ place. allows (of_client [] (λ (client : Client). client.rights) place) page right) there ∙ ap (λ one. permits one right) (sym (leaves.none page)))
  where
    both : Both
    both = opened shared (own_of own)

    who : both.own.who ≡ own.client
    who = client_of_opening shared (own_of own)

    forget : Stabilisation → Stabilisation
    forget one = record one { askers = without both.own.who one.askers }

    shows_opened : Shows both.shared leaves.opened
    shows_opened = (opening_turn hub own leaves.opened leaves.opened_own sound owns leaves.opens).shows shared shows

    within : own.client < length leaves.opened.clients
    within = subst (λ count. own.client < count) (sym (opening_places hub own leaves.opened leaves.opened_own sound owns leaves.opens)) (place_within hub own sound owns)

    there : client_at (absent both).shared own.client ≡ None
    there =
        ap (client_at (absent both).shared) (sym who)
        ∙ client_placed both.own.who None both.shared
        (subst (λ count. both.own.who < count) (sym shows_opened.places) (subst (λ n. n < 33) (sym who) (omega (arith, owns.client.1))))

    here : client_in after own.client ≡ None
    here = ap (λ (h : HubView). client_in h own.client) leaves.hub_is ∙ get_or-set_same leaves.opened.clients own.client None None within

    acting : ShowsClient after.trail (client_at (absent both).shared own.client) (client_in after own.client)
    acting =
        subst (λ place. ShowsClient after.trail place (client_in after own.client)) (sym there)
        (subst (λ shown. ShowsClient after.trail None shown) (sym here) tt)

own_after_leaving : (shared : Shared) (hub : HubView) (own : cache.Own) (after : HubView) (own_after : cache.Own) → Shows shared hub → Whole hub → Owning hub own
    → Leaves own.client hub own after own_after → own_of own_after ≡ (absent (opened shared (own_of own))).own
own_after_leaving shared hub own after own_after shows sound owns leaves =
    ap own_of leaves.own_is
    ∙ ap (λ (calls : List Call). record (own_of leaves.opened_own) { held = []; pending = calls; cap = 0 }) (opening_pending hub own leaves.opened leaves.opened_own sound owns leaves.opens)
    ∙ ap (λ (o : Own). blank o.who o.capacity) ((opening_turn hub own leaves.opened leaves.opened_own sound owns leaves.opens).owns shared shows)

-- a turn in which a client departs is the machine's
departed_turn : (shared : Shared) (hub : HubView) (own : cache.Own) (after : HubView) (own_after : cache.Own) → Shows shared hub → Whole hub → Owning hub own
    → (leaves : Leaves own.client hub own after own_after) → Whole leaves.opened → (fallen : Option Fallen) → fallen ≡ None
    → (served.Ok ≡ (departed_by shared (own_of own) fallen).reply) × Shows (departed_by shared (own_of own) fallen).shared after
    × (own_of own_after ≡ (departed_by shared (own_of own) fallen).own)
departed_turn shared hub own after own_after shows sound owns leaves sound_opened (Some fallen) up = cc
departed_turn shared hub own after own_after shows sound owns leaves sound_opened None up = (
  refl,
  absent_shows shared hub own after own_after shows sound owns leaves sound_opened,
  own_after_leaving shared hub own after own_after shows sound owns leaves,
)

pub depart_turn : (hub : HubView) (own : cache.Own) (after : HubView) (own_after : cache.Own) → Whole hub → Owning hub own
    → (leaves : Leaves own.client hub own after own_after) → Whole leaves.opened → IsTurn depart served.Ok hub own after own_after
depart_turn hub own after own_after sound owns leaves sound_opened = record {
  replies = λ shared shows. (turn shared shows).0;
  shows = λ shared shows. (turn shared shows).1;
  owns = λ shared shows. (turn shared shows).2;
}
  where
    turn : (shared : Shared) → Shows shared hub
        → (served.Ok ≡ (depart shared (own_of own)).reply) × Shows (depart shared (own_of own)).shared after × (own_of own_after ≡ (depart shared (own_of own)).own)
    turn shared shows =
        departed_turn shared hub own after own_after shows sound owns leaves sound_opened (fallen_at shared own.client) (fallen_shown shared hub own shows owns)

-- the asks of a client replaced, as the machine has it and as its hub has it
shown_with_asks : (trail : List Item) (asks : List Want) (place : Option Client) (shown : Option ClientView)
    → ShowsClient trail place shown → ShowsClient trail (option_map (λ (client : Client). record client { asks = asks }) place) (with_asks asks shown)
shown_with_asks trail asks None None shows = tt
shown_with_asks trail asks None (Some shown) shows = absurd shows
shown_with_asks trail asks (Some client) None shows = absurd shows
shown_with_asks trail asks (Some client) (Some shown) shows = record { cap = shows.cap; asks = refl; kept = shows.kept; fallen = shows.fallen }

-- its rights stay
rights_with_asks : (asks : List Want) (place : Option Client)
    → of_client [] (λ (client : Client). client.rights) (option_map (λ (client : Client). record client { asks = asks }) place) ≡ of_client [] (λ (client : Client). client.rights) place
rights_with_asks asks None = refl
rights_with_asks asks (Some client) = refl

-- after a refusal a hub stands for the machine's opening with these asks
pub refused_shows : (shared : Shared) (hub : HubView) (own : cache.Own) (asks : List Want) (after : HubView) (own_after : cache.Own) → Shows shared hub → Whole hub → Owning hub own
    → (refuses : Refuses own.client asks hub own after own_after) → Whole refuses.opened → Shows (acquiring.with_asks asks (opened shared (own_of own))).shared after
refused_shows shared hub own asks after own_after shows sound owns refuses sound_opened =
    shows_after own.client both.shared (acquiring.with_asks asks both).shared refuses.opened after shows_opened sound_opened
    (record {
      trail = shows_opened.trail ∙ sym (ap (λ (h : HubView). h.trail) refuses.hub_is);
      more = [];
      grows = ap (λ (h : HubView). h.trail) refuses.hub_is ∙ sym (append-nil refuses.opened.trail);
      limit = refl;
      limit_too = ap (λ (h : HubView). h.limit) refuses.hub_is;
      pages = refl;
      pages_too = ap (λ (h : HubView). length h.pages.rights) refuses.hub_is;
      stabilisations = shows_opened.stabilisations ∙ sym (ap (λ (h : HubView). h.stabilisations) refuses.hub_is);
      places = places_changed both.own.who change both.shared;
      clients = λ other apart. client_unchanged both.own.who change both.shared other (λ is. apart (is ∙ who));
      clients_too = λ other apart. ap (λ (h : HubView). client_in h other) refuses.hub_is
          ∙ get_or-set_other refuses.opened.clients own.client other (with_asks asks (client_in refuses.opened own.client)) None apart;
      holders = subst (λ (h : HubView). AreAllClients h.pages.rights) (sym refuses.hub_is) sound_opened.holders;
      rights = λ other page is apart. ap (λ (h : HubView). right_at h.pages.rights other page) refuses.hub_is;
    })
    acting acting_rights
  where
    both : Both
    both = opened shared (own_of own)

    who : both.own.who ≡ own.client
    who = client_of_opening shared (own_of own)

    change : Client → Client
    change client = record client { asks = asks }

    shows_opened : Shows both.shared refuses.opened
    shows_opened = (opening_turn hub own refuses.opened own_after sound owns refuses.opens).shows shared shows

    within : own.client < length refuses.opened.clients
    within = subst (λ count. own.client < count) (sym (opening_places hub own refuses.opened own_after sound owns refuses.opens)) (place_within hub own sound owns)

    there : client_at (acquiring.with_asks asks both).shared own.client ≡ option_map change (client_at both.shared own.client)
    there =
        ap (client_at (acquiring.with_asks asks both).shared) (sym who) ∙ client_changed both.own.who change both.shared ∙ ap (λ n. option_map change (client_at both.shared n)) who

    here : client_in after own.client ≡ with_asks asks (client_in refuses.opened own.client)
    here =
        ap (λ (h : HubView). client_in h own.client) refuses.hub_is
        ∙ get_or-set_same refuses.opened.clients own.client (with_asks asks (client_in refuses.opened own.client)) None within

    acting : ShowsClient after.trail (client_at (acquiring.with_asks asks both).shared own.client) (client_in after own.client)
    acting =
        subst (λ place. ShowsClient after.trail place (client_in after own.client)) (sym there)
        (subst (λ shown. ShowsClient after.trail (option_map change (client_at both.shared own.client)) shown) (sym here)
        (subst (λ (h : HubView). ShowsClient h.trail (option_map change (client_at both.shared own.client)) (with_asks asks (client_in refuses.opened own.client))) (sym refuses.hub_is)
        (shown_with_asks refuses.opened.trail asks (client_at both.shared own.client) (client_in refuses.opened own.client) (shows_opened.clients own.client))))

    acting_rights : (page : ℕ) (right : Right)
        → allows (rights_at (acquiring.with_asks asks both).shared own.client) page right ≡ permits (right_at after.pages.rights own.client page) right
    acting_rights page right =
        ap (λ place. allows (of_client [] (λ (client : Client). client.rights) place) page right) there
        ∙ ap (λ rights. allows rights page right) (rights_with_asks asks (client_at both.shared own.client))
        ∙ shows_opened.rights own.client page right
        ∙ sym (ap (λ (h : HubView). permits (right_at h.pages.rights own.client page) right) refuses.hub_is)
