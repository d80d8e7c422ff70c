use Rattle.std.proofs.Common.{◌≡◌, ◌≢◌, ◌<◌, ◌≤◌, ℕ, ◌+◌, ◌-◌, ◌∙◌, List, [], ◌++◌, length, take, get_or-set_same, ap, subst, arith}
use Rattle.std.specs.Prelude.{Option, None, slice_set}
use Rattle.std.proofs.lemmas.List.{set-set}
use Rattle.casper_words.specs.Crew.{IsClient}
use Rattle.casper_words.specs.declared.page.Want.{Want}
use Rattle.casper_trail.specs.Parts.{as_items}
use Rattle.casper_trail.specs.TrailView.{entry_count}
use Rattle.casper_dir.specs.Rights.{right_at}
use Rattle.casper_cache.specs.declared.held.Held.{Held}
use Rattle.casper_cache.specs.Holding.{right_of}
use Rattle.casper_cache.specs.Own as cache
use Rattle.casper_model.specs.Acquire.{touches_by}
use Rattle.casper_hub.specs.HubView.{HubView, PagesView, ClientView, place_in, client_in, cap_of, cap_in, free_in, with_cap, with_asks}
use Rattle.casper_hub.specs.Given.{GivesUp, topped}
use Rattle.casper_hub.specs.Installing.{with_pages, all_raised, all_fronted}
use Rattle.casper_hub.specs.Stages.{Grants}
use Rattle.casper_hub.proofs.Opened.{opened_cap, opened_formed, opened_sound}
use Rattle.casper_hub.proofs.Whole.{cap_within}
use Rattle.casper_hub.proofs.Installed.{begins_installed}
use Rattle.casper_hub.proofs.Granting.{Granting, installed_in}
use Rattle.casper_hub.proofs.Ready.{Ready, GivesRights}

-- What giving rights after an opening, and giving up what is too much, comes to.

-- what was made of an opened turn
pub record Made (who : ℕ) (wants missing : List Want) (opened : HubView) (opened_own : cache.Own) (after : HubView) (own_after : cache.Own) : Type 0 where
  pub granted : PagesView
  pub gives_rights : GivesRights who missing opened.pages granted
  pub others : (client page : ℕ) → IsClient client → client ≢ who → right_at granted.rights client page ≡ right_at opened.pages.rights client page
  pub given : cache.Own
  pub given_is : given ≡ record opened_own { held = all_raised opened_own.held missing }
  pub cap : ℕ
  pub cap_is : cap ≡ cap_of (place_in opened.clients who) - length missing
  pub set : List (Option ClientView)
  pub set_is : set ≡ slice_set opened.clients who (with_cap cap (place_in opened.clients who))
  pub allowed : cache.Own
  pub allowed_is : allowed ≡ record given { cap = cap }
  pub fronted : cache.Own
  pub fronted_is : fronted ≡ record allowed { held = all_fronted allowed.held wants }
  pub gives : GivesUp who granted fronted.held after.pages own_after.held
  pub all : (page : ℕ) → right_at after.pages.rights who page ≡ right_of page own_after.held
  pub trail : after.trail ≡ opened.trail ++ as_items (touches_by who missing)
  pub clients : after.clients ≡ slice_set set who (with_asks [] (place_in set who))
  pub limit : after.limit ≡ opened.limit
  pub stabilisations : after.stabilisations ≡ opened.stabilisations
  pub own_is : own_after ≡ record fronted { held = take fronted.capacity fronted.held }

-- is a granted turn
pub granted_turn : (hub : HubView) (own : cache.Own) (wants missing : List Want) (opened : HubView) (opened_own : cache.Own) (after : HubView) (own_after : cache.Own)
    → Ready hub own wants missing opened opened_own → Made own.client wants missing opened opened_own after own_after → Grants own.client wants missing hub own after own_after
granted_turn hub own wants missing opened opened_own after own_after ready made = record {
  opened = opened;
  opened_own = opened_own;
  opens = ready.opens;
  granted = made.granted;
  granted_frames = made.gives_rights.frames;
  granted_count = made.gives_rights.count;
  granted_rights = made.gives_rights.rights;
  granted_others = made.others;
  gives = subst (λ (l : List Held). GivesUp own.client made.granted l after.pages own_after.held) held made.gives;
  all = made.all;
  hub_is =
      let fields : after ≡ record opened { trail = after.trail; clients = after.clients; pages = after.pages } = same_fields in
      fields
      ∙ ap (λ l. record opened { trail = l; clients = after.clients; pages = after.pages }) made.trail
      ∙ ap (λ l. record opened { trail = opened.trail ++ as_items (touches_by own.client missing); clients = l; pages = after.pages }) clients;
  own_is =
      made.own_is ∙ ap (λ (o : cache.Own). record o { held = take o.capacity o.held }) fronted
      ∙ ap (λ n. record opened_own { cap = opened_own.cap - length missing; held = take n (all_fronted (all_raised opened_own.held missing) wants) })
      (ap (λ (o : cache.Own). o.capacity) ready.opens.own_is);
}
  where
    begun : cap_of (place_in opened.clients own.client) ≡ opened_own.cap
    begun = opened_cap own.client hub (installed_in hub own missing) opened opened_own (begins_installed hub own missing ready.sound ready.owns) ready.opens

    cap : made.cap ≡ opened_own.cap - length missing
    cap = made.cap_is ∙ ap (λ n. n - length missing) begun

    fronted : made.fronted ≡ record opened_own { cap = opened_own.cap - length missing; held = all_fronted (all_raised opened_own.held missing) wants }
    fronted =
        made.fronted_is
        ∙ ap (λ (o : cache.Own). record o { held = all_fronted o.held wants })
        (made.allowed_is ∙ ap (λ (o : cache.Own). record o { cap = made.cap }) made.given_is
        ∙ ap (λ n. record opened_own { cap = n; held = all_raised opened_own.held missing }) cap)

    held : made.fronted.held ≡ all_fronted (all_raised opened_own.held missing) wants
    held = ap (λ (o : cache.Own). o.held) fronted

    same_fields : after ≡ record opened { trail = after.trail; clients = after.clients; pages = after.pages }
    same_fields =
        ap (λ n. record after { limit = n }) made.limit
        ∙ ap (λ l. record after { limit = opened.limit; stabilisations = l }) made.stabilisations

    below : own.client < length opened.clients
    below =
        let most = ready.owns.client.1 in
        let long = (opened_formed own.client hub (installed_in hub own missing) opened opened_own (begins_installed hub own missing ready.sound ready.owns) ready.opens).places in
        omega (arith, most, long)

    here : place_in made.set own.client ≡ with_cap made.cap (client_in opened own.client)
    here = ap (λ l. place_in l own.client) made.set_is ∙ get_or-set_same opened.clients own.client (with_cap made.cap (client_in opened own.client)) None below

    clients : after.clients ≡ slice_set opened.clients own.client (with_asks [] (with_cap (opened_own.cap - length missing) (client_in opened own.client)))
    clients =
        made.clients
        ∙ ap (λ place. slice_set made.set own.client (with_asks [] place)) here
        ∙ ap (λ l. slice_set l own.client (with_asks [] (with_cap made.cap (client_in opened own.client)))) made.set_is
        ∙ set-set opened.clients own.client (with_cap made.cap (client_in opened own.client)) (with_asks [] (with_cap made.cap (client_in opened own.client)))
        ∙ ap (λ n. slice_set opened.clients own.client (with_asks [] (with_cap n (client_in opened own.client)))) cap

-- of a client that owns its cache
pub granting_made : (hub : HubView) (own : cache.Own) (wants missing : List Want) (opened : HubView) (opened_own : cache.Own) (after : HubView) (own_after : cache.Own)
    → Ready hub own wants missing opened opened_own → Made own.client wants missing opened opened_own after own_after → Granting hub own wants missing after own_after
granting_made hub own wants missing opened opened_own after own_after ready made = record {
  sound = ready.sound;
  owns = ready.owns;
  can = ready.can;
  grants = granted_turn hub own wants missing opened opened_own after own_after ready made;
}

-- the pages that are held once the wanted ones are in front
pub fronted_held : (opened_own given allowed fronted : cache.Own) (missing wants : List Want) (cap : ℕ) → given ≡ record opened_own { held = all_raised opened_own.held missing }
    → allowed ≡ record given { cap = cap } → fronted ≡ record allowed { held = all_fronted allowed.held wants } → fronted.held ≡ all_fronted (all_raised opened_own.held missing) wants
fronted_held opened_own given allowed fronted missing wants cap given_is allowed_is fronted_is =
    ap (λ (o : cache.Own). o.held) fronted_is
    ∙ ap (λ (o : cache.Own). all_fronted o.held wants) allowed_is ∙ ap (λ (o : cache.Own). all_fronted o.held wants) given_is

-- there is room for a touch of each missing page
pub room_ready : (hub : HubView) (own : cache.Own) (wants missing : List Want) (opened : HubView) (opened_own : cache.Own) → Ready hub own wants missing opened opened_own
    → entry_count opened.trail + length missing ≤ opened.limit
room_ready hub own wants missing opened opened_own ready =
    let begins = begins_installed hub own missing ready.sound ready.owns in
    let within = cap_within opened own.client ready.owns.client (opened_sound hub own (with_pages hub.pages own.held missing) opened opened_own begins ready.owns ready.opens).sound in
    let cap : cap_in opened own.client ≡ topped own (free_in hub) =
    opened_cap own.client hub (installed_in hub own missing) opened opened_own begins ready.opens ∙ ap (λ (o : cache.Own). o.cap) ready.opens.own_is in
    let room = ready.can.room in
    omega (arith, within, cap, room)

-- the client has been promised so many more entries
pub cap_ready : (hub : HubView) (own : cache.Own) (wants missing : List Want) (opened : HubView) (opened_own : cache.Own) → Ready hub own wants missing opened opened_own
    → length missing ≤ cap_in opened own.client
cap_ready hub own wants missing opened opened_own ready =
    let begins = begins_installed hub own missing ready.sound ready.owns in
    let cap : cap_in opened own.client ≡ topped own (free_in hub) =
    opened_cap own.client hub (installed_in hub own missing) opened opened_own begins ready.opens ∙ ap (λ (o : cache.Own). o.cap) ready.opens.own_is in
    let room = ready.can.room in
    omega (arith, cap, room)
