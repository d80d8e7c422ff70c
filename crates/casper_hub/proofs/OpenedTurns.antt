use Rattle.std.proofs.Common.{◌≡◌, ◌≢◌, ◌≤◌, ℕ, ◌+◌, ◌-◌, List, [], ◌∷◌, Bool, length, min, refl, sym, ap, ap₂, ◌∙◌, subst, ⊎_elim, arith}
use Rattle.std.specs.Prelude.{Option, None, Some, option_map, option_and_then, filter_map}
use Rattle.std.specs.List.{cons_option}
use Rattle.std.proofs.lemmas.Bool.{cases_eq}
use Rattle.casper_words.specs.declared.page.Right.{Right}
use Rattle.casper_trail.specs.TrailView.{entry_count}
use Rattle.casper_model.specs.Opening as machine
use Rattle.casper_cache.specs.declared.held.Held.{Held}
use Rattle.casper_cache.specs.Holding.{entry_of, right_of, ArePagesDistinct}
use Rattle.casper_cache.specs.Own as cache
use Rattle.casper_cache.proofs.Entries.{entry_of-page}
use Rattle.casper_model.specs.Held.{is_to_write}
use Rattle.casper_model.specs.Client.{Client}
use Rattle.casper_model.specs.Shared.{Shared, client_at, asks_at, change_client, of_client}
use Rattle.casper_model.specs.Own.{Own}
use Rattle.casper_model.specs.Both.{Both}
use Rattle.casper_model.specs.Room.{most_cap, all_caps}
use Rattle.casper_model.specs.Opening.{kept_dropped, recorded, begun, given_up, kept_of, any_right}
use Rattle.casper_model.proofs.OpeningRights.{places_changed}
use Rattle.casper_model.proofs.Places.{client_changed, client_unchanged}
use Rattle.casper_hub.specs.HubView.{HubView, right_in, free_in}
use Rattle.casper_hub.specs.Asks.{is_asked_for}
use Rattle.casper_hub.specs.Shows.{Shows}
use Rattle.casper_hub.specs.Owned.{wants_of, own_of}
use Rattle.casper_hub.specs.Given.{met, right_kept, left_of, kept_as, topped}
use Rattle.casper_hub.proofs.Whole.{Whole, Owning, fallen_shown, pending_within}
use Rattle.casper_hub.proofs.Showing.{asks_shown, free_shown, caps_shown}
use Rattle.casper_hub.proofs.Standing.{stands, free_recorded}
use Rattle.casper_hub.proofs.KeptPages.{asked_same, HaveRights, have_rights, keeps_wants}
use Rattle.casper_hub.proofs.Left.{entry_of-kept, distinct-kept}

-- the pages that a client holds once it has met the asks of the others
abbrev pub kept_held : HubView → cache.Own → List Held
kept_held hub own = filter_map (kept_as (right_in hub own.client) (right_kept hub.pages hub.clients own.client)) own.held

-- the right to a page among what is kept is the right that is kept
pub right_among_kept : (before after : ℕ → Option Right) (wholly asked : ℕ → Bool) (page : ℕ) (held : List Held) → before page ≡ right_of page held
    → after page ≡ met (wholly page) (asked page) (before page) → right_of page (filter_map (kept_as before after) held) ≡ after page
right_among_kept before after wholly asked page held is kept =
    ap (option_map (λ (e : Held). e.right)) (entry_of-kept before after page held) ∙ by (entry_of page held) refl
  where
    left_right : (right : Right) (left : Option Right) (entry : Held) → option_map (λ (e : Held). e.right) (left_of (Some right) left entry) ≡ left
    left_right right None entry = refl
    left_right right (Some now) entry = refl

    by : (found : Option Held) → entry_of page held ≡ found → option_map (λ (e : Held). e.right) (option_and_then (kept_as before after) found) ≡ after page
    by None none =
        let gone : before page ≡ None = is ∙ ap (option_map (λ (e : Held). e.right)) none in
        sym (kept ∙ ap (met (wholly page) (asked page)) gone)
    by (Some entry) found =
        let at : entry.page ≡ page = entry_of-page page held entry found in
        let had : before page ≡ Some entry.right = is ∙ ap (option_map (λ (e : Held). e.right)) found in
        ap (λ q. option_map (λ (e : Held). e.right) (left_of (before q) (after q) entry)) at
        ∙ ap (λ o. option_map (λ (e : Held). e.right) (left_of o (after page) entry)) had ∙ left_right entry.right (after page) entry

-- what is kept by rights that agree is the same
pub kept_same : (before after other : ℕ → Option Right) → ((page : ℕ) → after page ≡ other page) → (held : List Held)
    → filter_map (kept_as before after) held ≡ filter_map (kept_as before other) held
kept_same before after other same [] = refl
kept_same before after other same (entry ∷ held) =
    ap₂ (λ one rest. cons_option one rest) (ap (λ o. left_of (before entry.page) o entry) (same entry.page)) (kept_same before after other same held)

-- the rights of what is kept, for a cache that its hub owns
pub right_kept_held : (hub : HubView) (own : cache.Own) → Whole hub → Owning hub own → (page : ℕ) → right_of page (kept_held hub own) ≡ right_kept hub.pages hub.clients own.client page
right_kept_held hub own sound owns page =
    right_among_kept (right_in hub own.client) (right_kept hub.pages hub.clients own.client)
    (is_asked_for is_to_write hub.clients own.client) (is_asked_for any_right hub.clients own.client) page own.held
    (owns.rights page) refl

pub distinct_kept_held : (hub : HubView) (own : cache.Own) → Owning hub own → ArePagesDistinct (kept_held hub own)
distinct_kept_held hub own owns = distinct-kept (right_in hub own.client) (right_kept hub.pages hub.clients own.client) own.held owns.sound.distinct

pub have_rights_held : (hub : HubView) (own : cache.Own) → Whole hub → Owning hub own → HaveRights (right_in hub own.client) own.held
have_rights_held hub own sound owns =
    have_rights (right_in hub own.client) own.held owns.sound.distinct (λ page right is. owns.rights page ∙ is)

-- the asks of the others, once the machine's turn has begun
pub asks_begun : (shared : Shared) (own : Own) (other : ℕ) → asks_at (begun shared own).shared other ≡ asks_at shared other
asks_begun shared own other =
    asks_changed own.who (λ client. record client { cap = (begun shared own).own.cap; rights = (begun shared own).own.held }) (λ client. refl) first.shared other
    ∙ asks_changed own.who (λ client. record client { cap = first.own.cap; rights = first.own.held }) (λ client. refl) (record dropped { trail = first.shared.trail }) other
    ∙ asks_changed own.who (λ client. record client { kept = None }) (λ client. refl) shared other
  where
    dropped : Shared
    dropped = kept_dropped own.who shared

    first : Both
    first = recorded dropped own

    asks_by : (place : Option Client) (change : Client → Client) → ((client : Client) → (change client).asks ≡ client.asks)
        → option_map (λ (client : Client). client.asks) (option_map change place) ≡ option_map (λ (client : Client). client.asks) place
    asks_by None change same = refl
    asks_by (Some client) change same = ap Some (same client)

    asks_changed : (who : ℕ) (change : Client → Client) → ((client : Client) → (change client).asks ≡ client.asks) → (shared : Shared) (other : ℕ)
        → asks_at (change_client who change shared) other ≡ asks_at shared other
    asks_changed who change same shared other =
        ⊎_elim
        (λ is. of_asks (client_at (change_client who change shared) other) (client_at shared other)
        (ap (λ n. option_map (λ (client : Client). client.asks) (client_at (change_client who change shared) n)) is
        ∙ ap (option_map (λ (client : Client). client.asks)) (client_changed who change shared) ∙ asks_by (client_at shared who) change same
        ∙ ap (λ n. option_map (λ (client : Client). client.asks) (client_at shared n)) (sym is)))
        (λ apart. of_asks (client_at (change_client who change shared) other) (client_at shared other)
        (ap (option_map (λ (client : Client). client.asks)) (client_unchanged who change shared other apart)))
        (cases_eq other who)
      where
        of_asks : (one two : Option Client) → option_map (λ (client : Client). client.asks) one ≡ option_map (λ (client : Client). client.asks) two
            → of_client [] (λ client. client.asks) one ≡ of_client [] (λ client. client.asks) two
        of_asks None None e = refl
        of_asks None (Some b) e = cc
        of_asks (Some a) None e = cc
        of_asks (Some a) (Some b) e = cc

-- the acting client's own part once the machine's turn has met the asks
pub own_met : (shared : Shared) (hub : HubView) (own : cache.Own) → Shows shared hub → Whole hub → Owning hub own
    → (given_up (begun shared (own_of own))).own ≡ record (own_of own) { cap = topped own (free_in hub); held = wants_of (kept_held hub own); pending = [] }
own_met shared hub own shows sound owns =
    ap₂ (λ cap held. record (own_of own) { cap = cap; held = held; pending = [] }) cap held
  where
    cap : (begun shared (own_of own)).own.cap ≡ topped own (free_in hub)
    cap =
        ap (λ free. min most_cap (own.cap - length own.pending + free))
        (free_recorded shared (own_of own) (stands shared hub own shows sound owns) (fallen_shown shared hub own shows owns) (pending_within own owns.sound)
        (subst (λ limit. entry_count shared.trail + all_caps shared ≤ limit) (sym shows.limit)
        (omega (arith, ap entry_count shows.trail, caps_shown shared hub shows sound.places, sound.within)))
        ∙ free_shown shared hub shows sound.places)

    held : filter_map (kept_of (begun shared (own_of own)).shared own.client) (wants_of own.held) ≡ wants_of (kept_held hub own)
    held =
        keeps_wants (begun shared (own_of own)).shared own.client (is_asked_for is_to_write hub.clients own.client) (is_asked_for any_right hub.clients own.client)
        (right_in hub own.client) (right_kept hub.pages hub.clients own.client) own.held (asked is_to_write) (asked any_right) (λ page. refl) (have_rights_held hub own sound owns)
      where
        asked : (test : Right → Bool) (page : ℕ) → machine.is_asked_for test (begun shared (own_of own)).shared own.client page ≡ is_asked_for test hub.clients own.client page
        asked test page =
            asked_same test (begun shared (own_of own)).shared hub.clients own.client page
            (λ other. asks_begun shared (own_of own) other ∙ asks_shown shared hub shows other)

-- what is known to all of the acting client then
pub client_met : (shared : Shared) (own : Own) (client : Client) → client_at shared own.who ≡ Some client
    → client_at (given_up (begun shared own)).shared own.who
    ≡ Some (record client { cap = (given_up (begun shared own)).own.cap; rights = (given_up (begun shared own)).own.held; kept = None })
client_met shared own client live =
    client_changed own.who (λ one. record one { cap = third.own.cap; rights = third.own.held }) second.shared
    ∙ ap (option_map (λ (one : Client). record one { cap = third.own.cap; rights = third.own.held }))
    (client_changed own.who (λ one. record one { cap = second.own.cap; rights = second.own.held }) first.shared
    ∙ ap (option_map (λ (one : Client). record one { cap = second.own.cap; rights = second.own.held }))
    (client_changed own.who (λ one. record one { cap = first.own.cap; rights = first.own.held }) (record dropped { trail = first.shared.trail })
    ∙ ap (option_map (λ (one : Client). record one { cap = first.own.cap; rights = first.own.held }))
    (client_changed own.who (λ one. record one { kept = None }) shared ∙ ap (option_map (λ (one : Client). record one { kept = None })) live)))
  where
    dropped : Shared
    dropped = kept_dropped own.who shared

    first : Both
    first = recorded dropped own

    second : Both
    second = begun shared own

    third : Both
    third = given_up second

-- and of the others
pub others_met : (shared : Shared) (own : Own) (number : ℕ) → number ≢ own.who → client_at (given_up (begun shared own)).shared number ≡ client_at shared number
others_met shared own number apart =
    client_unchanged own.who (λ one. record one { cap = third.own.cap; rights = third.own.held }) second.shared number apart
    ∙ client_unchanged own.who (λ one. record one { cap = second.own.cap; rights = second.own.held }) first.shared number apart
    ∙ client_unchanged own.who (λ one. record one { cap = first.own.cap; rights = first.own.held }) (record dropped { trail = first.shared.trail }) number apart
    ∙ client_unchanged own.who (λ one. record one { kept = None }) shared number apart
  where
    dropped : Shared
    dropped = kept_dropped own.who shared

    first : Both
    first = recorded dropped own

    second : Both
    second = begun shared own

    third : Both
    third = given_up second

pub places_met : (shared : Shared) (own : Own) → length (given_up (begun shared own)).shared.clients ≡ length shared.clients
places_met shared own =
    places_changed own.who (λ one. record one { cap = third.own.cap; rights = third.own.held }) second.shared
    ∙ places_changed own.who (λ one. record one { cap = second.own.cap; rights = second.own.held }) first.shared
    ∙ places_changed own.who (λ one. record one { cap = first.own.cap; rights = first.own.held }) (record dropped { trail = first.shared.trail })
    ∙ places_changed own.who (λ one. record one { kept = None }) shared
  where
    dropped : Shared
    dropped = kept_dropped own.who shared

    first : Both
    first = recorded dropped own

    second : Both
    second = begun shared own

    third : Both
    third = given_up second
