use Rattle.std.proofs.Common.{◌≡◌, ◌≢◌, ℕ, ◌≤◌, [], true, false, cond, min, get_or-set_same, get_or-set_other, length-set, refl, sym, ap, ap₂, ◌∙◌, subst, true≢false, arith}
use Rattle.std.specs.Prelude.{Option, None, Some, Ok, Err, is_some}
use Rattle.std.proofs.lemmas.Bool.{ne_eqb}
use Rattle.std.proofs.lemmas.List.{append-nil}
use Rattle.casper_words.specs.Crew.{IsClient}
use Rattle.casper_trail.specs.TrailView.{entry_count}
use Rattle.casper_model.specs.declared.reply.JoinRefusal.{JoinRefusal}
use Rattle.casper_model.specs.declared.reply.JoinRefusal.TheVariants as refusal
use Rattle.casper_model.specs.Client.{Client, new_client}
use Rattle.casper_model.specs.Shared.{Shared, client_at, place_client, of_client}
use Rattle.casper_model.specs.Own.{Own, blank}
use Rattle.casper_model.specs.Both.{Turned}
use Rattle.casper_model.specs.Room.{most_cap}
use Rattle.casper_model.specs.Join.{join, joined, joined_by}
use Rattle.casper_model.proofs.Places.{client_placed, client_unplaced}
use Rattle.casper_hub.specs.HubView.{HubView, client_in, cap_in, cap_of, free_in, new_client_view}
use Rattle.casper_hub.specs.Shows.{permits, Shows, ShowsClient}
use Rattle.casper_hub.specs.Turns.{IsJoin}
use Rattle.casper_model.specs.Held.{allows}
use Rattle.casper_model.specs.Rights.{Agrees}
use Rattle.casper_turns.specs.Good.{IsGoodShared, IsGoodWith}
use Rattle.casper_turns.specs.KeepsClient.{KeepsClient as SharedKeepsClient}
use Rattle.casper_turns.specs.CommitsNothing.{CommitsNothing as SharedCommitsNothing}
use Rattle.casper_turns.specs.Kept.{KeptByTurn}
use Rattle.casper_turns.specs.TurnLaws.{IsTurn as MachineTurn}
use Rattle.casper_turns.proofs.TurnLaws.{each_turn_keeps}
use Rattle.casper_hub.specs.GoesOn.{GoesOn, KeepsClient, CommitsNothing}
use Rattle.casper_hub.specs.Owned.{own_of, Owns, new_cache}
use Rattle.casper_hub.proofs.StandsFor.{stands_for, standing, goes_from, going, good_with_each}
use Rattle.casper_hub.proofs.Transport.{good_too}
use Rattle.casper_hub.specs.Sound.{IsWellFormed, IsSound}
use Rattle.casper_hub.proofs.Whole.{Whole, nobody_there, absent_shown, rights_of_absent}
use Rattle.casper_hub.proofs.Showing.{free_shown, liveness_shown}
use Rattle.casper_hub.proofs.ShownAfter.{shows_after}
use Rattle.casper_hub.proofs.Changing.{changed, changed_here, formed_changed}

-- a hub once a client has joined with this cap
abbrev pub with_client : HubView → ℕ → ℕ → HubView
with_client hub who cap = changed hub hub.trail who (Some (new_client_view cap)) hub.pages

-- who is live at the hub is live for the machine
live_there : (place : Option Client) → is_some place ≡ true → (client : Client) × (place ≡ Some client)
live_there None live = absurd (true≢false (sym live))
live_there (Some client) live = (client, refl)

-- where a client is live the machine's join is refused
busy : (shared : Shared) (hub : HubView) (own : Own) → Shows shared hub → is_some (client_in hub own.who) ≡ true
    → join shared own ≡ record { reply = Some refusal.Busy; shared = shared; own = own }
busy shared hub own shows live =
    let found = live_there (client_at shared own.who) (liveness_shown shared hub shows own.who ∙ live) in
    ap (joined_by shared own) found.1

-- so is it where there is no free room
full : (shared : Shared) (hub : HubView) (own : Own) → Shows shared hub → Whole hub → is_some (client_in hub own.who) ≡ false → free_in hub ≡ 0
    → join shared own ≡ record { reply = Some (refusal.TrailFull (entry_count hub.trail)); shared = shared; own = own }
full shared hub own shows sound gone none =
    ap (joined_by shared own) (absent_shown shared hub shows own.who (nobody_there (client_in hub own.who) gone))
    ∙ ap (joined shared own) (free_shown shared hub shows sound.places ∙ none)
    ∙ ap (λ items. record { reply = Some (refusal.TrailFull (entry_count items)); shared = shared; own = own }) shows.trail

-- and else it is made
made : (shared : Shared) (hub : HubView) (own : Own) → Shows shared hub → Whole hub → is_some (client_in hub own.who) ≡ false → free_in hub ≢ 0
    → join shared own ≡ record {
      reply = None;
      shared = place_client own.who (Some (new_client (min most_cap (free_in hub)))) shared;
      own = record (blank own.who own.capacity) { cap = min most_cap (free_in hub) };
    }
made shared hub own shows sound gone room =
    ap (joined_by shared own) (absent_shown shared hub shows own.who (nobody_there (client_in hub own.who) gone))
    ∙ ap (joined shared own) (free_shown shared hub shows sound.places)
    ∙ ap (λ b. cond b (record { reply = Some (refusal.TrailFull (entry_count shared.trail)); shared = shared; own = own })
    (record {
      reply = None;
      shared = place_client own.who (Some (new_client (min most_cap (free_in hub)))) shared;
      own = record (blank own.who own.capacity) { cap = min most_cap (free_in hub) };
    })) (ne_eqb (free_in hub) 0 room)

-- a refused join leaves the hub as it was
pub busy_join : (who : ℕ) (hub : HubView) → is_some (client_in hub who) ≡ true → IsJoin who (Err refusal.Busy) hub hub
busy_join who hub live = record {
  replies = λ shared own is shows. sym (ap (λ (t : Turned (Option JoinRefusal)). t.reply) (at shared own is shows));
  shows = λ shared own is shows. subst (λ (s : Shared). Shows s hub) (sym (ap (λ (t : Turned (Option JoinRefusal)). t.shared) (at shared own is shows))) shows;
  owns = λ shared own is shows. tt;
}
  where
    at : (shared : Shared) (own : Own) → own.who ≡ who → Shows shared hub → join shared own ≡ record { reply = Some refusal.Busy; shared = shared; own = own }
    at shared own is shows = busy shared hub own shows (ap (λ n. is_some (client_in hub n)) is ∙ live)

pub full_join : (who entries : ℕ) (hub : HubView) → Whole hub → is_some (client_in hub who) ≡ false → free_in hub ≡ 0 → entries ≡ entry_count hub.trail
    → IsJoin who (Err (refusal.TrailFull entries)) hub hub
full_join who entries hub sound gone none count = record {
  replies = λ shared own is shows. ap (λ n. Some (refusal.TrailFull n)) count ∙ sym (ap (λ (t : Turned (Option JoinRefusal)). t.reply) (at shared own is shows));
  shows = λ shared own is shows. subst (λ (s : Shared). Shows s hub) (sym (ap (λ (t : Turned (Option JoinRefusal)). t.shared) (at shared own is shows))) shows;
  owns = λ shared own is shows. tt;
}
  where
    at : (shared : Shared) (own : Own) → own.who ≡ who → Shows shared hub
        → join shared own ≡ record { reply = Some (refusal.TrailFull (entry_count hub.trail)); shared = shared; own = own }
    at shared own is shows = full shared hub own shows sound (ap (λ n. is_some (client_in hub n)) is ∙ gone) none

-- a hub stays well formed as a client joins
pub joined_formed : (hub : HubView) (who cap : ℕ) → IsWellFormed hub → IsClient who → IsWellFormed (with_client hub who cap)
joined_formed hub who cap formed client =
    formed_changed hub hub.trail who (Some (new_client_view cap)) hub.pages formed client (λ ask inside. absurd (omega (arith, inside.1)))
    refl refl formed.holders (λ other page is apart. refl) (λ page is. formed.framed who page is) (λ page is. is) formed.modified

-- after a join the hub stands for the machine after it
joined_shows : (shared : Shared) (hub : HubView) (who cap : ℕ) → Shows shared hub → Whole hub → IsClient who → is_some (client_in hub who) ≡ false
    → Shows (place_client who (Some (new_client cap)) shared) (with_client hub who cap)
joined_shows shared hub who cap shows sound client gone =
    shows_after who shared (place_client who (Some (new_client cap)) shared) hub (with_client hub who cap) shows sound
    (record {
      trail = shows.trail;
      more = [];
      grows = sym (append-nil hub.trail);
      limit = refl;
      limit_too = refl;
      pages = refl;
      pages_too = refl;
      stabilisations = shows.stabilisations;
      places = length-set shared.clients who (Some (new_client cap));
      clients = λ other apart. client_unplaced who (Some (new_client cap)) shared other apart;
      clients_too = λ other apart. get_or-set_other hub.clients who other (Some (new_client_view cap)) None apart;
      holders = sound.holders;
      rights = λ other page is apart. refl;
    })
    (subst (λ place. ShowsClient hub.trail place (client_in (with_client hub who cap) who)) (sym there)
    (subst (λ shown. ShowsClient hub.trail (Some (new_client cap)) shown) (sym here)
    (record {
      cap = refl;
      asks = refl;
      kept = refl;
      fallen = refl;
    })))
    (λ page right.
    ap (λ place. allows (of_client [] (λ (client : Client). client.rights) place) page right) there
    ∙ sym (ap (λ one. permits one right) (rights_of_absent shared hub shows who page (nobody_there (client_in hub who) gone))))
  where
    there : client_at (place_client who (Some (new_client cap)) shared) who ≡ Some (new_client cap)
    there = client_placed who (Some (new_client cap)) shared (let most = client.1 in let long = shows.places in omega arith)

    here : client_in (with_client hub who cap) who ≡ Some (new_client_view cap)
    here = get_or-set_same hub.clients who (Some (new_client_view cap)) None (let most = client.1 in let long = sound.places in omega arith)

pub made_join : (who cap : ℕ) (hub : HubView) (done : Unit {0}) → Whole hub → IsClient who → is_some (client_in hub who) ≡ false → free_in hub ≢ 0 → cap ≡ min most_cap (free_in hub)
    → IsJoin who (Ok done) hub (with_client hub who cap)
made_join who cap hub done sound client gone room capped = record {
  replies = λ shared own is shows. sym (ap (λ (t : Turned (Option JoinRefusal)). t.reply) (at shared own is shows));
  shows = λ shared own is shows.
      subst (λ (s : Shared). Shows s (with_client hub who cap)) (sym (ap (λ (t : Turned (Option JoinRefusal)). t.shared) (at shared own is shows)))
      (joined_shows shared hub who cap shows sound client gone);
  owns = λ shared own is shows. ap (λ (t : Turned (Option JoinRefusal)). t.own) (at shared own is shows) ∙ ap (λ n. record (blank who own.capacity) { cap = n }) (sym here);
}
  where
    here : cap_in (with_client hub who cap) who ≡ cap
    here = ap cap_of (get_or-set_same hub.clients who (Some (new_client_view cap)) None (let most = client.1 in let long = sound.places in omega arith))

    at : (shared : Shared) (own : Own) → own.who ≡ who → Shows shared hub
        → join shared own ≡ record { reply = None; shared = place_client who (Some (new_client cap)) shared; own = record (blank who own.capacity) { cap = cap } }
    at shared own is shows =
        made shared hub own shows sound (ap (λ n. is_some (client_in hub n)) is ∙ gone) room
        ∙ ap₂ (λ n c. record { reply = None; shared = place_client n (Some (new_client c)) shared; own = record (blank n own.capacity) { cap = c } }) is (sym capped)

-- from a good shared part the machine's join leads to a good one, from which the others have what they may rely on
join_kept : (hub : HubView) (who capacity : ℕ) → IsClient who → is_some (client_in hub who) ≡ false → (shared : Shared) → Shows shared hub → IsGoodShared shared
    → KeptByTurn shared (blank who capacity) (join shared (blank who capacity)).shared (join shared (blank who capacity)).own
join_kept hub who capacity client gone shared shows good =
    each_turn_keeps shared (blank who capacity) (join shared (blank who capacity)).shared (join shared (blank who capacity)).own MachineTurn.joining good (record {
      client = client;
      agrees = subst (λ place. Agrees place (blank who capacity)) (sym (absent_shown shared hub shows who (nobody_there (client_in hub who) gone))) (refl, refl);
      room = omega arith;
      few = omega arith;
      most = omega arith;
      calls = λ up call inside. absurd (omega (arith, inside.1));
    })

module _ (hub : HubView) (who cap : ℕ) (sound : Whole hub) (client : IsClient who) (gone : is_some (client_in hub who) ≡ false) (room : free_in hub ≢ 0)
    (capped : cap ≡ min most_cap (free_in hub)) where
  goes_joined : (between : Shared → Shared → Type 0)
      → ((shared : Shared) → KeptByTurn shared (blank who 0) (join shared (blank who 0)).shared (join shared (blank who 0)).own → between shared (join shared (blank who 0)).shared)
      → GoesOn between hub (with_client hub who cap)
  goes_joined between from =
      going between hub (with_client hub who cap)
      (λ shared shows good.
      let kept = join_kept hub who 0 client gone shared shows good in
      record {
        next = (join shared (blank who 0)).shared;
        shows = (made_join who cap hub tt sound client gone room capped).shows shared (blank who 0) refl shows;
        good = kept.good;
        comes = from shared kept;
      })

  pub joined_others : (other : ℕ) → other ≢ who → KeepsClient other hub (with_client hub who cap)
  joined_others other apart = goes_joined (SharedKeepsClient other) (λ shared kept. kept.others other apart)

  pub joined_still : CommitsNothing hub (with_client hub who cap)
  joined_still = goes_joined SharedCommitsNothing (λ shared kept. kept.still)

  pub joined_sound : IsSound (with_client hub who cap)
  joined_sound =
      let before = stands_for hub sound.sound.stands in
      let one = goes_from SharedCommitsNothing hub (with_client hub who cap) joined_still before.shared before.shows before.good in
      record {
        formed = joined_formed hub who cap sound.sound.formed client;
        stands = standing (with_client hub who cap) (record { shared = one.next; shows = one.shows; good = one.good });
      }

  -- and a new cache is that of the client
  pub joined_owned : (capacity : ℕ) → 8 ≤ capacity → capacity ≤ 1024 → Owns (with_client hub who cap) (new_cache who capacity (cap_in (with_client hub who cap) who))
  joined_owned capacity least most = record {
    sound = record { distinct = tt; few = omega arith; pending = omega arith; least = least; most = most };
    few = omega arith;
    live = ap is_some (changed_here hub hub.trail who (Some (new_client_view cap)) hub.pages sound.places client);
    good = good_with_each (with_client hub who cap) (own_of (new_cache who capacity (cap_in (with_client hub who cap) who))) (λ other shows good.
        good_too (join shared (blank who capacity)).shared other (with_client hub who cap) (own_of (new_cache who capacity (cap_in (with_client hub who cap) who)))
        (joins.shows shared (blank who capacity) refl (stands_for hub sound.sound.stands).shows) shows good
        (subst (IsGoodWith (join shared (blank who capacity)).shared) (joins.owns shared (blank who capacity) refl (stands_for hub sound.sound.stands).shows)
        (join_kept hub who capacity client gone shared (stands_for hub sound.sound.stands).shows (stands_for hub sound.sound.stands).good).mine));
  }
    where
      shared : Shared
      shared = (stands_for hub sound.sound.stands).shared

      joins : IsJoin who (Ok tt) hub (with_client hub who cap)
      joins = made_join who cap hub tt sound client gone room capped
