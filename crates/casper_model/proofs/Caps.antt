use Rattle.std.proofs.Common.{◌≡◌, ◌≢◌, ◌⊎◌, ◌<◌, ◌≤◌, ℕ, suc, ◌+◌, ◌-◌, List, [], ◌∷◌, cond, ◌==◌, length, set, get_or, get_or-set_same, get_or-set_other, length-set, refl, sym, ap, ap₂, ◌∙◌, subst, inl, inr, arith}
use Rattle.std.proofs.Math.Nat.{min-le_right}
use Rattle.std.specs.Prelude.{Option, None, Some, option_map, sum_by}
use Rattle.std.proofs.lemmas.Bool.{cases_eq, cond_both}
use Rattle.std.proofs.lemmas.List.{ext_get_or, length-map}
use Rattle.std.proofs.lemmas.List.Sums.{sum_by-cons, sum_by-set}
use Rattle.casper_trail.specs.Calls.{entry_by, entries_by}
use Rattle.casper_trail.specs.TrailView.{entry_count}
use Rattle.casper_trail.proofs.CallLists.{count_of_more_entries}
use Rattle.casper_model.specs.Client.{Client}
use Rattle.casper_model.specs.Stabilisation.{Stabilisation}
use Rattle.casper_model.specs.Shared.{Shared, client_at, of_client, change_from, each_client, change_client, place_client}
use Rattle.casper_model.specs.Own.{Own}
use Rattle.casper_model.specs.Both.{Both, agreed}
use Rattle.casper_model.specs.Room.{most_cap, all_caps, free_room}
use Rattle.casper_model.specs.Opening.{kept_dropped, recorded, topped_up, begun, given_up, handed_in, handed_in_to, gathering_of, opened}
use Rattle.casper_model.specs.RoomLaw.{IsWithin}
use Rattle.casper_model.proofs.Places.{client_changed, client_unchanged}
use Rattle.casper_model.proofs.OpeningRights.{IsUp, IsKnown, up_changed, known_agreed, places_agreed, places_changed}

-- how many entries are promised to whom stands at a place
abbrev pub cap_in : Option Client → ℕ
cap_in place = of_client 0 (λ client. client.cap) place

-- one client changed is its place set
clients_set : (who : ℕ) (change : Client → Client) (shared : Shared) → who < length shared.clients
    → (change_client who change shared).clients ≡ set shared.clients who (option_map change (client_at shared who))
clients_set who change shared below =
    ext_get_or None (change_client who change shared).clients (set shared.clients who (option_map change (client_at shared who)))
    (places_changed who change shared ∙ sym (length-set shared.clients who (option_map change (client_at shared who))))
    (λ number inside. at number (cases_eq number who))
  where
    at : (number : ℕ) → (number ≡ who) ⊎ (number ≢ who)
        → client_at (change_client who change shared) number ≡ get_or (set shared.clients who (option_map change (client_at shared who))) number None
    at number (inl same) =
        subst (λ one. client_at (change_client who change shared) one ≡ get_or (set shared.clients who (option_map change (client_at shared who))) one None) (sym same)
        (client_changed who change shared ∙ sym (get_or-set_same shared.clients who (option_map change (client_at shared who)) None below))
    at number (inr apart) =
        client_unchanged who change shared number apart ∙ sym (get_or-set_other shared.clients who number (option_map change (client_at shared who)) None apart)

-- the caps with one changed
caps_changed : (who : ℕ) (change : Client → Client) (shared : Shared) → who < length shared.clients
    → all_caps (change_client who change shared) + cap_in (client_at shared who) ≡ all_caps shared + cap_in (option_map change (client_at shared who))
caps_changed who change shared below =
    ap (λ places. sum_by cap_in places + cap_in (client_at shared who)) (clients_set who change shared below)
    ∙ sum_by-set cap_in shared.clients who (option_map change (client_at shared who)) None below

pub caps_placed : (who : ℕ) (place : Option Client) (shared : Shared) → who < length shared.clients
    → all_caps (place_client who place shared) + cap_in (client_at shared who) ≡ all_caps shared + cap_in place
caps_placed who place shared below = sum_by-set cap_in shared.clients who place None below

-- the caps with each client changed, but no cap
pub caps_each : (change : ℕ → Client → Client) → ((who : ℕ) (client : Client) → (change who client).cap ≡ client.cap) → (shared : Shared)
    → all_caps (each_client change shared) ≡ all_caps shared
caps_each change same shared = from 0 shared.clients
  where
    at : (number : ℕ) (place : Option Client) → cap_in (option_map (change number) place) ≡ cap_in place
    at number None = refl
    at number (Some client) = same number client

    from : (number : ℕ) (places : List (Option Client)) → sum_by cap_in (change_from number change places) ≡ sum_by cap_in places
    from number [] = refl
    from number (place ∷ places) =
        sum_by-cons cap_in (option_map (change number) place) (change_from (suc number) change places)
        ∙ ap₂ (λ one rest. one + rest) (at number place) (from (suc number) places) ∙ sym (sum_by-cons cap_in place places)

-- a change that keeps the caps of all
pub caps_same : (who : ℕ) (change : Client → Client) → ((client : Client) → (change client).cap ≡ client.cap) → (shared : Shared)
    → all_caps (change_client who change shared) ≡ all_caps shared
caps_same who change same shared =
    caps_each (λ number client. cond (number == who) (change client) client)
    (λ number client. cond_both (number == who) (change client) client (λ (one : Client). one.cap ≡ client.cap) (λ is. same client) (λ other. refl)) shared

-- a client that is not fallen, and whose cap is known
pub record IsCapped (shared : Shared) (own : Own) : Type 0 where
  pub client : Client
  pub live : client_at shared own.who ≡ Some client
  pub up : client.fallen ≡ None
  pub cap : client.cap ≡ own.cap

pub capped : (shared : Shared) (own : Own) → IsKnown shared own → IsCapped shared own
capped shared own known = record { client = known.client; live = known.live; up = known.up; cap = known.cap }

up_capped : (shared : Shared) (own : Own) → IsCapped shared own → IsUp shared own.who
up_capped shared own known = record { client = known.client; live = known.live; up = known.up }

-- the parts of a turn: the client's cap is known, and all is within the limit
pub record IsRoomy (shared : Shared) (own : Own) : Type 0 where
  pub known : IsCapped shared own
  pub below : own.who < length shared.clients
  pub within : IsWithin shared

-- a change of the cap, with the trail as it is to be
pub caps_agreed : (shared : Shared) (own own_after : Own) → IsCapped shared own → own.who < length shared.clients → own_after.who ≡ own.who
    → all_caps (agreed shared own_after).shared + own.cap ≡ all_caps shared + own_after.cap
caps_agreed shared own own_after known below same =
    let change : Client → Client = λ client. record client { cap = own_after.cap; rights = own_after.held } in
    let here : client_at shared own_after.who ≡ Some known.client = ap (client_at shared) same ∙ known.live in
    let before : cap_in (client_at shared own_after.who) ≡ own.cap = ap cap_in here ∙ known.cap in
    let after : cap_in (option_map change (client_at shared own_after.who)) ≡ own_after.cap = ap (λ place. cap_in (option_map change place)) here in
    ap (λ cap. all_caps (agreed shared own_after).shared + cap) (sym before)
    ∙ caps_changed own_after.who change shared (subst (λ number. number < length shared.clients) (sym same) below)
    ∙ ap (λ cap. all_caps shared + cap) after

-- the same cap agreed on
pub roomy_same : (shared : Shared) (own own_after : Own) → IsRoomy shared own → own_after.who ≡ own.who → own_after.cap ≡ own.cap → IsRoomy (agreed shared own_after).shared own_after
roomy_same shared own own_after roomy who cap = record {
  known = capped (agreed shared own_after).shared own_after
      (known_agreed shared own_after (record { client = roomy.known.client; live = ap (client_at shared) who ∙ roomy.known.live; up = roomy.known.up }));
  below = subst (λ number. number < length (agreed shared own_after).shared.clients) (sym who)
      (subst (λ count. own.who < count) (sym (places_agreed shared own_after)) roomy.below);
  within =
      let caps = caps_agreed shared own own_after roomy.known roomy.below who in
      omega (arith, caps, cap, roomy.within);
}

-- an opening
pub first_roomy : (shared : Shared) (own : Own) → IsRoomy shared own → length own.pending ≤ own.cap
    → IsRoomy (recorded (kept_dropped own.who shared) own).shared (recorded (kept_dropped own.who shared) own).own
first_roomy shared own roomy pending =
    let drop : Client → Client = λ client. record client { kept = None } in
    let dropped = kept_dropped own.who shared in
    let is = up_changed own.who drop shared (λ client up. up) (up_capped shared own roomy.known) in
    let known : IsCapped dropped own = record {
      client = drop roomy.known.client;
      live = client_changed own.who drop shared ∙ ap (option_map drop) roomy.known.live;
      up = roomy.known.up;
      cap = roomy.known.cap;
    } in
    let both = recorded dropped own in
    let longer : Shared = record dropped { trail = both.shared.trail } in
    let still : IsCapped longer own = record { client = known.client; live = known.live; up = known.up; cap = known.cap } in
    let below : own.who < length dropped.clients = subst (λ count. own.who < count) (sym (places_changed own.who drop shared)) roomy.below in
    let caps : all_caps both.shared + own.cap ≡ all_caps longer + (own.cap - length own.pending) = caps_agreed longer own both.own still below refl in
    let same : all_caps longer ≡ all_caps shared = caps_same own.who drop (λ client. refl) shared in
    let count : entry_count both.shared.trail ≡ entry_count shared.trail + length own.pending =
    count_of_more_entries shared.trail (entries_by own.who own.pending) ∙ ap (λ n. entry_count shared.trail + n) (length-map own.pending (entry_by own.who)) in
    record {
      known = capped both.shared both.own (known_agreed longer both.own (record { client = still.client; live = still.live; up = still.up }));
      below = subst (λ places. own.who < places) (sym (places_agreed longer both.own)) below;
      within = omega (arith, caps, same, count, pending, roomy.within);
    }

pub topped_roomy : (both : Both) → IsRoomy both.shared both.own → IsRoomy (topped_up both).shared (topped_up both).own
topped_roomy both roomy =
    let after = topped_up both in
    let caps : all_caps after.shared + both.own.cap ≡ all_caps both.shared + after.own.cap = caps_agreed both.shared both.own after.own roomy.known roomy.below refl in
    let most : after.own.cap ≤ both.own.cap + free_room both.shared = min-le_right most_cap (both.own.cap + free_room both.shared) in
    record {
      known = capped after.shared after.own (known_agreed both.shared after.own (up_capped both.shared both.own roomy.known));
      below = subst (λ places. both.own.who < places) (sym (places_agreed both.shared after.own)) roomy.below;
      within = omega (arith, caps, most, roomy.within);
    }

handed_roomy : (both : Both) (one : Option Stabilisation) → IsRoomy both.shared both.own → IsRoomy (handed_in_to both one).shared (handed_in_to both one).own
handed_roomy both None roomy = roomy
handed_roomy both (Some one) roomy =
    let after = roomy_same both.shared both.own (handed_in both).own roomy refl refl in
    record {
      known = record { client = after.known.client; live = after.known.live; up = after.known.up; cap = after.known.cap };
      below = after.below;
      within = after.within;
    }

pub opened_roomy : (shared : Shared) (own : Own) → IsRoomy shared own → length own.pending ≤ own.cap → IsRoomy (opened shared own).shared (opened shared own).own
opened_roomy shared own roomy pending =
    let first = recorded (kept_dropped own.who shared) own in
    let second = begun shared own in
    let third = given_up second in
    let one : IsRoomy second.shared second.own = topped_roomy first (first_roomy shared own roomy pending) in
    handed_roomy third (gathering_of third.shared third.own.who) (roomy_same second.shared second.own third.own one refl refl)
