use Rattle.std.proofs.Common.{◌≡◌, ℕ, suc, ◌+◌, ◌-◌, List, [], ◌∷◌, Bool, true, false, cond, ◌&&◌, ◌||◌, ◌==◌, length, refl, sym, ap, ap₂, ◌∙◌, subst, true≢false, eqb-true, arith}
use Rattle.std.specs.Prelude.{Option, None, Some, is_some, option_map, option_and_then, slice_get, sum_by, slice_index_or}
use Rattle.std.specs.List.{list_any}
use Rattle.std.proofs.lemmas.List.Sums.{sum_by-cons}
use Rattle.casper_words.specs.declared.page.Right.{Right}
use Rattle.casper_words.specs.declared.page.Right.TheVariants as may
use Rattle.casper_trail.specs.TrailView.{entry_count}
use Rattle.casper_dir.specs.declared.holders.Holders.{Holders}
use Rattle.casper_dir.specs.declared.holders.Holders.TheVariants.{Readers, Writer}
use Rattle.casper_dir.specs.Holding.{right_in as right_among}
use Rattle.casper_cache.specs.declared.held.Held.{Held}
use Rattle.casper_cache.specs.Holding.{entry_of, right_of, ArePagesDistinct}
use Rattle.casper_model.specs.Held.{covers, allows}
use Rattle.casper_model.specs.Client.{Client}
use Rattle.casper_model.specs.Shared.{Shared, client_at, asks_at, fallen_at, is_live, of_client}
use Rattle.casper_model.specs.Room.{all_caps, free_room}
use Rattle.casper_model.specs.Rights.{OneWriterOrReaders}
use Rattle.casper_model.proofs.Caps as caps
use Rattle.casper_model.specs.View.{seen_by}
use Rattle.casper_trail.specs.declared.item.Item.{Item}
use Rattle.casper_trail.specs.Parts.{live_entries}
use Rattle.casper_hub.specs.HubView.{HubView, ClientView, FallenView, client_in, cap_of, caps_of, asks_of, free_in, fallen_in, items_behind, items_seen}
use Rattle.casper_hub.specs.HubView.{is_live as live_in}
use Rattle.casper_hub.specs.Shows.{permits, fallen_of, Shows, ShowsClient}
use Rattle.casper_hub.specs.Owned.{wants_of}

-- what a test finds in none of the other entries, it finds nowhere
none_found : (page : ℕ) (right : Right) (held : List Held) → entry_of page held ≡ None → allows (wants_of held) page right ≡ false
none_found page right [] none = refl
none_found page right (entry ∷ held) none =
    (elim (entry.page == page) as (λ b. cond b (Some entry) (entry_of page held) ≡ None → ((b && covers entry.right right) || allows (wants_of held) page right) ≡ false) [
      | true ↦ λ is. absurd (true≢false (ap is_some is))
      | false ↦ λ is. none_found page right held is
    ]) none

-- the pages that a cache holds allow what the right to each page permits
pub allows_right : (held : List Held) → ArePagesDistinct held → (page : ℕ) (right : Right) → allows (wants_of held) page right ≡ permits (right_of page held) right
allows_right [] distinct page right = refl
allows_right (entry ∷ held) distinct page right =
    (elim (entry.page == page) as (λ b. (entry.page == page) ≡ b →
    ((b && covers entry.right right) || allows (wants_of held) page right) ≡ permits (option_map (λ (e : Held). e.right) (cond b (Some entry) (entry_of page held))) right) [
      | true ↦ λ is.
          let none : allows (wants_of held) page right ≡ false =
          none_found page right held (subst (λ p. entry_of p held ≡ None) (eqb-true entry.page page is) distinct.0) in
          ap (λ rest. covers entry.right right || rest) none ∙ or_false (covers entry.right right)
      | false ↦ λ is. allows_right held distinct.1 page right
    ]) refl
  where
    or_false : (b : Bool) → (b || false) ≡ b
    or_false true = refl
    or_false false = refl

asks_shown_by : (hub : HubView) (place : Option Client) (shown : Option ClientView) → ShowsClient hub.trail place shown
    → of_client [] (λ client. client.asks) place ≡ asks_of shown
asks_shown_by hub None None shows = refl
asks_shown_by hub None (Some shown) shows = absurd shows
asks_shown_by hub (Some client) None shows = absurd shows
asks_shown_by hub (Some client) (Some shown) shows = shows.asks

-- and its asks are those of the hub
pub asks_shown : (shared : Shared) (hub : HubView) → Shows shared hub → (who : ℕ) → asks_at shared who ≡ asks_of (client_in hub who)
asks_shown shared hub shows who = asks_shown_by hub (client_at shared who) (client_in hub who) (shows.clients who)

cap_shown_by : (hub : HubView) (place : Option Client) (shown : Option ClientView) → ShowsClient hub.trail place shown
    → caps.cap_in place ≡ cap_of shown
cap_shown_by hub None None shows = refl
cap_shown_by hub None (Some shown) shows = absurd shows
cap_shown_by hub (Some client) None shows = absurd shows
cap_shown_by hub (Some client) (Some shown) shows = shows.cap

-- lists of the same length whose values agree place by place have the same sum
sums_agree : {X Y : Type 0} (f : X → ℕ) (g : Y → ℕ) (x : X) (y : Y) (xs : List X) (ys : List Y) → length xs ≡ length ys
    → ((at : ℕ) → f (slice_index_or xs at x) ≡ g (slice_index_or ys at y)) → sum_by f xs ≡ sum_by g ys
sums_agree f g x y [] [] long same = refl
sums_agree f g x y [] (b ∷ ys) long same = absurd (omega (arith, long))
sums_agree f g x y (a ∷ xs) [] long same = absurd (omega (arith, long))
sums_agree f g x y (a ∷ xs) (b ∷ ys) long same =
    sum_by-cons f a xs ∙ ap₂ (λ first rest. first + rest) (same 0) (sums_agree f g x y xs ys (omega (arith, long)) (λ at. same (suc at))) ∙ sym (sum_by-cons g b ys)

-- the caps are those of the hub, and so is the free room
pub caps_shown : (shared : Shared) (hub : HubView) → Shows shared hub → length hub.clients ≡ 33 → all_caps shared ≡ caps_of hub.clients
caps_shown shared hub shows places =
    sums_agree (of_client 0 (λ client. client.cap)) cap_of None None shared.clients hub.clients (shows.places ∙ sym places)
    (λ who. cap_shown_by hub (client_at shared who) (client_in hub who) (shows.clients who))

pub free_shown : (shared : Shared) (hub : HubView) → Shows shared hub → length hub.clients ≡ 33 → free_room shared ≡ free_in hub
free_shown shared hub shows places =
    let limit = shows.limit in
    let entries : entry_count shared.trail ≡ entry_count hub.trail = ap entry_count shows.trail in
    let caps = caps_shown shared hub shows places in
    ap₂ (λ a b. a - b) (ap₂ (λ a b. a - b) limit entries) caps

-- whether a client is live, and whether it has fallen, is what the hub knows
live_shown_by : (trail : List Item) (place : Option Client) (shown : Option ClientView) → ShowsClient trail place shown → is_some place ≡ is_some shown
live_shown_by trail None None shows = refl
live_shown_by trail None (Some shown) shows = absurd shows
live_shown_by trail (Some client) None shows = absurd shows
live_shown_by trail (Some client) (Some shown) shows = refl

pub liveness_shown : (shared : Shared) (hub : HubView) → Shows shared hub → (who : ℕ) → is_live shared who ≡ live_in hub who
liveness_shown shared hub shows who = live_shown_by hub.trail (client_at shared who) (client_in hub who) (shows.clients who)

fallen_shown_by : (trail : List Item) (place : Option Client) (shown : Option ClientView) → ShowsClient trail place shown
    → of_client None (λ client. client.fallen) place ≡ option_map (fallen_of trail) (option_and_then (λ (one : ClientView). one.fallen) shown)
fallen_shown_by trail None None shows = refl
fallen_shown_by trail None (Some shown) shows = absurd shows
fallen_shown_by trail (Some client) None shows = absurd shows
fallen_shown_by trail (Some client) (Some shown) shows = shows.fallen

pub fall_shown : (shared : Shared) (hub : HubView) → Shows shared hub → (who : ℕ) → fallen_at shared who ≡ option_map (fallen_of hub.trail) (fallen_in hub who)
fall_shown shared hub shows who = fallen_shown_by hub.trail (client_at shared who) (client_in hub who) (shows.clients who)

pub up_shown : (shared : Shared) (hub : HubView) → Shows shared hub → (who : ℕ) → fallen_in hub who ≡ None → fallen_at shared who ≡ None
up_shown shared hub shows who up = fall_shown shared hub shows who ∙ ap (option_map (fallen_of hub.trail)) up

-- what a client sees of the trail
seen_behind : (shared : Shared) (trail : List Item) → shared.trail ≡ trail → (fallen : Option FallenView)
    → seen_by shared (option_map (fallen_of trail) fallen) ≡ live_entries (items_behind trail fallen)
seen_behind shared trail same None = ap live_entries same
seen_behind shared trail same (Some fallen) = refl

pub seen_shown : (shared : Shared) (hub : HubView) → Shows shared hub → (who : ℕ) → seen_by shared (fallen_at shared who) ≡ live_entries (items_seen hub who)
seen_shown shared hub shows who = ap (seen_by shared) (fall_shown shared hub shows who) ∙ seen_behind shared hub.trail shows.trail (fallen_in hub who)

-- what a page permits to one client as its writer, it permits to no other
holders_exclude : (holders : Option Holders) (one other : ℕ) → permits (option_and_then (right_among one) holders) may.Write ≡ true
    → permits (option_and_then (right_among other) holders) may.Read ≡ true → one ≡ other
holders_exclude None one other writes reads = absurd (true≢false (sym writes))
holders_exclude (Some (Readers crew)) one other writes reads =
    let never : permits (cond (list_any (λ member. member == one) crew) (Some may.Read) None) may.Write ≡ false =
    elim (list_any (λ member. member == one) crew) as (λ b. permits (cond b (Some may.Read) None) may.Write ≡ false) [ true ↦ refl | false ↦ refl ] in
    absurd (true≢false (sym writes ∙ never))
holders_exclude (Some (Writer who)) one other writes reads = is_writer one may.Write writes ∙ sym (is_writer other may.Read reads)
  where
    is_writer : (client : ℕ) (right : Right) → permits (cond (client == who) (Some may.Write) None) right ≡ true → client ≡ who
    is_writer client right permitted =
        (elim (client == who) as (λ b. (client == who) ≡ b → permits (cond b (Some may.Write) None) right ≡ true → client ≡ who) [
          | true ↦ λ is _. eqb-true client who is
          | false ↦ λ is never. absurd (true≢false (sym never))
        ]) refl permitted

-- so the machine's rights have one writer or many readers for each page
pub exclusive_shown : (shared : Shared) (hub : HubView) → Shows shared hub → OneWriterOrReaders shared
exclusive_shown shared hub shows one other page writes reads =
    holders_exclude (slice_get hub.pages.rights page) one other
    (sym (shows.rights one page may.Write) ∙ writes)
    (sym (shows.rights other page may.Read) ∙ reads)
