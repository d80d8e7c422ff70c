use Rattle.std.proofs.Common.{⊎_elim, ◌≡◌, ◌≢◌, ◌<◌, ◌≤◌, ℕ, suc, ◌∙◌, List, [], ◌∷◌, ◌++◌, Bool, true, false, ◌&&◌, ◌||◌, ◌==◌, fold, length, get_or-set_same, filter_map, refl, sym, ap, subst, true≢false, Contains, arith}
use Rattle.std.specs.Prelude.{Option, None, Some, IsSome, is_some, option_map, option_and_then, MatchOption, min}
use Rattle.std.specs.List.{cons_option, list_any}
use Rattle.std.proofs.Math.Nat.{min-le_right}
use Rattle.std.proofs.lemmas.Bool.{false_from_ne_true, and_parts, or_cases, or_parts, eqb-true}
use Rattle.casper_words.specs.declared.call.Op.{Op}
use Rattle.casper_words.specs.declared.call.Op.TheVariants as op
use Rattle.casper_words.specs.declared.call.Call.{Call}
use Rattle.casper_words.specs.declared.page.Right.{Right}
use Rattle.casper_words.specs.declared.page.Right.TheVariants as may
use Rattle.casper_words.specs.declared.page.Want.{Want}
use Rattle.casper_trail.specs.declared.entry.Entry.{Entry}
use Rattle.casper_trail.specs.Value.{value_of, value_after, writes_page, is_write}
use Rattle.casper_trail.specs.Modified.{is_modified}
use Rattle.casper_trail.specs.Parts.{as_items, live_entries}
use Rattle.casper_trail.specs.Calls.{entries_by}
use Rattle.casper_trail.proofs.Parts.{live_of_more_entries}
use Rattle.casper_dir.specs.Rights.{right_at, writer_at}
use Rattle.casper_dir.proofs.EqualRights.{writer_holds_to_write}
use Rattle.casper_cache.specs.declared.held.Held.{Held}
use Rattle.casper_cache.specs.Holding.{entry_of, right_of, ArePagesDistinct}
use Rattle.casper_cache.specs.Own as cache
use Rattle.casper_cache.proofs.Entries.{entry_of-page}
use Rattle.casper_model.specs.LegalHistory.{right_for}
use Rattle.casper_model.proofs.Entries.{contains_entry}
use Rattle.casper_turns.proofs.Lists.{any_found, none_passes}
use Rattle.casper_hub.specs.HubView.{HubView, ClientView, PagesView, client_in, cap_in, cap_of, asks_of, fallen_in, is_live, free_in, with_cap, begun_with, frame_in, items_behind}
use Rattle.casper_hub.specs.Words.{live_value, stored_value, seen_value, AreWords, HasNoOpenWriter, ServerIsRight, HeldIsRight, FramesAreRight, CacheIsRight}
use Rattle.casper_hub.specs.Shows.{permits}
use Rattle.casper_hub.specs.Given.{Covers, GivesUp, Falls, left_of, kept_as, topped}
use Rattle.casper_hub.specs.Stages.{Opens}
use Rattle.casper_hub.specs.Sound.{IsWellFormed}
use Rattle.casper_hub.proofs.Whole.{Whole, Owning}
use Rattle.casper_hub.proofs.ServedTurns.{met_whole}
use Rattle.casper_hub.proofs.Showing.{allows_right}
use Rattle.casper_hub.proofs.Left.{entry_of-kept, distinct-kept}
use Rattle.casper_hub.proofs.Giving.{writes_before, held_right_kept}
use Rattle.casper_hub.proofs.Relying.{seen_plain, same_held, same_words}
use Rattle.casper_hub.proofs.Changing.{live_elsewhere, stored_stays, modified_more, formed_changed}

-- each of these calls that writes is on a page that its client may write
abbrev pub WritesAreHeld : ℕ → PagesView → List Call → Type 0
WritesAreHeld who pages calls = (call : Call) → Contains calls call → is_write call.op ≡ true → right_at pages.rights who call.page ≡ Some may.Write

-- what a turn finds as it opens: a sound hub, where the client is live, has not fallen and has the cap of its cache, and a cache that covers its rights and
-- has room for its pending calls, whose writes have their rights
pub record Begins (who : ℕ) (hub : HubView) (own : cache.Own) : Type 0 where
  pub sound : Whole hub
  pub live : is_live hub who ≡ true
  pub up : fallen_in hub own.client ≡ None
  pub cap : cap_in hub who ≡ own.cap
  pub client : own.client ≡ who
  pub covers : Covers who hub.pages own.held
  pub room : length own.pending ≤ own.cap
  pub writes : WritesAreHeld who hub.pages own.pending

-- a right that permits to write is the right to write
writes_permitted : (right : Option Right) → permits right may.Write ≡ true → right ≡ Some may.Write
writes_permitted None is = absurd (true≢false (sym is))
writes_permitted (Some may.Read) is = absurd (true≢false (sym is))
writes_permitted (Some may.Write) is = refl

-- what a client owns covers its rights
pub covers_owned : (hub : HubView) (own : cache.Own) → Whole hub → Owning hub own → Covers own.client hub.pages own.held
covers_owned hub own sound owns = record {
  client = owns.client;
  holders = sound.holders;
  frames_count = sound.frames;
  distinct = owns.sound.distinct;
  held_so = λ page right is. sym (owns.rights page) ∙ is;
  framed = λ page is. sound.framed own.client page is;
}

-- and its pending writes have their rights
pub writes_owned : (hub : HubView) (own : cache.Own) → Whole hub → Owning hub own → WritesAreHeld own.client hub.pages own.pending
writes_owned hub own sound owns call inside writes =
    owns.rights call.page
    ∙ writes_permitted (right_of call.page own.held)
    (ap (permits (right_of call.page own.held)) (sym (needs call.op writes)) ∙ sym (allows_right own.held owns.sound.distinct call.page (right_for call.op)) ∙ owns.calls call inside)
  where
    needs : (act : Op) → is_write act ≡ true → right_for act ≡ may.Write
    needs op.Read e = absurd (true≢false (sym e))
    needs op.Write e = refl
    needs op.Touch e = absurd (true≢false (sym e))

pub begins_owned : (hub : HubView) (own : cache.Own) → Whole hub → Owning hub own → Begins own.client hub own
begins_owned hub own sound owns = record {
  sound = sound;
  live = owns.live;
  up = owns.up;
  cap = owns.cap;
  client = refl;
  covers = covers_owned hub own sound owns;
  room = let few = owns.sound.pending in let low : min 4096 own.cap ≤ own.cap = min-le_right 4096 own.cap in omega (arith, few, low);
  writes = writes_owned hub own sound owns;
}

-- a live client with another cap
pub live_with_cap : (cap : ℕ) (place : Option ClientView) → is_some (with_cap cap place) ≡ is_some place
live_with_cap cap None = refl
live_with_cap cap (Some client) = refl

pub fallen_with_cap : (cap : ℕ) (place : Option ClientView)
    → option_and_then (λ (client : ClientView). client.fallen) (with_cap cap place) ≡ option_and_then (λ (client : ClientView). client.fallen) place
fallen_with_cap cap None = refl
fallen_with_cap cap (Some client) = refl

-- one whose turn begins
pub cap_of_begun : (cap : ℕ) (place : Option ClientView) → is_some place ≡ true → cap_of (begun_with cap place) ≡ cap
cap_of_begun cap None live = absurd (true≢false (sym live))
cap_of_begun cap (Some client) live = refl

pub live_begun : (cap : ℕ) (place : Option ClientView) → is_some (begun_with cap place) ≡ is_some place
live_begun cap None = refl
live_begun cap (Some client) = refl

pub asks_of_begun : (cap : ℕ) (place : Option ClientView) → asks_of (begun_with cap place) ≡ asks_of place
asks_of_begun cap None = refl
asks_of_begun cap (Some client) = refl

pub fallen_begun : (cap : ℕ) (place : Option ClientView)
    → option_and_then (λ (client : ClientView). client.fallen) (begun_with cap place) ≡ option_and_then (λ (client : ClientView). client.fallen) place
fallen_begun cap None = refl
fallen_begun cap (Some client) = refl

-- what a client keeps for writing is framed
pub framed_left : (who : ℕ) (hub : HubView) (held held_after : List Held) (after : PagesView) → Whole hub → GivesUp who hub.pages held after held_after
    → (page : ℕ) → right_at after.rights who page ≡ Some may.Write → IsSome (frame_in after page)
framed_left who hub held held_after after sound gives page is =
    gives.framed page (sound.framed who page (writes_before (right_at hub.pages.rights who page) (right_at after.rights who page) (gives.falls page) is))

-- the pending writes are on pages that their client may write
written_held : (who : ℕ) (pages : PagesView) (calls : List Call) (page : ℕ) → WritesAreHeld who pages calls
    → (entry : Entry) → Contains (entries_by who calls) entry → writes_page page entry ≡ true → right_at pages.rights who page ≡ Some may.Write
written_held who pages calls page held entry inside writes =
    let found = contains_entry who calls entry inside in
    let call : Call = found.0 in
    let as_call : (is_write call.op && (call.page == page)) ≡ true = ap (writes_page page) found.2 ∙ writes in
    let parts = and_parts (is_write call.op) (call.page == page) as_call in
    ap (right_at pages.rights who) (sym (eqb-true call.page page parts.1)) ∙ held call found.1 parts.0

-- once a turn has opened the parts of the hub fit together
module _ (who : ℕ) (hub : HubView) (own : cache.Own) (after : HubView) (own_after : cache.Own) (begins : Begins who hub own) (opens : Opens who hub own after own_after) where
  abbrev opened_place : Option ClientView
  opened_place = begun_with (topped own (free_in hub)) (client_in hub who)

  -- a page is modified that was before, or that the client may write
  modified_framed : (page : ℕ) → is_modified (hub.trail ++ as_items (entries_by who own.pending)) page ≡ true → IsSome (frame_in hub.pages page)
  modified_framed page modified =
      ⊎_elim (begins.sound.sound.formed.modified page)
      (λ written.
      let found = any_found (writes_page page) (entries_by who own.pending) written in
      begins.sound.framed who page (written_held who hub.pages own.pending page begins.writes found.0 found.1 found.2))
      (or_cases (is_modified hub.trail page) (list_any (writes_page page) (entries_by who own.pending)) (sym (modified_more hub.trail (entries_by who own.pending) page) ∙ modified))

  pub opened_formed : IsWellFormed after
  opened_formed =
      subst IsWellFormed (sym opens.hub_is)
      (formed_changed hub (hub.trail ++ as_items (entries_by who own.pending)) who opened_place after.pages begins.sound.sound.formed begins.covers.client
      (λ ask inside. begins.sound.asked who ask (subst (λ (asks : List Want). Contains asks ask) (asks_of_begun (topped own (free_in hub)) (client_in hub who)) inside))
      opens.gives.rights_count opens.gives.frames_count opens.gives.holders opens.gives.others
      (framed_left who hub own.held own_after.held after.pages begins.sound opens.gives) opens.gives.framed
      (λ page modified. opens.gives.framed page (modified_framed page modified)))

-- so the hub is sound
pub opened_sound : (hub : HubView) (own : cache.Own) (held : List Held) (after : HubView) (own_after : cache.Own) → Begins own.client hub (record own { held = held })
    → Owning hub own → Opens own.client hub (record own { held = held }) after own_after → Whole after
opened_sound hub own held after own_after begins owns opens =
    met_whole hub own held after own_after begins.sound owns opens (opened_formed own.client hub (record own { held = held }) after own_after begins opens)

-- and on no page that their client may not write
pub unwritten : (who : ℕ) (pages : PagesView) (calls : List Call) (page : ℕ) → WritesAreHeld who pages calls → right_at pages.rights who page ≢ Some may.Write
    → (entry : Entry) → Contains (entries_by who calls) entry → writes_page page entry ≡ false
unwritten who pages calls page held never entry inside =
    false_from_ne_true (writes_page page entry) (λ writes. never (written_held who pages calls page held entry inside writes))

-- a page that nobody holds for writing this client does not
pub no_writer_no_right : (pages : PagesView) (page who : ℕ) → writer_at pages.rights page ≡ None → right_at pages.rights who page ≢ Some may.Write
no_writer_no_right pages page who none writes = let found = (writer_holds_to_write pages.rights page who).1 writes in cc

-- frames that are right for some values are right for others that are the same where nobody has an open write
pub same_server : (modified modified_too : ℕ → Bool) (value stored value_too stored_too : ℕ → ℕ → ℕ) (pages : PagesView)
    → ((page : ℕ) → HasNoOpenWriter modified_too pages page → HasNoOpenWriter modified pages page)
    → ((page word : ℕ) → HasNoOpenWriter modified_too pages page → value page word ≡ value_too page word) → ((page word : ℕ) → stored page word ≡ stored_too page word)
    → ServerIsRight modified value stored pages → ServerIsRight modified_too value_too stored_too pages
same_server modified modified_too value stored value_too stored_too pages free same same_stored right page none = of_frame (frame_in pages page) (right page (free page none))
  where
    of_frame : (o : Option (List ℕ)) → MatchOption o ((word : ℕ) → word < 512 → value page word ≡ stored page word) (λ words. AreWords value page words)
        → MatchOption o ((word : ℕ) → word < 512 → value_too page word ≡ stored_too page word) (λ words. AreWords value_too page words)
    of_frame None are = λ word below. sym (same page word none) ∙ are word below ∙ same_stored page word
    of_frame (Some words) are = same_words value value_too page words (λ word. same page word none) are

-- once the pending calls are recorded, the live entries give what their client saw
pub opened_seen : (base : List (List ℕ)) (who : ℕ) (hub : HubView) (own : cache.Own) (after : HubView) (own_after : cache.Own) → Begins who hub own → Opens who hub own after own_after
    → (page word : ℕ) → live_value base after page word ≡ seen_value base hub own page word
opened_seen base who hub own after own_after begins opens page word =
    ap (λ (h : HubView). live_value base h page word) opens.hub_is
    ∙ ap (λ (entries : List Entry). value_of base entries page word) (live_of_more_entries hub.trail (entries_by who own.pending))
    ∙ ap (λ (w : ℕ). value_of base (live_entries hub.trail ++ entries_by w own.pending) page word) (sym begins.client)
    ∙ sym (ap (λ fell. value_of base (live_entries (items_behind hub.trail fell) ++ entries_by own.client own.pending) page word) begins.up)

-- without pending calls a client that has not fallen sees the live entries
pub seen_without_calls : (base : List (List ℕ)) (hub : HubView) (own : cache.Own) → fallen_in hub own.client ≡ None → own.pending ≡ []
    → (page word : ℕ) → seen_value base hub own page word ≡ live_value base hub page word
seen_without_calls base hub own up none page word =
    seen_plain base hub own page word up
    ∙ ap (λ (calls : List Call). fold (value_after page word) (live_value base hub page word) (entries_by own.client calls)) none

-- what the server knows of the client once its turn has opened
pub opened_client : (who : ℕ) (hub : HubView) (own : cache.Own) (after : HubView) (own_after : cache.Own) → Begins who hub own → Opens who hub own after own_after
    → client_in after who ≡ begun_with (topped own (free_in hub)) (client_in hub who)
opened_client who hub own after own_after begins opens =
    let most = begins.covers.client.1 in
    let long = begins.sound.places in
    let below : who < length hub.clients = omega arith in
    ap (λ (h : HubView). client_in h who) opens.hub_is
    ∙ get_or-set_same hub.clients who (begun_with (topped own (free_in hub)) (client_in hub who)) None below

-- and that it has not fallen
pub opened_up : (who : ℕ) (hub : HubView) (own : cache.Own) (after : HubView) (own_after : cache.Own) → Begins who hub own → Opens who hub own after own_after
    → fallen_in after own_after.client ≡ None
opened_up who hub own after own_after begins opens =
    ap (fallen_in after) (ap (λ (o : cache.Own). o.client) opens.own_is ∙ begins.client)
    ∙ ap (option_and_then (λ (client : ClientView). client.fallen)) (opened_client who hub own after own_after begins opens)
    ∙ fallen_begun (topped own (free_in hub)) (client_in hub who) ∙ ap (fallen_in hub) (sym begins.client) ∙ begins.up

pub opened_frames : (base : List (List ℕ)) (who : ℕ) (hub : HubView) (own : cache.Own) (after : HubView) (own_after : cache.Own) → Begins who hub own → Opens who hub own after own_after
    → FramesAreRight base hub → CacheIsRight base hub own → FramesAreRight base after
opened_frames base who hub own after own_after begins opens frames words =
    opens.gives.words (is_modified after.trail) (live_value base after) (stored_value base after)
    (same_server (is_modified hub.trail) (is_modified after.trail) (live_value base hub) (stored_value base hub) (live_value base after) (stored_value base after) hub.pages
    (λ page none writer is. (or_parts (is_modified hub.trail page) (list_any (writes_page page) (entries_by who own.pending)) (recorded page ∙ none writer is)).0)
    (λ page word none. sym (ap (λ (h : HubView). live_value base h page word) opens.hub_is
    ∙ live_elsewhere base hub.trail (entries_by who own.pending) page word (apart page none)))
    (λ page word. sym (ap (λ (h : HubView). stored_value base h page word) opens.hub_is ∙ stored_stays base hub.trail (entries_by who own.pending) page word))
    frames)
    (same_held (seen_value base hub own) (live_value base after) own.held (λ page word held. sym (opened_seen base who hub own after own_after begins opens page word)) words)
  where
    recorded : (page : ℕ) → (is_modified hub.trail page || list_any (writes_page page) (entries_by who own.pending)) ≡ is_modified after.trail page
    recorded page = sym (ap (λ (h : HubView). is_modified h.trail page) opens.hub_is ∙ modified_more hub.trail (entries_by who own.pending) page)

    -- a page that somebody holds for writing is not written where it is not modified then, and nobody writes any other
    apart : (page : ℕ) → HasNoOpenWriter (is_modified after.trail) hub.pages page → (entry : Entry) → Contains (entries_by who own.pending) entry → writes_page page entry ≡ false
    apart page none =
        (elim (writer_at hub.pages.rights page) as (λ o. writer_at hub.pages.rights page ≡ o → (entry : Entry) → Contains (entries_by who own.pending) entry → writes_page page entry ≡ false) [
          | None ↦ λ nobody. unwritten who hub.pages own.pending page begins.writes (no_writer_no_right hub.pages page who nobody)
          | Some writer ↦ λ is entry inside.
              none_passes (writes_page page) (entries_by who own.pending) entry
              (or_parts (is_modified hub.trail page) (list_any (writes_page page) (entries_by who own.pending)) (recorded page ∙ none writer is)).1 inside
        ]) refl

pub opened_words : (base : List (List ℕ)) (who : ℕ) (hub : HubView) (own : cache.Own) (after : HubView) (own_after : cache.Own) → Begins who hub own → Opens who hub own after own_after
    → CacheIsRight base hub own → CacheIsRight base after own_after
opened_words base who hub own after own_after begins opens words =
    subst (λ (held : List Held). HeldIsRight (seen_value base after own_after) held) (sym opens.gives.held_is)
    (held_right_kept (seen_value base after own_after) (right_at hub.pages.rights who) (right_at after.pages.rights who) own.held
    (same_held (seen_value base hub own) (seen_value base after own_after) own.held
    (λ page word held.
    sym (seen_without_calls base after own_after (opened_up who hub own after own_after begins opens) (ap (λ (o : cache.Own). o.pending) opens.own_is) page word
    ∙ opened_seen base who hub own after own_after begins opens page word))
    words))

-- and it is live with the cap of its cache
pub opened_live : (who : ℕ) (hub : HubView) (own : cache.Own) (after : HubView) (own_after : cache.Own) → Begins who hub own → Opens who hub own after own_after → is_live after who ≡ true
opened_live who hub own after own_after begins opens =
    ap is_some (opened_client who hub own after own_after begins opens) ∙ live_begun (topped own (free_in hub)) (client_in hub who) ∙ begins.live

pub opened_live_own : (hub : HubView) (own : cache.Own) (after : HubView) (own_after : cache.Own) → Begins own.client hub own → Opens own.client hub own after own_after
    → is_live after own_after.client ≡ true
opened_live_own hub own after own_after begins opens =
    ap (is_live after) (ap (λ (o : cache.Own). o.client) opens.own_is) ∙ opened_live own.client hub own after own_after begins opens

pub opened_cap : (who : ℕ) (hub : HubView) (own : cache.Own) (after : HubView) (own_after : cache.Own) → Begins who hub own → Opens who hub own after own_after
    → cap_in after who ≡ own_after.cap
opened_cap who hub own after own_after begins opens =
    ap cap_of (opened_client who hub own after own_after begins opens) ∙ cap_of_begun (topped own (free_in hub)) (client_in hub who) begins.live
    ∙ sym (ap (λ (o : cache.Own). o.cap) opens.own_is)

-- the rights that are left are those of the pages that are left
pub rights_left : (before after : ℕ → Option Right) (held : List Held) → ((page : ℕ) → before page ≡ right_of page held) → ((page : ℕ) → Falls (before page) (after page))
    → (page : ℕ) → after page ≡ right_of page (filter_map (kept_as before after) held)
rights_left before after held same falls page =
    by (entry_of page held) (λ entry is. entry_of-page page held entry is) (same page)
    ∙ sym (ap (option_map (λ (h : Held). h.right)) (entry_of-kept before after page held))
  where
    again : (entry : Held) (o : Option Right) → option_map (λ (h : Held). h.right) (option_map (λ (left : Right). record entry { right = left }) o) ≡ o
    again entry None = refl
    again entry (Some right) = refl

    by : (o : Option Held) → ((entry : Held) → o ≡ Some entry → entry.page ≡ page) → before page ≡ option_map (λ (h : Held). h.right) o
        → after page ≡ option_map (λ (h : Held). h.right) (option_and_then (kept_as before after) o)
    by None of e = subst (λ (o : Option Right). Falls o (after page)) e (falls page)
    by (Some entry) of e =
        let is : kept_as before after entry ≡ option_map (λ (left : Right). record entry { right = left }) (after page) =
        ap (λ (q : ℕ). left_of (before q) (after q) entry) (of entry refl) ∙ ap (λ (o : Option Right). left_of o (after page) entry) e in
        sym (ap (option_map (λ (h : Held). h.right)) is ∙ again entry (after page))

-- no more is left than was held
pub length_kept : {X Y : Type 0} (keep : X → Option Y) (held : List X) → length (filter_map keep held) ≤ length held
length_kept keep [] = omega arith
length_kept {X} {Y} keep (entry ∷ held) = step (keep entry) (length_kept keep held)
  where
    step : (o : Option Y) → length (filter_map keep held) ≤ length held → length (cons_option o (filter_map keep held)) ≤ suc (length held)
    step None rest = omega (arith, rest)
    step (Some left) rest = omega (arith, rest)

-- a cache is sound once its turn has opened, and holds no more
module _ (hub : HubView) (own : cache.Own) (after : HubView) (own_after : cache.Own) (owns : Owning hub own) (opens : Opens own.client hub own after own_after) where
  fewer : length own_after.held ≤ length own.held
  fewer =
      subst (λ (held : List Held). length held ≤ length own.held) (sym opens.gives.held_is)
      (length_kept (kept_as (right_at hub.pages.rights own.client) (right_at after.pages.rights own.client)) own.held)

  pub opened_cache : cache.IsSound own_after
  opened_cache = subst (λ (o : cache.Own). cache.IsSound o) (sym opens.own_is) (record {
    distinct = subst (λ (held : List Held). ArePagesDistinct held) (sym opens.gives.held_is)
        (distinct-kept (right_at hub.pages.rights own.client) (right_at after.pages.rights own.client) own.held owns.sound.distinct);
    few = let few = owns.sound.few in let less = fewer in omega (arith, few, less);
    pending = omega arith;
    least = owns.sound.least;
    most = owns.sound.most;
  })

  pub opened_few : length own_after.held ≤ own_after.capacity
  opened_few = let few = owns.few in let less = fewer in let same = ap (λ (o : cache.Own). o.capacity) opens.own_is in omega (arith, few, less, same)

  -- and its rights are those of its client
  pub opened_rights : Whole hub → (page : ℕ) → right_at after.pages.rights own.client page ≡ right_of page own_after.held
  opened_rights sound page =
      rights_left (right_at hub.pages.rights own.client) (right_at after.pages.rights own.client) own.held owns.rights opens.gives.falls page
      ∙ sym (ap (right_of page) opens.gives.held_is)
