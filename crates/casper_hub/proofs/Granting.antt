use Rattle.std.proofs.Common.{◌≡◌, ◌<◌, ◌≤◌, ℕ, ◌-◌, ◌∙◌, List, [], ◌++◌, true, length, take, get_or, sym, ap, subst, arith}
use Rattle.std.specs.Prelude.{Option, None, Some, IsSome, is_some, option_and_then, MatchOption, min}
use Rattle.std.proofs.Math.Nat.{min-le_left}
use Rattle.std.proofs.lemmas.List.{length-take}
use Rattle.casper_words.specs.declared.page.Right.TheVariants as may
use Rattle.casper_words.specs.declared.page.Want.{Want}
use Rattle.casper_trail.specs.declared.item.Item.{Item}
use Rattle.casper_trail.specs.Modified.{is_modified}
use Rattle.casper_trail.specs.Parts.{as_items}
use Rattle.casper_dir.specs.Rights.{right_at}
use Rattle.casper_cache.specs.declared.held.Held.{Held}
use Rattle.casper_cache.specs.Holding.{ArePagesDistinct}
use Rattle.casper_cache.specs.Own as cache
use Rattle.casper_model.specs.Acquire.{touches_by}
use Rattle.casper_hub.specs.HubView.{HubView, PagesView, ClientView, client_in, frame_in, page_count, fallen_in, with_cap, with_asks, is_live}
use Rattle.casper_hub.specs.Words.{live_value, stored_value, seen_value, AreWords, ServerIsRight, HeldIsRight, FramesAreRight, CacheIsRight}
use Rattle.casper_hub.specs.Installing.{with_pages, all_raised, all_fronted}
use Rattle.casper_hub.specs.Stages.{CanGrant, Grants}
use Rattle.casper_hub.specs.Sound.{IsWellFormed}
use Rattle.casper_hub.proofs.Whole.{Whole, Owning}
use Rattle.casper_hub.proofs.Left.{distinct-kept}
use Rattle.casper_hub.proofs.Giving.{writes_before, held_right_kept}
use Rattle.casper_hub.proofs.Relying.{same_held}
use Rattle.casper_hub.proofs.Changing.{changed, changed_here, live_elsewhere, stored_stays, modified_elsewhere, formed_changed}
use Rattle.casper_hub.proofs.Opened.{Begins, live_with_cap, fallen_with_cap, opened_up, seen_without_calls, same_server, opened_sound, opened_live, opened_frames, opened_words}
use Rattle.casper_hub.proofs.Refused.{live_with_asks, fallen_with_asks, asks_in_range}
use Rattle.casper_hub.proofs.Installed.{distinct_with_pages, missing_framed, begins_installed, words_installed}
use Rattle.casper_hub.proofs.Raised.{distinct_raised, distinct_fronted, right_raised, right_fronted, granted_from, granted_writer}
use Rattle.casper_hub.proofs.Touched.{touches_write_nothing}

-- what follows where an acquire of a client that owns its cache can be granted and was

-- a turn of such a client
pub record Granting (hub : HubView) (own : cache.Own) (wants missing : List Want) (after : HubView) (own_after : cache.Own) : Type 0 where
  pub sound : Whole hub
  pub owns : Owning hub own
  pub can : CanGrant own.client hub own wants missing
  pub grants : Grants own.client wants missing hub own after own_after

-- the cache with the missing pages
abbrev pub installed_in : HubView → cache.Own → List Want → cache.Own
installed_in hub own missing = record own { held = with_pages hub.pages own.held missing }

begins : (hub : HubView) (own : cache.Own) (wants missing : List Want) (after : HubView) (own_after : cache.Own) → Granting hub own wants missing after own_after
    → Begins own.client hub (installed_in hub own missing)
begins hub own wants missing after own_after turn = begins_installed hub own missing turn.sound turn.owns

pub opened_is_sound : (hub : HubView) (own : cache.Own) (wants missing : List Want) (after : HubView) (own_after : cache.Own) (turn : Granting hub own wants missing after own_after)
    → Whole turn.grants.opened
opened_is_sound hub own wants missing after own_after turn =
    opened_sound hub own (with_pages hub.pages own.held missing) turn.grants.opened turn.grants.opened_own (begins hub own wants missing after own_after turn) turn.owns turn.grants.opens

-- the client has not fallen once its turn has opened
up_opened : (hub : HubView) (own : cache.Own) (wants missing : List Want) (after : HubView) (own_after : cache.Own) (turn : Granting hub own wants missing after own_after)
    → fallen_in turn.grants.opened turn.grants.opened_own.client ≡ None
up_opened hub own wants missing after own_after turn =
    opened_up own.client hub (installed_in hub own missing) turn.grants.opened turn.grants.opened_own (begins hub own wants missing after own_after turn) turn.grants.opens

-- the client's place once its rights are given
abbrev pub granted_place : ℕ → ℕ → HubView → Option ClientView
granted_place cap who opened = with_asks [] (with_cap cap (client_in opened who))

place_live : (cap who : ℕ) (opened : HubView) → is_live opened who ≡ true → is_some (granted_place cap who opened) ≡ true
place_live cap who opened live = live_with_asks [] (with_cap cap (client_in opened who)) ∙ live_with_cap cap (client_in opened who) ∙ live

-- each page that the client may write then has a frame
granted_framed : (hub : HubView) (own : cache.Own) (wants missing : List Want) (after : HubView) (own_after : cache.Own) (turn : Granting hub own wants missing after own_after)
    → (page : ℕ) → right_at after.pages.rights own.client page ≡ Some may.Write → IsSome (frame_in after.pages page)
granted_framed hub own wants missing after own_after turn page is =
    let before : right_at granted.rights own.client page ≡ Some may.Write =
    writes_before (right_at granted.rights own.client page) (right_at after.pages.rights own.client page) (turn.grants.gives.falls page) is in
    turn.grants.gives.framed page (subst (λ (frames : List (Option (List ℕ))). IsSome (get_or frames page None)) (sym turn.grants.granted_frames)
    (granted_from page (right_at opened.pages.rights own.client page) missing (IsSome (frame_in opened.pages page))
    (λ had. (opened_is_sound hub own wants missing after own_after turn).framed own.client page had)
    (λ want inside here. turn.grants.opens.gives.framed page
    (subst (λ (q : ℕ). IsSome (frame_in hub.pages q)) here (missing_framed own.client hub own wants missing turn.can want inside)))
    (sym (turn.grants.granted_rights page) ∙ before)))
  where
    opened : HubView
    opened = turn.grants.opened

    granted : PagesView
    granted = turn.grants.granted

module _ (hub : HubView) (own : cache.Own) (wants missing : List Want) (after : HubView) (own_after : cache.Own) (turn : Granting hub own wants missing after own_after) where
  abbrev place_granted : Option ClientView
  place_granted = granted_place (turn.grants.opened_own.cap - length missing) own.client turn.grants.opened

  abbrev trail_granted : List Item
  trail_granted = turn.grants.opened.trail ++ as_items (touches_by own.client missing)

  whole_before : Whole turn.grants.opened
  whole_before = opened_is_sound hub own wants missing after own_after turn

  -- the server has the frames that it had
  frame_granted : (page : ℕ) → IsSome (frame_in turn.grants.opened.pages page) → IsSome (frame_in after.pages page)
  frame_granted page is =
      turn.grants.gives.framed page (subst (λ (frames : List (Option (List ℕ))). IsSome (get_or frames page None)) (sym turn.grants.granted_frames) is)

  -- the parts of the hub fit together
  pub granted_formed : IsWellFormed after
  granted_formed =
      subst IsWellFormed (sym turn.grants.hub_is)
      (formed_changed turn.grants.opened trail_granted own.client place_granted after.pages whole_before.sound.formed turn.owns.client
      (asks_in_range [] (with_cap (turn.grants.opened_own.cap - length missing) (client_in turn.grants.opened own.client)) (page_count turn.grants.opened) (λ ask inside. absurd (omega (arith, inside.1))))
      (turn.grants.gives.rights_count ∙ turn.grants.granted_count) (turn.grants.gives.frames_count ∙ ap length turn.grants.granted_frames) turn.grants.gives.holders
      (λ client page is differ. turn.grants.gives.others client page is differ ∙ turn.grants.granted_others client page is differ)
      (granted_framed hub own wants missing after own_after turn)
      frame_granted
      (λ page modified. frame_granted page (whole_before.sound.formed.modified page
      (sym (modified_elsewhere turn.grants.opened.trail (touches_by own.client missing) page (touches_write_nothing own.client missing page)) ∙ modified))))

  same_client : own_after.client ≡ own.client
  same_client = ap (λ (o : cache.Own). o.client) turn.grants.own_is ∙ ap (λ (o : cache.Own). o.client) turn.grants.opens.own_is

  same_capacity : own_after.capacity ≡ own.capacity
  same_capacity = ap (λ (o : cache.Own). o.capacity) turn.grants.own_is ∙ ap (λ (o : cache.Own). o.capacity) turn.grants.opens.own_is

  pub live_granted : is_live after own_after.client ≡ true
  live_granted =
      ap (is_live after) same_client ∙ ap (λ (h : HubView). is_live h own.client) turn.grants.hub_is
      ∙ ap is_some (changed_here turn.grants.opened trail_granted own.client place_granted after.pages whole_before.places turn.owns.client)
      ∙ place_live (turn.grants.opened_own.cap - length missing) own.client turn.grants.opened
      (opened_live own.client hub (installed_in hub own missing) turn.grants.opened turn.grants.opened_own (begins hub own wants missing after own_after turn) turn.grants.opens)

  -- and the client has not fallen
  pub up_granted : fallen_in after own_after.client ≡ None
  up_granted =
      ap (λ (h : HubView). fallen_in h own_after.client) turn.grants.hub_is
      ∙ ap (λ (w : ℕ). fallen_in (changed turn.grants.opened trail_granted own.client place_granted after.pages) w) same_client
      ∙ ap (option_and_then (λ (client : ClientView). client.fallen))
      (changed_here turn.grants.opened trail_granted own.client place_granted after.pages whole_before.places turn.owns.client)
      ∙ fallen_with_asks [] (with_cap (turn.grants.opened_own.cap - length missing) (client_in turn.grants.opened own.client))
      ∙ fallen_with_cap (turn.grants.opened_own.cap - length missing) (client_in turn.grants.opened own.client)
      ∙ ap (fallen_in turn.grants.opened) (sym (ap (λ (o : cache.Own). o.client) turn.grants.opens.own_is))
      ∙ up_opened hub own wants missing after own_after turn

-- the pages that the client holds once its rights are given
abbrev pub held_granted : cache.Own → List Want → List Want → List Held
held_granted opened_own wants missing = all_fronted (all_raised opened_own.held missing) wants

module _ (hub : HubView) (own : cache.Own) (wants missing : List Want) (after : HubView) (own_after : cache.Own) (turn : Granting hub own wants missing after own_after) where
  -- no more is held than the capacity
  few_held : length own_after.held ≤ own.capacity
  few_held =
      let held = held_granted turn.grants.opened_own wants missing in
      let is : length own_after.held ≡ length (take own.capacity held) = ap (λ (o : cache.Own). length o.held) turn.grants.own_is in
      let most : length (take own.capacity held) ≡ min own.capacity (length held) = length-take own.capacity held in
      let low : min own.capacity (length held) ≤ own.capacity = min-le_left own.capacity (length held) in
      omega (arith, is, most, low)

  pub granted_few : length own_after.held ≤ own_after.capacity
  granted_few = subst (λ n. length own_after.held ≤ n) (sym (same_capacity hub own wants missing after own_after turn)) few_held

  -- and the cache is sound
  pub granted_cache : cache.IsSound own_after
  granted_cache = record {
    distinct = subst (λ (held : List Held). ArePagesDistinct held) (sym turn.grants.gives.held_is)
        (distinct-kept (right_at turn.grants.granted.rights own.client) (right_at after.pages.rights own.client) (held_granted turn.grants.opened_own wants missing)
        (distinct_fronted (all_raised turn.grants.opened_own.held missing) wants (distinct_raised turn.grants.opened_own.held missing
        (subst (λ (held : List Held). ArePagesDistinct held) (sym turn.grants.opens.gives.held_is)
        (distinct-kept (right_at hub.pages.rights own.client) (right_at turn.grants.opened.pages.rights own.client) (with_pages hub.pages own.held missing)
        (distinct_with_pages hub.pages own.held missing turn.owns.sound.distinct))))));
    few = let few = few_held in let same = same_capacity hub own wants missing after own_after turn in omega (arith, few, same);
    pending =
        let none : length own_after.pending ≡ 0 =
        ap length (ap (λ (o : cache.Own). o.pending) turn.grants.own_is ∙ ap (λ (o : cache.Own). o.pending) turn.grants.opens.own_is) in
        omega (arith, none);
    least = subst (λ n. 8 ≤ n) (sym (same_capacity hub own wants missing after own_after turn)) turn.owns.sound.least;
    most = subst (λ n. n ≤ 1024) (sym (same_capacity hub own wants missing after own_after turn)) turn.owns.sound.most;
  }

-- the words of what is held once the rights are given are right
held_is_right : (base : List (List ℕ)) (hub : HubView) (own : cache.Own) (wants missing : List Want) (after : HubView) (own_after : cache.Own)
    → (turn : Granting hub own wants missing after own_after) → FramesAreRight base hub → CacheIsRight base hub own
    → HeldIsRight (live_value base turn.grants.opened) (held_granted turn.grants.opened_own wants missing)
held_is_right base hub own wants missing after own_after turn frames words =
    right_fronted (live_value base opened) (all_raised opened_own.held missing) wants
    (right_raised (live_value base opened) opened_own.held missing
    (same_held (seen_value base opened opened_own) (live_value base opened) opened_own.held
    (λ page word held.
    seen_without_calls base opened opened_own (up_opened hub own wants missing after own_after turn) (ap (λ (o : cache.Own). o.pending) turn.grants.opens.own_is) page word)
    (opened_words base own.client hub (installed_in hub own missing) opened opened_own (begins hub own wants missing after own_after turn) turn.grants.opens
    (words_installed base hub own wants missing turn.sound turn.owns turn.can frames words))))
  where
    opened : HubView
    opened = turn.grants.opened

    opened_own : cache.Own
    opened_own = turn.grants.opened_own

-- touches leave the values over the live entries
granted_live : (base : List (List ℕ)) (hub : HubView) (own : cache.Own) (wants missing : List Want) (after : HubView) (own_after : cache.Own)
    → (turn : Granting hub own wants missing after own_after) → (page word : ℕ) → live_value base after page word ≡ live_value base turn.grants.opened page word
granted_live base hub own wants missing after own_after turn page word =
    ap (λ (h : HubView). live_value base h page word) turn.grants.hub_is
    ∙ live_elsewhere base turn.grants.opened.trail (touches_by own.client missing) page word (touches_write_nothing own.client missing page)

-- the frames of the server stay right
pub granted_frames : (base : List (List ℕ)) (hub : HubView) (own : cache.Own) (wants missing : List Want) (after : HubView) (own_after : cache.Own)
    → Granting hub own wants missing after own_after → FramesAreRight base hub → CacheIsRight base hub own → FramesAreRight base after
granted_frames base hub own wants missing after own_after turn frames words =
    grants.gives.words (is_modified after.trail) (live_value base after) (stored_value base after)
    (same_server (is_modified opened.trail) (is_modified after.trail) (live_value base opened) (stored_value base opened) (live_value base after) (stored_value base after) grants.granted
    (λ page none writer is. sym (touched page) ∙ none writer is)
    (λ page word none. sym (granted_live base hub own wants missing after own_after turn page word))
    (λ page word. sym (ap (λ (h : HubView). stored_value base h page word) grants.hub_is ∙ stored_stays base opened.trail (touches_by own.client missing) page word))
    server)
    (same_held (live_value base opened) (live_value base after) (held_granted grants.opened_own wants missing)
    (λ page word held. sym (granted_live base hub own wants missing after own_after turn page word))
    (held_is_right base hub own wants missing after own_after turn frames words))
  where
    grants : Grants own.client wants missing hub own after own_after
    grants = turn.grants

    opened : HubView
    opened = grants.opened

    right_before : FramesAreRight base opened
    right_before =
        opened_frames base own.client hub (installed_in hub own missing) opened grants.opened_own (begins hub own wants missing after own_after turn) grants.opens frames
        (words_installed base hub own wants missing turn.sound turn.owns turn.can frames words)

    -- touches modify nothing
    touched : (page : ℕ) → is_modified after.trail page ≡ is_modified opened.trail page
    touched page =
        ap (λ (h : HubView). is_modified h.trail page) grants.hub_is
        ∙ modified_elsewhere opened.trail (touches_by own.client missing) page (touches_write_nothing own.client missing page)

    server : ServerIsRight (is_modified opened.trail) (live_value base opened) (stored_value base opened) grants.granted
    server page none =
        subst (λ (all : List (Option (List ℕ))). MatchOption (get_or all page None) ((word : ℕ) → word < 512 → live_value base opened page word ≡ stored_value base opened page word)
        (λ words. AreWords (live_value base opened) page words)) (sym grants.granted_frames)
        (right_before page (λ writer is. none writer (granted_writer own.client opened.pages.rights grants.granted.rights page missing
        (opened_is_sound hub own wants missing after own_after turn).holders (grants.granted_rights page)
        (λ client one differ. grants.granted_others client page one differ) writer is)))

-- and so do those of the cache
pub granted_words : (base : List (List ℕ)) (hub : HubView) (own : cache.Own) (wants missing : List Want) (after : HubView) (own_after : cache.Own)
    → Granting hub own wants missing after own_after → FramesAreRight base hub → CacheIsRight base hub own → CacheIsRight base after own_after
granted_words base hub own wants missing after own_after turn frames words =
    subst (λ (held : List Held). HeldIsRight (seen_value base after own_after) held) (sym grants.gives.held_is)
    (held_right_kept (seen_value base after own_after) (right_at grants.granted.rights own.client) (right_at after.pages.rights own.client) (held_granted grants.opened_own wants missing)
    (same_held (live_value base grants.opened) (seen_value base after own_after) (held_granted grants.opened_own wants missing)
    (λ page word held.
    sym (seen_without_calls base after own_after (up_granted hub own wants missing after own_after turn)
    (ap (λ (o : cache.Own). o.pending) grants.own_is ∙ ap (λ (o : cache.Own). o.pending) grants.opens.own_is) page word
    ∙ granted_live base hub own wants missing after own_after turn page word))
    (held_is_right base hub own wants missing after own_after turn frames words)))
  where
    grants : Grants own.client wants missing hub own after own_after
    grants = turn.grants
