use Rattle.std.proofs.Common.{◌≡◌, ◌≤◌, ◌<◌, ℕ, ◌+◌, ◌-◌, List, [], ◌∷◌, ◌++◌, Bool, true, false, cond, not, nat_lt, length, take, append-nil, refl, sym, ap, ap₂, ◌∙◌, subst, true≢false, Contains, arith}
use Rattle.std.specs.Prelude.{Option, None, Some, IsSome, is_some, filter, option_map, filter_map}
use Rattle.std.specs.Option.{option_or, option_to_list}
use Rattle.std.proofs.Math.Nat.{min-le_left}
use Rattle.std.proofs.lemmas.Bool.{le-ltb, lt-ltb}
use Rattle.std.proofs.lemmas.List.{take_all}
use Rattle.casper_words.specs.Wants.{AreWants}
use Rattle.casper_words.specs.declared.page.Right.{Right}
use Rattle.casper_words.specs.declared.page.Want.{Want}
use Rattle.casper_trail.specs.Parts.{as_items}
use Rattle.casper_trail.specs.Calls.{entries_by}
use Rattle.casper_trail.specs.TrailView.{entry_count}
use Rattle.casper_cache.specs.declared.held.Held.{Held}
use Rattle.casper_cache.specs.Holding.{entry_of, right_of, ArePagesDistinct, front_of, others, is_of}
use Rattle.casper_cache.specs.Own as cache
use Rattle.casper_model.specs.declared.reply.Reply.{Reply}
use Rattle.casper_model.specs.declared.reply.Reply.TheVariants.{Granted, TrailFull, Frozen}
use Rattle.casper_model.specs.Acquire.{acquire, acquired_by, answered, with_asks, is_pending, refused_full, frozen_lead, refused_frozen, refused_in_doubt, granted, refused_missing}
use Rattle.casper_model.specs.Both.{Both, Turned, turned}
use Rattle.casper_model.specs.Client.{Client}
use Rattle.casper_model.specs.Held.{allows, missing_of, with_granted}
use Rattle.casper_model.specs.Opening.{begun, given_up, gathering_of, handed_in_to, opened, given_in_opening}
use Rattle.casper_model.specs.Own.{Own}
use Rattle.casper_model.specs.Room.{most_cap}
use Rattle.casper_model.specs.Shared.{Shared, client_at, rights_at, of_client, fallen_at}
use Rattle.casper_model.specs.Stabilisation.{Stabilisation}
use Rattle.casper_model.proofs.Additions.{trail_opened}
use Rattle.casper_model.proofs.OpeningRights.{places_changed}
use Rattle.casper_model.proofs.Places.{client_changed, client_unchanged}
use Rattle.casper_turns.specs.Good.{IsGoodWith}
use Rattle.casper_frozen.specs.Refused.{refused_at_once, Refuses, reply_of}
use Rattle.casper_hub.specs.Deciding.{lacking_in}
use Rattle.casper_hub.specs.HubView.{HubView, client_in, right_in, cap_in, cap_of, PagesView, fallen_in, is_live as live_in}
use Rattle.casper_hub.specs.Installing.{all_fronted}
use Rattle.casper_hub.specs.Owned.{Owns, own_of, wants_of}
use Rattle.casper_hub.specs.Shows.{permits, Shows, ShowsClient}
use Rattle.casper_hub.specs.Sound.{StandsFor, IsSound}
use Rattle.casper_hub.specs.Stages.{gathering_in}
use Rattle.casper_hub.specs.Turns.{IsTurn, IsRefused, Acquires, first_unframed}
use Rattle.casper_hub.specs.Words.{CacheIsRight, seen_value}
use Rattle.casper_hub.proofs.AcquiredTurns.{refused_at_once_by}
use Rattle.casper_hub.proofs.DepartedTurns.{client_of_opening}
use Rattle.casper_hub.proofs.FrozenOpened.{lead_opened, unfrozen_gathers_not}
use Rattle.casper_hub.proofs.GrantedHeld.{granted_held}
use Rattle.casper_hub.proofs.GrantedRights.{entry_of-all_fronted}
use Rattle.casper_hub.proofs.Handing.{gathering_shown}
use Rattle.casper_hub.proofs.KeptPages.{filter_same}
use Rattle.casper_hub.proofs.Left.{kept-itself, are_as_held}
use Rattle.casper_hub.proofs.Raised.{distinct_fronted, right_fronted}
use Rattle.casper_hub.proofs.ShownAfter.{shows_after}
use Rattle.casper_hub.proofs.Showing.{allows_right, liveness_shown}
use Rattle.casper_hub.proofs.Standing.{Live, live_shown}
use Rattle.casper_hub.proofs.StandsFor.{stands_for, good_with}
use Rattle.casper_hub.proofs.Transport.{kept_by, owns_behind}
use Rattle.casper_hub.proofs.Whole.{Whole, Owning, fallen_shown, whole, whole_at, owning}
use Rattle.casper_turns.specs.TurnLaws.{IsTurn as MachineTurn}
use Rattle.casper_turns.proofs.Lists.{find_found, nothing_in, contains_filtered}
use Rattle.casper_turns.proofs.MarkCounts.{some_no_longer, one_shorter}
use Rattle.casper_hub.specs.Given.{met, kept_as}
use Rattle.casper_frozen.specs.declared.refusal.Refusal.{Refusal}
use Rattle.casper_gather.specs.Unended.{UnendedView}
use Rattle.casper_gather.specs.UnendedLaws.{stabilisations_of}
use Rattle.casper_assoc.specs.TrailAssociations.{AssociationsView, AreAssociationsOf}
use Rattle.casper_hub.proofs.Bridged.{keeps_of}

-- An acquire of a member of a gathering association: its turn opens, and then it is decided by what the cache holds.

-- no opening leaves a cap above the most
cap_opened : (shared : Shared) (own : Own) → (opened shared own).own.cap ≤ 4100
cap_opened shared own = by (gathering_of (given_up (begun shared own)).shared (given_up (begun shared own)).own.who)
  where
    most : (given_up (begun shared own)).own.cap ≤ 4100
    most = min-le_left most_cap _

    by : (gathering : Option Stabilisation) → (handed_in_to (given_up (begun shared own)) gathering).own.cap ≤ 4100
    by None = most
    by (Some gathering) = most

-- where nothing is missing, only want of room is a cause to refuse
refused_full_nothing : (both : Both) (given : List ℕ) (calls : ℕ)
    → option_or (refused_missing both.shared both.own.who given []) (refused_full both [] calls) ≡ cond (nat_lt both.own.cap calls) (Some (TrailFull (entry_count both.shared.trail))) None
refused_full_nothing both given calls =
    let same : 0 + calls ≡ calls = omega arith in
    ap (λ (n : ℕ). cond (nat_lt both.own.cap n) (Some (TrailFull (entry_count both.shared.trail))) None) same

-- what is refused for want of room, where nothing is missing
full_by : (shared : Shared) (own : Own) (wants : List Want) (calls : ℕ) → fallen_at shared own.who ≡ None → missing_of (opened shared own).own.held wants ≡ []
    → nat_lt (opened shared own).own.cap calls ≡ true
    → acquire shared own wants calls ≡ turned (TrailFull (entry_count (opened shared own).shared.trail)) (with_asks [] (opened shared own))
full_by shared own wants calls up none short =
    ap (acquired_by shared own wants calls) up
    ∙ ap (λ missing. answered both given wants missing (option_or (refused_missing both.shared both.own.who given missing) (refused_full both missing calls))) none
    ∙ ap (answered both given wants []) (refused_full_nothing both given calls ∙ ap (λ b. cond b (Some (TrailFull (entry_count both.shared.trail))) None) short)
  where
    both : Both
    both = opened shared own

    given : List ℕ
    given = given_in_opening shared own

-- and what is granted
granted_by : (shared : Shared) (own : Own) (wants : List Want) (calls : ℕ) → fallen_at shared own.who ≡ None → missing_of (opened shared own).own.held wants ≡ []
    → nat_lt (opened shared own).own.cap calls ≡ false
    → acquire shared own wants calls ≡ turned Granted (granted wants [] (with_asks [] (opened shared own)))
granted_by shared own wants calls up none enough =
    ap (acquired_by shared own wants calls) up
    ∙ ap (λ missing. answered both given wants missing (option_or (refused_missing both.shared both.own.who given missing) (refused_full both missing calls))) none
    ∙ ap (answered both given wants []) (refused_full_nothing both given calls ∙ ap (λ b. cond b (Some (TrailFull (entry_count both.shared.trail))) None) enough)
  where
    both : Both
    both = opened shared own

    given : List ℕ
    given = given_in_opening shared own

-- the machine refuses who wants nothing and more calls than anybody may have
pub nothing_refused : (hub : HubView) (own : cache.Own) → Owning hub own
    → IsRefused hub own [] 4101 (TrailFull (entry_count (hub.trail ++ as_items (entries_by own.client own.pending)))) []
nothing_refused hub own owns shared shows =
    full_by shared (own_of own) [] 4101 (fallen_shown shared hub own shows owns) refl
    (le-ltb_of (cap_opened shared (own_of own)))
    ∙ ap (λ trail. turned (TrailFull (entry_count trail)) (with_asks [] (opened shared (own_of own))))
    (trail_opened shared (own_of own) ∙ ap (λ trail. trail ++ as_items (entries_by own.client own.pending)) shows.trail)
  where
    le-ltb_of : {n : ℕ} → n ≤ 4100 → nat_lt n 4101 ≡ true
    le-ltb_of {n} few = lt-ltb n 4101 (omega (arith, few))

-- a hub and a cache once a turn has opened and no asks are left
pub record Asked (hub : HubView) (own : cache.Own) (after : HubView) (own_after : cache.Own) : Type 0 where
  pub shows : (shared : Shared) → Shows shared hub → Shows (with_asks [] (opened shared (own_of own))).shared after
  pub owns : (shared : Shared) → Shows shared hub → own_of own_after ≡ (opened shared (own_of own)).own

pub asked_by : (hub : HubView) (own : cache.Own) (after : HubView) (own_after : cache.Own) (wants : List Want) (calls : ℕ) (reply : Reply)
    → IsRefused hub own wants calls reply [] → IsTurn (λ shared own. acquire shared own wants calls) reply hub own after own_after → Asked hub own after own_after
asked_by hub own after own_after wants calls reply refused turn = record {
  shows = λ shared shows. subst (λ (t : Turned Reply). Shows t.shared after) (refused shared shows) (turn.shows shared shows);
  owns = λ shared shows. turn.owns shared shows ∙ ap (λ (t : Turned Reply). t.own) (refused shared shows);
}

-- the wants that the machine finds missing are those that the cache lacks
pub lacking_same : (held : List Held) (wants : List Want) → ArePagesDistinct held → missing_of (wants_of held) wants ≡ lacking_in held wants
lacking_same held wants distinct =
    filter_same (λ want. not (allows (wants_of held) want.page want.right)) (λ want. not (permits (right_of want.page held) want.right))
    (λ want. ap not (allows_right held distinct want.page want.right)) wants

module _ (hub : HubView) (own : cache.Own) (after : HubView) (own_after : cache.Own) (sound : Whole hub) (owns : Owning hub own) (asked : Asked hub own after own_after)
    (distinct : ArePagesDistinct own_after.held) (wants : List Want) where
  missing_then : (shared : Shared) → Shows shared hub → missing_of (opened shared (own_of own)).own.held wants ≡ lacking_in own_after.held wants
  missing_then shared shows = ap (λ (o : Own). missing_of o.held wants) (sym (asked.owns shared shows)) ∙ lacking_same own_after.held wants distinct

  -- a refusal at once
  pub refused_then : (calls : ℕ) (reply : Reply) → is_pending reply ≡ false
      → ((shared : Shared) → Shows shared after → refused_at_once shared own.client (lacking_in own_after.held wants) ≡ Some reply) → IsRefused hub own wants calls reply []
  refused_then calls reply asks refused shared shows =
      refused_at_once_by shared (own_of own) wants calls reply (fallen_shown shared hub own shows owns)
      (ap (refused_at_once (opened shared (own_of own)).shared own.client) (missing_then shared shows)
      ∙ refused (with_asks [] (opened shared (own_of own))).shared (asked.shows shared shows))
      asks

  -- for want of room
  pub full_then : (calls : ℕ) → lacking_in own_after.held wants ≡ [] → own_after.cap < calls → IsRefused hub own wants calls (TrailFull (entry_count after.trail)) []
  full_then calls none short shared shows =
      full_by shared (own_of own) wants calls (fallen_shown shared hub own shows owns) (missing_then shared shows ∙ none)
      (ap (λ (o : Own). nat_lt o.cap calls) (sym (asked.owns shared shows)) ∙ lt-ltb own_after.cap calls short)
      ∙ ap (λ trail. turned (TrailFull (entry_count trail)) (with_asks [] (opened shared (own_of own)))) ((asked.shows shared shows).trail)

  -- a member of a gathering association that is refused nothing at once lacks nothing
  pub nothing_lacking : IsSome (gathering_in hub own.client) → ((shared : Shared) → Shows shared after → refused_at_once shared own.client (lacking_in own_after.held wants) ≡ None)
      → lacking_in own_after.held wants ≡ []
  nothing_lacking gathers free = by (lacking_in own_after.held wants) (free (with_asks [] (opened good.shared (own_of own))).shared (asked.shows good.shared good.shows))
    where
      good : StandsFor hub
      good = stands_for hub sound.sound.stands

      mine : IsGoodWith good.shared (own_of own)
      mine = good_with hub (own_of own) owns.owned.good good.shared good.shows good.good

      by : (missing : List Want) → refused_at_once (opened good.shared (own_of own)).shared own.client missing ≡ None → missing ≡ []
      by [] none = refl
      by (want ∷ missing) none =
          let frozen = second_none (refused_in_doubt (opened good.shared (own_of own)).shared own.client (want ∷ missing)) (refused_frozen (opened good.shared (own_of own)).shared own.client (want ∷ missing)) none in
          let lead : frozen_lead good.shared own.client (want ∷ missing) ≡ None =
          sym (lead_opened good.shared (own_of own) good.good mine (liveness_shown good.shared hub good.shows own.client ∙ owns.live) (fallen_shown good.shared hub own good.shows owns) (want ∷ missing))
          ∙ unfrozen (frozen_lead (opened good.shared (own_of own)).shared own.client (want ∷ missing)) frozen in
          absurd (true≢false (sym gathers ∙ ap is_some (sym (gathering_shown good.shared hub own.client good.shows) ∙ unfrozen_gathers_not good.shared own.client (want ∷ missing) lead)))
        where
          second_none : (one other : Option Reply) → option_or one other ≡ None → other ≡ None
          second_none None other e = e
          second_none (Some reply) other e = cc

          unfrozen : (lead : Option ℕ) → option_map Frozen lead ≡ None → lead ≡ None
          unfrozen None e = refl
          unfrozen (Some lead) e = cc

-- Where nothing is lacking and there is room the acquire is granted: the wanted pages are brought to the front.

-- no more is held as a page is brought to the front
front_no_longer : (page : ℕ) (held : List Held) → length (front_of page held) ≤ length held
front_no_longer page held = by (entry_of page held) refl
  where
    by : (found : Option Held) → entry_of page held ≡ found → length (option_to_list found ++ others page held) ≤ length held
    by None is = some_no_longer (λ (entry : Held). not (is_of page entry)) held
    by (Some entry) is =
        let there = find_found (is_of page) held entry is in
        let less = one_shorter (λ (one : Held). not (is_of page one)) held entry there.0 (ap not there.1) in
        omega (arith, less)

fronted_no_longer : (held : List Held) (wants : List Want) → length (all_fronted held wants) ≤ length held
fronted_no_longer held [] = omega arith
fronted_no_longer held (want ∷ wants) =
    let rest = fronted_no_longer (front_of want.page held) wants in
    let one = front_no_longer want.page held in
    omega (arith, rest, one)

-- a right to which nobody asks stays
met_by_none : (right : Option Right) → right ≡ met false false right
met_by_none None = refl
met_by_none (Some right) = refl

-- the pages that are then held are those of the machine
held_fronted : (pages : PagesView) (own : cache.Own) (wants : List Want) → cache.IsSound own → length own.held ≤ own.capacity → AreWants wants → lacking_in own.held wants ≡ []
    → wants_of (all_fronted own.held wants) ≡ with_granted own.capacity wants (wants_of own.held)
held_fronted pages own wants sound few are none =
    ap wants_of (sym (take_all own.capacity (all_fronted own.held wants) (let less = fronted_no_longer own.held wants in omega (arith, less, few))))
    ∙ ap (λ held. wants_of (take own.capacity (all_fronted held wants))) (sym same)
    ∙ granted_held pages before before (λ page. false) (λ page. false) own.capacity own.held wants [] sound.distinct are sound.least
    (λ page. refl) (λ page. met_by_none (before page)) (sym none) (λ want inside. absurd (omega (arith, inside.1)))
    ∙ ap (λ held. with_granted own.capacity wants (wants_of held)) same
  where
    before : ℕ → Option Right
    before page = right_of page own.held

    same : filter_map (kept_as before before) own.held ≡ own.held
    same = kept-itself before own.held (are_as_held before own.held sound.distinct (λ page right found is e. same_right found right (sym e ∙ is)))
      where
        same_right : (a b : Right) → Some a ≡ Some b → a ≡ b
        same_right a b e = cc

-- the cache with the wanted pages in front
abbrev pub fronted : cache.Own → List Want → cache.Own
fronted own wants = record own { held = all_fronted own.held wants }

module _ (hub : HubView) (own : cache.Own) (after : HubView) (opened_own : cache.Own) (sound : Whole hub) (owns : Owning hub own) (asked : Asked hub own after opened_own)
    (sound_after : Whole after) (owns_after : Owning after opened_own) (same : opened_own.client ≡ own.client) (wants : List Want) (are : AreWants wants)
    (none : lacking_in opened_own.held wants ≡ []) where
  held_then : wants_of (all_fronted opened_own.held wants) ≡ with_granted opened_own.capacity wants (wants_of opened_own.held)
  held_then = held_fronted after.pages opened_own wants owns_after.sound owns_after.few are none

  module _ (shared : Shared) (shows : Shows shared hub) where
    abbrev asking : Both
    asking = with_asks [] (opened shared (own_of own))

    abbrev done : Both
    done = granted wants [] asking

    shown : Shows asking.shared after
    shown = asked.shows shared shows

    own_same : own_of opened_own ≡ asking.own
    own_same = asked.owns shared shows

    who : asking.own.who ≡ own.client
    who = client_of_opening shared (own_of own)

    no_less : asking.own.cap - 0 ≡ asking.own.cap
    no_less = omega arith

    own_granted : own_of (fronted opened_own wants) ≡ done.own
    own_granted =
        ap (λ held. record (own_of opened_own) { held = held }) held_then
        ∙ ap (λ (o : Own). record o { held = with_granted o.capacity wants o.held }) own_same
        ∙ ap (λ cap. record (asking.own) { cap = cap; held = with_granted asking.own.capacity wants asking.own.held }) (sym no_less)

    abbrev live : Live asking.shared after own.client
    live = live_shown asking.shared after own.client shown sound_after (ap (live_in after) (sym same) ∙ owns_after.live) (ap (fallen_in after) (sym same) ∙ owns_after.up)

    abbrev agree : Client → Client
    agree client = record client { cap = done.own.cap; rights = done.own.held }

    abbrev longer : Shared
    longer = record (asking.shared) { trail = asking.shared.trail ++ [] }

    shows_granted : Shows done.shared after
    shows_granted =
        shows_after own.client asking.shared done.shared after after shown sound_after
        (record {
          trail = append-nil asking.shared.trail ∙ shown.trail;
          more = [];
          grows = sym (append-nil after.trail);
          limit = refl;
          limit_too = refl;
          pages = refl;
          pages_too = refl;
          stabilisations = shown.stabilisations;
          places = places_changed asking.own.who agree longer;
          clients = λ other apart. client_unchanged asking.own.who agree longer other (λ is. apart (is ∙ who));
          clients_too = λ other apart. refl;
          holders = sound_after.holders;
          rights = λ other page is apart. refl;
        })
        acting acting_rights
      where
        there : client_at done.shared own.client ≡ Some (agree live.client)
        there =
            ap (client_at done.shared) (sym who) ∙ client_changed asking.own.who agree longer
            ∙ ap (option_map agree) (ap (client_at asking.shared) who ∙ live.at)

        cap_then : done.own.cap ≡ live.shown.cap
        cap_then = no_less ∙ ap (λ (o : Own). o.cap) (sym own_same) ∙ sym owns_after.cap ∙ ap (cap_in after) same ∙ ap cap_of live.is

        acting : ShowsClient after.trail (client_at done.shared own.client) (client_in after own.client)
        acting =
            subst (λ place. ShowsClient after.trail place (client_in after own.client)) (sym there)
            (subst (λ place. ShowsClient after.trail (Some (agree live.client)) place) (sym live.is)
            (record { cap = cap_then; asks = live.shows.asks; kept = live.shows.kept; fallen = live.shows.fallen }))

        acting_rights : (page : ℕ) (right : Right) → allows (rights_at done.shared own.client) page right ≡ permits (right_in after own.client page) right
        acting_rights page right =
            ap (λ place. allows (of_client [] (λ (client : Client). client.rights) place) page right) there
            ∙ ap (λ (o : Own). allows o.held page right) (sym own_granted)
            ∙ allows_right (all_fronted opened_own.held wants) (distinct_fronted opened_own.held wants owns_after.sound.distinct) page right
            ∙ ap (λ (found : Option Held). permits (option_map (λ (e : Held). e.right) found) right) (entry_of-all_fronted page opened_own.held wants)
            ∙ ap (λ one. permits one right) (sym (owns_after.rights page) ∙ ap (λ w. right_in after w page) same)

  pub granted_then : (calls : ℕ) → calls ≤ opened_own.cap → Acquires hub own wants calls Granted after (fronted opened_own wants)
  granted_then calls room = (
    record {
      replies = λ shared shows. sym (ap (λ (t : Turned Reply). t.reply) (answer shared shows));
      shows = λ shared shows. subst (λ (t : Turned Reply). Shows t.shared after) (sym (answer shared shows)) (shows_granted shared shows);
      owns = λ shared shows. own_granted shared shows ∙ sym (ap (λ (t : Turned Reply). t.own) (answer shared shows));
    },
    λ shared shows. ap (first_unframed hub) (missing shared shows),
  )
    where
      missing : (shared : Shared) → Shows shared hub → missing_of (opened shared (own_of own)).own.held wants ≡ []
      missing shared shows = missing_then hub own after opened_own sound owns asked owns_after.sound.distinct wants shared shows ∙ none

      answer : (shared : Shared) → Shows shared hub → acquire shared (own_of own) wants calls ≡ turned Granted (granted wants [] (with_asks [] (opened shared (own_of own))))
      answer shared shows =
          granted_by shared (own_of own) wants calls (fallen_shown shared hub own shows owns) (missing shared shows)
          (ap (λ (o : Own). nat_lt o.cap calls) (sym (asked.owns shared shows)) ∙ le-ltb opened_own.cap calls room)

  -- the cache is that of its client still
  pub sound_fronted : cache.IsSound (fronted opened_own wants)
  sound_fronted = record {
    distinct = distinct_fronted opened_own.held wants owns_after.sound.distinct;
    few = let less = fronted_no_longer opened_own.held wants in let few = owns_after.sound.few in omega (arith, less, few);
    pending = owns_after.sound.pending;
    least = owns_after.sound.least;
    most = owns_after.sound.most;
  }

  pub owned_fronted : (calls : ℕ) → calls ≤ opened_own.cap → Owns after (fronted opened_own wants)
  owned_fronted calls room =
      owns_behind (λ shared one. acquire shared one wants calls) hub own after (granted_then calls room).0.shows
      (kept_by (λ shared one. acquire shared one wants calls) hub own owns.owned (λ shared one live. MachineTurn.acquiring wants calls live)) sound.sound.stands
      (fronted opened_own wants) (granted_then calls room).0.owns sound_fronted
      (let less = fronted_no_longer opened_own.held wants in let few = owns_after.few in omega (arith, less, few)) owns_after.live

  pub words_fronted : (base : List (List ℕ)) → CacheIsRight base after opened_own → CacheIsRight base after (fronted opened_own wants)
  words_fronted base words = right_fronted (seen_value base after opened_own) opened_own.held wants words

-- each want that is not lacking is held
pub wanted_held : (held : List Held) (wants : List Want) → lacking_in held wants ≡ [] → (want : Want) → Contains wants want → IsSome (right_of want.page held)
wanted_held held wants none want inside =
    permitted (right_of want.page held) want.right
    (all_pass (λ (one : Want). permits (right_of one.page held) one.right) wants none want inside)
  where
    permitted : (right : Option Right) (wanted : Right) → permits right wanted ≡ true → IsSome right
    permitted None wanted is = cc
    permitted (Some right) wanted is = refl

    all_pass : (test : Want → Bool) (wants : List Want) → filter (λ one. not (test one)) wants ≡ [] → (want : Want) → Contains wants want → test want ≡ true
    all_pass test wants none want inside =
        by (test want) refl
      where
        by : (b : Bool) → test want ≡ b → test want ≡ true
        by true is = is
        by false is = absurd (nothing_in want (subst (λ (l : List Want). Contains l want) none (contains_filtered (λ one. not (test one)) wants want inside (ap not is))))

-- what such an acquire finds once its turn has opened and no asks are left
pub record Gathered (hub : HubView) (own : cache.Own) (after : HubView) (own_after : cache.Own) : Type 0 where
  pub sound : Whole hub
  pub owns : Owning hub own
  pub asked : Asked hub own after own_after
  pub sound_after : Whole after
  pub owns_after : Owning after own_after
  pub same : own_after.client ≡ own.client
  pub gathers : IsSome (gathering_in hub own.client)

pub gathered_by : (hub view : HubView) (who : ℕ) (own : cache.Own) (after : HubView) (own_after : cache.Own) (asks : List Want) → view ≡ hub → IsSound view → Owns hub own → own.client ≡ who
    → fallen_in hub who ≡ None → IsSome (gathering_in hub who) → asks ≡ []
    → ((wants : List Want) (calls : ℕ) (reply : Reply) → IsRefused hub own wants calls reply asks → IsTurn (λ shared own. acquire shared own wants calls) reply hub own after own_after)
    → IsSound after → Owns after own_after → own_after.client ≡ who → fallen_in after who ≡ None → Gathered hub own after own_after
gathered_by hub view who own after own_after asks view_is sound owned client up gathers none turn sound_after owned_after client_after up_after = record {
  sound = whole_at view hub view_is sound;
  owns = owns;
  asked = asked_by hub own after own_after [] 4101 full (nothing_refused hub own owns)
      (turn [] 4101 full (subst (λ (list : List Want). IsRefused hub own [] 4101 full list) (sym none) (nothing_refused hub own owns)));
  sound_after = whole after sound_after;
  owns_after = owning after own_after sound_after owned_after (ap (fallen_in after) client_after ∙ up_after);
  same = client_after ∙ sym client;
  gathers = subst (λ (w : ℕ). IsSome (gathering_in hub w)) (sym client) gathers;
}
  where
    owns : Owning hub own
    owns = owning hub own (subst IsSound view_is sound) owned (ap (fallen_in hub) client ∙ up)

    full : Reply
    full = TrailFull (entry_count (hub.trail ++ as_items (entries_by own.client own.pending)))

-- what is then refused at once is what the machine refuses of each shared part
pub none_refused : (hub : HubView) (own : cache.Own) (after : HubView) (own_after : cache.Own) (wants missing : List Want) (unended : UnendedView) (all : AssociationsView) (who : ℕ) (refused : Option Refusal)
    → Gathered hub own after own_after → own.client ≡ who → stabilisations_of unended.each ≡ after.stabilisations → AreAssociationsOf all after.trail → missing ≡ lacking_in own_after.held wants
    → Refuses unended all who missing refused
    → (shared : Shared) → Shows shared after → refused_at_once shared own.client (lacking_in own_after.held wants) ≡ option_map reply_of refused
none_refused hub own after own_after wants missing unended all who refused gathered client list of_trail same refuses shared shows =
    ap₂ (refused_at_once shared) client (sym same)
    ∙ sym (refuses shared (keeps_of shared after unended all shows gathered.sound_after.sound.stands list of_trail))
