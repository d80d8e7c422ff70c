use Rattle.std.proofs.Common.{◌≡◌, ◌≢◌, ◌⊎◌, ◌<◌, ◌≤◌, ◌+◌, ◌-◌, ◌==◌, ℕ, zero, suc, List, [], ◌∷◌, Bool, true, false, cond, not, min, map, filter, length, take, get_or, get_or-set_same, get_or-set_other, refl, sym, ap, ◌∙◌, subst, inl, inr, ⊎_elim, arith}
use Rattle.std.specs.Prelude.{Option, None, Some, filter_map, reverse, slice_index_or}
use Rattle.std.specs.List.{count_by, range_with_len}
use Rattle.std.proofs.lemmas.Bool.{cond_both, cases_eq, eqb-true}
use Rattle.std.proofs.lemmas.List.{length-append, length-map, length-reverse, length-take}
use Rattle.std.proofs.lemmas.List.Filters.{length-filter_both}
use Rattle.casper_words.specs.Crew.{IsClient}
use Rattle.casper_words.specs.Wants.{AreWants}
use Rattle.casper_words.specs.declared.page.Want.{Want}
use Rattle.casper_model.specs.declared.reply.JoinRefusal.{JoinRefusal}
use Rattle.casper_model.specs.declared.reply.Reply.{Reply}
use Rattle.casper_model.specs.Acquire.{acquire, acquired_by, answered, missing_once_opened}
use Rattle.casper_model.specs.Both.{Both, Turned}
use Rattle.casper_model.specs.Client.{Client, Fallen}
use Rattle.casper_model.specs.declared.outcome.Kept.{Kept}
use Rattle.casper_model.specs.Held.{is_of, lowered, holds, with_first, granted_right, with_granted}
use Rattle.casper_model.specs.Hits.{with_call}
use Rattle.casper_model.specs.Join.{join, joined_by}
use Rattle.casper_model.specs.Leave.{serve, served_by, depart, departed_by, vanish}
use Rattle.casper_model.specs.Opening.{begun, given_up, kept_of, is_given_up_wholly, is_given_up_to_reading, gathering_of, handed_in_to, opened, given_in_opening}
use Rattle.casper_model.specs.Own.{Own, blank}
use Rattle.casper_model.specs.Rights.{InOrder}
use Rattle.casper_model.specs.Room.{free_room}
use Rattle.casper_model.specs.Run.{state_after}
use Rattle.casper_model.specs.Shared.{Shared, client_at, fallen_at}
use Rattle.casper_model.specs.Stabilisation.{Stabilisation}
use Rattle.casper_model.specs.Stabilise.{stabilise, stabilised_by, stabilised, stabilised_in, kept_at}
use Rattle.casper_model.specs.Frozen.{stabilisation_of}
use Rattle.casper_model.specs.State.{State, own_at, with_own, with_shared, start}
use Rattle.casper_model.specs.Vault.{VaultState}
use Rattle.casper_model.proofs.OpeningRights.{kept_or_lowered}
use Rattle.casper_model.proofs.RunRights.{start_in_order, blank_at}
use Rattle.casper_model.proofs.StateHistory.{in_owns}
use Rattle.casper_model.proofs.StepRights.{step_rights}
use Rattle.casper_turns.proofs.KeptByTurns.{KeptByTurnsWith, step_keeps_with}
use Rattle.casper_laws.proofs.PendingSteps.{acquire_empties, serve_empties, stabilise_empties, depart_empties}
use Rattle.casper_laws.proofs.HeldWordOwn.{join_who}
use Rattle.casper_turns.specs.NamedWants.{AllWantsAre, WantsAre}
use Rattle.casper_model.specs.Rights.{AllNameClients, NamesClients}
use Rattle.casper_model.specs.Run.{Happening}
use Rattle.casper_model.specs.Step.{step}
use Rattle.casper_model.specs.Outside.{Outside}
use Rattle.casper_model.specs.declared.event.Event.{Event}
use Rattle.casper_caches.specs.HeldPages.{HoldsEachOnce, IsCache, HasCaches, InEveryCache, EachPageIsHeldOnce, EachCacheIsWithin}
use Rattle.casper_caches.proofs.Counts.{count_cons, count_append, count_take, count_reverse, count_filter, count_map, count_kept, count_none, count_filtered_out, length_kept, wants_once}

-- Every turn keeps the caches in order.

-- what stands first and what follows are counted together
both_by : (other : ℕ) (want : Want) (first second list : List Want) → count_by (is_of other) first + count_by (is_of other) second ≡ count_by (is_of other) list
    → (here : Bool)
    → count_by (is_of other) (cond here (want ∷ first) first) + count_by (is_of other) (cond (not here) (want ∷ second) second) ≡ count_by (is_of other) (want ∷ list)
both_by other want first second list rest true =
    let e = count_cons (is_of other) want first in let g = count_cons (is_of other) want list in omega (arith, e, g, rest)
both_by other want first second list rest false =
    let e = count_cons (is_of other) want second in let g = count_cons (is_of other) want list in omega (arith, e, g, rest)

count_both : (other at : ℕ) (list : List Want)
    → count_by (is_of other) (filter (is_of at) list) + count_by (is_of other) (filter (λ want. not (is_of at want)) list) ≡ count_by (is_of other) list
count_both other at [] = refl
count_both other at (want ∷ list) =
    both_by other want (filter (is_of at) list) (filter (λ (one : Want). not (is_of at one)) list) list (count_both other at list) (is_of at want)

-- the room of each client's cache as a session begins
capacity_place : (capacity first count at : ℕ) (other : Own) → at < count
    → (slice_index_or (map (λ who. blank who capacity) (range_with_len first count)) at other).capacity ≡ capacity
capacity_place capacity first zero at other below = absurd (omega (arith, below))
capacity_place capacity first (suc count) zero other below = refl
capacity_place capacity first (suc count) (suc at) other below =
    let less : at < count = omega (arith, below) in capacity_place capacity (first + 1) count at other less

module _ (capacity : ℕ) where
  -- an empty cache
  empty_cache : (own : Own) → own.held ≡ [] → own.capacity ≡ capacity → IsCache capacity own
  empty_cache own none same = record {
    once = λ page. let e : count_by (is_of page) own.held ≡ 0 = ap (count_by (is_of page)) none in omega (arith, e);
    within = let e : length own.held ≡ 0 = ap length none in omega (arith, e);
    room = same;
  }

  -- pages given up, or kept for reading
  kept_page : (keep : Want → Option Want) → ((want left : Want) → keep want ≡ Some left → (left ≡ want) ⊎ (left ≡ lowered want))
      → (page : ℕ) (want left : Want) → keep want ≡ Some left → is_of page left ≡ is_of page want
  kept_page keep less page want left is =
      ⊎_elim (λ same. ap (is_of page) same) (λ low. ap (is_of page) low) (less want left is)

  kept_cache : (keep : Want → Option Want) → ((want left : Want) → keep want ≡ Some left → (left ≡ want) ⊎ (left ≡ lowered want))
      → (own : Own) → IsCache capacity own → IsCache capacity (record own { held = filter_map keep own.held })
  kept_cache keep less own cache = record {
    once = λ page.
        let fewer = count_kept (is_of page) keep (kept_page keep less page) own.held in
        let before = cache.once page in omega (arith, fewer, before);
    within = let fewer = length_kept keep own.held in let before = cache.within in omega (arith, fewer, before);
    room = cache.room;
  }

  lowered_cache : (own : Own) → IsCache capacity own → IsCache capacity (record own { held = map lowered own.held })
  lowered_cache own cache = record {
    once = λ page.
        let same = count_map (is_of page) lowered (λ want. refl) own.held in
        let before = cache.once page in omega (arith, same, before);
    within = let same : length (map lowered own.held) ≡ length own.held = length-map own.held lowered in let before = cache.within in omega (arith, same, before);
    room = cache.room;
  }

  handed_cache : (both : Both) (one : Option Stabilisation) → IsCache capacity both.own → IsCache capacity (handed_in_to both one).own
  handed_cache both None cache = cache
  handed_cache both (Some one) cache = lowered_cache both.own cache

  same_held : (own after : Own) → after.held ≡ own.held → after.capacity ≡ own.capacity → IsCache capacity own → IsCache capacity after
  same_held own after held room cache = record {
    once = λ page. subst (λ list. count_by (is_of page) list ≤ 1) (sym held) (cache.once page);
    within = subst (λ list. length list ≤ capacity) (sym held) cache.within;
    room = room ∙ cache.room;
  }

  pub opened_cache : (shared : Shared) (own : Own) → IsCache capacity own → IsCache capacity (opened shared own).own
  opened_cache shared own cache =
      let second = begun shared own in
      let third = given_up second in
      handed_cache third (gathering_of third.shared third.own.who)
      (kept_cache (kept_of second.shared second.own.who)
      (λ want left kept. kept_or_lowered (is_given_up_wholly second.shared second.own.who want) (is_given_up_to_reading second.shared second.own.who want) want left kept)
      second.own (same_held own second.own refl refl cache))

  -- pages brought in by a grant
  granted_page : (held : List Want) (page : ℕ) (want : Want) → is_of page (granted_right held want) ≡ is_of page want
  granted_page held page want = refl

  granted_once : (wants held : List Want) → AreWants wants → HoldsEachOnce held → HoldsEachOnce (with_granted capacity wants held)
  granted_once wants held are each page = by_wanted (holds wants page) refl
    where
      others : List Want
      others = filter (λ want. not (holds wants want.page)) held

      in_front : count_by (is_of page) (reverse (map (granted_right held) wants)) ≡ count_by (is_of page) wants
      in_front = count_reverse (is_of page) (map (granted_right held) wants) ∙ count_map (is_of page) (granted_right held) (granted_page held page) wants

      all : count_by (is_of page) (with_granted capacity wants held)
          ≡ count_by (is_of page) (reverse (map (granted_right held) wants)) + count_by (is_of page) (take (capacity - length wants) others)
      all = count_append (is_of page) (reverse (map (granted_right held) wants)) (take (capacity - length wants) others)

      fewer : count_by (is_of page) (take (capacity - length wants) others) ≤ count_by (is_of page) others
      fewer = count_take (is_of page) (capacity - length wants) others

      by_wanted : (wanted : Bool) → holds wants page ≡ wanted → count_by (is_of page) (with_granted capacity wants held) ≤ 1
      by_wanted true is =
          let none : count_by (is_of page) others ≡ 0 = count_filtered_out (is_of page) (λ want. not (holds wants want.page))
          (λ want same. ap (λ number. not (holds wants number)) (eqb-true want.page page same) ∙ ap not is) held in
          let once = wants_once wants are.rise page in
          omega (arith, all, in_front, fewer, none, once)
      by_wanted false is =
          let none : count_by (is_of page) wants ≡ 0 = count_none (is_of page) wants is in
          let less = count_filter (is_of page) (λ want. not (holds wants want.page)) held in
          let once = each page in
          omega (arith, all, in_front, fewer, none, less, once)

  granted_within : (wants held : List Want) → 4 ≤ capacity → AreWants wants → length (with_granted capacity wants held) ≤ capacity
  granted_within wants held room are =
      let others = filter (λ (want : Want). not (holds wants want.page)) held in
      let all = length-append (reverse (map (granted_right held) wants)) (take (capacity - length wants) others) in
      let turned : length (reverse (map (granted_right held) wants)) ≡ length (map (granted_right held) wants) = length-reverse (map (granted_right held) wants) in
      let mapped : length (map (granted_right held) wants) ≡ length wants = length-map wants (granted_right held) in
      let taken : length (take (capacity - length wants) others) ≡ min (capacity - length wants) (length others) = length-take (capacity - length wants) others in
      let few = are.few in
      omega (arith, all, turned, mapped, taken, few, room)

  granted_cache : 4 ≤ capacity → (wants : List Want) → AreWants wants → (own : Own) (cap : ℕ) → IsCache capacity own
      → IsCache capacity (record own { cap = cap; held = with_granted own.capacity wants own.held })
  granted_cache room wants are own cap cache = record {
    once = subst (λ count. HoldsEachOnce (with_granted count wants own.held)) (sym cache.room) (granted_once wants own.held are cache.once);
    within = subst (λ count. length (with_granted count wants own.held) ≤ capacity) (sym cache.room) (granted_within wants own.held room are);
    room = cache.room;
  }

  answered_cache : 4 ≤ capacity → (both : Both) (given : List ℕ) (wants missing : List Want) → AreWants wants → (refusal : Option Reply) → IsCache capacity both.own
      → IsCache capacity (answered both given wants missing refusal).own
  answered_cache room both given wants missing are None cache = granted_cache room wants are both.own _ cache
  answered_cache room both given wants missing are (Some reply) cache = cache

  pub acquired_cache : 4 ≤ capacity → (shared : Shared) (own : Own) (wants : List Want) (calls : ℕ) → AreWants wants → (fallen : Option Fallen) → IsCache capacity own
      → IsCache capacity (acquired_by shared own wants calls fallen).own
  acquired_cache room shared own wants calls are (Some fallen) cache = empty_cache _ refl cache.room
  acquired_cache room shared own wants calls are None cache =
      let both = opened shared own in
      answered_cache room both (given_in_opening shared own) wants (missing_once_opened shared own wants) are _ (opened_cache shared own cache)

  served_cache : (shared : Shared) (own : Own) (fallen : Option Fallen) → IsCache capacity own → IsCache capacity (served_by shared own fallen).own
  served_cache shared own (Some fallen) cache = empty_cache _ refl cache.room
  served_cache shared own None cache = opened_cache shared own cache

  departed_cache : (shared : Shared) (own : Own) (fallen : Option Fallen) → IsCache capacity own → IsCache capacity (departed_by shared own fallen).own
  departed_cache shared own (Some fallen) cache = empty_cache _ refl cache.room
  departed_cache shared own None cache = empty_cache _ refl (opened_cache shared own cache).room

  stabilised_in_cache : (both : Both) (one : Option Stabilisation) → IsCache capacity both.own → IsCache capacity (stabilised_in both one).own
  stabilised_in_cache both None cache = lowered_cache both.own cache
  stabilised_in_cache both (Some one) cache = cache

  stabilised_kept_cache : (both : Both) (kept : Option Kept) → IsCache capacity both.own → IsCache capacity (stabilised both kept).own
  stabilised_kept_cache both None cache = stabilised_in_cache both (stabilisation_of both.shared both.own.who) cache
  stabilised_kept_cache both (Some outcome) cache = cache

  stabilised_cache : (shared : Shared) (own : Own) (fallen : Option Fallen) → IsCache capacity own → IsCache capacity (stabilised_by shared own fallen).own
  stabilised_cache shared own (Some fallen) cache = empty_cache _ refl cache.room
  stabilised_cache shared own None cache = stabilised_kept_cache (opened shared own) (kept_at shared own.who) (opened_cache shared own cache)

  joined_cache : (shared : Shared) (own : Own) (place : Option Client) → IsCache capacity own → IsCache capacity (joined_by shared own place).own
  joined_cache shared own (Some client) cache = cache
  joined_cache shared own None cache =
      cond_both (free_room shared == 0) _ _ (λ (turn : Turned (Option JoinRefusal)). IsCache capacity turn.own) (λ full. cache)
      (λ free. empty_cache _ refl cache.room)

  hit_cache : (own after : Own) (page : ℕ) → after.held ≡ with_first page own.held → after.capacity ≡ own.capacity → IsCache capacity own → IsCache capacity after
  hit_cache own after page held room cache = record {
    once = λ other.
        let first = count_append (is_of other) (filter (is_of page) own.held) (filter (λ want. not (is_of page want)) own.held) in
        let parts = count_both other page own.held in
        let same : count_by (is_of other) after.held ≡ count_by (is_of other) (with_first page own.held) = ap (count_by (is_of other)) held in
        let before = cache.once other in
        omega (arith, first, parts, same, before);
    within =
        let first = length-append (filter (is_of page) own.held) (filter (λ (want : Want). not (is_of page want)) own.held) in
        let parts = length-filter_both (is_of page) (λ (want : Want). not (is_of page want)) (λ want. refl) own.held in
        let same : length after.held ≡ length (with_first page own.held) = ap length held in
        let before = cache.within in
        omega (arith, first, parts, same, before);
    room = room ∙ cache.room;
  }

  -- after a turn of a client
  cache_after : (state : State) (who : ℕ) (after : Shared) (own : Own) → InOrder state → IsClient who → own.who ≡ (own_at state who).who → IsCache capacity own
      → HasCaches capacity state → HasCaches capacity (with_own (with_shared state after) own)
  cache_after state who after own order is named cache others number client = by_number (cases_eq number own.who)
    where
      by_number : (number ≡ own.who) ⊎ (number ≢ own.who) → IsCache capacity (own_at (with_own (with_shared state after) own) number)
      by_number (inl same) =
          subst (IsCache capacity)
          (sym (ap (λ at. get_or ((with_own (with_shared state after) own).owns) at (blank number 0)) same
          ∙ get_or-set_same state.owns own.who own (blank number 0) (in_owns state who own order is named)))
          cache
      by_number (inr apart) =
          subst (IsCache capacity) (sym (get_or-set_other state.owns own.who number own (blank number 0) apart)) (others number client)

  caches_by_turns : 4 ≤ capacity → KeptByTurnsWith AreWants InOrder InOrder (HasCaches capacity)
  caches_by_turns room = record {
    hit = λ state who act page word value is calls order caches can.
        let own = own_at state who in
        cache_after state who state.shared (with_call own act page word value) order is refl
        (hit_cache own (with_call own act page word value) page refl refl (caches who is)) caches;
    joining = λ state who is order caches.
        let own = own_at state who in
        cache_after state who (join state.shared own).shared (join state.shared own).own order is (join_who state.shared own (client_at state.shared own.who))
        (joined_cache state.shared own (client_at state.shared own.who) (caches who is)) caches;
    acquiring = λ state who wants calls are is live order caches.
        let own = own_at state who in
        let turn = acquire state.shared own wants calls in
        cache_after state who turn.shared turn.own order is (acquire_empties wants calls state.shared own (fallen_at state.shared own.who)).who
        (acquired_cache room state.shared own wants calls are (fallen_at state.shared own.who) (caches who is)) caches;
    serving = λ state who is live order caches.
        let own = own_at state who in
        cache_after state who (serve state.shared own).shared (serve state.shared own).own order is (serve_empties state.shared own (fallen_at state.shared own.who)).who
        (served_cache state.shared own (fallen_at state.shared own.who) (caches who is)) caches;
    stabilising = λ state who is live order caches.
        let own = own_at state who in
        cache_after state who (stabilise state.shared own).shared (stabilise state.shared own).own order is
        (stabilise_empties state.shared own (fallen_at state.shared own.who)).who
        (stabilised_cache state.shared own (fallen_at state.shared own.who) (caches who is)) caches;
    departing = λ state who is live order caches.
        let own = own_at state who in
        cache_after state who (depart state.shared own).shared (depart state.shared own).own order is (depart_empties state.shared own (fallen_at state.shared own.who)).who
        (departed_cache state.shared own (fallen_at state.shared own.who) (caches who is)) caches;
    vanishing = λ state who is live order caches.
        let own = own_at state who in
        cache_after state who (vanish state.shared own).shared (vanish state.shared own).own order is refl
        (empty_cache _ refl (caches who is).room) caches;
    losing = λ state who is live order caches. caches;
    writing = λ state outside lead one order caches job free. caches;
    finishing = λ state lead unfinished order caches e same. caches;
    settling = λ state one order caches e. caches;
  }

  caches_step : 4 ≤ capacity → (state : State) (event : Event) (outside : Outside) → WantsAre AreWants event → NamesClients event → InOrder state
      → HasCaches capacity state → HasCaches capacity (step state event outside).state
  caches_step room =
      step_keeps_with AreWants (λ want. record { some = omega arith; few = omega arith; rise = tt }) InOrder InOrder (HasCaches capacity) step_rights (λ one order. order)
      (caches_by_turns room)

  pub run_caches : 4 ≤ capacity → (state : State) (happenings : List Happening) → AllNameClients happenings → AllWantsAre AreWants happenings → InOrder state
      → HasCaches capacity state → HasCaches capacity (state_after state happenings)
  run_caches room state [] named are order caches = caches
  run_caches room state (first ∷ following) named are order caches =
      run_caches room (step state first.event first.outside).state following named.1 are.1 (step_rights state first.event first.outside named.0 order)
      (caches_step room state first.event first.outside are.0 named.0 order caches)

  start_caches : (vault : VaultState) (pages limit : ℕ) → HasCaches capacity (start vault pages limit capacity)
  start_caches vault pages limit who client =
      empty_cache (own_at (start vault pages limit capacity) who) (blank_at vault pages limit capacity who).held
      (capacity_place capacity 0 33 who (blank who 0) (let most = client.1 in omega (arith, most)))

pub every_cache : InEveryCache IsCache
every_cache vault pages limit capacity happenings room named are =
    run_caches capacity room (start vault pages limit capacity) happenings named are (start_in_order vault pages limit capacity)
    (start_caches capacity vault pages limit)

pub every_page_once : EachPageIsHeldOnce
every_page_once vault pages limit capacity happenings room named are who client = (every_cache vault pages limit capacity happenings room named are who client).once

pub every_cache_within : EachCacheIsWithin
every_cache_within vault pages limit capacity happenings room named are who client = (every_cache vault pages limit capacity happenings room named are who client).within
