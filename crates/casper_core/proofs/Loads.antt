use Rattle.std.proofs.Common.{◌≡◌, ◌≤◌, ℕ, zero, suc, ◌+◌, List, [], ◌∷◌, Bool, true, false, cond, not, length, filter, refl, sym, ap, ◌∙◌, subst, ⊎_elim, arith, true≢false}
use Rattle.std.specs.Prelude.{Option, Some, IsSome, is_some, is_none, find, Contains}
use Rattle.std.specs.List.{list_any}
use Rattle.casper_words.specs.declared.page.Want.{Want}
use Rattle.casper_cache.specs.Own as cache
use Rattle.casper_model.proofs.Entries.{contains_cases}
use Rattle.casper_trail.proofs.LinkLists.{contains_there}
use Rattle.casper_model.specs.Shared.{Shared}
use Rattle.casper_hub.specs.HubView.{HubView, is_live, frame_in, page_count}
use Rattle.casper_hub.specs.Owned.{own_of, Owns}
use Rattle.casper_hub.specs.Shows.{Shows}
use Rattle.casper_hub.specs.Words.{CacheIsRight}
use Rattle.casper_turns.specs.CommitsNothing as turns
use Rattle.casper_turns.proofs.Compose.{still_itself}
use Rattle.casper_hub.specs.GoesOn.{KeepsClient, CommitsNothing}
use Rattle.casper_hub.proofs.Relying.{goes_same}
use Rattle.casper_hub.specs.Turns.{IsTurn}
use Rattle.casper_hub.proofs.StandsFor.{good_with, good_with_each}
use Rattle.casper_hub.proofs.Supplied.{with_frames, shows_beside_frames, kept_beside_frames}
use Rattle.casper_model.specs.Own as machine
use Rattle.casper_model.specs.Both.{Turned}
use Rattle.casper_core.specs.Loading.{OnlyLoads, AreStored}

-- What frames that were loaded leave: all but the frames.

-- what holds with any frames holds after loads
behind_loads : (P : HubView → Type 0) (hub after : HubView) → OnlyLoads hub after → ((frames : List (Option (List ℕ))) → P (with_frames hub frames)) → P after
behind_loads P hub after loads any = subst P (sym loads.same) (any after.pages.frames)

pub loads_nothing : (hub : HubView) → OnlyLoads hub hub
loads_nothing hub = record { same = refl; stays = λ page framed. framed }

pub loads_again : (first second third : HubView) → OnlyLoads first second → OnlyLoads second third → OnlyLoads first third
loads_again first second third one two = record {
  same = two.same ∙ ap (λ hub. with_frames hub third.pages.frames) one.same;
  stays = λ page framed. two.stays page (one.stays page framed);
}

pub shows_loaded : (shared : Shared) (hub after : HubView) → OnlyLoads hub after → Shows shared hub → Shows shared after
shows_loaded shared hub after loads shows = shows_beside_frames shared hub after shows loads.same

-- and what it stood for, it stood for before them
pub shown_before_loads : (shared : Shared) (hub after : HubView) → OnlyLoads hub after → Shows shared after → Shows shared hub
shown_before_loads shared hub after loads =
    behind_loads (λ one. Shows shared one → Shows shared hub) hub after loads
    (λ frames shows. shows_beside_frames shared (with_frames hub frames) hub shows refl)

pub owns_loaded : (hub after : HubView) (own : cache.Own) → OnlyLoads hub after → Owns hub own → Owns after own
owns_loaded hub after own loads owns = record {
  sound = owns.sound;
  few = owns.few;
  live = behind_loads (λ one. is_live one own.client ≡ true) hub after loads (λ frames. owns.live);
  good = good_with_each after (own_of own) (λ shared shows. good_with hub (own_of own) owns.good shared (shown_before_loads shared hub after loads shows));
}

pub kept_loaded : (who : ℕ) (hub after : HubView) → OnlyLoads hub after → KeepsClient who hub after
kept_loaded who hub after loads = kept_beside_frames who hub after loads.same

pub still_loaded : (hub after : HubView) → OnlyLoads hub after → CommitsNothing hub after
still_loaded hub after loads = goes_same turns.CommitsNothing still_itself hub after (λ shared shows. shows_loaded shared hub after loads shows)

pub right_loaded : (base : List (List ℕ)) (hub after : HubView) (own : cache.Own) → OnlyLoads hub after → CacheIsRight base hub own → CacheIsRight base after own
right_loaded base hub after own loads right = behind_loads (λ one. CacheIsRight base one own) hub after loads (λ frames. right)

pub stored_loaded : (base image : List (List ℕ)) (hub after : HubView) → OnlyLoads hub after → AreStored base hub image → AreStored base after image
stored_loaded base image hub after loads stored = behind_loads (λ one. AreStored base one image) hub after loads (λ frames. stored)

pub pages_loaded : (hub after : HubView) → OnlyLoads hub after → page_count after ≡ page_count hub
pages_loaded hub after loads = behind_loads (λ one. page_count one ≡ page_count hub) hub after loads (λ frames. refl)

-- a turn made after loads is made of the hub before them
pub turn_loaded : {R : Type 0} (turn : Shared → machine.Own → Turned R) (reply : R) (hub middle : HubView) (own : cache.Own) (after : HubView) (own_after : cache.Own)
    → OnlyLoads hub middle → IsTurn turn reply middle own after own_after → IsTurn turn reply hub own after own_after
turn_loaded turn reply hub middle own after own_after loads is = record {
  replies = λ shared shows. is.replies shared (shows_loaded shared hub middle loads shows);
  shows = λ shared shows. is.shows shared (shows_loaded shared hub middle loads shows);
  owns = λ shared shows. is.owns shared (shows_loaded shared hub middle loads shows);
}

-- How many loads there may be.

-- whether the server has no frame of the page of a want
abbrev pub is_unframed : HubView → Want → Bool
is_unframed hub want = is_none (frame_in hub.pages want.page)

-- how many pass a test
abbrev pub passing : {X : Type 0} → (X → Bool) → List X → ℕ
passing p [] = 0
passing p (x ∷ xs) = cond (p x) 1 0 + passing p xs

-- how many wants are of pages of which the server has no frame
abbrev pub unframed_of : HubView → List Want → ℕ
unframed_of hub wants = passing (is_unframed hub) wants

pub most_pass : {X : Type 0} (p : X → Bool) (xs : List X) → passing p xs ≤ length xs
most_pass p [] = omega arith
most_pass p (x ∷ xs) =
    let rest = most_pass p xs in
    (elim (p x) as (λ b. cond b 1 0 + passing p xs ≤ suc (length xs)) [ true ↦ omega (arith, rest) | false ↦ omega (arith, rest) ])

-- what is found among those that pass a test
found_first : {X : Type 0} (p q : X → Bool) (y : X) (ys : List X) (x : X) → (find p (filter q ys) ≡ Some x → Contains ys x × (p x ≡ true))
    → (passes : Bool) → p y ≡ passes → cond passes (Some y) (find p (filter q ys)) ≡ Some x → Contains (y ∷ ys) x × (p x ≡ true)
found_first p q y ys x rest true is here = let same : y ≡ x = cc in ((zero, omega arith, same), subst (λ z. p z ≡ true) same is)
found_first p q y ys x rest false is later = let found = rest later in (contains_there y ys x found.0, found.1)

pub found_among : {X : Type 0} (p q : X → Bool) (xs : List X) (x : X) → find p (filter q xs) ≡ Some x → Contains xs x × (p x ≡ true)
found_among p q [] x found = cc
found_among p q (y ∷ ys) x found =
    (elim (q y) as (λ b. find p (cond b (y ∷ filter q ys) (filter q ys)) ≡ Some x → Contains (y ∷ ys) x × (p x ≡ true)) [
      | true ↦ λ here. found_first p q y ys x (λ later. found_among p q ys x later) (p y) refl here
      | false ↦ λ later. let rest = found_among p q ys x later in (contains_there y ys x rest.0, rest.1)
    ]) found

-- and then there is one that passes the test
pub found_some : {X : Type 0} (p : X → Bool) (xs : List X) (x : X) → find p xs ≡ Some x → not (list_any (λ one. true) xs) ≡ false
found_some p [] x found = cc
found_some p (y ∷ ys) x found = refl

-- where fewer pass
counts : (one other : Bool) (few many more : ℕ) → (one ≡ true → other ≡ true) → few + more ≤ many → cond one 1 0 + few + more ≤ cond other 1 0 + many
counts true true few many more less rest = omega (arith, rest)
counts true false few many more less rest = absurd (true≢false (sym (less refl)))
counts false true few many more less rest = omega (arith, rest)
counts false false few many more less rest = omega (arith, rest)

pub fewer_pass : {X : Type 0} (p q : X → Bool) (xs : List X) → ((x : X) → q x ≡ true → p x ≡ true) → passing q xs ≤ passing p xs
fewer_pass p q [] less = omega arith
fewer_pass p q (x ∷ xs) less =
    let rest = fewer_pass p q xs less in
    let all = counts (q x) (p x) (passing q xs) (passing p xs) 0 (less x) (omega (arith, rest)) in
    omega (arith, all)

pub one_less : {X : Type 0} (p q : X → Bool) (xs : List X) (x : X) → ((y : X) → q y ≡ true → p y ≡ true) → Contains xs x → p x ≡ true → q x ≡ false
    → passing q xs + 1 ≤ passing p xs
one_less p q [] x less inside passes fails = absurd (omega (arith, inside.1))
one_less {X} p q (y ∷ ys) x less inside passes fails =
    ⊎_elim
    (λ (same : ◌≡◌ {A = X} y x).
    let mine : ◌≡◌ {A = ℕ} (cond (q y) 1 0) 0 = ap (λ b. cond b 1 0) (subst (λ z. q z ≡ false) (sym same) fails) in
    let theirs : ◌≡◌ {A = ℕ} (cond (p y) 1 0) 1 = ap (λ b. cond b 1 0) (subst (λ z. p z ≡ true) (sym same) passes) in
    omega (arith, mine, theirs, fewer_pass p q ys less))
    (λ rest. counts (q y) (p y) (passing q ys) (passing p ys) 1 (less y) (one_less p q ys x less rest passes fails))
    (contains_cases y ys x inside)

pub unframed_before : (hub after : HubView) (want : Want) → OnlyLoads hub after → is_unframed after want ≡ true → is_unframed hub want ≡ true
unframed_before hub after want loads unframed = by_frame (is_some (frame_in hub.pages want.page)) refl
  where
    by_frame : (framed : Bool) → is_some (frame_in hub.pages want.page) ≡ framed → not framed ≡ true
    by_frame true is = absurd (true≢false (sym unframed ∙ ap not (loads.stays want.page is)))
    by_frame false is = refl

-- after a load of a page of a want fewer are unframed
pub fewer_unframed : (hub after : HubView) (wants : List Want) (want : Want) → OnlyLoads hub after → Contains wants want → is_unframed hub want ≡ true
    → IsSome (frame_in after.pages want.page) → unframed_of after wants + 1 ≤ unframed_of hub wants
fewer_unframed hub after wants want loads among unframed framed =
    one_less (is_unframed hub) (is_unframed after) wants want (λ one is. unframed_before hub after one loads is) among unframed (ap not framed)
