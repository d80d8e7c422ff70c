use Rattle.std.proofs.Common.{◌≡◌, ◌≢◌, ℕ, List, Bool, true, false, not, refl, sym, ap, ◌∙◌, subst}
use Rattle.std.specs.Prelude.{Option, None, Some, is_none, IsTrue, Contains}
use Rattle.casper_words.specs.declared.page.Want.{Want}
use Rattle.casper_cache.specs.Own as cache
use Rattle.casper_model.specs.declared.reply.Reply.{Reply}
use Rattle.casper_model.specs.declared.reply.Reply.TheVariants.{Granted, Pending, Frozen, InDoubt, RolledBack, TrailFull, Load}
use Rattle.casper_model.specs.Client.{Fallen}
use Rattle.casper_model.specs.Stabilisation.{Stabilisation}
use Rattle.casper_model.specs.Shared.{Shared, fallen_at}
use Rattle.casper_model.specs.Own.{Own}
use Rattle.casper_model.specs.Both.{Both}
use Rattle.casper_model.specs.Held.{allows, missing_of}
use Rattle.casper_model.specs.Opening.{opened, handed_in_to, begun, given_up, gathering_of, given_in_opening}
use Rattle.casper_model.specs.Acquire.{acquire, acquired_by, answered, refused_missing, refused_full, missing_once_opened}
use Rattle.std.specs.Option.{option_or}
use Rattle.casper_model.specs.declared.outcome.Kept.{Kept}
use Rattle.casper_model.specs.Frozen.{stabilisation_of}
use Rattle.casper_model.specs.Leave.{serve, served_by}
use Rattle.casper_model.specs.Stabilise.{frozen_by, stabilised_in, stabilised, stabilised_by, kept_at, stabilise}
use Rattle.casper_model.specs.Answers.{of_reply}
use Rattle.casper_model.specs.Run.{is_disk}
use Rattle.casper_hub.specs.HubView.{HubView, frame_in}
use Rattle.casper_hub.specs.Owned.{Owns, own_of}
use Rattle.casper_hub.specs.Sound.{IsSound}
use Rattle.casper_hub.specs.GoesOn.{KeepsClient, CommitsNothing}
use Rattle.casper_hub.specs.Words.{FramesAreRight, CacheIsRight}
use Rattle.casper_hub.specs.Turns.{IsTurn, IsLoad, Acquires}
use Rattle.casper_core.specs.Acting.{KeepsHubRight, Holds}
use Rattle.casper_core.specs.Loading.{OnlyLoads, LoadFails, AreStored}
use Rattle.casper_trail.specs.Modified.{is_modified}
use Rattle.casper_core.proofs.Stored.{clean_unframed}
use Rattle.casper_core.proofs.Loads.{shows_loaded, kept_loaded, still_loaded, owns_loaded, right_loaded, stored_loaded, loads_again, found_among, found_some, is_unframed}
use Rattle.casper_hub.proofs.StandsFor.{stands_for}
use Rattle.casper_hub.proofs.Relying.{kept_again, nothing_again}

-- A turn leaves the capacity of its client's cache.

handed_capacity : (both : Both) (gathering : Option Stabilisation) → (handed_in_to both gathering).own.capacity ≡ both.own.capacity
handed_capacity both None = refl
handed_capacity both (Some gathering) = refl

pub opened_capacity : (shared : Shared) (own : Own) → (opened shared own).own.capacity ≡ own.capacity
opened_capacity shared own =
    let both = given_up (begun shared own) in handed_capacity both (gathering_of both.shared both.own.who)

answered_capacity : (both : Both) (given : List ℕ) (wants missing : List Want) (refusal : Option Reply) → (answered both given wants missing refusal).own.capacity ≡ both.own.capacity
answered_capacity both given wants missing None = refl
answered_capacity both given wants missing (Some reply) = refl

acquired_capacity : (shared : Shared) (own : Own) (wants : List Want) (calls : ℕ) (fallen : Option Fallen) → (acquired_by shared own wants calls fallen).own.capacity ≡ own.capacity
acquired_capacity shared own wants calls None =
    let both = opened shared own in
    let given = given_in_opening shared own in
    let missing = missing_of both.own.held wants in
    answered_capacity both given wants missing (option_or (refused_missing both.shared both.own.who given missing) (refused_full both missing calls))
    ∙ opened_capacity shared own
acquired_capacity shared own wants calls (Some fallen) = refl

pub acquire_capacity : (shared : Shared) (own : Own) (wants : List Want) (calls : ℕ) → (acquire shared own wants calls).own.capacity ≡ own.capacity
acquire_capacity shared own wants calls = acquired_capacity shared own wants calls (fallen_at shared own.who)

frozen_capacity : (both : Both) → (frozen_by both).own.capacity ≡ both.own.capacity
frozen_capacity both = refl

stabilised_in_capacity : (both : Both) (found : Option Stabilisation) → (stabilised_in both found).own.capacity ≡ both.own.capacity
stabilised_in_capacity both None = frozen_capacity both
stabilised_in_capacity both (Some one) = refl

stabilised_capacity : (both : Both) (outcome : Option Kept) → (stabilised both outcome).own.capacity ≡ both.own.capacity
stabilised_capacity both None = stabilised_in_capacity both (stabilisation_of both.shared both.own.who)
stabilised_capacity both (Some outcome) = refl

stabilised_by_capacity : (shared : Shared) (own : Own) (fallen : Option Fallen) → (stabilised_by shared own fallen).own.capacity ≡ own.capacity
stabilised_by_capacity shared own None = stabilised_capacity (opened shared own) (kept_at shared own.who) ∙ opened_capacity shared own
stabilised_by_capacity shared own (Some fallen) = refl

pub stabilise_capacity : (shared : Shared) (own : Own) → (stabilise shared own).own.capacity ≡ own.capacity
stabilise_capacity shared own = stabilised_by_capacity shared own (fallen_at shared own.who)

served_capacity : (shared : Shared) (own : Own) (fallen : Option Fallen) → (served_by shared own fallen).own.capacity ≡ own.capacity
served_capacity shared own None = opened_capacity shared own
served_capacity shared own (Some fallen) = refl

pub serve_capacity : (shared : Shared) (own : Own) → (serve shared own).own.capacity ≡ own.capacity
serve_capacity shared own = served_capacity shared own (fallen_at shared own.who)

-- What an acquire of the hub is that asks for a load, and what one that asks for none is.

pub load_of : (hub : HubView) (own : cache.Own) (wants : List Want) (calls : ℕ) (reply : Reply) (page marks : ℕ) (after : HubView) (own_after : cache.Own)
    → reply ≡ Load page marks → Acquires hub own wants calls reply after own_after → IsLoad hub own wants calls page marks after own_after
load_of hub own wants calls reply page marks after own_after is turn = subst (λ one. Acquires hub own wants calls one after own_after) is turn

pub turn_of : (hub : HubView) (own : cache.Own) (wants : List Want) (calls : ℕ) (reply : Reply) (after : HubView) (own_after : cache.Own)
    → ((page marks : ℕ) → reply ≡ Load page marks → ⊥) → Acquires hub own wants calls reply after own_after
    → IsTurn (λ shared own. acquire shared own wants calls) reply hub own after own_after
turn_of hub own wants calls Granted after own_after no_load turn = turn.0
turn_of hub own wants calls (Pending blockers) after own_after no_load turn = turn
turn_of hub own wants calls (Frozen lead) after own_after no_load turn = turn
turn_of hub own wants calls InDoubt after own_after no_load turn = turn
turn_of hub own wants calls (RolledBack mark recorded unrecorded) after own_after no_load turn = turn
turn_of hub own wants calls (TrailFull entries) after own_after no_load turn = turn
turn_of hub own wants calls (Load page marks) after own_after no_load turn = absurd (no_load page marks refl)

-- a reply that asks for no load tells of no fault
pub tells_nothing : (reply : Reply) → ((page marks : ℕ) → reply ≡ Load page marks → ⊥) → is_disk (of_reply reply) ≡ false
tells_nothing Granted no_load = refl
tells_nothing (Pending blockers) no_load = refl
tells_nothing (Frozen lead) no_load = refl
tells_nothing InDoubt no_load = refl
tells_nothing (RolledBack mark recorded unrecorded) no_load = refl
tells_nothing (TrailFull entries) no_load = refl
tells_nothing (Load page marks) no_load = absurd (no_load page marks refl)

-- the page that is to be read is that of a want, and the server has no frame of it
pub record IsWanted (hub : HubView) (wants : List Want) (page : ℕ) : Type 0 where
  pub want : Want
  pub among : Contains wants want
  pub is : want.page ≡ page
  pub unframed : is_unframed hub want ≡ true

pub page_wanted : (hub : HubView) (own : cache.Own) (wants : List Want) (calls page marks : ℕ) (after : HubView) (own_after : cache.Own)
    → IsSound hub → IsLoad hub own wants calls page marks after own_after → IsWanted hub wants page
page_wanted hub own wants calls page marks after own_after sound load =
    let shown = (stands_for hub sound.stands).shows in
    let first = load.first (stands_for hub sound.stands).shared shown in
    let found = found_among (is_unframed hub) (λ want. not (allows (opened (stands_for hub sound.stands).shared (own_of own)).own.held want.page want.right)) wants first.0 first.1.0 in
    record { want = first.0; among = found.0; is = first.1.1; unframed = found.1 }

-- and it is not modified
unframed_none : (frame : Option (List ℕ)) → is_none frame ≡ true → frame ≡ None
unframed_none None is = refl
unframed_none (Some words) is = cc

pub clean_wanted : (hub : HubView) → IsSound hub → (want : Want) → is_unframed hub want ≡ true → is_modified hub.trail want.page ≡ false
clean_wanted hub sound want unframed = clean_unframed hub sound want.page (unframed_none (frame_in hub.pages want.page) unframed)

-- the hub and the cache where the load failed
pub load_fails : (hub middle : HubView) (own : cache.Own) (wants : List Want) (calls page marks : ℕ) (after : HubView) (own_after : cache.Own) (behind : HubView)
    → OnlyLoads hub middle → OnlyLoads hub behind → IsLoad middle own wants calls page marks after own_after → LoadFails hub own wants calls behind own_after
load_fails hub middle own wants calls page marks after own_after behind loads also load = record {
  granted = λ shared shows. load.granted shared (shows_loaded shared hub middle loads shows);
  missing = λ shared shows.
      let first = load.first shared (shows_loaded shared hub middle loads shows) in
      found_some (is_unframed middle) (missing_once_opened shared (own_of own) wants) first.0 first.1.0;
  loads = also;
  own_same = load.own_same;
}

-- loads leave what a turn leaves
pub leaves_loaded : (who : ℕ) (tells : Bool) (image : List (List ℕ)) (hub : HubView) (own : cache.Own) (after : HubView) → OnlyLoads hub after → IsSound after
    → (IsTrue tells → (base : List (List ℕ)) → AreStored base hub image → FramesAreRight base hub → FramesAreRight base after)
    → KeepsHubRight who tells image hub own after
leaves_loaded who tells image hub own after loads sound frames = record {
  sound = sound;
  others = λ other away. kept_loaded other hub after loads;
  still = still_loaded hub after loads;
  frames = λ told base stored right words. frames told base stored right;
}

pub capacity_of : (hub : HubView) (own : cache.Own) (wants : List Want) (calls : ℕ) (reply : Reply) (after : HubView) (own_after : cache.Own) → IsSound hub
    → IsTurn (λ shared own. acquire shared own wants calls) reply hub own after own_after → own_after.capacity ≡ own.capacity
capacity_of hub own wants calls reply after own_after sound turn =
    ap (λ (one : Own). one.capacity) (turn.owns (stands_for hub sound.stands).shared ((stands_for hub sound.stands).shows)) ∙ acquire_capacity (stands_for hub sound.stands).shared (own_of own) wants calls

-- what stands after some loads
pub record IsBehind (tells : Bool) (image : List (List ℕ)) (hub after : HubView) : Type 0 where
  pub loads : OnlyLoads hub after
  pub sound : IsSound after
  pub frames : IsTrue tells → (base : List (List ℕ)) → AreStored base hub image → FramesAreRight base hub → FramesAreRight base after

-- one more load
pub behind_load : (tells : Bool) (image again : List (List ℕ)) (hub middle asked after : HubView) → IsBehind tells image hub middle → asked ≡ middle
    → (IsTrue tells → again ≡ image) → OnlyLoads asked after → (IsSound asked → IsSound after)
    → (IsTrue tells → (base : List (List ℕ)) → AreStored base asked again → FramesAreRight base asked → FramesAreRight base after)
    → IsBehind tells image hub after
behind_load tells image again hub middle asked after behind same told loads sound frames =
    let more : OnlyLoads middle after = subst (λ one. OnlyLoads one after) same loads in
    record {
      loads = loads_again hub middle after behind.loads more;
      sound = sound (subst IsSound (sym same) behind.sound);
      frames = λ is base stored right.
          frames is base
          (subst (λ one. AreStored base one again) (sym same)
          (subst (λ pages. AreStored base middle pages) (sym (told is)) (stored_loaded base image hub middle behind.loads stored)))
          (subst (λ one. FramesAreRight base one) (sym same) (behind.frames is base stored right));
    }

pub leaves_behind : (who : ℕ) (tells : Bool) (image : List (List ℕ)) (hub : HubView) (own : cache.Own) (after : HubView) → IsBehind tells image hub after
    → KeepsHubRight who tells image hub own after
leaves_behind who tells image hub own after behind = leaves_loaded who tells image hub own after behind.loads behind.sound behind.frames

pub holds_behind : (who : ℕ) (tells : Bool) (image : List (List ℕ)) (hub : HubView) (own : cache.Own) (after : HubView) (own_after : cache.Own)
    → IsBehind tells image hub after → Owns hub own → own.client ≡ who → own_after ≡ own → Holds who tells image hub own after own_after
holds_behind who tells image hub own after own_after behind owns client same =
    subst (Holds who tells image hub own after) (sym same)
    (record {
      client = client;
      capacity = refl;
      owns = owns_loaded hub after own behind.loads owns;
      words = λ told base stored frames words. right_loaded base hub after own behind.loads words;
    })

-- a turn after some loads
pub record IsTurnBehind (who : ℕ) (middle : HubView) (own : cache.Own) (after : HubView) (own_after : cache.Own) : Type 0 where
  pub client : own_after.client ≡ who
  pub owned : Owns after own_after
  pub others : (other : ℕ) → other ≢ who → KeepsClient other middle after
  pub still : CommitsNothing middle after
  pub sound : IsSound after
  pub frames : (base : List (List ℕ)) → FramesAreRight base middle → CacheIsRight base middle own → FramesAreRight base after
  pub words : (base : List (List ℕ)) → FramesAreRight base middle → CacheIsRight base middle own → CacheIsRight base after own_after

pub turn_leaves : (who : ℕ) (tells : Bool) (image : List (List ℕ)) (hub middle : HubView) (own : cache.Own) (after : HubView) (own_after : cache.Own)
    → IsBehind tells image hub middle → IsTurnBehind who middle own after own_after → KeepsHubRight who tells image hub own after
turn_leaves who tells image hub middle own after own_after behind turn = record {
  sound = turn.sound;
  others = λ other away. kept_again other hub middle after (kept_loaded other hub middle behind.loads) (turn.others other away);
  still = nothing_again hub middle after (still_loaded hub middle behind.loads) turn.still;
  frames = λ told base stored frames words. turn.frames base (behind.frames told base stored frames) (right_loaded base hub middle own behind.loads words);
}

pub turn_holds : (who : ℕ) (tells : Bool) (image : List (List ℕ)) (hub middle : HubView) (own : cache.Own) (after : HubView) (own_after : cache.Own)
    → IsBehind tells image hub middle → IsTurnBehind who middle own after own_after → own_after.capacity ≡ own.capacity
    → Holds who tells image hub own after own_after
turn_holds who tells image hub middle own after own_after behind turn capacity = record {
  client = turn.client;
  capacity = capacity;
  owns = turn.owned;
  words = λ told base stored frames words. turn.words base (behind.frames told base stored frames) (right_loaded base hub middle own behind.loads words);
}
