use Rattle.std.specs.Prelude.{◌≡◌, ℕ, List, Option, None, Some, Result, Ok, Err, find, is_none, OnOk}
use Rattle.casper_words.specs.declared.page.Want.{Want}
use Rattle.casper_trail.specs.TrailView.{commit_count}
use Rattle.casper_cache.specs.Own as cache
use Rattle.casper_model.specs.declared.reply.JoinRefusal.{JoinRefusal}
use Rattle.casper_model.specs.declared.reply.JoinRefusal.TheVariants as refusal
use Rattle.casper_model.specs.declared.reply.Reply.{Reply}
use Rattle.casper_model.specs.declared.reply.Reply.TheVariants.{Granted, Pending, Frozen, InDoubt, RolledBack, TrailFull, Load}
use Rattle.casper_model.specs.Own as machine
use Rattle.casper_model.specs.Shared.{Shared}
use Rattle.casper_model.specs.Both.{Changed, Turned, turned}
use Rattle.casper_model.specs.Acquire.{acquire, missing_once_opened, with_asks}
use Rattle.casper_model.specs.Opening.{opened}
use Rattle.casper_model.specs.Join.{join}
use Rattle.casper_hub.specs.HubView.{HubView, cap_in, frame_in}
use Rattle.casper_hub.specs.Owned.{own_of}
use Rattle.casper_hub.specs.Shows.{Shows}

-- a turn of the machine was made: whatever shared part the hub stands for, the reply, the hub after it and the cache after it are
-- those that the turn gives
pub record IsTurn {R : Type 0} (turn : Shared → machine.Own → Turned R) (reply : R) (hub : HubView) (own : cache.Own) (after : HubView) (own_after : cache.Own) : Type 0 where
  pub replies : (shared : Shared) → Shows shared hub → reply ≡ (turn shared (own_of own)).reply
  pub shows : (shared : Shared) → Shows shared hub → Shows (turn shared (own_of own)).shared after
  pub owns : (shared : Shared) → Shows shared hub → own_of own_after ≡ (turn shared (own_of own)).own

-- a change of the shared part alone was made: whatever shared part the hub stands for, the reply and the hub after it are those that the
-- change gives
pub record IsChange {R : Type 0} (change : Shared → Changed R) (reply : R) (hub after : HubView) : Type 0 where
  pub replies : (shared : Shared) → Shows shared hub → reply ≡ (change shared).reply
  pub shows : (shared : Shared) → Shows shared hub → Shows (change shared).shared after

-- the first of these wants of whose page the server has no frame
abbrev pub first_unframed : HubView → List Want → Option Want
first_unframed hub wants = find (λ want. is_none (frame_in hub.pages want.page)) wants

-- the machine refuses an acquire with this reply, and once the turn has opened leaves these asks
abbrev pub IsRefused : HubView → cache.Own → List Want → ℕ → Reply → List Want → Type 0
IsRefused hub own wants calls reply asks =
    (shared : Shared) → Shows shared hub → acquire shared (own_of own) wants calls ≡ turned reply (with_asks asks (opened shared (own_of own)))

-- the wants that a turn would grant, and of whose pages the server has a frame
abbrev pub AreFramed : HubView → cache.Own → List Want → Type 0
AreFramed hub own wants = (shared : Shared) → Shows shared hub → first_unframed hub (missing_once_opened shared (own_of own) wants) ≡ None

-- a page has to be read before the turn: it would be granted, and this is the first missing page of which the server has no
-- frame. Nothing has changed
pub record IsLoad (hub : HubView) (own : cache.Own) (wants : List Want) (calls page marks : ℕ) (after : HubView) (own_after : cache.Own) : Type 0 where
  pub granted : (shared : Shared) → Shows shared hub → (acquire shared (own_of own) wants calls).reply ≡ Granted
  pub first : (shared : Shared) → Shows shared hub → (want : Want) × ((first_unframed hub (missing_once_opened shared (own_of own) wants) ≡ Some want) × (want.page ≡ page))
  pub counted : marks ≡ commit_count hub.trail
  pub same : after ≡ hub
  pub own_same : own_after ≡ own

-- what an acquire answers and leaves, by its reply
abbrev pub Acquires : HubView → cache.Own → List Want → ℕ → Reply → HubView → cache.Own → Type 0
Acquires hub own wants calls (Load page marks) after own_after = IsLoad hub own wants calls page marks after own_after
Acquires hub own wants calls Granted after own_after =
    IsTurn (λ shared own. acquire shared own wants calls) Granted hub own after own_after × AreFramed hub own wants
Acquires hub own wants calls (Pending blockers) after own_after = IsTurn (λ shared own. acquire shared own wants calls) (Pending blockers) hub own after own_after
Acquires hub own wants calls (Frozen lead) after own_after = IsTurn (λ shared own. acquire shared own wants calls) (Frozen lead) hub own after own_after
Acquires hub own wants calls InDoubt after own_after = IsTurn (λ shared own. acquire shared own wants calls) InDoubt hub own after own_after
Acquires hub own wants calls (RolledBack mark recorded unrecorded) after own_after =
    IsTurn (λ shared own. acquire shared own wants calls) (RolledBack mark recorded unrecorded) hub own after own_after
Acquires hub own wants calls (TrailFull entries) after own_after = IsTurn (λ shared own. acquire shared own wants calls) (TrailFull entries) hub own after own_after

-- the refusal of a join, if there is one
abbrev pub refusal_of : Result (Unit {0}) JoinRefusal → Option JoinRefusal
refusal_of (Ok done) = None
refusal_of (Err cause) = Some cause

-- the machine's join was made for a client, with the cap that the hub then has for it; or memory was short and nothing changed
pub record IsJoin (who : ℕ) (result : Result (Unit {0}) JoinRefusal) (hub after : HubView) : Type 0 where
  pub replies : (shared : Shared) (own : machine.Own) → own.who ≡ who → Shows shared hub → refusal_of result ≡ (join shared own).reply
  pub shows : (shared : Shared) (own : machine.Own) → own.who ≡ who → Shows shared hub → Shows (join shared own).shared after
  pub owns : (shared : Shared) (own : machine.Own) → own.who ≡ who → Shows shared hub
      → OnOk result ((join shared own).own ≡ record (machine.blank who own.capacity) { cap = cap_in after who })

abbrev pub Joins : ℕ → Result (Unit {0}) JoinRefusal → HubView → HubView → Type 0
Joins who (Ok done) hub after = IsJoin who (Ok done) hub after
Joins who (Err refusal.Memory) hub after = after ≡ hub
Joins who (Err refusal.Busy) hub after = IsJoin who (Err refusal.Busy) hub after
Joins who (Err (refusal.TrailFull entries)) hub after = IsJoin who (Err (refusal.TrailFull entries)) hub after
