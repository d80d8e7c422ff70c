use Rattle.std.proofs.Common.{◌≡◌, ℕ, ◌+◌, List, Bool, refl, sym, ap, ◌∙◌, subst, ⊎_elim, inl, inr}
use Rattle.std.specs.Prelude.{Option, None, Some, IsTrue, Result, Ok, Err, OnErr}
use Rattle.casper_words.specs.Crew.{IsClient}
use Rattle.casper_space.specs.Changes.{Change, VaultRoom, with_changes}
use Rattle.casper_disk.specs.Disk.{KeepsImages, Took}
use Rattle.casper_disk.specs.Vault.{Saved, IsOldOrNewImage, as_changes, changes_in, version_settled}
use Rattle.casper_disk.proofs.TookLemmas.{took_none, took_standing, took_weaker}
use Rattle.casper_frozen.specs.Jobs.{JobView}
use Rattle.casper_hub.specs.Jobs.{IsJobOf}
use Rattle.casper_model.specs.declared.event.Event.{Event}
use Rattle.casper_model.specs.declared.event.Event.TheVariants as event
use Rattle.casper_model.specs.declared.outcome.Outcome.{Outcome}
use Rattle.casper_model.specs.Stabilisation.{Stabilisation}
use Rattle.casper_model.specs.State.{State}
use Rattle.casper_model.specs.Vault.{VaultState}
use Rattle.casper_model.specs.WriteOutStep.{job_of, busy_lead, changes_of}
use Rattle.casper_sessions.specs.Found.{Found, MayBeFound, MayBeFoundWith}
use Rattle.casper_sessions.specs.Moments.{Deciding, moment_of}
use Rattle.casper_sessions.specs.Within.{IsLeftOf, IsLeftWithin}
use Rattle.casper_sessions.proofs.Stops.{IsKnown, found_of_moment, written_of_moment}
use Rattle.casper_core.specs.CoreView.{CoreView, told_by}
use Rattle.casper_core.specs.Leaving.{Adds, IsLeftBefore, IsLeftDuring, IfWriting}
use Rattle.casper_core.specs.Sound.{IsSound}
use Rattle.casper_core.specs.Stepping.{IsReadOnly}
use Rattle.casper_core.specs.WritingOut.{busy_in, IsCommit}
use Rattle.casper_core.proofs.WriteOuts.{job_in, job_here, busy_here, same_changes}

-- What a stop leaves of a vault is what one at a moment of a state leaves.

-- what is so in any case is so of an error
pub on_err : {T E : Type 0} (result : Result T E) (P : Type 0) → P → OnErr result P
on_err (Ok value) P is = tt
on_err (Err cause) P is = is

-- what was saved, as an opening finds it
abbrev as_found : Saved → Found
as_found saved = record { image = saved.image; version = saved.version }

-- what may be found of what a core's vault tells is left at the moment of each state that the core stands for
left_of_found : {V : Type 0} (core : CoreView V) (saved : Saved) → MayBeFound core.told (as_found saved) → IsLeftBefore core saved
left_of_found core saved may state stands =
    found_of_moment state (record { history = stands.history; orderly = stands.orderly; stored = stands.image }) (as_found saved)
    (subst (λ vault. MayBeFound vault (as_found saved)) (sym stands.parts.vault) may)

-- what is left at the moment of a state is left within each step of it
pub within_of_left : (one : Event) (state : State) (array : List (List ℕ)) → IsLeftOf state (moment_of state) array → IsLeftWithin state one array
within_of_left (event.WriteOut lead) state array left = inl left
within_of_left other state array left = left

pub during_of_before : {V : Type 0} (one : Event) (core : CoreView V) (saved : Saved) → IsLeftBefore core saved → IsLeftDuring one core saved
during_of_before one core saved before state stands = within_of_left one state saved.image (before state stands)

-- while a vault settles it is found as it was, or settled
settling : (vault : VaultState) (doubt : Option (List Change)) (saved : Saved)
    → IsOldOrNewImage vault.image vault.version (changes_in doubt) (version_settled doubt vault.version) saved → MayBeFoundWith vault doubt (as_found saved)
settling vault None saved is = ⊎_elim (λ old. ap as_found old) (λ new. ap as_found new) is
settling vault (Some changes) saved is = ⊎_elim (λ old. inl (ap as_found old)) (λ new. inr (ap as_found new)) is

pub left_settling : {V : Type 0} (core : CoreView V) (saved : Saved)
    → IsOldOrNewImage core.told.image core.told.version (changes_in core.told.doubt) (version_settled core.told.doubt core.told.version) saved → IsLeftBefore core saved
left_settling core saved is = left_of_found core saved (settling core.told core.told.doubt saved is)

-- while a write-out is made, a stop leaves what one does while it is undecided
pub left_writing : {V : Type 0} (core : CoreView V) (lead : ℕ) (client : IsClient lead) (sound : IsSound core) (one : Stabilisation) (sealed : job_in core lead ≡ Some one)
    (free : busy_in core ≡ None) (how : Outcome) (vault : V) (size : ℕ) (told : VaultState) (same_lead : one.lead ≡ lead) (job : JobView) (is_job : IsJobOf core.hub lead job)
    (commits : IsCommit core.told (as_changes job.changes) how told) (next : ℕ) (saved : Saved)
    → IsOldOrNewImage core.told.image core.told.version (as_changes job.changes) next saved → IsLeftDuring (event.WriteOut lead) core saved
left_writing core lead client sound one sealed free how vault size told same_lead job is_job commits next saved is state stands =
    let known : IsKnown state = record { history = stands.history; orderly = stands.orderly; stored = stands.image } in
    let job_is : job_of state lead ≡ Some one = job_here core lead client sound state stands.parts.shared stands.parts.unfinished ∙ sealed in
    let free_is : busy_lead state ≡ None = busy_here core lead client sound state stands.parts.shared stands.parts.unfinished ∙ free in
    let left = written_of_moment state known lead one job_is free_is in
    let changes = same_changes core lead client sound one sealed free how vault size told same_lead job is_job commits state stands in
    let at : (array : List (List ℕ)) → IsLeftOf state (Deciding one.lead) array → saved.image ≡ array → IsLeftWithin state (event.WriteOut lead) saved.image =
    λ array deciding is. inr (
      record { one = one; job = job_is; free = free_is },
      subst (λ number. IsLeftOf state (Deciding number) saved.image) same_lead (subst (IsLeftOf state (Deciding one.lead)) (sym is) deciding),
    ) in
    ⊎_elim
    (λ old. at state.vault.image left.before (ap (λ (s : Saved). s.image) old ∙ ap (λ (v : VaultState). v.image) (sym stands.parts.vault)))
    (λ new. at (with_changes state.vault.image (changes_of state one)) left.after
    (ap (λ (s : Saved). s.image) new ∙ ap (λ (v : VaultState). with_changes v.image (as_changes job.changes)) (sym stands.parts.vault)
    ∙ ap (with_changes state.vault.image) changes))
    is

pub adds_step : {V : Type 0} (moment : V → ℕ) (since : V → ℕ → Saved → Type 0) (one : Event) (core : CoreView V) (after : V)
    → Adds moment since core.vault after (IsLeftBefore core) → Adds moment since core.vault after (IsLeftDuring one core)
adds_step moment since one core after took =
    took_weaker (moment core.vault) (moment after) (since core.vault) (since after) (IsLeftBefore core) (IsLeftDuring one core) (during_of_before one core) took

-- What a vault's laws say of what a stop leaves.

module _ {V : Type 0} (tells : Bool) (image : V → List (List ℕ)) (version : V → ℕ) (room : V → Option VaultRoom) (doubt : V → Option (List Change)) (now : V → Saved → Type 0)
    (moment : V → ℕ) (since : V → ℕ → Saved → Type 0)
    (sure_image : (vault : V) (saved : Saved) → IsTrue tells → doubt vault ≡ None → now vault saved → saved ≡ record { image = image vault; version = version vault })
    (either_image : (vault : V) (changes : List Change) (saved : Saved) → IsTrue tells → doubt vault ≡ Some changes → now vault saved
    → IsOldOrNewImage (image vault) (version vault) changes (version vault + 1) saved)
    (only_now : (vault : V) (saved : Saved) → IsTrue tells → since vault (moment vault) saved → now vault saved)
    (told : IsTrue tells) (core : CoreView V) (same : core.told ≡ told_by image version room doubt core.vault) where
  -- a stop now leaves what may be found of what the vault tells
  found_now : (vault : V) (saved : Saved) → now vault saved → MayBeFound (told_by image version room doubt vault) (as_found saved)
  found_now vault saved is = by (doubt vault) refl
    where
      by : (found : Option (List Change)) → doubt vault ≡ found → MayBeFoundWith (told_by image version room doubt vault) found (as_found saved)
      by None none = ap as_found (sure_image vault saved told none is)
      by (Some changes) some = ⊎_elim (λ old. inl (ap as_found old)) (λ new. inr (ap as_found new)) (either_image vault changes saved told some is)

  -- so it is left at the moment of each state that the core stands for
  left_now : (saved : Saved) → now core.vault saved → IsLeftBefore core saved
  left_now saved is = left_of_found core saved (subst (λ vault. MayBeFound vault (as_found saved)) (sym same) (found_now core.vault saved is))

  -- where nothing happens
  pub adds_nothing : Adds moment since core.vault core.vault (IsLeftBefore core)
  adds_nothing = took_none (moment core.vault) (since core.vault) (IsLeftBefore core) (λ saved is. left_now saved (only_now core.vault saved told is))

  -- where a call of the vault left the moment and the images
  pub adds_standing : (after : V) → KeepsImages (moment core.vault) (moment after) (since core.vault) (since after) → Adds moment since core.vault after (IsLeftBefore core)
  adds_standing after stands =
      took_standing (moment core.vault) (moment after) (since core.vault) (since after) (IsLeftBefore core) stands (λ saved is. left_now saved (only_now core.vault saved told is))

  -- where the vault was read and no more
  pub adds_reading : (after : V) → Took (moment core.vault) (moment after) (since core.vault) (since after) (now core.vault) → Adds moment since core.vault after (IsLeftBefore core)
  adds_reading after took = took_weaker (moment core.vault) (moment after) (since core.vault) (since after) (now core.vault) (IsLeftBefore core) left_now took

  -- a step, also one that writes to the vault
  pub adds_during : (one : Event) (after : V) → (IsReadOnly one → Took (moment core.vault) (moment after) (since core.vault) (since after) (now core.vault))
      → IfWriting one (Adds moment since core.vault after (IsLeftDuring one core)) → Adds moment since core.vault after (IsLeftDuring one core)
  adds_during (event.WriteOut lead) after reads writes = writes
  adds_during event.Settle after reads writes = writes
  adds_during other after reads writes =
      adds_step moment since other core after (adds_reading after (reads tt))

  -- and one that was not made for want of memory
  pub adds_unmade : (one : Event) (after : V) → (IsReadOnly one → Took (moment core.vault) (moment after) (since core.vault) (since after) (now core.vault))
      → IfWriting one (Adds moment since core.vault after (IsLeftBefore core)) → Adds moment since core.vault after (IsLeftBefore core)
  adds_unmade (event.WriteOut lead) after reads writes = writes
  adds_unmade event.Settle after reads writes = writes
  adds_unmade other after reads writes = adds_reading after (reads tt)
