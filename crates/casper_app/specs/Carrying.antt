use Rattle.std.specs.Prelude.{◌≡◌, ℕ, ◌+◌, ◌-◌, ◌^◌, ◌≤◌, Bool, List, [], ◌∷◌, length, min, IsTrue, ⊤}
use Rattle.casper_words.specs.Count.{FaultCountRose}
use Rattle.casper_trail.specs.TrailView.{commit_count, rollback_count}
use Rattle.casper_space.specs.declared.answer.Answer.{Answer}
use Rattle.casper_report.specs.declared.summary.Summary.{Summary}
use Rattle.casper_disk.specs.Vault.{Saved}
use Rattle.casper_model.specs.State.{State}
use Rattle.casper_core.specs.CoreView.{CoreView}
use Rattle.casper_core.specs.Leaving.{Adds}
use Rattle.casper_core.specs.Represents.{Represents}
use Rattle.casper_core.specs.Shaped.{RepresentsButWords}
use Rattle.casper_core.specs.Stepping.{IsBuilt, RoseBy, is_fault, counted, failures_in}
use Rattle.casper_app.specs.declared.schedule.Asked.{Asked}
use Rattle.casper_app.specs.declared.schedule.Asked.TheVariants as asks
use Rattle.casper_app.specs.declared.sessions.Sessions.{Sessions}
use Rattle.casper_app.specs.Leaving.{IsLeftWhile, IsLeftAmong}
use Rattle.casper_app.specs.Play.{Rules, Standing, Takes, Plays, added, by_machine, in_shape, calls_in, completes_call}

-- sessions stand so: their core for the state, in the sense that is given, and their counts for what those that ended came to
pub record StandsBy {V : Type 0} (IsOf : State → CoreView V → Type 0) (standing : Standing) (sessions : Sessions V) : Type 0 where
  pub state : IsOf standing.state sessions.core
  pub past : sessions.past ≡ standing.past

-- from wherever they stood, what was asked for was answered by some rules, and they stand where that leads
abbrev pub TakesBy : {V : Type 0} → Rules → (State → CoreView V → Type 0) → Asked → Answer → Sessions V → Sessions V → Type 0
TakesBy rules IsOf asked given before after =
    (standing : Standing) → StandsBy IsOf standing before → (next : Standing) × Takes rules before.entries standing asked given next × StandsBy IsOf next after

abbrev pub PlaysBy : {V : Type 0} → Rules → (State → CoreView V → Type 0) → List Asked → List Answer → Sessions V → Sessions V → Type 0
PlaysBy rules IsOf asked given first last =
    (standing : Standing) → StandsBy IsOf standing first → (next : Standing) × Plays rules first.entries standing asked given next × StandsBy IsOf next last

-- wherever they stood, they still stand there
abbrev pub StaysBy : {V : Type 0} → (State → CoreView V → Type 0) → Sessions V → Sessions V → Type 0
StaysBy IsOf before after = (standing : Standing) → StandsBy IsOf standing before → StandsBy IsOf standing after

-- wherever sessions stand, an image is what a stop leaves while the first of these is carried out
abbrev pub LeavesWhile : {V : Type 0} → List Asked → Sessions V → Saved → Type 0
LeavesWhile asked before saved = (standing : Standing) → StandsBy Represents standing before → IsLeftWhile standing.state asked saved.image

-- wherever they stood first, it is what one leaves once the first of what was asked for is answered so
abbrev pub LeavesAmong : {V : Type 0} → List Asked → List Answer → Sessions V → Saved → Type 0
LeavesAmong asked given first saved = (standing : Standing) → StandsBy Represents standing first → IsLeftAmong first.entries standing asked given saved.image

-- what was asked for was answered so. `tells`, `faults`, `moment` and `since` are those of the vault
pub record MakesStep {V : Type 0} (tells : Bool) (faults moment : V → ℕ) (since : V → ℕ → Saved → Type 0) (asked : Asked) (given : Answer) (before after : Sessions V) : Type 0 where
  pub step : IsTrue tells → TakesBy by_machine Represents asked given before after
  pub shape : TakesBy in_shape RepresentsButWords asked given before after
  pub fault : IsTrue (is_fault given) → FaultCountRose (faults before.core.vault) (faults after.core.vault)
  pub never_falls : faults before.core.vault ≤ faults after.core.vault
  pub calls : after.core.calls ≡ counted (completes_call asked given) before.core.calls
  pub entries : after.entries ≡ before.entries
  pub images : IsTrue tells → Adds moment since before.core.vault after.core.vault (LeavesWhile (asked ∷ []) before)

-- nothing was answered, and nothing has changed
pub record MakesNone {V : Type 0} (tells : Bool) (faults moment : V → ℕ) (since : V → ℕ → Saved → Type 0) (before after : Sessions V) : Type 0 where
  pub stands : IsTrue tells → StaysBy Represents before after
  pub shape : StaysBy RepresentsButWords before after
  pub never_falls : faults before.core.vault ≤ faults after.core.vault
  pub calls : after.core.calls ≡ before.core.calls
  pub entries : after.entries ≡ before.entries
  pub images : IsTrue tells → Adds moment since before.core.vault after.core.vault (LeavesWhile [] before)

-- these things were asked for, one after another, and each was answered
pub record Carries {V : Type 0} (tells : Bool) (faults moment : V → ℕ) (since : V → ℕ → Saved → Type 0) (asked : List Asked) (given : List Answer) (first last : Sessions V) : Type 0 where
  pub each : length given ≡ length asked
  pub plays : IsTrue tells → PlaysBy by_machine Represents asked given first last
  pub shape : PlaysBy in_shape RepresentsButWords asked given first last
  pub failures : RoseBy (failures_in given) (faults first.core.vault) (faults last.core.vault)
  pub calls : last.core.calls ≡ min (first.core.calls + calls_in asked given) (2 ^ 64 - 1)
  pub entries : last.entries ≡ first.entries
  pub images : IsTrue tells → Adds moment since first.core.vault last.core.vault (LeavesAmong asked given first)

-- what sessions tell after so many lines
abbrev pub summary_in : {V : Type 0} → ℕ → Sessions V → Summary
summary_in lines sessions = record {
  lines = lines;
  calls = sessions.core.calls;
  commits = added sessions.past.commits (commit_count sessions.core.hub.trail);
  rollbacks = added sessions.past.rollbacks (rollback_count sessions.core.hub.trail);
  version = sessions.core.told.version;
}

-- what may be asked for as yet
abbrev pub MayBeAsked : Asked → Type 0
MayBeAsked (asks.Event event) = IsBuilt event
MayBeAsked asks.Reopen = ⊤
