use Rattle.std.specs.Prelude.{◌≡◌, List, [], ◌∷◌, ◌++◌, map, ⊤}
use Rattle.casper_trail.specs.declared.item.Item.{Item}
use Rattle.casper_trail.specs.TrailView.{commit_count, rollback_count}
use Rattle.casper_space.specs.declared.answer.Answer.{Answer}
use Rattle.casper_space.specs.declared.answer.Answer.TheVariants as answer
use Rattle.casper_model.specs.declared.event.Event.{Event}
use Rattle.casper_model.specs.Rights.{AllNameClients, NamesClients}
use Rattle.casper_model.specs.Vault.{VaultState}
use Rattle.casper_core.specs.Stepping.{happenings_of}
use Rattle.casper_sessions.specs.Chain.{Limits, Session, IsChain, IsFound, opened}
use Rattle.casper_app.specs.declared.schedule.Asked.{Asked}
use Rattle.casper_app.specs.declared.schedule.Asked.TheVariants as asked
use Rattle.casper_app.specs.Play.{Standing, Plays, begun, by_machine, added}
use Rattle.casper_app.specs.Session.{IsSession, state_behind, trail_behind}

-- What is asked for and answered, parted into sessions at each reopen.

-- a session that a reopen ended: its events and their answers, and the vault that the opening found
pub record Played : Type 0 where
  pub events : List Event
  pub given : List Answer
  pub found : VaultState

-- it as a session of the machine
abbrev pub session_of : Played → Session
session_of played = record { happenings = happenings_of played.events played.given; found = played.found }

-- a session from what an opening found: its events name clients, its answers are the machine's, and the next opening found what a
-- stop may leave after it
pub record IsPlayed (limits : Limits) (vault : VaultState) (played : Played) : Type 0 where
  pub named : AllNameClients (happenings_of played.events played.given)
  pub session : IsSession (opened limits vault) played.events played.given
  pub found : IsFound (state_behind (opened limits vault) played.events played.given).vault played.found

abbrev pub ArePlayed : Limits → VaultState → List Played → Type 0
ArePlayed limits vault [] = ⊤
ArePlayed limits vault (played ∷ more) = IsPlayed limits vault played × ArePlayed limits played.found more

-- what the last of these openings found
abbrev pub found_after : VaultState → List Played → VaultState
found_after vault [] = vault
found_after vault (played ∷ more) = found_after played.found more

-- the events of sessions, with a reopen at the end of each, and then further events
abbrev pub asked_over : List Played → List Event → List Asked
asked_over [] events = map (λ one. asked.Event one) events
asked_over (played ∷ more) events = map (λ one. asked.Event one) played.events ++ asked.Reopen ∷ asked_over more events

-- their answers, with the version that each opening found, and then further answers
abbrev pub given_over : List Played → List Answer → List Answer
given_over [] given = given
given_over (played ∷ more) given = played.given ++ answer.Reopened played.found.version ∷ given_over more given

-- all items of their trails
abbrev pub all_items : Limits → VaultState → List Played → List Item
all_items limits vault [] = []
all_items limits vault (played ∷ more) = trail_behind (opened limits vault) played.events played.given ++ all_items limits played.found more

-- what was asked for and answered is that of sessions which reopens ended, and of one more, which has not ended
pub record IsOfSessions (limits : Limits) (vault : VaultState) (asked : List Asked) (given : List Answer) (last : Standing) : Type 0 where
  pub ended : List Played
  pub events : List Event
  pub said : List Answer
  pub asked_is : asked ≡ asked_over ended events
  pub given_is : given ≡ given_over ended said
  -- the sessions that ended, each from what the opening before it found
  pub played : ArePlayed limits vault ended
  -- the one that has not
  pub found : last.found ≡ found_after vault ended
  pub named : AllNameClients (happenings_of events said)
  pub session : IsSession (opened limits last.found) events said
  pub state : last.state ≡ state_behind (opened limits last.found) events said
  -- the marks of all of them are counted
  pub commits : added last.past.commits (commit_count last.state.shared.trail) ≡ added 0 (commit_count (all_items limits vault ended ++ last.state.shared.trail))
  pub rollbacks : added last.past.rollbacks (rollback_count last.state.shared.trail) ≡ added 0 (rollback_count (all_items limits vault ended ++ last.state.shared.trail))

-- the clients that something asked for names are clients
abbrev pub AsksOfClients : Asked → Type 0
AsksOfClients (asked.Event event) = NamesClients event
AsksOfClients asked.Reopen = ⊤

abbrev pub AllAskOfClients : List Asked → Type 0
AllAskOfClients [] = ⊤
AllAskOfClients (one ∷ more) = AsksOfClients one × AllAskOfClients more

-- whatever is asked for of clients and answered by the machine is that of sessions
abbrev pub PlaysAreSessions : Type 0
PlaysAreSessions =
    (limits : Limits) (vault : VaultState) (asked : List Asked) (given : List Answer) (last : Standing) → AllAskOfClients asked
    → Plays by_machine limits.entries (begun (opened limits vault)) asked given last → IsOfSessions limits vault asked given last

-- and such sessions are a chain of the machine's, of which each begins with what the opening before it found
abbrev pub PlayedSessionsAreAChain : Type 0
PlayedSessionsAreAChain = (limits : Limits) (vault : VaultState) (sessions : List Played) → ArePlayed limits vault sessions → IsChain limits vault (map session_of sessions)
