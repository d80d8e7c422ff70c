use Rattle.std.specs.Prelude.{◌≡◌, ℕ, List, map, IsTrue}
use Rattle.casper_trail.specs.TrailView.{commit_count, rollback_count}
use Rattle.casper_space.specs.declared.answer.Answer.{Answer}
use Rattle.casper_model.specs.declared.event.Event.{Event}
use Rattle.casper_model.specs.Outside.{NothingFailed}
use Rattle.casper_model.specs.State.{State, zero_start}
use Rattle.casper_model.specs.Run.{Happening, state_after, answers_of, all_fit}

-- how many commit and rollback marks a run made, and the version of the vault after it
pub record Summary : Type 0 where
  pub commits : ℕ
  pub rollbacks : ℕ
  pub version : ℕ

abbrev pub summary_of : State → Summary
summary_of state = record {
  commits = commit_count state.shared.trail;
  rollbacks = rollback_count state.shared.trail;
  version = state.vault.version;
}

-- an event in whose step nothing fails
abbrev pub quiet : Event → Happening
quiet event = record { event = event; outside = NothingFailed }

-- a run gets these answers, and ends so. What the outside did fits each event
abbrev pub RunGives : State → List Happening → List Answer → Summary → Type 0
RunGives state happenings answers summary =
    IsTrue (all_fit state happenings) × (answers_of state happenings ≡ answers) × (summary_of (state_after state happenings) ≡ summary)

-- a run in which nothing fails
abbrev pub GivesQuietly : State → List Event → List Answer → Summary → Type 0
GivesQuietly state events answers summary = RunGives state (map quiet events) answers summary

-- a session over memory with 16,384 pages, room for 4,194,304 entries, and caches of 64 pages
abbrev pub usual : State
usual = zero_start 16384 4194304 64
