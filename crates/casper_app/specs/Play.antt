use Rattle.std.specs.Prelude.{◌≡◌, ℕ, ◌+◌, ◌-◌, ◌^◌, Bool, false, List, [], ◌∷◌, IsTrue, cond, min}
use Rattle.casper_trail.specs.declared.item.Item.{Item}
use Rattle.casper_trail.specs.TrailView.{commit_count, rollback_count}
use Rattle.casper_space.specs.declared.answer.Answer.{Answer}
use Rattle.casper_space.specs.declared.answer.Answer.TheVariants as answer
use Rattle.casper_report.specs.declared.summary.Summary.{Summary}
use Rattle.casper_model.specs.declared.event.Event.{Event}
use Rattle.casper_model.specs.Run.{fits}
use Rattle.casper_model.specs.State.{State, own_at, start}
use Rattle.casper_model.specs.Step.{step}
use Rattle.casper_model.specs.Vault.{VaultState}
use Rattle.casper_core.specs.Acting.{outside_in}
use Rattle.casper_core.specs.Shaped.{step_with}
use Rattle.casper_core.specs.Stepping.{completes, happening_of}
use Rattle.casper_sessions.specs.Chain.{IsFound}
use Rattle.casper_app.specs.declared.past.Past.{Past}
use Rattle.casper_app.specs.declared.schedule.Asked.{Asked}
use Rattle.casper_app.specs.declared.schedule.Asked.TheVariants as asked

-- What a schedule comes to over its sessions: a reopen ends one, and another begins over what the opening found.

-- where a schedule stands: what its session began with, the state now, and what the sessions that ended came to
pub record Standing : Type 0 where
  pub found : VaultState
  pub state : State
  pub past : Past

-- before any session has ended
abbrev pub no_past : Past
no_past = record { commits = 0; rollbacks = 0 }

-- as it begins
abbrev pub begun : State → Standing
begun start = record { found = start.vault; state = start; past = no_past }

-- marks are counted up to the greatest number of 64 bits
abbrev pub added : ℕ → ℕ → ℕ
added before more = min (before + more) (2 ^ 64 - 1)

-- what the sessions came to, with one that ends with this trail
abbrev pub past_with : Past → List Item → Past
past_with past items = record { commits = added past.commits (commit_count items); rollbacks = added past.rollbacks (rollback_count items) }

-- the session that begins over what an opening found, after one that ended so: the store has its pages, a trail takes so many entries,
-- and a client may hold as many pages
abbrev pub begun_again : ℕ → State → VaultState → State
begun_again entries ended found = start found ended.shared.pages entries (own_at ended 0).capacity

-- by what rules things are answered: whether an event may be answered so, the state after it, and what an opening may find of a vault
pub record Rules : Type 1 where
  pub Answers : State → Event → Answer → Type 0
  pub after : State → Event → Answer → State
  pub Finds : VaultState → VaultState → Type 0

-- the machine answers an event so, where the outside did what the answer tells
pub record AnswersAlone (state : State) (event : Event) (given : Answer) : Type 0 where
  pub outside_fits : IsTrue (fits state (happening_of event given))
  pub answers : given ≡ (step state event (outside_in event given)).answer

-- the rules of the machine
abbrev pub by_machine : Rules
by_machine = record {
  Answers = AnswersAlone;
  after = λ state event given. (step state event (outside_in event given)).state;
  Finds = IsFound;
}

-- what holds over every vault, also one that tells nothing: a read has the value that was answered, a write-out its outcome, and an
-- opening may find anything
abbrev pub in_shape : Rules
in_shape = record {
  Answers = λ state event given. given ≡ (step_with state event given).answer;
  after = λ state event given. (step_with state event given).state;
  Finds = λ left found. Unit {0};
}

-- one thing was asked for, and was answered so. A reopen is answered with the version that was found
abbrev pub Takes : Rules → ℕ → Standing → Asked → Answer → Standing → Type 0
Takes rules entries before (asked.Event event) given after =
    rules.Answers before.state event given × (after ≡ record before { state = rules.after before.state event given })
Takes rules entries before asked.Reopen given after =
    (found : VaultState) × rules.Finds before.state.vault found × (given ≡ answer.Reopened found.version)
    × (after ≡ record { found = found; state = begun_again entries before.state found; past = past_with before.past before.state.shared.trail })

-- things were asked for, one after another, and each was answered so
abbrev pub Plays : Rules → ℕ → Standing → List Asked → List Answer → Standing → Type 0
Plays rules entries first [] [] last = last ≡ first
Plays rules entries first [] (one ∷ given) last = ⊥
Plays rules entries first (one ∷ more) [] last = ⊥
Plays rules entries first (one ∷ more) (said ∷ given) last = (next : Standing) × Takes rules entries first one said next × Plays rules entries next more given last

-- whether an answer says that a call was completed
abbrev pub completes_call : Asked → Answer → Bool
completes_call (asked.Event event) given = completes event given
completes_call asked.Reopen given = false

-- how many calls were completed, by the answers to the first of what was asked for
abbrev pub calls_in : List Asked → List Answer → ℕ
calls_in asked [] = 0
calls_in [] (one ∷ given) = 0
calls_in (asked ∷ more) (one ∷ given) = cond (completes_call asked one) 1 0 + calls_in more given

-- what the last line tells after so many lines: the lines, calls and marks of all sessions
abbrev pub summary_of : ℕ → List Asked → List Answer → Standing → Summary
summary_of lines asked given last = record {
  lines = lines;
  calls = calls_in asked given;
  commits = added last.past.commits (commit_count last.state.shared.trail);
  rollbacks = added last.past.rollbacks (rollback_count last.state.shared.trail);
  version = last.state.vault.version;
}
