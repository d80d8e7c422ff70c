use Rattle.std.specs.Prelude.{ℕ, List, ◌++◌, Option, None, Some}
use Rattle.casper_trail.specs.declared.entry.Entry.{Entry}
use Rattle.casper_trail.specs.Value.{value_of}
use Rattle.casper_trail.specs.Calls.{entries_by}
use Rattle.casper_trail.specs.Parts.{live_entries}
use Rattle.casper_model.specs.Client.{Fallen}
use Rattle.casper_model.specs.Shared.{Shared, fallen_at}
use Rattle.casper_model.specs.Own.{Own}
use Rattle.casper_model.specs.State.{State, own_at}

-- the recorded entries that a client sees: the live ones, or those that were live as it fell
abbrev pub seen_by : Shared → Option Fallen → List Entry
seen_by shared None = live_entries shared.trail
seen_by shared (Some fallen) = fallen.seen

-- the entries that a client sees: the recorded ones, and after them its own pending calls
abbrev pub view : Shared → Own → List Entry
view shared own = seen_by shared (fallen_at shared own.who) ++ entries_by own.who own.pending

-- the value that a client sees in a word of a page that it holds
abbrev pub value_seen : State → ℕ → ℕ → ℕ → ℕ
value_seen state who page word = value_of state.base (view state.shared (own_at state who)) page word
