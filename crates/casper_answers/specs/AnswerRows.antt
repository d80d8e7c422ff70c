use Rattle.std.specs.Prelude.{◌≡◌, ℕ, List, [], ◌∷◌, ◌++◌, map, Option, None, Some}
use Rattle.casper_space.specs.declared.answer.Answer.TheVariants as answer
use Rattle.casper_model.specs.declared.event.Event.{Event}
use Rattle.casper_model.specs.declared.event.Event.TheVariants.{Join, Read, Write, Serve, Stabilise, WriteOut, Finish, Settle, Depart, Lose}
use Rattle.casper_model.specs.declared.outcome.Kept.TheVariants as kept
use Rattle.casper_model.specs.Outside.{WriteOutDoubted, SettleFailed}
use Rattle.casper_model.specs.Client.{Fallen}
use Rattle.casper_model.specs.Row.{quiet, usual}
use Rattle.casper_model.specs.Run.{Happening, state_after, answers_of}
use Rattle.casper_model.specs.Shared.{asks_at, fallen_at}
use Rattle.casper_model.specs.Stabilisation.{Phase}
use Rattle.casper_model.specs.Stabilise.{kept_at}
use Rattle.casper_model.specs.State.{State}
use Rattle.casper_laws.specs.Additions.{noted_by}

-- Runs that meet what the laws suppose: a commit that is kept, losses that are noted and carried out, a client that has
-- fallen, a gather, and a doubt.

-- the state after events in which nothing fails
abbrev pub after : List Event → State
after events = state_after usual (map quiet events)

-- the phases of the stabilisations, and who waits for them
abbrev pub phases_of : State → List Phase
phases_of state = map (λ one. one.phase) state.shared.stabilisations

abbrev pub askers_of : State → List (List ℕ)
askers_of state = map (λ one. one.askers) state.shared.stabilisations

abbrev pub awaited_of : State → List (List ℕ)
awaited_of state = map (λ one. one.awaited) state.shared.stabilisations

-- the place of the mark by which a client fell, and how many of its calls it dropped
abbrev pub marks_of_fall : Option Fallen → List ℕ
marks_of_fall None = []
marks_of_fall (Some fallen) = fallen.mark ∷ fallen.dropped ∷ []

-- a client that asked has the commit kept, at the place of its mark; one that did not ask has nothing kept
abbrev pub KeptCommit : Type 0
KeptCommit =
    (kept_at (after (Join 1 ∷ Join 2 ∷ Write 1 0 0 1 ∷ Stabilise 1 ∷ WriteOut 1 ∷ Finish 1 ∷ [])).shared 1 ≡ Some (kept.Committed 2))
    × (kept_at (after (Join 1 ∷ Join 2 ∷ Write 1 0 0 1 ∷ Stabilise 1 ∷ WriteOut 1 ∷ Finish 1 ∷ [])).shared 2 ≡ None)
    × (kept_at (after (Join 1 ∷ Join 2 ∷ Write 1 0 0 1 ∷ Stabilise 1 ∷ WriteOut 1 ∷ Finish 1 ∷ Serve 1 ∷ [])).shared 1 ≡ None)

-- a client waits from its stabilise on, while its association is sealed, and until it leaves
abbrev pub SealedWithAsker : Type 0
SealedWithAsker =
    (phases_of (after (Join 1 ∷ Write 1 0 0 1 ∷ Stabilise 1 ∷ [])) ≡ Phase.Sealed ∷ []) × (askers_of (after (Join 1 ∷ Write 1 0 0 1 ∷ Stabilise 1 ∷ [])) ≡ (1 ∷ []) ∷ [])
    × (askers_of (after (Join 1 ∷ Write 1 0 0 1 ∷ Stabilise 1 ∷ Depart 1 ∷ [])) ≡ [] ∷ [])

-- a loss while an association is sealed is noted, and the first one stays
abbrev pub NotedLoss : Type 0
NotedLoss =
    (noted_by (after (Join 1 ∷ Write 1 0 0 1 ∷ Stabilise 1 ∷ Lose 1 ∷ [])).shared 1 ≡ Some 1)
    × (fallen_at (after (Join 1 ∷ Write 1 0 0 1 ∷ Stabilise 1 ∷ Lose 1 ∷ [])).shared 1 ≡ None)

-- a client that is declared lost has fallen by the mark after its touch and its write
abbrev pub FallenClient : Type 0
FallenClient =
    (marks_of_fall (fallen_at (after (Join 1 ∷ Write 1 0 0 1 ∷ Serve 1 ∷ Lose 1 ∷ [])).shared 1) ≡ 2 ∷ 1 ∷ [])
    × (answers_of usual (map quiet (Join 1 ∷ Write 1 0 0 1 ∷ Serve 1 ∷ Lose 1 ∷ Serve 1 ∷ []))
    ≡ answer.Joined ∷ answer.Ok ∷ answer.Ok ∷ answer.LoseLost 2 ∷ answer.RolledBack 2 1 0 ∷ [])

-- an association whose other member may still write gathers, and awaits it
abbrev pub Gather : Type 0
Gather =
    (phases_of (after (Join 1 ∷ Join 2 ∷ Write 1 0 0 1 ∷ Read 2 0 0 ∷ Serve 1 ∷ Read 2 0 0 ∷ Write 2 1 0 1 ∷ Stabilise 1 ∷ [])) ≡ Phase.Gathering ∷ [])
    × (awaited_of (after (Join 1 ∷ Join 2 ∷ Write 1 0 0 1 ∷ Read 2 0 0 ∷ Serve 1 ∷ Read 2 0 0 ∷ Write 2 1 0 1 ∷ Stabilise 1 ∷ [])) ≡ (2 ∷ []) ∷ [])

-- after a write-out in doubt and its finish the association is in doubt, until a settle answers the commit
abbrev pub doubted : List Happening
doubted =
    map quiet (Join 1 ∷ Write 1 0 0 1 ∷ Stabilise 1 ∷ []) ++ record { event = WriteOut 1; outside = WriteOutDoubted } ∷ map quiet (Finish 1 ∷ [])

abbrev pub Doubt : Type 0
Doubt =
    (phases_of (state_after usual doubted) ≡ Phase.Doubtful ∷ [])
    × (answers_of (state_after usual doubted) (record { event = Settle; outside = SettleFailed } ∷ map quiet (Settle ∷ Settle ∷ []))
    ≡ answer.Disk ∷ answer.Commit 2 ∷ answer.Nothing ∷ [])

-- an acquire of a page that another client writes is pending, and asks for it
abbrev pub PendingAsk : Type 0
PendingAsk =
    (answers_of usual (map quiet (Join 1 ∷ Join 2 ∷ Write 1 0 0 1 ∷ Read 2 0 0 ∷ [])) ≡ answer.Joined ∷ answer.Joined ∷ answer.Ok ∷ answer.Pending (1 ∷ []) ∷ [])
    × (map (λ ask. ask.page) (asks_at (after (Join 1 ∷ Join 2 ∷ Write 1 0 0 1 ∷ Read 2 0 0 ∷ [])).shared 2) ≡ 0 ∷ [])
