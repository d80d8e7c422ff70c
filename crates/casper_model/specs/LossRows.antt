use Rattle.std.specs.Prelude.{[], ◌∷◌, ◌++◌}
use Rattle.casper_space.specs.declared.answer.Answer.TheVariants.{Joined, Ok, Pending, RolledBack, Sealed, Commit, Written, VanishLost, LoseLost}
use Rattle.casper_model.specs.declared.event.Event.TheVariants.{Join, Read, Write, Serve, Stabilise, WriteOut, Finish, Vanish, Lose}
use Rattle.casper_model.specs.Row.{GivesQuietly, usual}
use Rattle.casper_model.specs.AssociationRows.{linking, linked}

-- the rights of a client that falls are free for others at once
abbrev pub RightsOfAFallenClient : Type 0
RightsOfAFallenClient =
    GivesQuietly usual
    (linking ++ Join 3 ∷ Vanish 1 ∷ Write 3 5 0 9 ∷ [])
    (linked ++ Joined ∷ VanishLost 3 0 ∷ Ok ∷ [])
    (record { commits = 0; rollbacks = 1; version = 1 })

-- and its asks are gone: a writer keeps its page
abbrev pub AsksOfAFallenClient : Type 0
AsksOfAFallenClient =
    GivesQuietly usual
    (linking ++ Join 3 ∷ Write 3 6 0 1 ∷ Read 2 6 0 ∷ Vanish 1 ∷ Serve 3 ∷ Join 1 ∷ Read 1 6 0 ∷ [])
    (linked ++ Joined ∷ Ok ∷ Pending (3 ∷ []) ∷ VanishLost 5 0 ∷ Ok ∷ Joined ∷ Pending (3 ∷ []) ∷ [])
    (record { commits = 0; rollbacks = 1; version = 1 })

-- a client that is told that it fell loses a kept outcome too
abbrev pub OutcomeOfAFallenClient : Type 0
OutcomeOfAFallenClient =
    GivesQuietly usual
    (Join 1 ∷ Write 1 0 0 1 ∷ Stabilise 1 ∷ WriteOut 1 ∷ Finish 1 ∷ Lose 1 ∷ Stabilise 1 ∷ Stabilise 1 ∷ [])
    (Joined ∷ Ok ∷ Sealed 1 ∷ Written 2 ∷ Commit 2 ∷ LoseLost 3 ∷ RolledBack 3 0 0 ∷ Sealed 0 ∷ [])
    (record { commits = 1; rollbacks = 1; version = 2 })
