use Rattle.std.specs.Prelude.{◌≡◌, [], ◌∷◌, ◌++◌, List, map}
use Rattle.casper_space.specs.declared.answer.Answer.{Answer}
use Rattle.casper_space.specs.declared.answer.Answer.TheVariants.{Joined, Value}
use Rattle.casper_model.specs.declared.event.Event.TheVariants.{Join, Read, Write, Stabilise, WriteOut, Finish}
use Rattle.casper_model.specs.Outside.{WriteOutDoubted}
use Rattle.casper_model.specs.Row.{quiet}
use Rattle.casper_model.specs.Run.{Happening, state_after, answers_of}
use Rattle.casper_model.specs.State.{State, zero_vault}
use Rattle.casper_model.specs.Vault.{VaultState, settled_vault}
use Rattle.casper_sessions.specs.Chain.{Limits, IsFound, opened}
use Rattle.casper_sessions.specs.Moments.{Quiet, Deciding, Written, moment_of}

-- Two sessions worked out: a client writes a word, its write-out ends in doubt, and the store is opened again.

abbrev pub two_pages : Limits
two_pages = record { pages = 2; entries = 4194304; held = 64 }

abbrev pub sealed : List Happening
sealed = map quiet (Join 1 ∷ Write 1 0 0 17 ∷ Stabilise 1 ∷ [])

abbrev pub in_doubt : List Happening
in_doubt = sealed ++ record { event = WriteOut 1; outside = WriteOutDoubted } ∷ []

abbrev pub after : List Happening → State
after happenings = state_after (opened two_pages (zero_vault 2)) happenings

-- the vault with the changes in doubt made
abbrev pub newer : VaultState
newer = settled_vault (after in_doubt).vault

-- what a client reads there once the store was opened again
abbrev pub read_again : VaultState → List Answer
read_again found = answers_of (opened two_pages found) (map quiet (Join 1 ∷ Read 1 0 0 ∷ []))

-- the moments of a write-out
abbrev pub MomentsOfAWriteOut : Type 0
MomentsOfAWriteOut =
    (moment_of (after sealed) ≡ Quiet) × (moment_of (after (sealed ++ map quiet (WriteOut 1 ∷ []))) ≡ Written 1)
    × (moment_of (after (sealed ++ map quiet (WriteOut 1 ∷ Finish 1 ∷ []))) ≡ Quiet)
    × (moment_of (after in_doubt) ≡ Deciding 1) × (moment_of (after (in_doubt ++ map quiet (Finish 1 ∷ []))) ≡ Deciding 1)

-- in doubt the next opening may find the old image
abbrev pub DoubtFoundOld : Type 0
DoubtFoundOld = IsFound (after in_doubt).vault (zero_vault 2) × (read_again (zero_vault 2) ≡ Joined ∷ Value 0 ∷ [])

-- or the new one
abbrev pub DoubtFoundNew : Type 0
DoubtFoundNew = IsFound (after in_doubt).vault newer × (read_again newer ≡ Joined ∷ Value 17 ∷ [])
