use Rattle.std.specs.Prelude.{◌≡◌, ℕ, List, [], ◌∷◌, None, IsTrue, ⊤}
use Rattle.casper_model.specs.Rights.{AllNameClients}
use Rattle.casper_model.specs.Run.{Happening, state_after, all_fit}
use Rattle.casper_model.specs.State.{State, start}
use Rattle.casper_model.specs.Vault.{VaultState}
use Rattle.casper_sessions.specs.Found.{MayBeFound, found_in}

-- how large a store is, how many entries a session may record, and how many pages a client may hold
pub record Limits : Type 0 where
  pub pages : ℕ
  pub entries : ℕ
  pub held : ℕ

-- a session as it begins over a vault: nobody is there, and nothing is recorded
abbrev pub opened : Limits → VaultState → State
opened limits vault = start vault limits.pages limits.entries limits.held

-- a session, and the vault that the opening after it finds
pub record Session : Type 0 where
  pub happenings : List Happening
  pub found : VaultState

-- an opening finds what a stop may leave of the vault, with nothing in doubt
pub record IsFound (left found : VaultState) : Type 0 where
  pub saved : MayBeFound left (found_in found)
  pub sure : found.doubt ≡ None

-- what happens in a session is of clients, and the outside does what fits
pub record IsSession (state : State) (session : Session) : Type 0 where
  pub named : AllNameClients session.happenings
  pub fits : IsTrue (all_fit state session.happenings)
  pub found : IsFound (state_after state session.happenings).vault session.found

-- sessions one after another, where each begins with what the opening after the one before it found
abbrev pub IsChain : Limits → VaultState → List Session → Type 0
IsChain limits vault [] = ⊤
IsChain limits vault (session ∷ more) = IsSession (opened limits vault) session × IsChain limits session.found more

-- the vault with which the session after these begins
abbrev pub vault_after : VaultState → List Session → VaultState
vault_after vault [] = vault
vault_after vault (session ∷ more) = vault_after session.found more
