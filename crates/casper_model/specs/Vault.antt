use Rattle.std.specs.Prelude.{ℕ, List, [], ◌∷◌, ◌+◌, ◌==◌, nat_lt, cond, option_map, Option, None, Some}
use Rattle.casper_space.specs.Changes.{Change, VaultRoom, last_version, pages_of, need_of, free_of, room_after, with_changes}
use Rattle.casper_model.specs.declared.outcome.Outcome.{Outcome}
use Rattle.casper_model.specs.declared.outcome.Outcome.TheVariants as outcome
use Rattle.casper_model.specs.Outside.{Outside, WriteOutFailed, WriteOutDoubted}

-- what is known of the vault: the image, its version, its room if it has one, and the changes that are in doubt
pub record VaultState : Type 0 where
  pub image : List (List ℕ)
  pub version : ℕ
  pub room : Option VaultRoom
  pub doubt : Option (List Change)

-- how a commit or a settle left a vault
pub record Written : Type 0 where
  pub outcome : Outcome
  pub vault : VaultState

-- a vault in which these changes were made
abbrev pub made : VaultState → List Change → VaultState
made vault changes = record {
  image = with_changes vault.image changes;
  version = vault.version + 1;
  room = option_map (room_after (pages_of changes)) vault.room;
  doubt = None;
}

-- the refusal of a commit whose pages need more frames than are free
abbrev pub refused_for_room : List ℕ → Option VaultRoom → Option Outcome
refused_for_room pages None = None
refused_for_room pages (Some room) =
    cond (nat_lt (free_of room) (need_of room pages)) (Some (outcome.Full (need_of room pages) (free_of room))) None

-- the refusal of a commit before the disk is used: there is no further version, or too little room
abbrev pub refused_at_once : VaultState → List ℕ → Option Outcome
refused_at_once vault pages = cond (vault.version == last_version) (Some outcome.Worn) (refused_for_room pages vault.room)

-- a commit that used the disk
abbrev pub written_with : VaultState → List Change → Outside → Written
written_with vault changes WriteOutFailed = record { outcome = outcome.Disk; vault = vault }
written_with vault changes WriteOutDoubted = record { outcome = outcome.Doubt; vault = record vault { doubt = Some changes } }
written_with vault changes other = record { outcome = outcome.Ok (vault.version + 1); vault = made vault changes }

abbrev pub written_unless : VaultState → List Change → Outside → Option Outcome → Written
written_unless vault changes outside (Some refusal) = record { outcome = refusal; vault = vault }
written_unless vault changes outside None = written_with vault changes outside

-- a commit of these changes, whose pages rise. Without changes nothing is written, and the version stays
abbrev pub commit : VaultState → List Change → Outside → Written
commit vault [] outside = record { outcome = outcome.Ok vault.version; vault = vault }
commit vault (change ∷ changes) outside = written_unless vault (change ∷ changes) outside (refused_at_once vault (pages_of (change ∷ changes)))

abbrev pub settled_with : VaultState → Option (List Change) → VaultState
settled_with vault None = vault
settled_with vault (Some changes) = made vault changes

-- the vault after a settle: the changes in doubt are made
abbrev pub settled_vault : VaultState → VaultState
settled_vault vault = settled_with vault vault.doubt
