use Rattle.std.proofs.Common.{◌≡◌, ℕ, ◌+◌, List, refl, sym, ap, ◌∙◌, ⊎_elim, inl, inr}
use Rattle.std.specs.Prelude.{Option, None, Some, is_some}
use Rattle.casper_space.specs.Changes.{Change, VaultRoom}
use Rattle.casper_disk.specs.Vault.{Saved, IsOldOrNewImage}
use Rattle.casper_model.specs.Vault.{VaultState}
use Rattle.casper_sessions.specs.Found.{Found, MayBeFoundWith}
use Rattle.casper_core.specs.CoreView.{CoreView, told_by}
use Rattle.casper_core.specs.Sound.{IsSound}

-- A core whose vault is opened again.

-- what is true of a core stays true with a vault of the same size that is in doubt exactly where the one before was
pub sound_still : {V : Type 0} (core : CoreView V) (vault : V) (size : ℕ) (told : VaultState) → IsSound core → size ≡ core.size
    → is_some told.doubt ≡ is_some core.told.doubt → IsSound (record core { vault = vault; size = size; told = told })
sound_still core vault size told sound same doubtful = record {
  hub = sound.hub;
  places = sound.places;
  live = sound.live;
  kept = λ who own found. let keeps = sound.kept who own found in record { client = keeps.client; capacity = keeps.capacity; owns = keeps.owns };
  least = sound.least;
  most = sound.most;
  size = same ∙ sound.size;
  written = sound.written;
  alone = sound.alone;
  doubtful = λ some. sound.doubtful (sym doubtful ∙ some);
}

-- what a stop leaves of a vault may be found of what it tells
pub may_be_found : {V : Type 0} (image : V → List (List ℕ)) (version : V → ℕ) (room : V → Option VaultRoom) (doubt : V → Option (List Change)) (vault : V) (saved : Saved)
    → (doubt vault ≡ None → saved ≡ record { image = image vault; version = version vault })
    → ((changes : List Change) → doubt vault ≡ Some changes → IsOldOrNewImage (image vault) (version vault) changes (version vault + 1) saved)
    → MayBeFoundWith (told_by image version room doubt vault) (doubt vault) (record { image = saved.image; version = saved.version })
may_be_found image version room doubt vault saved sure either = by_doubt (doubt vault) refl
  where
    as_found : Saved → Found
    as_found one = record { image = one.image; version = one.version }

    by_doubt : (which : Option (List Change)) → doubt vault ≡ which → MayBeFoundWith (told_by image version room doubt vault) which (as_found saved)
    by_doubt None is = ap as_found (sure is)
    by_doubt (Some changes) is = ⊎_elim (λ old. inl (ap as_found old)) (λ new. inr (ap as_found new)) (either changes is)
