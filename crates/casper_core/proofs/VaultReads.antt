use Rattle.std.proofs.Common.{◌≤◌, ℕ, Bool, List, refl, ◌∙◌, ⊎_elim, inl, inr, arith}
use Rattle.std.specs.Prelude.{Option, IsTrue}
use Rattle.casper_space.specs.Changes.{Change, VaultRoom}
use Rattle.casper_disk.specs.Vault.{Saved}
use Rattle.casper_core.specs.Loading.{OnlyReads, KeepsVault}

-- What keeps a vault, over any number of steps.

module _ {V : Type 0} (size : V → ℕ) (faults : V → ℕ) (leads_to : V → V → Type 0)
    (leads_to_itself : (vault : V) → leads_to vault vault)
    (leads_on : (first second third : V) → leads_to first second → leads_to second third → leads_to first third) where
  pub keeps_nothing : (vault : V) → KeepsVault size faults leads_to vault vault
  keeps_nothing vault = record { same_size = refl; never_falls = omega arith; leads = leads_to_itself vault }

  pub keeps_again : (first second third : V) → KeepsVault size faults leads_to first second → KeepsVault size faults leads_to second third → KeepsVault size faults leads_to first third
  keeps_again first second third one two = record {
    same_size = two.same_size ∙ one.same_size;
    never_falls = omega (arith, one.never_falls, two.never_falls);
    leads = leads_on first second third one.leads two.leads;
  }

-- What is read of a vault leaves what it tells, over any number of reads.

module _ {V : Type 0} (tells : Bool) (size : V → ℕ) (image : V → List (List ℕ)) (version : V → ℕ) (room : V → Option VaultRoom) (doubt : V → Option (List Change))
    (now : V → Saved → Type 0) (moment : V → ℕ) (since : V → ℕ → Saved → Type 0) (faults : V → ℕ) (leads_to : V → V → Type 0)
    (now_counts : (vault : V) (past : ℕ) (saved : Saved) → IsTrue tells → past ≤ moment vault → now vault saved → since vault past saved)
    (only_now : (vault : V) (saved : Saved) → IsTrue tells → since vault (moment vault) saved → now vault saved)
    (earlier_counts : (vault : V) (earlier later : ℕ) (saved : Saved) → IsTrue tells → earlier ≤ later → since vault later saved → since vault earlier saved)
    (leads_to_itself : (vault : V) → leads_to vault vault)
    (leads_on : (first second third : V) → leads_to first second → leads_to second third → leads_to first third) where
  pub reads_nothing : (vault : V) → OnlyReads tells size image version room doubt now moment since faults leads_to vault vault
  reads_nothing vault = record {
    same_size = refl;
    same_version = refl;
    same_room = refl;
    same_doubt = refl;
    told = λ told. refl;
    images = λ told. record {
      later = omega arith;
      only = λ past saved early is. inl is;
      keeps = λ past saved early is. is;
      agrees = λ saved is. only_now vault saved told is;
    };
    never_falls = omega arith;
    leads = leads_to_itself vault;
  }

  pub reads_again : (first second third : V) → OnlyReads tells size image version room doubt now moment since faults leads_to first second
      → OnlyReads tells size image version room doubt now moment since faults leads_to second third
      → OnlyReads tells size image version room doubt now moment since faults leads_to first third
  reads_again first second third one two = record {
    same_size = two.same_size ∙ one.same_size;
    same_version = two.same_version ∙ one.same_version;
    same_room = two.same_room ∙ one.same_room;
    same_doubt = two.same_doubt ∙ one.same_doubt;
    told = λ told. two.told told ∙ one.told told;
    images = λ told.
        let earlier = one.images told in
        let later = two.images told in
        record {
          later = omega (arith, earlier.later, later.later);
          only = λ past saved early is.
              ⊎_elim
              (λ before. ⊎_elim (λ old. inl old) (λ new. inr (later.keeps (moment first) saved earlier.later new)) (earlier.only past saved early before))
              (λ new. inr (earlier_counts third (moment first) (moment second) saved told earlier.later new))
              (later.only past saved (omega (arith, early, earlier.later)) is);
          keeps = λ past saved early is. later.keeps past saved (omega (arith, early, earlier.later)) (earlier.keeps past saved early is);
          agrees = λ saved is.
              ⊎_elim (earlier.agrees saved) (λ new. earlier.agrees saved (now_counts second (moment first) saved told earlier.later (later.agrees saved new)))
              (later.only (moment first) saved earlier.later is);
        };
    never_falls = omega (arith, one.never_falls, two.never_falls);
    leads = leads_on first second third one.leads two.leads;
  }
