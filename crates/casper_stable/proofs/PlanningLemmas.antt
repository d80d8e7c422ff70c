use Rattle.std.proofs.Common.{◌≡◌, ◌≢◌, ◌<◌, ℕ, List, [], length, map, refl, sym, subst, inl, inr, ⊎_elim, arith}
use Rattle.std.specs.Prelude.{◌⊎◌, ◌↔◌, All, IsErrOf, Some, Result, Ok, Err}
use Rattle.std.proofs.lemmas.List.{get_or-map, length-map}
use Rattle.casper_disk.specs.Vault.{as_changes, lacking}
use Rattle.casper_disk.specs.declared.vault.CommitFault.{CommitFault}
use Rattle.casper_disk.specs.declared.vault.CommitFault.TheVariants as fault
use Rattle.casper_map.specs.Mapped.{Mapped, AreApart, AreBelow, free_frames}
use Rattle.casper_map.specs.Planned.{need_for}
use Rattle.casper_map.specs.Room.{room_of}
use Rattle.casper_map.specs.declared.fault.PlanFault.{PlanFault}
use Rattle.casper_map.specs.declared.fault.PlanFault.TheVariants as plan
use Rattle.casper_stable.specs.Doubts.{commit_fault_of}
use Rattle.casper_stable.proofs.VaultLemmas.{lacks}

-- the pages of changes are in range
pub all_pages : (changes : List (ℕ × List ℕ)) (bound : ℕ) → All (λ change. change.0 < bound) changes
    → All (λ page. page < bound) (map (λ (change : ℕ × List ℕ). change.0) changes)
all_pages changes bound within k d low =
    let early : k < length changes = omega (arith, low, length-map changes (λ (change : ℕ × List ℕ). change.0)) in
    subst (λ (page : ℕ). page < bound) (sym (get_or-map (λ (change : ℕ × List ℕ). change.0) changes k (0, []) d early)) (within k
    (0, []) early)

-- that a plan of these pages is full
abbrev pub IsFullBy : {T : Type 0} → Result T PlanFault → Mapped → List ℕ → Type 0
IsFullBy result held pages = IsErrOf result plan.Memory
    ⊎ ((need free : ℕ) → IsErrOf result (plan.Full need free) ↔ ((need ≡ need_for pages) × (free ≡ length (free_frames held)) ×
    (free < need)))

-- that a commit of these changes is
abbrev pub IsFullCommit : {T : Type 0} → Result T CommitFault → Mapped → List (ℕ × List ℕ) → Type 0
IsFullCommit result held changes = IsErrOf result fault.Memory
    ⊎ ((need free : ℕ) → IsErrOf result (fault.Full need free) ↔ (lacking (as_changes changes) (Some (room_of held)) ≡ Some
    (record { need = need; free = free })))

pub full_ok : {T : Type 0} (made : T) (held : Mapped) (changes : List (ℕ × List ℕ)) → AreApart held.places
    → AreBelow held.frames held.places → length changes ≢ 0
    → IsFullBy {T = T} (Ok made) held (map (λ (change : ℕ × List ℕ). change.0) changes) → IsFullCommit {T = T} (Ok made) held changes
full_ok made held changes apart below some full =
    ⊎_elim (λ memory. cc)
    (λ each. inr (λ need free. (
      (λ is. cc),
      (λ is. let back = (each need free).1
          ((lacks held changes apart below some need free).1 is) in cc),
    ))) full

pub full_err : {T : Type 0} (given : PlanFault) (held : Mapped) (changes : List (ℕ × List ℕ)) → AreApart held.places
    → AreBelow held.frames held.places → length changes ≢ 0
    → IsFullBy {T = T} (Err given) held (map (λ (change : ℕ × List ℕ). change.0) changes)
    → IsFullCommit {T = T} (Err (commit_fault_of given)) held changes
full_err plan.Memory held changes apart below some full = inl refl
full_err (plan.Full most least) held changes apart below some full =
    ⊎_elim (λ memory. cc)
    (λ each. inr (λ need free. (
      (λ is. (lacks held changes apart below some need free).0 ((each need free).0 cc)),
      (λ is. let back = (each need free).1 ((lacks held changes apart below some need free).1 is) in cc),
    ))) full
