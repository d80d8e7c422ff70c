use Rattle.std.proofs.Common.{◌≡◌, ℕ, List, subst, sym, ⊎_elim, inl, inr}
use Rattle.std.specs.Prelude.{Result, Ok}
use Rattle.casper_disk.specs.Disk.{KeepsImages, Took}
use Rattle.casper_disk.specs.Vault.{Saved}
use Rattle.casper_root.specs.declared.fault.OpenFault.{OpenFault}
use Rattle.casper_stable.specs.Opens.{Store, opens}
use Rattle.casper_stable.specs.Leaves.{Leaves, IsLeftBy}

-- with more images more is left
pub leaves_more : {images more : List (List ℕ) → Type 0} {saved : Saved} → ((blocks : List (List ℕ)) → images blocks → more blocks)
    → Leaves images saved → Leaves more saved
leaves_more wider left = record { blocks = left.blocks; left = wider left.blocks left.left; leaves = left.leaves }

-- what blocks with this store hold
pub saved_is : (blocks : List (List ℕ)) (store : Store) (saved : Saved) → opens blocks ≡ Ok store → IsLeftBy (opens blocks) saved
    → saved ≡ store.saved
saved_is blocks store saved is left = subst (λ (found : Result Store OpenFault). IsLeftBy found saved) is left

-- and what they hold is left by them
pub leaves_its : (blocks : List (List ℕ)) (store : Store) (saved : Saved) → opens blocks ≡ Ok store → saved ≡ store.saved → IsLeftBy (opens blocks) saved
leaves_its blocks store saved is same = subst (λ (found : Result Store OpenFault). IsLeftBy found saved) (sym is) same

-- a call of the disk takes time for what it leaves too
pub took_saved : (before now : ℕ) (past since : ℕ → List (List ℕ) → Type 0) (may_be : List (List ℕ) → Type 0) (may_leave : Saved → Type 0)
    → ((blocks : List (List ℕ)) (saved : Saved) → may_be blocks → IsLeftBy (opens blocks) saved → may_leave saved)
    → Took before now past since may_be → Took before now (λ moment. Leaves (past moment)) (λ moment. Leaves (since moment)) may_leave
took_saved before now past since may_be may_leave such took = record {
  later = took.later;
  only = λ moment saved early left. ⊎_elim
      (λ was. inl (record { blocks = left.blocks; left = was; leaves = left.leaves }))
      (λ added. inr (record { blocks = left.blocks; left = added; leaves = left.leaves }))
      (took.only moment left.blocks early left.left);
  keeps = λ moment saved early left. record { blocks = left.blocks; left = took.keeps moment left.blocks early left.left; leaves = left.leaves };
  agrees = λ saved left. such left.blocks saved (took.agrees left.blocks left.left) left.leaves;
}

-- nor does one that leaves all images change what they leave
pub stands_saved : (before now : ℕ) (past since : ℕ → List (List ℕ) → Type 0) → KeepsImages before now past since
    → KeepsImages before now (λ moment. Leaves (past moment)) (λ moment. Leaves (since moment))
stands_saved before now past since stands = record {
  moment = stands.moment;
  only = λ moment saved left. record { blocks = left.blocks; left = stands.only moment left.blocks left.left; leaves = left.leaves };
  keeps = λ moment saved left. record { blocks = left.blocks; left = stands.keeps moment left.blocks left.left; leaves = left.leaves };
}
