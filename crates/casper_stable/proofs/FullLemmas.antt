use Rattle.std.proofs.Common.{◌≡◌, ◌∙◌, ℕ, sym, ap, inl, inr, ⊎_elim}
use Rattle.std.specs.Prelude.{◌⊎◌, ◌↔◌, IsErrOf, IsErrAnd, Result, Ok, Err}
use Rattle.casper_disk.specs.declared.vault.CommitFault.{CommitFault}
use Rattle.casper_disk.specs.declared.vault.CommitFault.TheVariants as fault

err_same : {T : Type 0} (one other : CommitFault) → ◌≡◌ {A = Result T CommitFault} (Err one) (Err other) → one ≡ other
err_same one other is = cc

err_of : {T : Type 0} (one other : CommitFault) → one ≡ other → ◌≡◌ {A = Result T CommitFault} (Err one) (Err other)
err_of one other is = ap (λ (given : CommitFault). Err given) is

-- a fault that was handed on
handed_on : {U : Type 0} (result : Result U CommitFault) (given : CommitFault) → IsErrAnd result (λ one. one ≡ given) → result ≡ Err given
handed_on (Ok value) given is = absurd is
handed_on (Err one) given is = err_of one given is

-- a plan that was refused is refused so by the commit
pub full_handed : {T U : Type 0} (given : CommitFault) (result : Result U CommitFault) (P : ℕ → ℕ → Type 0)
    → IsErrAnd result (λ one. one ≡ given)
    → (IsErrOf {T = T} {E = CommitFault} (Err given) fault.Memory ⊎ ((need free : ℕ)
    → IsErrOf {T = T} {E = CommitFault} (Err given) (fault.Full need free) ↔ P need free))
    → IsErrOf result fault.Memory ⊎ IsErrOf result fault.Worn ⊎ ((need free : ℕ) → IsErrOf result (fault.Full need free) ↔ P need free)
full_handed given result P is full =
    let same = handed_on result given is in
    ⊎_elim
    (λ memory. inl (same ∙ err_of given fault.Memory (err_same given fault.Memory memory)))
    (λ each. inr (inr (λ need free. (
      (λ there. (each need free).0 (err_of given (fault.Full need free) (err_same given (fault.Full need free) (sym same ∙ there)))),
      (λ lacks. same ∙ err_of given (fault.Full need free) (err_same given (fault.Full need free) ((each need free).1 lacks))),
    )))) full

-- a fault of the disk is none of room
pub not_full : {T U : Type 0} (given : CommitFault) (result : Result U CommitFault) → IsErrAnd result (λ one. one ≡ given)
    → (IsErrOf {T = T} {E = CommitFault} (Err given) fault.Disk ⊎ IsErrOf {T = T} {E = CommitFault} (Err given) fault.Doubt)
    → (need free : ℕ) → IsErrOf result (fault.Full need free) → ⊥
not_full given result is causes need free there =
    let full : given ≡ fault.Full need free = err_same given (fault.Full need free) (sym (handed_on result given is) ∙ there) in
    ⊎_elim (λ disk. let other = err_same given fault.Disk disk in cc) (λ doubt. let other = err_same given fault.Doubt doubt in cc) causes

-- a fault that was handed on is the one that the call had
pub handed_back : {T U : Type 0} (given wanted : CommitFault) (result : Result U CommitFault) → IsErrAnd result (λ one. one ≡ given)
    → IsErrOf result wanted → IsErrOf {T = T} {E = CommitFault} (Err given) wanted
handed_back given wanted result is there = err_of given wanted (err_same given wanted (sym (handed_on result given is) ∙ there))
