use Rattle.std.proofs.Common.{◌≡◌, ◌<◌, ◌+◌, ◌++◌, ℕ, List, Bool, true, false, cond, refl, ap, length, get_or}
use Rattle.std.specs.Prelude.{map, take, drop, slice_set}
use Rattle.std.proofs.lemmas.List.Edits.{map_over_more}
use Rattle.casper_gather.specs.declared.stab.Stab.{Stab}
use Rattle.casper_model.specs.Stabilisation.{Stabilisation, without}
use Rattle.casper_gather.specs.Bookkeeping.{stabilisation_of, without_asker}

-- a stabilisation whose record for the machine lost an asker, and whose phase and label stayed, lost that asker alone
pub forgotten : (who : ℕ) (one after : Stab) → stabilisation_of after ≡ without_asker who (stabilisation_of one) → after.phase ≡ one.phase
    → after.label ≡ one.label → after ≡ record one { askers = without who one.askers }
forgotten who one after gone phase label =
    let lead : after.lead ≡ one.lead = ap {A = Stabilisation} (λ s. s.lead) gone in
    let left : after.left ≡ one.left = ap {A = Stabilisation} (λ s. s.awaited) gone in
    let askers : after.askers ≡ without who one.askers = ap {A = Stabilisation} (λ s. s.askers) gone in
    let noted : after.noted ≡ one.noted = ap {A = Stabilisation} (λ s. s.noted) gone in
    let so : record after { lead = after.lead; label = after.label; left = after.left; askers = after.askers; noted = after.noted; phase = after.phase }
    ≡ record one { askers = without who one.askers } = cc in
    so

-- what a choice gives
pub chosen : {X : Type 0} (test : Bool) (x y : X) → test ≡ true → x ≡ cond test x y
chosen true x y is = refl
chosen false x y is = cc

pub not_chosen : {X : Type 0} (test : Bool) (x y : X) → test ≡ false → y ≡ cond test x y
not_chosen true x y is = cc
not_chosen false x y is = refl

-- a loop that writes f of each element has come one further
pub one_further : {X : Type 0} (f : X → X) (xs ys : List X) (i : ℕ) (x y : X) → i < length xs → ys ≡ map f (take i xs) ++ drop i xs
    → x ≡ get_or ys i x → y ≡ f (get_or ys i x) → slice_set ys i y ≡ map f (take (i + 1) xs) ++ drop (i + 1) xs
one_further f xs ys i x y within so_far is written =
    let further = map_over_more f xs ys i x within so_far is in
    let same : y ≡ f x = cc in
    rw same further
