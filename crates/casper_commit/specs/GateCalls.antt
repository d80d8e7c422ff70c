use Rattle.std.specs.Prelude.{ℕ, Bool, List, Result, OnOk, OnErr}
use Rattle.casper_root.specs.declared.slot.Slot.{Slot}
use Rattle.casper_commit.specs.Added.{AddsImages}
use Rattle.casper_commit.specs.States.{OpensTo, RootStands, IsAhead, IsAtGate, IsOldOrNew, next_root, none_free, root_at}
use Rattle.casper_commit.specs.declared.standing.Standing.{Standing}

-- a gate that decides beside the root in this slot does so after a call as before it
abbrev pub DecidesStill : {D : Type 0} → (D → List (List ℕ)) → (D → ℕ → Bool) → Slot → D → D → Type 0
DecidesStill content loose current old new = (was body : List ℕ) (free : ℕ → Bool) (base framed : List (List ℕ))
    → IsAtGate (record { slot = current; body = was }) body free base framed (content old) (loose old)
    → IsAtGate (record { slot = current; body = was }) body free base framed (content new) (loose new)

-- it does after a fault
abbrev pub DecidesStillAfterErr : {D T E : Type 0} → Result T E → (D → List (List ℕ)) → (D → ℕ → Bool) → Standing → D → D → Type 0
DecidesStillAfterErr answer content loose standing old new = (was body : List ℕ) (free : ℕ → Bool) (base framed : List (List ℕ))
    → IsAtGate (root_at standing was) body free base framed (content old) (loose old)
    → OnErr answer (IsAtGate (root_at standing was) body free base framed (content new) (loose new))

-- each image that a call adds opens to one of the two roots between which the gate beside this slot decides
abbrev pub OpensToOneOfTwo : {D : Type 0} → (D → List (List ℕ)) → (D → ℕ → Bool) → (D → ℕ) → (D → ℕ → List (List ℕ) → Type 0) → Slot → D → D → Type 0
OpensToOneOfTwo content loose moment images_since current old new = (was body : List ℕ) (free : ℕ → Bool) (base framed : List (List ℕ))
    → IsAtGate (record { slot = current; body = was }) body free base framed (content old) (loose old)
    → AddsImages moment images_since old new (IsOldOrNew (record { slot = current; body = was }) body free base framed)

-- after Ok the next of the two is the current root
abbrev pub NextIsAheadAfterOk : {D T E : Type 0} → Result T E → (D → List (List ℕ)) → (D → ℕ → Bool) → Slot → D → D → Type 0
NextIsAheadAfterOk answer content loose current old new = (was body : List ℕ) (free : ℕ → Bool) (base framed : List (List ℕ))
    → IsAtGate (record { slot = current; body = was }) body free base framed (content old) (loose old)
    → OnOk answer (IsAhead (next_root current body) none_free framed (content new) (loose new))

-- after Ok the next of the two stands in the other place
abbrev pub SettlesAfterOk : {D T E : Type 0} → Result T E → (D → List (List ℕ)) → (D → ℕ → Bool) → Standing → Standing → D → D → Type 0
SettlesAfterOk answer content loose before after old new = (was body : List ℕ) (free : ℕ → Bool) (base framed : List (List ℕ))
    → IsAtGate (root_at before was) body free base framed (content old) (loose old)
    → OnOk answer (RootStands after body none_free framed (content new) (loose new))

-- and each image that a stop may leave then opens to it
abbrev pub OpensSettledAfterOk : {D T E : Type 0} → Result T E → (D → List (List ℕ)) → (D → ℕ → Bool) → (D → List (List ℕ) → Type 0)
    → Standing → Standing → D → D → Type 0
OpensSettledAfterOk answer content loose images_now before after old new =
    (was body : List ℕ) (free : ℕ → Bool) (base framed image : List (List ℕ))
    → IsAtGate (root_at before was) body free base framed (content old) (loose old)
    → images_now new image → OnOk answer (OpensTo (root_at after body) none_free framed image)
