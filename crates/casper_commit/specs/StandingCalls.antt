use Rattle.std.specs.Prelude.{◌≡◌, ◌<◌, ℕ, Bool, true, false, List, Result, OnOk, IsErrOf}
use Rattle.casper_root.specs.Slots.{other_slot}
use Rattle.casper_root.specs.declared.slot.Slot.{Slot}
use Rattle.casper_commit.specs.Added.{AddsImages}
use Rattle.casper_commit.specs.Root.{Root, has_open_gate, seq_of}
use Rattle.casper_commit.specs.States.{OpensTo, RootStands, StandsBeside, IsReady, IsAtGate, IsOldOrNew, none_free, root_at}
use Rattle.casper_commit.specs.declared.standing.Standing.{Standing}

-- a current root in this slot, beside a gate that is known to be closed
abbrev pub alone_at : Slot → Standing
alone_at at = record { slot = at; spare_closed = true }

-- each root with such free blocks stands after a call as before it
abbrev pub RootsStandWhere : {D : Type 0} → ((ℕ → Bool) → Type 0) → (D → List (List ℕ)) → (D → ℕ → Bool) → D → D → Type 0
RootsStandWhere are_such content loose old new = (closed : Bool) (root : Root) (free : ℕ → Bool) (base : List (List ℕ)) → are_such free
    → StandsBeside closed root free base (content old) (loose old)
    → StandsBeside closed root free base (content new) (loose new)

-- and each image that the call adds opens to it
abbrev pub ImagesOpenWhere : {D : Type 0} → ((ℕ → Bool) → Type 0) → (D → List (List ℕ)) → (D → ℕ → Bool) → (D → ℕ)
    → (D → ℕ → List (List ℕ) → Type 0) → D → D → Type 0
ImagesOpenWhere are_such content loose moment images_since old new =
    (closed : Bool) (root : Root) (free : ℕ → Bool) (base : List (List ℕ)) → are_such free
    → StandsBeside closed root free base (content old) (loose old)
    → AddsImages moment images_since old new (OpensTo root free base)

-- the root that stood in one place before a call stands in the other one after it
abbrev pub StandsStill : {D : Type 0} → (D → List (List ℕ)) → (D → ℕ → Bool) → Standing → Standing → D → D → Type 0
StandsStill content loose before after old new = (was : List ℕ) (free : ℕ → Bool) (base : List (List ℕ))
    → RootStands before was free base (content old) (loose old)
    → RootStands after was free base (content new) (loose new)

-- it does after this fault
abbrev pub StandsStillAfter : {D T E : Type 0} → Result T E → E → (D → List (List ℕ)) → (D → ℕ → Bool) → Standing → Standing → D → D → Type 0
StandsStillAfter answer fault content loose before after old new = (was : List ℕ) (free : ℕ → Bool) (base : List (List ℕ))
    → RootStands before was free base (content old) (loose old)
    → IsErrOf answer fault
    → RootStands after was free base (content new) (loose new)

-- each image that a call adds opens to the root that stood there before it
abbrev pub OpensMeanwhile : {D : Type 0} → (D → List (List ℕ)) → (D → ℕ → Bool) → (D → ℕ) → (D → ℕ → List (List ℕ) → Type 0)
    → Standing → D → D → Type 0
OpensMeanwhile content loose moment images_since standing old new = (was : List ℕ) (free : ℕ → Bool) (base : List (List ℕ))
    → RootStands standing was free base (content old) (loose old)
    → AddsImages moment images_since old new (OpensTo (root_at standing was) free base)

-- it does where the answer is this fault
abbrev pub OpensMeanwhileAfter : {D T E : Type 0} → Result T E → E → (D → List (List ℕ)) → (D → ℕ → Bool) → (D → ℕ)
    → (D → ℕ → List (List ℕ) → Type 0) → Standing → D → D → Type 0
OpensMeanwhileAfter answer fault content loose moment images_since standing old new = (was : List ℕ) (free : ℕ → Bool) (base : List (List ℕ))
    → RootStands standing was free base (content old) (loose old)
    → IsErrOf answer fault
    → AddsImages moment images_since old new (OpensTo (root_at standing was) free base)

-- after Ok the gate beside the root that stood there is closed
abbrev pub ClosesAfterOk : {D T E : Type 0} → Result T E → (D → List (List ℕ)) → (D → ℕ → Bool) → Standing → D → D → Type 0
ClosesAfterOk answer content loose standing old new = (was : List ℕ) (free : ℕ → Bool) (base : List (List ℕ))
    → RootStands standing was free base (content old) (loose old)
    → OnOk answer (has_open_gate (content new) (other_slot standing.slot) ≡ false)

-- after Ok the gate of this body decides, where the root in this slot was ready for it
abbrev pub ReadyDecidesAfterOk : {D T E : Type 0} → Result T E → (D → List (List ℕ)) → (D → ℕ → Bool) → Slot → List ℕ → D → D → Type 0
ReadyDecidesAfterOk answer content loose current body old new = (was : List ℕ) (free : ℕ → Bool) (base framed : List (List ℕ))
    → IsReady (record { slot = current; body = was }) body free base framed (content old) (loose old)
    → OnOk answer (IsAtGate (record { slot = current; body = was }) body free base framed (content new) (loose new))

-- after Ok the gate of this body, which has a greater number, decides between it and the root that stood there
abbrev pub DecidesAfterOk : {D T E : Type 0} → Result T E → (D → List (List ℕ)) → (D → ℕ → Bool) → Standing → List ℕ → D → D → Type 0
DecidesAfterOk answer content loose standing body old new = (was : List ℕ) (free : ℕ → Bool) (base : List (List ℕ))
    → RootStands standing was free base (content old) (loose old) → seq_of was < seq_of body
    → OnOk answer (IsAtGate (root_at standing was) body free base (content old) (content new) (loose new))

-- it does after this fault
abbrev pub DecidesAfter : {D T E : Type 0} → Result T E → E → (D → List (List ℕ)) → (D → ℕ → Bool) → Standing → List ℕ → D → D → Type 0
DecidesAfter answer fault content loose standing body old new = (was : List ℕ) (free : ℕ → Bool) (base : List (List ℕ))
    → RootStands standing was free base (content old) (loose old) → seq_of was < seq_of body
    → IsErrOf answer fault
    → IsAtGate (root_at standing was) body free base (content old) (content new) (loose new)

-- after Ok the root with this body, which has a greater number than the one that stood before the call, stands in the other place
abbrev pub NextStandsAfterOk : {D T E : Type 0} → Result T E → (D → List (List ℕ)) → (D → ℕ → Bool) → Standing → Standing → List ℕ → D → D → Type 0
NextStandsAfterOk answer content loose before after body old new = (was : List ℕ) (free : ℕ → Bool) (base : List (List ℕ))
    → RootStands before was free base (content old) (loose old) → seq_of was < seq_of body
    → OnOk answer (RootStands after body none_free (content old) (content new) (loose new))

-- and each image that a stop may leave then opens to it
abbrev pub OpensToNextAfterOk : {D T E : Type 0} → Result T E → (D → List (List ℕ)) → (D → ℕ → Bool) → (D → List (List ℕ) → Type 0)
    → Standing → Standing → List ℕ → D → D → Type 0
OpensToNextAfterOk answer content loose images_now before after body old new = (was : List ℕ) (free : ℕ → Bool) (base image : List (List ℕ))
    → RootStands before was free base (content old) (loose old) → seq_of was < seq_of body
    → images_now new image → OnOk answer (OpensTo (root_at after body) none_free (content old) image)

-- each image that a call adds opens to the root that stood there before it or to the one with this body
abbrev pub OpensToEither : {D : Type 0} → (D → List (List ℕ)) → (D → ℕ → Bool) → (D → ℕ) → (D → ℕ → List (List ℕ) → Type 0)
    → Standing → List ℕ → D → D → Type 0
OpensToEither content loose moment images_since standing body old new = (was : List ℕ) (free : ℕ → Bool) (base : List (List ℕ))
    → RootStands standing was free base (content old) (loose old) → seq_of was < seq_of body
    → AddsImages moment images_since old new (IsOldOrNew (root_at standing was) body free base (content old))
