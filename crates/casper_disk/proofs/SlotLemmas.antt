use Rattle.std.proofs.Common.{◌≡◌, ◌≢◌, ℕ, zero, suc, ◌<◌, Bool, true, false, List, [], ◌∷◌, ◌++◌, length, set, Option, Some, None, refl, sym, ◌∙◌, ap, ⊎_elim, is_some, arith}
use Rattle.std.specs.Str.{bytes_eq}
use Rattle.std.specs.Prelude.{slice_index_or, if◌then◌else◌, IfSome, IfNone, OnSome, IsFalse}
use Rattle.std.proofs.lemmas.Bool.{cases_Bool}
use Rattle.std.proofs.lemmas.List.{get_or_read}
use Rattle.std.proofs.lemmas.Slice.Eq.{bytes_eq-Decides}
use Rattle.casper_disk.specs.MemDisk.{Held}
use Rattle.casper_disk.specs.Place.{Place, Missing, Out, Standing, is_there, is_standing}
use Rattle.casper_disk.specs.Slots.{Stored, looked_up, slot_place, place_of, place_in, is_named_at}

abbrev pub blank : Stored
blank = record { name = []; disk = None; handed = 0 }

same_name : (name : List ℕ) → bytes_eq name name ≡ true
same_name name = (bytes_eq-Decides name name).1 refl

other_name : (xs ys : List ℕ) → xs ≢ ys → bytes_eq xs ys ≡ false
other_name xs ys apart = not_true (bytes_eq xs ys) (λ same. apart ((bytes_eq-Decides xs ys).0 same))
  where
    not_true : (b : Bool) → (b ≡ true → ⊥) → b ≡ false
    not_true true never = absurd (never refl)
    not_true false never = refl

-- no slot has a name: what there is then
pub look_missing : {X : Type 0} (has : Stored → X) (none : X) (slots : List Stored) (name : List ℕ)
    → ((at : ℕ) → at < length slots → is_named_at slots name at ≡ false) → looked_up has none slots name ≡ none
look_missing has none [] name unnamed = refl
look_missing has none (slot ∷ slots) name unnamed =
    ap (λ test. if test then has slot else looked_up has none slots name) (unnamed 0 (omega arith))
    ∙ look_missing has none slots name (λ at within. unnamed (suc at) (omega arith))

-- the first slot with a name
pub look_found : {X : Type 0} (has : Stored → X) (none : X) (slots : List Stored) (name : List ℕ) (at : ℕ) → at < length slots
    → is_named_at slots name at ≡ true → ((before : ℕ) → before < at → is_named_at slots name before ≡ false)
    → looked_up has none slots name ≡ has (slice_index_or slots at blank)
look_found has none [] name at within named first = absurd (omega arith)
look_found has none (slot ∷ slots) name zero within named first = ap (λ test. if test then has slot else looked_up has none slots name) named
look_found has none (slot ∷ slots) name (suc at) within named first =
    ap (λ test. if test then has slot else looked_up has none slots name) (first 0 (omega arith))
    ∙ look_found has none slots name at (omega arith) named (λ before early. first (suc before) (omega arith))

-- after an exchange of it for one with the same name
look_changed : {X : Type 0} (has : Stored → X) (none : X) (slots : List Stored) (name : List ℕ) (at : ℕ) (after : Stored) → at < length slots
    → bytes_eq after.name name ≡ true → ((before : ℕ) → before < at → is_named_at slots name before ≡ false)
    → looked_up has none (set slots at after) name ≡ has after
look_changed has none [] name at after within named first = absurd (omega arith)
look_changed has none (slot ∷ slots) name zero after within named first = ap (λ test. if test then has after else looked_up has none slots name) named
look_changed has none (slot ∷ slots) name (suc at) after within named first =
    ap (λ test. if test then has slot else looked_up has none (set slots at after) name) (first 0 (omega arith))
    ∙ look_changed has none slots name at after (omega arith) named (λ before early. first (suc before) (omega arith))

-- a name that neither of the two slots has
look_kept : {X : Type 0} (has : Stored → X) (none : X) (slots : List Stored) (other : List ℕ) (at : ℕ) (after : Stored) → at < length slots
    → is_named_at slots other at ≡ false → bytes_eq after.name other ≡ false → looked_up has none (set slots at after) other ≡ looked_up has none slots other
look_kept has none [] other at after within was is = absurd (omega arith)
look_kept has none (slot ∷ slots) other zero after within was is =
    ap (λ test. if test then has after else looked_up has none slots other) is
    ∙ sym (ap (λ test. if test then has slot else looked_up has none slots other) was)
look_kept has none (slot ∷ slots) other (suc at) after within was is =
    ap (λ rest. if bytes_eq slot.name other then has slot else rest) (look_kept has none slots other at after (omega arith) was is)

-- after an exchange of a slot for one with the same name that has the same
look_same : {X : Type 0} (has : Stored → X) (none : X) (slots : List Stored) (other : List ℕ) (at : ℕ) (after : Stored) → at < length slots
    → after.name ≡ (slice_index_or slots at blank).name → has after ≡ has (slice_index_or slots at blank)
    → looked_up has none (set slots at after) other ≡ looked_up has none slots other
look_same has none [] other at after within same_name same = absurd (omega arith)
look_same has none (slot ∷ slots) other zero after within same_name same =
    ap (λ (name : List ℕ). if bytes_eq name other then has after else looked_up has none slots other) same_name
    ∙ ap (λ it. if bytes_eq slot.name other then it else looked_up has none slots other) same
look_same has none (slot ∷ slots) other (suc at) after within same_name same =
    ap (λ rest. if bytes_eq slot.name other then has slot else rest) (look_same has none slots other at after (omega arith) same_name same)

there_is_not_missing : (disk : Option Held) → place_of disk ≡ Missing → ⊥
there_is_not_missing None same = cc
there_is_not_missing (Some held) same = cc

pub missing_is_not_out : {D : Type 0} → ◌≡◌ {A = Place D} Missing Out → ⊥
missing_is_not_out same = cc

-- a name with a slot is there
pub there : (disk : Option Held) → is_there (place_of disk) ≡ true
there None = refl
there (Some held) = refl

-- a disk stands there where it is not out
pub stands : (disk : Option Held) → is_some disk ≡ is_standing (place_of disk)
stands None = refl
stands (Some held) = refl

-- a name that was missing, once a slot with it is added
pub look_added : {X : Type 0} (has : Stored → X) (none : X) (slots : List Stored) (name : List ℕ) (new : Stored) → place_in slots name ≡ Missing
    → new.name ≡ name → looked_up has none (slots ++ new ∷ []) name ≡ has new
look_added has none [] name new missing named =
    ap (λ test. if test then has new else none) (ap (λ (it : List ℕ). bytes_eq it name) named ∙ same_name name)
look_added has none (slot ∷ slots) name new missing named = ⊎_elim
    (λ is. absurd (there_is_not_missing slot.disk (sym (ap (λ test. if test then slot_place slot else place_in slots name) is) ∙ missing)))
    (λ unlike. ap (λ test. if test then has slot else looked_up has none (slots ++ new ∷ []) name) unlike
    ∙ look_added has none slots name new (sym (ap (λ test. if test then slot_place slot else place_in slots name) unlike) ∙ missing) named)
    (cases_Bool (bytes_eq slot.name name))

-- other names, once it is added
pub look_beside : {X : Type 0} (has : Stored → X) (none : X) (slots : List Stored) (name other : List ℕ) (new : Stored) → other ≢ name → new.name ≡ name
    → looked_up has none (slots ++ new ∷ []) other ≡ looked_up has none slots other
look_beside has none [] name other new apart named =
    ap (λ test. if test then has new else none) (other_name new.name other (λ same. apart (sym same ∙ named)))
look_beside has none (slot ∷ slots) name other new apart named =
    ap (λ rest. if bytes_eq slot.name other then has slot else rest) (look_beside has none slots name other new apart named)

-- the first slot of a name is exchanged for one with the same name
pub exchanged : {X : Type 0} (has : Stored → X) (none : X) (slots : List Stored) (name : List ℕ) (at : ℕ) (slot after : Stored) → at < length slots
    → is_named_at slots name at ≡ true → ((before : ℕ) → before < at → is_named_at slots name before ≡ false)
    → slot ≡ slice_index_or slots at slot → after.name ≡ slot.name → looked_up has none (set slots at after) name ≡ has after
exchanged has none slots name at slot after within named first read is =
    look_changed has none slots name at after within
    (ap (λ (it : List ℕ). bytes_eq it name) (is ∙ ap (λ (it : Stored). it.name) (get_or_read slots at slot within read blank)) ∙ named) first

-- other names keep what they have meanwhile
pub exchanged_beside : {X : Type 0} (has : Stored → X) (none : X) (slots : List Stored) (name other : List ℕ) (at : ℕ) (slot after : Stored) → at < length slots
    → is_named_at slots name at ≡ true → slot ≡ slice_index_or slots at slot → after.name ≡ slot.name → other ≢ name
    → looked_up has none (set slots at after) other ≡ looked_up has none slots other
exchanged_beside has none slots name other at slot after within named read is apart =
    let was : (slice_index_or slots at blank).name ≡ name = (bytes_eq-Decides (slice_index_or slots at blank).name name).0 named in
    let after_is : after.name ≡ name = is ∙ ap (λ (it : Stored). it.name) (get_or_read slots at slot within read blank) ∙ was in
    look_kept has none slots other at after within
    (other_name (slice_index_or slots at blank).name other (λ same. apart (sym same ∙ was)))
    (other_name after.name other (λ same. apart (sym same ∙ after_is)))

-- all names keep what they have where the slot has the same
pub exchanged_same : {X : Type 0} (has : Stored → X) (none : X) (slots : List Stored) (other : List ℕ) (at : ℕ) (slot after : Stored) → at < length slots
    → slot ≡ slice_index_or slots at slot → after.name ≡ slot.name → has after ≡ has slot
    → looked_up has none (set slots at after) other ≡ looked_up has none slots other
exchanged_same has none slots other at slot after within read is same =
    let first = get_or_read slots at slot within read blank in
    look_same has none slots other at after within (is ∙ ap (λ (it : Stored). it.name) first) (same ∙ ap has first)

-- what a name has, by its first slot
pub first_has : {X : Type 0} (has : Stored → X) (none : X) (slots : List Stored) (name : List ℕ) (at : ℕ) (slot : Stored) → at < length slots
    → is_named_at slots name at ≡ true → ((before : ℕ) → before < at → is_named_at slots name before ≡ false)
    → slot ≡ slice_index_or slots at slot → looked_up has none slots name ≡ has slot
first_has has none slots name at slot within named first read =
    look_found has none slots name at within named first ∙ ap has (sym (get_or_read slots at slot within read blank))

-- what was taken out stood there
pub taken_stood : (place : Place Held) (disk result : Option Held) → place ≡ place_of disk → result ≡ disk → IfSome result (λ held. place ≡ Standing held)
taken_stood place disk None is same = tt
taken_stood place disk (Some held) is same = is ∙ ap place_of (sym same)

-- where nothing was taken out, nothing stood
pub taken_none : (place : Place Held) (disk result : Option Held) → place ≡ place_of disk → result ≡ disk → IfNone result (IsFalse (is_standing place))
taken_none place disk None is same = ap is_standing (is ∙ ap place_of (sym same))
taken_none place disk (Some held) is same = tt

pub on_some : {P : Type 0} (result : Option Held) → P → OnSome result P
on_some None holds = tt
on_some (Some held) holds = holds

-- the faults of what was taken out
pub taken_handed : (now handed : ℕ) (result : Option Held) → now ≡ handed → IfSome result (λ held. handed ≡ held.plan.faults)
    → IfSome result (λ held. now ≡ held.plan.faults)
taken_handed now handed None is faults = tt
taken_handed now handed (Some held) is faults = is ∙ faults
