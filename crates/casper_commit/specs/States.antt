use Rattle.std.specs.Prelude.{◌≡◌, ◌⊎◌, ◌<◌, ◌&&◌, ◌||◌, ℕ, Bool, true, false, List, Some, nat_le}
use Rattle.casper_disk.specs.Disk.{AgreesBut, IsLooseWithin, with_loose}
use Rattle.casper_root.specs.Slots.{body_place, gate_place, other_slot}
use Rattle.casper_root.specs.Spare.{IsBehind}
use Rattle.casper_root.specs.declared.slot.Slot.{Slot}
use Rattle.casper_commit.specs.Root.{Root, has_open_gate, body_at, seq_of, root_in}
use Rattle.casper_commit.specs.declared.standing.Standing.{Standing}

-- a block of one of the two roots
abbrev pub is_of_roots : ℕ → Bool
is_of_roots at = nat_le 1 at && nat_le at 4

-- the blocks of the two roots, and the free ones
abbrev pub besides : (ℕ → Bool) → ℕ → Bool
besides free at = is_of_roots at || free at

-- no block is free
abbrev pub none_free : ℕ → Bool
none_free at = false

-- the free blocks are frames: none of them is a fixed block
abbrev pub AreFrames : (ℕ → Bool) → Type 0
AreFrames free = (at : ℕ) → at < 5 → free at ≡ false

-- but for free blocks, this block alone may be loose
abbrev pub LooseAt : ℕ → (ℕ → Bool) → (ℕ → Bool) → Type 0
LooseAt place free loose = IsLooseWithin (with_loose place free) loose

-- the image opens to this root, and each block that is neither of a root nor free is as in these
pub record OpensTo (root : Root) (free : ℕ → Bool) (base image : List (List ℕ)) : Type 0 where
  pub opens : root_in image ≡ Some root
  pub same : AgreesBut (besides free) base image

-- the gate of the root is open, and this is its body
pub record HasRoot (root : Root) (blocks : List (List ℕ)) : Type 0 where
  pub gate : has_open_gate blocks root.slot ≡ true
  pub body : body_at blocks root.slot ≡ root.body

-- the spare root is behind, so its gate does not count and may be loose
pub record IsAhead (root : Root) (free : ℕ → Bool) (base content : List (List ℕ)) (loose : ℕ → Bool) : Type 0 where
  pub frames : AreFrames free
  pub has : HasRoot root content
  pub behind : IsBehind root.slot (seq_of (body_at content (other_slot root.slot))) (seq_of root.body)
  pub same : AgreesBut (besides free) base content
  pub settled : LooseAt (gate_place (other_slot root.slot)) free loose

-- the spare gate is closed, so the spare body does not count and may be loose
pub record IsAlone (root : Root) (free : ℕ → Bool) (base content : List (List ℕ)) (loose : ℕ → Bool) : Type 0 where
  pub frames : AreFrames free
  pub has : HasRoot root content
  pub closed : has_open_gate content (other_slot root.slot) ≡ false
  pub same : AgreesBut (besides free) base content
  pub settled : LooseAt (body_place (other_slot root.slot)) free loose

-- the root stands beside a spare gate that is known to be closed, or beside a spare root that is behind
abbrev pub StandsBeside : Bool → Root → (ℕ → Bool) → List (List ℕ) → List (List ℕ) → (ℕ → Bool) → Type 0
StandsBeside true root free base content loose = IsAlone root free base content loose
StandsBeside false root free base content loose = IsAhead root free base content loose

-- the root with this body where a current root stands
abbrev pub root_at : Standing → List ℕ → Root
root_at standing body = record { slot = standing.slot; body = body }

-- the root in the other slot, with this body
abbrev pub next_root : Slot → List ℕ → Root
next_root at body = record { slot = other_slot at; body = body }

-- the root with this body stands where it is said to: whatever a stop leaves opens to it, and to the blocks of this base
abbrev pub RootStands : Standing → List ℕ → (ℕ → Bool) → List (List ℕ) → List (List ℕ) → (ℕ → Bool) → Type 0
RootStands standing body free base content loose = StandsBeside standing.spare_closed (root_at standing body) free base content loose

-- the root stands alone, and this body has a greater number; the frames that it speaks of are those of these blocks
pub record IsReady (root : Root) (body : List ℕ) (free : ℕ → Bool) (base framed content : List (List ℕ)) (loose : ℕ → Bool) : Type 0 where
  pub alone : IsAlone root free base content loose
  pub written : AgreesBut (besides none_free) framed content
  pub greater : seq_of root.body < seq_of body

-- beside the root stands a next body, and its gate decides between the two, and may be loose; no other block may
pub record IsAtGate (root : Root) (body : List ℕ) (free : ℕ → Bool) (base framed content : List (List ℕ)) (loose : ℕ → Bool) : Type 0 where
  pub frames : AreFrames free
  pub has : HasRoot root content
  pub next : body_at content (other_slot root.slot) ≡ body
  pub greater : seq_of root.body < seq_of body
  pub same : AgreesBut (besides free) base content
  pub written : AgreesBut (besides none_free) framed content
  pub settled : LooseAt (gate_place (other_slot root.slot)) none_free loose

-- the image opens to the old root with the blocks of the base, or to the new one with all frames that were written
abbrev pub IsOldOrNew : Root → List ℕ → (ℕ → Bool) → List (List ℕ) → List (List ℕ) → List (List ℕ) → Type 0
IsOldOrNew root body free base framed image = OpensTo root free base image ⊎ OpensTo (next_root root.slot body) none_free framed image
