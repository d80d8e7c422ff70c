use Rattle.std.specs.Prelude.{◌≡◌, ◌<◌, not, ℕ, Bool, true, List, length, Some, Ok}
use Rattle.casper_disk.specs.Disk.{AgreesBut, block_at, none_loose}
use Rattle.casper_root.specs.Format.{body_block}
use Rattle.casper_root.specs.Opening.{opened, body_found, as_body, is_body_of}
use Rattle.casper_root.specs.Slots.{other_slot}
use Rattle.casper_root.specs.Spare.{IsNext, succeeded_by, with_spare}
use Rattle.casper_root.specs.declared.body.Body.{Body}
use Rattle.casper_root.specs.declared.roots.Roots.{Roots}
use Rattle.casper_commit.specs.Root.{Root, has_open_gate, body_at, seq_of, root_in}
use Rattle.casper_commit.specs.States.{AreFrames, OpensTo, RootStands, besides, next_root, none_free}

-- what blocks open to is their current root, with its body read; whether the spare gate is closed was read too
abbrev pub OpenedIsCurrent : Type 0
OpenedIsCurrent = (blocks : List (List ℕ)) (roots : Roots) → opened blocks ≡ Ok roots
    → (root_in blocks ≡ Some (record { slot = roots.slot; body = body_at blocks roots.slot }))
    × (as_body (body_found (body_at blocks roots.slot)) ≡ roots.body)
    × (is_body_of roots.header.pages (body_found (body_at blocks roots.slot)) ≡ true)
    × (roots.spare_closed ≡ not (has_open_gate blocks (other_slot roots.slot)))

-- blocks with the header of others that open, whose current root has a body of that store, open to that root
abbrev pub CurrentIsOpened : Type 0
CurrentIsOpened = (blocks image : List (List ℕ)) (roots : Roots) (root : Root) → opened blocks ≡ Ok roots
    → length image ≡ length blocks → block_at image 0 ≡ block_at blocks 0 → root_in image ≡ Some root
    → is_body_of roots.header.pages (body_found root.body) ≡ true
    → opened image ≡ Ok (record {
      header = roots.header;
      slot = root.slot;
      body = as_body (body_found root.body);
      spare_closed = not (has_open_gate image (other_slot root.slot));
    })

-- the root that blocks open to stands, where none of them is loose
abbrev pub OpenedStands : Type 0
OpenedStands = (content : List (List ℕ)) (roots : Roots) (free loose : ℕ → Bool) → opened content ≡ Ok roots → AreFrames free → loose ≡ none_loose
    → RootStands (record { slot = roots.slot; spare_closed = roots.spare_closed }) (body_at content roots.slot) free content content loose

-- an image that opens to the root of some blocks opens to it as a store
abbrev pub OpenedStill : Type 0
OpenedStill = (base image : List (List ℕ)) (roots : Roots) (free : ℕ → Bool) → opened base ≡ Ok roots → AreFrames free
    → OpensTo (record { slot = roots.slot; body = body_at base roots.slot }) free base image
    → opened image ≡ Ok (with_spare (not (has_open_gate image (other_slot roots.slot))) roots)

-- an image that opens to the next root opens to it as a store
abbrev pub OpenedNext : Type 0
OpenedNext = (base framed image : List (List ℕ)) (roots : Roots) (body : Body) (free : ℕ → Bool) → opened base ≡ Ok roots → AreFrames free
    → AgreesBut (besides free) base framed → IsNext roots.header roots.body.seq body
    → OpensTo (next_root roots.slot (body_block body)) none_free framed image
    → opened image ≡ Ok (with_spare (not (has_open_gate image roots.slot)) (succeeded_by body roots))

-- the block of a next body has a greater number
abbrev pub NextIsGreater : Type 0
NextIsGreater = (base : List (List ℕ)) (roots : Roots) (body : Body) → opened base ≡ Ok roots → IsNext roots.header roots.body.seq body
    → seq_of (body_at base roots.slot) < seq_of (body_block body)

-- the number of a body is the one that is read in it
abbrev pub SeqIsRead : Type 0
SeqIsRead = (body : List ℕ) → (body_found body).seq ≡ seq_of body
