use Rattle.std.specs.Prelude.{◌≡◌, not, ℕ, Bool, true, false, List, Some}
use Rattle.casper_disk.specs.Disk.{AgreesBut, IsLooseWithin, none_loose}
use Rattle.casper_root.specs.Slots.{other_slot}
use Rattle.casper_commit.specs.declared.standing.Standing.{Standing}
use Rattle.casper_commit.specs.Root.{Root, has_open_gate, body_at, root_in, standing_in}
use Rattle.casper_commit.specs.States.{AreFrames, OpensTo, RootStands, StandsBeside, IsAtGate, IsOldOrNew, none_free, next_root}

-- where a root stands, each image that a stop now may leave opens to it
abbrev pub StandingOpens : Type 0
StandingOpens = (closed : Bool) (root : Root) (free : ℕ → Bool) (base content image : List (List ℕ)) (loose : ℕ → Bool)
    → StandsBeside closed root free base content loose → AgreesBut loose content image → OpensTo root free base image

-- where a gate decides, each such image opens to the old root or to the new one
abbrev pub GateDecides : Type 0
GateDecides = (root : Root) (body : List ℕ) (free : ℕ → Bool) (base framed content image : List (List ℕ)) (loose : ℕ → Bool)
    → IsAtGate root body free base framed content loose → AgreesBut loose content image → IsOldOrNew root body free base framed image

-- and to the new one exactly where that gate is open
abbrev pub GateTells : Type 0
GateTells = (root : Root) (body : List ℕ) (free : ℕ → Bool) (base framed content : List (List ℕ)) (loose : ℕ → Bool)
    → IsAtGate root body free base framed content loose
    → (has_open_gate content (other_slot root.slot) ≡ true → OpensTo (next_root root.slot body) none_free framed content)
    × (has_open_gate content (other_slot root.slot) ≡ false → OpensTo root free base content)

-- the current root of blocks of which none is loose stands, beside a closed gate or one that is behind
abbrev pub FoundStands : Type 0
FoundStands = (root : Root) (free : ℕ → Bool) (content : List (List ℕ)) (loose : ℕ → Bool) → root_in content ≡ Some root → AreFrames free
    → loose ≡ none_loose → StandsBeside (not (has_open_gate content (other_slot root.slot))) root free content content loose

-- so does the one that is found
abbrev pub StandingFound : Type 0
StandingFound = (standing : Standing) (free : ℕ → Bool) (content : List (List ℕ)) (loose : ℕ → Bool) → standing_in content ≡ Some standing → AreFrames free
    → loose ≡ none_loose → RootStands standing (body_at content standing.slot) free content content loose

-- a root that stands does so by its own content
abbrev pub StandingRebased : Type 0
StandingRebased = (closed : Bool) (root : Root) (free : ℕ → Bool) (base content : List (List ℕ)) (loose : ℕ → Bool)
    → StandsBeside closed root free base content loose → StandsBeside closed root free content content loose

-- and with more free frames
abbrev pub StandingWider : Type 0
StandingWider = (closed : Bool) (root : Root) (free more : ℕ → Bool) (base content : List (List ℕ)) (loose : ℕ → Bool)
    → StandsBeside closed root free base content loose → AreFrames more → IsLooseWithin more free
    → StandsBeside closed root more content content loose

-- a doubt is so by its own content
abbrev pub GateRebased : Type 0
GateRebased = (root : Root) (body : List ℕ) (free : ℕ → Bool) (base framed content : List (List ℕ)) (loose : ℕ → Bool)
    → IsAtGate root body free base framed content loose → IsAtGate root body free content content content loose
