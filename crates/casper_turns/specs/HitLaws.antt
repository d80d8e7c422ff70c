use Rattle.std.specs.Prelude.{◌≡◌, ℕ, List, Some}
use Rattle.casper_trail.specs.Value.{value_of}
use Rattle.casper_model.specs.Hits.{hit_read, hit_write}
use Rattle.casper_model.specs.Own.{Own}
use Rattle.casper_model.specs.Shared.{Shared}
use Rattle.casper_model.specs.View.{view}
use Rattle.casper_turns.specs.Good.{IsGoodWith}
use Rattle.casper_turns.specs.Right.{ReadsAreRight}

-- a hit keeps what is good with the client's own part
abbrev pub ReadHitKeeps : Type 0
ReadHitKeeps = (shared : Shared) (own after : Own) (page word value : ℕ) → IsGoodWith shared own → hit_read own page word value ≡ Some after → IsGoodWith shared after

abbrev pub WriteHitKeeps : Type 0
WriteHitKeeps = (shared : Shared) (own after : Own) (page word value : ℕ) → IsGoodWith shared own → hit_write own page word value ≡ Some after → IsGoodWith shared after

-- and the pending reads right, where a read gives the value that the client sees
abbrev pub ReadHitIsRight : Type 0
ReadHitIsRight =
    (base : List (List ℕ)) (shared : Shared) (own after : Own) (page word value : ℕ) → ReadsAreRight base shared own → hit_read own page word value ≡ Some after
    → value ≡ value_of base (view shared own) page word → ReadsAreRight base shared after

abbrev pub WriteHitIsRight : Type 0
WriteHitIsRight =
    (base : List (List ℕ)) (shared : Shared) (own after : Own) (page word value : ℕ) → ReadsAreRight base shared own → hit_write own page word value ≡ Some after
    → ReadsAreRight base shared after
