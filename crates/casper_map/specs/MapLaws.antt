use Rattle.std.specs.Prelude.{◌≡◌, ◌||◌, ℕ, Bool, nat_lt, List, Option}
use Rattle.casper_disk.specs.Disk.{AgreesBut}
use Rattle.casper_map.specs.Faulty.{opened_array}
use Rattle.casper_map.specs.Levels.{Reader, free_in}

-- a fixed block, or one of a free frame
abbrev pub besides : (ℕ → Bool) → ℕ → Bool
besides free at = nat_lt at 5 || free at

-- what blocks open to below some places stands, the refusal too, in an image that differs from them in fixed blocks and in those of
-- free frames alone
abbrev pub ArraysStand : Type 0
ArraysStand = (reader : Reader) (blocks image : List (List ℕ)) (eaches counts : List ℕ) (frames : ℕ) (places : List (Option ℕ))
    → AgreesBut (besides (free_in reader blocks counts places)) blocks image
    → opened_array reader image eaches counts frames places ≡ opened_array reader blocks eaches counts frames places
