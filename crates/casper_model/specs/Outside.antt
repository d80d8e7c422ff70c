use Rattle.std.specs.Prelude.{Bool, true, false}

-- what the outside did in one step: nothing failed; a page could not be read; a write-out failed, and nothing has
-- changed or it is not known; a settle failed
pub data Outside : Type 0 where
  NothingFailed LoadFailed WriteOutFailed WriteOutDoubted SettleFailed : Outside

abbrev pub is_load_failed : Outside → Bool
is_load_failed LoadFailed = true
is_load_failed other = false

abbrev pub is_settle_failed : Outside → Bool
is_settle_failed SettleFailed = true
is_settle_failed other = false
