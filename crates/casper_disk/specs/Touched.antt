use Rattle.std.specs.Prelude.{◌≡◌, ◌==◌, ◌||◌, ◌++◌, ℕ, ◌<◌, Bool, true, false, List, [], ◌∷◌, length, take, replicate}
use Rattle.casper_disk.specs.Disk.{block_at}
use Rattle.casper_disk.specs.Record.{is_marked}
use Rattle.casper_disk.specs.declared.step.Step.{Step}
use Rattle.casper_disk.specs.declared.step.Step.TheVariants as step

-- whether a step wrote a block
abbrev pub touches : Step → ℕ → Bool
touches (step.Wrote place was) at = at == place
touches step.Synced at = false
touches step.Unsynced at = false
touches (step.Missed marks) at = is_marked marks.items at

-- whether one of some steps wrote a block
abbrev pub touched : List Step → ℕ → Bool
touched [] at = false
touched (first ∷ steps) at = touches first at || touched steps at

-- the first 2,048 bytes of a block, and this byte in all places after them
unfoldable pub torn_block : ℕ → List ℕ → List ℕ
torn_block byte block = take 2048 block ++ replicate 2048 byte

-- some blocks, each of 4,096 bytes, were torn, and the others are the same
pub record AreTorn (torn : ℕ → Bool) (byte : ℕ) (blocks image : List (List ℕ)) : Type 0 where
  pub count : length image ≡ length blocks
  pub long : (at : ℕ) → at < length blocks → torn at ≡ true → length (block_at blocks at) ≡ 4096
  pub bytes : (at : ℕ) → at < length blocks → torn at ≡ true → block_at image at ≡ torn_block byte (block_at blocks at)
  pub same : (at : ℕ) → torn at ≡ false → block_at image at ≡ block_at blocks at
