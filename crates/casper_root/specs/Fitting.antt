use Rattle.std.specs.Prelude.{◌≡◌, ◌≤◌, ◌+◌, ℕ, length}
use Rattle.casper_root.specs.Format.{map_blocks_of}
use Rattle.casper_root.specs.declared.header.Header.{Header}
use Rattle.casper_root.specs.declared.roots.Roots.{Roots}

-- the sizes of a store are in their limits
pub record AreSizes (header : Header) : Type 0 where
  pub some_pages : 1 ≤ header.pages
  pub most_pages : header.pages ≤ 16384
  pub some_frames : 2 ≤ header.frames
  pub most_frames : header.frames ≤ 65536

-- what was read as the roots of a store on a disk of so many blocks is in its limits, and the disk has a block for each frame
pub record Fits (blocks : ℕ) (roots : Roots) : Type 0 where
  pub sizes : AreSizes roots.header
  pub room : 5 + roots.header.frames ≤ blocks
  pub some_seq : 1 ≤ roots.body.seq
  pub most_seq : roots.body.seq ≤ 281474976710655
  pub maps : length roots.body.maps ≡ map_blocks_of roots.header.pages
