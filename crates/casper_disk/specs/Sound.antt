use Rattle.std.specs.Prelude.{◌≡◌, ℕ, ◌+◌, ◌^◌, ◌<◌, ◌≤◌, Bool, false, List, length, replicate}
use Rattle.casper_disk.specs.declared.step.Step.{Step}

-- what a disk in memory keeps: its blocks are numbered by 32 bits, no block has a mark while there is room for a step, and the
-- record takes as many steps as there is room for without taking memory
pub record IsSound (content : List (List ℕ)) (steps : List Step) (armed room capacity : ℕ) (marks : List Bool) : Type 0 where
  pub size : length content < 2 ^ 32
  pub marked : length marks ≡ length content
  pub unmarked : 0 < room → marks ≡ replicate (length content) false
  pub before : armed ≤ length steps
  pub roomy : length steps + room ≤ capacity
