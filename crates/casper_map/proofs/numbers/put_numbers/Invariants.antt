use Rattle.std.proofs.Common.{◌≡◌, ◌*◌, ◌<◌, ◌++◌, length, take, drop}
use Rattle.casper_map.proofs.ByteLemmas.{bytes_of}
use Rattle.casper_map.proofs.numbers.put_numbers.Given as goal

abbrev pub invariant-loop-place : goal.invariant-loop-place
invariant-loop-place l = record {
  written : l.into ≡ bytes_of (take l.place l.numbers) ++ drop (4 * l.place) l.initial.into;
  block_long : 0 < l.place → length l.initial.into ≡ 4096;
}
