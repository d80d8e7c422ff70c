use Rattle.std.proofs.Common.{◌≡◌, length, map}
use Rattle.casper_disk.specs.MemVault.{words_in}
use Rattle.casper_disk.proofs.VaultLemmas.{HoldsFirst}
use Rattle.casper_disk.proofs.mem_vault.hold_all.Given as goal

abbrev pub invariant-loop-page : goal.invariant-loop-page
invariant-loop-page l = record {
  words : map words_in l.frames.items ≡ map words_in l.initial.frames.items;
  count : length l.frames.items ≡ length l.initial.frames.items;
  held : HoldsFirst l.frames.items l.changes l.page-index;
}
