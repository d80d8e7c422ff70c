use Rattle.std.proofs.Common.{◌≡◌, length, map, drop}
use Rattle.casper_space.specs.Changes.{with_changes}
use Rattle.casper_disk.specs.Vault.{as_changes}
use Rattle.casper_disk.specs.MemVault.{words_in}
use Rattle.casper_disk.proofs.VaultLemmas.{HoldsFirst, FilledFirst}
use Rattle.casper_disk.proofs.mem_vault.put_all.Given as goal

abbrev pub invariant-loop-page : goal.invariant-loop-page
invariant-loop-page l = record {
  words : with_changes (map words_in l.frames.items) (as_changes (drop l.page-index l.changes))
      ≡ with_changes (map words_in l.initial.frames.items) (as_changes l.changes);
  count : length l.frames.items ≡ length l.initial.frames.items;
  held : HoldsFirst l.frames.items l.changes (length l.changes);
  long : FilledFirst l.changes l.page-index;
}
