use Rattle.std.proofs.Common.{◌≡◌, ◌≤◌, ◌+◌}
use Rattle.casper_core.specs.Loading.{OnlyReads}
use Rattle.casper_core.proofs.Loads.{unframed_of}
use Rattle.casper_core.proofs.Acquires.{IsBehind}
use Rattle.casper_core.proofs.acquire.acquire.Given as goal

abbrev pub invariant-loop-turn : goal.invariant-loop-turn
invariant-loop-turn g l = record {
  own : l.cache ≡ l.initial.cache;
  behind : IsBehind g.V.Vault.tells (g.V.Vault.image l.initial.vault) l.initial.hub l.hub;
  vault : OnlyReads g.V.Vault.tells g.V.Vault.size g.V.Vault.image g.V.Vault.version g.V.Vault.room g.V.Vault.doubt g.V.Vault.images_now g.V.Vault.moment g.V.Vault.images_since g.V.Vault.faults g.V.Vault.leads_to l.initial.vault l.vault;
  count : unframed_of l.hub l.wants + l._turn ≤ 4;
}
