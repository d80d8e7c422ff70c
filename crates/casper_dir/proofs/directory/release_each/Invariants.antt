use Rattle.casper_dir.specs.Rights.{AreAllClients}
use Rattle.casper_dir.proofs.RightsLemmas.{RevokedBelow}
use Rattle.casper_dir.proofs.directory.release_each.Given as goal

-- the pages so far are released
abbrev pub invariant-loop-holders : goal.invariant-loop-holders
invariant-loop-holders l = record {
  clients : AreAllClients l.pages;
  revoked : RevokedBelow l.initial.pages l.pages l.members l.holders-index;
}
