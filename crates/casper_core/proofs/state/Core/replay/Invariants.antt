use Rattle.std.proofs.Common.{◌≡◌, ◌+◌, ◌-◌, ◌^◌, ◌++◌, List, length}
use Rattle.std.specs.Prelude.{IsTrue, min}
use Rattle.casper_space.specs.declared.answer.Answer.{Answer}
use Rattle.casper_core.specs.Leaving.{Adds, IsLeftByRun}
use Rattle.casper_core.specs.Loading.{OnlyReads, KeepsVault}
use Rattle.casper_core.specs.Shaped.{RunsInShape}
use Rattle.casper_core.specs.Sound.{IsSound}
use Rattle.casper_core.specs.Stepping.{AreReadOnly, Runs, RoseBy, completed_in, failures_in}
use Rattle.casper_core.proofs.state.Core.replay.Given as goal

abbrev pub invariant-loop-event : goal.invariant-loop-event
invariant-loop-event g l = record {
  run : (said : List Answer) × (l.answers.items ≡ l.initial.answers.items ++ said) × (length said ≡ l.event-index)
      × (IsTrue g.V.Vault.tells → Runs l.events said l.initial.self l.self)
      × RunsInShape l.events said l.initial.self l.self
      × RoseBy (failures_in said) (g.V.Vault.faults l.initial.self.vault) (g.V.Vault.faults l.self.vault)
      × (l.self.calls ≡ min (l.initial.self.calls + completed_in l.events said) (2 ^ 64 - 1))
      × (IsTrue g.V.Vault.tells → Adds g.V.Vault.moment g.V.Vault.images_since l.initial.self.vault l.self.vault (IsLeftByRun l.events said l.initial.self));
  reads : AreReadOnly l.events → OnlyReads g.V.Vault.tells g.V.Vault.size g.V.Vault.image g.V.Vault.version g.V.Vault.room g.V.Vault.doubt g.V.Vault.images_now g.V.Vault.moment g.V.Vault.images_since g.V.Vault.faults g.V.Vault.leads_to l.initial.self.vault l.self.vault;
  vault : KeepsVault g.V.Vault.size g.V.Vault.faults g.V.Vault.leads_to l.initial.self.vault l.self.vault;
  sound : IsSound l.self;
}
