use Rattle.std.proofs.Common.{subst}
use Rattle.casper_model.specs.State.{State}
use Rattle.casper_core.specs.CoreView.{CoreView, told_by}
use Rattle.casper_core.specs.Shaped.{RepresentsButWords}
use Rattle.casper_core.specs.Sound.{IsSound}
use Rattle.casper_core.proofs.ShapedRuns.{some_state}
use Rattle.casper_core.proofs.state.Core.hub.Goals as goal

pub returns-clause-shape : goal.returns-clause-shape
returns-clause-shape g c =
    let core : CoreView g.row.V.Denot = record {
      hub = c.self.inside.hub;
      caches = c.self.inside.caches.items;
      capacity = c.self.inside.capacity;
      unfinished = c.self.inside.unfinished;
      calls = c.self.inside.calls;
      vault = c.self.inside.vault;
      size = g.V.Vault.size c.self.inside.vault;
      told = told_by g.V.Vault.image g.V.Vault.version g.V.Vault.room g.V.Vault.doubt c.self.inside.vault;
    } in
    let sound : IsSound core = c.self.invariant in
    subst (λ one. (state : State) × RepresentsButWords state one) c.self.view_is (some_state core sound)
