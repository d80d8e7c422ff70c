use Rattle.std.proofs.Common.{refl, sym, ◌∙◌, subst}
use Rattle.std.specs.Prelude.{None}
use Rattle.casper_model.specs.Shared.{new_shared}
use Rattle.casper_hub.specs.Shows.{Shows}
use Rattle.casper_core.specs.CoreView.{CoreView, told_by}
use Rattle.casper_core.proofs.Begins.{sound_new, shape_new, stands_new}
use Rattle.casper_core.proofs.state.Core.new.Goals as goal

pub invariant_of-result : goal.invariant_of-result
invariant_of-result g c =
    let core : CoreView g.row.V.Denot = record {
      hub = c.in-Ok.hub;
      caches = c.in-Ok-no_caches.caches.items;
      capacity = c.args.capacity;
      unfinished = None;
      calls = 0;
      vault = c.args.vault;
      size = g.V.Vault.size c.args.vault;
      told = told_by g.V.Vault.image g.V.Vault.version g.V.Vault.room g.V.Vault.doubt c.args.vault;
    } in
    sound_new core c.in-Ok.ensures.sound c.in-Ok-no_caches.ensures c.in-Ok.ensures.absent (sym c.pages.ensures ∙ sym c.in-Ok.ensures.pages) refl c.requires.least c.requires.most c.requires.sure

pub returns-clause-sound : goal.returns-clause-sound
returns-clause-sound g c =
    let core : CoreView g.row.V.Denot = record {
      hub = c.in-Ok.hub;
      caches = c.in-Ok-no_caches.caches.items;
      capacity = c.args.capacity;
      unfinished = None;
      calls = 0;
      vault = c.args.vault;
      size = g.V.Vault.size c.args.vault;
      told = told_by g.V.Vault.image g.V.Vault.version g.V.Vault.room g.V.Vault.doubt c.args.vault;
    } in
    sound_new core c.in-Ok.ensures.sound c.in-Ok-no_caches.ensures c.in-Ok.ensures.absent (sym c.pages.ensures ∙ sym c.in-Ok.ensures.pages) refl c.requires.least c.requires.most c.requires.sure

pub returns-clause-stands : goal.returns-clause-stands
returns-clause-stands g c = λ told.
    let core : CoreView g.row.V.Denot = record {
      hub = c.in-Ok.hub;
      caches = c.in-Ok-no_caches.caches.items;
      capacity = c.args.capacity;
      unfinished = None;
      calls = 0;
      vault = c.args.vault;
      size = g.V.Vault.size c.args.vault;
      told = told_by g.V.Vault.image g.V.Vault.version g.V.Vault.room g.V.Vault.doubt c.args.vault;
    } in
    stands_new core c.in-Ok.ensures.sound c.in-Ok-no_caches.ensures c.in-Ok.ensures.absent (sym c.pages.ensures ∙ sym c.in-Ok.ensures.pages) refl c.args.limit
    (subst (λ pages. Shows (new_shared pages c.args.limit) c.in-Ok.hub) c.pages.ensures c.in-Ok.ensures.shows) c.in-Ok.ensures.frames c.requires.sure
    (record { count = sym (g.met.V.Vault.sized c.args.vault told); words = λ page below. g.met.V.Vault.filled c.args.vault page told below })

pub returns-clause-shape : goal.returns-clause-shape
returns-clause-shape g c =
    let core : CoreView g.row.V.Denot = record {
      hub = c.in-Ok.hub;
      caches = c.in-Ok-no_caches.caches.items;
      capacity = c.args.capacity;
      unfinished = None;
      calls = 0;
      vault = c.args.vault;
      size = g.V.Vault.size c.args.vault;
      told = told_by g.V.Vault.image g.V.Vault.version g.V.Vault.room g.V.Vault.doubt c.args.vault;
    } in
    shape_new core c.in-Ok.ensures.sound c.in-Ok-no_caches.ensures c.in-Ok.ensures.absent (sym c.pages.ensures ∙ sym c.in-Ok.ensures.pages) refl c.args.limit
    (subst (λ pages. Shows (new_shared pages c.args.limit) c.in-Ok.hub) c.pages.ensures c.in-Ok.ensures.shows)
