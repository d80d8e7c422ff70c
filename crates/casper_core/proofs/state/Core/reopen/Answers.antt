use Rattle.std.proofs.Common.{refl, sym, ◌∙◌, subst}
use Rattle.std.specs.Prelude.{None}
use Rattle.casper_model.specs.Shared.{new_shared}
use Rattle.casper_hub.specs.Shows.{Shows}
use Rattle.casper_sessions.specs.Chain.{IsFound}
use Rattle.casper_core.specs.CoreView.{CoreView, told_by}
use Rattle.casper_core.proofs.Begins.{sound_new, shape_new, stands_new}
use Rattle.casper_core.proofs.Reopens.{sound_still, may_be_found}
use Rattle.casper_core.proofs.state.Core.reopen.Goals as goal

pub invariant_of-self : goal.invariant_of-self
invariant_of-self g c =
    let core : CoreView g.row.V.Denot = record {
      hub = c.self.inside.hub;
      caches = c.self.inside.caches.items;
      capacity = c.self.inside.capacity;
      unfinished = c.self.inside.unfinished;
      calls = c.self.inside.calls;
      vault = c.self.inside.vault;
      size = g.V.Vault.size c.self.inside.vault;
      told = told_by g.V.Vault.image g.V.Vault.version g.V.Vault.room g.V.Vault.doubt c.self.inside.vault;
    } in
    sound_still core c.reopen.new.self (g.V.Vault.size c.reopen.new.self) (told_by g.V.Vault.image g.V.Vault.version g.V.Vault.room g.V.Vault.doubt c.reopen.new.self)
    c.self.invariant c.reopen.ensures.size c.in_err-reopen.ensures.doubtful

pub returns-in_err-reopen-clause-sound : goal.returns-in_err-reopen-clause-sound
returns-in_err-reopen-clause-sound g c =
    let core : CoreView g.row.V.Denot = record {
      hub = c.self.inside.hub;
      caches = c.self.inside.caches.items;
      capacity = c.self.inside.capacity;
      unfinished = c.self.inside.unfinished;
      calls = c.self.inside.calls;
      vault = c.self.inside.vault;
      size = g.V.Vault.size c.self.inside.vault;
      told = told_by g.V.Vault.image g.V.Vault.version g.V.Vault.room g.V.Vault.doubt c.self.inside.vault;
    } in
    sound_still core c.reopen.new.self (g.V.Vault.size c.reopen.new.self) (told_by g.V.Vault.image g.V.Vault.version g.V.Vault.room g.V.Vault.doubt c.reopen.new.self)
    c.self.invariant c.reopen.ensures.size c.in_err-reopen.ensures.doubtful

pub invariant_of-self-2 : goal.invariant_of-self-2
invariant_of-self-2 g c =
    let core : CoreView g.row.V.Denot = record {
      hub = c.in_ok-hub.hub;
      caches = c.in_ok-caches.caches.items;
      capacity = c.self.inside.capacity;
      unfinished = None;
      calls = c.self.inside.calls;
      vault = c.reopen.new.self;
      size = g.V.Vault.size c.reopen.new.self;
      told = told_by g.V.Vault.image g.V.Vault.version g.V.Vault.room g.V.Vault.doubt c.reopen.new.self;
    } in
    sound_new core c.in_ok-hub.ensures.sound c.in_ok-caches.ensures c.in_ok-hub.ensures.absent (c.reopen.ensures.size ∙ sym c.pages.ensures ∙ sym c.in_ok-hub.ensures.pages) refl
    c.self.invariant.least c.self.invariant.most c.in_ok-reopen.ensures.sure

pub returns-clause-sound : goal.returns-clause-sound
returns-clause-sound g c =
    let core : CoreView g.row.V.Denot = record {
      hub = c.in_ok-hub.hub;
      caches = c.in_ok-caches.caches.items;
      capacity = c.self.inside.capacity;
      unfinished = None;
      calls = c.self.inside.calls;
      vault = c.reopen.new.self;
      size = g.V.Vault.size c.reopen.new.self;
      told = told_by g.V.Vault.image g.V.Vault.version g.V.Vault.room g.V.Vault.doubt c.reopen.new.self;
    } in
    sound_new core c.in_ok-hub.ensures.sound c.in_ok-caches.ensures c.in_ok-hub.ensures.absent (c.reopen.ensures.size ∙ sym c.pages.ensures ∙ sym c.in_ok-hub.ensures.pages) refl
    c.self.invariant.least c.self.invariant.most c.in_ok-reopen.ensures.sure

pub returns-clause-stands : goal.returns-clause-stands
returns-clause-stands g c = λ told.
    let core : CoreView g.row.V.Denot = record {
      hub = c.in_ok-hub.hub;
      caches = c.in_ok-caches.caches.items;
      capacity = c.self.inside.capacity;
      unfinished = None;
      calls = c.self.inside.calls;
      vault = c.reopen.new.self;
      size = g.V.Vault.size c.reopen.new.self;
      told = told_by g.V.Vault.image g.V.Vault.version g.V.Vault.room g.V.Vault.doubt c.reopen.new.self;
    } in
    stands_new core c.in_ok-hub.ensures.sound c.in_ok-caches.ensures c.in_ok-hub.ensures.absent (c.reopen.ensures.size ∙ sym c.pages.ensures ∙ sym c.in_ok-hub.ensures.pages) refl c.args.limit
    (subst (λ pages. Shows (new_shared pages c.args.limit) c.in_ok-hub.hub) (c.pages.ensures ∙ sym c.reopen.ensures.size) c.in_ok-hub.ensures.shows) c.in_ok-hub.ensures.frames
    c.in_ok-reopen.ensures.sure
    (record { count = sym (g.met.V.Vault.sized c.reopen.new.self told); words = λ page below. g.met.V.Vault.filled c.reopen.new.self page told below })

pub returns-clause-shape : goal.returns-clause-shape
returns-clause-shape g c =
    let core : CoreView g.row.V.Denot = record {
      hub = c.in_ok-hub.hub;
      caches = c.in_ok-caches.caches.items;
      capacity = c.self.inside.capacity;
      unfinished = None;
      calls = c.self.inside.calls;
      vault = c.reopen.new.self;
      size = g.V.Vault.size c.reopen.new.self;
      told = told_by g.V.Vault.image g.V.Vault.version g.V.Vault.room g.V.Vault.doubt c.reopen.new.self;
    } in
    shape_new core c.in_ok-hub.ensures.sound c.in_ok-caches.ensures c.in_ok-hub.ensures.absent (c.reopen.ensures.size ∙ sym c.pages.ensures ∙ sym c.in_ok-hub.ensures.pages) refl c.args.limit
    (subst (λ pages. Shows (new_shared pages c.args.limit) c.in_ok-hub.hub) (c.pages.ensures ∙ sym c.reopen.ensures.size) c.in_ok-hub.ensures.shows)

pub returns-clause-found : goal.returns-clause-found
returns-clause-found g c = λ told.
    let before = told_by g.V.Vault.image g.V.Vault.version g.V.Vault.room g.V.Vault.doubt c.self.inside.vault in
    let after = told_by g.V.Vault.image g.V.Vault.version g.V.Vault.room g.V.Vault.doubt c.reopen.new.self in
    let found : IsFound before after = record {
      saved = may_be_found g.V.Vault.image g.V.Vault.version g.V.Vault.room g.V.Vault.doubt c.self.inside.vault
          (record { image = g.V.Vault.image c.reopen.new.self; version = g.V.Vault.version c.reopen.new.self })
          (λ none. g.met.V.Vault.sure_image c.self.inside.vault (record { image = g.V.Vault.image c.reopen.new.self; version = g.V.Vault.version c.reopen.new.self }) told none
          (c.in_ok-reopen.ensures.found told))
          (λ changes some. g.met.V.Vault.either_image c.self.inside.vault changes
          (record { image = g.V.Vault.image c.reopen.new.self; version = g.V.Vault.version c.reopen.new.self }) told some (c.in_ok-reopen.ensures.found told));
      sure = c.in_ok-reopen.ensures.sure;
    } in
    subst (λ (core : CoreView g.row.V.Denot). IsFound core.told after) c.self.view_is found
