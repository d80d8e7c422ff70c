use Rattle.std.proofs.Common.{◌≡◌, true, true≢false, refl, sym, ap, ◌∙◌, subst}
use Rattle.std.specs.Prelude.{None, is_some}
use Rattle.std.proofs.lemmas.Option.{none-some}
use Rattle.casper_space.specs.Changes.{with_changes}
use Rattle.casper_disk.specs.Vault.{IsOldOrNewImage, changes_in, version_settled, room_settled}
use Rattle.casper_disk.proofs.TookLemmas.{took_weaker}
use Rattle.casper_model.specs.declared.event.Event.TheVariants as event
use Rattle.casper_model.specs.Stabilisation.{Stabilisation}
use Rattle.casper_hub.specs.Committing.{doubtful_in}
use Rattle.casper_hub.proofs.Relying.{kept_itself}
use Rattle.casper_core.specs.CoreView.{CoreView, told_by}
use Rattle.casper_core.specs.Leaving.{Adds, IsLeftBefore}
use Rattle.casper_core.specs.Placing.{changed}
use Rattle.casper_core.specs.Shaped.{StepsInShape}
use Rattle.casper_core.specs.Sound.{IsSound}
use Rattle.casper_core.specs.Stepping.{Steps}
use Rattle.casper_core.proofs.Changes.{sound_changed}
use Rattle.casper_core.proofs.Commits.{settle_made as settles_so}
use Rattle.casper_core.proofs.Ended.{of_err, of_no_err, some_of, mapped_some}
use Rattle.casper_core.proofs.Finishes.{settle_steps, settle_made}
use Rattle.casper_core.proofs.LeftLemmas.{adds_nothing, left_settling}
use Rattle.casper_core.proofs.state.Core.settle.Goals as goal

pub invariant_of-self : goal.invariant_of-self
invariant_of-self g c =
    let core : CoreView g.row.V.Denot = record {
      hub = c.self.inside.hub;
      caches = c.self.inside.caches.items;
      capacity = c.self.inside.capacity;
      unfinished = c.self.inside.unfinished;
      calls = c.self.inside.calls;
      vault = c.self.inside.vault;
      size = g.V.Vault.size c.self.inside.vault;
      told = told_by g.V.Vault.image g.V.Vault.version g.V.Vault.room g.V.Vault.doubt c.self.inside.vault;
    } in
    let sound : IsSound core = c.self.invariant in
    let told = told_by g.V.Vault.image g.V.Vault.version g.V.Vault.room g.V.Vault.doubt c.settle.new.self in
    let settled = c.settle.ensures in
    let doubted = of_err c.settle.result (is_some core.told.doubt ≡ true) (sym c.is_err.ensures.value ∙ c.if-is_err.true) settled.in_doubt in
    sound_changed core sound core.hub (λ who. kept_itself who core.hub) core.unfinished c.settle.new.self (g.V.Vault.size c.settle.new.self) told sound.hub settled.size sound.written sound.alone
    (λ still. sound.doubtful doubted)

pub returns-then-is_err-clause-sound : goal.returns-then-is_err-clause-sound
returns-then-is_err-clause-sound g c =
    let core : CoreView g.row.V.Denot = record {
      hub = c.self.inside.hub;
      caches = c.self.inside.caches.items;
      capacity = c.self.inside.capacity;
      unfinished = c.self.inside.unfinished;
      calls = c.self.inside.calls;
      vault = c.self.inside.vault;
      size = g.V.Vault.size c.self.inside.vault;
      told = told_by g.V.Vault.image g.V.Vault.version g.V.Vault.room g.V.Vault.doubt c.self.inside.vault;
    } in
    let sound : IsSound core = c.self.invariant in
    let told = told_by g.V.Vault.image g.V.Vault.version g.V.Vault.room g.V.Vault.doubt c.settle.new.self in
    let settled = c.settle.ensures in
    let doubted = of_err c.settle.result (is_some core.told.doubt ≡ true) (sym c.is_err.ensures.value ∙ c.if-is_err.true) settled.in_doubt in
    sound_changed core sound core.hub (λ who. kept_itself who core.hub) core.unfinished c.settle.new.self (g.V.Vault.size c.settle.new.self) told sound.hub settled.size sound.written sound.alone
    (λ still. sound.doubtful doubted)

pub invariant_of-self-2 : goal.invariant_of-self-2
invariant_of-self-2 g c =
    let core : CoreView g.row.V.Denot = record {
      hub = c.self.inside.hub;
      caches = c.self.inside.caches.items;
      capacity = c.self.inside.capacity;
      unfinished = c.self.inside.unfinished;
      calls = c.self.inside.calls;
      vault = c.self.inside.vault;
      size = g.V.Vault.size c.self.inside.vault;
      told = told_by g.V.Vault.image g.V.Vault.version g.V.Vault.room g.V.Vault.doubt c.self.inside.vault;
    } in
    let sound : IsSound core = c.self.invariant in
    let told = told_by g.V.Vault.image g.V.Vault.version g.V.Vault.room g.V.Vault.doubt c.settle.new.self in
    let some = some_of (doubtful_in core.hub) (sym (mapped_some (λ (one : Stabilisation). one.lead) (doubtful_in core.hub)) ∙ ap is_some (sym c.doubtful.ensures) ∙ c.if-is_none.ensures) in
    let settled = c.settle.ensures in
    let no_err = sym c.is_err.ensures.value ∙ c.if-is_err.false in
    sound_changed core sound c.settled.new.self c.settled.ensures.others core.unfinished c.settle.new.self (g.V.Vault.size c.settle.new.self) told c.settled.ensures.sound settled.size
    (λ one is. absurd (none-some some.0 (sym (sound.alone one is) ∙ some.1))) (λ one is. absurd (none-some some.0 (sym (sound.alone one is) ∙ some.1)))
    (λ doubted. absurd (true≢false (sym doubted ∙ ap is_some (of_no_err c.settle.result (told.doubt ≡ None) no_err settled.sure))))

pub returns-clause-sound : goal.returns-clause-sound
returns-clause-sound g c =
    let core : CoreView g.row.V.Denot = record {
      hub = c.self.inside.hub;
      caches = c.self.inside.caches.items;
      capacity = c.self.inside.capacity;
      unfinished = c.self.inside.unfinished;
      calls = c.self.inside.calls;
      vault = c.self.inside.vault;
      size = g.V.Vault.size c.self.inside.vault;
      told = told_by g.V.Vault.image g.V.Vault.version g.V.Vault.room g.V.Vault.doubt c.self.inside.vault;
    } in
    let sound : IsSound core = c.self.invariant in
    let told = told_by g.V.Vault.image g.V.Vault.version g.V.Vault.room g.V.Vault.doubt c.settle.new.self in
    let some = some_of (doubtful_in core.hub) (sym (mapped_some (λ (one : Stabilisation). one.lead) (doubtful_in core.hub)) ∙ ap is_some (sym c.doubtful.ensures) ∙ c.if-is_none.ensures) in
    let settled = c.settle.ensures in
    let no_err = sym c.is_err.ensures.value ∙ c.if-is_err.false in
    sound_changed core sound c.settled.new.self c.settled.ensures.others core.unfinished c.settle.new.self (g.V.Vault.size c.settle.new.self) told c.settled.ensures.sound settled.size
    (λ one is. absurd (none-some some.0 (sym (sound.alone one is) ∙ some.1))) (λ one is. absurd (none-some some.0 (sym (sound.alone one is) ∙ some.1)))
    (λ doubted. absurd (true≢false (sym doubted ∙ ap is_some (of_no_err c.settle.result (told.doubt ≡ None) no_err settled.sure))))

pub returns-clause-shape : goal.returns-clause-shape
returns-clause-shape g c =
    let core : CoreView g.row.V.Denot = record {
      hub = c.self.inside.hub;
      caches = c.self.inside.caches.items;
      capacity = c.self.inside.capacity;
      unfinished = c.self.inside.unfinished;
      calls = c.self.inside.calls;
      vault = c.self.inside.vault;
      size = g.V.Vault.size c.self.inside.vault;
      told = told_by g.V.Vault.image g.V.Vault.version g.V.Vault.room g.V.Vault.doubt c.self.inside.vault;
    } in
    let sound : IsSound core = c.self.invariant in
    let told = told_by g.V.Vault.image g.V.Vault.version g.V.Vault.room g.V.Vault.doubt c.settle.new.self in
    let some = some_of (doubtful_in core.hub) (sym (mapped_some (λ (one : Stabilisation). one.lead) (doubtful_in core.hub)) ∙ ap is_some (sym c.doubtful.ensures) ∙ c.if-is_none.ensures) in
    let settled = c.settle.ensures in
    let no_err = sym c.is_err.ensures.value ∙ c.if-is_err.false in
    let after = changed core c.settled.new.self core.unfinished c.settle.new.self (g.V.Vault.size c.settle.new.self) told in
    subst (λ one. StepsInShape event.Settle c.answer_of_settled.result one after) c.self.view_is
    (subst (λ said. StepsInShape event.Settle said core after) (sym c.answer_of_settled.ensures)
    (settle_made core sound some.0 some.1 c.settled.new.self c.settled.ensures.others c.settled.result c.settled.ensures.turn c.settle.new.self (g.V.Vault.size c.settle.new.self) told))

pub returns-clause-step : goal.returns-clause-step
returns-clause-step g c = λ tells.
    let core : CoreView g.row.V.Denot = record {
      hub = c.self.inside.hub;
      caches = c.self.inside.caches.items;
      capacity = c.self.inside.capacity;
      unfinished = c.self.inside.unfinished;
      calls = c.self.inside.calls;
      vault = c.self.inside.vault;
      size = g.V.Vault.size c.self.inside.vault;
      told = told_by g.V.Vault.image g.V.Vault.version g.V.Vault.room g.V.Vault.doubt c.self.inside.vault;
    } in
    let sound : IsSound core = c.self.invariant in
    let told = told_by g.V.Vault.image g.V.Vault.version g.V.Vault.room g.V.Vault.doubt c.settle.new.self in
    let some = some_of (doubtful_in core.hub) (sym (mapped_some (λ (one : Stabilisation). one.lead) (doubtful_in core.hub)) ∙ ap is_some (sym c.doubtful.ensures) ∙ c.if-is_none.ensures) in
    let settled = c.settle.ensures in
    let no_err = sym c.is_err.ensures.value ∙ c.if-is_err.false in
    let after = changed core c.settled.new.self core.unfinished c.settle.new.self (g.V.Vault.size c.settle.new.self) told in
    let settles = settles_so core.told told (record {
      version = of_no_err c.settle.result (told.version ≡ version_settled core.told.doubt core.told.version) no_err settled.version;
      image = of_no_err c.settle.result (told.image ≡ with_changes core.told.image (changes_in core.told.doubt)) no_err (settled.image tells);
      room = of_no_err c.settle.result (told.room ≡ room_settled core.told.doubt core.told.room) no_err (settled.room tells);
      doubt = of_no_err c.settle.result (told.doubt ≡ None) no_err settled.sure;
    }) in
    subst (λ one. Steps event.Settle c.answer_of_settled.result one after) c.self.view_is
    (subst (λ said. Steps event.Settle said core after) (sym c.answer_of_settled.ensures)
    (settle_steps core sound some.0 some.1 c.settled.new.self c.settled.ensures.others c.settled.result c.settled.ensures.turn c.settle.new.self (g.V.Vault.size c.settle.new.self) told settles
    c.settled.ensures.frames))

pub returns-then-is_err-clause-images : goal.returns-then-is_err-clause-images
returns-then-is_err-clause-images g c = λ tells.
    let core : CoreView g.row.V.Denot = record {
      hub = c.self.inside.hub;
      caches = c.self.inside.caches.items;
      capacity = c.self.inside.capacity;
      unfinished = c.self.inside.unfinished;
      calls = c.self.inside.calls;
      vault = c.self.inside.vault;
      size = g.V.Vault.size c.self.inside.vault;
      told = told_by g.V.Vault.image g.V.Vault.version g.V.Vault.room g.V.Vault.doubt c.self.inside.vault;
    } in
    subst (λ (from : CoreView g.row.V.Denot). Adds g.V.Vault.moment g.V.Vault.images_since from.vault c.settle.new.self (IsLeftBefore from)) c.self.view_is
    (took_weaker (g.V.Vault.moment core.vault) (g.V.Vault.moment c.settle.new.self) (g.V.Vault.images_since core.vault) (g.V.Vault.images_since c.settle.new.self)
    (IsOldOrNewImage core.told.image core.told.version (changes_in core.told.doubt) (version_settled core.told.doubt core.told.version)) (IsLeftBefore core) (left_settling core)
    (c.settle.ensures.images tells))

pub returns-clause-images : goal.returns-clause-images
returns-clause-images g c = λ tells.
    let core : CoreView g.row.V.Denot = record {
      hub = c.self.inside.hub;
      caches = c.self.inside.caches.items;
      capacity = c.self.inside.capacity;
      unfinished = c.self.inside.unfinished;
      calls = c.self.inside.calls;
      vault = c.self.inside.vault;
      size = g.V.Vault.size c.self.inside.vault;
      told = told_by g.V.Vault.image g.V.Vault.version g.V.Vault.room g.V.Vault.doubt c.self.inside.vault;
    } in
    subst (λ (from : CoreView g.row.V.Denot). Adds g.V.Vault.moment g.V.Vault.images_since from.vault c.settle.new.self (IsLeftBefore from)) c.self.view_is
    (took_weaker (g.V.Vault.moment core.vault) (g.V.Vault.moment c.settle.new.self) (g.V.Vault.images_since core.vault) (g.V.Vault.images_since c.settle.new.self)
    (IsOldOrNewImage core.told.image core.told.version (changes_in core.told.doubt) (version_settled core.told.doubt core.told.version)) (IsLeftBefore core) (left_settling core)
    (c.settle.ensures.images tells))

pub returns-then-is_none-clause-images : goal.returns-then-is_none-clause-images
returns-then-is_none-clause-images g c = λ tells.
    adds_nothing g.V.Vault.tells g.V.Vault.image g.V.Vault.version g.V.Vault.room g.V.Vault.doubt g.V.Vault.images_now g.V.Vault.moment g.V.Vault.images_since
    g.met.V.Vault.sure_image g.met.V.Vault.either_image g.met.V.Vault.only_now tells c.args.self.now
    (subst (λ (core : CoreView g.row.V.Denot). core.told ≡ told_by g.V.Vault.image g.V.Vault.version g.V.Vault.room g.V.Vault.doubt core.vault) c.self.view_is refl)
