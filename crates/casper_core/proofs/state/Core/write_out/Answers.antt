use Rattle.std.proofs.Common.{◌≡◌, ℕ, List, false, refl, sym, ap, ◌∙◌, subst}
use Rattle.std.specs.Prelude.{None, Some, is_some, IfSome, IsTrue}
use Rattle.std.specs.List.Sorted.{IsStrictlyIncreasing}
use Rattle.casper_space.specs.Changes.{pages_of}
use Rattle.casper_disk.specs.Disk.{KeepsImages}
use Rattle.casper_disk.specs.Vault.{IsOldOrNewImage, as_changes, version_after}
use Rattle.casper_disk.proofs.TookLemmas.{took_weaker}
use Rattle.casper_model.specs.declared.event.Event.TheVariants as event
use Rattle.casper_model.specs.State.{Unfinished}
use Rattle.casper_model.specs.WriteOutStep.{is_unfinished_of}
use Rattle.casper_hub.specs.Jobs.{sealed_in, IsJobOf}
use Rattle.casper_core.specs.CoreView.{CoreView, told_by}
use Rattle.casper_core.specs.Leaving.{Adds, IsLeftBefore, IsLeftDuring}
use Rattle.casper_core.specs.Placing.{changed}
use Rattle.casper_core.specs.Shaped.{StepsInShape}
use Rattle.casper_core.specs.Sound.{IsSound}
use Rattle.casper_core.specs.Stepping.{Steps}
use Rattle.casper_core.specs.WritingOut.{busy_in, IsCommit}
use Rattle.casper_core.proofs.Ended.{some_of, none_of}
use Rattle.casper_core.proofs.LeftLemmas.{on_err, adds_nothing, adds_standing, adds_step, left_writing}
use Rattle.casper_core.proofs.WriteOuts.{pages_alike, lead_of, client_of, job_open, sound_written, sound_unwritten, written_steps, written_made}
use Rattle.casper_core.proofs.state.Core.write_out.Given as given
use Rattle.casper_core.proofs.state.Core.write_out.Goals as goal

-- what the vault tells of it is what the core shows
abbrev Told : (g : given.Over) → CoreView g.row.V.Denot → Type 0
Told g core = core.told ≡ told_by g.V.Vault.image g.V.Vault.version g.V.Vault.room g.V.Vault.doubt core.vault

-- where nothing happened
nothing : (g : given.Over) (core : CoreView g.row.V.Denot) → IsTrue g.V.Vault.tells → Told g core
    → Adds g.V.Vault.moment g.V.Vault.images_since core.vault core.vault (IsLeftBefore core)
nothing g core tells told =
    adds_nothing g.V.Vault.tells g.V.Vault.image g.V.Vault.version g.V.Vault.room g.V.Vault.doubt g.V.Vault.images_now g.V.Vault.moment g.V.Vault.images_since
    g.met.V.Vault.sure_image g.met.V.Vault.either_image g.met.V.Vault.only_now tells core told

-- or nothing but a call of the vault that left its images
standing : (g : given.Over) (core : CoreView g.row.V.Denot) (after : g.row.V.Denot) → IsTrue g.V.Vault.tells → Told g core
    → KeepsImages (g.V.Vault.moment core.vault) (g.V.Vault.moment after) (g.V.Vault.images_since core.vault) (g.V.Vault.images_since after)
    → Adds g.V.Vault.moment g.V.Vault.images_since core.vault after (IsLeftBefore core)
standing g core after tells told stands =
    adds_standing g.V.Vault.tells g.V.Vault.image g.V.Vault.version g.V.Vault.room g.V.Vault.doubt g.V.Vault.images_now g.V.Vault.moment g.V.Vault.images_since
    g.met.V.Vault.sure_image g.met.V.Vault.either_image g.met.V.Vault.only_now tells core told after stands

pub commit-requires-clause-rising : goal.commit-requires-clause-rising
commit-requires-clause-rising g c =
    let job : IsJobOf c.self.inside.hub c.args.lead c.in-Some-2.job =
    subst (λ found. IfSome found (λ job. IsJobOf c.self.inside.hub c.args.lead job)) c.in-Some-2.is c.in_ok-job.ensures.job in
    subst (λ (changes : List (ℕ × List ℕ)). IsStrictlyIncreasing (pages_of (as_changes changes))) (sym c.changes.ensures)
    (subst IsStrictlyIncreasing (sym (pages_alike c.in-Some-2.job.changes)) job.rising)

pub invariant_of-self : goal.invariant_of-self
invariant_of-self g c =
    let core : CoreView g.row.V.Denot = record {
      hub = c.self.inside.hub;
      caches = c.self.inside.caches.items;
      capacity = c.self.inside.capacity;
      unfinished = c.self.inside.unfinished;
      calls = c.self.inside.calls;
      vault = c.self.inside.vault;
      size = g.V.Vault.size c.self.inside.vault;
      told = told_by g.V.Vault.image g.V.Vault.version g.V.Vault.room g.V.Vault.doubt c.self.inside.vault;
    } in
    let sound : IsSound core = c.self.invariant in
    let told = told_by g.V.Vault.image g.V.Vault.version g.V.Vault.room g.V.Vault.doubt c.commit.new.vault in
    let one = some_of (sealed_in core.hub c.args.lead) (sym c.in_ok-job.ensures.sealed ∙ ap is_some c.in-Some-2.is) in
    sound_unwritten core sound c.args.lead one.0 one.1 c.commit.new.vault (g.V.Vault.size c.commit.new.vault) told c.in_err-outcome.ensures.vault.same_size c.in_err-outcome.ensures.sure

pub returns-in_err-outcome-clause-sound : goal.returns-in_err-outcome-clause-sound
returns-in_err-outcome-clause-sound g c =
    let core : CoreView g.row.V.Denot = record {
      hub = c.self.inside.hub;
      caches = c.self.inside.caches.items;
      capacity = c.self.inside.capacity;
      unfinished = c.self.inside.unfinished;
      calls = c.self.inside.calls;
      vault = c.self.inside.vault;
      size = g.V.Vault.size c.self.inside.vault;
      told = told_by g.V.Vault.image g.V.Vault.version g.V.Vault.room g.V.Vault.doubt c.self.inside.vault;
    } in
    let sound : IsSound core = c.self.invariant in
    let told = told_by g.V.Vault.image g.V.Vault.version g.V.Vault.room g.V.Vault.doubt c.commit.new.vault in
    let one = some_of (sealed_in core.hub c.args.lead) (sym c.in_ok-job.ensures.sealed ∙ ap is_some c.in-Some-2.is) in
    sound_unwritten core sound c.args.lead one.0 one.1 c.commit.new.vault (g.V.Vault.size c.commit.new.vault) told c.in_err-outcome.ensures.vault.same_size c.in_err-outcome.ensures.sure

pub invariant_of-self-2 : goal.invariant_of-self-2
invariant_of-self-2 g c =
    let core : CoreView g.row.V.Denot = record {
      hub = c.self.inside.hub;
      caches = c.self.inside.caches.items;
      capacity = c.self.inside.capacity;
      unfinished = c.self.inside.unfinished;
      calls = c.self.inside.calls;
      vault = c.self.inside.vault;
      size = g.V.Vault.size c.self.inside.vault;
      told = told_by g.V.Vault.image g.V.Vault.version g.V.Vault.room g.V.Vault.doubt c.self.inside.vault;
    } in
    let sound : IsSound core = c.self.invariant in
    let told = told_by g.V.Vault.image g.V.Vault.version g.V.Vault.room g.V.Vault.doubt c.commit.new.vault in
    let one = some_of (sealed_in core.hub c.args.lead) (sym c.in_ok-job.ensures.sealed ∙ ap is_some c.in-Some-2.is) in
    let how = c.in_ok-outcome.outcome in
    let free : busy_in core ≡ None = none_of (busy_in core) c.busy.result (ap busy_in c.self.view_is ∙ sym c.busy.ensures) c.in_default.not-Some in
    let ready : is_unfinished_of c.args.lead core.unfinished ≡ false =
    ap (λ (other : CoreView g.row.V.Denot). is_unfinished_of c.args.lead other.unfinished) c.self.view_is ∙ sym c.is_unfinished.ensures.unfinished ∙ c.if-is_unfinished.false in
    let client = client_of core sound c.args.lead one.0 one.1 in
    let lead = lead_of core sound c.args.lead one.0 one.1 in
    let job = job_open core sound c.args.lead one.0 one.1 ready in
    let ending : Unfinished = record { lead = c.args.lead; outcome = how } in
    let after = changed core core.hub (Some ending) c.commit.new.vault (g.V.Vault.size c.commit.new.vault) told in
    sound_written core sound c.args.lead one.0 one.1 c.commit.new.vault (g.V.Vault.size c.commit.new.vault) told c.in_ok-outcome.ensures.vault.same_size how free c.in_ok-outcome.ensures.doubt

pub returns-clause-sound : goal.returns-clause-sound
returns-clause-sound g c =
    let core : CoreView g.row.V.Denot = record {
      hub = c.self.inside.hub;
      caches = c.self.inside.caches.items;
      capacity = c.self.inside.capacity;
      unfinished = c.self.inside.unfinished;
      calls = c.self.inside.calls;
      vault = c.self.inside.vault;
      size = g.V.Vault.size c.self.inside.vault;
      told = told_by g.V.Vault.image g.V.Vault.version g.V.Vault.room g.V.Vault.doubt c.self.inside.vault;
    } in
    let sound : IsSound core = c.self.invariant in
    let told = told_by g.V.Vault.image g.V.Vault.version g.V.Vault.room g.V.Vault.doubt c.commit.new.vault in
    let one = some_of (sealed_in core.hub c.args.lead) (sym c.in_ok-job.ensures.sealed ∙ ap is_some c.in-Some-2.is) in
    let how = c.in_ok-outcome.outcome in
    let free : busy_in core ≡ None = none_of (busy_in core) c.busy.result (ap busy_in c.self.view_is ∙ sym c.busy.ensures) c.in_default.not-Some in
    let ready : is_unfinished_of c.args.lead core.unfinished ≡ false =
    ap (λ (other : CoreView g.row.V.Denot). is_unfinished_of c.args.lead other.unfinished) c.self.view_is ∙ sym c.is_unfinished.ensures.unfinished ∙ c.if-is_unfinished.false in
    let client = client_of core sound c.args.lead one.0 one.1 in
    let lead = lead_of core sound c.args.lead one.0 one.1 in
    let job = job_open core sound c.args.lead one.0 one.1 ready in
    let ending : Unfinished = record { lead = c.args.lead; outcome = how } in
    let after = changed core core.hub (Some ending) c.commit.new.vault (g.V.Vault.size c.commit.new.vault) told in
    sound_written core sound c.args.lead one.0 one.1 c.commit.new.vault (g.V.Vault.size c.commit.new.vault) told c.in_ok-outcome.ensures.vault.same_size how free c.in_ok-outcome.ensures.doubt

pub returns-clause-shape : goal.returns-clause-shape
returns-clause-shape g c =
    let core : CoreView g.row.V.Denot = record {
      hub = c.self.inside.hub;
      caches = c.self.inside.caches.items;
      capacity = c.self.inside.capacity;
      unfinished = c.self.inside.unfinished;
      calls = c.self.inside.calls;
      vault = c.self.inside.vault;
      size = g.V.Vault.size c.self.inside.vault;
      told = told_by g.V.Vault.image g.V.Vault.version g.V.Vault.room g.V.Vault.doubt c.self.inside.vault;
    } in
    let sound : IsSound core = c.self.invariant in
    let told = told_by g.V.Vault.image g.V.Vault.version g.V.Vault.room g.V.Vault.doubt c.commit.new.vault in
    let one = some_of (sealed_in core.hub c.args.lead) (sym c.in_ok-job.ensures.sealed ∙ ap is_some c.in-Some-2.is) in
    let how = c.in_ok-outcome.outcome in
    let free : busy_in core ≡ None = none_of (busy_in core) c.busy.result (ap busy_in c.self.view_is ∙ sym c.busy.ensures) c.in_default.not-Some in
    let ready : is_unfinished_of c.args.lead core.unfinished ≡ false =
    ap (λ (other : CoreView g.row.V.Denot). is_unfinished_of c.args.lead other.unfinished) c.self.view_is ∙ sym c.is_unfinished.ensures.unfinished ∙ c.if-is_unfinished.false in
    let client = client_of core sound c.args.lead one.0 one.1 in
    let lead = lead_of core sound c.args.lead one.0 one.1 in
    let job = job_open core sound c.args.lead one.0 one.1 ready in
    let ending : Unfinished = record { lead = c.args.lead; outcome = how } in
    let after = changed core core.hub (Some ending) c.commit.new.vault (g.V.Vault.size c.commit.new.vault) told in
    subst (λ from. StepsInShape (event.WriteOut c.args.lead) c.answer_of_write_out.result from after) c.self.view_is
    (subst (λ said. StepsInShape (event.WriteOut c.args.lead) said core after) (sym c.answer_of_write_out.ensures)
    (written_made core c.args.lead client sound one.0 job free how c.commit.new.vault (g.V.Vault.size c.commit.new.vault) told lead))

pub returns-clause-step : goal.returns-clause-step
returns-clause-step g c = λ tells.
    let core : CoreView g.row.V.Denot = record {
      hub = c.self.inside.hub;
      caches = c.self.inside.caches.items;
      capacity = c.self.inside.capacity;
      unfinished = c.self.inside.unfinished;
      calls = c.self.inside.calls;
      vault = c.self.inside.vault;
      size = g.V.Vault.size c.self.inside.vault;
      told = told_by g.V.Vault.image g.V.Vault.version g.V.Vault.room g.V.Vault.doubt c.self.inside.vault;
    } in
    let sound : IsSound core = c.self.invariant in
    let told = told_by g.V.Vault.image g.V.Vault.version g.V.Vault.room g.V.Vault.doubt c.commit.new.vault in
    let one = some_of (sealed_in core.hub c.args.lead) (sym c.in_ok-job.ensures.sealed ∙ ap is_some c.in-Some-2.is) in
    let how = c.in_ok-outcome.outcome in
    let free : busy_in core ≡ None = none_of (busy_in core) c.busy.result (ap busy_in c.self.view_is ∙ sym c.busy.ensures) c.in_default.not-Some in
    let ready : is_unfinished_of c.args.lead core.unfinished ≡ false =
    ap (λ (other : CoreView g.row.V.Denot). is_unfinished_of c.args.lead other.unfinished) c.self.view_is ∙ sym c.is_unfinished.ensures.unfinished ∙ c.if-is_unfinished.false in
    let client = client_of core sound c.args.lead one.0 one.1 in
    let lead = lead_of core sound c.args.lead one.0 one.1 in
    let job = job_open core sound c.args.lead one.0 one.1 ready in
    let ending : Unfinished = record { lead = c.args.lead; outcome = how } in
    let after = changed core core.hub (Some ending) c.commit.new.vault (g.V.Vault.size c.commit.new.vault) told in
    let is_job : IsJobOf core.hub c.args.lead c.in-Some-2.job =
    subst (λ found. IfSome found (λ job. IsJobOf core.hub c.args.lead job)) c.in-Some-2.is c.in_ok-job.ensures.job in
    let commits : IsCommit core.told (as_changes c.in-Some-2.job.changes) how told =
    subst (λ (changes : List (ℕ × List ℕ)). IsCommit core.told (as_changes changes) how told) c.changes.ensures (c.in_ok-outcome.ensures.commits tells) in
    subst (λ from. Steps (event.WriteOut c.args.lead) c.answer_of_write_out.result from after) c.self.view_is
    (subst (λ said. Steps (event.WriteOut c.args.lead) said core after) (sym c.answer_of_write_out.ensures)
    (written_steps core c.args.lead client sound one.0 job free how c.commit.new.vault (g.V.Vault.size c.commit.new.vault) told lead c.in-Some-2.job is_job commits))

pub returns-then-is_unfinished-clause-images : goal.returns-then-is_unfinished-clause-images
returns-then-is_unfinished-clause-images g c = λ tells.
    adds_step g.V.Vault.moment g.V.Vault.images_since (event.WriteOut c.args.lead) c.args.self.now c.args.self.now.vault
    (nothing g c.args.self.now tells (subst (Told g) c.self.view_is refl))

pub returns-in-Some-clause-images : goal.returns-in-Some-clause-images
returns-in-Some-clause-images g c = λ tells.
    adds_step g.V.Vault.moment g.V.Vault.images_since (event.WriteOut c.args.lead) c.args.self.now c.args.self.now.vault
    (nothing g c.args.self.now tells (subst (Told g) c.self.view_is refl))

pub returns-in_default-2-clause-images : goal.returns-in_default-2-clause-images
returns-in_default-2-clause-images g c = λ tells.
    adds_step g.V.Vault.moment g.V.Vault.images_since (event.WriteOut c.args.lead) c.args.self.now c.args.self.now.vault
    (nothing g c.args.self.now tells (subst (Told g) c.self.view_is refl))

pub returns-in_err-job-clause-images : goal.returns-in_err-job-clause-images
returns-in_err-job-clause-images g c = λ tells.
    adds_step g.V.Vault.moment g.V.Vault.images_since (event.WriteOut c.args.lead) c.args.self.now c.args.self.now.vault
    (nothing g c.args.self.now tells (subst (Told g) c.self.view_is refl))

pub returns-clause-images : goal.returns-clause-images
returns-clause-images g c = λ tells.
    let core : CoreView g.row.V.Denot = record {
      hub = c.self.inside.hub;
      caches = c.self.inside.caches.items;
      capacity = c.self.inside.capacity;
      unfinished = c.self.inside.unfinished;
      calls = c.self.inside.calls;
      vault = c.self.inside.vault;
      size = g.V.Vault.size c.self.inside.vault;
      told = told_by g.V.Vault.image g.V.Vault.version g.V.Vault.room g.V.Vault.doubt c.self.inside.vault;
    } in
    let sound : IsSound core = c.self.invariant in
    let told = told_by g.V.Vault.image g.V.Vault.version g.V.Vault.room g.V.Vault.doubt c.commit.new.vault in
    let one = some_of (sealed_in core.hub c.args.lead) (sym c.in_ok-job.ensures.sealed ∙ ap is_some c.in-Some-2.is) in
    let how = c.in_ok-outcome.outcome in
    let free : busy_in core ≡ None = none_of (busy_in core) c.busy.result (ap busy_in c.self.view_is ∙ sym c.busy.ensures) c.in_default.not-Some in
    let ready : is_unfinished_of c.args.lead core.unfinished ≡ false =
    ap (λ (other : CoreView g.row.V.Denot). is_unfinished_of c.args.lead other.unfinished) c.self.view_is ∙ sym c.is_unfinished.ensures.unfinished ∙ c.if-is_unfinished.false in
    let client = client_of core sound c.args.lead one.0 one.1 in
    let lead = lead_of core sound c.args.lead one.0 one.1 in
    let job = job_open core sound c.args.lead one.0 one.1 ready in
    let is_job : IsJobOf core.hub c.args.lead c.in-Some-2.job =
    subst (λ found. IfSome found (λ job. IsJobOf core.hub c.args.lead job)) c.in-Some-2.is c.in_ok-job.ensures.job in
    let commits : IsCommit core.told (as_changes c.in-Some-2.job.changes) how told =
    subst (λ (changes : List (ℕ × List ℕ)). IsCommit core.told (as_changes changes) how told) c.changes.ensures (c.in_ok-outcome.ensures.commits tells) in
    subst (λ (from : CoreView g.row.V.Denot). Adds g.V.Vault.moment g.V.Vault.images_since from.vault c.commit.new.vault (IsLeftDuring (event.WriteOut c.args.lead) from)) c.self.view_is
    (took_weaker (g.V.Vault.moment core.vault) (g.V.Vault.moment c.commit.new.vault) (g.V.Vault.images_since core.vault) (g.V.Vault.images_since c.commit.new.vault)
    (IsOldOrNewImage core.told.image core.told.version (as_changes c.in-Some-2.job.changes) (version_after (as_changes c.in-Some-2.job.changes) core.told.version))
    (IsLeftDuring (event.WriteOut c.args.lead) core)
    (λ saved. left_writing core c.args.lead client sound one.0 job free how c.commit.new.vault (g.V.Vault.size c.commit.new.vault) told lead c.in-Some-2.job is_job commits
    (version_after (as_changes c.in-Some-2.job.changes) core.told.version) saved)
    (subst (λ (changes : List (ℕ × List ℕ)). Adds g.V.Vault.moment g.V.Vault.images_since core.vault c.commit.new.vault
    (IsOldOrNewImage core.told.image core.told.version (as_changes changes) (version_after (as_changes changes) core.told.version))) c.changes.ensures (c.in_ok-outcome.ensures.images tells)))

pub returns-in_err-job-clause-images_stand : goal.returns-in_err-job-clause-images_stand
returns-in_err-job-clause-images_stand g c = λ tells.
    on_err c.from_residual.result (Adds g.V.Vault.moment g.V.Vault.images_since c.args.self.now.vault c.args.self.now.vault (IsLeftBefore c.args.self.now))
    (nothing g c.args.self.now tells (subst (Told g) c.self.view_is refl))

pub returns-in_err-outcome-clause-images_stand : goal.returns-in_err-outcome-clause-images_stand
returns-in_err-outcome-clause-images_stand g c = λ tells.
    let core : CoreView g.row.V.Denot = record {
      hub = c.self.inside.hub;
      caches = c.self.inside.caches.items;
      capacity = c.self.inside.capacity;
      unfinished = c.self.inside.unfinished;
      calls = c.self.inside.calls;
      vault = c.self.inside.vault;
      size = g.V.Vault.size c.self.inside.vault;
      told = told_by g.V.Vault.image g.V.Vault.version g.V.Vault.room g.V.Vault.doubt c.self.inside.vault;
    } in
    on_err c.from_residual-in_err-outcome.result (Adds g.V.Vault.moment g.V.Vault.images_since c.args.self.now.vault c.commit.new.vault (IsLeftBefore c.args.self.now))
    (subst (λ (from : CoreView g.row.V.Denot). Adds g.V.Vault.moment g.V.Vault.images_since from.vault c.commit.new.vault (IsLeftBefore from)) c.self.view_is
    (standing g core c.commit.new.vault tells refl (c.in_err-outcome.ensures.images_stand tells)))

pub returns-in_err-outcome-clause-images : goal.returns-in_err-outcome-clause-images
returns-in_err-outcome-clause-images g c = λ tells.
    let core : CoreView g.row.V.Denot = record {
      hub = c.self.inside.hub;
      caches = c.self.inside.caches.items;
      capacity = c.self.inside.capacity;
      unfinished = c.self.inside.unfinished;
      calls = c.self.inside.calls;
      vault = c.self.inside.vault;
      size = g.V.Vault.size c.self.inside.vault;
      told = told_by g.V.Vault.image g.V.Vault.version g.V.Vault.room g.V.Vault.doubt c.self.inside.vault;
    } in
    subst (λ (from : CoreView g.row.V.Denot). Adds g.V.Vault.moment g.V.Vault.images_since from.vault c.commit.new.vault (IsLeftDuring (event.WriteOut c.args.lead) from)) c.self.view_is
    (adds_step g.V.Vault.moment g.V.Vault.images_since (event.WriteOut c.args.lead) core c.commit.new.vault
    (standing g core c.commit.new.vault tells refl (c.in_err-outcome.ensures.images_stand tells)))
