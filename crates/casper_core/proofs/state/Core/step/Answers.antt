use Rattle.std.proofs.Common.{◌≡◌, sym, subst}
use Rattle.std.specs.Prelude.{IsTrue}
use Rattle.casper_model.specs.declared.event.Event.{Event}
use Rattle.casper_model.specs.Growth.{StepAdds}
use Rattle.casper_words.specs.Count.{FaultCountRose}
use Rattle.casper_core.specs.CoreView.{CoreView, told_by}
use Rattle.casper_core.specs.Leaving.{Adds, IsLeftBefore, IsLeftDuring, IfWriting}
use Rattle.casper_core.specs.Loading.{OnlyReads}
use Rattle.casper_core.specs.Shaped.{IsMade}
use Rattle.casper_core.specs.Sound.{IsSound}
use Rattle.casper_core.specs.Stepping.{IsAnswered, IsReadOnly}
use Rattle.casper_core.proofs.DecidedTurns.{decides, faulted}
use Rattle.casper_core.proofs.LeftLemmas.{on_err, adds_during, adds_unmade}
use Rattle.casper_core.proofs.StepParts.{legal_of, unheld_of, adds_of, sound_counted, answered_counted, made_counted}
use Rattle.casper_core.proofs.state.Core.step.Given as given
use Rattle.casper_core.proofs.state.Core.step.Goals as goal

-- what a step adds to what a stop leaves, by what its vault was used for
during : (g : given.Over) (one : Event) (core : CoreView g.row.V.Denot) (after : g.row.V.Denot) → IsTrue g.V.Vault.tells
    → core.told ≡ told_by g.V.Vault.image g.V.Vault.version g.V.Vault.room g.V.Vault.doubt core.vault
    → (IsReadOnly one → OnlyReads g.V.Vault.tells g.V.Vault.size g.V.Vault.image g.V.Vault.version g.V.Vault.room g.V.Vault.doubt g.V.Vault.images_now g.V.Vault.moment g.V.Vault.images_since g.V.Vault.faults g.V.Vault.leads_to core.vault after)
    → IfWriting one (Adds g.V.Vault.moment g.V.Vault.images_since core.vault after (IsLeftDuring one core))
    → Adds g.V.Vault.moment g.V.Vault.images_since core.vault after (IsLeftDuring one core)
during g one core after tells told reads writes =
    adds_during g.V.Vault.tells g.V.Vault.image g.V.Vault.version g.V.Vault.room g.V.Vault.doubt g.V.Vault.images_now g.V.Vault.moment g.V.Vault.images_since
    g.met.V.Vault.sure_image g.met.V.Vault.either_image g.met.V.Vault.only_now tells core told one after (λ quiet. (reads quiet).images tells) writes

-- and one that was not made
unmade : (g : given.Over) (one : Event) (core : CoreView g.row.V.Denot) (after : g.row.V.Denot) → IsTrue g.V.Vault.tells
    → core.told ≡ told_by g.V.Vault.image g.V.Vault.version g.V.Vault.room g.V.Vault.doubt core.vault
    → (IsReadOnly one → OnlyReads g.V.Vault.tells g.V.Vault.size g.V.Vault.image g.V.Vault.version g.V.Vault.room g.V.Vault.doubt g.V.Vault.images_now g.V.Vault.moment g.V.Vault.images_since g.V.Vault.faults g.V.Vault.leads_to core.vault after)
    → IfWriting one (Adds g.V.Vault.moment g.V.Vault.images_since core.vault after (IsLeftBefore core))
    → Adds g.V.Vault.moment g.V.Vault.images_since core.vault after (IsLeftBefore core)
unmade g one core after tells told reads writes =
    adds_unmade g.V.Vault.tells g.V.Vault.image g.V.Vault.version g.V.Vault.room g.V.Vault.doubt g.V.Vault.images_now g.V.Vault.moment g.V.Vault.images_since
    g.met.V.Vault.sure_image g.met.V.Vault.either_image g.met.V.Vault.only_now tells core told one after (λ quiet. (reads quiet).images tells) writes

pub returns-in_err-answer-clause-legal : goal.returns-in_err-answer-clause-legal
returns-in_err-answer-clause-legal g c = λ state stands. legal_of state c.carry_out.new.self stands

pub returns-then-not-is_call_made-clause-legal : goal.returns-then-not-is_call_made-clause-legal
returns-then-not-is_call_made-clause-legal g c = λ state stands. legal_of state c.carry_out.new.self stands

pub invariant_of-self : goal.invariant_of-self
invariant_of-self g c =
    let core : CoreView g.row.V.Denot = record {
      hub = c.self.inside.hub;
      caches = c.self.inside.caches.items;
      capacity = c.self.inside.capacity;
      unfinished = c.self.inside.unfinished;
      calls = c.self.inside.calls;
      vault = c.self.inside.vault;
      size = g.V.Vault.size c.self.inside.vault;
      told = told_by g.V.Vault.image g.V.Vault.version g.V.Vault.room g.V.Vault.doubt c.self.inside.vault;
    } in
    let sound : IsSound core = c.self.invariant in
    sound_counted core c.saturating_add-self-inside.result sound

pub returns-clause-step : goal.returns-clause-step
returns-clause-step g c = λ told state stands.
    let core : CoreView g.row.V.Denot = record {
      hub = c.self.inside.hub;
      caches = c.self.inside.caches.items;
      capacity = c.self.inside.capacity;
      unfinished = c.self.inside.unfinished;
      calls = c.self.inside.calls;
      vault = c.self.inside.vault;
      size = g.V.Vault.size c.self.inside.vault;
      told = told_by g.V.Vault.image g.V.Vault.version g.V.Vault.room g.V.Vault.doubt c.self.inside.vault;
    } in
    answered_counted state c.args.event.now c.in_ok-answer.answer core c.saturating_add-self-inside.result
    (subst (IsAnswered state c.args.event.now c.in_ok-answer.answer) (sym c.self.view_is) (c.in_ok-answer.ensures.step told state stands))

pub returns-clause-shape : goal.returns-clause-shape
returns-clause-shape g c = λ state shape.
    let core : CoreView g.row.V.Denot = record {
      hub = c.self.inside.hub;
      caches = c.self.inside.caches.items;
      capacity = c.self.inside.capacity;
      unfinished = c.self.inside.unfinished;
      calls = c.self.inside.calls;
      vault = c.self.inside.vault;
      size = g.V.Vault.size c.self.inside.vault;
      told = told_by g.V.Vault.image g.V.Vault.version g.V.Vault.room g.V.Vault.doubt c.self.inside.vault;
    } in
    made_counted state c.args.event.now c.in_ok-answer.answer core c.saturating_add-self-inside.result
    (subst (IsMade state c.args.event.now c.in_ok-answer.answer) (sym c.self.view_is) (c.in_ok-answer.ensures.shape state shape))

pub returns-clause-legal : goal.returns-clause-legal
returns-clause-legal g c = λ state stands. legal_of state _ stands

pub returns-clause-sound : goal.returns-clause-sound
returns-clause-sound g c =
    let core : CoreView g.row.V.Denot = record {
      hub = c.self.inside.hub;
      caches = c.self.inside.caches.items;
      capacity = c.self.inside.capacity;
      unfinished = c.self.inside.unfinished;
      calls = c.self.inside.calls;
      vault = c.self.inside.vault;
      size = g.V.Vault.size c.self.inside.vault;
      told = told_by g.V.Vault.image g.V.Vault.version g.V.Vault.room g.V.Vault.doubt c.self.inside.vault;
    } in
    let sound : IsSound core = c.self.invariant in
    sound_counted core c.saturating_add-self-inside.result sound

pub returns-in_err-answer-clause-unheld : goal.returns-in_err-answer-clause-unheld
returns-in_err-answer-clause-unheld g c = λ state stands. unheld_of state c.carry_out.new.self c.in_err-answer.ensures.sound stands

pub returns-then-not-is_call_made-clause-unheld : goal.returns-then-not-is_call_made-clause-unheld
returns-then-not-is_call_made-clause-unheld g c = λ state stands. unheld_of state c.carry_out.new.self c.in_ok-answer.ensures.sound stands

pub returns-clause-unheld : goal.returns-clause-unheld
returns-clause-unheld g c = λ state stands. unheld_of state _ (returns-clause-sound g c) stands

pub returns-then-not-is_call_made-clause-adds : goal.returns-then-not-is_call_made-clause-adds
returns-then-not-is_call_made-clause-adds g c = λ told.
    adds_of c.args.event.now c.in_ok-answer.answer c.args.self.now c.carry_out.new.self (c.in_ok-answer.ensures.step told)

pub returns-clause-adds : goal.returns-clause-adds
returns-clause-adds g c = λ told state stands.
    subst (λ (core : CoreView g.row.V.Denot). StepAdds state c.args.event.now core.hub.trail) (sym c.self.view_is)
    (adds_of c.args.event.now c.in_ok-answer.answer c.args.self.now c.carry_out.new.self (c.in_ok-answer.ensures.step told) state stands)

pub returns-then-not-is_call_made-clause-decided : goal.returns-then-not-is_call_made-clause-decided
returns-then-not-is_call_made-clause-decided g c =
    decides c.args.self.now c.carry_out.new.self c.args.event.now c.in_ok-answer.answer c.calls-calls.ensures.sound c.requires.built c.in_ok-answer.ensures.shape

pub returns-clause-decided : goal.returns-clause-decided
returns-clause-decided g c =
    decides c.args.self.now c.carry_out.new.self c.args.event.now c.in_ok-answer.answer c.calls-calls.ensures.sound c.requires.built c.in_ok-answer.ensures.shape

pub returns-then-not-is_call_made-clause-fault : goal.returns-then-not-is_call_made-clause-fault
returns-then-not-is_call_made-clause-fault g c =
    faulted c.args.self.now c.carry_out.new.self c.args.event.now c.in_ok-answer.answer
    (FaultCountRose (g.V.Vault.faults c.args.self.now.vault) (g.V.Vault.faults c.carry_out.new.self.vault)) c.calls-calls.ensures.sound c.requires.built c.in_ok-answer.ensures.shape
    c.in_ok-answer.ensures.failed c.in_ok-answer.ensures.doubt

pub returns-then-not-is_call_made-clause-images : goal.returns-then-not-is_call_made-clause-images
returns-then-not-is_call_made-clause-images g c = λ tells.
    during g c.args.event.now c.args.self.now c.carry_out.new.self.vault tells c.calls-calls.ensures.told c.in_ok-answer.ensures.reads (c.in_ok-answer.ensures.images tells)

pub returns-in_err-answer-clause-images : goal.returns-in_err-answer-clause-images
returns-in_err-answer-clause-images g c = λ tells.
    during g c.args.event.now c.args.self.now c.carry_out.new.self.vault tells c.calls-calls.ensures.told c.in_err-answer.ensures.reads (c.in_err-answer.ensures.images tells)

pub returns-clause-images : goal.returns-clause-images
returns-clause-images g c = λ tells.
    subst (λ (core : CoreView g.row.V.Denot). Adds g.V.Vault.moment g.V.Vault.images_since c.args.self.now.vault core.vault (IsLeftDuring c.args.event.now c.args.self.now)) (sym c.self.view_is)
    (during g c.args.event.now c.args.self.now c.carry_out.new.self.vault tells c.calls-calls.ensures.told c.in_ok-answer.ensures.reads (c.in_ok-answer.ensures.images tells))

pub returns-in_err-answer-clause-images_stand : goal.returns-in_err-answer-clause-images_stand
returns-in_err-answer-clause-images_stand g c = λ tells.
    on_err c.from_residual.result (Adds g.V.Vault.moment g.V.Vault.images_since c.args.self.now.vault c.carry_out.new.self.vault (IsLeftBefore c.args.self.now))
    (unmade g c.args.event.now c.args.self.now c.carry_out.new.self.vault tells c.calls-calls.ensures.told c.in_err-answer.ensures.reads (c.in_err-answer.ensures.images_stand tells))
