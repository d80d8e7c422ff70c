use Rattle.std.proofs.Common.{◌≡◌, ◌<◌, ◌≤◌, ◌++◌, ℕ, [], ◌∷◌, length, sym, ap, ◌∙◌, subst, refl, arith, rules, append-nil, append_assoc, length-append}
use Rattle.std.specs.Prelude.{slice_index_or, IsTrue}
use Rattle.casper_disk.specs.Vault.{Saved}
use Rattle.casper_core.specs.Loading.{OnlyReads, KeepsVault}
use Rattle.casper_core.proofs.LeftLemmas.{adds_nothing}
use Rattle.casper_core.proofs.LeftRuns.{adds_more, adds_still}
use Rattle.casper_core.proofs.ReplayRuns.{contains_at, run_nothing, run_more, run_still, of_ok, rose_more, count_more}
use Rattle.casper_core.proofs.ShapedRuns.{made_nothing, made_more, made_still}
use Rattle.casper_core.proofs.StepParts.{legal_of, unheld_of}
use Rattle.casper_core.proofs.VaultReads.{reads_nothing, reads_again, keeps_nothing, keeps_again}
use Rattle.casper_core.proofs.state.Core.replay.Given as given
use Rattle.casper_core.proofs.state.Core.replay.Goals as goal

again : (g : given.Over) (first second third : g.row.V.Denot)
    → OnlyReads g.V.Vault.tells g.V.Vault.size g.V.Vault.image g.V.Vault.version g.V.Vault.room g.V.Vault.doubt g.V.Vault.images_now g.V.Vault.moment g.V.Vault.images_since g.V.Vault.faults g.V.Vault.leads_to first second
    → OnlyReads g.V.Vault.tells g.V.Vault.size g.V.Vault.image g.V.Vault.version g.V.Vault.room g.V.Vault.doubt g.V.Vault.images_now g.V.Vault.moment g.V.Vault.images_since g.V.Vault.faults g.V.Vault.leads_to second third
    → OnlyReads g.V.Vault.tells g.V.Vault.size g.V.Vault.image g.V.Vault.version g.V.Vault.room g.V.Vault.doubt g.V.Vault.images_now g.V.Vault.moment g.V.Vault.images_since g.V.Vault.faults g.V.Vault.leads_to first third
again g first second third =
    reads_again g.V.Vault.tells g.V.Vault.size g.V.Vault.image g.V.Vault.version g.V.Vault.room g.V.Vault.doubt g.V.Vault.images_now g.V.Vault.moment g.V.Vault.images_since g.V.Vault.faults g.V.Vault.leads_to
    g.met.V.Vault.now_counts g.met.V.Vault.only_now g.met.V.Vault.earlier_counts g.met.V.Vault.leads_to_itself g.met.V.Vault.leads_on first second third

keeps : (g : given.Over) (first second third : g.row.V.Denot)
    → KeepsVault g.V.Vault.size g.V.Vault.faults g.V.Vault.leads_to first second → KeepsVault g.V.Vault.size g.V.Vault.faults g.V.Vault.leads_to second third
    → KeepsVault g.V.Vault.size g.V.Vault.faults g.V.Vault.leads_to first third
keeps g first second third = keeps_again g.V.Vault.size g.V.Vault.faults g.V.Vault.leads_to g.met.V.Vault.leads_to_itself g.met.V.Vault.leads_on first second third

counts : (g : given.Over) (vault : g.row.V.Denot) → IsTrue g.V.Vault.tells → (earlier later : ℕ) (saved : Saved) → earlier ≤ later
    → g.V.Vault.images_since vault later saved → g.V.Vault.images_since vault earlier saved
counts g vault told earlier later saved order since = g.met.V.Vault.earlier_counts vault earlier later saved told order since

pub loop-event-init : goal.loop-event-init
loop-event-init g c = record {
  run = (
    [],
    sym (append-nil c.args.answers.now.items),
    refl,
    λ told. run_nothing c.args.events.now c.args.self.now,
    made_nothing c.args.events.now c.args.self.now,
    omega arith,
    omega (arith, c.calls-calls.ensures.calls, c.calls-calls.type_inv),
    λ told. adds_nothing g.V.Vault.tells g.V.Vault.image g.V.Vault.version g.V.Vault.room g.V.Vault.doubt g.V.Vault.images_now g.V.Vault.moment g.V.Vault.images_since
        g.met.V.Vault.sure_image g.met.V.Vault.either_image g.met.V.Vault.only_now told c.args.self.now c.calls-calls.ensures.told,
  );
  reads = λ quiet. reads_nothing g.V.Vault.tells g.V.Vault.size g.V.Vault.image g.V.Vault.version g.V.Vault.room g.V.Vault.doubt g.V.Vault.images_now g.V.Vault.moment g.V.Vault.images_since g.V.Vault.faults g.V.Vault.leads_to
      g.met.V.Vault.now_counts g.met.V.Vault.only_now g.met.V.Vault.earlier_counts g.met.V.Vault.leads_to_itself g.met.V.Vault.leads_on c.args.self.now.vault;
  vault = keeps_nothing g.V.Vault.size g.V.Vault.faults g.V.Vault.leads_to g.met.V.Vault.leads_to_itself g.met.V.Vault.leads_on c.args.self.now.vault;
  sound = c.calls-calls.ensures.sound;
}

pub loop-event-preserved : goal.loop-event-preserved
loop-event-preserved g c =
    let inv = c.loop-event.invariant in
    let said = inv.run.0 in
    let answer = c.in_ok-answer.answer in
    let pushed = of_ok c.push.result (c.push.new.self.items ≡ c.reserve.new.self.items ++ answer ∷ []) (c.push.ensures.succeeds (omega (arith, c.in_ok-reserve.ensures.ok))) c.push.ensures.ok in
    let at : length said ≡ c.loop-event.event-index = inv.run.2 in
    let below : length said < length c.args.events.now = omega (arith, at, c.loop-event-test.true) in
    let there = subst (λ index. c.event-item.result ≡ slice_index_or c.args.events.now index c.event-item.result) (sym at) c.event-item.is in
    let ensured = c.in_ok-answer.ensures in
    record {
      run = (
        said ++ answer ∷ [],
        pushed ∙ ap (λ items. items ++ answer ∷ []) (c.in_ok-reserve.ensures.items ∙ inv.run.1) ∙ append_assoc c.args.answers.now.items said (answer ∷ []),
        omega (arith, length-append said (answer ∷ []), at),
        λ told. run_more c.args.events.now said c.event-item.result answer c.args.self.now c.loop-event.self c.step.new.self below there (inv.run.3 told) (ensured.step told),
        made_more c.args.events.now said c.event-item.result answer c.args.self.now c.loop-event.self c.step.new.self below there inv.run.4 ensured.shape,
        rose_more said answer (g.V.Vault.faults c.args.self.now.vault) (g.V.Vault.faults c.loop-event.self.vault) (g.V.Vault.faults c.step.new.self.vault) inv.run.5 ensured.never_falls ensured.fault,
        count_more c.args.events.now said c.event-item.result answer c.args.self.now.calls c.loop-event.self.calls c.step.new.self.calls below there inv.run.6 ensured.calls,
        λ told. adds_more g.V.Vault.moment g.V.Vault.images_since c.args.events.now said c.args.self.now c.loop-event.self c.step.new.self
            (counts g c.step.new.self.vault told) (inv.run.3 told) c.event-item.result answer below there (inv.run.7 told) (ensured.images told),
      );
      reads = λ quiet. again g c.args.self.now.vault c.loop-event.self.vault c.step.new.self.vault (inv.reads quiet)
          (ensured.reads (quiet c.event-item.result (contains_at c.args.events.now (length said) c.event-item.result below there)));
      vault = keeps g c.args.self.now.vault c.loop-event.self.vault c.step.new.self.vault inv.vault ensured.vault;
      sound = ensured.sound;
    }

pub returns-in_err-reserve-clause-run : goal.returns-in_err-reserve-clause-run
returns-in_err-reserve-clause-run g c =
    let inv = c.loop-event.invariant in
    (inv.run.0, c.in_err-reserve.ensures.items ∙ inv.run.1, omega (arith, inv.run.2, c.loop-event-test.true), search rules, inv.run.3, inv.run.4, inv.run.5, inv.run.6, inv.run.7)

pub returns-in_err-answer-clause-run : goal.returns-in_err-answer-clause-run
returns-in_err-answer-clause-run g c =
    let inv = c.loop-event.invariant in (
      inv.run.0,
      c.in_ok-reserve.ensures.items ∙ inv.run.1,
      omega (arith, inv.run.2, c.loop-event-test.true),
      search rules,
      λ told. run_still c.args.events.now inv.run.0 c.args.self.now c.loop-event.self c.step.new.self (inv.run.3 told) (c.in_err-answer.ensures.stands told),
      made_still c.args.events.now inv.run.0 c.args.self.now c.loop-event.self c.step.new.self inv.run.4 c.in_err-answer.ensures.memory,
      omega (arith, inv.run.5, c.in_err-answer.ensures.never_falls),
      c.in_err-answer.ensures.memory.calls ∙ inv.run.6,
      λ told. adds_still g.V.Vault.moment g.V.Vault.images_since c.args.events.now inv.run.0 c.args.self.now c.loop-event.self c.step.new.self
          (counts g c.step.new.self.vault told) (inv.run.3 told) (inv.run.7 told) (c.in_err-answer.ensures.images_stand told),
    )

pub returns-in_err-answer-clause-vault : goal.returns-in_err-answer-clause-vault
returns-in_err-answer-clause-vault g c = keeps g c.args.self.now.vault c.loop-event.self.vault c.step.new.self.vault c.loop-event.invariant.vault c.in_err-answer.ensures.vault

pub returns-in_err-answer-clause-reads : goal.returns-in_err-answer-clause-reads
returns-in_err-answer-clause-reads g c = λ quiet.
    let inv = c.loop-event.invariant in
    let below : length inv.run.0 < length c.args.events.now = omega (arith, inv.run.2, c.loop-event-test.true) in
    let there = subst (λ index. c.event-item.result ≡ slice_index_or c.args.events.now index c.event-item.result) (sym inv.run.2) c.event-item.is in
    again g c.args.self.now.vault c.loop-event.self.vault c.step.new.self.vault (inv.reads quiet)
    (c.in_err-answer.ensures.reads (quiet c.event-item.result (contains_at c.args.events.now (length inv.run.0) c.event-item.result below there)))

pub returns-in_err-reserve-clause-legal : goal.returns-in_err-reserve-clause-legal
returns-in_err-reserve-clause-legal g c = λ state stands. legal_of state c.loop-event.self stands

pub returns-clause-legal : goal.returns-clause-legal
returns-clause-legal g c = λ state stands. legal_of state c.loop-event.self stands

pub returns-in_err-reserve-clause-unheld : goal.returns-in_err-reserve-clause-unheld
returns-in_err-reserve-clause-unheld g c = λ state stands. unheld_of state c.loop-event.self c.loop-event.invariant.sound stands

pub returns-clause-unheld : goal.returns-clause-unheld
returns-clause-unheld g c = λ state stands. unheld_of state c.loop-event.self c.loop-event.invariant.sound stands
