use Rattle.std.proofs.Common.{◌≡◌, sym, ap, ◌∙◌, subst}
use Rattle.std.specs.Prelude.{None, Some}
use Rattle.casper_words.specs.Crew.{IsClient}
use Rattle.casper_model.specs.declared.event.Event.TheVariants as event
use Rattle.casper_core.specs.CoreView.{CoreView, told_by}
use Rattle.casper_core.specs.Placing.{changed}
use Rattle.casper_core.specs.Shaped.{StepsInShape}
use Rattle.casper_core.specs.Sound.{IsSound}
use Rattle.casper_core.specs.Stepping.{Steps}
use Rattle.casper_core.specs.WritingOut.{ended_of}
use Rattle.casper_core.proofs.Ended.{lead_here, held_here, sound_finished}
use Rattle.casper_core.proofs.Finishes.{finish_steps, finish_made}
use Rattle.casper_core.proofs.state.Core.finish.Goals as goal

pub finish-done-requires : goal.finish-done-requires
finish-done-requires g c =
    let core : CoreView g.row.V.Denot = record {
      hub = c.self.inside.hub;
      caches = c.self.inside.caches.items;
      capacity = c.self.inside.capacity;
      unfinished = c.self.inside.unfinished;
      calls = c.self.inside.calls;
      vault = c.self.inside.vault;
      size = g.V.Vault.size c.self.inside.vault;
      told = told_by g.V.Vault.image g.V.Vault.version g.V.Vault.room g.V.Vault.doubt c.self.inside.vault;
    } in
    let sound : IsSound core = c.self.invariant in
    let ended : ended_of c.args.lead core.unfinished ≡ Some c.in-Some.outcome =
    ap (λ (one : CoreView g.row.V.Denot). ended_of c.args.lead one.unfinished) c.self.view_is ∙ sym c.ended.ensures.ended ∙ c.in-Some.is in
    record { held = held_here core sound c.args.lead c.in-Some.outcome ended }

pub invariant_of-self : goal.invariant_of-self
invariant_of-self g c =
    let core : CoreView g.row.V.Denot = record {
      hub = c.self.inside.hub;
      caches = c.self.inside.caches.items;
      capacity = c.self.inside.capacity;
      unfinished = c.self.inside.unfinished;
      calls = c.self.inside.calls;
      vault = c.self.inside.vault;
      size = g.V.Vault.size c.self.inside.vault;
      told = told_by g.V.Vault.image g.V.Vault.version g.V.Vault.room g.V.Vault.doubt c.self.inside.vault;
    } in
    let sound : IsSound core = c.self.invariant in
    let ended : ended_of c.args.lead core.unfinished ≡ Some c.in-Some.outcome =
    ap (λ (one : CoreView g.row.V.Denot). ended_of c.args.lead one.unfinished) c.self.view_is ∙ sym c.ended.ensures.ended ∙ c.in-Some.is in
    sound_finished core sound c.args.lead c.in-Some.outcome ended c.finish-done.result c.finish-done.new.self c.finish-done.ensures.turn c.finish-done.ensures.others c.finish-done.ensures.sound

pub returns-clause-sound : goal.returns-clause-sound
returns-clause-sound g c =
    let core : CoreView g.row.V.Denot = record {
      hub = c.self.inside.hub;
      caches = c.self.inside.caches.items;
      capacity = c.self.inside.capacity;
      unfinished = c.self.inside.unfinished;
      calls = c.self.inside.calls;
      vault = c.self.inside.vault;
      size = g.V.Vault.size c.self.inside.vault;
      told = told_by g.V.Vault.image g.V.Vault.version g.V.Vault.room g.V.Vault.doubt c.self.inside.vault;
    } in
    let sound : IsSound core = c.self.invariant in
    let ended : ended_of c.args.lead core.unfinished ≡ Some c.in-Some.outcome =
    ap (λ (one : CoreView g.row.V.Denot). ended_of c.args.lead one.unfinished) c.self.view_is ∙ sym c.ended.ensures.ended ∙ c.in-Some.is in
    sound_finished core sound c.args.lead c.in-Some.outcome ended c.finish-done.result c.finish-done.new.self c.finish-done.ensures.turn c.finish-done.ensures.others c.finish-done.ensures.sound

pub returns-clause-step : goal.returns-clause-step
returns-clause-step g c = λ told.
    let core : CoreView g.row.V.Denot = record {
      hub = c.self.inside.hub;
      caches = c.self.inside.caches.items;
      capacity = c.self.inside.capacity;
      unfinished = c.self.inside.unfinished;
      calls = c.self.inside.calls;
      vault = c.self.inside.vault;
      size = g.V.Vault.size c.self.inside.vault;
      told = told_by g.V.Vault.image g.V.Vault.version g.V.Vault.room g.V.Vault.doubt c.self.inside.vault;
    } in
    let sound : IsSound core = c.self.invariant in
    let ended : ended_of c.args.lead core.unfinished ≡ Some c.in-Some.outcome =
    ap (λ (one : CoreView g.row.V.Denot). ended_of c.args.lead one.unfinished) c.self.view_is ∙ sym c.ended.ensures.ended ∙ c.in-Some.is in
    let client : IsClient c.args.lead = lead_here core sound c.args.lead c.in-Some.outcome ended in
    let after = changed core c.finish-done.new.self None core.vault core.size core.told in
    subst (λ one. Steps (event.Finish c.args.lead) c.answer_of_finish.result one after) c.self.view_is
    (subst (λ said. Steps (event.Finish c.args.lead) said core after) (sym c.answer_of_finish.ensures)
    (finish_steps core sound c.finish-done.new.self c.finish-done.ensures.others c.args.lead client c.in-Some.outcome ended c.finish-done.result c.finish-done.ensures.turn
    c.finish-done.ensures.frames))

pub returns-clause-shape : goal.returns-clause-shape
returns-clause-shape g c =
    let core : CoreView g.row.V.Denot = record {
      hub = c.self.inside.hub;
      caches = c.self.inside.caches.items;
      capacity = c.self.inside.capacity;
      unfinished = c.self.inside.unfinished;
      calls = c.self.inside.calls;
      vault = c.self.inside.vault;
      size = g.V.Vault.size c.self.inside.vault;
      told = told_by g.V.Vault.image g.V.Vault.version g.V.Vault.room g.V.Vault.doubt c.self.inside.vault;
    } in
    let sound : IsSound core = c.self.invariant in
    let ended : ended_of c.args.lead core.unfinished ≡ Some c.in-Some.outcome =
    ap (λ (one : CoreView g.row.V.Denot). ended_of c.args.lead one.unfinished) c.self.view_is ∙ sym c.ended.ensures.ended ∙ c.in-Some.is in
    let after = changed core c.finish-done.new.self None core.vault core.size core.told in
    subst (λ one. StepsInShape (event.Finish c.args.lead) c.answer_of_finish.result one after) c.self.view_is
    (subst (λ said. StepsInShape (event.Finish c.args.lead) said core after) (sym c.answer_of_finish.ensures)
    (finish_made core sound c.finish-done.new.self c.finish-done.ensures.others c.args.lead (lead_here core sound c.args.lead c.in-Some.outcome ended) c.in-Some.outcome ended c.finish-done.result c.finish-done.ensures.turn))
