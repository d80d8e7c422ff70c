use Rattle.std.proofs.Common.{◌≡◌, ℕ, List, refl, sym, ap, subst, inl, inr, ◌∙◌}
use Rattle.std.specs.Prelude.{IsTrue}
use Rattle.casper_trail.specs.declared.item.Item.{Item}
use Rattle.casper_space.specs.declared.answer.Answer.{Answer}
use Rattle.casper_disk.specs.Vault.{Saved}
use Rattle.casper_model.specs.State.{State}
use Rattle.casper_core.specs.CoreView.{CoreView, told_by}
use Rattle.casper_core.specs.Leaving.{Adds, IsLeftBefore}
use Rattle.casper_core.specs.Represents.{Represents}
use Rattle.casper_core.specs.Shaped.{RepresentsButWords}
use Rattle.casper_core.proofs.LeftLemmas.{adds_nothing}
use Rattle.casper_app.specs.declared.end.End.{End}
use Rattle.casper_app.specs.declared.end.End.TheVariants as end
use Rattle.casper_app.specs.declared.schedule.Asked.{Asked}
use Rattle.casper_app.specs.Comes.{ComesOver, ComesInShape}
use Rattle.casper_app.specs.Ending.{EndsWith}
use Rattle.casper_app.specs.Carrying.{StandsBy}
use Rattle.casper_app.specs.Play.{begun}
use Rattle.casper_app.proofs.RunLemmas.{left_at, runs_done, runs_stopped, over_unread, shape_done, shape_stopped, shape_unread, runs_at}
use Rattle.casper_app.proofs.EndLemmas.{source_by, stopped_by}
use Rattle.casper_app.proofs.top.replay.Given as given
use Rattle.casper_app.proofs.top.replay.Goals as goal
use Rattle.casper_app.proofs.top.replay.Goals.{in-Ok-take_lines, in-Err-take_lines}

-- where nothing happens to a core
nothing : (g : given.Over) (core : CoreView g.row.V.Denot) → core.told ≡ told_by g.V.Vault.image g.V.Vault.version g.V.Vault.room g.V.Vault.doubt core.vault → IsTrue g.V.Vault.tells
    → Adds g.V.Vault.moment g.V.Vault.images_since core.vault core.vault (IsLeftBefore core)
nothing g core same told =
    adds_nothing g.V.Vault.tells g.V.Vault.image g.V.Vault.version g.V.Vault.room g.V.Vault.doubt g.V.Vault.images_now g.V.Vault.moment g.V.Vault.images_since
    g.met.V.Vault.sure_image g.met.V.Vault.either_image g.met.V.Vault.only_now told core same

-- what a stop then leaves of its vault
left_then : (g : given.Over) (core : CoreView g.row.V.Denot) → core.told ≡ told_by g.V.Vault.image g.V.Vault.version g.V.Vault.room g.V.Vault.doubt core.vault → IsTrue g.V.Vault.tells
    → (saved : Saved) → g.V.Vault.images_now core.vault saved → IsLeftBefore core saved
left_then g core same told =
    left_at g.V.Vault.tells g.V.Vault.moment g.V.Vault.images_since g.V.Vault.images_now g.met.V.Vault.now_counts told core (nothing g core same told)

-- what the lines come to, between two vaults
abbrev over : (g : given.Over) (entries : ℕ) (start : State) → g.row.V.Denot → g.row.V.Denot → ℕ → End → List Asked → List Answer → List Item → Type 0
over g entries start before after = ComesOver g.V.Vault.moment g.V.Vault.images_since g.V.Vault.images_now before after entries start

pub returns-in-Err-clause-run : goal.returns-in-Err-clause-run
returns-in-Err-clause-run g c told start stands =
    runs_at (over g c.args.entries start) g.V.Vault.faults c.args.outlet c.args.outlet _ _ _ _ _ _ _ _ _ _ _ _ _ refl refl (sym c.into_parts-hub.ensures.vault) refl refl
    (over_unread c.args.entries start c.args.outlet (g.V.Vault.faults c.args.core.vault) _ _ _ _ _ _ c.end_unread-ended.ensures.ends c.end_unread-ended.ensures.answers
    (c.end_unread-ended.ensures.trail ∙ c.into_trail.ensures.items ∙ ap (λ h. h.trail) c.into_parts-hub.ensures.hub ∙ sym stands.parts.shared.trail)
    g.V.Vault.moment g.V.Vault.images_since g.V.Vault.images_now c.args.core stands (nothing g c.args.core c.calls-calls.ensures.told told)
    (left_then g c.args.core c.calls-calls.ensures.told told))

pub returns-in-Err-clause-shape : goal.returns-in-Err-clause-shape
returns-in-Err-clause-shape g c start shape =
    runs_at (λ before after. ComesInShape c.args.entries start) g.V.Vault.faults c.args.outlet c.args.outlet _ _ _ _ _ _ _ _ _ _ _ _ _ refl refl (sym c.into_parts-hub.ensures.vault) refl refl
    (shape_unread c.args.entries start c.args.outlet (g.V.Vault.faults c.args.core.vault) _ _ _ _ _ _ c.end_unread-ended.ensures.ends c.end_unread-ended.ensures.answers
    (c.end_unread-ended.ensures.trail ∙ c.into_trail.ensures.items ∙ ap (λ h. h.trail) c.into_parts-hub.ensures.hub ∙ sym shape.shared.trail))

pub returns-clause-run : goal.returns-clause-run
returns-clause-run g c told start stands =
    let here : StandsBy Represents (begun start) c.new-replay.result.sessions =
    subst (λ sessions. StandsBy Represents (begun start) sessions) (sym c.new-replay.ensures.sessions) (record { state = stands; past = c.none.ensures }) in
    let calls = ap (λ sessions. sessions.core.calls) c.new-replay.ensures.sessions ∙ c.requires.calls in
    let same = ap (λ sessions. sessions.entries) c.new-replay.ensures.sessions in
    let left = left_then g c.take_lines.new.replay.sessions.core c.calls-calls-2.ensures.told told in
    runs_at (over g c.args.entries start) g.V.Vault.faults c.new-replay.result.outlet c.args.outlet _ _ _ _ _ _ _ _ _ _ _ _ _ c.new-replay.ensures.outlet
    (ap (λ sessions. sessions.core.vault) c.new-replay.ensures.sessions) (sym c.into_parts-answers.ensures.vault)
    (ap (λ a. a.items) (sym c.into_parts-answers.ensures.answers)) (sym c.into_parts-answers.ensures.trail)
    (elim c.match-take_lines.branch [
      | in-Ok-take_lines w ↦ runs_done w.in-Ok-take_lines.lines c.args.entries start _ _ same w.in-Ok-take_lines.ensures.reading calls c.new-replay.ensures.answers
          (subst (λ e. EndsWith e c.write_ending-last.result (g.K.Sink.taken c.take_lines.new.sink) (g.K.Sink.taken c.write_ending-last.new.sink)) (w.said-is ∙ ap end.Done w.summary.ensures) c.write_ending-last.ensures.ends)
          g.V.Vault.images_now left told here
      | in-Err-take_lines w ↦ runs_stopped w.in-Err-take_lines.cause c.args.entries start _ _ same w.in-Err-take_lines.ensures.reading c.new-replay.ensures.answers
          (subst (λ e. EndsWith e c.write_ending-last.result (g.K.Sink.taken c.take_lines.new.sink) (g.K.Sink.taken c.write_ending-last.new.sink)) w.said-is c.write_ending-last.ensures.ends)
          g.V.Vault.images_now left told here
    ])

pub returns-clause-shape : goal.returns-clause-shape
returns-clause-shape g c start stands =
    let here : StandsBy RepresentsButWords (begun start) c.new-replay.result.sessions =
    subst (λ sessions. StandsBy RepresentsButWords (begun start) sessions) (sym c.new-replay.ensures.sessions) (record { state = stands; past = c.none.ensures }) in
    let calls = ap (λ sessions. sessions.core.calls) c.new-replay.ensures.sessions ∙ c.requires.calls in
    let same = ap (λ sessions. sessions.entries) c.new-replay.ensures.sessions in
    runs_at (λ before after. ComesInShape c.args.entries start) g.V.Vault.faults c.new-replay.result.outlet c.args.outlet _ _ _ _ _ _ _ _ _ _ _ _ _ c.new-replay.ensures.outlet
    (ap (λ sessions. sessions.core.vault) c.new-replay.ensures.sessions) (sym c.into_parts-answers.ensures.vault)
    (ap (λ a. a.items) (sym c.into_parts-answers.ensures.answers)) (sym c.into_parts-answers.ensures.trail)
    (elim c.match-take_lines.branch [
      | in-Ok-take_lines w ↦ shape_done w.in-Ok-take_lines.lines c.args.entries start _ _ same w.in-Ok-take_lines.ensures.reading calls c.new-replay.ensures.answers
          (subst (λ e. EndsWith e c.write_ending-last.result (g.K.Sink.taken c.take_lines.new.sink) (g.K.Sink.taken c.write_ending-last.new.sink)) (w.said-is ∙ ap end.Done w.summary.ensures) c.write_ending-last.ensures.ends)
          here
      | in-Err-take_lines w ↦ shape_stopped w.in-Err-take_lines.cause c.args.entries start _ _ same w.in-Err-take_lines.ensures.reading c.new-replay.ensures.answers
          (subst (λ e. EndsWith e c.write_ending-last.result (g.K.Sink.taken c.take_lines.new.sink) (g.K.Sink.taken c.write_ending-last.new.sink)) w.said-is c.write_ending-last.ensures.ends)
          here
    ])

pub write_ending-last-requires : goal.write_ending-last-requires
write_ending-last-requires g c =
    elim c.match-take_lines.branch [
      | in-Ok-take_lines w ↦ inr (elim w.in-Ok-take_lines.ensures.sink_whole [ inl failed ↦ (let none = failed in cc) | inr whole ↦ whole ])
      | in-Err-take_lines w ↦ elim w.in-Err-take_lines.ensures.sink_whole [ inl write ↦ inl (w.said-is ∙ stopped_by _ _ write) | inr whole ↦ inr whole ]
    ]

pub returns-clause-source_stands : goal.returns-clause-source_stands
returns-clause-source_stands g c =
    source_by _ _ _ _
    (elim c.match-take_lines.branch [
      | in-Ok-take_lines w ↦ inr (elim w.in-Ok-take_lines.ensures.source_stands [ inl failed ↦ (let none = failed in cc) | inr same ↦ same ])
      | in-Err-take_lines w ↦ elim w.in-Err-take_lines.ensures.source_stands [ inl read ↦ inl (w.said-is ∙ stopped_by _ _ read) | inr same ↦ inr same ]
    ])
    c.write_ending-last.ensures.constant
