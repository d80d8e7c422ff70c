use Rattle.std.proofs.Common.{◌≡◌, ◌==◌, ℕ, refl, sym, ◌∙◌, subst}
use Rattle.std.specs.Prelude.{Option, None, Some, find}
use Rattle.casper_gather.specs.Bookkeeping.{stabilisation_of}
use Rattle.casper_model.specs.declared.outcome.Kept.TheVariants as kept
use Rattle.casper_model.specs.declared.outcome.Finished.{Finished}
use Rattle.casper_model.specs.declared.outcome.Finished.TheVariants as finished
use Rattle.casper_gather.specs.UnendedLaws.{stabilisations_of}
use Rattle.casper_model.specs.Finish.{finish}
use Rattle.casper_model.specs.Stabilisation.{Stabilisation}
use Rattle.casper_hub.specs.HubFields.{hub_of}
use Rattle.casper_hub.specs.HubView.{HubView}
use Rattle.casper_hub.specs.Sound.{IsSound}
use Rattle.casper_hub.specs.Turns.{IsChange}
use Rattle.casper_hub.specs.Words.{FramesAreRight}
use Rattle.casper_hub.proofs.CommittedFrames.{frames_committed}
use Rattle.casper_hub.proofs.FinishedTurns.{frames_ended, found_seen, none_led, nothing_finished, is_there, is_sealed, failure_is, noted_is, noted_up, noted_due, comes_into_doubt, committed_turn, failed_turn, undone_turn, doubted_turn, finish_keeps, finish_leaves}
use Rattle.casper_hub.proofs.RolledFrames.{frames_rolled_back}
use Rattle.casper_hub.proofs.Relying.{kept_itself}
use Rattle.casper_hub.proofs.hub.Hub.finish.Goals as goal

-- where the lead has no stabilisation

nothing : (c : goal.After-from_residual) → IsChange (λ shared. finish shared c.args.lead c.args.outcome) None c.args.self.now c.args.self.now
nothing c =
    subst (λ (h : HubView). IsChange (λ shared. finish shared c.args.lead c.args.outcome) None h h) c.self.view_is
    (nothing_finished (hub_of c.self.inside.trail.items c.self.inside.limit (stabilisations_of c.self.inside.unended.each) c.self.inside.clients c.self.inside.pages) c.args.lead c.args.outcome
    (none_led (hub_of c.self.inside.trail.items c.self.inside.limit (stabilisations_of c.self.inside.unended.each) c.self.inside.clients c.self.inside.pages) c.args.lead c.self.inside.unended.each refl
    (sym c.led_by.ensures ∙ c.in_err-one.was)))

pub returns-in_err-one-clause-turn : goal.returns-in_err-one-clause-turn
returns-in_err-one-clause-turn c =
    subst (λ (reply : Option Finished). IsChange (λ shared. finish shared c.args.lead c.args.outcome) reply c.args.self.now c.args.self.now) (sym c.from_residual.ensures) (nothing c)

pub returns-in_err-one-clause-others : goal.returns-in_err-one-clause-others
returns-in_err-one-clause-others c who = kept_itself who c.args.self.now

pub returns-in_err-one-clause-leads : goal.returns-in_err-one-clause-leads
returns-in_err-one-clause-leads c = finish_leaves c.args.self.now c.args.self.now c.args.lead c.args.outcome None c.requires.held (nothing c)

-- where the association is committed

found_to_commit : (c : goal.After-commit-arg-1) → find (λ (x : Stabilisation). x.lead == c.args.lead) c.args.self.now.stabilisations ≡ Some (stabilisation_of c.in_ok-one.one)
found_to_commit c = found_seen (hub_of c.self.inside.trail.items c.self.inside.limit (stabilisations_of c.self.inside.unended.each) c.self.inside.clients c.self.inside.pages) c.args.self.now
    c.args.lead c.self.inside.unended.each c.in_ok-one.one c.led_by.result c.self.view_is refl c.led_by.ensures c.in_ok-one.was

pub commit-requires-clause-there : goal.commit-requires-clause-there
commit-requires-clause-there c = is_there c.args.self.now c.args.lead c.args.outcome c.in_ok-one.one (found_to_commit c)

pub commit-requires-clause-held : goal.commit-requires-clause-held
commit-requires-clause-held c = is_sealed c.args.self.now c.args.lead c.args.outcome c.in_ok-one.one (found_to_commit c) c.requires.held

sound_committed : (c : goal.After-commit) → IsSound c.args.self.now
sound_committed c = subst IsSound c.self.view_is c.self.invariant.0

found_committed : (c : goal.After-commit) → find (λ (x : Stabilisation). x.lead == c.args.lead) c.args.self.now.stabilisations ≡ Some (stabilisation_of c.in_ok-one.one)
found_committed c = found_seen (hub_of c.self.inside.trail.items c.self.inside.limit (stabilisations_of c.self.inside.unended.each) c.self.inside.clients c.self.inside.pages) c.args.self.now
    c.args.lead c.self.inside.unended.each c.in_ok-one.one c.led_by.result c.self.view_is refl c.led_by.ensures c.in_ok-one.was

turn_committed : (c : goal.After-commit) → IsChange (λ shared. finish shared c.args.lead c.args.outcome) (Some (finished.Committed c.commit.result)) c.args.self.now c.commit.new.self
turn_committed c =
    subst (λ (n : ℕ). IsChange (λ shared. finish shared c.args.lead c.args.outcome) (Some (finished.Committed n)) c.args.self.now c.commit.new.self) (sym c.commit.ensures.mark)
    (committed_turn c.args.self.now c.args.lead c.args.outcome c.in_ok-one.one (found_committed c) c.in-Commit.field-0 c.commit.new.self (sym c.resolve.ensures ∙ c.in-Commit.is) c.commit.ensures.commits (sound_committed c))

pub returns-in-Commit-clause-turn : goal.returns-in-Commit-clause-turn
returns-in-Commit-clause-turn c = turn_committed c

pub returns-in-Commit-clause-frames : goal.returns-in-Commit-clause-frames
returns-in-Commit-clause-frames c base frames = frames_committed base (stabilisation_of c.in_ok-one.one) c.args.self.now c.commit.new.self c.commit.ensures.commits (sound_committed c) frames

pub returns-in-Commit-clause-others : goal.returns-in-Commit-clause-others
returns-in-Commit-clause-others c = finish_keeps c.args.self.now c.commit.new.self c.args.lead c.args.outcome (Some (finished.Committed c.commit.result)) c.requires.held (turn_committed c)

pub returns-in-Commit-clause-leads : goal.returns-in-Commit-clause-leads
returns-in-Commit-clause-leads c = finish_leaves c.args.self.now c.commit.new.self c.args.lead c.args.outcome (Some (finished.Committed c.commit.result)) c.requires.held (turn_committed c)

-- where the write-out failed

found_to_fail : (c : goal.After-fail-arg-1) → find (λ (x : Stabilisation). x.lead == c.args.lead) c.args.self.now.stabilisations ≡ Some (stabilisation_of c.in_ok-one.one)
found_to_fail c = found_seen (hub_of c.self.inside.trail.items c.self.inside.limit (stabilisations_of c.self.inside.unended.each) c.self.inside.clients c.self.inside.pages) c.args.self.now
    c.args.lead c.self.inside.unended.each c.in_ok-one.one c.led_by.result c.self.view_is refl c.led_by.ensures c.in_ok-one.was

pub fail-requires-clause-there : goal.fail-requires-clause-there
fail-requires-clause-there c = is_there c.args.self.now c.args.lead c.args.outcome c.in_ok-one.one (found_to_fail c)

pub fail-requires-clause-held : goal.fail-requires-clause-held
fail-requires-clause-held c = is_sealed c.args.self.now c.args.lead c.args.outcome c.in_ok-one.one (found_to_fail c) c.requires.held

pub fail-requires-clause-fails : goal.fail-requires-clause-fails
fail-requires-clause-fails c = (failure_is c.args.self.now c.args.lead c.args.outcome c.in_ok-one.one (found_to_fail c) c.in-Fail.field-0 c.args.outcome (sym c.resolve.ensures ∙ c.in-Fail.is)).0

pub fail-requires-clause-none : goal.fail-requires-clause-none
fail-requires-clause-none c = (failure_is c.args.self.now c.args.lead c.args.outcome c.in_ok-one.one (found_to_fail c) c.in-Fail.field-0 c.args.outcome (sym c.resolve.ensures ∙ c.in-Fail.is)).1

sound_failed : (c : goal.After-fail) → IsSound c.args.self.now
sound_failed c = subst IsSound c.self.view_is c.self.invariant.0

found_failed : (c : goal.After-fail) → find (λ (x : Stabilisation). x.lead == c.args.lead) c.args.self.now.stabilisations ≡ Some (stabilisation_of c.in_ok-one.one)
found_failed c = found_seen (hub_of c.self.inside.trail.items c.self.inside.limit (stabilisations_of c.self.inside.unended.each) c.self.inside.clients c.self.inside.pages) c.args.self.now
    c.args.lead c.self.inside.unended.each c.in_ok-one.one c.led_by.result c.self.view_is refl c.led_by.ensures c.in_ok-one.was

turn_failed : (c : goal.After-fail) → IsChange (λ shared. finish shared c.args.lead c.args.outcome) (Some (finished.Failed c.args.outcome)) c.args.self.now c.fail.new.self
turn_failed c = failed_turn c.args.self.now c.args.lead c.args.outcome c.in_ok-one.one (found_failed c) c.in-Fail.field-0 c.fail.new.self (sym c.resolve.ensures ∙ c.in-Fail.is) c.fail.ensures.ends (sound_failed c)

pub returns-in-Fail-clause-turn : goal.returns-in-Fail-clause-turn
returns-in-Fail-clause-turn c = turn_failed c

pub returns-in-Fail-clause-frames : goal.returns-in-Fail-clause-frames
returns-in-Fail-clause-frames c base frames = frames_ended base (stabilisation_of c.in_ok-one.one) (kept.Failed c.args.outcome) c.args.self.now c.fail.new.self c.fail.ensures.ends frames

pub returns-in-Fail-clause-others : goal.returns-in-Fail-clause-others
returns-in-Fail-clause-others c = finish_keeps c.args.self.now c.fail.new.self c.args.lead c.args.outcome (Some (finished.Failed c.args.outcome)) c.requires.held (turn_failed c)

pub returns-in-Fail-clause-leads : goal.returns-in-Fail-clause-leads
returns-in-Fail-clause-leads c = finish_leaves c.args.self.now c.fail.new.self c.args.lead c.args.outcome (Some (finished.Failed c.args.outcome)) c.requires.held (turn_failed c)

-- where a noted loss is carried out

sound_to_undo : (c : goal.After-roll_back-arg-1) → IsSound c.args.self.now
sound_to_undo c = subst IsSound c.self.view_is c.self.invariant.0

found_to_undo : (c : goal.After-roll_back-arg-1) → find (λ (x : Stabilisation). x.lead == c.args.lead) c.args.self.now.stabilisations ≡ Some (stabilisation_of c.in_ok-one.one)
found_to_undo c = found_seen (hub_of c.self.inside.trail.items c.self.inside.limit (stabilisations_of c.self.inside.unended.each) c.self.inside.clients c.self.inside.pages) c.args.self.now
    c.args.lead c.self.inside.unended.each c.in_ok-one.one c.led_by.result c.self.view_is refl c.led_by.ensures c.in_ok-one.was

pub roll_back-requires-clause-due : goal.roll_back-requires-clause-due
roll_back-requires-clause-due c =
    noted_due c.args.self.now c.args.lead c.args.outcome c.in_ok-one.one (found_to_undo c) (sound_to_undo c) c.in-Undo.lost
    (noted_is c.args.self.now c.args.lead c.args.outcome c.in_ok-one.one (found_to_undo c) c.in-Undo.lost c.args.outcome (sym c.resolve.ensures ∙ c.in-Undo.is))

pub roll_back-requires-clause-up : goal.roll_back-requires-clause-up
roll_back-requires-clause-up c =
    noted_up c.args.self.now c.args.lead c.args.outcome c.in_ok-one.one (found_to_undo c) (sound_to_undo c) c.in-Undo.lost
    (noted_is c.args.self.now c.args.lead c.args.outcome c.in_ok-one.one (found_to_undo c) c.in-Undo.lost c.args.outcome (sym c.resolve.ensures ∙ c.in-Undo.is))

sound_undone : (c : goal.After-roll_back) → IsSound c.args.self.now
sound_undone c = subst IsSound c.self.view_is c.self.invariant.0

found_undone : (c : goal.After-roll_back) → find (λ (x : Stabilisation). x.lead == c.args.lead) c.args.self.now.stabilisations ≡ Some (stabilisation_of c.in_ok-one.one)
found_undone c = found_seen (hub_of c.self.inside.trail.items c.self.inside.limit (stabilisations_of c.self.inside.unended.each) c.self.inside.clients c.self.inside.pages) c.args.self.now
    c.args.lead c.self.inside.unended.each c.in_ok-one.one c.led_by.result c.self.view_is refl c.led_by.ensures c.in_ok-one.was

turn_undone : (c : goal.After-roll_back) → IsChange (λ shared. finish shared c.args.lead c.args.outcome) (Some (finished.Undone c.roll_back.result)) c.args.self.now c.roll_back.new.self
turn_undone c =
    subst (λ (n : ℕ). IsChange (λ shared. finish shared c.args.lead c.args.outcome) (Some (finished.Undone n)) c.args.self.now c.roll_back.new.self) (sym c.roll_back.ensures.mark)
    (undone_turn c.args.self.now c.args.lead c.args.outcome c.in_ok-one.one (found_undone c) c.in-Undo.lost c.roll_back.new.self (sym c.resolve.ensures ∙ c.in-Undo.is) c.roll_back.ensures.rolls (sound_undone c))

pub returns-in-Undo-clause-turn : goal.returns-in-Undo-clause-turn
returns-in-Undo-clause-turn c = turn_undone c

pub returns-in-Undo-clause-frames : goal.returns-in-Undo-clause-frames
returns-in-Undo-clause-frames c base frames = frames_rolled_back base c.in-Undo.lost c.args.self.now c.roll_back.new.self c.roll_back.ensures.rolls (sound_undone c) frames

pub returns-in-Undo-clause-others : goal.returns-in-Undo-clause-others
returns-in-Undo-clause-others c = finish_keeps c.args.self.now c.roll_back.new.self c.args.lead c.args.outcome (Some (finished.Undone c.roll_back.result)) c.requires.held (turn_undone c)

pub returns-in-Undo-clause-leads : goal.returns-in-Undo-clause-leads
returns-in-Undo-clause-leads c = finish_leaves c.args.self.now c.roll_back.new.self c.args.lead c.args.outcome (Some (finished.Undone c.roll_back.result)) c.requires.held (turn_undone c)

-- where the write-out ended in doubt

found_to_doubt : (c : goal.After-doubt-arg-1) → find (λ (x : Stabilisation). x.lead == c.args.lead) c.args.self.now.stabilisations ≡ Some (stabilisation_of c.in_ok-one.one)
found_to_doubt c = found_seen (hub_of c.self.inside.trail.items c.self.inside.limit (stabilisations_of c.self.inside.unended.each) c.self.inside.clients c.self.inside.pages) c.args.self.now
    c.args.lead c.self.inside.unended.each c.in_ok-one.one c.led_by.result c.self.view_is refl c.led_by.ensures c.in_ok-one.was

pub doubt-requires : goal.doubt-requires
doubt-requires c = record {
  there = comes_into_doubt c.args.self.now c.args.lead c.args.outcome c.in_ok-one.one (found_to_doubt c) c.in-Doubt.doubtful (sym c.resolve.ensures ∙ c.in-Doubt.is) c.requires.held;
}

found_doubted : (c : goal.After-doubt) → find (λ (x : Stabilisation). x.lead == c.args.lead) c.args.self.now.stabilisations ≡ Some (stabilisation_of c.in_ok-one.one)
found_doubted c = found_seen (hub_of c.self.inside.trail.items c.self.inside.limit (stabilisations_of c.self.inside.unended.each) c.self.inside.clients c.self.inside.pages) c.args.self.now
    c.args.lead c.self.inside.unended.each c.in_ok-one.one c.led_by.result c.self.view_is refl c.led_by.ensures c.in_ok-one.was

turn_doubted : (c : goal.After-doubt) → IsChange (λ shared. finish shared c.args.lead c.args.outcome) (Some finished.Doubt) c.args.self.now c.doubt.new.self
turn_doubted c = doubted_turn c.args.self.now c.args.lead c.args.outcome c.in_ok-one.one (found_doubted c) c.in-Doubt.doubtful c.doubt.new.self (sym c.resolve.ensures ∙ c.in-Doubt.is) c.doubt.ensures.doubts

pub returns-in-Doubt-clause-turn : goal.returns-in-Doubt-clause-turn
returns-in-Doubt-clause-turn c = turn_doubted c

pub returns-in-Doubt-clause-frames : goal.returns-in-Doubt-clause-frames
returns-in-Doubt-clause-frames c base frames = subst (λ (h : HubView). FramesAreRight base h) (sym c.doubt.ensures.doubts) frames

pub returns-in-Doubt-clause-others : goal.returns-in-Doubt-clause-others
returns-in-Doubt-clause-others c = finish_keeps c.args.self.now c.doubt.new.self c.args.lead c.args.outcome (Some finished.Doubt) c.requires.held (turn_doubted c)

pub returns-in-Doubt-clause-leads : goal.returns-in-Doubt-clause-leads
returns-in-Doubt-clause-leads c = finish_leaves c.args.self.now c.doubt.new.self c.args.lead c.args.outcome (Some finished.Doubt) c.requires.held (turn_doubted c)
