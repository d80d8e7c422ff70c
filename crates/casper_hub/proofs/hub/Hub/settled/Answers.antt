use Rattle.std.proofs.Common.{◌≡◌, ℕ, refl, sym, ◌∙◌, subst}
use Rattle.std.specs.Prelude.{Option, None, Some, find}
use Rattle.casper_gather.specs.Bookkeeping.{stabilisation_of}
use Rattle.casper_gather.specs.UnendedLaws.{stabilisations_of}
use Rattle.casper_model.specs.Finish.{settled}
use Rattle.casper_model.specs.Stabilisation.{Stabilisation, is_doubtful}
use Rattle.casper_hub.specs.HubFields.{hub_of}
use Rattle.casper_hub.specs.HubView.{HubView}
use Rattle.casper_hub.specs.Sound.{IsSound}
use Rattle.casper_hub.specs.Turns.{IsChange}
use Rattle.casper_hub.proofs.CommittedFrames.{frames_committed}
use Rattle.casper_hub.proofs.FinishedTurns.{doubtful_seen, none_doubtful, nothing_settled, doubtful_there, doubtful_held, settled_turn, settle_keeps, settle_leaves}
use Rattle.casper_hub.proofs.Relying.{kept_itself}
use Rattle.casper_hub.proofs.hub.Hub.settled.Goals as goal

-- where no stabilisation is in doubt

nothing : (c : goal.After-from_residual) → IsChange settled None c.args.self.now c.args.self.now
nothing c =
    subst (λ (h : HubView). IsChange settled None h h) c.self.view_is
    (nothing_settled (hub_of c.self.inside.trail.items c.self.inside.limit (stabilisations_of c.self.inside.unended.each) c.self.inside.clients c.self.inside.pages)
    (none_doubtful (hub_of c.self.inside.trail.items c.self.inside.limit (stabilisations_of c.self.inside.unended.each) c.self.inside.clients c.self.inside.pages) c.self.inside.unended.each refl
    (sym c.doubtful.ensures ∙ c.in_err-one.was)))

pub returns-in_err-one-clause-turn : goal.returns-in_err-one-clause-turn
returns-in_err-one-clause-turn c = subst (λ (reply : Option ℕ). IsChange settled reply c.args.self.now c.args.self.now) (sym c.from_residual.ensures) (nothing c)

pub returns-in_err-one-clause-others : goal.returns-in_err-one-clause-others
returns-in_err-one-clause-others c who = kept_itself who c.args.self.now

pub returns-in_err-one-clause-leads : goal.returns-in_err-one-clause-leads
returns-in_err-one-clause-leads c = settle_leaves c.args.self.now c.args.self.now None (nothing c)

-- where one is

found_to_commit : (c : goal.After-commit-arg-1) → find (λ (x : Stabilisation). is_doubtful x.phase) c.args.self.now.stabilisations ≡ Some (stabilisation_of c.in_ok-one.one)
found_to_commit c = doubtful_seen (hub_of c.self.inside.trail.items c.self.inside.limit (stabilisations_of c.self.inside.unended.each) c.self.inside.clients c.self.inside.pages) c.args.self.now
    c.self.inside.unended.each c.in_ok-one.one c.doubtful.result c.self.view_is refl c.doubtful.ensures c.in_ok-one.was

pub commit-requires-clause-there : goal.commit-requires-clause-there
commit-requires-clause-there c = doubtful_there c.args.self.now (stabilisation_of c.in_ok-one.one) (found_to_commit c)

pub commit-requires-clause-held : goal.commit-requires-clause-held
commit-requires-clause-held c = doubtful_held c.args.self.now (stabilisation_of c.in_ok-one.one) (found_to_commit c)

found : (c : goal.After-commit) → find (λ (x : Stabilisation). is_doubtful x.phase) c.args.self.now.stabilisations ≡ Some (stabilisation_of c.in_ok-one.one)
found c = doubtful_seen (hub_of c.self.inside.trail.items c.self.inside.limit (stabilisations_of c.self.inside.unended.each) c.self.inside.clients c.self.inside.pages) c.args.self.now
    c.self.inside.unended.each c.in_ok-one.one c.doubtful.result c.self.view_is refl c.doubtful.ensures c.in_ok-one.was

sound : (c : goal.After-commit) → IsSound c.args.self.now
sound c = subst IsSound c.self.view_is c.self.invariant.0

turn : (c : goal.After-commit) → IsChange settled (Some c.commit.result) c.args.self.now c.commit.new.self
turn c =
    subst (λ (n : ℕ). IsChange settled (Some n) c.args.self.now c.commit.new.self) (sym c.commit.ensures.mark)
    (settled_turn c.args.self.now (stabilisation_of c.in_ok-one.one) (found c) c.commit.new.self c.commit.ensures.commits (sound c))

pub returns-clause-turn : goal.returns-clause-turn
returns-clause-turn c = turn c

pub returns-clause-frames : goal.returns-clause-frames
returns-clause-frames c base frames = frames_committed base (stabilisation_of c.in_ok-one.one) c.args.self.now c.commit.new.self c.commit.ensures.commits (sound c) frames

pub returns-clause-others : goal.returns-clause-others
returns-clause-others c = settle_keeps c.args.self.now c.commit.new.self (Some c.commit.result) (turn c)

pub returns-clause-leads : goal.returns-clause-leads
returns-clause-leads c = settle_leaves c.args.self.now c.commit.new.self (Some c.commit.result) (turn c)
