use Rattle.std.proofs.Common.{length, ◌≡◌, ℕ, List, refl, sym, ap, ◌∙◌, subst, arith}
use Rattle.std.specs.Prelude.{None}
use Rattle.casper_words.specs.Crew.{IsClient}
use Rattle.casper_gather.specs.Bookkeeping.{stabilisation_of}
use Rattle.casper_gather.specs.UnendedLaws.{stabilisations_of}
use Rattle.casper_model.specs.declared.reply.Loss.TheVariants as loss
use Rattle.casper_model.specs.Frozen.{is_member}
use Rattle.casper_model.specs.Loss.{loss_of}
use Rattle.casper_model.specs.Shared.{Shared}
use Rattle.casper_model.specs.Stabilisation.{Stabilisation, with_noted}
use Rattle.casper_turns.proofs.Lists.{find_found}
use Rattle.casper_hub.specs.HubFields.{hub_of}
use Rattle.casper_hub.specs.HubView.{HubView, fallen_in}
use Rattle.casper_hub.specs.Losing.{IsHeldOf, IsLostAtOnce}
use Rattle.casper_hub.specs.Shows.{Shows}
use Rattle.casper_hub.specs.Sound.{IsSound}
use Rattle.casper_hub.specs.Turns.{IsChange}
use Rattle.casper_hub.specs.Words.{FramesAreRight}
use Rattle.casper_hub.proofs.Bridged.{keeps_of}
use Rattle.casper_hub.proofs.LostKept.{noted_sound}
use Rattle.casper_hub.proofs.LostTurns.{IsHeldIn, with_stabilisations, noted_in, noted_now, lost_now, writes_nothing, bare_rolled_back, bare_writes_nothing}
use Rattle.casper_hub.proofs.Noting.{changed_in_machine}
use Rattle.casper_hub.proofs.RolledFrames.{frames_rolled_back}
use Rattle.casper_hub.proofs.ShownPlaces.{none_at}
use Rattle.casper_hub.proofs.StandsFor.{stands_for}
use Rattle.casper_hub.proofs.hub.Hub.lose_now.Goals as goal
use Rattle.casper_hub.proofs.DueMarks.{due_of_live}
use Rattle.casper_hub.proofs.Doubted.{as_many}

-- Where the loss is noted.

-- the hub before, and after
abbrev before_noting : goal.After-result-1 → HubView
before_noting c = hub_of c.self.inside.trail.items c.self.inside.limit (stabilisations_of c.self.inside.unended.each) c.self.inside.clients c.self.inside.pages

abbrev after_noting : goal.After-result-1 → HubView
after_noting c = hub_of c.self.inside.trail.items c.self.inside.limit (stabilisations_of c.change.new.self.each) c.self.inside.clients c.self.inside.pages

-- the stabilisation of the client, as the machine has it
abbrev held : goal.After-result-1 → Stabilisation
held c = stabilisation_of c.in-Some.held

client : (c : goal.After-result-1) → IsClient c.args.who
client c = (omega arith, omega arith)

up : (c : goal.After-result-1) → fallen_in (before_noting c) c.args.who ≡ None
up c = subst (λ (h : HubView). fallen_in h c.args.who ≡ None) (sym c.self.view_is) c.requires.up

is_held : (c : goal.After-result-1) → IsHeldIn (before_noting c) c.args.who (held c)
is_held c shared shows =
    subst (IsHeldOf c.self.inside.unended c.self.inside.associations c.args.who) c.in-Some.is c.held_of.ensures.held shared
    (keeps_of shared (before_noting c) c.self.inside.unended c.self.inside.associations shows c.self.invariant.0.stands refl c.self.invariant.1.associations)

list_is : (c : goal.After-result-1) → stabilisations_of c.change.new.self.each ≡ noted_in c.args.who (held c) (stabilisations_of c.self.inside.unended.each)
list_is c =
    let stands = stands_for (before_noting c) c.self.invariant.0.stands in
    let found = find_found (is_member stands.shared c.args.who) stands.shared.stabilisations (held c) (is_held c stands.shared stands.shows).0 in
    ap stabilisations_of c.change.ensures.each
    ∙ changed_in_machine stands.shared c.self.inside.unended.each c.in-Some.held c.note.new.self (with_noted c.args.who) stands.good stands.shows.stabilisations found.0
    (ap (λ (one : Stabilisation). one.lead) c.note.ensures.noted) c.note.ensures.noted

noting_is : (c : goal.After-result-1)
    → with_stabilisations (noted_in c.args.who (held c) (stabilisations_of c.self.inside.unended.each)) (before_noting c) ≡ after_noting c
noting_is c = ap (λ (list : List Stabilisation). with_stabilisations list (before_noting c)) (sym (list_is c))

sound_noting : (c : goal.After-result-1) → IsSound (after_noting c)
sound_noting c = subst IsSound (noting_is c) (noted_sound c.args.who (before_noting c) (held c) c.self.invariant.0 (client c) (up c) (is_held c))

pub invariant_of-self : goal.invariant_of-self
invariant_of-self c = (
  sound_noting c,
  record {
    limit = c.self.invariant.1.limit;
    associations = c.self.invariant.1.associations;
    pages = c.self.invariant.1.pages;
    room =
        let many = ap length c.change.ensures.each ∙ as_many c.note.new.self c.self.inside.unended.each in
        let room = c.self.invariant.1.room in
        omega (arith, many, room);
  },
)

pub returns-in-Some-clause-turn : goal.returns-in-Some-clause-turn
returns-in-Some-clause-turn c =
    subst (λ (h : HubView). IsChange (λ shared. loss_of shared c.args.who c.args.unrecorded) (loss.Noted c.in-Some.held.lead c.args.unrecorded) h (after_noting c)) c.self.view_is
    (subst (IsChange (λ shared. loss_of shared c.args.who c.args.unrecorded) (loss.Noted c.in-Some.held.lead c.args.unrecorded) (before_noting c)) (noting_is c)
    (noted_now c.args.who c.args.unrecorded (before_noting c) (held c) (is_held c)))

pub returns-in-Some-clause-unwritten : goal.returns-in-Some-clause-unwritten
returns-in-Some-clause-unwritten c = writes_nothing c.args.who (before_noting c) (held c) c.self.invariant.0 (is_held c)

pub returns-in-Some-clause-frames : goal.returns-in-Some-clause-frames
returns-in-Some-clause-frames c base frames = subst (FramesAreRight base) (sym c.self.view_is) frames

pub returns-in-Some-clause-sound : goal.returns-in-Some-clause-sound
returns-in-Some-clause-sound c = sound_noting c

-- Where the association was rolled back.

pub roll_back-mark-requires-clause-due : goal.roll_back-mark-requires-clause-due
roll_back-mark-requires-clause-due c = due_of_live c.args.who c.args.self.now c.requires.live

abbrev before : goal.After-roll_back-mark → HubView
before c = hub_of c.self.inside.trail.items c.self.inside.limit (stabilisations_of c.self.inside.unended.each) c.self.inside.clients c.self.inside.pages

sound_before : (c : goal.After-roll_back-mark) → IsSound c.args.self.now
sound_before c = subst IsSound c.self.view_is c.self.invariant.0

at_once : (c : goal.After-roll_back-mark) → (shared : Shared) → Shows shared c.args.self.now → IsLostAtOnce shared c.args.who
at_once c shared shows =
    subst (IsHeldOf c.self.inside.unended c.self.inside.associations c.args.who) (none_at c.held_of.result c.in_default.not-Some) c.held_of.ensures.held shared
    (keeps_of shared (before c) c.self.inside.unended c.self.inside.associations (subst (Shows shared) (sym c.self.view_is) shows) c.self.invariant.0.stands refl
    c.self.invariant.1.associations)

pub returns-clause-turn : goal.returns-clause-turn
returns-clause-turn c =
    subst (λ (n : ℕ). IsChange (λ shared. loss_of shared c.args.who c.args.unrecorded) (loss.Lost n c.args.unrecorded) c.args.self.now c.roll_back-mark.new.self)
    (sym c.roll_back-mark.ensures.mark)
    (lost_now c.args.who c.args.unrecorded c.args.self.now c.roll_back-mark.new.self (sound_before c) (at_once c) c.roll_back-mark.ensures.rolls)

pub returns-clause-unwritten : goal.returns-clause-unwritten
returns-clause-unwritten c =
    bare_writes_nothing c.args.who c.roll_back-mark.new.self
    (bare_rolled_back c.args.who c.args.self.now c.roll_back-mark.new.self (sound_before c) (omega arith, omega arith) c.roll_back-mark.ensures.rolls)

pub returns-clause-frames : goal.returns-clause-frames
returns-clause-frames c base frames =
    frames_rolled_back base c.args.who c.args.self.now c.roll_back-mark.new.self c.roll_back-mark.ensures.rolls (sound_before c) frames
