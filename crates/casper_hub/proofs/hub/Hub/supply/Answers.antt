use Rattle.std.proofs.Common.{◌≡◌, ◌∙◌, List, length, sym, ap, subst}
use Rattle.casper_dir.specs.declared.holders.Holders.{Holders}
use Rattle.casper_hub.specs.HubView.{HubView}
use Rattle.casper_hub.specs.HubFields.{hub_of}
use Rattle.casper_hub.specs.GoesOn.{KeepsClient, CommitsNothing}
use Rattle.casper_hub.proofs.Relying.{kept_itself, nothing_itself}
use Rattle.casper_hub.proofs.Supplied.{with_frames, kept_beside_frames, nothing_beside_frames}
use Rattle.casper_hub.proofs.NewHub.{sound_supplied}
use Rattle.casper_hub.proofs.hub.Hub.supply.Goals as goal
use Rattle.casper_gather.specs.UnendedLaws.{stabilisations_of}

pub invariant_of-self : goal.invariant_of-self
invariant_of-self c = (
  sound_supplied c.self.inside.trail.items c.self.inside.limit (stabilisations_of c.self.inside.unended.each) c.self.inside.clients c.self.inside.pages c.supply.new.self c.args.page c.args.frame c.self.invariant.0
      c.supply.ensures.rights c.supply.ensures.frames,
  record {
    limit = c.self.invariant.1.limit;
    associations = c.self.invariant.1.associations;
    pages = c.self.invariant.1.pages ∙ sym (ap length c.supply.ensures.rights);
    room = c.self.invariant.1.room;
  },
)

pub returns-clause-sound : goal.returns-clause-sound
returns-clause-sound c = (invariant_of-self c).0

pub returns-then-commits-marks-clause-others : goal.returns-then-commits-marks-clause-others
returns-then-commits-marks-clause-others c other = kept_itself other c.args.self.now

pub returns-then-commits-marks-clause-still : goal.returns-then-commits-marks-clause-still
returns-then-commits-marks-clause-still c = nothing_itself c.args.self.now

-- nothing but frames has changed
but_frames : (c : goal.After-supply) → hub_of c.self.inside.trail.items c.self.inside.limit (stabilisations_of c.self.inside.unended.each) c.self.inside.clients c.supply.new.self
    ≡ with_frames (hub_of c.self.inside.trail.items c.self.inside.limit (stabilisations_of c.self.inside.unended.each) c.self.inside.clients c.self.inside.pages) c.supply.new.self.frames
but_frames c =
    ap (λ (rights : List Holders). hub_of c.self.inside.trail.items c.self.inside.limit (stabilisations_of c.self.inside.unended.each) c.self.inside.clients (record { rights = rights; frames = c.supply.new.self.frames }))
    c.supply.ensures.rights

pub returns-clause-others : goal.returns-clause-others
returns-clause-others c other =
    subst (λ (h : HubView). KeepsClient other h (hub_of c.self.inside.trail.items c.self.inside.limit (stabilisations_of c.self.inside.unended.each) c.self.inside.clients c.supply.new.self)) c.self.view_is
    (kept_beside_frames other (hub_of c.self.inside.trail.items c.self.inside.limit (stabilisations_of c.self.inside.unended.each) c.self.inside.clients c.self.inside.pages)
    (hub_of c.self.inside.trail.items c.self.inside.limit (stabilisations_of c.self.inside.unended.each) c.self.inside.clients c.supply.new.self) (but_frames c))

pub returns-clause-still : goal.returns-clause-still
returns-clause-still c =
    subst (λ (h : HubView). CommitsNothing h (hub_of c.self.inside.trail.items c.self.inside.limit (stabilisations_of c.self.inside.unended.each) c.self.inside.clients c.supply.new.self)) c.self.view_is
    (nothing_beside_frames (hub_of c.self.inside.trail.items c.self.inside.limit (stabilisations_of c.self.inside.unended.each) c.self.inside.clients c.self.inside.pages)
    (hub_of c.self.inside.trail.items c.self.inside.limit (stabilisations_of c.self.inside.unended.each) c.self.inside.clients c.supply.new.self) (but_frames c))
