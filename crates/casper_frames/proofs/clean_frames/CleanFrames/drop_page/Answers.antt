use Rattle.std.proofs.Common.{◌∙◌, ap, sym, nat_eq}
use Rattle.std.specs.Map.{remove_entry}
use Rattle.casper_frames.specs.Keeping.{others}
use Rattle.casper_frames.specs.Stored.{shown}
use Rattle.casper_frames.proofs.Steps.{Leads, removed, unmoved}
use Rattle.casper_frames.proofs.StoredLemmas.{stored-at}
use Rattle.casper_frames.proofs.clean_frames.CleanFrames.drop_page.Goals as goal

pub remove-dropped-requires : goal.remove-dropped-requires
remove-dropped-requires c =
    stored-at c.self.inside.frames (nat_eq c.args.page) c.self.inside.index.entries c.in-Some.key c.self.invariant.1
    (sym c.pop.ensures.value ∙ c.in-Some.is)

step : (c : goal.After-drop-dropped-inside) →
    Leads c.self.inside.index.cap c.remove-dropped.new.self (remove_entry (nat_eq c.args.page) c.self.inside.index.entries)
    (others c.args.page (shown c.self.inside.frames c.self.inside.index.entries))
step c =
    removed c.self.inside.index.cap c.args.page c.in-Some.key c.self.inside.frames c.remove-dropped.new.self c.self.inside.index.entries
    c.self.invariant (sym c.pop.ensures.value ∙ c.in-Some.is) c.remove-dropped.ensures.updates

pub invariant_of-self : goal.invariant_of-self
invariant_of-self c = rw c.pop.ensures.entries (step c).holds

pub returns-in-Some-clause-dropped : goal.returns-in-Some-clause-dropped
returns-in-Some-clause-dropped c =
    let shows = (step c).shows ∙ ap (λ k. others c.args.page k.kept) c.self.view_is in
    rw c.pop.ensures.entries (λ i. record { bound = (c.self.view_is i).bound; kept = shows i })

pub returns-in-Some-clause-sound : goal.returns-in-Some-clause-sound
returns-in-Some-clause-sound c = rw c.pop.ensures.entries (step c).holds.0

still : (c : goal.In_default) →
    Leads c.self.inside.index.cap c.self.inside.frames (remove_entry (nat_eq c.args.page) c.self.inside.index.entries)
    (others c.args.page (shown c.self.inside.frames c.self.inside.index.entries))
still c =
    unmoved c.self.inside.index.cap c.args.page c.self.inside.frames c.self.inside.index.entries c.self.invariant
    (sym c.pop.ensures.value ∙ c.in_default.is)

pub invariant_of-self-in_default : goal.invariant_of-self-in_default
invariant_of-self-in_default c = rw c.pop.ensures.entries (still c).holds

pub returns-in_default-clause-dropped : goal.returns-in_default-clause-dropped
returns-in_default-clause-dropped c =
    let shows = (still c).shows ∙ ap (λ k. others c.args.page k.kept) c.self.view_is in
    rw c.pop.ensures.entries (λ i. record { bound = (c.self.view_is i).bound; kept = shows i })

pub returns-in_default-clause-sound : goal.returns-in_default-clause-sound
returns-in_default-clause-sound c = rw c.pop.ensures.entries (still c).holds.0
