use Rattle.std.proofs.Common.{refl, sym, subst, set, get_or, ◌+◌}
use Rattle.casper_assoc.specs.TrailAssociations.{AssociationsView, CallsAreWithin, RecordsCalls}
use Rattle.casper_assoc.proofs.TrailAssociations.{recorded_at}
use Rattle.casper_assoc.proofs.associations.Associations.record.Goals as goal

pub label_written-requires-clause-within : goal.label_written-requires-clause-within
label_written-requires-clause-within c =
    subst (λ (all : AssociationsView). CallsAreWithin all c.args.calls.now) (sym c.self.view_is) c.requires.within

pub returns-clause-trail : goal.returns-clause-trail
returns-clause-trail c =
    let old : AssociationsView = record { labelling = c.self.inside.labels; counts = c.self.inside.open_calls } in
    let new : AssociationsView = record {
      labelling = c.label_written.new.labels;
      counts = set c.self.inside.open_calls c.number.result (get_or c.self.inside.open_calls c.number.result 0 + c.count_calls.result);
    } in
    subst (λ (all : AssociationsView). RecordsCalls all new c.args.who c.args.calls.now) c.self.view_is
    (recorded_at old new c.args.who c.number.result c.count_calls.result c.args.calls.now c.number.ensures.number
    (c.number.ensures.least, c.number.ensures.most) c.self.invariant.places c.label_written.ensures.noted c.label_written.ensures.parts
    c.count_calls.ensures refl)
