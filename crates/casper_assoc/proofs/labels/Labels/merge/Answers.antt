use Rattle.std.proofs.Common.{sym, subst}
use Rattle.casper_assoc.specs.Labelling.{Labelling, IsLabel}
use Rattle.casper_assoc.proofs.Parts.{merged_sound}
use Rattle.casper_assoc.proofs.labels.Labels.merge.Goals as goal

pub invariant_of-self : goal.invariant_of-self
invariant_of-self c =
    merged_sound (record {
      labels = c.self.inside.labels;
      writers =
          c.self.inside.pages;
    }) c.rename.new.labels c.args.a c.args.b c.self.invariant
    (subst (λ (all : Labelling). IsLabel all c.args.a)
    (sym c.self.view_is) c.requires.first) c.rename.ensures.count c.rename.ensures.renamed

pub returns-clause-sound : goal.returns-clause-sound
returns-clause-sound c = invariant_of-self c
