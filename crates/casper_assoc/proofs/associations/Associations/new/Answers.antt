use Rattle.std.proofs.Common.{refl, replicate}
use Rattle.casper_assoc.proofs.TrailAssociations.{begun}
use Rattle.casper_assoc.proofs.associations.Associations.new.Goals as goal

pub returns-clause-trail : goal.returns-clause-trail
returns-clause-trail c =
    begun (record { labelling = c.in_ok-labels.labels; counts = replicate 33 0 })
    c.in_ok-labels.ensures.alone c.in_ok-labels.ensures.unlabelled refl
