use Rattle.std.proofs.Common.{◌≡◌, take}
use Rattle.casper_assoc.specs.TrailAssociations.{pages_in, AreSound, TouchesEach}
use Rattle.casper_assoc.proofs.associations.Associations.touch_each.Given as goal

-- the pages of the wants so far are touched
abbrev pub invariant-loop-want : goal.invariant-loop-want
invariant-loop-want l = record {
  trail : TouchesEach l.initial.self l.self l.who (take l.want-index l.wants);
  pages : pages_in l.self ≡ pages_in l.initial.self;
  sound : AreSound l.self;
}
