use Rattle.std.proofs.Common.{◌+◌, List, ℕ}
use Rattle.std.specs.Prelude.{Option}
use Rattle.casper_map.specs.Reading.{IsRead, HasNoneFrom, HasSizesOf, StandAt}
use Rattle.casper_map.proofs.shadow_map.ShadowMap.put_all.Given as goal

abbrev pub invariant-loop-at : goal.invariant-loop-at
invariant-loop-at l = record {
  read : (all : List (Option ℕ)) → IsRead l.place all l.initial.self → StandAt l.place l.numbers all → IsRead (l.place + l.at) all l.self;
  unread : HasNoneFrom (l.place + l.at) l.self;
  sizes : HasSizesOf l.initial.self l.self;
}
