use Rattle.std.proofs.Common.{◌≡◌, ◌++◌, drop}
use Rattle.casper_trail.specs.Calls.{calls_of}
use Rattle.casper_trail.proofs.trail.Trail.entries_of.Given as goal

-- the calls so far, with those of the items that are left, are the calls of all items
abbrev pub invariant-loop-item : goal.invariant-loop-item
invariant-loop-item l = l.calls.items ++ calls_of (drop l.item-index l.self.items) l.who ≡ calls_of l.self.items l.who
