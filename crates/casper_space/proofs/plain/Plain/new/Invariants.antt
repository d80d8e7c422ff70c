use Rattle.std.proofs.Common.{◌≡◌, replicate}
use Rattle.casper_space.proofs.plain.Plain.new.Given as goal

abbrev pub invariant-loop : goal.invariant-loop
invariant-loop l = l.frames.items ≡ replicate l.counter (replicate 512 0)
