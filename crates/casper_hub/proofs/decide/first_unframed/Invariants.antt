use Rattle.std.proofs.Common.{◌≡◌, drop}
use Rattle.casper_hub.specs.Deciding.{unframed_in}
use Rattle.casper_hub.proofs.decide.first_unframed.Given as goal

abbrev pub invariant-loop-want : goal.invariant-loop-want
invariant-loop-want l = unframed_in l.pages (drop l.want-index l.missing) ≡ unframed_in l.pages l.missing
