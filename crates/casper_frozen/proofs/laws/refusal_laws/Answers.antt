use Rattle.casper_frozen.proofs.Refusing.{refusal_comes_first}
use Rattle.casper_frozen.proofs.laws.refusal_laws.Goals as goal

pub returns : goal.returns
returns c = record { first = refusal_comes_first }
