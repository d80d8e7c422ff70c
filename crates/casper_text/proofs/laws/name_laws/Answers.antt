use Rattle.casper_text.proofs.NameLemmas.{names_are_bytes}
use Rattle.casper_text.proofs.laws.name_laws.Goals as goal

pub returns : goal.returns
returns c = names_are_bytes
