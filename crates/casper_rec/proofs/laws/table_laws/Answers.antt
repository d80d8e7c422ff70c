use Rattle.casper_rec.proofs.ApartLemmas.{tables_stand_apart}
use Rattle.casper_rec.proofs.laws.table_laws.Goals as goal

pub returns : goal.returns
returns c = tables_stand_apart
