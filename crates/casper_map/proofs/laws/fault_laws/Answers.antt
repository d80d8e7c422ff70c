use Rattle.casper_map.proofs.FineLemmas.{first_faulty_is_first, none_is_faulty, plans_add_no_fault}
use Rattle.casper_map.proofs.laws.fault_laws.Goals as goal

pub returns : goal.returns
returns c = record { first = first_faulty_is_first; none = none_is_faulty; plans = plans_add_no_fault }
