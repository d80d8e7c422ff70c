use Rattle.casper_io.proofs.Cut.{each_cut_once}
use Rattle.casper_io.proofs.laws.each_is_cut_once.Goals as goal

pub returns : goal.returns
returns c = each_cut_once
