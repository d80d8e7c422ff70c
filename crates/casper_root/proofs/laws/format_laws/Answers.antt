use Rattle.casper_root.proofs.FormatLemmas.{headers_are_read, bodies_are_read, gates_are_read}
use Rattle.casper_root.proofs.WrittenLemmas.{opened_as_written}
use Rattle.casper_root.proofs.laws.format_laws.Goals as goal

pub returns : goal.returns
returns c = record { headers = headers_are_read; bodies = bodies_are_read; gates = gates_are_read; opened = opened_as_written }
