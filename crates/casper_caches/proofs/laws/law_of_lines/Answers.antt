use Rattle.casper_caches.proofs.Lines.{every_held_read, every_held_write, every_held_line}
use Rattle.casper_caches.proofs.laws.law_of_lines.Goals as goal

pub returns-clause-read : goal.returns-clause-read
returns-clause-read c = every_held_read

pub returns-clause-write : goal.returns-clause-write
returns-clause-write c = every_held_write

pub returns-clause-line : goal.returns-clause-line
returns-clause-line c = every_held_line
