use Rattle.std.proofs.Common.{refl}
use Rattle.casper_audit.proofs.reading.read_line.Goals as goal

pub returns-in-Ok-TooLong-clause-next : goal.returns-in-Ok-TooLong-clause-next
returns-in-Ok-TooLong-clause-next g c = (refl, c.next_line.new.line, rw c.in-Ok-TooLong.field-0-is at c.in-Ok-TooLong.ensures.takes)

pub returns-in-Err-Failed-clause-next : goal.returns-in-Err-Failed-clause-next
returns-in-Err-Failed-clause-next g c = (c.next_line.new.line, rw c.in-Err-Failed.is at c.next_line.ensures.takes)
