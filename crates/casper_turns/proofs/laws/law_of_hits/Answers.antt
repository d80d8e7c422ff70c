use Rattle.casper_turns.proofs.HitTurns.{read_hit_keeps, write_hit_keeps, read_hit_is_right, write_hit_is_right}
use Rattle.casper_turns.proofs.laws.law_of_hits.Goals as goal

pub returns-clause-read : goal.returns-clause-read
returns-clause-read c = read_hit_keeps

pub returns-clause-write : goal.returns-clause-write
returns-clause-write c = write_hit_keeps

pub returns-clause-right : goal.returns-clause-right
returns-clause-right c = read_hit_is_right

pub returns-clause-silent : goal.returns-clause-silent
returns-clause-silent c = write_hit_is_right
