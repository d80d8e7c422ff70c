use Rattle.casper_caches.proofs.Caches.{every_hit_first, every_order, every_gain, every_unasked, every_to_read, every_serve, every_refusal, every_front, every_oldest}
use Rattle.casper_caches.proofs.laws.law_of_caches.Goals as goal

pub returns-clause-hit : goal.returns-clause-hit
returns-clause-hit c = every_hit_first

pub returns-clause-order : goal.returns-clause-order
returns-clause-order c = every_order

pub returns-clause-less : goal.returns-clause-less
returns-clause-less c = every_gain

pub returns-clause-unasked : goal.returns-clause-unasked
returns-clause-unasked c = every_unasked

pub returns-clause-reading : goal.returns-clause-reading
returns-clause-reading c = every_to_read

pub returns-clause-serve : goal.returns-clause-serve
returns-clause-serve c = every_serve

pub returns-clause-refusal : goal.returns-clause-refusal
returns-clause-refusal c = every_refusal

pub returns-clause-front : goal.returns-clause-front
returns-clause-front c = every_front

pub returns-clause-oldest : goal.returns-clause-oldest
returns-clause-oldest c = every_oldest
