use Rattle.std.proofs.Common.{◌≡◌, map, vec_len}
use Rattle.casper_audit.proofs.OpenedLemmas.{AreEmpty}
use Rattle.casper_audit.proofs.opened.Opened.new.Given as goal

abbrev pub invariant-loop : goal.invariant-loop
invariant-loop l = (vec_len l.places ≡ l.counter) × AreEmpty (map (λ list. list.items) l.places.items)
