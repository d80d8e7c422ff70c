use Rattle.casper_text.proofs.DigitLemmas.{HasRead}
use Rattle.casper_text.proofs.numbers.number.Given as goal

abbrev pub invariant-loop-byte : goal.invariant-loop-byte
invariant-loop-byte l = HasRead l.word l.byte-index l.value
