use Rattle.std.proofs.Common.{refl, sym, inr, take, drop}
use Rattle.std.proofs.lemmas.List.{take-append-drop}
use Rattle.casper_app.proofs.ReadingLemmas.{rest_of_front}
use Rattle.casper_app.proofs.ending.write_last.Goals as goal

pub returns-in-Err-clause-written : goal.returns-in-Err-clause-written
returns-in-Err-clause-written g c = record {
  out = take c.in-Err.ensures.part.count c.args.bytes.now;
  taken = c.in-Err.ensures.part.taken;
  written = inr (
    refl,
    (
      drop c.in-Err.ensures.part.count c.args.bytes.now,
      rest_of_front c.args.bytes.now c.in-Err.ensures.part.count c.in-Err.ensures.part.short,
      sym (take-append-drop c.in-Err.ensures.part.count c.args.bytes.now),
    ),
  );
}
