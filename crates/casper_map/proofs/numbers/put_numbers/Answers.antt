use Rattle.std.proofs.Common.{◌≡◌, ◌*◌, ◌<◌, length, take, drop, ap, arith, length-append, length-drop}
use Rattle.casper_map.proofs.ByteLemmas.{bytes_of, one_number_more, all_numbers, length_front}
use Rattle.casper_map.proofs.numbers.put_numbers.Goals as goal

pub loop-place-preserved : goal.loop-place-preserved
loop-place-preserved c =
    let numbers = c.args.numbers.now in
    let first = c.args.into.now in
    let place = c.loop-place.place in
    let within : place < length numbers = omega (arith, c.told-numbers, c.loop-place-test.true) in
    let front : length (bytes_of (take place numbers)) ≡ 4 * place = length_front numbers place (omega arith) in
    record {
      written = one_number_more numbers first c.loop-place.into c.put.new.self c.to_le_bytes.result place within
          c.loop-place.invariant.written c.to_le_bytes.ensures c.put.ensures.bytes;
      block_long = λ some. omega (arith, c.put.ensures.long, ap length c.loop-place.invariant.written, length-append (bytes_of (take place numbers)) (drop (4 * place) first), length-drop (4 * place) first);
    }

pub returns : goal.returns
returns c =
    all_numbers c.args.numbers.now c.args.into.now c.loop-place.into c.loop-place.place (omega (arith, c.told-numbers)) c.told-numbers
    (c.loop-place.invariant.block_long (omega (arith, c.told-numbers))) c.loop-place.invariant.written
