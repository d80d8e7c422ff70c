use Rattle.std.proofs.Common.{◌≡◌, ℕ, ◌+◌, ◌<◌, ◌^◌, List, length, get_or, drop, ◌∙◌, ap, arith}
use Rattle.casper_rec.specs.Values.{values_of}
use Rattle.casper_root.specs.declared.found.FoundBody.{FoundBody}
use Rattle.casper_root.specs.Format.{body_fields}
use Rattle.casper_root.proofs.BlockLemmas.{small_in_body, numbers_behind}
use Rattle.casper_root.proofs.found.FoundBody.from_block.Goals as goal

pub overflow_cast-numbers : goal.overflow_cast-numbers
overflow_cast-numbers c =
    let same : c.read-values.result ≡ values_of body_fields c.args.block.now = c.read-values.ensures.values ∙ ap (λ fields. values_of fields c.args.block.now) c.body_rec.ensures in
    let long : length c.read-values.result ≡ 18 = ap length same in
    let small : get_or c.read-values.result (c.loop-place.place + 2) 0 < 2 ^ 32 = small_in_body _ c.read-values.result (c.loop-place.place + 2) c.body_rec.ensures c.read-values.ensures.fit long (omega arith) (omega arith) in
    omega arith

pub overflow_cast-count : goal.overflow_cast-count
overflow_cast-count c =
    let same : c.read-values.result ≡ values_of body_fields c.args.block.now = c.read-values.ensures.values ∙ ap (λ fields. values_of fields c.args.block.now) c.body_rec.ensures in
    let long : length c.read-values.result ≡ 18 = ap length same in
    let small : get_or c.read-values.result 1 0 < 2 ^ 32 = small_in_body _ c.read-values.result 1 c.body_rec.ensures c.read-values.ensures.fit long (omega arith) (omega arith) in
    omega arith

pub returns : goal.returns
returns c =
    let same : c.read-values.result ≡ values_of body_fields c.args.block.now = c.read-values.ensures.values ∙ ap (λ fields. values_of fields c.args.block.now) c.body_rec.ensures in
    let long : length c.read-values.result ≡ 18 = ap length same in
    let numbers : c.loop-place.numbers ≡ drop 2 c.read-values.result = numbers_behind c.read-values.result c.loop-place.numbers long c.loop-place.invariant.long (λ k within. c.loop-place.invariant.read k (omega arith)) in
    let found : List ℕ → List ℕ → FoundBody = λ values rest. record { seq = get_or values 0 0; count = get_or values 1 0; numbers = rest } in
    ap (found c.read-values.result) numbers ∙ ap (λ values. found values (drop 2 values)) same
