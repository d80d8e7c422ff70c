use Rattle.std.proofs.Common.{subst}
use Rattle.std.specs.Iterator.{Yields}
use Rattle.casper.proofs.words_of.Goals as goal

-- The loop gave each text that it took, up to the iterator's end.
pub returns : goal.returns
returns g c =
    let gave =
    subst (λ first. Yields g.I.Iterator.next_gives first c.loop-text.yielded c.loop-text.text-iterator)
    c.into_iter-text-iterator.ensures.into_iter_gives c.loop-text.yielded_by
    in
    (c.loop-text.yielded, (c.next.new.self, (c.loop-text.text-iterator, gave, c.in-None.ensures.steps)), c.loop-text.invariant)
