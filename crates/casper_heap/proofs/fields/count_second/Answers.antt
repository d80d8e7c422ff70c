use Rattle.std.proofs.Common.{◌≡◌, ◌∙◌, ap, List}
use Rattle.casper_heap.specs.declared.block.HeapBlock.{HeapBlock}
use Rattle.casper_heap.specs.Walk.{fields_in}
use Rattle.casper_heap.proofs.Standing.{count_below}
use Rattle.casper_heap.proofs.fields.count_second.Goals as goal

pub returns-then-eq-clause-within : goal.returns-then-eq-clause-within
returns-then-eq-clause-within g c =
    count_below ((g.W.Words.seen c.args.words.now).words c.args.page) c.args.word c.fields_at.result
    (c.fields_at.ensures ∙ ap (λ (blocks : List HeapBlock). fields_in blocks c.args.word) c.requires.walked)
