use Rattle.std.proofs.Common.{◌≡◌, ◌∙◌, ap, List}
use Rattle.casper_heap.specs.declared.block.HeapBlock.{HeapBlock}
use Rattle.casper_heap.specs.Walk.{fields_in}
use Rattle.casper_heap.proofs.Standing.{count_within}
use Rattle.casper_heap.proofs.fields.count_fields.Goals as goal

pub returns-clause-within : goal.returns-clause-within
returns-clause-within g c =
    count_within ((g.W.Words.seen c.args.words.now).words c.args.page) c.args.word c.fields_at.result
    (c.fields_at.ensures ∙ ap (λ (blocks : List HeapBlock). fields_in blocks c.args.word) (c.deref.ensures.0 ∙ c.walk_page-walk.ensures.blocks))
