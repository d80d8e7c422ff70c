use Rattle.std.proofs.Common.{rules, ltb}
use Rattle.std.proofs.lemmas.List.Sorted.{answers_always}
use Rattle.casper_words.proofs.WantsLemmas.{rise_answer}
use Rattle.casper_words.proofs.wants.pages_rise.Goals as goal

pub returns : goal.returns
returns c =
    rise_answer c.args.list.now c.is_sorted_by.result
    (c.is_sorted_by.ensures.cases (λ first second. ltb first.page second.page) (answers_always _ _ _ (λ f a r after called. search rules)))
