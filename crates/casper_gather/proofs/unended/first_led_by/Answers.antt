use Rattle.std.proofs.Common.{rules, tests, ◌==◌, ◌∙◌}
use Rattle.std.proofs.lemmas.Iterator.{YieldsList-from_slice}
use Rattle.std.proofs.lemmas.Iterator.Search.{find_from_yields_List}
use Rattle.casper_gather.proofs.unended.first_led_by.Goals as goal

pub returns : goal.returns
returns c =
    c.copied.ensures ∙ find_from_yields_List (λ one. one.lead == c.args.lead) _ _ c.find.result c.find.ensures.ran (YieldsList-from_slice c.args.each.now cc) (λ x b q k. search (rules, tests))
