use Rattle.std.proofs.Common.{rules, tests, ◌∙◌, ◌&&◌, ◌==◌}
use Rattle.std.proofs.lemmas.Iterator.{YieldsList-from_slice}
use Rattle.std.proofs.lemmas.Iterator.Search.{find_from_yields_List}
use Rattle.casper_gather.specs.Unended.{is_sealed}
use Rattle.casper_gather.proofs.unended.sealed_one_of.Goals as goal

pub returns : goal.returns
returns c =
    c.copied.ensures ∙ find_from_yields_List (λ one. (one.lead == c.args.lead) && is_sealed one.phase) _ _ c.find.result c.find.ensures.ran (YieldsList-from_slice c.args.each.now cc) (λ x b q k. search (rules, tests))
