use Rattle.std.proofs.Common.{rules, tests, ◌∙◌, ◌&&◌, not}
use Rattle.std.proofs.lemmas.Iterator.{YieldsList-from_slice}
use Rattle.std.proofs.lemmas.Iterator.Search.{find_from_yields_List}
use Rattle.casper_words.specs.Crew.{has_member}
use Rattle.casper_gather.specs.Unended.{is_doubtful}
use Rattle.casper_frozen.proofs.finding.frozen_among.Goals as goal

pub returns : goal.returns
returns c =
    c.copied.ensures ∙ find_from_yields_List (λ one. not (is_doubtful one.phase) && has_member one.lead c.args.members) _ _ c.find.result c.find.ensures.ran (YieldsList-from_slice c.args.each.now cc) (λ x b q k. search (rules, tests))
