use Rattle.std.proofs.Common.{rules, tests}
use Rattle.std.specs.Prelude.{not}
use Rattle.std.proofs.lemmas.Fn.{filter_same}
use Rattle.casper_words.specs.Crew.{has_member}
use Rattle.casper_gather.proofs.unended.end_each.Goals as goal

pub returns-clause-each : goal.returns-clause-each
returns-clause-each c =
    filter_same _ (λ one. not (has_member one.lead c.args.leads)) _ (λ x b q k. search (rules, tests)) _ _ c.retain.ensures.filtered
