use Rattle.std.proofs.Common.{◌≡◌, ◌==◌, ◌&&◌, List, length, sym, ap, ◌∙◌}
use Rattle.casper_words.specs.Crew.{has_member}
use Rattle.casper_gather.specs.declared.stab.Stab.{Stab}
use Rattle.casper_frozen.specs.Finding.{is_gathering, gathering_among}
use Rattle.casper_frozen.proofs.Among.{gathering_is_found, no_gathering, found_is_unended, found_gathers}
use Rattle.casper_frozen.proofs.finding.gathering_of.Goals as goal

pub returns-then-is_empty : goal.returns-then-is_empty
returns-then-is_empty c = record {
  gathering = no_gathering c.args.unended.now c.args.associations.now c.args.who
      (ap (λ (each : List Stab). length each == 0) (sym c.each.ensures) ∙ sym c.is_empty.ensures ∙ c.if-is_empty.true);
  unended = tt;
  gathers = tt;
}

pub returns : goal.returns
returns c =
    let found : c.gathering_among.result ≡ gathering_among c.members-own.result c.args.unended.now.each =
    c.gathering_among.ensures ∙ ap (gathering_among c.members-own.result) c.each-2.ensures in
    record {
      gathering = gathering_is_found c.args.unended.now c.args.associations.now c.args.who c.members-own.result c.gathering_among.result
          c.members-own.ensures.members found;
      unended = found_is_unended c.args.unended.now (λ one. is_gathering one.phase && has_member one.lead c.members-own.result)
          c.gathering_among.result found;
      gathers = found_gathers c.args.unended.now.each c.members-own.result c.gathering_among.result found;
    }
