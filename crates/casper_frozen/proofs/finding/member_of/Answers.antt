use Rattle.std.proofs.Common.{◌==◌, List, length, sym, ap, ◌∙◌}
use Rattle.casper_words.specs.Crew.{has_member}
use Rattle.casper_gather.specs.declared.stab.Stab.{Stab}
use Rattle.casper_frozen.proofs.Among.{member_is_found, no_member, found_is_unended}
use Rattle.casper_frozen.proofs.finding.member_of.Goals as goal

pub returns-then-is_empty : goal.returns-then-is_empty
returns-then-is_empty c = record {
  member = no_member c.args.unended.now c.args.associations.now c.args.who
      (ap (λ (each : List Stab). length each == 0) (sym c.each.ensures) ∙ sym c.is_empty.ensures ∙ c.if-is_empty.true);
  unended = tt;
}

pub returns : goal.returns
returns c = record {
  member = member_is_found c.args.unended.now c.args.associations.now c.args.who c.members-own.result c.led_among.result
      c.members-own.ensures.members c.led_among.ensures;
  unended = found_is_unended c.args.unended.now (λ one. has_member one.lead c.members-own.result) c.led_among.result c.led_among.ensures;
}
