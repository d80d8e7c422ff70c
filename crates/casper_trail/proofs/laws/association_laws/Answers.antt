use Rattle.casper_trail.proofs.Rounds.{association_is_a_crew, association_is_settled, association_holds_its_client, association_goes_both_ways, association_goes_on, association_of_a_member, association_of_linked, association_is_least}
use Rattle.casper_trail.proofs.laws.association_laws.Goals as goal

pub returns : goal.returns
returns c = record {
  crew = association_is_a_crew;
  settled = association_is_settled;
  holds = association_holds_its_client;
  both = association_goes_both_ways;
  on = association_goes_on;
  member = association_of_a_member;
  linked = association_of_linked;
  least = association_is_least;
}
