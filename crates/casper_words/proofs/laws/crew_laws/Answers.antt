use Rattle.casper_words.proofs.CrewLemmas.{has_member_crew_of, IsCrew_crew_of, same_crew, client_from_member, IsStrictlyIncreasing_crew, least_from_first}
use Rattle.casper_words.proofs.laws.crew_laws.Goals as goal

pub returns : goal.returns
returns c = record {
  members = has_member_crew_of;
  crews = IsCrew_crew_of;
  equal = same_crew;
  clients = client_from_member;
  rise = IsStrictlyIncreasing_crew;
  least = least_from_first;
}
