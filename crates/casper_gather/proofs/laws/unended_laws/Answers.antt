use Rattle.casper_gather.proofs.Shown.{found_by_lead, found_by_members, found_sealed, found_in_doubt, begun_alike, changed_alike, ended_alike, forgotten_alike}
use Rattle.casper_gather.proofs.laws.unended_laws.Goals as goal

pub returns : goal.returns
returns c = record {
  found = found_by_lead;
  by_members = found_by_members;
  sealed = found_sealed;
  in_doubt = found_in_doubt;
  begun = begun_alike;
  changed = changed_alike;
  ended = ended_alike;
  forgotten = forgotten_alike;
}
