use Rattle.casper_commit.proofs.StateLemmas.{standing_opens, gate_decides, gate_tells, found_stands, standing_found, standing_rebased, standing_wider, gate_rebased}
use Rattle.casper_commit.proofs.laws.state_laws.Goals as goal

pub returns : goal.returns
returns c = record {
  standing = standing_opens;
  decides = gate_decides;
  tells = gate_tells;
  found = found_stands;
  found_standing = standing_found;
  rebased = standing_rebased;
  wider = standing_wider;
  gate_rebased = gate_rebased;
}
