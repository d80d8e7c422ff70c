use Rattle.casper_trail.proofs.Parts.{fate_of_more, fate_of_more_entries, part_of_more, live_of_more_entries, open_of_more_entries, stable_of_more_entries, open_after_mark, live_after_commit}
use Rattle.casper_trail.proofs.laws.part_laws.Goals as goal

pub returns : goal.returns
returns c = record {
  fate = fate_of_more;
  fate_entries = fate_of_more_entries;
  part = part_of_more;
  live = live_of_more_entries;
  open_part = open_of_more_entries;
  stable = stable_of_more_entries;
  after_mark = open_after_mark;
  after_commit = live_after_commit;
}
