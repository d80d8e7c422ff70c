use Rattle.std.proofs.Common.{◌≡◌, length, take}
use Rattle.casper_assoc.specs.Labelling.{IsSound}
use Rattle.casper_assoc.specs.TrailLabels.{NotesCalls}
use Rattle.casper_assoc.proofs.associations.label_written.Given as goal

-- the pages of the calls so far are labelled
abbrev pub invariant-loop-call : goal.invariant-loop-call
invariant-loop-call l = record {
  noted : NotesCalls l.initial.labels l.labels l.who (take l.call-index l.calls);
  parts : l.labels.labels ≡ l.initial.labels.labels;
  count : length l.labels.writers ≡ length l.initial.labels.writers;
  sound : IsSound l.labels;
}
