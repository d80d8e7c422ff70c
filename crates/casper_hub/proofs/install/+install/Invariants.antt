use Rattle.std.proofs.Common.{length}
use Rattle.casper_hub.proofs.install.«+install».Given as goal

abbrev pub decreases-install : goal.decreases-install
decreases-install l = length l.wants.now
