use Rattle.std.proofs.Common.{ap}
use Rattle.casper_shell.specs.Holding.{reading, writing}
use Rattle.casper_shell.specs.Lines.{wants_of}
use Rattle.casper_shell.proofs.Wanting.{first_within, both_within}
use Rattle.casper_shell.proofs.holding.hold_pages.Goals as goal

pub hold_to_write-requires : goal.hold_to_write-requires
hold_to_write-requires g c =
    record { within = first_within (g.Y.Session.pages c.args.session.now) (writing c.in-New.page) (ap wants_of c.in-New.is) c.requires.within }

pub hold_to_write-requires-in-Set : goal.hold_to_write-requires-in-Set
hold_to_write-requires-in-Set g c =
    record { within = first_within (g.Y.Session.pages c.args.session.now) (writing c.in-Set.r.page) (ap wants_of c.in-Set.is) c.requires.within }

pub hold_to_read-requires : goal.hold_to_read-requires
hold_to_read-requires g c =
    record { within = first_within (g.Y.Session.pages c.args.session.now) (reading c.in-Get.r.page) (ap wants_of c.in-Get.is) c.requires.within }

pub hold_to_read-requires-in-Follow : goal.hold_to_read-requires-in-Follow
hold_to_read-requires-in-Follow g c =
    record { within = first_within (g.Y.Session.pages c.args.session.now) (reading c.in-Follow.r.page) (ap wants_of c.in-Follow.is) c.requires.within }

pub hold_to_write-requires-in-Free : goal.hold_to_write-requires-in-Free
hold_to_write-requires-in-Free g c =
    record { within = first_within (g.Y.Session.pages c.args.session.now) (writing c.in-Free.r.page) (ap wants_of c.in-Free.is) c.requires.within }

pub hold_to_write-requires-in-Unbind : goal.hold_to_write-requires-in-Unbind
hold_to_write-requires-in-Unbind g c =
    record { within = first_within (g.Y.Session.pages c.args.session.now) (writing 0) (ap wants_of c.in-Unbind.is) c.requires.within }

pub hold_to_read-requires-in-Find : goal.hold_to_read-requires-in-Find
hold_to_read-requires-in-Find g c =
    record { within = first_within (g.Y.Session.pages c.args.session.now) (reading 0) (ap wants_of c.in-Find.is) c.requires.within }

pub hold_to_read-requires-in-Names : goal.hold_to_read-requires-in-Names
hold_to_read-requires-in-Names g c =
    record { within = first_within (g.Y.Session.pages c.args.session.now) (reading 0) (ap wants_of c.in-Names.is) c.requires.within }

pub hold_both-requires-clause-within : goal.hold_both-requires-clause-within
hold_both-requires-clause-within g c = (both_within (g.Y.Session.pages c.args.session.now) c.in-SetRef.r.page c.in-SetRef.to.page (ap wants_of c.in-SetRef.is) c.requires.within).0

pub hold_both-requires-clause-other_within : goal.hold_both-requires-clause-other_within
hold_both-requires-clause-other_within g c = (both_within (g.Y.Session.pages c.args.session.now) c.in-SetRef.r.page c.in-SetRef.to.page (ap wants_of c.in-SetRef.is) c.requires.within).1

pub hold_both-requires-in-Bind-clause-within : goal.hold_both-requires-in-Bind-clause-within
hold_both-requires-in-Bind-clause-within g c = (both_within (g.Y.Session.pages c.args.session.now) 0 c.in-Bind.r.page (ap wants_of c.in-Bind.is) c.requires.within).0

pub hold_both-requires-in-Bind-clause-other_within : goal.hold_both-requires-in-Bind-clause-other_within
hold_both-requires-in-Bind-clause-other_within g c = (both_within (g.Y.Session.pages c.args.session.now) 0 c.in-Bind.r.page (ap wants_of c.in-Bind.is) c.requires.within).1
