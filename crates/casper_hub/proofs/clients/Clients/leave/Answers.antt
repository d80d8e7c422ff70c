use Rattle.std.proofs.Common.{None}
use Rattle.casper_hub.proofs.ShownPlaces.{shown_set}
use Rattle.casper_hub.proofs.clients.Clients.leave.Goals as goal

pub returns : goal.returns
returns c = shown_set c.self.inside.places.items c.args.self.now c.number.result c.args.who None c.self.view_is c.number.ensures.number
