use Rattle.casper_app.proofs.WantLemmas.{wants_made}
use Rattle.casper_app.proofs.schedule.rising.Goals as goal

pub returns : goal.returns
returns c = wants_made c.args.list.now c.new.result c.new.ensures.exactly c.new.ensures.wants
