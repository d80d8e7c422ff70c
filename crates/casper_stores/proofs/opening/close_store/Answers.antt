use Rattle.casper_stable.specs.KeptBy.{kept_by}
use Rattle.casper_stable.specs.Opened.{shown}
use Rattle.casper_stores.proofs.ClosingLemmas.{closed_opens, opened_under}
use Rattle.casper_stores.proofs.opening.close_store.Goals as goal

pub returns-clause-left : goal.returns-clause-left
returns-clause-left g c told sure =
    let disk = g.H.Disk.Disk in
    let kept = kept_by c.args.store in
    opened_under disk.content (g.H.Shelf.place c.close.new.self c.args.name.now) c.into_disk.result kept.disk (shown disk.content kept)
    (c.close.ensures.stands told) c.into_disk.ensures
    (closed_opens disk.size disk.tells disk.content disk.loose kept c.args.store.stands (g.met.H.Shelf.disks_tell told) sure)
