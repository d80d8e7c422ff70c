use Rattle.casper_stable.proofs.OpeningLemmas.{read_adds, sync_adds}
use Rattle.casper_stable.proofs.opening.read_settled.Goals as goal

pub returns-in_err-found-clause-images : goal.returns-in_err-found-clause-images
returns-in_err-found-clause-images g c told =
    let disk = c.args.disk.now in
    read_adds g.D.Disk.content g.D.Disk.loose g.D.Disk.moment g.D.Disk.images_since disk c.read_found.new.disk
    (c.read_found.ensures.read told)
    (λ image since. g.met.D.Disk.images_agree disk image told (g.met.D.Disk.only_now disk image told since))

pub returns-in_err-sync-clause-images : goal.returns-in_err-sync-clause-images
returns-in_err-sync-clause-images g c told =
    let disk = c.args.disk.now in
    let after = c.sync.new.self in
    sync_adds g.D.Disk.content g.D.Disk.loose g.D.Disk.moment g.D.Disk.images_since disk c.read_found.new.disk after
    (c.read_found.ensures.read told)
    (λ image since. g.met.D.Disk.images_agree disk image told (g.met.D.Disk.only_now disk image told since))
    (λ earlier later image order since. g.met.D.Disk.earlier_counts after earlier later image told order since) (c.sync.ensures.images told)

pub returns-clause-images : goal.returns-clause-images
returns-clause-images g c told =
    let disk = c.args.disk.now in
    let after = c.sync.new.self in
    sync_adds g.D.Disk.content g.D.Disk.loose g.D.Disk.moment g.D.Disk.images_since disk c.read_found.new.disk after
    (c.read_found.ensures.read told)
    (λ image since. g.met.D.Disk.images_agree disk image told (g.met.D.Disk.only_now disk image told since))
    (λ earlier later image order since. g.met.D.Disk.earlier_counts after earlier later image told order since) (c.sync.ensures.images told)
