use Rattle.casper_commit.specs.States.{OpensTo, root_at}
use Rattle.casper_commit.proofs.StateLemmas.{standing_opens}
use Rattle.casper_commit.proofs.AddedLemmas.{adds_by, adds_then}
use Rattle.casper_commit.proofs.order.make_ready.Goals as goal

pub returns-in_err-sync-clause-images : goal.returns-in_err-sync-clause-images
returns-in_err-sync-clause-images g c told body free base is =
    let disk = c.args.disk.now in
    let between = c.close_unless_known.new.disk in
    let after = c.sync.new.self in
    let root = root_at c.args.standing.now body in
    let still = c.close_unless_known.ensures.stands told body free base is in
    adds_then g.D.Disk.moment g.D.Disk.images_since disk between after (OpensTo root free base)
    (λ earlier later image order since. g.met.D.Disk.earlier_counts after earlier later image told order since)
    (c.close_unless_known.ensures.images told body free base is)
    (adds_by g.D.Disk.moment g.D.Disk.images_since between after (g.D.Disk.loose between) (g.D.Disk.content between) (OpensTo root free base) (c.sync.ensures.images told)
    (λ image agrees. standing_opens c.args.standing.now.spare_closed root free base (g.D.Disk.content between) image (g.D.Disk.loose between) still agrees))

pub returns-clause-images : goal.returns-clause-images
returns-clause-images g c told body free base is =
    let disk = c.args.disk.now in
    let between = c.close_unless_known.new.disk in
    let after = c.sync.new.self in
    let root = root_at c.args.standing.now body in
    let still = c.close_unless_known.ensures.stands told body free base is in
    adds_then g.D.Disk.moment g.D.Disk.images_since disk between after (OpensTo root free base)
    (λ earlier later image order since. g.met.D.Disk.earlier_counts after earlier later image told order since)
    (c.close_unless_known.ensures.images told body free base is)
    (adds_by g.D.Disk.moment g.D.Disk.images_since between after (g.D.Disk.loose between) (g.D.Disk.content between) (OpensTo root free base) (c.sync.ensures.images told)
    (λ image agrees. standing_opens c.args.standing.now.spare_closed root free base (g.D.Disk.content between) image (g.D.Disk.loose between) still agrees))
