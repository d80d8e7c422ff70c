use Rattle.casper_disk.specs.Disk.{with_loose}
use Rattle.casper_commit.specs.States.{OpensTo}
use Rattle.casper_commit.proofs.StateLemmas.{loose_place, free_loose, stands_wrote, stands_meanwhile}
use Rattle.casper_commit.proofs.AddedLemmas.{adds_by}
use Rattle.casper_commit.proofs.frames.put_frame.Goals as goal

pub returns-clause-stands : goal.returns-clause-stands
returns-clause-stands g c told closed root free base is_free stands =
    let disk = c.args.disk.now in
    let after = c.write.new.self in
    stands_wrote closed root free base (g.D.Disk.content disk) (g.D.Disk.content after) (g.D.Disk.loose disk) (g.D.Disk.loose after) c.args.at stands
    (free_loose (loose_place closed root.slot) c.args.at free is_free) (c.write.ensures.others told)
    (c.write.ensures.loose told)

pub returns-clause-images : goal.returns-clause-images
returns-clause-images g c told closed root free base is_free stands =
    let disk = c.args.disk.now in
    let after = c.write.new.self in
    adds_by g.D.Disk.moment g.D.Disk.images_since disk after (with_loose c.args.at (g.D.Disk.loose disk)) (g.D.Disk.content disk) (OpensTo root free base)
    (c.write.ensures.images told)
    (λ image agrees. stands_meanwhile closed root free base (g.D.Disk.content disk) image (g.D.Disk.loose disk) c.args.at stands
    (free_loose (loose_place closed root.slot) c.args.at free is_free) agrees)
