use Rattle.std.proofs.Common.{◌≡◌, ◌<◌, ◌∙◌, true, length, ap, arith}
use Rattle.casper_disk.specs.Disk.{with_loose}
use Rattle.casper_root.specs.Slots.{body_place, other_slot}
use Rattle.casper_commit.specs.States.{OpensTo}
use Rattle.casper_commit.proofs.ResultLemmas.{on_ok_both}
use Rattle.casper_commit.proofs.RootLemmas.{stands_there}
use Rattle.casper_commit.proofs.StateLemmas.{itself_loose, stands_wrote, stands_meanwhile, body_written}
use Rattle.casper_commit.proofs.AddedLemmas.{adds_by}
use Rattle.casper_commit.proofs.order.put_body.Goals as goal

pub returns-clause-stands : goal.returns-clause-stands
returns-clause-stands g c told was free base is =
    let disk = c.args.disk.now in
    let after = c.write_and_sync.new.disk in
    let place : c.body_place.result ≡ body_place (other_slot c.args.current) = c.body_place.ensures.place ∙ ap body_place c.other_slot.ensures in
    stands_wrote true (record { slot = c.args.current; body = was }) free base (g.D.Disk.content disk) (g.D.Disk.content after)
    (g.D.Disk.loose disk) (g.D.Disk.loose after) c.body_place.result is
    (itself_loose (body_place (other_slot c.args.current)) c.body_place.result free place) (c.write_and_sync.ensures.others told) (c.write_and_sync.ensures.loose told)

pub returns-clause-images : goal.returns-clause-images
returns-clause-images g c told was free base is =
    let disk = c.args.disk.now in
    let after = c.write_and_sync.new.disk in
    let place : c.body_place.result ≡ body_place (other_slot c.args.current) = c.body_place.ensures.place ∙ ap body_place c.other_slot.ensures in
    adds_by g.D.Disk.moment g.D.Disk.images_since disk after (with_loose c.body_place.result (g.D.Disk.loose disk)) (g.D.Disk.content disk)
    (OpensTo (record { slot = c.args.current; body = was }) free base) (c.write_and_sync.ensures.images told)
    (λ image agrees. stands_meanwhile true (record { slot = c.args.current; body = was }) free base (g.D.Disk.content disk) image
    (g.D.Disk.loose disk) c.body_place.result is (itself_loose (body_place (other_slot c.args.current)) c.body_place.result free place) agrees)

pub returns-clause-at_gate : goal.returns-clause-at_gate
returns-clause-at_gate g c told was free base framed ready =
    let disk = c.args.disk.now in
    let after = c.write_and_sync.new.disk in
    let place : c.body_place.result ≡ body_place (other_slot c.args.current) = c.body_place.ensures.place ∙ ap body_place c.other_slot.ensures in
    let sized : g.D.Disk.size disk ≡ length (g.D.Disk.content disk) = g.met.D.Disk.sized disk told in
    let within : c.body_place.result < length (g.D.Disk.content disk) = omega (arith, sized, c.requires, c.body_place.ensures.fixed) in
    on_ok_both c.write_and_sync.result
    (λ written none. body_written (record { slot = c.args.current; body = was }) c.args.body.now free base framed (g.D.Disk.content disk) (g.D.Disk.content after)
    (g.D.Disk.loose disk) (g.D.Disk.loose after) c.body_place.result ready place (c.write_and_sync.ensures.others told)
    (stands_there (g.D.Disk.content disk) (g.D.Disk.content after) c.body_place.result c.args.body.now within written) none)
    (c.write_and_sync.ensures.written told) (c.write_and_sync.ensures.settled told)
