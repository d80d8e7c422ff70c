use Rattle.std.proofs.Common.{◌≡◌, true, ap, sym, subst}
use Rattle.casper_root.specs.declared.slot.Slot.{Slot}
use Rattle.casper_commit.specs.States.{OpensTo, StandsBeside, root_at}
use Rattle.casper_commit.specs.Added.{AddsImages}
use Rattle.casper_commit.specs.declared.standing.Standing.{Standing}
use Rattle.casper_commit.proofs.AddedLemmas.{adds_then}
use Rattle.casper_commit.proofs.settling.prepare.Goals as goal

pub returns-clause-stands : goal.returns-clause-stands
returns-clause-stands g c told was free base is =
    let between = c.make_ready.new.disk in
    let after = c.put_body.new.disk in
    let root = root_at c.make_ready.new.standing was in
    let known : c.make_ready.new.standing.spare_closed ≡ true = ap (λ (standing : Standing). standing.spare_closed) c.in_ok-make_ready.ensures.known in
    subst (λ closed. StandsBeside closed root free base (g.D.Disk.content after) (g.D.Disk.loose after)) (sym known)
    (c.put_body.ensures.stands told was free base
    (subst (λ closed. StandsBeside closed root free base (g.D.Disk.content between) (g.D.Disk.loose between)) known (c.make_ready.ensures.stands told was free base is)))

pub returns-clause-images : goal.returns-clause-images
returns-clause-images g c told was free base is =
    let disk = c.args.disk.now in
    let between = c.make_ready.new.disk in
    let after = c.put_body.new.disk in
    let root = root_at c.make_ready.new.standing was in
    let known : c.make_ready.new.standing.spare_closed ≡ true = ap (λ (standing : Standing). standing.spare_closed) c.in_ok-make_ready.ensures.known in
    let slot : c.make_ready.new.standing.slot ≡ c.args.standing.now.slot = ap (λ (standing : Standing). standing.slot) c.in_ok-make_ready.ensures.known in
    let ready = subst (λ closed. StandsBeside closed root free base (g.D.Disk.content between) (g.D.Disk.loose between)) known (c.make_ready.ensures.stands told was free base is) in
    adds_then g.D.Disk.moment g.D.Disk.images_since disk between after (OpensTo (root_at c.args.standing.now was) free base)
    (λ earlier later image order since. g.met.D.Disk.earlier_counts after earlier later image told order since)
    (c.make_ready.ensures.images told was free base is)
    (subst (λ (at : Slot). AddsImages g.D.Disk.moment g.D.Disk.images_since between after (OpensTo (record { slot = at; body = was }) free base)) slot
    (c.put_body.ensures.images told was free base ready))
