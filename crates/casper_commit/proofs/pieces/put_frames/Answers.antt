use Rattle.std.proofs.Common.{◌≡◌, ℕ, ◌<◌, Bool, true, refl, ◌∙◌, ap, arith}
use Rattle.casper_disk.specs.Record.{agrees_itself}
use Rattle.casper_commit.specs.Pieces.{GoInto}
use Rattle.casper_commit.specs.States.{OpensTo}
use Rattle.casper_commit.proofs.AddedLemmas.{adds_none, adds_then}
use Rattle.casper_commit.proofs.PieceLemmas.{one_more}
use Rattle.casper_commit.proofs.StateLemmas.{agrees_on, wrote_within, standing_opens}
use Rattle.casper_commit.proofs.pieces.put_frames.Goals as goal

pub loop-piece-init : goal.loop-piece-init
loop-piece-init g c =
    let disk = c.args.disk.now in
    record {
      written = λ told apart piece none. absurd (omega (arith, none));
      others = λ told some into. agrees_itself some (g.D.Disk.content disk);
      stands = λ told closed root free base into is. is;
      images = λ told closed root free base into is. adds_none g.D.Disk.moment g.D.Disk.images_since disk (OpensTo root free base)
          (λ image since. standing_opens closed root free base (g.D.Disk.content disk) image (g.D.Disk.loose disk) is
          (g.met.D.Disk.images_agree disk image told (g.met.D.Disk.only_now disk image told since)));
      size = refl;
      leads = g.met.D.Disk.leads_to_itself disk;
      never_falls = omega arith;
    }

pub loop-piece-preserved : goal.loop-piece-preserved
loop-piece-preserved g c =
    let start = c.args.disk.now in
    let disk = c.loop-piece.disk in
    let after = c.put_frame.new.disk in
    let held = c.loop-piece.invariant in
    let pieces = c.args.pieces.now in
    let piece = c.loop-piece.piece in
    let within : piece < g.P.Pieces.count pieces = omega (arith, c.loop-piece-test.true, c.count-piece-end.ensures) in
    let goes : (some : ℕ → Bool) → GoInto g.P.Pieces.count g.P.Pieces.place some pieces → some c.place.result ≡ true =
    λ some into. ap some c.place.ensures ∙ into piece within in
    let fits : c.place.result < g.D.Disk.size disk = omega (arith, c.requires piece within, c.place.ensures, held.size) in
    record {
      written = λ told apart. one_more (g.P.Pieces.place pieces) (g.P.Pieces.is_piece pieces) (g.P.Pieces.count pieces) piece (g.D.Disk.content disk) (g.D.Disk.content after)
          c.place.result c.fill.new.into apart within c.place.ensures c.fill.ensures (omega (arith, fits, g.met.D.Disk.sized disk told))
          (c.in_ok-put_frame.ensures.written told) (c.put_frame.ensures.others told) (held.written told apart);
      others = λ told some into. agrees_on some (g.D.Disk.content start) (g.D.Disk.content disk) (g.D.Disk.content after) (held.others told some into)
          (wrote_within some c.place.result (g.D.Disk.content disk) (g.D.Disk.content after) (goes some into) (c.put_frame.ensures.others told));
      stands = λ told closed root free base into is. c.put_frame.ensures.stands told closed root free base (goes free into) (held.stands told closed root free base into is);
      images = λ told closed root free base into is. adds_then g.D.Disk.moment g.D.Disk.images_since start disk after (OpensTo root free base)
          (λ earlier later image order since. g.met.D.Disk.earlier_counts after earlier later image told order since)
          (held.images told closed root free base into is)
          (c.put_frame.ensures.images told closed root free base (goes free into) (held.stands told closed root free base into is));
      size = c.put_frame.ensures.size ∙ held.size;
      leads = g.met.D.Disk.leads_on start disk after held.leads c.put_frame.ensures.leads;
      never_falls = omega (arith, held.never_falls, c.put_frame.ensures.never_falls);
    }
