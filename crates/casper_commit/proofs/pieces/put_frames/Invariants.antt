use Rattle.std.proofs.Common.{◌≡◌, ◌≤◌, ℕ, Bool, List, IsTrue}
use Rattle.casper_disk.specs.Disk.{AgreesBut}
use Rattle.casper_commit.specs.Added.{AddsImages}
use Rattle.casper_commit.specs.Pieces.{GoInto, AreApart, HoldPieces}
use Rattle.casper_commit.specs.Root.{Root}
use Rattle.casper_commit.specs.States.{OpensTo, StandsBeside}
use Rattle.casper_commit.proofs.pieces.put_frames.Given as goal

abbrev pub invariant-loop-piece : goal.invariant-loop-piece
invariant-loop-piece g l = record {
  written : IsTrue g.D.Disk.tells → AreApart g.P.Pieces.count g.P.Pieces.place l.pieces
      → HoldPieces g.P.Pieces.place g.P.Pieces.is_piece l.pieces l.piece (g.D.Disk.content l.disk);
  others : IsTrue g.D.Disk.tells → (some : ℕ → Bool) → GoInto g.P.Pieces.count g.P.Pieces.place some l.pieces
      → AgreesBut some (g.D.Disk.content l.initial.disk) (g.D.Disk.content l.disk);
  stands : IsTrue g.D.Disk.tells → (closed : Bool) (root : Root) (free : ℕ → Bool) (base : List (List ℕ))
      → GoInto g.P.Pieces.count g.P.Pieces.place free l.pieces
      → StandsBeside closed root free base (g.D.Disk.content l.initial.disk) (g.D.Disk.loose l.initial.disk)
      → StandsBeside closed root free base (g.D.Disk.content l.disk) (g.D.Disk.loose l.disk);
  images : IsTrue g.D.Disk.tells → (closed : Bool) (root : Root) (free : ℕ → Bool) (base : List (List ℕ))
      → GoInto g.P.Pieces.count g.P.Pieces.place free l.pieces
      → StandsBeside closed root free base (g.D.Disk.content l.initial.disk) (g.D.Disk.loose l.initial.disk)
      → AddsImages g.D.Disk.moment g.D.Disk.images_since l.initial.disk l.disk (OpensTo root free base);
  size : g.D.Disk.size l.disk ≡ g.D.Disk.size l.initial.disk;
  leads : g.D.Disk.leads_to l.initial.disk l.disk;
  never_falls : g.D.Disk.faults l.initial.disk ≤ g.D.Disk.faults l.disk;
}
