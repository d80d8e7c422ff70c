use Rattle.std.proofs.Common.{ℕ, Bool, List}
use Rattle.std.specs.Prelude.{Result, Ok, Err, OnOk}
use Rattle.casper_commit.specs.Pieces.{HoldPieces}
use Rattle.casper_commit.specs.Root.{Root}
use Rattle.casper_commit.specs.States.{StandsBeside}
use Rattle.casper_commit.proofs.StateLemmas.{stands_same}
use Rattle.casper_stable.specs.Writing.{Written, HoldsWritten, piece_count, piece_place, IsPiece}

-- a fact of an Ok makes another
pub on_ok_more : {T E P Q : Type 0} (result : Result T E) → (P → Q) → OnOk result P → OnOk result Q
on_ok_more (Ok value) more fact = more fact
on_ok_more (Err fault) more fact = tt

-- blocks in which a root stands, and which hold what was written
pub held_written : (written : Written) (closed : Bool) (root : Root) (free : ℕ → Bool) (base content : List (List ℕ)) (loose : ℕ
    → Bool) → StandsBeside closed root free base content loose
    → HoldPieces piece_place IsPiece written (piece_count written) content → HoldsWritten written free base content
held_written written closed root free base content loose stands all = record {
  agrees = (stands_same closed root free base content loose stands).2;
  holds = all;
}
