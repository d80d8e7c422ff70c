use Rattle.std.proofs.Common.{◌≡◌, ℕ, List, Option}
use Rattle.std.specs.Io.KnownBytes.{prepend_known}
use Rattle.casper_io.specs.Lines.{IsShortLine}

-- a part of a line has been read since the call began, and no read has failed
pub record ReadsPart (first now : Option (List ℕ)) (line : List ℕ) (faults_before faults_now : ℕ) : Type 0 where
  pub bytes : IsShortLine line
  pub given : first ≡ prepend_known line now
  pub counted : faults_now ≡ faults_before
