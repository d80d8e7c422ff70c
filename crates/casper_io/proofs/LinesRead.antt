use Rattle.std.proofs.Common.{ℕ, List, [], ◌∷◌, ◌++◌, Option, sym, subst, refl}
use Rattle.casper_io.specs.Lines.{TakesLine}
use Rattle.casper_io.specs.Reading.{ReadsLines}
use Rattle.casper_io.specs.Told.{WhereTold}

-- one more line stands after those that were read
pub reads_more : (first : Option (List ℕ)) (lines : List (List ℕ)) (left : Option (List ℕ)) (line : List ℕ) (last : Option (List ℕ)) → ReadsLines first lines left → WhereTold left last (TakesLine line) → ReadsLines first (lines ++ line ∷ []) last
reads_more first [] left line last same takes = (last, subst (λ (f : Option (List ℕ)). WhereTold f last (TakesLine line)) (sym same) takes, refl)
reads_more first (one ∷ lines) left line last reads takes = (reads.0, reads.1, reads_more reads.0 lines left line last reads.2 takes)
