use Rattle.std.specs.Prelude.{ℕ, List, [], ◌∷◌, codes}
use Rattle.std.specs.Fmt.{decimal}
use Rattle.casper_report.specs.Texts.{joined}
use Rattle.casper_stores.specs.declared.checking.Checked.{Checked}

-- the line for a store that was made
abbrev pub formatted_line : ℕ → ℕ → List ℕ
formatted_line pages frames = joined (codes "formatted pages " ∷ decimal pages ∷ codes " frames " ∷ decimal frames ∷ codes "\n" ∷ [])

-- the line for a store that was checked
abbrev pub checked_line : Checked → List ℕ
checked_line checked =
    joined (codes "store format 1 pages " ∷ decimal checked.pages ∷ codes " frames " ∷ decimal checked.frames ∷ codes " version "
    ∷ decimal checked.version ∷ codes " used " ∷ decimal checked.used ∷ codes "\n" ∷ [])
