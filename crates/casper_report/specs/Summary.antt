use Rattle.std.specs.Prelude.{List, ℕ, [], ◌∷◌, codes}
use Rattle.std.specs.Fmt.{decimal}
use Rattle.casper_report.specs.Texts.{joined}
use Rattle.casper_report.specs.declared.summary.Summary.{Summary}

-- the line that ends a run whose every line was answered
abbrev pub summary_line : Summary → List ℕ
summary_line summary =
    joined (codes "end lines=" ∷ decimal summary.lines ∷ codes " calls=" ∷ decimal summary.calls ∷ codes " commits=" ∷ decimal summary.commits
    ∷ codes " rollbacks=" ∷ decimal summary.rollbacks ∷ codes " version=" ∷ decimal summary.version ∷ codes "\n" ∷ [])
