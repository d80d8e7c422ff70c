use Rattle.std.specs.Prelude.{ℕ, List, [], ◌∷◌, ◌++◌, codes}
use Rattle.std.specs.Fmt.{decimal}
use Rattle.casper_generator.specs.declared.gen_line.GenLine.{GenLine}
use Rattle.casper_generator.specs.declared.gen_line.GenLine.TheVariants as gen

-- numbers, each after a space, and a newline
abbrev pub numbers_text : List ℕ → List ℕ
numbers_text [] = codes "\n"
numbers_text (number ∷ numbers) = codes " " ++ decimal number ++ numbers_text numbers

-- the text of a line: a verb and its numbers
abbrev pub gen_line_text : GenLine → List ℕ
gen_line_text (gen.Join who) = codes "join" ++ numbers_text (who ∷ [])
gen_line_text (gen.Read who page word) = codes "read" ++ numbers_text (who ∷ page ∷ word ∷ [])
gen_line_text (gen.Write who page word value) = codes "write" ++ numbers_text (who ∷ page ∷ word ∷ value ∷ [])
gen_line_text (gen.Serve who) = codes "serve" ++ numbers_text (who ∷ [])
gen_line_text (gen.Stabilise who) = codes "stabilise" ++ numbers_text (who ∷ [])
gen_line_text (gen.WriteOut lead) = codes "writeout" ++ numbers_text (lead ∷ [])
gen_line_text (gen.Finish lead) = codes "finish" ++ numbers_text (lead ∷ [])
