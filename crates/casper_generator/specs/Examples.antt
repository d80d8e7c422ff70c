use Rattle.std.specs.Prelude.{◌≡◌, [], ◌∷◌}
use Rattle.casper_generator.specs.declared.gen_line.GenLine.TheVariants as gen
use Rattle.casper_generator.specs.Lines.{word_of, state_after, lines_of}

-- the first two words of seed 0
abbrev pub FirstWordsOfZero : Type 0
FirstWordsOfZero = (word_of 0 ≡ 0xE220A8397B1DCDAF) × (word_of (state_after 0) ≡ 0x6E789E6AA1B965F4)

-- the schedule of seed 0 for two clients and two draws
abbrev pub LinesOfZero : Type 0
LinesOfZero = lines_of 0 2 2
    ≡ gen.Join 1 ∷ gen.Join 2 ∷ gen.Read 2 51 285 ∷ gen.Write 1 25 441 1853398634 ∷ gen.Serve 1 ∷ gen.Serve 2 ∷ []
