use Rattle.std.specs.Prelude.{ℕ, List, [], ◌∷◌, Option, None, Some, filter_map}
use Rattle.casper_app.specs.declared.schedule.Asked.{Asked}
use Rattle.casper_app.specs.declared.schedule.Parsed.{Parsed}
use Rattle.casper_app.specs.declared.schedule.Parsed.TheVariants as parsed
use Rattle.casper_app.specs.Schedule.{parsed_line}

-- what was asked for by what was read
abbrev pub asked_of_parsed : Parsed → Option Asked
asked_of_parsed parsed.Skip = None
asked_of_parsed (parsed.Asked asked) = Some asked
asked_of_parsed parsed.Unbuilt = None
asked_of_parsed parsed.Bad = None

-- what a line asks for
abbrev pub asked_of_line : List ℕ → Option Asked
asked_of_line line = asked_of_parsed (parsed_line line)

-- what lines ask for, in order
abbrev pub asked_in : List (List ℕ) → List Asked
asked_in lines = filter_map asked_of_line lines

-- what was read is skipped or answered
abbrev pub IsTakenAs : Parsed → Type 0
IsTakenAs parsed.Skip = Unit {0}
IsTakenAs (parsed.Asked asked) = Unit {0}
IsTakenAs parsed.Unbuilt = ⊥
IsTakenAs parsed.Bad = ⊥

-- a line is skipped or answered
abbrev pub IsTaken : List ℕ → Type 0
IsTaken line = IsTakenAs (parsed_line line)

abbrev pub AreTaken : List (List ℕ) → Type 0
AreTaken [] = Unit {0}
AreTaken (line ∷ lines) = IsTaken line × AreTaken lines
