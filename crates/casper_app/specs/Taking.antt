use Rattle.std.specs.Prelude.{◌≡◌, ℕ, Bool, List, [], ◌∷◌, ◌++◌, Option, None, Some, Result, Ok, Err, is_some, IsSome, option_to_list}
use Rattle.std.specs.Io.KnownBytes.{append_known}
use Rattle.casper_io.specs.Lines.{TakesTooLong, TakesPart}
use Rattle.casper_io.specs.Told.{WhereTold, TakesFront}
use Rattle.casper_space.specs.declared.answer.Answer.{Answer}
use Rattle.casper_report.specs.Texts.{answer_line, answer_lines}
use Rattle.casper_disk.specs.Vault.{Saved}
use Rattle.casper_app.specs.declared.cause.Cause.{Cause}
use Rattle.casper_app.specs.declared.cause.Cause.TheVariants as cause
use Rattle.casper_app.specs.declared.outlet.Outlet.{Outlet}
use Rattle.casper_app.specs.declared.replay.Replay.{Replay}
use Rattle.casper_app.specs.declared.schedule.Asked.{Asked}
use Rattle.casper_app.specs.declared.schedule.Asked.TheVariants as asks
use Rattle.casper_app.specs.declared.schedule.Parsed.TheVariants as parsed
use Rattle.casper_app.specs.declared.sessions.Sessions.{Sessions}
use Rattle.casper_app.specs.Schedule.{parsed_line}
use Rattle.casper_app.specs.Carrying.{MakesStep, MakesNone}
use Rattle.casper_app.specs.Lines.{asked_of_line, IsTaken}
use Rattle.casper_app.specs.Outlet.{kept_of, written_of}

-- what was done for what was asked, where it was answered, and where it was not
abbrev pub CarriesAsked : {V : Type 0} → Bool → (V → ℕ) → (V → ℕ) → (V → ℕ → Saved → Type 0) → Asked → Option Answer → Sessions V → Sessions V → Type 0
CarriesAsked tells faults moment since asked None before after = MakesNone tells faults moment since before after
CarriesAsked tells faults moment since asked (Some given) before after = MakesStep tells faults moment since asked given before after

-- what a line did: what it asks for was answered, or nothing was
abbrev pub CarriesLine : {V : Type 0} → Bool → (V → ℕ) → (V → ℕ) → (V → ℕ → Saved → Type 0) → List ℕ → Option Answer → Sessions V → Sessions V → Type 0
CarriesLine tells faults moment since line None before after = MakesNone tells faults moment since before after
CarriesLine tells faults moment since line (Some given) before after = (asked : Asked) × (asked_of_line line ≡ Some asked) × MakesStep tells faults moment since asked given before after

-- an answer, where there is one, is to be written
abbrev pub IsDue : Outlet → Option Answer → Type 0
IsDue outlet None = Unit {0}
IsDue outlet (Some one) = written_of outlet (one ∷ []) ≡ one ∷ []

-- a reopen was not answered, and nothing was written
abbrev pub IsUnopened : Asked → Option Answer → Option (List ℕ) → Option (List ℕ) → Type 0
IsUnopened asked given before after = (asked ≡ asks.Reopen) × (given ≡ None) × (after ≡ before)

-- what was written of the answer: all of it; a front of it, where the sink failed; or nothing, where memory was short, or where the
-- store was not opened again
abbrev pub WritesAnswer : Asked → Outlet → Option Answer → Option (List ℕ) → Option (List ℕ) → Result (Unit {0}) Cause → Type 0
WritesAnswer asked outlet given before after (Ok done) = IsSome given × (after ≡ append_known before (answer_lines (written_of outlet (option_to_list given))))
WritesAnswer asked outlet given before after (Err cause.Write) = (one : Answer) × (given ≡ Some one) × (written_of outlet (one ∷ []) ≡ one ∷ []) × TakesFront before after (answer_line one)
WritesAnswer asked outlet given before after (Err cause.Disk) = IsUnopened asked given before after
WritesAnswer asked outlet given before after (Err (cause.Refused refusal)) = IsUnopened asked given before after
WritesAnswer asked outlet given before after (Err cause.Memory) = (after ≡ before) × IsDue outlet given
WritesAnswer asked outlet given before after (Err cause.Usage) = ⊥
WritesAnswer asked outlet given before after (Err cause.Read) = ⊥
WritesAnswer asked outlet given before after (Err (cause.BadLine n)) = ⊥
WritesAnswer asked outlet given before after (Err (cause.Illegal at rule)) = ⊥
WritesAnswer asked outlet given before after (Err (cause.Unbuilt n)) = ⊥

-- what was asked for was answered, or it was not; the answer was kept and written, as the outlet says
pub record TakesAsked {V : Type 0} (tells : Bool) (faults moment : V → ℕ) (since : V → ℕ → Saved → Type 0) (asked : Asked) (old new : Replay V) (before after : Option (List ℕ)) (result : Result (Unit {0}) Cause) : Type 0 where
  pub given : Option Answer
  pub carries : CarriesAsked tells faults moment since asked given old.sessions new.sessions
  pub outlet : new.outlet ≡ old.outlet
  pub kept : new.answers.items ≡ old.answers.items ++ kept_of old.outlet (option_to_list given)
  pub writes : WritesAnswer asked old.outlet given before after result

-- what was written of the answer to a line, if it has one. A line that is refused has none. Memory is short only for a line that asks
-- for something, and only a reopen meets a disk that failed or a store that is refused
abbrev pub WritesForLine : ℕ → List ℕ → Outlet → Option Answer → Option (List ℕ) → Option (List ℕ) → Result (Unit {0}) Cause → Type 0
WritesForLine number line outlet given before after (Ok done) =
    IsTaken line × (is_some given ≡ is_some (asked_of_line line)) × (after ≡ append_known before (answer_lines (written_of outlet (option_to_list given))))
WritesForLine number line outlet given before after (Err cause.Write) =
    (one : Answer) × (given ≡ Some one) × (written_of outlet (one ∷ []) ≡ one ∷ []) × TakesFront before after (answer_line one)
WritesForLine number line outlet given before after (Err cause.Memory) =
    (after ≡ before) × IsDue outlet given × (asked : Asked) × (asked_of_line line ≡ Some asked)
WritesForLine number line outlet given before after (Err cause.Disk) = (asked_of_line line ≡ Some asks.Reopen) × (given ≡ None) × (after ≡ before)
WritesForLine number line outlet given before after (Err (cause.Refused refusal)) = (asked_of_line line ≡ Some asks.Reopen) × (given ≡ None) × (after ≡ before)
WritesForLine number line outlet given before after (Err cause.Usage) = ⊥
WritesForLine number line outlet given before after (Err cause.Read) = ⊥
WritesForLine number line outlet given before after (Err (cause.BadLine n)) = (n ≡ number) × (parsed_line line ≡ parsed.Bad) × (given ≡ None) × (after ≡ before)
WritesForLine number line outlet given before after (Err (cause.Illegal at rule)) = ⊥
WritesForLine number line outlet given before after (Err (cause.Unbuilt n)) = (n ≡ number) × (parsed_line line ≡ parsed.Unbuilt) × (given ≡ None) × (after ≡ before)

-- a line was answered, skipped or refused
pub record TakesInput {V : Type 0} (tells : Bool) (faults moment : V → ℕ) (since : V → ℕ → Saved → Type 0) (number : ℕ) (line : List ℕ) (old new : Replay V) (before after : Option (List ℕ)) (result : Result (Unit {0}) Cause) : Type 0 where
  pub given : Option Answer
  pub carries : CarriesLine tells faults moment since line given old.sessions new.sessions
  pub outlet : new.outlet ≡ old.outlet
  pub kept : new.answers.items ≡ old.answers.items ++ kept_of old.outlet (option_to_list given)
  pub writes : WritesForLine number line old.outlet given before after result

-- why no line stands next: the source's fault, or a line that is too long
abbrev pub NoLine : Cause → ℕ → Option (List ℕ) → Option (List ℕ) → Type 0
NoLine cause.Read number before after = (part : List ℕ) × WhereTold before after (TakesPart part)
NoLine (cause.BadLine n) number before after = (n ≡ number) × (line : List ℕ) × WhereTold before after (TakesTooLong line)
NoLine cause.Usage number before after = ⊥
NoLine cause.Write number before after = ⊥
NoLine cause.Disk number before after = ⊥
NoLine (cause.Refused refusal) number before after = ⊥
NoLine cause.Memory number before after = ⊥
NoLine (cause.Illegal at rule) number before after = ⊥
NoLine (cause.Unbuilt n) number before after = ⊥
