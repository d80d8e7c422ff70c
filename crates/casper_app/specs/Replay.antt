use Rattle.std.specs.Prelude.{◌≡◌, ◌≢◌, ℕ, ◌+◌, ◌<◌, ◌≤◌, true, List, [], ◌∷◌, ◌++◌, length, Option, None, Some, ◌⊎◌}
use Rattle.casper_io.specs.Lines.{TakesLine, TakesEnd, TakesTooLong, TakesPart}
use Rattle.casper_io.specs.Reading.{most_lines, ReadsLines}
use Rattle.casper_io.specs.Told.{WhereTold}
use Rattle.casper_trail.specs.declared.item.Item.{Item}
use Rattle.casper_space.specs.declared.answer.Answer.{Answer}
use Rattle.casper_report.specs.Texts.{answer_line, answer_lines}
use Rattle.casper_app.specs.declared.cause.Cause.{Cause}
use Rattle.casper_app.specs.declared.cause.Cause.TheVariants as cause
use Rattle.casper_app.specs.declared.end.End.{End}
use Rattle.casper_app.specs.declared.end.End.TheVariants as end
use Rattle.casper_app.specs.declared.outlet.Outlet.{Outlet}
use Rattle.casper_app.specs.declared.schedule.Asked.{Asked}
use Rattle.casper_app.specs.declared.schedule.Asked.TheVariants as asks
use Rattle.casper_app.specs.declared.schedule.Parsed.TheVariants as parsed
use Rattle.casper_app.specs.Schedule.{parsed_line}
use Rattle.casper_app.specs.Lines.{asked_of_line, asked_in, AreTaken}
use Rattle.casper_app.specs.Outlet.{kept_of, written_of}
use Rattle.casper_app.specs.Texts.{end_line, tells_number}

-- a line stands next that is too long, of no known form, or one too many
abbrev pub TakesBadLine : ℕ → Option (List ℕ) → Option (List ℕ) → Type 0
TakesBadLine number before after = (line : List ℕ) × (WhereTold before after (TakesTooLong line)
    ⊎ (WhereTold before after (TakesLine line) × ((parsed_line line ≡ parsed.Bad) ⊎ (number ≡ most_lines + 1))))

-- a line stands next of a known form that is not built yet
abbrev pub TakesUnbuilt : ℕ → Option (List ℕ) → Option (List ℕ) → Type 0
TakesUnbuilt number before after = (number ≤ most_lines) × (line : List ℕ) × WhereTold before after (TakesLine line) × (parsed_line line ≡ parsed.Unbuilt)

-- the last of these lines asks for something
pub record AsksLast (lines : List (List ℕ)) : Type 0 where
  pub front : List (List ℕ)
  pub line : List ℕ
  pub is_last : lines ≡ front ++ line ∷ []
  pub asked : Asked
  pub asks : asked_of_line line ≡ Some asked

-- why an end came before its time
abbrev pub cause_of : End → Option Cause
cause_of (end.Done summary) = None
cause_of (end.Legal entries) = None
cause_of (end.Formatted pages frames) = None
cause_of (end.Checked found) = None
cause_of (end.Stopped cause) = Some cause

-- a line stands next that asks for something
abbrev pub TakesAsking : Option (List ℕ) → Option (List ℕ) → Type 0
TakesAsking before after = (line : List ℕ) × WhereTold before after (TakesLine line) × (asked : Asked) × (asked_of_line line ≡ Some asked)

-- a line stood next that asks for a reopen. It was taken and not answered, and nothing after it was taken
abbrev pub IsUnopened : List (List ℕ) → Option (List ℕ) → Option (List ℕ) → List Answer → List Answer → Type 0
IsUnopened lines before after answers told =
    (length lines < most_lines) × ((line : List ℕ) × WhereTold before after (TakesLine line) × (asked_of_line line ≡ Some asks.Reopen)) × (answers ≡ told)

-- memory was short: before any line was read; or for what a line that stood next asks for, or for its answer; or for the text of the
-- answer to the last of these lines, which is the one that is not among those told. Nothing after that line was taken
abbrev pub IsShort : List (List ℕ) → Option (List ℕ) → Option (List ℕ) → List Answer → List Answer → Type 0
IsShort lines before after answers told =
    ((lines ≡ []) × (before ≡ after) × (answers ≡ told))
    ⊎ ((length lines < most_lines) × TakesAsking before after × (answers ≡ told))
    ⊎ ((before ≡ after) × AsksLast lines × (last : Answer) × (answers ≡ told ++ last ∷ []))

-- after these lines, which were skipped or answered, the reading came to the source's end, or it ended for a cause. Where the sink
-- failed at an answer, the last of the lines is the one that was answered, and nothing after it was taken. The answers that were to be
-- written were told, up to the sink's fault; where memory was short for the text of the last one, that one was not
abbrev pub EndsFor : Option Cause → List (List ℕ) → Option (List ℕ) → Option (List ℕ) → List Answer → List Answer → Type 0
EndsFor None lines before after answers told = WhereTold before after (TakesEnd []) × (answers ≡ told)
EndsFor (Some cause.Usage) lines before after answers told = ⊥
EndsFor (Some cause.Read) lines before after answers told = ((part : List ℕ) × WhereTold before after (TakesPart part)) × (answers ≡ told)
EndsFor (Some cause.Write) lines before after answers told = (before ≡ after) × AsksLast lines × (answers ≡ told)
EndsFor (Some cause.Disk) lines before after answers told = IsUnopened lines before after answers told
EndsFor (Some (cause.Refused refusal)) lines before after answers told = IsUnopened lines before after answers told
EndsFor (Some cause.Memory) lines before after answers told = IsShort lines before after answers told
EndsFor (Some (cause.BadLine number)) lines before after answers told = (number ≡ length lines + 1) × TakesBadLine number before after × (answers ≡ told)
EndsFor (Some (cause.Illegal at rule)) lines before after answers told = ⊥
EndsFor (Some (cause.Unbuilt number)) lines before after answers told = (number ≡ length lines + 1) × TakesUnbuilt number before after × (answers ≡ told)

-- these bytes are a front of a text, and not all of it
abbrev pub IsCut : List ℕ → List ℕ → Type 0
IsCut text out = (rest : List ℕ) × (rest ≢ []) × (text ≡ out ++ rest)

-- the last line was written whole, and the end stands; or it was cut, and the sink failed
abbrev pub WritesFor : End → End → List ℕ → List ℕ → Type 0
WritesFor said last text out = ((last ≡ said) × (out ≡ text)) ⊎ ((last ≡ end.Stopped cause.Write) × IsCut text out)

-- the text of all answers but the last was written whole, and that of the last was cut
pub record WritesButTheLast (told : List Answer) (out : List ℕ) : Type 0 where
  pub before : List Answer
  pub last : Answer
  pub is : told ≡ before ++ last ∷ []
  pub part : List ℕ
  pub cut : IsCut (answer_line last) part
  pub written : out ≡ answer_lines before ++ part

-- answers were written: all of them whole, or where the sink failed at one, that one was cut
abbrev pub WritesAnswers : Option Cause → List Answer → List ℕ → Type 0
WritesAnswers None told out = out ≡ answer_lines told
WritesAnswers (Some cause.Write) told out = WritesButTheLast told out
WritesAnswers (Some cause.Usage) told out = out ≡ answer_lines told
WritesAnswers (Some cause.Read) told out = out ≡ answer_lines told
WritesAnswers (Some cause.Disk) told out = out ≡ answer_lines told
WritesAnswers (Some (cause.Refused refusal)) told out = out ≡ answer_lines told
WritesAnswers (Some cause.Memory) told out = out ≡ answer_lines told
WritesAnswers (Some (cause.BadLine number)) told out = out ≡ answer_lines told
WritesAnswers (Some (cause.Illegal at rule)) told out = out ≡ answer_lines told
WritesAnswers (Some (cause.Unbuilt number)) told out = out ≡ answer_lines told

-- what the last line tells is how the call was meant to end, unless memory is short for its text
abbrev pub IsSaid : End → End → Type 0
IsSaid meant said = (said ≡ meant) ⊎ ((said ≡ end.Stopped cause.Memory) × (tells_number meant ≡ true))

-- a replay whose lines come to something, from the bytes left before to those left after it, with the answers that its lines got
pub record IsReplay (Comes : ℕ → End → List Asked → List Answer → List Item → Type 0) (outlet : Outlet) (before after : Option (List ℕ)) (given answers : List Answer) (items : List Item) (last : End) (out : List ℕ) : Type 0 where
  -- the lines that were skipped or answered, and what was left after them
  pub lines : List (List ℕ)
  pub rest : Option (List ℕ)
  pub reads : ReadsLines before lines rest
  pub taken : AreTaken lines
  pub few : length lines ≤ most_lines
  -- how the reading ended, and the answers whose text was meant to be written by then
  pub meant : End
  pub told : List Answer
  pub ends : EndsFor (cause_of meant) lines rest after (written_of outlet given) told
  -- what the things that the lines ask for come to, with their answers and the trail
  pub comes : Comes (length lines) meant (asked_in lines) given items
  -- the answers were kept, and written, each before the next line was read; and then how it ended
  pub answered : answers ≡ kept_of outlet given
  pub text : List ℕ
  pub answers_written : WritesAnswers (cause_of meant) told text
  pub said : End
  pub said_is : IsSaid meant said
  pub ending : List ℕ
  pub ending_written : WritesFor said last (end_line said) ending
  pub written : out ≡ text ++ ending

-- words that are no command, or one that is not built: nothing was read or answered
pub record IsRefusal (refused : Cause) (before after : Option (List ℕ)) (answers : List Answer) (items : List Item) (last : End) (out : List ℕ) : Type 0 where
  pub unread : after ≡ before
  pub answered : answers ≡ []
  pub recorded : items ≡ []
  pub said : End
  pub said_is : IsSaid (end.Stopped refused) said
  pub written : WritesFor said last (end_line said) out
