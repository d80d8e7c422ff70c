use Rattle.std.specs.Prelude.{ℕ, ◌≡◌, ◌≢◌, true, false, List, Result, Ok, Err}
use Rattle.casper_words.specs.declared.call.Call.{Call}
use Rattle.casper_words.specs.declared.memory.Memory.{Memory}
use Rattle.casper_words.specs.declared.page.Want.{Want}
use Rattle.casper_words.specs.declared.page.Ref.{Ref}
use Rattle.casper_space.specs.WordCalls.{HeldWords, HasMade}
use Rattle.casper_shell.specs.declared.answer.ShellAnswer.{ShellAnswer}
use Rattle.casper_shell.specs.declared.line.ShellLine.{ShellLine}
use Rattle.casper_shell.specs.declared.refusal.HoldRefusal.{HoldRefusal}
use Rattle.casper_shell.specs.declared.refusal.HoldRefusal.TheVariants as refusal
use Rattle.casper_shell.specs.Lines.{is_within, wants_of}
use Rattle.casper_heap.specs.Objects.{objects_of}
use Rattle.casper_names.specs.Table.{entries_of}
use Rattle.casper_shell.specs.Effects.{objects_after, entries_after}
use Rattle.casper_shell.specs.Answers.{answer_of, calls_of}

module _ {S : Type 0} (seen : S → HeldWords) (step : S → Call → S → Type 0) (turn : S → List Want → ℕ → Result (Unit {0}) HoldRefusal → S → Type 0) (pages : ℕ) (line : ShellLine) where
  -- the calls of a line, its answer, and what it does to the objects and to the entries of the table of names
  pub record IsDone (between : S) (result : Result ShellAnswer Memory) (after : S) : Type 0 where
    pub answer : result ≡ Ok (answer_of pages (seen between).words line)
    pub made : HasMade seen step between (calls_of (seen between).words line) after
    pub objects : (r : Ref) → r.page ≢ 0 → objects_of (seen after).words r ≡ objects_after line (answer_of pages (seen between).words line) (objects_of (seen between).words) r
    pub entries : entries_of ((seen after).words 0) ≡ entries_after line (answer_of pages (seen between).words line) ((seen between).words 0)

  -- what comes after the hold of a line: the line is done; or, where the hold was refused, no call is made, and the answer of the hold or its want of memory is the result
  abbrev pub Follows : Result (Unit {0}) HoldRefusal → S → Result ShellAnswer Memory → S → Type 0
  Follows (Ok held) between result after = IsDone between result after
  Follows (Err refusal.Memory) between result after = (result ≡ Err (record {})) × (after ≡ between)
  Follows (Err (refusal.Answer answer)) between result after = (result ≡ Ok (ShellAnswer.Refused answer)) × (after ≡ between)

  -- a line is one hold of its pages with room for 600 calls, and what comes after it
  pub record IsHeld (before : S) (result : Result ShellAnswer Memory) (after : S) : Type 0 where
    pub hold : Result (Unit {0}) HoldRefusal
    pub between : S
    pub held : turn before (wants_of line) 600 hold between
    pub follows : Follows hold between result after

  -- how a line comes out: it names what is not in the store, or finds no memory for its list of names, and nothing has changed; or it made its one hold
  pub data IsRun (before : S) (result : Result ShellAnswer Memory) (after : S) : Type 0 where
    out_of_range : is_within pages line ≡ false → result ≡ Ok ShellAnswer.Range → after ≡ before → IsRun before result after
    no_list : line ≡ ShellLine.Names → result ≡ Err (record {}) → after ≡ before → IsRun before result after
    held : is_within pages line ≡ true → IsHeld before result after → IsRun before result after
