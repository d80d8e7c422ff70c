use Rattle.std.specs.Prelude.{ℕ, List, replicate, Option, None, Some}
use Rattle.casper_words.specs.declared.page.Ref.{Ref}
use Rattle.casper_heap.specs.Objects.{Field, Number, Reference, with_object, with_field}
use Rattle.casper_names.specs.Table.{entries_of, entry_of, without_entry}
use Rattle.casper_names.specs.Binding.{entry_for, with_entry}
use Rattle.casper_shell.specs.declared.line.ShellLine.{ShellLine}
use Rattle.casper_shell.specs.declared.line.ShellLine.TheVariants as line
use Rattle.casper_shell.specs.declared.answer.ShellAnswer.{ShellAnswer}
use Rattle.casper_shell.specs.declared.answer.ShellAnswer.TheVariants as answer

-- the objects after a line with an answer: one more, one changed or one less where the line is done, and all as they were where it is refused
abbrev pub objects_after : ShellLine → ShellAnswer → (Ref → Option (List Field)) → Ref → Option (List Field)
objects_after (line.New page n) (answer.At at word) objects = with_object objects (record { page = at; word = word }) (Some (replicate n (Number 0)))
objects_after (line.Set r i v) answer.Done objects = with_field objects r i (Number v)
objects_after (line.SetRef r i to) answer.Done objects = with_field objects r i (Reference to.page to.word)
objects_after (line.Free r) answer.Done objects = with_object objects r None
objects_after other told objects = objects

-- the entries of the table of names after a line with an answer, by the words of its page before
abbrev pub entries_after : ShellLine → ShellAnswer → List ℕ → List (Option (List ℕ))
entries_after (line.Bind name r) answer.Done words = with_entry (entries_of words) (entry_for words name) name
entries_after (line.Unbind name) answer.Done words = without_entry (entries_of words) (entry_of words name)
entries_after other told words = entries_of words
