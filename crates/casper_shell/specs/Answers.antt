use Rattle.std.specs.Prelude.{ℕ, ◌/◌, ◌%◌, Bool, true, false, List, Option, None, Some, is_some, Result, Ok, Err}
use Rattle.casper_words.specs.declared.page.Ref.{Ref}
use Rattle.casper_heap.specs.declared.fault.HeapFault.{HeapFault}
use Rattle.casper_heap.specs.declared.fault.HeapFault.TheVariants as heap
use Rattle.casper_heap.specs.declared.fault.PageFull.{PageFull}
use Rattle.casper_heap.specs.Walk.{blocks_of, walk_end, first_free}
use Rattle.casper_heap.specs.Objects.{objects_of}
use Rattle.casper_heap.specs.Answers.{answer_of_new, place_of_new, answer_of_set, answer_of_ref, answer_of_get, answer_of_follow, answer_of_free}
use Rattle.casper_heap.specs.HeapCalls.{new_calls, set_calls, ref_calls, get_calls, follow_calls, free_calls}
use Rattle.casper_names.specs.declared.fault.NameFault.{NameFault}
use Rattle.casper_names.specs.declared.fault.NameFault.TheVariants as unnamed
use Rattle.casper_names.specs.Table.{names_of, names_in, entries_of, lookup_calls, unbind_calls, list_calls}
use Rattle.casper_names.specs.Binding.{answer_of_bind, entry_for, bind_calls}
use Rattle.casper_words.specs.declared.call.Call.{Call}
use Rattle.casper_shell.specs.declared.line.ShellLine.{ShellLine}
use Rattle.casper_shell.specs.declared.line.ShellLine.TheVariants as line
use Rattle.casper_shell.specs.declared.answer.ShellAnswer.{ShellAnswer}

abbrev pub heap_refusal : HeapFault → ShellAnswer
heap_refusal heap.NoObject = ShellAnswer.NoObject
heap_refusal heap.NoField = ShellAnswer.NoField
heap_refusal heap.NotARef = ShellAnswer.NotARef

abbrev pub name_refusal : NameFault → ShellAnswer
name_refusal unnamed.TableFull = ShellAnswer.TableFull
name_refusal unnamed.NoObject = ShellAnswer.NoObject

abbrev pub place_of : Ref → ShellAnswer
place_of r = ShellAnswer.At r.page r.word

abbrev pub told_new : Result Ref PageFull → ShellAnswer
told_new (Ok r) = place_of r
told_new (Err full) = ShellAnswer.PageFull

abbrev pub told_done : Result (Unit {0}) HeapFault → ShellAnswer
told_done (Ok done) = ShellAnswer.Done
told_done (Err fault) = heap_refusal fault

abbrev pub told_value : Result ℕ HeapFault → ShellAnswer
told_value (Ok value) = ShellAnswer.Value value
told_value (Err fault) = heap_refusal fault

abbrev pub told_place : Result Ref HeapFault → ShellAnswer
told_place (Ok r) = place_of r
told_place (Err fault) = heap_refusal fault

abbrev pub told_bound : Result (Unit {0}) NameFault → ShellAnswer
told_bound (Ok done) = ShellAnswer.Done
told_bound (Err fault) = name_refusal fault

abbrev pub told_unbound : Bool → ShellAnswer
told_unbound true = ShellAnswer.Done
told_unbound false = ShellAnswer.NoName

abbrev pub told_found : Option ℕ → ShellAnswer
told_found None = ShellAnswer.NoName
told_found (Some value) = ShellAnswer.At (value / 512) (value % 512)

-- the answer of a line by the words of the pages, in a store of so many pages
abbrev pub answer_of : ℕ → (ℕ → List ℕ) → ShellLine → ShellAnswer
answer_of pages words (line.New page n) =
    told_new (answer_of_new (place_of_new (first_free (blocks_of (words page)) n) (walk_end (words page)) n) page)
answer_of pages words (line.Set r i v) = told_done (answer_of_set (objects_of words r) i)
answer_of pages words (line.SetRef r i to) = told_done (answer_of_ref (objects_of words r) (objects_of words to) i)
answer_of pages words (line.Get r i) = told_value (answer_of_get (objects_of words r) i)
answer_of pages words (line.Follow r i) = told_place (answer_of_follow pages (objects_of words r) i)
answer_of pages words (line.Free r) = told_done (answer_of_free (objects_of words r))
answer_of pages words (line.Bind name r) = told_bound (answer_of_bind (objects_of words r) (entry_for (words 0) name))
answer_of pages words (line.Unbind name) = told_unbound (is_some (names_of (words 0) name))
answer_of pages words (line.Find name) = told_found (names_of (words 0) name)
answer_of pages words line.Names = ShellAnswer.Names (names_in (entries_of (words 0)))

-- the calls of a line by the words of the pages
abbrev pub calls_of : (ℕ → List ℕ) → ShellLine → List Call
calls_of words (line.New page n) = new_calls words page n
calls_of words (line.Set r i v) = set_calls words r i v
calls_of words (line.SetRef r i to) = ref_calls words r i to
calls_of words (line.Get r i) = get_calls words r i
calls_of words (line.Follow r i) = follow_calls words r i
calls_of words (line.Free r) = free_calls words r
calls_of words (line.Bind name r) = bind_calls words name r
calls_of words (line.Unbind name) = unbind_calls (words 0) name
calls_of words (line.Find name) = lookup_calls (words 0) name
calls_of words line.Names = list_calls (words 0)
