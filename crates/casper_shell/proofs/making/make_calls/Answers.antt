use Rattle.std.proofs.Common.{◌≡◌, ◌∙◌, ℕ, List, true, ap, sym, subst}
use Rattle.std.proofs.lemmas.Bool.{and_parts}
use Rattle.casper_names.specs.Table.{entries_of}
use Rattle.casper_shell.specs.declared.line.ShellLine.{ShellLine}
use Rattle.casper_shell.specs.Effects.{entries_after}
use Rattle.casper_shell.proofs.Frames.{keeps_new, keeps_set, keeps_ref, keeps_free, off_table, word_off_table}
use Rattle.casper_shell.specs.Holding.{reading, writing}
use Rattle.casper_shell.specs.Lines.{is_within, is_heap_word, wants_of}
use Rattle.casper_shell.proofs.Wanting.{first_held, both_held}
use Rattle.casper_shell.proofs.making.make_calls.Goals as goal

pub alloc_object-requires-clause-held : goal.alloc_object-requires-clause-held
alloc_object-requires-clause-held g c = first_held (g.W.Words.seen c.args.words.now).right (writing c.in-New.page) (ap wants_of c.in-New.is) c.requires.held

pub set_number-requires-clause-held : goal.set_number-requires-clause-held
set_number-requires-clause-held g c = first_held (g.W.Words.seen c.args.words.now).right (writing c.in-Set.r.page) (ap wants_of c.in-Set.is) c.requires.held

pub get-requires-clause-held : goal.get-requires-clause-held
get-requires-clause-held g c = first_held (g.W.Words.seen c.args.words.now).right (reading c.in-Get.r.page) (ap wants_of c.in-Get.is) c.requires.held

pub follow-requires-clause-held : goal.follow-requires-clause-held
follow-requires-clause-held g c = first_held (g.W.Words.seen c.args.words.now).right (reading c.in-Follow.r.page) (ap wants_of c.in-Follow.is) c.requires.held

pub free_object-requires-clause-held : goal.free_object-requires-clause-held
free_object-requires-clause-held g c = first_held (g.W.Words.seen c.args.words.now).right (writing c.in-Free.r.page) (ap wants_of c.in-Free.is) c.requires.held

pub unbind-requires-clause-held : goal.unbind-requires-clause-held
unbind-requires-clause-held g c = first_held (g.W.Words.seen c.args.words.now).right (writing 0) (ap wants_of c.in-Unbind.is) c.requires.held

pub lookup-requires-clause-held : goal.lookup-requires-clause-held
lookup-requires-clause-held g c = first_held (g.W.Words.seen c.args.words.now).right (reading 0) (ap wants_of c.in-Find.is) c.requires.held

pub list-requires-clause-held : goal.list-requires-clause-held
list-requires-clause-held g c = first_held (g.W.Words.seen c.args.words.now).right (reading 0) (ap wants_of c.in-Names.is) c.requires.held

pub set_ref-requires-clause-held : goal.set_ref-requires-clause-held
set_ref-requires-clause-held g c =
    (both_held (g.W.Words.seen c.args.words.now).right c.in-SetRef.r.page c.in-SetRef.to.page (ap wants_of c.in-SetRef.is) c.requires.held).0

pub set_ref-requires-clause-target : goal.set_ref-requires-clause-target
set_ref-requires-clause-target g c =
    (both_held (g.W.Words.seen c.args.words.now).right c.in-SetRef.r.page c.in-SetRef.to.page (ap wants_of c.in-SetRef.is) c.requires.held).1

pub bind-requires-clause-table : goal.bind-requires-clause-table
bind-requires-clause-table g c = (both_held (g.W.Words.seen c.args.words.now).right 0 c.in-Bind.r.page (ap wants_of c.in-Bind.is) c.requires.held).0

pub bind-requires-clause-held : goal.bind-requires-clause-held
bind-requires-clause-held g c = (both_held (g.W.Words.seen c.args.words.now).right 0 c.in-Bind.r.page (ap wants_of c.in-Bind.is) c.requires.held).1

pub returns-in-New-clause-entries : goal.returns-in-New-clause-entries
returns-in-New-clause-entries g c =
    let old : ℕ → List ℕ = (g.W.Words.seen c.args.words.now).words in
    let within = subst (λ (line : ShellLine). is_within c.args.pages line ≡ true) c.in-New.is c.requires.within in
    ap (λ (pages : ℕ → List ℕ). entries_of (pages 0)) c.alloc_object.ensures.made.words
    ∙ ap entries_of (keeps_new c.in-New.page (off_table c.args.pages c.in-New.page within) old c.in-New.n old)
    ∙ ap (λ (line : ShellLine). entries_after line c.tell_new.result (old 0)) (sym c.in-New.is)

pub returns-in-Set-clause-entries : goal.returns-in-Set-clause-entries
returns-in-Set-clause-entries g c =
    let old : ℕ → List ℕ = (g.W.Words.seen c.args.words.now).words in
    let within = subst (λ (line : ShellLine). is_within c.args.pages line ≡ true) c.in-Set.is c.requires.within in
    ap (λ (pages : ℕ → List ℕ). entries_of (pages 0)) c.set_number.ensures.made.words
    ∙ ap entries_of (keeps_set old c.in-Set.r c.in-Set.i c.in-Set.v (word_off_table c.args.pages c.in-Set.r within) old)
    ∙ ap (λ (line : ShellLine). entries_after line c.tell_done.result (old 0)) (sym c.in-Set.is)

pub returns-in-SetRef-clause-entries : goal.returns-in-SetRef-clause-entries
returns-in-SetRef-clause-entries g c =
    let old : ℕ → List ℕ = (g.W.Words.seen c.args.words.now).words in
    let within = subst (λ (line : ShellLine). is_within c.args.pages line ≡ true) c.in-SetRef.is c.requires.within in
    ap (λ (pages : ℕ → List ℕ). entries_of (pages 0)) c.set_ref.ensures.made.words
    ∙ ap entries_of (keeps_ref old c.in-SetRef.r c.in-SetRef.i c.in-SetRef.to (word_off_table c.args.pages c.in-SetRef.r (and_parts (is_heap_word c.args.pages c.in-SetRef.r) (is_heap_word c.args.pages c.in-SetRef.to) within).0) old)
    ∙ ap (λ (line : ShellLine). entries_after line c.tell_done-in-SetRef.result (old 0)) (sym c.in-SetRef.is)

pub returns-in-Free-clause-entries : goal.returns-in-Free-clause-entries
returns-in-Free-clause-entries g c =
    let old : ℕ → List ℕ = (g.W.Words.seen c.args.words.now).words in
    let within = subst (λ (line : ShellLine). is_within c.args.pages line ≡ true) c.in-Free.is c.requires.within in
    ap (λ (pages : ℕ → List ℕ). entries_of (pages 0)) c.free_object.ensures.made.words
    ∙ ap entries_of (keeps_free old c.in-Free.r (word_off_table c.args.pages c.in-Free.r within) old)
    ∙ ap (λ (line : ShellLine). entries_after line c.tell_done-in-Free.result (old 0)) (sym c.in-Free.is)
