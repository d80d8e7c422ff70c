use Rattle.std.proofs.Common.{◌≡◌, ℕ, ◌+◌, Bool, true, false, List, [], ◌∷◌, Option, Some, None, refl, ap, ap₂, subst, ◌∙◌, cond, arith, length}
use Rattle.std.specs.List.{cons_option}
use Rattle.std.specs.Option.{option_map_or}
use Rattle.casper_space.specs.declared.answer.Answer.{Answer}
use Rattle.casper_space.specs.declared.answer.Answer.TheVariants as answer
use Rattle.casper_text.specs.Line.{all_printable, words}
use Rattle.casper_model.specs.declared.event.Event.{Event}
use Rattle.casper_model.specs.declared.event.Event.TheVariants as event
use Rattle.casper_model.specs.Outside.{Outside, LoadFailed, SettleFailed, NothingFailed}
use Rattle.casper_model.specs.Run.{Happening, state_after, answers_of, is_disk}
use Rattle.casper_model.specs.Rights.{NamesClients}
use Rattle.casper_model.proofs.RunHistory.{every_run_legal}
use Rattle.casper_model.proofs.WholeRuns.{every_run_whole}
use Rattle.casper_core.specs.Acting.{outside_written, outside_in}
use Rattle.casper_core.specs.Stepping.{happenings_of, is_fault, failures_in}
use Rattle.casper_app.specs.declared.schedule.Asked.{Asked}
use Rattle.casper_app.specs.declared.schedule.Asked.TheVariants as asks
use Rattle.casper_app.specs.declared.schedule.Parsed.TheVariants as parsed
use Rattle.casper_app.specs.Schedule.{asked_of, is_unbuilt, is_comment, refused_as, parsed_words, parsed_line}
use Rattle.casper_app.specs.Chain.{AsksOfClients, AllAskOfClients}
use Rattle.casper_app.specs.Grammar.{IsEvent, IsAskable}
use Rattle.casper_app.specs.Lines.{asked_of_parsed, asked_of_line, asked_in}
use Rattle.casper_app.specs.Machine.{unfailing, UnfailingSessions, LinesNameClients, SessionsAreLegal}
use Rattle.casper_app.proofs.GrammarLemmas.{lines_have_one_text}

-- where an answer tells of no fault, nothing failed
wrote_well : (said : Answer) → is_fault said ≡ false → outside_written said ≡ NothingFailed
wrote_well answer.Disk is = cc
wrote_well answer.Doubt is = cc
wrote_well other is = refl

no_disk : (said : Answer) → is_fault said ≡ false → is_disk said ≡ false
no_disk answer.Disk is = cc
no_disk other is = refl

nothing_failed : (asked : Event) (said : Answer) → is_fault said ≡ false → outside_in asked said ≡ NothingFailed
nothing_failed (event.WriteOut lead) said is = wrote_well said is
nothing_failed event.Settle said is = ap (λ (failed : Bool). cond failed SettleFailed NothingFailed) (no_disk said is)
nothing_failed other said is = ap (λ (failed : Bool). cond failed LoadFailed NothingFailed) (no_disk said is)

none_failed : (events : List Event) (given : List Answer) → length given ≡ length events → failures_in given ≡ 0 → happenings_of events given ≡ unfailing events
none_failed [] [] each none = refl
none_failed [] (one ∷ given) each none = absurd (omega (arith, each))
none_failed (asked ∷ events) [] each none = absurd (omega (arith, each))
none_failed (asked ∷ events) (one ∷ given) each none =
    by_test (is_fault one) (nothing_failed asked one) none (λ rest. none_failed events given (omega (arith, each)) rest)
  where
    by_test : (test : Bool) → (test ≡ false → outside_in asked one ≡ NothingFailed) → cond test 1 0 + failures_in given ≡ 0
        → (failures_in given ≡ 0 → happenings_of events given ≡ unfailing events)
        → ◌≡◌ {A = List Happening} ((record { event = asked; outside = outside_in asked one }) ∷ happenings_of events given) (unfailing (asked ∷ events))
    by_test true quiet some following = absurd (omega (arith, some))
    by_test false quiet some following =
        ap₂ (λ (outside : Outside) (rest : List Happening). record { event = asked; outside = outside } ∷ rest) (quiet refl) (following (omega (arith, some)))

pub unfailing_sessions : UnfailingSessions
unfailing_sessions start events given session none =
    let same : happenings_of events given ≡ unfailing events = none_failed events given session.each none in
    (session.answers ∙ ap (answers_of start) same, ap (state_after start) same)

-- what is known of what was asked for, where there is something
abbrev WhereAsked : (Asked → Type 0) → Option Asked → Type 0
WhereAsked Known None = Unit {0}
WhereAsked Known (Some asked) = Known asked

-- an event of a built line names a client
client_named : (asked : Event) → IsEvent asked → NamesClients asked
client_named (event.Join who) is = is
client_named (event.Read who page word) is = is.0
client_named (event.Write who page word value) is = is.0
client_named (event.Acquire who wants) is = is.0
client_named (event.Serve who) is = is
client_named (event.Depart who) is = is
client_named (event.Hold who wants) is = absurd is
client_named (event.Stabilise who) is = is
client_named (event.WriteOut lead) is = is
client_named (event.Finish lead) is = is
client_named event.Settle is = tt
client_named (event.Vanish who) is = is
client_named (event.Lose who) is = is

of_clients : (asked : Asked) → IsAskable asked → AsksOfClients asked
of_clients (asks.Event event) is = client_named event is
of_clients asks.Reopen is = tt

-- what a line asks for may be asked for by a built line
words_ask : (list : List (List ℕ)) → WhereAsked IsAskable (asked_of_parsed (parsed_words list))
words_ask [] = tt
words_ask (first ∷ rest) = by_asked (asked_of (first ∷ rest)) (λ asked is. (lines_have_one_text (first ∷ rest) asked is).0)
  where
    by_test : (b : Bool) → WhereAsked IsAskable (asked_of_parsed (cond b parsed.Unbuilt parsed.Bad))
    by_test true = tt
    by_test false = tt

    by_asked : (found : Option Asked) → ((asked : Asked) → found ≡ Some asked → IsAskable asked) → WhereAsked IsAskable (asked_of_parsed (option_map_or (λ one. parsed.Asked one) found (refused_as first)))
    by_asked None is = by_test (is_unbuilt first)
    by_asked (Some asked) is = is asked refl

line_asks : (line : List ℕ) → WhereAsked IsAskable (asked_of_line line)
line_asks line = by_tests (all_printable line) (is_comment line)
  where
    by_tests : (printable comment : Bool) → WhereAsked IsAskable (asked_of_parsed (cond printable (cond comment parsed.Skip (parsed_words (words line))) parsed.Bad))
    by_tests true true = tt
    by_tests true false = words_ask (words line)
    by_tests false comment = tt

pub askable_by_line : (line : List ℕ) (asked : Asked) → parsed_line line ≡ parsed.Asked asked → IsAskable asked
askable_by_line line asked parses = subst (WhereAsked IsAskable) (ap asked_of_parsed parses) (line_asks line)

-- what lines ask for names clients
pub lines_name_clients : LinesNameClients
lines_name_clients [] = tt
lines_name_clients (line ∷ lines) = by_asked (asked_of_line line) (line_asks line) (lines_name_clients lines)
  where
    by_asked : (found : Option Asked) → WhereAsked IsAskable found → AllAskOfClients (asked_in lines) → AllAskOfClients (cons_option found (asked_in lines))
    by_asked None is following = following
    by_asked (Some asked) is following = (of_clients asked is, following)

pub sessions_are_legal : SessionsAreLegal
sessions_are_legal vault pages limit capacity events given named = (
  every_run_legal vault pages limit capacity (happenings_of events given) named,
  every_run_whole vault pages limit capacity (happenings_of events given) named,
)
