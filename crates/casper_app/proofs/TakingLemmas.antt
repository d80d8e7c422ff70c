use Rattle.std.proofs.Common.{◌≡◌, ℕ, Bool, true, false, cond, List, [], ◌∷◌, ◌++◌, Option, Some, None, Result, Ok, Err, ap, sym, subst, ◌∙◌, refl, replicate}
use Rattle.std.specs.Prelude.{is_some, IsErrAnd}
use Rattle.std.specs.Io.KnownBytes.{append_known}
use Rattle.std.proofs.lemmas.List.{append-nil}
use Rattle.casper_io.proofs.Known.{append_known-nil}
use Rattle.casper_io.specs.Told.{TakesFront}
use Rattle.casper_report.specs.Texts.{answer_line, answer_lines}
use Rattle.casper_space.specs.declared.answer.Answer.{Answer}
use Rattle.casper_disk.specs.MemVault.{HeldPages, held_image}
use Rattle.casper_disk.specs.Vault.{Saved}
use Rattle.casper_model.specs.declared.event.Event.{Event}
use Rattle.casper_model.specs.declared.event.Event.TheVariants as event
use Rattle.casper_model.specs.State.{State, start, zero_start}
use Rattle.casper_model.specs.Vault.{VaultState}
use Rattle.casper_core.specs.CoreView.{CoreView}
use Rattle.casper_core.specs.Represents.{Represents}
use Rattle.casper_core.specs.Stepping.{IsBuilt}
use Rattle.casper_app.specs.declared.cause.Cause.{Cause}
use Rattle.casper_app.specs.declared.cause.Cause.TheVariants as cause
use Rattle.casper_app.specs.declared.outlet.Outlet.{Outlet}
use Rattle.casper_app.specs.declared.replay.Replay.{Replay}
use Rattle.casper_app.specs.declared.schedule.Asked.{Asked}
use Rattle.casper_app.specs.declared.schedule.Asked.TheVariants as asks
use Rattle.casper_app.specs.declared.schedule.Parsed.{Parsed}
use Rattle.casper_app.specs.declared.schedule.Parsed.TheVariants as parsed
use Rattle.casper_app.specs.Carrying.{MakesStep, MakesNone, MayBeAsked}
use Rattle.casper_app.specs.Grammar.{IsEvent, IsAskable}
use Rattle.casper_app.specs.Lines.{asked_of_parsed, asked_of_line, IsTakenAs, IsTaken}
use Rattle.casper_app.specs.Opening.{IsWhy}
use Rattle.casper_app.specs.Outlet.{keeps, writes, kept_of, written_of}
use Rattle.casper_app.specs.Schedule.{parsed_line}
use Rattle.casper_app.specs.Taking.{CarriesAsked, CarriesLine, WritesAnswer, WritesForLine, TakesAsked, TakesInput}

-- there is a turn for each event of a built line
built : (asked : Event) → IsEvent asked → IsBuilt asked
built (event.Join who) is = tt
built (event.Read who page word) is = tt
built (event.Write who page word value) is = tt
built (event.Acquire who wants) is = tt
built (event.Serve who) is = tt
built (event.Depart who) is = tt
built (event.Hold who wants) is = absurd is
built (event.Stabilise who) is = tt
built (event.WriteOut lead) is = tt
built (event.Finish lead) is = tt
built event.Settle is = tt
built (event.Vanish who) is = tt
built (event.Lose who) is = tt

pub may_be_asked : (asked : Asked) → IsAskable asked → MayBeAsked asked
may_be_asked (asks.Event event) is = built event is
may_be_asked asks.Reopen is = tt

-- a vault in memory as it is made tells what the machine's does
pub stands_at_start : (pages entries cache : ℕ) (vault : HeldPages) (core : CoreView HeldPages) → core.told ≡ record { image = held_image vault; version = vault.version; room = None; doubt = None }
    → core.size ≡ pages → held_image vault ≡ replicate pages (replicate 512 0) → vault.version ≡ 1
    → Represents (start core.told core.size entries cache) core → Represents (zero_start pages entries cache) core
stands_at_start pages entries cache vault core told size image version stands =
    let vaults : List (List ℕ) → ℕ → VaultState = λ i n. record { image = i; version = n; room = None; doubt = None } in
    subst (λ (s : State). Represents s core)
    (ap (λ (n : ℕ). start core.told n entries cache) size
    ∙ ap (λ (v : VaultState). start v pages entries cache)
    (told ∙ ap (vaults (held_image vault)) version ∙ ap (λ (i : List (List ℕ)). vaults i 1) image)) stands

-- what was done for something is what was done for the line that asks for it
pub input_of_asked : {V : Type 0} (tells : Bool) (faults moment : V → ℕ) (since : V → ℕ → Saved → Type 0) (number : ℕ) (line : List ℕ) (asked : Asked) (old new : Replay V) (before after : Option (List ℕ)) (result : Result (Unit {0}) Cause)
    → parsed_line line ≡ parsed.Asked asked → TakesAsked tells faults moment since asked old new before after result → TakesInput tells faults moment since number line old new before after result
input_of_asked tells faults moment since number line asked old new before after result parses takes = record {
  given = takes.given;
  carries = by_given takes.given takes.carries;
  outlet = takes.outlet;
  kept = takes.kept;
  writes = by_result result takes.given takes.writes;
}
  where
    is : asked_of_line line ≡ Some asked
    is = ap asked_of_parsed parses

    taken : IsTaken line
    taken = subst IsTakenAs (sym parses) tt

    by_given : (given : Option Answer) → CarriesAsked tells faults moment since asked given old.sessions new.sessions → CarriesLine tells faults moment since line given old.sessions new.sessions
    by_given None none = none
    by_given (Some one) step = (asked, is, step)

    by_result : (r : Result (Unit {0}) Cause) (given : Option Answer) → WritesAnswer asked old.outlet given before after r → WritesForLine number line old.outlet given before after r
    by_result (Ok done) given h = (taken, h.0 ∙ sym (ap is_some is), h.1)
    by_result (Err cause.Write) given h = h
    by_result (Err cause.Disk) given h = (is ∙ ap Some h.0, h.1, h.2)
    by_result (Err (cause.Refused refusal)) given h = (is ∙ ap Some h.0, h.1, h.2)
    by_result (Err cause.Memory) given h = (h.0, h.1, asked, is)
    by_result (Err cause.Usage) given h = absurd h
    by_result (Err cause.Read) given h = absurd h
    by_result (Err (cause.BadLine n)) given h = absurd h
    by_result (Err (cause.Illegal at rule)) given h = absurd h
    by_result (Err (cause.Unbuilt n)) given h = absurd h

-- what is kept and written of no answer
none_of : (test : Bool) → ◌≡◌ {A = List Answer} (cond test [] []) []
none_of true = refl
none_of false = refl

-- a line that asks for nothing: nothing has changed
module _ {V : Type 0} (tells : Bool) (faults moment : V → ℕ) (since : V → ℕ → Saved → Type 0) (number : ℕ) (line : List ℕ) (replay : Replay V) (taken : Option (List ℕ))
    (none : MakesNone tells faults moment since replay.sessions replay.sessions) where
  same_kept : replay.answers.items ≡ replay.answers.items ++ kept_of replay.outlet []
  same_kept = sym (ap (λ (more : List Answer). replay.answers.items ++ more) (none_of (keeps replay.outlet)) ∙ append-nil replay.answers.items)

  -- it is skipped
  pub line_skipped : parsed_line line ≡ parsed.Skip → TakesInput tells faults moment since number line replay replay taken taken (Ok tt)
  line_skipped parses = record {
    given = None;
    carries = none;
    outlet = refl;
    kept = same_kept;
    writes = (
      subst IsTakenAs (sym parses) tt,
      sym (ap (λ (p : Parsed). is_some (asked_of_parsed p)) parses),
      sym (ap (λ (told : List Answer). append_known taken (answer_lines told)) (none_of (writes replay.outlet)) ∙ append_known-nil taken),
    );
  }

  -- or it is refused
  pub line_unbuilt : parsed_line line ≡ parsed.Unbuilt → TakesInput tells faults moment since number line replay replay taken taken (Err (cause.Unbuilt number))
  line_unbuilt parses = record { given = None; carries = none; outlet = refl; kept = same_kept; writes = (refl, parses, refl, refl) }

  pub line_bad : parsed_line line ≡ parsed.Bad → TakesInput tells faults moment since number line replay replay taken taken (Err (cause.BadLine number))
  line_bad parses = record { given = None; carries = none; outlet = refl; kept = same_kept; writes = (refl, parses, refl, refl) }

-- where answers are not written, nothing of one is
pub unwritten : (outlet outlet' : Outlet) (given : List Answer) (taken : Option (List ℕ)) → outlet' ≡ outlet → writes outlet' ≡ false
    → taken ≡ append_known taken (answer_lines (written_of outlet given))
unwritten outlet outlet' given taken same not_written =
    sym (ap (λ (test : Bool). append_known taken (answer_lines (cond test given []))) (ap writes (sym same) ∙ not_written) ∙ append_known-nil taken)

-- where they are written, all of one is
pub written_whole : (outlet outlet' : Outlet) (one : Answer) → outlet' ≡ outlet → writes outlet' ≡ true → written_of outlet (one ∷ []) ≡ one ∷ []
written_whole outlet outlet' one same is_written = ap (λ (test : Bool). cond test (one ∷ []) []) (ap writes (sym same) ∙ is_written)

pub written_text : (outlet outlet' : Outlet) (one : Answer) (text : List ℕ) (before after : Option (List ℕ)) → outlet' ≡ outlet → writes outlet' ≡ true → text ≡ answer_line one
    → after ≡ append_known before text → after ≡ append_known before (answer_lines (written_of outlet (one ∷ [])))
written_text outlet outlet' one text before after same is_written line all =
    all ∙ ap (append_known before) (line ∙ sym (append-nil (answer_line one)))
    ∙ ap (λ (told : List Answer). append_known before (answer_lines told)) (sym (written_whole outlet outlet' one same is_written))

pub front_of : (before after : Option (List ℕ)) (text text' : List ℕ) → text ≡ text' → TakesFront before after text → TakesFront before after text'
front_of before after text text' same front = subst (λ (t : List ℕ). TakesFront before after t) same front

-- memory was short for the text of an answer
pub memory_short : {V : Type 0} (tells : Bool) (faults moment : V → ℕ) (since : V → ℕ → Saved → Type 0) (asked : Asked) (one : Answer) (old new : Replay V) (taken : Option (List ℕ)) (result : Result (Unit {0}) Cause)
    → IsErrAnd result (λ made. made ≡ cause.Memory) → MakesStep tells faults moment since asked one old.sessions new.sessions → new.outlet ≡ old.outlet
    → new.answers.items ≡ old.answers.items ++ kept_of old.outlet (one ∷ []) → written_of old.outlet (one ∷ []) ≡ one ∷ [] → TakesAsked tells faults moment since asked old new taken taken result
memory_short tells faults moment since asked one old new taken (Ok done) made step same kept due = absurd made
memory_short tells faults moment since asked one old new taken (Err said) made step same kept due =
    subst (λ (c : Cause). TakesAsked tells faults moment since asked old new taken taken (Err c)) (sym made)
    (record { given = Some one; carries = step; outlet = same; kept = kept; writes = (refl, due) })

-- there was no answer, and nothing was written
pub unanswered : {V : Type 0} (tells : Bool) (faults moment : V → ℕ) (since : V → ℕ → Saved → Type 0) (asked : Asked) (why : Cause) (old new : Replay V) (taken : Option (List ℕ)) (result : Result (Unit {0}) Cause)
    → IsErrAnd result (λ made. made ≡ why) → IsWhy asked why → MakesNone tells faults moment since old.sessions new.sessions → new.outlet ≡ old.outlet → new.answers.items ≡ old.answers.items
    → TakesAsked tells faults moment since asked old new taken taken result
unanswered tells faults moment since asked why old new taken (Ok done) made is none same kept = absurd made
unanswered tells faults moment since asked why old new taken (Err said) made is none same kept = record {
  given = None;
  carries = none;
  outlet = same;
  kept = kept ∙ sym (ap (λ (more : List Answer). old.answers.items ++ more) (by_test (keeps old.outlet)) ∙ append-nil old.answers.items);
  writes = by_cause said (subst (IsWhy asked) (sym made) is);
}
  where
    by_test : (test : Bool) → ◌≡◌ {A = List Answer} (cond test [] []) []
    by_test true = refl
    by_test false = refl

    by_cause : (said : Cause) → IsWhy asked said → WritesAnswer asked old.outlet None taken taken (Err said)
    by_cause cause.Memory is = (refl, tt)
    by_cause cause.Disk is = (is, refl, refl)
    by_cause (cause.Refused refusal) is = (is, refl, refl)
    by_cause cause.Usage is = absurd is
    by_cause cause.Read is = absurd is
    by_cause cause.Write is = absurd is
    by_cause (cause.BadLine n) is = absurd is
    by_cause (cause.Illegal at rule) is = absurd is
    by_cause (cause.Unbuilt n) is = absurd is
