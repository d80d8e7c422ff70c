use Rattle.std.proofs.Common.{◌≡◌, ◌≤◌, arith, ℕ, Bool, true, false, cond, List, [], ◌++◌, Option, Result, Ok, Err, ap, sym, subst, ◌∙◌, refl, length, inl, inr}
use Rattle.std.specs.Prelude.{IsTrue}
use Rattle.std.specs.Io.KnownBytes.{append_known}
use Rattle.casper_io.proofs.Known.{append_known-append}
use Rattle.casper_trail.specs.declared.item.Item.{Item}
use Rattle.casper_trail.specs.Legal.{IsLegal}
use Rattle.casper_disk.specs.Vault.{Saved}
use Rattle.casper_model.specs.State.{State, zero_vault}
use Rattle.casper_model.specs.WholeHistory.{whole_of}
use Rattle.casper_disk.proofs.TookLemmas.{took_weaker}
use Rattle.casper_core.specs.CoreView.{CoreView}
use Rattle.casper_core.specs.Leaving.{Adds, IsLeftBefore}
use Rattle.casper_core.specs.Represents.{Represents}
use Rattle.casper_core.specs.Shaped.{RepresentsButWords}
use Rattle.casper_core.specs.Stepping.{RoseBy, failures_in}
use Rattle.casper_model.specs.Vault.{VaultState}
use Rattle.casper_sessions.specs.Chain.{Limits, opened}
use Rattle.casper_space.specs.declared.answer.Answer.{Answer}
use Rattle.casper_app.specs.declared.cause.Cause.{Cause}
use Rattle.casper_app.specs.declared.cause.Cause.TheVariants as cause
use Rattle.casper_app.specs.declared.command.Opening.{Opening}
use Rattle.casper_app.specs.declared.end.End.{End}
use Rattle.casper_app.specs.declared.end.End.TheVariants as end
use Rattle.casper_app.specs.declared.outlet.Outlet.{Outlet}
use Rattle.casper_app.specs.declared.replay.Replay.{Replay}
use Rattle.casper_app.specs.declared.schedule.Asked.{Asked}
use Rattle.casper_app.specs.Carrying.{StandsBy, LeavesAmong, summary_in}
use Rattle.casper_app.specs.Chain.{AllAskOfClients, IsOfSessions}
use Rattle.casper_app.specs.Comes.{TellsOf, TellsButVersion, ComesFrom, ComesInShape, ComesOver}
use Rattle.casper_app.specs.Leaving.{IsLeftAmong}
use Rattle.casper_app.specs.Lines.{asked_in}
use Rattle.casper_app.specs.Play.{Standing, Plays, begun, by_machine, in_shape, summary_of}
use Rattle.casper_app.specs.Outlet.{keeps, writes, kept_of, written_of}
use Rattle.casper_app.specs.Replay.{EndsFor, WritesAnswers, cause_of}
use Rattle.casper_app.specs.Reading.{IsReading, stop_of}
use Rattle.casper_app.specs.Ending.{EndsWith, RunsReplay, RunsInMemory, IsLegalFrom, start_of}
use Rattle.casper_app.proofs.CarryLemmas.{shape_told, summary_told}
use Rattle.casper_app.proofs.ChainLemmas.{plays_are_sessions}
use Rattle.casper_app.proofs.SessionLemmas.{lines_name_clients, sessions_are_legal}

-- a fact of what lines come to
abbrev Coming : Type 1
Coming = ℕ → End → List Asked → List Answer → List Item → Type 0

-- only a call that meant to say so ends by the disk
meant_disk : (meant last : End) (before after : Option (List ℕ)) → EndsWith meant last before after → last ≡ end.Stopped cause.Disk → meant ≡ end.Stopped cause.Disk
meant_disk meant last before after ending disk = elim ending.written [
  | inl same ↦ elim ending.said_is [
    | inl said ↦ sym said ∙ sym same.0 ∙ disk
    | inr short ↦ absurd (let none : end.Stopped cause.Memory ≡ end.Stopped cause.Disk = sym short.0 ∙ sym same.0 ∙ disk in cc)
  ]
  | inr cut ↦ absurd (let none : end.Stopped cause.Write ≡ end.Stopped cause.Disk = sym cut.0 ∙ disk in cc)
]

-- what a stop now leaves of the vault of a core is what one leaves at the moment of each state that the core stands for
pub left_at : {V : Type 0} (tells : Bool) (moment : V → ℕ) (since : V → ℕ → Saved → Type 0) (now : V → Saved → Type 0)
    → ((vault : V) (past : ℕ) (saved : Saved) → IsTrue tells → past ≤ moment vault → now vault saved → since vault past saved)
    → IsTrue tells → (core : CoreView V) → Adds moment since core.vault core.vault (IsLeftBefore core) → (saved : Saved) → now core.vault saved → IsLeftBefore core saved
left_at tells moment since now counts told core nothing saved is = nothing.agrees saved (counts core.vault (moment core.vault) saved told (omega arith) is)

module _ {V : Type 0} {tells : Bool} {faults moment : V → ℕ} {since : V → ℕ → Saved → Type 0} {left left_after taken between : Option (List ℕ)} {old new : Replay V} {result : Result ℕ Cause}
    (reading : IsReading tells faults moment since left left_after taken between old new result) where
  -- what a reading comes to over a vault that tells what it holds
  comes_from : (entries : ℕ) (start : State) → old.sessions.entries ≡ entries → IsTrue tells → StandsBy Represents (begun start) old.sessions → (meant : End)
      → ((last : Standing) → StandsBy Represents last new.sessions → TellsOf meant (summary_of (length reading.lines) (asked_in reading.lines) reading.given last))
      → ComesFrom entries start (length reading.lines) meant (asked_in reading.lines) reading.given new.sessions.core.hub.trail
  comes_from entries start same told stands meant tells_it =
      let run = reading.carries.plays told (begun start) stands in
      record {
        last = run.0;
        plays = subst (λ (n : ℕ). Plays by_machine n (begun start) (asked_in reading.lines) reading.given run.0) same run.1;
        recorded = sym run.2.state.parts.shared.trail;
        counted = tells_it run.0 run.2;
      }

  -- and over every vault
  comes_in_shape : (entries : ℕ) (start : State) → old.sessions.entries ≡ entries → StandsBy RepresentsButWords (begun start) old.sessions → (meant : End)
      → ((last : Standing) → StandsBy RepresentsButWords last new.sessions → TellsButVersion meant (summary_of (length reading.lines) (asked_in reading.lines) reading.given last))
      → ComesInShape entries start (length reading.lines) meant (asked_in reading.lines) reading.given new.sessions.core.hub.trail
  comes_in_shape entries start same stands meant tells_it =
      let run = reading.carries.shape (begun start) stands in
      record {
        last = run.0;
        plays = subst (λ (n : ℕ). Plays in_shape n (begun start) (asked_in reading.lines) reading.given run.0) same run.1;
        recorded = sym run.2.state.shared.trail;
        counted = tells_it run.0 run.2;
      }

  -- and what a stop since it began might have left of a vault that tells what it holds, and leaves now
  comes_over : (now : V → Saved → Type 0) (entries : ℕ) (start : State) → old.sessions.entries ≡ entries → IsTrue tells → StandsBy Represents (begun start) old.sessions → (meant : End)
      → ((saved : Saved) → now new.sessions.core.vault saved → IsLeftBefore new.sessions.core saved)
      → ((last : Standing) → StandsBy Represents last new.sessions → TellsOf meant (summary_of (length reading.lines) (asked_in reading.lines) reading.given last))
      → ComesOver moment since now old.sessions.core.vault new.sessions.core.vault entries start (length reading.lines) meant (asked_in reading.lines) reading.given new.sessions.core.hub.trail
  unfolding comes_from
  comes_over now entries start same told stands meant left tells_it =
      let run = reading.carries.plays told (begun start) stands in
      record {
        comes = comes_from entries start same told stands meant tells_it;
        images = took_weaker (moment old.sessions.core.vault) (moment new.sessions.core.vault) (since old.sessions.core.vault) (since new.sessions.core.vault)
            (LeavesAmong (asked_in reading.lines) reading.given old.sessions) (λ saved. IsLeftAmong entries (begun start) (asked_in reading.lines) reading.given saved.image)
            (λ saved among. subst (λ (n : ℕ). IsLeftAmong n (begun start) (asked_in reading.lines) reading.given saved.image) same (among (begun start) stands))
            (reading.carries.images told);
        left = λ saved is. left saved is run.0.state run.2.state;
      }

  -- a reading and the line that tells how it ended make a replay
  made : (Comes : Coming) (none : old.answers.items ≡ []) (meant last : End) (taken_after : Option (List ℕ)) → cause_of meant ≡ stop_of result
      → Comes (length reading.lines) meant (asked_in reading.lines) reading.given new.sessions.core.hub.trail
      → EndsWith meant last between taken_after
      → RunsReplay Comes old.outlet (faults old.sessions.core.vault) (faults new.sessions.core.vault) left left_after taken taken_after new.answers.items new.sessions.core.hub.trail last
  made Comes none meant last taken_after same comes ending = record {
    given = reading.given;
    failures = reading.carries.failures;
    stopped = λ is. reading.stopped (sym same ∙ ap cause_of (meant_disk meant last between taken_after ending is));
    out = reading.out ++ ending.out;
    taken_is = ending.taken ∙ ap (λ (known : Option (List ℕ)). append_known known ending.out) reading.taken_is ∙ append_known-append taken reading.out ending.out;
    replay = record {
      lines = reading.lines;
      rest = reading.rest;
      reads = reading.reads;
      taken = reading.each;
      few = reading.few;
      meant = meant;
      told = reading.told;
      ends = subst (λ (c : Option Cause). EndsFor c reading.lines reading.rest left_after (written_of old.outlet reading.given) reading.told) (sym same) reading.ends;
      comes = comes;
      answered = reading.kept ∙ ap (λ (a : List Answer). a ++ kept_of old.outlet reading.given) none;
      text = reading.out;
      answers_written = subst (λ (c : Option Cause). WritesAnswers c reading.told reading.out) (sym same) reading.written;
      said = ending.said;
      said_is = ending.said_is;
      ending = ending.out;
      ending_written = ending.written;
      written = refl;
    };
  }

-- the source was read to its end, and this is what the last line tells
module _ {V : Type 0} {tells : Bool} {faults moment : V → ℕ} {since : V → ℕ → Saved → Type 0} {left left_after taken between : Option (List ℕ)} {old new : Replay V} (count entries : ℕ) (start : State) (last : End) (taken_after : Option (List ℕ)) (same : old.sessions.entries ≡ entries)
    (reading : IsReading tells faults moment since left left_after taken between old new (Ok count)) (calls : old.sessions.core.calls ≡ 0) (none : old.answers.items ≡ [])
    (ending : EndsWith (end.Done (summary_in count new.sessions)) last between taken_after) where
  meant : End
  meant = end.Done (summary_in count new.sessions)

  pub runs_done : (now : V → Saved → Type 0) → ((saved : Saved) → now new.sessions.core.vault saved → IsLeftBefore new.sessions.core saved) → IsTrue tells
      → StandsBy Represents (begun start) old.sessions
      → RunsReplay (ComesOver moment since now old.sessions.core.vault new.sessions.core.vault entries start) old.outlet (faults old.sessions.core.vault) (faults new.sessions.core.vault) left left_after taken taken_after new.answers.items new.sessions.core.hub.trail last
  unfolding meant
  runs_done now here told stands =
      made reading (ComesOver moment since now old.sessions.core.vault new.sessions.core.vault entries start) none meant last taken_after refl
      (comes_over reading now entries start same told stands meant here
      (λ at. summary_told tells faults moment since reading.lines reading.given old.sessions new.sessions at count reading.carries calls reading.few reading.counted)) ending

  pub shape_done : StandsBy RepresentsButWords (begun start) old.sessions
      → RunsReplay (ComesInShape entries start) old.outlet (faults old.sessions.core.vault) (faults new.sessions.core.vault) left left_after taken taken_after new.answers.items new.sessions.core.hub.trail last
  unfolding meant
  shape_done stands =
      made reading (ComesInShape entries start) none meant last taken_after refl
      (comes_in_shape reading entries start same stands meant
      (λ at. shape_told tells faults moment since reading.lines reading.given old.sessions new.sessions at count reading.carries calls reading.few reading.counted)) ending

-- the reading ended before
module _ {V : Type 0} {tells : Bool} {faults moment : V → ℕ} {since : V → ℕ → Saved → Type 0} {left left_after taken between : Option (List ℕ)} {old new : Replay V} (said : Cause) (entries : ℕ) (start : State) (last : End) (taken_after : Option (List ℕ)) (same : old.sessions.entries ≡ entries)
    (reading : IsReading tells faults moment since left left_after taken between old new (Err said)) (none : old.answers.items ≡ [])
    (ending : EndsWith (end.Stopped said) last between taken_after) where
  pub runs_stopped : (now : V → Saved → Type 0) → ((saved : Saved) → now new.sessions.core.vault saved → IsLeftBefore new.sessions.core saved) → IsTrue tells
      → StandsBy Represents (begun start) old.sessions
      → RunsReplay (ComesOver moment since now old.sessions.core.vault new.sessions.core.vault entries start) old.outlet (faults old.sessions.core.vault) (faults new.sessions.core.vault) left left_after taken taken_after new.answers.items new.sessions.core.hub.trail last
  runs_stopped now here told stands =
      made reading (ComesOver moment since now old.sessions.core.vault new.sessions.core.vault entries start) none (end.Stopped said) last taken_after refl
      (comes_over reading now entries start same told stands (end.Stopped said) here (λ at there. tt)) ending

  pub shape_stopped : StandsBy RepresentsButWords (begun start) old.sessions
      → RunsReplay (ComesInShape entries start) old.outlet (faults old.sessions.core.vault) (faults new.sessions.core.vault) left left_after taken taken_after new.answers.items new.sessions.core.hub.trail last
  shape_stopped stands =
      made reading (ComesInShape entries start) none (end.Stopped said) last taken_after refl (comes_in_shape reading entries start same stands (end.Stopped said) (λ at here. tt)) ending

no_answers_of : (test : Bool) → ◌≡◌ {A = List Answer} (cond test [] []) []
no_answers_of true = refl
no_answers_of false = refl

-- nothing was read, and memory was short
module _ (entries : ℕ) (start : State) (outlet : Outlet) (faults : ℕ) (left taken taken_after : Option (List ℕ)) (answers : List Answer) (items : List Item) (last : End)
    (ending : EndsWith (end.Stopped cause.Memory) last taken taken_after) (no_answers : answers ≡ []) (same_items : items ≡ start.shared.trail) where
  unread : (Comes : Coming) → Comes 0 (end.Stopped cause.Memory) [] [] items
      → RunsReplay Comes outlet faults faults left left taken taken_after answers items last
  unread Comes comes = record {
    given = [];
    failures = omega arith;
    stopped = λ is. absurd (let none : end.Stopped cause.Memory ≡ end.Stopped cause.Disk = meant_disk (end.Stopped cause.Memory) last taken taken_after ending is in cc);
    out = ending.out;
    taken_is = ending.taken;
    replay = record {
      lines = [];
      rest = left;
      reads = refl;
      taken = tt;
      few = omega arith;
      meant = end.Stopped cause.Memory;
      told = [];
      ends = inl (refl, refl, no_answers_of (writes outlet));
      comes = comes;
      answered = no_answers ∙ sym (no_answers_of (keeps outlet));
      text = [];
      answers_written = refl;
      said = ending.said;
      said_is = ending.said_is;
      ending = ending.out;
      ending_written = ending.written;
      written = refl;
    };
  }

  pub runs_unread : RunsReplay (ComesFrom entries start) outlet faults faults left left taken taken_after answers items last
  runs_unread = unread (ComesFrom entries start) (record {
    last = begun start;
    plays = refl;
    recorded = same_items;
    counted = tt;
  })

  -- the vault is as it was
  pub over_unread : {V : Type 0} (moment : V → ℕ) (since : V → ℕ → Saved → Type 0) (now : V → Saved → Type 0) (core : CoreView V) → Represents start core
      → Adds moment since core.vault core.vault (IsLeftBefore core) → ((saved : Saved) → now core.vault saved → IsLeftBefore core saved)
      → RunsReplay (ComesOver moment since now core.vault core.vault entries start) outlet faults faults left left taken taken_after answers items last
  over_unread moment since now core stands nothing here = unread (ComesOver moment since now core.vault core.vault entries start) (record {
    comes = record { last = begun start; plays = refl; recorded = same_items; counted = tt };
    images = took_weaker (moment core.vault) (moment core.vault) (since core.vault) (since core.vault) (IsLeftBefore core) (λ saved. IsLeftAmong entries (begun start) [] [] saved.image)
        (λ saved left. record {
          before = [];
          rest = [];
          asked_is = refl;
          said = [];
          more = [];
          given_is = refl;
          standing = begun start;
          plays = refl;
          left = left start stands;
        })
        nothing;
    left = λ saved is. here saved is start stands;
  })

  pub shape_unread : RunsReplay (ComesInShape entries start) outlet faults faults left left taken taken_after answers items last
  shape_unread = unread (ComesInShape entries start) (record {
    last = begun start;
    plays = refl;
    recorded = same_items;
    counted = tt;
  })

-- over a vault whose faults are never counted nothing failed
never_failed : (count : ℕ) → RoseBy count 0 0 → count ≡ 0
never_failed count rose = omega (arith, rose)

pub runs_in_memory : (pages : ℕ) (opening : Opening) (outlet : Outlet) (left left_after taken taken_after : Option (List ℕ)) (answers : List Answer) (items : List Item) (last : End)
    → RunsReplay (ComesFrom opening.entries (start_of pages opening)) outlet 0 0 left left_after taken taken_after answers items last
    → RunsInMemory pages opening outlet left left_after taken taken_after answers items last
runs_in_memory pages opening outlet left left_after taken taken_after answers items last run = record {
  given = run.given;
  unfailing = never_failed (failures_in run.given) run.failures;
  out = run.out;
  taken_is = run.taken_is;
  replay = run.replay;
}

-- what was read and recorded is legal
pub legal_from : (limits : Limits) (vault : VaultState) (outlet : Outlet) (faults faults_after : ℕ) (left left_after taken taken_after : Option (List ℕ)) (answers : List Answer) (items : List Item) (last : End)
    → RunsReplay (ComesFrom limits.entries (opened limits vault)) outlet faults faults_after left left_after taken taken_after answers items last
    → IsLegalFrom limits.entries (opened limits vault) outlet left answers items
legal_from limits vault outlet faults faults_after left left_after taken taken_after answers items last run =
    let replay = run.replay in
    let last : Standing = replay.comes.last in
    let all : IsOfSessions limits vault (asked_in replay.lines) run.given last =
    plays_are_sessions limits vault (asked_in replay.lines) run.given last (lines_name_clients replay.lines) replay.comes.plays in
    let legal = sessions_are_legal last.found limits.pages limits.entries limits.held all.events all.said all.named in
    record {
      lines = replay.lines;
      rest = replay.rest;
      reads = replay.reads;
      given = run.given;
      answered = replay.answered;
      last = last;
      plays = replay.comes.plays;
      recorded = replay.comes.recorded;
      legal = subst (λ (i : List Item). IsLegal last.found.image i) (sym (replay.comes.recorded ∙ ap (λ (s : State). s.shared.trail) all.state)) legal.0;
      whole = subst (λ (s : State). IsLegal last.found.image (whole_of s)) (sym all.state) legal.1;
    }

abbrev pub limits_of : ℕ → Opening → Limits
limits_of pages opening = record { pages = pages; entries = opening.entries; held = opening.cache }

pub legal_in_memory : (pages : ℕ) (opening : Opening) (outlet : Outlet) (faults faults_after : ℕ) (left left_after taken taken_after : Option (List ℕ)) (answers : List Answer) (items : List Item) (last : End)
    → RunsReplay (ComesFrom opening.entries (start_of pages opening)) outlet faults faults_after left left_after taken taken_after answers items last
    → IsLegalFrom opening.entries (start_of pages opening) outlet left answers items
legal_in_memory pages opening outlet faults faults_after left left_after taken taken_after answers items last run =
    legal_from (limits_of pages opening) (zero_vault pages) outlet faults faults_after left left_after taken taken_after answers items last run

-- the same, by what the calls of a replay gave
pub runs_at : {V : Type 0} (Comes : V → V → Coming) (faults : V → ℕ) (outlet outlet' : Outlet) (vault vault' after after' : V) (left left_after taken taken_after : Option (List ℕ)) (answers answers' : List Answer) (items items' : List Item) (last : End)
    → outlet ≡ outlet' → vault ≡ vault' → after ≡ after' → answers ≡ answers' → items ≡ items'
    → RunsReplay (Comes vault after) outlet (faults vault) (faults after) left left_after taken taken_after answers items last
    → RunsReplay (Comes vault' after') outlet' (faults vault') (faults after') left left_after taken taken_after answers' items' last
runs_at {V} Comes faults outlet outlet' vault vault' after after' left left_after taken taken_after answers answers' items items' last same_outlet same_vault same_after same_answers same_items run =
    subst (λ (o : Outlet). RunsReplay (Comes vault' after') o (faults vault') (faults after') left left_after taken taken_after answers' items' last) same_outlet
    (subst (λ (v : V). RunsReplay (Comes v after') outlet (faults v) (faults after') left left_after taken taken_after answers' items' last) same_vault
    (subst (λ (v : V). RunsReplay (Comes vault v) outlet (faults vault) (faults v) left left_after taken taken_after answers' items' last) same_after
    (subst (λ (a : List Answer). RunsReplay (Comes vault after) outlet (faults vault) (faults after) left left_after taken taken_after a items' last) same_answers
    (subst (λ (i : List Item). RunsReplay (Comes vault after) outlet (faults vault) (faults after) left left_after taken taken_after answers i last) same_items run))))

-- what lines come to is also something else
pub runs_as : (Comes Comes' : Coming) (outlet : Outlet) (faults faults_after : ℕ) (left left_after taken taken_after : Option (List ℕ)) (answers : List Answer) (items : List Item) (last : End)
    → ((lines : ℕ) (said : End) (asked : List Asked) (given : List Answer) (recorded : List Item) → AllAskOfClients asked → Comes lines said asked given recorded
    → Comes' lines said asked given recorded)
    → RunsReplay Comes outlet faults faults_after left left_after taken taken_after answers items last → RunsReplay Comes' outlet faults faults_after left left_after taken taken_after answers items last
runs_as Comes Comes' outlet faults faults_after left left_after taken taken_after answers items last more run =
    let replay = run.replay in
    record {
      given = run.given;
      failures = run.failures;
      stopped = run.stopped;
      out = run.out;
      taken_is = run.taken_is;
      replay = record {
        lines = replay.lines;
        rest = replay.rest;
        reads = replay.reads;
        taken = replay.taken;
        few = replay.few;
        meant = replay.meant;
        told = replay.told;
        ends = replay.ends;
        comes = more (length replay.lines) replay.meant (asked_in replay.lines) run.given items (lines_name_clients replay.lines) replay.comes;
        answered = replay.answered;
        text = replay.text;
        answers_written = replay.answers_written;
        said = replay.said;
        said_is = replay.said_is;
        ending = replay.ending;
        ending_written = replay.ending_written;
        written = replay.written;
      };
    }
