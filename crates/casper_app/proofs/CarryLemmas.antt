use Rattle.std.proofs.Common.{◌≡◌, ◌+◌, ◌-◌, ◌^◌, ◌≤◌, arith, ℕ, Bool, true, false, cond, List, [], ◌∷◌, ◌++◌, Option, Some, None, ap, ap₂, sym, subst, ◌∙◌, refl, length, length-append, append_assoc, true≢false}
use Rattle.std.specs.Prelude.{IsTrue, min, is_some, option_to_list}
use Rattle.std.specs.List.{cons_option}
use Rattle.std.proofs.lemmas.List.{append-nil}
use Rattle.casper_words.specs.Count.{FaultCountRose}
use Rattle.casper_trail.specs.declared.item.Item.{Item}
use Rattle.casper_trail.specs.TrailView.{commit_count, rollback_count}
use Rattle.casper_space.specs.declared.answer.Answer.{Answer}
use Rattle.casper_space.specs.declared.answer.Answer.TheVariants as answer
use Rattle.casper_report.specs.declared.summary.Summary.{Summary}
use Rattle.casper_disk.specs.Disk.{Took}
use Rattle.casper_disk.specs.Vault.{Saved, IsOldOrNewImage, changes_in, version_settled}
use Rattle.casper_disk.proofs.TookLemmas.{took_weaker, took_then}
use Rattle.casper_model.specs.Own as machine
use Rattle.casper_model.specs.declared.event.Event.{Event}
use Rattle.casper_model.specs.State.{State, own_at, start}
use Rattle.casper_model.specs.Vault.{VaultState}
use Rattle.casper_hub.specs.Shows.{Shows}
use Rattle.casper_sessions.specs.Chain.{IsFound}
use Rattle.casper_sessions.specs.Moments.{moment_of}
use Rattle.casper_sessions.specs.Within.{IsLeftOf}
use Rattle.casper_core.specs.CoreView.{CoreView, cache_at}
use Rattle.casper_core.specs.Leaving.{Adds, IsLeftBefore, IsLeftDuring}
use Rattle.casper_core.specs.Shaped.{RepresentsButWords, StepsInShape, IsMade}
use Rattle.casper_core.specs.Represents.{Represents, own_part}
use Rattle.casper_core.specs.Sound.{IsSound}
use Rattle.casper_core.specs.Stepping.{Steps, IsAnswered, IsUnchanged, is_fault, completes, counted}
use Rattle.casper_core.proofs.LeftLemmas.{left_settling, within_of_left}
use Rattle.casper_core.proofs.ReplayRuns.{rose_more}
use Rattle.casper_core.proofs.ShapedRuns.{shape_unchanged}
use Rattle.casper_app.specs.declared.end.End.TheVariants as end
use Rattle.casper_app.specs.declared.past.Past.{Past}
use Rattle.casper_app.specs.declared.schedule.Asked.{Asked}
use Rattle.casper_app.specs.declared.schedule.Asked.TheVariants as asks
use Rattle.casper_app.specs.declared.sessions.Sessions.{Sessions}
use Rattle.casper_app.specs.Play.{Rules, Standing, Takes, Plays, begun_again, past_with, added, by_machine, in_shape, calls_in, completes_call, summary_of}
use Rattle.casper_app.specs.Carrying.{StandsBy, TakesBy, PlaysBy, StaysBy, LeavesWhile, LeavesAmong, MakesStep, MakesNone, Carries, summary_in}
use Rattle.casper_app.specs.Comes.{TellsOf, TellsButVersion}
use Rattle.casper_app.specs.Leaving.{IsLeftWhile, IsLeftAmong}
use Rattle.casper_app.specs.Lines.{asked_of_line, asked_in}
use Rattle.casper_app.specs.Taking.{CarriesLine}

-- one thing more was asked for and answered
pub plays_more : (rules : Rules) (entries : ℕ) (asked : List Asked) (given : List Answer) (one : Asked) (said : Answer) (first middle last : Standing)
    → Plays rules entries first asked given middle → Takes rules entries middle one said last → Plays rules entries first (asked ++ one ∷ []) (given ++ said ∷ []) last
plays_more rules entries [] [] one said first middle last same takes = (last, subst (λ (s : Standing). Takes rules entries s one said last) same takes, refl)
plays_more rules entries [] (other ∷ given) one said first middle last none takes = absurd none
plays_more rules entries (other ∷ asked) [] one said first middle last none takes = absurd none
plays_more rules entries (other ∷ asked) (was ∷ given) one said first middle last plays takes =
    (plays.0, plays.1, plays_more rules entries asked given one said plays.0 middle last plays.2 takes)

pub calls_more : (asked : List Asked) (given : List Answer) (one : Asked) (said : Answer) → length given ≡ length asked
    → calls_in (asked ++ one ∷ []) (given ++ said ∷ []) ≡ calls_in asked given + cond (completes_call one said) 1 0
calls_more [] [] one said same = omega arith
calls_more [] (other ∷ given) one said same = absurd (omega (arith, same))
calls_more (other ∷ asked) [] one said same = absurd (omega (arith, same))
calls_more (other ∷ asked) (was ∷ given) one said same = let rest = calls_more asked given one said (omega (arith, same)) in omega (arith, rest)

count_one : (completed : Bool) (before count : ℕ) → counted completed (min (before + count) (2 ^ 64 - 1)) ≡ min (before + (count + cond completed 1 0)) (2 ^ 64 - 1)
count_one true before count = omega arith
count_one false before count = omega arith

plays_then : {V : Type 0} (rules : Rules) (IsOf : State → CoreView V → Type 0) (asked : List Asked) (given : List Answer) (one : Asked) (said : Answer) (first middle last : Sessions V)
    → middle.entries ≡ first.entries → PlaysBy rules IsOf asked given first middle → TakesBy rules IsOf one said middle last
    → PlaysBy rules IsOf (asked ++ one ∷ []) (given ++ said ∷ []) first last
plays_then rules IsOf asked given one said first middle last same plays takes standing stands =
    let run = plays standing stands in
    let step = takes run.0 run.2 in (
      step.0,
      plays_more rules first.entries asked given one said standing run.0 step.0 run.1 (subst (λ (n : ℕ). Takes rules n run.0 one said step.0) same step.1),
      step.2,
    )

plays_still : {V : Type 0} (rules : Rules) (IsOf : State → CoreView V → Type 0) (asked : List Asked) (given : List Answer) (first middle last : Sessions V)
    → PlaysBy rules IsOf asked given first middle → StaysBy IsOf middle last → PlaysBy rules IsOf asked given first last
plays_still rules IsOf asked given first middle last plays stays standing stands =
    let run = plays standing stands in (run.0, run.1, stays run.0 run.2)

-- What a stop leaves while things are asked for, one after another.

-- what is left at the moment of a state is left while anything is carried out from there
while_of_left : (state : State) (one : Asked) (array : List (List ℕ)) → IsLeftOf state (moment_of state) array → IsLeftWhile state (one ∷ []) array
while_of_left state (asks.Event event) array left = within_of_left event state array left
while_of_left state asks.Reopen array left = left

-- more that is asked for later changes nothing, but where nothing else was asked for
while_more : (state : State) (rest : List Asked) (one : Asked) (array : List (List ℕ)) → IsLeftWhile state rest array → IsLeftWhile state (rest ++ one ∷ []) array
while_more state [] one array left = while_of_left state one array left
while_more state (asks.Event event ∷ rest) one array left = left
while_more state (asks.Reopen ∷ rest) one array left = left

among_more : (entries : ℕ) (first : Standing) (asked : List Asked) (given : List Answer) (one : Asked) (said : Answer) (array : List (List ℕ))
    → IsLeftAmong entries first asked given array → IsLeftAmong entries first (asked ++ one ∷ []) (given ++ said ∷ []) array
among_more entries first asked given one said array among = record {
  before = among.before;
  rest = among.rest ++ one ∷ [];
  asked_is = ap (λ (all : List Asked). all ++ one ∷ []) among.asked_is ∙ append_assoc among.before among.rest (one ∷ []);
  said = among.said;
  more = among.more ++ said ∷ [];
  given_is = ap (λ (all : List Answer). all ++ said ∷ []) among.given_is ∙ append_assoc among.said among.more (said ∷ []);
  standing = among.standing;
  plays = among.plays;
  left = while_more among.standing.state among.rest one array among.left;
}

module _ {V : Type 0} (moment : V → ℕ) (since : V → ℕ → Saved → Type 0) (asked : List Asked) (given : List Answer) where
  -- where nothing was asked for yet
  leaves_none : (sessions : Sessions V) → Adds moment since sessions.core.vault sessions.core.vault (IsLeftBefore sessions.core)
      → Adds moment since sessions.core.vault sessions.core.vault (LeavesAmong [] [] sessions)
  leaves_none sessions nothing =
      took_weaker (moment sessions.core.vault) (moment sessions.core.vault) (since sessions.core.vault) (since sessions.core.vault) (IsLeftBefore sessions.core) (LeavesAmong [] [] sessions)
      (λ saved left standing stands. record {
        before = [];
        rest = [];
        asked_is = refl;
        said = [];
        more = [];
        given_is = refl;
        standing = standing;
        plays = refl;
        left = left standing.state stands.state;
      })
      nothing

  module _ (first middle last : Sessions V) (counts : (earlier later : ℕ) (saved : Saved) → earlier ≤ later → since last.core.vault later saved → since last.core.vault earlier saved)
      (plays : PlaysBy by_machine Represents asked given first middle) (before : Adds moment since first.core.vault middle.core.vault (LeavesAmong asked given first)) where
    -- one thing more
    leaves_more : (one : Asked) (said : Answer) → Adds moment since middle.core.vault last.core.vault (LeavesWhile (one ∷ []) middle)
        → Adds moment since first.core.vault last.core.vault (LeavesAmong (asked ++ one ∷ []) (given ++ said ∷ []) first)
    leaves_more one said next =
        took_then (moment first.core.vault) (moment middle.core.vault) (moment last.core.vault) (since first.core.vault) (since middle.core.vault) (since last.core.vault)
        (LeavesAmong (asked ++ one ∷ []) (given ++ said ∷ []) first) counts
        (took_weaker (moment first.core.vault) (moment middle.core.vault) (since first.core.vault) (since middle.core.vault) (LeavesAmong asked given first)
        (LeavesAmong (asked ++ one ∷ []) (given ++ said ∷ []) first)
        (λ saved left standing stands. among_more first.entries standing asked given one said saved.image (left standing stands))
        before)
        (took_weaker (moment middle.core.vault) (moment last.core.vault) (since middle.core.vault) (since last.core.vault) (LeavesWhile (one ∷ []) middle)
        (LeavesAmong (asked ++ one ∷ []) (given ++ said ∷ []) first)
        (λ saved left standing stands. let run = plays standing stands in record {
          before = asked;
          rest = one ∷ [];
          asked_is = refl;
          said = given;
          more = said ∷ [];
          given_is = refl;
          standing = run.0;
          plays = run.1;
          left = left run.0 run.2;
        })
        next)

    -- nothing more
    leaves_still : Adds moment since middle.core.vault last.core.vault (LeavesWhile [] middle) → Adds moment since first.core.vault last.core.vault (LeavesAmong asked given first)
    leaves_still next =
        took_then (moment first.core.vault) (moment middle.core.vault) (moment last.core.vault) (since first.core.vault) (since middle.core.vault) (since last.core.vault)
        (LeavesAmong asked given first) counts before
        (took_weaker (moment middle.core.vault) (moment last.core.vault) (since middle.core.vault) (since last.core.vault) (LeavesWhile [] middle) (LeavesAmong asked given first)
        (λ saved left standing stands. let run = plays standing stands in record {
          before = asked;
          rest = [];
          asked_is = sym (append-nil asked);
          said = given;
          more = [];
          given_is = sym (append-nil given);
          standing = run.0;
          plays = run.1;
          left = left run.0 run.2;
        })
        next)

-- what is left before the step of an event or within it is left while that is carried out
leaves_before : {V : Type 0} (moment : V → ℕ) (since : V → ℕ → Saved → Type 0) (old : Sessions V) (after : V) → Adds moment since old.core.vault after (IsLeftBefore old.core)
    → Adds moment since old.core.vault after (LeavesWhile [] old)
leaves_before moment since old after adds =
    took_weaker (moment old.core.vault) (moment after) (since old.core.vault) (since after) (IsLeftBefore old.core) (LeavesWhile [] old)
    (λ saved left standing stands. left standing.state stands.state) adds

leaves_during : {V : Type 0} (moment : V → ℕ) (since : V → ℕ → Saved → Type 0) (event : Event) (old : Sessions V) (after : V) → Adds moment since old.core.vault after (IsLeftDuring event old.core)
    → Adds moment since old.core.vault after (LeavesWhile (asks.Event event ∷ []) old)
leaves_during moment since event old after adds =
    took_weaker (moment old.core.vault) (moment after) (since old.core.vault) (since after) (IsLeftDuring event old.core) (LeavesWhile (asks.Event event ∷ []) old)
    (λ saved left standing stands. left standing.state stands.state) adds

leaves_reopening : {V : Type 0} (moment : V → ℕ) (since : V → ℕ → Saved → Type 0) (old : Sessions V) (after : V) → Adds moment since old.core.vault after (IsLeftBefore old.core)
    → Adds moment since old.core.vault after (LeavesWhile (asks.Reopen ∷ []) old)
leaves_reopening moment since old after adds =
    took_weaker (moment old.core.vault) (moment after) (since old.core.vault) (since after) (IsLeftBefore old.core) (LeavesWhile (asks.Reopen ∷ []) old)
    (λ saved left standing stands. left standing.state stands.state) adds

-- what an opening adds
abbrev Settles : {V : Type 0} → (V → ℕ) → (V → ℕ → Saved → Type 0) → VaultState → V → V → Type 0
Settles moment since told before after =
    Took (moment before) (moment after) (since before) (since after) (IsOldOrNewImage told.image told.version (changes_in told.doubt) (version_settled told.doubt told.version))

leaves_settling : {V : Type 0} (moment : V → ℕ) (since : V → ℕ → Saved → Type 0) (old : Sessions V) (told : VaultState) (after : V) → old.core.told ≡ told
    → Settles moment since told old.core.vault after → Adds moment since old.core.vault after (IsLeftBefore old.core)
leaves_settling moment since old told after same settles =
    took_weaker (moment old.core.vault) (moment after) (since old.core.vault) (since after)
    (IsOldOrNewImage told.image told.version (changes_in told.doubt) (version_settled told.doubt told.version)) (IsLeftBefore old.core)
    (λ saved is. left_settling old.core saved
    (subst (λ (v : VaultState). IsOldOrNewImage v.image v.version (changes_in v.doubt) (version_settled v.doubt v.version) saved) (sym same) is))
    settles

-- before anything is asked for
pub carries_none : {V : Type 0} (tells : Bool) (faults moment : V → ℕ) (since : V → ℕ → Saved → Type 0) (sessions : Sessions V)
    → (IsTrue tells → Adds moment since sessions.core.vault sessions.core.vault (IsLeftBefore sessions.core)) → sessions.core.calls ≡ 0 → Carries tells faults moment since [] [] sessions sessions
carries_none tells faults moment since sessions nothing calls = record {
  each = refl;
  plays = λ told standing stands. (standing, refl, stands);
  shape = λ standing stands. (standing, refl, stands);
  failures = omega arith;
  calls = omega (arith, calls);
  entries = refl;
  images = λ told. leaves_none moment since [] [] sessions (nothing told);
}

-- one thing more
pub carries_more : {V : Type 0} (tells : Bool) (faults moment : V → ℕ) (since : V → ℕ → Saved → Type 0)
    (counts : (vault : V) (earlier later : ℕ) (saved : Saved) → IsTrue tells → earlier ≤ later → since vault later saved → since vault earlier saved)
    (asked : List Asked) (given : List Answer) (one : Asked) (said : Answer) (first middle last : Sessions V)
    → Carries tells faults moment since asked given first middle → MakesStep tells faults moment since one said middle last → Carries tells faults moment since (asked ++ one ∷ []) (given ++ said ∷ []) first last
carries_more tells faults moment since counts asked given one said first middle last carries step = record {
  each = length-append given (said ∷ []) ∙ ap (λ (n : ℕ). n + 1) carries.each ∙ sym (length-append asked (one ∷ []));
  plays = λ told. plays_then by_machine Represents asked given one said first middle last carries.entries (carries.plays told) (step.step told);
  shape = plays_then in_shape RepresentsButWords asked given one said first middle last carries.entries carries.shape step.shape;
  failures = rose_more given said _ _ _ carries.failures step.never_falls step.fault;
  calls =
      step.calls ∙ ap (counted (completes_call one said)) carries.calls ∙ count_one (completes_call one said) first.core.calls (calls_in asked given)
      ∙ ap (λ (n : ℕ). min (first.core.calls + n) (2 ^ 64 - 1)) (sym (calls_more asked given one said carries.each));
  entries = step.entries ∙ carries.entries;
  images = λ told.
      leaves_more moment since asked given first middle last (λ earlier later saved order left. counts last.core.vault earlier later saved told order left)
      (carries.plays told) (carries.images told) one said (step.images told);
}

-- nothing more
pub carries_still : {V : Type 0} (tells : Bool) (faults moment : V → ℕ) (since : V → ℕ → Saved → Type 0)
    (counts : (vault : V) (earlier later : ℕ) (saved : Saved) → IsTrue tells → earlier ≤ later → since vault later saved → since vault earlier saved)
    (asked : List Asked) (given : List Answer) (first middle last : Sessions V)
    → Carries tells faults moment since asked given first middle → MakesNone tells faults moment since middle last → Carries tells faults moment since asked given first last
carries_still tells faults moment since counts asked given first middle last carries none = record {
  each = carries.each;
  plays = λ told. plays_still by_machine Represents asked given first middle last (carries.plays told) (none.stands told);
  shape = plays_still in_shape RepresentsButWords asked given first middle last carries.shape none.shape;
  failures = omega (arith, carries.failures, none.never_falls);
  calls = none.calls ∙ carries.calls;
  entries = none.entries ∙ carries.entries;
  images = λ told.
      leaves_still moment since asked given first middle last (λ earlier later saved order left. counts last.core.vault earlier later saved told order left)
      (carries.plays told) (carries.images told) (none.images told);
}

-- what a line's answer was, where it has one
none_asked : (found : Option Asked) → false ≡ is_some found → found ≡ None
none_asked None test = refl
none_asked (Some asked) test = cc

-- one line more
pub carries_line : {V : Type 0} (tells : Bool) (faults moment : V → ℕ) (since : V → ℕ → Saved → Type 0)
    (counts : (vault : V) (earlier later : ℕ) (saved : Saved) → IsTrue tells → earlier ≤ later → since vault later saved → since vault earlier saved)
    (asked : List Asked) (given : List Answer) (line : List ℕ) (one : Option Answer) (first middle last : Sessions V)
    → Carries tells faults moment since asked given first middle → CarriesLine tells faults moment since line one middle last → is_some one ≡ is_some (asked_of_line line)
    → Carries tells faults moment since (asked ++ asked_in (line ∷ [])) (given ++ option_to_list one) first last
carries_line tells faults moment since counts asked given line None first middle last carries none test =
    subst (λ (e : List Asked). Carries tells faults moment since e (given ++ []) first last) (sym (ap (λ (found : Option Asked). asked ++ cons_option found []) (none_asked (asked_of_line line) test) ∙ append-nil asked))
    (subst (λ (a : List Answer). Carries tells faults moment since asked a first last) (sym (append-nil given)) (carries_still tells faults moment since counts asked given first middle last carries none))
carries_line tells faults moment since counts asked given line (Some one) first middle last carries step test =
    subst (λ (e : List Asked). Carries tells faults moment since e (given ++ one ∷ []) first last) (sym (ap (λ (found : Option Asked). asked ++ cons_option found []) step.1))
    (carries_more tells faults moment since counts asked given step.0 one first middle last carries step.2)

completed_few : (asked : List Asked) (given : List Answer) → calls_in asked given ≤ length given
completed_few asked [] = omega arith
completed_few [] (one ∷ given) = omega arith
completed_few (first ∷ asked) (one ∷ given) = by_test (completes_call first one) (completed_few asked given)
  where
    by_test : (test : Bool) → calls_in asked given ≤ length given → cond test 1 0 + calls_in asked given ≤ length (one ∷ given)
    by_test true few = omega (arith, few)
    by_test false few = omega (arith, few)

asked_few : (lines : List (List ℕ)) → length (asked_in lines) ≤ length lines
asked_few [] = omega arith
asked_few (line ∷ lines) = by_asked (asked_of_line line) (asked_few lines)
  where
    by_asked : (found : Option Asked) → length (asked_in lines) ≤ length lines → length (cons_option found (asked_in lines)) ≤ length (line ∷ lines)
    by_asked None few = omega (arith, few)
    by_asked (Some asked) few = omega (arith, few)

-- the calls that a core counted from none are all that were completed, where there were few lines
calls_counted : (lines : List (List ℕ)) (given : List Answer) (before after : ℕ) → length given ≡ length (asked_in lines) → length lines ≤ 1048576 → before ≡ 0
    → after ≡ min (before + calls_in (asked_in lines) given) (2 ^ 64 - 1) → after ≡ calls_in (asked_in lines) given
calls_counted lines given before after each few none counted =
    let all : calls_in (asked_in lines) given ≤ length given = completed_few (asked_in lines) given in
    let asked : length (asked_in lines) ≤ length lines = asked_few lines in
    omega (arith, all, asked, each, few, none, counted)

summed : ℕ → ℕ → Past → List Item → ℕ → Summary
summed lines calls past items version = record {
  lines = lines;
  calls = calls;
  commits = added past.commits (commit_count items);
  rollbacks = added past.rollbacks (rollback_count items);
  version = version;
}

-- what sessions tell is what the last line is to tell, but for the version
told_but_version : {V : Type 0} (tells : Bool) (faults moment : V → ℕ) (since : V → ℕ → Saved → Type 0) (lines : List (List ℕ)) (given : List Answer) (first last : Sessions V) (standing : Standing) (count : ℕ)
    → Carries tells faults moment since (asked_in lines) given first last → first.core.calls ≡ 0 → length lines ≤ 1048576 → length lines ≡ count
    → last.past ≡ standing.past → last.core.hub.trail ≡ standing.state.shared.trail
    → summary_in count last ≡ record (summary_of (length lines) (asked_in lines) given standing) { version = last.core.told.version }
unfolding summed
told_but_version tells faults moment since lines given first last standing count carries none few all past trail =
    let calls : last.core.calls ≡ calls_in (asked_in lines) given = calls_counted lines given first.core.calls last.core.calls carries.each few none carries.calls in
    ap (λ (n : ℕ). summed n last.core.calls last.past last.core.hub.trail last.core.told.version) (sym all)
    ∙ ap (λ (k : ℕ). summed (length lines) k last.past last.core.hub.trail last.core.told.version) calls
    ∙ ap (λ (p : Past). summed (length lines) (calls_in (asked_in lines) given) p last.core.hub.trail last.core.told.version) past
    ∙ ap (λ (t : List Item). summed (length lines) (calls_in (asked_in lines) given) standing.past t last.core.told.version) trail

pub shape_told : {V : Type 0} (tells : Bool) (faults moment : V → ℕ) (since : V → ℕ → Saved → Type 0) (lines : List (List ℕ)) (given : List Answer) (first last : Sessions V) (standing : Standing) (count : ℕ)
    → Carries tells faults moment since (asked_in lines) given first last → first.core.calls ≡ 0 → length lines ≤ 1048576 → length lines ≡ count
    → StandsBy RepresentsButWords standing last → TellsButVersion (end.Done (summary_in count last)) (summary_of (length lines) (asked_in lines) given standing)
shape_told tells faults moment since lines given first last standing count carries none few all stands =
    told_but_version tells faults moment since lines given first last standing count carries none few all stands.past (sym stands.state.shared.trail)

pub summary_told : {V : Type 0} (tells : Bool) (faults moment : V → ℕ) (since : V → ℕ → Saved → Type 0) (lines : List (List ℕ)) (given : List Answer) (first last : Sessions V) (standing : Standing) (count : ℕ)
    → Carries tells faults moment since (asked_in lines) given first last → first.core.calls ≡ 0 → length lines ≤ 1048576 → length lines ≡ count
    → StandsBy Represents standing last → TellsOf (end.Done (summary_in count last)) (summary_of (length lines) (asked_in lines) given standing)
unfolding summed
summary_told tells faults moment since lines given first last standing count carries none few all stands =
    told_but_version tells faults moment since lines given first last standing count carries none few all stands.past (sym stands.state.parts.shared.trail)
    ∙ ap (λ (v : VaultState). summed (length lines) (calls_in (asked_in lines) given) standing.past standing.state.shared.trail v.version) (sym stands.state.parts.vault)

-- an event was carried out
pub event_step : {V : Type 0} (tells : Bool) (faults moment : V → ℕ) (since : V → ℕ → Saved → Type 0) (event : Event) (given : Answer) (old : Sessions V) (after : CoreView V)
    → (IsTrue tells → Steps event given old.core after) → StepsInShape event given old.core after
    → (IsTrue (is_fault given) → FaultCountRose (faults old.core.vault) (faults after.vault)) → faults old.core.vault ≤ faults after.vault
    → after.calls ≡ counted (completes event given) old.core.calls → (IsTrue tells → Adds moment since old.core.vault after.vault (IsLeftDuring event old.core))
    → MakesStep tells faults moment since (asks.Event event) given old (record old { core = after })
event_step tells faults moment since event given old after steps shape fault falls calls images = record {
  step = λ told standing stands.
      let made : IsAnswered standing.state event given after = steps told standing.state stands.state in
      (record standing { state = by_machine.after standing.state event given }, (record { outside_fits = made.outside_fits; answers = made.answers }, refl), record { state = made.stands; past = stands.past });
  shape = λ standing stands.
      let made : IsMade standing.state event given after = shape standing.state stands.state in
      (record standing { state = in_shape.after standing.state event given }, (made.answers, refl), record { state = made.shape; past = stands.past });
  fault = fault;
  never_falls = falls;
  calls = calls;
  entries = refl;
  images = λ told. leaves_during moment since event old after.vault (images told);
}

-- or it was not, and nothing has changed
pub event_none : {V : Type 0} (tells : Bool) (faults moment : V → ℕ) (since : V → ℕ → Saved → Type 0) (old : Sessions V) (after : CoreView V) → (IsTrue tells → (state : State) → Represents state old.core → Represents state after)
    → IsUnchanged old.core after → faults old.core.vault ≤ faults after.vault → (IsTrue tells → Adds moment since old.core.vault after.vault (IsLeftBefore old.core))
    → MakesNone tells faults moment since old (record old { core = after })
event_none tells faults moment since old after stands same falls images = record {
  stands = λ told standing was. record { state = stands told standing.state was.state; past = was.past };
  shape = λ standing was. record { state = shape_unchanged standing.state old.core after same was.state; past = was.past };
  never_falls = falls;
  calls = same.calls;
  entries = refl;
  images = λ told. leaves_before moment since old after.vault (images told);
}

pub reopen_none : {V : Type 0} (tells : Bool) (faults moment : V → ℕ) (since : V → ℕ → Saved → Type 0) (old : Sessions V) (after : CoreView V) → (IsTrue tells → (state : State) → Represents state old.core → Represents state after)
    → ((state : State) → RepresentsButWords state old.core → RepresentsButWords state after) → after.calls ≡ old.core.calls → faults old.core.vault ≤ faults after.vault
    → (was : VaultState) → old.core.told ≡ was → (IsTrue tells → Settles moment since was old.core.vault after.vault)
    → MakesNone tells faults moment since old (record old { core = after })
reopen_none tells faults moment since old after stands shape calls falls was same settles = record {
  stands = λ told standing was. record { state = stands told standing.state was.state; past = was.past };
  shape = λ standing was. record { state = shape standing.state was.state; past = was.past };
  never_falls = falls;
  calls = calls;
  entries = refl;
  images = λ told. leaves_before moment since old after.vault (leaves_settling moment since old was after.vault same (settles told));
}

-- nothing happened
pub makes_none : {V : Type 0} (tells : Bool) (faults moment : V → ℕ) (since : V → ℕ → Saved → Type 0) (sessions : Sessions V)
    → (IsTrue tells → Adds moment since sessions.core.vault sessions.core.vault (IsLeftBefore sessions.core)) → MakesNone tells faults moment since sessions sessions
makes_none tells faults moment since sessions nothing = record {
  stands = λ told standing was. was;
  shape = λ standing was. was;
  never_falls = omega arith;
  calls = refl;
  entries = refl;
  images = λ told. leaves_before moment since sessions sessions.core.vault (nothing told);
}

-- what was answered, by other names
pub makes_step_at : {V : Type 0} (tells : Bool) (faults moment : V → ℕ) (since : V → ℕ → Saved → Type 0) (asked asked' : Asked) (given given' : Answer) (before before' after after' : Sessions V)
    → asked ≡ asked' → given ≡ given' → before ≡ before' → after ≡ after' → MakesStep tells faults moment since asked given before after → MakesStep tells faults moment since asked' given' before' after'
makes_step_at {V} tells faults moment since asked asked' given given' before before' after after' same_asked same_given same_before same_after step =
    subst (λ (a : Asked). MakesStep tells faults moment since a given' before' after') same_asked
    (subst (λ (a : Answer). MakesStep tells faults moment since asked a before' after') same_given
    (subst (λ (s : Sessions V). MakesStep tells faults moment since asked given s after') same_before
    (subst (λ (s : Sessions V). MakesStep tells faults moment since asked given before s) same_after step)))

-- the limits of a core are those of the state that it stands for
held_by : {V : Type 0} (core : CoreView V) → IsSound core → (own_part core.capacity 0 (cache_at core 0)).capacity ≡ core.capacity
held_by core sound =
    let by_place = elim (cache_at core 0) as (λ place. cache_at core 0 ≡ place → (own_part core.capacity 0 place).capacity ≡ core.capacity) [
      | None ↦ λ is. refl
      | Some own ↦ λ is. (sound.kept 0 own is).capacity
    ] in by_place refl

begins_again : {V : Type 0} (entries : ℕ) (state : State) (core after : CoreView V) (found : VaultState) → IsSound core → Shows state.shared core.hub
    → own_at state 0 ≡ own_part core.capacity 0 (cache_at core 0) → after.size ≡ core.size → after.capacity ≡ core.capacity
    → start found after.size entries after.capacity ≡ begun_again entries state found
begins_again entries state core after found sound shows own size capacity =
    ap₂ (λ (pages held : ℕ). start found pages entries held) (size ∙ sound.size ∙ sym shows.pages)
    (capacity ∙ sym (held_by core sound) ∙ sym (ap (λ (one : machine.Own). one.capacity) own))

no_fault : (given : Answer) (version : ℕ) → given ≡ answer.Reopened version → IsTrue (is_fault given) → ⊥
no_fault given version is fault = true≢false (sym fault ∙ ap is_fault is)

-- the store was opened again
module _ {V : Type 0} (old : Sessions V) (after : CoreView V) (past : Past) (sound : IsSound old.core) (past_is : past ≡ past_with old.past old.core.hub.trail)
    (size : after.size ≡ old.core.size) (capacity : after.capacity ≡ old.core.capacity) (given : Answer) (given_is : given ≡ answer.Reopened after.told.version) where
  again : Sessions V
  again = record { core = after; entries = old.entries; past = past }

  next : Standing → Standing
  next standing = record { found = after.told; state = begun_again old.entries standing.state after.told; past = past_with standing.past standing.state.shared.trail }

  reopened_by : (rules : Rules) (IsOf : State → CoreView V → Type 0) (standing : Standing) → StandsBy IsOf standing old → Shows standing.state.shared old.core.hub
      → own_at standing.state 0 ≡ own_part old.core.capacity 0 (cache_at old.core 0) → rules.Finds standing.state.vault after.told
      → IsOf (start after.told after.size old.entries after.capacity) after
      → (next : Standing) × Takes rules old.entries standing asks.Reopen given next × StandsBy IsOf next again
  unfolding again next
  reopened_by rules IsOf standing stands shows own finds begins = (
    next standing,
    (after.told, finds, given_is, refl),
    record {
      state = subst (λ (s : State). IsOf s after) (begins_again old.entries standing.state old.core after after.told sound shows own size capacity) begins;
      past = past_is ∙ ap₂ past_with stands.past (sym shows.trail);
    },
  )

  pub reopen_step : (tells : Bool) (faults moment : V → ℕ) (since : V → ℕ → Saved → Type 0) → (IsTrue tells → Represents (start after.told after.size old.entries after.capacity) after)
      → RepresentsButWords (start after.told after.size old.entries after.capacity) after → (IsTrue tells → IsFound old.core.told after.told)
      → after.calls ≡ old.core.calls → faults old.core.vault ≤ faults after.vault
      → (was : VaultState) → old.core.told ≡ was → (IsTrue tells → Settles moment since was old.core.vault after.vault)
      → MakesStep tells faults moment since asks.Reopen given old (record { core = after; entries = old.entries; past = past })
  unfolding again
  reopen_step tells faults moment since stands shape found calls falls told_was same settles = record {
    step = λ told standing was.
        reopened_by by_machine Represents standing was was.state.parts.shared (was.state.parts.owns 0 (omega arith))
        (subst (λ (v : VaultState). IsFound v after.told) (sym was.state.parts.vault) (found told)) (stands told);
    shape = λ standing was. reopened_by in_shape RepresentsButWords standing was was.state.shared (was.state.owns 0 (omega arith)) tt shape;
    fault = λ fault. absurd (no_fault given after.told.version given_is fault);
    never_falls = falls;
    calls = calls;
    entries = refl;
    images = λ told. leaves_reopening moment since old after.vault (leaves_settling moment since old told_was after.vault same (settles told));
  }
