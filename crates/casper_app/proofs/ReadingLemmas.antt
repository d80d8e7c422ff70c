use Rattle.std.proofs.Common.{◌≡◌, ◌≢◌, ◌+◌, ◌≤◌, ◌<◌, arith, ℕ, Bool, true, false, cond, List, [], ◌∷◌, ◌++◌, Option, Some, None, Result, Ok, Err, ap, sym, subst, ◌∙◌, refl, length, length-append, length-drop, append_assoc, inl, inr, take, drop}
use Rattle.std.specs.Prelude.{IsTrue, is_some, option_to_list, IsErrAnd, MatchResult, MatchBool}
use Rattle.std.proofs.lemmas.List.{append-nil, take-append-drop}
use Rattle.std.proofs.lemmas.Grind.{flat_map-append}
use Rattle.std.proofs.lemmas.List.Elements.{filter_map-append}
use Rattle.std.specs.Io.KnownBytes.{append_known}
use Rattle.casper_io.proofs.Known.{append_known-nil, append_known-append}
use Rattle.casper_io.proofs.LinesRead.{reads_more}
use Rattle.casper_io.specs.Lines.{TakesLine, TakesEnd}
use Rattle.casper_io.specs.Reading.{most_lines}
use Rattle.casper_io.specs.Told.{WhereTold, TakesFront}
use Rattle.casper_space.specs.declared.answer.Answer.{Answer}
use Rattle.casper_words.specs.Count.{FaultCountRose}
use Rattle.casper_report.specs.Texts.{answer_line, answer_lines}
use Rattle.casper_disk.specs.Vault.{Saved}
use Rattle.casper_core.specs.Leaving.{Adds, IsLeftBefore}
use Rattle.casper_core.specs.Stepping.{RoseBy, failures_in}
use Rattle.casper_app.specs.declared.cause.Cause.{Cause}
use Rattle.casper_app.specs.declared.cause.Cause.TheVariants as cause
use Rattle.casper_app.specs.declared.outlet.Outlet.{Outlet}
use Rattle.casper_app.specs.declared.replay.Replay.{Replay}
use Rattle.casper_app.specs.declared.schedule.Asked.{Asked}
use Rattle.casper_app.specs.declared.schedule.Parsed.{Parsed}
use Rattle.casper_app.specs.declared.schedule.Parsed.TheVariants as parsed
use Rattle.casper_app.specs.Schedule.{parsed_line}
use Rattle.casper_app.specs.Carrying.{Carries}
use Rattle.casper_app.specs.Lines.{asked_of_parsed, asked_of_line, asked_in, IsTaken, IsTakenAs, AreTaken}
use Rattle.casper_app.specs.Outlet.{keeps, writes, kept_of, written_of}
use Rattle.casper_app.specs.Reading.{Stands, IsReading, stop_of}
use Rattle.casper_app.specs.Replay.{AsksLast, EndsFor, WritesButTheLast, WritesAnswers}
use Rattle.casper_app.specs.Taking.{CarriesLine, IsDue, TakesInput, NoLine}
use Rattle.casper_app.proofs.CarryLemmas.{carries_none, carries_line, carries_still}

taken_more : (lines : List (List ℕ)) (line : List ℕ) → AreTaken lines → IsTaken line → AreTaken (lines ++ line ∷ [])
taken_more [] line each one = (one, tt)
taken_more (first ∷ lines) line each one = (each.0, taken_more lines line each.1 one)

-- a line that asks for something is none that is refused
taken_as : (said : Parsed) (asked : Asked) → asked_of_parsed said ≡ Some asked → IsTakenAs said
taken_as parsed.Skip asked is = tt
taken_as (parsed.Asked one) asked is = tt
taken_as parsed.Unbuilt asked is = cc
taken_as parsed.Bad asked is = cc

-- what is asked for by one more line
pub asked_more : (lines : List (List ℕ)) (line : List ℕ) → asked_in (lines ++ line ∷ []) ≡ asked_in lines ++ asked_in (line ∷ [])
asked_more lines line = filter_map-append asked_of_line lines (line ∷ [])

-- the answers that are kept, and those that are written, of more answers
part_more : (test : Bool) (given more : List Answer) → cond test (given ++ more) [] ≡ cond test given [] ++ cond test more []
part_more true given more = refl
part_more false given more = refl

kept_more : (first middle last : List Answer) (outlet outlet' : Outlet) (given more : List Answer) → middle ≡ first ++ kept_of outlet given → outlet' ≡ outlet
    → last ≡ middle ++ kept_of outlet' more → last ≡ first ++ kept_of outlet (given ++ more)
kept_more first middle last outlet outlet' given more start same end =
    end ∙ ap (λ (o : Outlet). middle ++ kept_of o more) same ∙ ap (λ (m : List Answer). m ++ kept_of outlet more) start
    ∙ append_assoc first (kept_of outlet given) (kept_of outlet more) ∙ ap (λ (rest : List Answer). first ++ rest) (sym (part_more (keeps outlet) given more))

-- the text of more answers is written after the text of those before
text_more : (first between last : Option (List ℕ)) (before more : List Answer) → between ≡ append_known first (answer_lines before) → last ≡ append_known between (answer_lines more) → last ≡ append_known first (answer_lines (before ++ more))
text_more first between last before more start end =
    end ∙ ap (λ (known : Option (List ℕ)). append_known known (answer_lines more)) start
    ∙ append_known-append first (answer_lines before) (answer_lines more)
    ∙ ap (append_known first) (sym (flat_map-append answer_line before more))

written_more : (first between last : Option (List ℕ)) (outlet outlet' : Outlet) (given more : List Answer) → between ≡ append_known first (answer_lines (written_of outlet given)) → outlet' ≡ outlet
    → last ≡ append_known between (answer_lines (written_of outlet' more)) → last ≡ append_known first (answer_lines (written_of outlet (given ++ more)))
written_more first between last outlet outlet' given more start same end =
    text_more first between last (written_of outlet given) (written_of outlet more) start (end ∙ ap (λ (o : Outlet). append_known between (answer_lines (written_of o more))) same)
    ∙ ap (λ (told : List Answer). append_known first (answer_lines told)) (sym (part_more (writes outlet) given more))

none_of : (test : Bool) → ◌≡◌ {A = List Answer} (cond test [] []) []
none_of true = refl
none_of false = refl

-- before any line
pub stands_first : {V : Type 0} (tells : Bool) (faults moment : V → ℕ) (since : V → ℕ → Saved → Type 0) (left taken : Option (List ℕ)) (replay : Replay V)
    → (IsTrue tells → Adds moment since replay.sessions.core.vault replay.sessions.core.vault (IsLeftBefore replay.sessions.core)) → replay.sessions.core.calls ≡ 0
    → Stands tells faults moment since 0 left left taken taken replay replay
stands_first tells faults moment since left taken replay nothing calls = record {
  lines = [];
  counted = refl;
  reads = refl;
  each = tt;
  given = [];
  carries = carries_none tells faults moment since replay.sessions nothing calls;
  outlet = refl;
  kept = sym (ap (λ (none : List Answer). replay.answers.items ++ none) (none_of (keeps replay.outlet)) ∙ append-nil replay.answers.items);
  written = sym (ap (λ (none : List Answer). append_known taken (answer_lines none)) (none_of (writes replay.outlet)) ∙ append_known-nil taken);
}

-- what a text lacks after a shorter front is something
pub rest_of_front : (text : List ℕ) (count : ℕ) → count < length text → drop count text ≢ []
rest_of_front text count short none = absurd (omega (arith, length-drop count text, ap length none, short))

-- an answer was cut, after the whole text of the answers before it
cut_at : (first between last : Option (List ℕ)) (before : List Answer) (given : Answer) (told : List Answer) → told ≡ before ++ given ∷ []
    → between ≡ append_known first (answer_lines before) → TakesFront between last (answer_line given)
    → (out : List ℕ) × (last ≡ append_known first out) × WritesButTheLast told out
cut_at first between last before given told is start front = (
  answer_lines before ++ take front.count (answer_line given),
  front.taken ∙ ap (λ (known : Option (List ℕ)). append_known known (take front.count (answer_line given))) start
      ∙ append_known-append first (answer_lines before) (take front.count (answer_line given)),
  record {
    before = before;
    last = given;
    is = is;
    part = take front.count (answer_line given);
    cut = (
      drop front.count (answer_line given),
      rest_of_front (answer_line given) front.count front.short,
      sym (take-append-drop front.count (answer_line given)),
    );
    written = refl;
  },
)

-- a disk that failed counts beside the steps before it
disk_counted : (said : Cause) (failures before middle now : ℕ) → RoseBy failures before middle → (said ≡ cause.Disk → FaultCountRose middle now)
    → ◌≡◌ {A = Option Cause} (Some said) (Some cause.Disk) → RoseBy (failures + 1) before now
disk_counted said failures before middle now first rose is =
    let same : said ≡ cause.Disk = cc in
    let later : FaultCountRose middle now = rose same in
    omega (arith, first, later)

-- what a line with an answer comes to, after the lines before it
module _ {V : Type 0} {tells : Bool} {faults moment : V → ℕ} {since : V → ℕ → Saved → Type 0}
    (counts : (vault : V) (earlier later : ℕ) (saved : Saved) → IsTrue tells → earlier ≤ later → since vault later saved → since vault earlier saved)
    {count : ℕ} {first left : Option (List ℕ)} (last : Option (List ℕ)) {taken_first taken : Option (List ℕ)} (taken_last : Option (List ℕ))
    {old middle : Replay V} (new : Replay V) (line : List ℕ) (stands : Stands tells faults moment since count first left taken_first taken old middle) (takes : WhereTold left last (TakesLine line)) where
  -- what the lines with this one ask for, and the answers
  carries_with : (given : Option Answer) → CarriesLine tells faults moment since line given middle.sessions new.sessions → is_some given ≡ is_some (asked_of_line line)
      → Carries tells faults moment since (asked_in (stands.lines ++ line ∷ [])) (stands.given ++ option_to_list given) old.sessions new.sessions
  carries_with given carries test =
      subst (λ (all : List Asked). Carries tells faults moment since all (stands.given ++ option_to_list given) old.sessions new.sessions) (sym (asked_more stands.lines line))
      (carries_line tells faults moment since counts (asked_in stands.lines) stands.given line given old.sessions middle.sessions new.sessions stands.carries carries test)

  kept_with : (given : Option Answer) → new.answers.items ≡ middle.answers.items ++ kept_of middle.outlet (option_to_list given)
      → new.answers.items ≡ old.answers.items ++ kept_of old.outlet (stands.given ++ option_to_list given)
  kept_with given kept = kept_more old.answers.items middle.answers.items new.answers.items old.outlet middle.outlet stands.given (option_to_list given) stands.kept stands.outlet kept

  -- after a line that was taken
  pub stands_more : TakesInput tells faults moment since (count + 1) line middle new taken taken_last (Ok tt) → Stands tells faults moment since (count + 1) first last taken_first taken_last old new
  stands_more input = record {
    lines = stands.lines ++ line ∷ [];
    counted = length-append stands.lines (line ∷ []) ∙ ap (λ (n : ℕ). n + 1) stands.counted;
    reads = reads_more first stands.lines left line last stands.reads takes;
    each = taken_more stands.lines line stands.each input.writes.0;
    given = stands.given ++ option_to_list input.given;
    carries = carries_with input.given input.carries input.writes.1;
    outlet = input.outlet ∙ stands.outlet;
    kept = kept_with input.given input.kept;
    written = written_more taken_first taken taken_last old.outlet middle.outlet stands.given (option_to_list input.given) stands.written stands.outlet input.writes.2;
  }

  -- a line without an answer that ended the reading
  stays : (said : Cause) → EndsFor (Some said) stands.lines left last (written_of old.outlet stands.given) (written_of old.outlet stands.given) → WritesAnswers (Some said) (written_of old.outlet stands.given) (answer_lines (written_of old.outlet stands.given))
      → count < most_lines → (given : Option Answer) → given ≡ None → CarriesLine tells faults moment since line given middle.sessions new.sessions
      → new.answers.items ≡ middle.answers.items ++ kept_of middle.outlet (option_to_list given) → taken_last ≡ taken
      → (said ≡ cause.Disk → FaultCountRose (faults middle.sessions.core.vault) (faults new.sessions.core.vault))
      → IsReading tells faults moment since first last taken_first taken_last old new (Err said)
  stays said ends whole few given none carries kept same rose =
      let still = subst (λ (g : Option Answer). CarriesLine tells faults moment since line g middle.sessions new.sessions) none carries in
      let all : new.answers.items ≡ old.answers.items ++ kept_of old.outlet (stands.given ++ option_to_list given) = kept_with given kept in
      record {
        lines = stands.lines;
        rest = left;
        reads = stands.reads;
        each = stands.each;
        few = omega (arith, stands.counted, few);
        counted = tt;
        ends = ends;
        given = stands.given;
        carries = carries_still tells faults moment since counts (asked_in stands.lines) stands.given old.sessions middle.sessions new.sessions stands.carries still;
        stopped = λ is. disk_counted said (failures_in stands.given) (faults old.sessions.core.vault) (faults middle.sessions.core.vault) (faults new.sessions.core.vault) stands.carries.failures rose is;
        kept = all ∙ ap (λ (g : Option Answer). old.answers.items ++ kept_of old.outlet (stands.given ++ option_to_list g)) none
            ∙ ap (λ (g : List Answer). old.answers.items ++ kept_of old.outlet g) (append-nil stands.given);
        out = answer_lines (written_of old.outlet stands.given);
        taken_is = same ∙ stands.written;
        told = written_of old.outlet stands.given;
        written = whole;
      }

  -- a line that was answered, and whose answer was not written whole
  carried : (said : Cause) (one : Answer) (asked : Asked) → asked_of_line line ≡ Some asked → (given : Option Answer) → given ≡ Some one → CarriesLine tells faults moment since line given middle.sessions new.sessions
      → new.answers.items ≡ middle.answers.items ++ kept_of middle.outlet (option_to_list given) → count < most_lines
      → (told : List Answer) → EndsFor (Some said) (stands.lines ++ line ∷ []) last last (written_of old.outlet (stands.given ++ one ∷ [])) told
      → (out : List ℕ) → taken_last ≡ append_known taken_first out → WritesAnswers (Some said) told out → (◌≡◌ {A = Option Cause} (Some said) (Some cause.Disk) → ⊥)
      → IsReading tells faults moment since first last taken_first taken_last old new (Err said)
  carried said one asked asks given some carries kept few told ends out taken_is written no_disk =
      let test : is_some given ≡ is_some (asked_of_line line) = ap is_some some ∙ sym (ap is_some asks) in
      let all = carries_with given carries test in
      let both : new.answers.items ≡ old.answers.items ++ kept_of old.outlet (stands.given ++ option_to_list given) = kept_with given kept in
      record {
        lines = stands.lines ++ line ∷ [];
        rest = last;
        reads = reads_more first stands.lines left line last stands.reads takes;
        each = taken_more stands.lines line stands.each (taken_as (parsed_line line) asked asks);
        few = omega (arith, length-append stands.lines (line ∷ []), stands.counted, few);
        counted = tt;
        ends = ends;
        given = stands.given ++ one ∷ [];
        carries = subst (λ (g : Option Answer). Carries tells faults moment since (asked_in (stands.lines ++ line ∷ [])) (stands.given ++ option_to_list g) old.sessions new.sessions) some all;
        stopped = λ is. absurd (no_disk is);
        kept = both ∙ ap (λ (g : Option Answer). old.answers.items ++ kept_of old.outlet (stands.given ++ option_to_list g)) some;
        out = out;
        taken_is = taken_is;
        told = told;
        written = written;
      }

  -- where the answer is to be written, all answers with it are those before it and then it
  with_last : (one : Answer) → written_of middle.outlet (one ∷ []) ≡ one ∷ [] → written_of old.outlet (stands.given ++ one ∷ []) ≡ written_of old.outlet stands.given ++ one ∷ []
  with_last one due =
      part_more (writes old.outlet) stands.given (one ∷ [])
      ∙ ap (λ (w : List Answer). written_of old.outlet stands.given ++ w) (sym (ap (λ (o : Outlet). written_of o (one ∷ [])) stands.outlet) ∙ due)

  last_asks : (asked : Asked) → asked_of_line line ≡ Some asked → AsksLast (stands.lines ++ line ∷ [])
  last_asks asked asks = record { front = stands.lines; line = line; is_last = refl; asked = asked; asks = asks }

  -- memory was short before a line was answered, or for the text of its answer
  pub short_of_memory : (given : Option Answer) → CarriesLine tells faults moment since line given middle.sessions new.sessions
      → new.answers.items ≡ middle.answers.items ++ kept_of middle.outlet (option_to_list given) → count < most_lines → taken_last ≡ taken
      → IsDue middle.outlet given → (asked : Asked) → asked_of_line line ≡ Some asked
      → IsReading tells faults moment since first last taken_first taken_last old new (Err cause.Memory)
  short_of_memory None carries kept few same due asked asks =
      stays cause.Memory (inr (inl (omega (arith, stands.counted, few), (line, takes, asked, asks), refl))) refl few None refl carries kept same (λ is. (let none = is in cc))
  short_of_memory (Some one) carries kept few same due asked asks =
      carried cause.Memory one carries.0 carries.1 (Some one) refl carries kept few (written_of old.outlet stands.given)
      (inr (inr (refl, last_asks carries.0 carries.1, one, with_last one due)))
      (answer_lines (written_of old.outlet stands.given)) (same ∙ stands.written) refl (λ is. (let none = is in cc))

  -- the sink failed at the answer
  pub cut_short : (one : Answer) (given : Option Answer) → given ≡ Some one → CarriesLine tells faults moment since line given middle.sessions new.sessions
      → new.answers.items ≡ middle.answers.items ++ kept_of middle.outlet (option_to_list given) → count < most_lines
      → written_of middle.outlet (one ∷ []) ≡ one ∷ [] → TakesFront taken taken_last (answer_line one)
      → IsReading tells faults moment since first last taken_first taken_last old new (Err cause.Write)
  cut_short one given some carries kept few whole front =
      let step = subst (λ (g : Option Answer). CarriesLine tells faults moment since line g middle.sessions new.sessions) some carries in
      let cut = cut_at taken_first taken taken_last (written_of old.outlet stands.given) one
      (written_of old.outlet (stands.given ++ one ∷ [])) (with_last one whole) stands.written front in
      carried cause.Write one step.0 step.1 given some carries kept few
      (written_of old.outlet (stands.given ++ one ∷ [])) (refl, last_asks step.0 step.1, refl) cut.0 cut.1 cut.2 (λ is. (let none = is in cc))

  -- a line was refused, or memory was short, or the sink failed at its answer
  pub reading_refused : (said : Cause) → count < most_lines → TakesInput tells faults moment since (count + 1) line middle new taken taken_last (Err said)
      → (said ≡ cause.Disk → FaultCountRose (faults middle.sessions.core.vault) (faults new.sessions.core.vault))
      → IsReading tells faults moment since first last taken_first taken_last old new (Err said)
  reading_refused cause.Usage few input rose = absurd input.writes
  reading_refused cause.Read few input rose = absurd input.writes
  reading_refused cause.Write few input rose = cut_short input.writes.0 input.given input.writes.1 input.carries input.kept few input.writes.2 input.writes.3
  reading_refused cause.Disk few input rose =
      stays cause.Disk (omega (arith, stands.counted, few), (line, takes, input.writes.0), refl) refl few input.given input.writes.1 input.carries input.kept input.writes.2 rose
  reading_refused (cause.Refused refusal) few input rose =
      stays (cause.Refused refusal) (omega (arith, stands.counted, few), (line, takes, input.writes.0), refl) refl few input.given input.writes.1 input.carries input.kept input.writes.2 rose
  reading_refused cause.Memory few input rose = short_of_memory input.given input.carries input.kept few input.writes.0 input.writes.1 input.writes.2 input.writes.3
  reading_refused (cause.BadLine n) few input rose =
      stays (cause.BadLine n) (input.writes.0 ∙ ap (λ (k : ℕ). k + 1) (sym stands.counted), (line, inr (takes, inl input.writes.1)), refl) refl few
      input.given input.writes.2 input.carries input.kept input.writes.3 rose
  reading_refused (cause.Illegal at rule) few input rose = absurd input.writes
  reading_refused (cause.Unbuilt n) few input rose =
      stays (cause.Unbuilt n) (input.writes.0 ∙ ap (λ (k : ℕ). k + 1) (sym stands.counted), (omega (arith, input.writes.0, few), line, takes, input.writes.1), refl) refl few
      input.given input.writes.2 input.carries input.kept input.writes.3 rose

module _ {V : Type 0} {tells : Bool} {faults moment : V → ℕ} {since : V → ℕ → Saved → Type 0} {count : ℕ} {first left last taken_first taken : Option (List ℕ)} {old middle : Replay V}
    (stands : Stands tells faults moment since count first left taken_first taken old middle) where
  -- the reading ended after the lines that were answered
  ended : (result : Result ℕ Cause) → count ≤ most_lines → (told_count : MatchResult result (λ all. all ≡ count) (λ cause. Unit {0}))
      → EndsFor (stop_of result) stands.lines left last (written_of old.outlet stands.given) (written_of old.outlet stands.given)
      → WritesAnswers (stop_of result) (written_of old.outlet stands.given) (answer_lines (written_of old.outlet stands.given)) → (stop_of result ≡ Some cause.Disk → ⊥)
      → IsReading tells faults moment since first last taken_first taken old middle result
  ended result few told_count ends whole no_disk = record {
    lines = stands.lines;
    rest = left;
    reads = stands.reads;
    each = stands.each;
    few = omega (arith, stands.counted, few);
    counted = counted_by result told_count;
    ends = ends;
    given = stands.given;
    carries = stands.carries;
    stopped = λ is. absurd (no_disk is);
    kept = stands.kept;
    out = answer_lines (written_of old.outlet stands.given);
    taken_is = stands.written;
    told = written_of old.outlet stands.given;
    written = whole;
  }
    where
      counted_by : (r : Result ℕ Cause) → MatchResult r (λ all. all ≡ count) (λ cause. Unit {0}) → MatchResult r (λ all. length stands.lines ≡ all) (λ cause. Unit {0})
      counted_by (Ok all) same = stands.counted ∙ sym same
      counted_by (Err cause) same = tt

  -- the source is at its end
  pub reading_done : count ≤ most_lines → WhereTold left last (TakesEnd []) → IsReading tells faults moment since first last taken_first taken old middle (Ok count)
  reading_done few takes = ended (Ok count) few refl (takes, refl) refl (λ is. (let none = is in cc))

  -- no line stood next
  pub reading_failed : (said : Cause) → count ≤ most_lines → NoLine said (count + 1) left last → IsReading tells faults moment since first last taken_first taken old middle (Err said)
  reading_failed cause.Usage few next = absurd next
  reading_failed cause.Read few next = ended (Err cause.Read) few tt (next, refl) refl (λ is. (let none = is in cc))
  reading_failed cause.Write few next = absurd next
  reading_failed cause.Disk few next = absurd next
  reading_failed (cause.Refused refusal) few next = absurd next
  reading_failed cause.Memory few next = absurd next
  reading_failed (cause.BadLine n) few next =
      ended (Err (cause.BadLine n)) few tt (next.0 ∙ ap (λ (k : ℕ). k + 1) (sym stands.counted), (next.1, inl next.2), refl) refl (λ is. (let none = is in cc))
  reading_failed (cause.Illegal at rule) few next = absurd next
  reading_failed (cause.Unbuilt n) few next = absurd next

  -- no line stood next after as many as there may be
  pub reading_failed_last : (said : Cause) → count ≡ most_lines → NoLine said (most_lines + 1) left last → IsReading tells faults moment since first last taken_first taken old middle (Err said)
  reading_failed_last said all next =
      reading_failed said (omega (arith, all)) (let same : most_lines + 1 ≡ count + 1 = omega (arith, all) in subst (λ (n : ℕ). NoLine said n left last) same next)

  -- one line too many stood next
  pub reading_past : (line : List ℕ) → count ≡ most_lines → WhereTold left last (TakesLine line) → IsReading tells faults moment since first last taken_first taken old middle (Err (cause.BadLine (most_lines + 1)))
  reading_past line all takes =
      ended (Err (cause.BadLine (most_lines + 1))) (omega (arith, all)) tt (omega (arith, stands.counted, all), (line, inr (takes, inr refl)), refl) refl (λ is. (let none = is in cc))

-- what a line did, by its bytes in other words
pub input_at : {V : Type 0} (tells : Bool) (faults moment : V → ℕ) (since : V → ℕ → Saved → Type 0) (number : ℕ) (line line' : List ℕ) (old new : Replay V) (taken taken_last : Option (List ℕ)) (result : Result (Unit {0}) Cause)
    → line ≡ line' → TakesInput tells faults moment since number line old new taken taken_last result → TakesInput tells faults moment since number line' old new taken taken_last result
input_at tells faults moment since number line line' old new taken taken_last result same h = subst (λ (l : List ℕ). TakesInput tells faults moment since number l old new taken taken_last result) same h

-- a line stood next
pub is_line : (P Q : Type 0) (found : Bool) → found ≡ true → MatchBool found P Q → P
is_line P Q true e h = h
is_line P Q false e h = cc

-- what holds of the one error holds of the result
pub err_is : {T : Type 0} (result : Result T Cause) (why : Cause) (P : Result T Cause → Type 0) → IsErrAnd result (λ e. e ≡ why) → P (Err why) → P result
err_is (Ok x) why P fails h = absurd fails
err_is {T} (Err e) why P fails h = subst (λ (f : Cause). P (Err f)) (sym fails) h

-- a count of faults that rose later rose
pub rose_later : (count before middle now : ℕ) → RoseBy count before middle → FaultCountRose middle now → FaultCountRose before now
rose_later count before middle now first later = omega (arith, first, later)
