use Rattle.std.proofs.Common.{◌≡◌, ◌∙◌, ℕ, Bool, true, false, cond, List, [], ◌∷◌, Option, Some, None, refl, sym, ap, subst, inl, inr}
use Rattle.std.specs.Prelude.{All, is_some}
use Rattle.std.specs.Fmt.{decimal}
use Rattle.std.specs.Option.{option_map_or}
use Rattle.std.proofs.lemmas.Bool.Decides.{Decides-eqb}
use Rattle.casper_words.specs.Crew.{IsClient}
use Rattle.casper_text.specs.Line.{IsPrintable, all_printable, words}
use Rattle.casper_text.proofs.LineLemmas.{printable_exactly}
use Rattle.casper_model.specs.declared.event.Event.{Event}
use Rattle.casper_model.specs.declared.event.Event.TheVariants as event
use Rattle.casper_app.specs.declared.schedule.Asked.{Asked}
use Rattle.casper_app.specs.declared.schedule.Asked.TheVariants as wants
use Rattle.casper_app.specs.declared.schedule.Parsed.{Parsed}
use Rattle.casper_app.specs.declared.schedule.Parsed.TheVariants as parsed
use Rattle.casper_app.specs.Grammar.{words_of_event, words_of_asked, IsEvent, IsAskable}
use Rattle.casper_app.specs.Schedule.{client_of, asked_of, is_comment, is_unbuilt, parsed_line, parsed_words, refused_as}
use Rattle.casper_app.specs.LineLaws.{BeginsWithHash, IsPlain, IsSkipped, AsksFor, IsUnbuilt, LinesAreSorted}
use Rattle.casper_app.proofs.GrammarLemmas.{client_read_back, client_text, lines_are_read_back, lines_have_one_text}

-- what a line is, by what it is said to be
Sorted : List ℕ → Parsed → Type 0
Sorted line parsed.Skip = IsSkipped line
Sorted line (parsed.Asked asked) = AsksFor line asked
Sorted line parsed.Unbuilt = IsUnbuilt line
Sorted line parsed.Bad = (IsSkipped line → ⊥) × ((asked : Asked) → AsksFor line asked → ⊥) × (IsUnbuilt line → ⊥)

hash_of : (line : List ℕ) → is_comment line ≡ true → BeginsWithHash line
hash_of [] comment = cc
hash_of (byte ∷ bytes) comment = (bytes, ap (λ (b : ℕ). b ∷ bytes) ((Decides-eqb byte 35).0 comment))

no_hash : (line : List ℕ) → is_comment line ≡ false → BeginsWithHash line → ⊥
no_hash line none hash = let comment : is_comment line ≡ true = ap is_comment hash.1 in (let both = sym none ∙ comment in cc)

-- the words of a line that asks for something are some
event_words : (asked : Event) → IsEvent asked → words_of_event asked ≡ [] → ⊥
event_words (event.Join who) is none = cc
event_words (event.Read who page word) is none = cc
event_words (event.Write who page word value) is none = cc
event_words (event.Acquire who wants) is none = cc
event_words (event.Serve who) is none = cc
event_words (event.Depart who) is none = cc
event_words (event.Hold who wants) is none = is
event_words (event.Stabilise who) is none = cc
event_words (event.WriteOut lead) is none = cc
event_words (event.Finish lead) is none = cc
event_words event.Settle is none = cc
event_words (event.Vanish who) is none = cc
event_words (event.Lose who) is none = cc

some_words : (asked : Asked) → IsAskable asked → words_of_asked asked ≡ [] → ⊥
some_words (wants.Event asked) is none = event_words asked is none
some_words wants.Reopen is none = cc

abbrev IsKnown : List ℕ → Type 0
IsKnown first = (who : ℕ) × IsClient who × (first ≡ decimal who)

known_from : (first : List ℕ) → is_unbuilt first ≡ true → IsKnown first
known_from first unbuilt = by_client (client_of first) refl unbuilt
  where
    by_client : (found : Option ℕ) → client_of first ≡ found → is_some found ≡ true → (who : ℕ) × IsClient who × (first ≡ decimal who)
    by_client (Some who) names test = let named = client_text first who names in (who, named.0, named.1)
    by_client None names test = cc

known_to : (first : List ℕ) → IsKnown first → is_unbuilt first ≡ true
known_to first named = ap (λ (found : Option ℕ). is_some found) (ap client_of named.2 ∙ client_read_back named.0 named.1)

-- words that ask for nothing are those of no line that asks for something
none_asked : (first : List ℕ) (rest : List (List ℕ)) → asked_of (first ∷ rest) ≡ None → (asked : Asked) → IsAskable asked → first ∷ rest ≡ words_of_asked asked → ⊥
none_asked first rest none asked is same =
    let asks : asked_of (first ∷ rest) ≡ Some asked = ap asked_of same ∙ lines_are_read_back asked is in
    let both : None ≡ Some asked = sym none ∙ asks in cc

sorted_words : (line : List ℕ) → IsPlain line → (list : List (List ℕ)) → words line ≡ list → Sorted line (parsed_words list)
unfolding Sorted
sorted_words line plain [] same = (plain.printable, inr same)
sorted_words line plain (first ∷ rest) same = by_asked (asked_of (first ∷ rest)) refl
  where
    unskipped : IsSkipped line → ⊥
    unskipped skipped = elim skipped.1 [ inl hash ↦ plain.uncommented hash | inr none ↦ (let both : [] ≡ first ∷ rest = sym none ∙ same in cc) ]

    by_known : asked_of (first ∷ rest) ≡ None → (test : Bool) → is_unbuilt first ≡ test → Sorted line (cond test parsed.Unbuilt parsed.Bad)
    by_known none true known = record {
      plain = plain;
      first = first;
      rest = rest;
      words_are = same;
      none = λ asked is asks. none_asked first rest none asked is (sym same ∙ asks);
      known = (let is : IsKnown first = known_from first known in is);
    }
    by_known none false unknown = (
      unskipped,
      λ asked asks. none_asked first rest none asked asks.askable (sym same ∙ asks.words_are),
      λ unbuilt.
          let firsts : unbuilt.first ≡ first = (let both : unbuilt.first ∷ unbuilt.rest ≡ first ∷ rest = sym unbuilt.words_are ∙ same in cc) in
          let is : IsKnown unbuilt.first = unbuilt.known in
          let known : is_unbuilt first ≡ true = ap is_unbuilt (sym firsts) ∙ known_to unbuilt.first is in
          (let both = sym unknown ∙ known in cc),
    )

    by_asked : (found : Option Asked) → asked_of (first ∷ rest) ≡ found → Sorted line (option_map_or (λ one. parsed.Asked one) found (refused_as first))
    by_asked (Some asked) asks = record {
      plain = plain;
      askable = (lines_have_one_text (first ∷ rest) asked asks).0;
      words_are = same ∙ (lines_have_one_text (first ∷ rest) asked asks).1;
    }
    by_asked None none = by_known none (is_unbuilt first) refl

sorted_line : (line : List ℕ) → Sorted line (parsed_line line)
unfolding Sorted
sorted_line line = by_tests (all_printable line) (is_comment line) refl refl
  where
    by_tests : (printable comment : Bool) → all_printable line ≡ printable → is_comment line ≡ comment
        → Sorted line (cond printable (cond comment parsed.Skip (parsed_words (words line))) parsed.Bad)
    by_tests true true all hash = ((printable_exactly line (all_printable line) refl).0 all, inl (hash_of line hash))
    by_tests true false all hash =
        sorted_words line (record { printable = (printable_exactly line (all_printable line) refl).0 all; uncommented = no_hash line hash }) (words line) refl
    by_tests false comment some hash =
        let fails : All IsPrintable line → ⊥ = λ all. (let both = sym some ∙ (printable_exactly line (all_printable line) refl).1 all in cc) in
        (λ skipped. fails skipped.0, λ asked asks. fails asks.plain.printable, λ unbuilt. fails unbuilt.plain.printable)

-- no line is two of these
skipped_as : (line : List ℕ) (said : Parsed) → Sorted line said → IsSkipped line → said ≡ parsed.Skip
unfolding Sorted
skipped_as line parsed.Skip sorted skipped = refl
skipped_as line (parsed.Asked asked) sorted skipped = absurd (elim skipped.1 [
  | inl hash ↦ sorted.plain.uncommented hash
  | inr none ↦ some_words asked sorted.askable (sym sorted.words_are ∙ none)
])
skipped_as line parsed.Unbuilt sorted skipped = absurd (elim skipped.1 [
  | inl hash ↦ sorted.plain.uncommented hash
  | inr none ↦ (let both : sorted.first ∷ sorted.rest ≡ [] = sym sorted.words_are ∙ none in cc)
])
skipped_as line parsed.Bad sorted skipped = absurd (sorted.0 skipped)

asked_as : (line : List ℕ) (said : Parsed) (asked : Asked) → Sorted line said → AsksFor line asked → said ≡ parsed.Asked asked
unfolding Sorted
asked_as line parsed.Skip asked sorted asks = absurd (elim sorted.1 [
  | inl hash ↦ asks.plain.uncommented hash
  | inr none ↦ some_words asked asks.askable (sym asks.words_are ∙ none)
])
asked_as line (parsed.Asked other) asked sorted asks =
    let one : Some other ≡ Some asked = sym (lines_are_read_back other sorted.askable) ∙ ap asked_of (sym sorted.words_are ∙ asks.words_are) ∙ lines_are_read_back asked asks.askable in
    ap (λ (e : Asked). parsed.Asked e) (let same : other ≡ asked = cc in same)
asked_as line parsed.Unbuilt asked sorted asks = absurd (sorted.none asked asks.askable asks.words_are)
asked_as line parsed.Bad asked sorted asks = absurd (sorted.1 asked asks)

unbuilt_as : (line : List ℕ) (said : Parsed) → Sorted line said → IsUnbuilt line → said ≡ parsed.Unbuilt
unfolding Sorted
unbuilt_as line parsed.Skip sorted unbuilt = absurd (elim sorted.1 [
  | inl hash ↦ unbuilt.plain.uncommented hash
  | inr none ↦ (let both : unbuilt.first ∷ unbuilt.rest ≡ [] = sym unbuilt.words_are ∙ none in cc)
])
unbuilt_as line (parsed.Asked asked) sorted unbuilt = absurd (unbuilt.none asked sorted.askable sorted.words_are)
unbuilt_as line parsed.Unbuilt sorted unbuilt = refl
unbuilt_as line parsed.Bad sorted unbuilt = absurd (sorted.2 unbuilt)

None3 : List ℕ → Type 0
None3 line = (IsSkipped line → ⊥) × ((asked : Asked) → AsksFor line asked → ⊥) × (IsUnbuilt line → ⊥)

bad_as : (line : List ℕ) (said : Parsed) → Sorted line said → None3 line → said ≡ parsed.Bad
unfolding Sorted None3
bad_as line parsed.Skip sorted none = absurd (none.0 sorted)
bad_as line (parsed.Asked asked) sorted none = absurd (none.1 asked sorted)
bad_as line parsed.Unbuilt sorted none = absurd (none.2 sorted)
bad_as line parsed.Bad sorted none = refl

pub lines_are_sorted : LinesAreSorted
unfolding Sorted None3
lines_are_sorted line =
    let here = sorted_line line in record {
      skipped = (λ said. subst (Sorted line) said here, skipped_as line (parsed_line line) here);
      asks = λ asked. (λ said. subst (Sorted line) said here, asked_as line (parsed_line line) asked here);
      unbuilt = (λ said. subst (Sorted line) said here, unbuilt_as line (parsed_line line) here);
      bad = (λ said. subst (Sorted line) said here, bad_as line (parsed_line line) here);
    }
