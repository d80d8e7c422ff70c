use Rattle.std.proofs.Common.{◌≡◌, ℕ, ◌+◌, List, [], ◌∷◌, ◌++◌, refl, sym, ◌∙◌, ap, subst, arith, append_assoc, length-append}
use Rattle.std.proofs.lemmas.List.{append-nil}
use Rattle.casper_words.specs.declared.call.Call.{Call}
use Rattle.casper_space.specs.WordCalls.{HeldWords, read_of, write_of, with_word, words_after_op, words_after, Passes, HasMade}

-- the calls of two lists, one after the other
pub words_after_both : (words : ℕ → List ℕ) (first second : List Call) → words_after words (first ++ second) ≡ words_after (words_after words first) second
words_after_both words [] second = refl
words_after_both words (call ∷ calls) second =
    words_after_both (words_after_op call.op words call.page call.word call.value) calls second

pub passes_both : {S : Type 0} (step : S → Call → S → Type 0) (before between after : S) (first second : List Call)
    → Passes step before first between → Passes step between second after → Passes step before (first ++ second) after
passes_both step before between after [] second same then = subst (λ at. Passes step at second after) (sym same) then
passes_both step before between after (call ∷ calls) second here then =
    (here.0, here.1, passes_both step here.0 between after calls second here.2 then)

module _ {S : Type 0} {seen : S → HeldWords} {step : S → Call → S → Type 0} where
  pub made_none : (at : S) → HasMade seen step at [] at
  made_none at = record {
    right = refl;
    words = refl;
    made = sym (append-nil (seen at).calls);
    room = sym (omega arith);
    steps = refl;
  }

  pub made_both : {before between after : S} {first second : List Call}
      → HasMade seen step before first between → HasMade seen step between second after → HasMade seen step before (first ++ second) after
  made_both {before} {between} {after} {first} {second} one two = record {
    right = two.right ∙ one.right;
    words = two.words ∙ ap (λ words. words_after words second) one.words ∙ sym (words_after_both (seen before).words first second);
    made = two.made ∙ ap (λ calls. calls ++ second) one.made ∙ append_assoc (seen before).calls first second;
    room = omega (arith, one.room, two.room, length-append first second);
    steps = passes_both step before between after first second one.steps two.steps;
  }

  pub made_read : {before after : S} {page word value : ℕ} → (seen after).right ≡ (seen before).right → (seen after).words ≡ (seen before).words
      → (seen after).calls ≡ (seen before).calls ++ read_of page word value ∷ [] → (seen before).room ≡ (seen after).room + 1
      → step before (read_of page word value) after → HasMade seen step before (read_of page word value ∷ []) after
  made_read {before} {after} right words calls room did = record {
    right = right;
    words = words;
    made = calls;
    room = room;
    steps = (after, did, refl);
  }

  pub made_write : {before after : S} {page word value : ℕ} → (seen after).right ≡ (seen before).right
      → (seen after).words ≡ with_word (seen before).words page word value
      → (seen after).calls ≡ (seen before).calls ++ write_of page word value ∷ [] → (seen before).room ≡ (seen after).room + 1
      → step before (write_of page word value) after → HasMade seen step before (write_of page word value ∷ []) after
  made_write {before} {after} right words calls room did = record {
    right = right;
    words = words;
    made = calls;
    room = room;
    steps = (after, did, refl);
  }
