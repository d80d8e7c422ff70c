use Rattle.std.proofs.Common.{◌≡◌, ℕ, List, [], ◌++◌, sym, ◌∙◌, ap, subst}
use Rattle.std.proofs.lemmas.List.{append-nil}
use Rattle.casper_words.specs.declared.call.Call.{Call}
use Rattle.casper_space.specs.WordCalls.{HeldWords, HasMade}
use Rattle.casper_space.proofs.Making.{made_both}

module _ {S : Type 0} {seen : S → HeldWords} {step : S → Call → S → Type 0} where
  -- after calls that changed no word, calls by the words as they are then are calls by the words as they were
  pub made_then : {before between after : S} {first : List Call} (later : (ℕ → List ℕ) → List Call)
      → HasMade seen step before first between → (seen between).words ≡ (seen before).words
      → HasMade seen step between (later (seen between).words) after → HasMade seen step before (first ++ later (seen before).words) after
  made_then {before} {between} {after} {first} later one same two =
      made_both one (subst (λ (pages : ℕ → List ℕ). HasMade seen step between (later pages) after) same two)

  -- calls that are told in another way
  pub made_as : {before after : S} {told calls : List Call} → calls ≡ told → HasMade seen step before told after → HasMade seen step before calls after
  made_as {before} {after} {told} {calls} is made = subst (λ (list : List Call). HasMade seen step before list after) (sym is) made

  pub made_no_more : {before after : S} {calls more : List Call} → more ≡ [] → HasMade seen step before calls after → HasMade seen step before (calls ++ more) after
  made_no_more {before} {after} {calls} {more} none made =
      made_as (ap (λ (list : List Call). calls ++ list) none ∙ append-nil calls) made

  pub made_more : {before between after : S} {first second more : List Call} → more ≡ second → HasMade seen step before first between
      → HasMade seen step between second after → HasMade seen step before (first ++ more) after
  made_more is one two = made_both one (made_as is two)

  pub made_told : {before after : S} (first : List Call) {told more : List Call} → more ≡ told → HasMade seen step before (first ++ told) after
      → HasMade seen step before (first ++ more) after
  made_told {before} {after} first is made = made_as (ap (λ (list : List Call). first ++ list) is) made
