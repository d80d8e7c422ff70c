use Rattle.std.proofs.Common.{◌≡◌, ◌≢◌, ◌<◌, ◌≤◌, ◌+◌, ◌-◌, ◌==◌, ℕ, cond, arith, Bool, true, false, List, [], length, slice_index_or, slice_set, ap, sym, subst, ◌∙◌, refl}
use Rattle.std.proofs.lemmas.List.{get_or-set_same, get_or-set_other, length-set}
use Rattle.std.proofs.lemmas.Bool.{eqb-true, eqb-false}
use Rattle.casper_words.specs.Crew.{IsClient}

-- the crews of the clients up to a number that pass a test are set, and all others are as before
pub record SetUpTo (test : ℕ → Bool) (value : ℕ → List ℕ) (count : ℕ) (before now : List (List ℕ)) : Type 0 where
  pub long : length now ≡ 32
  pub set_below : (who : ℕ) → IsClient who → who ≤ count → slice_index_or now (who - 1) [] ≡ cond (test who) (value who) (slice_index_or before (who - 1) [])
  pub kept_above : (who : ℕ) → IsClient who → count < who → slice_index_or now (who - 1) [] ≡ slice_index_or before (who - 1) []

pub set_first : (test : ℕ → Bool) (value : ℕ → List ℕ) (before : List (List ℕ)) → length before ≡ 32 → SetUpTo test value 0 before before
set_first test value before long = record {
  long = long;
  set_below = λ who client below. absurd (omega (arith, client.0));
  kept_above = λ who client above. refl;
}

pub set_next : (test : ℕ → Bool) (value : ℕ → List ℕ) (count : ℕ) (before now after : List (List ℕ)) (crew : List ℕ) → count < 32 → SetUpTo test value count before now
    → crew ≡ cond (test (count + 1)) (value (count + 1)) (slice_index_or now count []) → after ≡ slice_set now count crew → SetUpTo test value (count + 1) before after
set_next test value count before now after crew few set chosen is = subst (SetUpTo test value (count + 1) before) (sym is) (record {
  long = length-set now count crew ∙ set.long;
  set_below = below;
  kept_above = λ who client above. let apart : who - 1 ≢ count = (λ e. omega arith) in get_or-set_other now count (who - 1) crew [] apart ∙ set.kept_above who client (omega arith);
})
  where
    here : slice_index_or now count [] ≡ slice_index_or before count []
    here = let same : count + 1 - 1 ≡ count = omega arith in
        subst (λ (k : ℕ). slice_index_or now k [] ≡ slice_index_or before k []) same (set.kept_above (count + 1) (omega arith, omega arith) (omega arith))

    at_count : slice_index_or (slice_set now count crew) (count + 1 - 1) [] ≡ cond (test (count + 1)) (value (count + 1)) (slice_index_or before (count + 1 - 1) [])
    at_count = let same : count + 1 - 1 ≡ count = omega arith in
        subst (λ (k : ℕ). slice_index_or (slice_set now count crew) k [] ≡ cond (test (count + 1)) (value (count + 1)) (slice_index_or before k [])) (sym same)
        (get_or-set_same now count crew [] (omega (arith, set.long)) ∙ chosen ∙ ap (λ (own : List ℕ). cond (test (count + 1)) (value (count + 1)) own) here)

    below : (who : ℕ) → IsClient who → who ≤ count + 1 → slice_index_or (slice_set now count crew) (who - 1) [] ≡ cond (test who) (value who) (slice_index_or before (who - 1) [])
    below who client within = by_case (who == count + 1) refl
      where
        by_case : (b : Bool) → (who == count + 1) ≡ b → slice_index_or (slice_set now count crew) (who - 1) [] ≡ cond (test who) (value who) (slice_index_or before (who - 1) [])
        by_case true e = subst (λ (n : ℕ). slice_index_or (slice_set now count crew) (n - 1) [] ≡ cond (test n) (value n) (slice_index_or before (n - 1) [])) (sym (eqb-true who (count + 1) e)) at_count
        by_case false e = let other = eqb-false who (count + 1) e in let apart : who - 1 ≢ count = (λ same. other (omega (arith, client.0))) in
            let lower : who ≤ count = omega (arith, other) in
            get_or-set_other now count (who - 1) crew [] apart ∙ set.set_below who client lower

pub all_set : (test : ℕ → Bool) (value : ℕ → List ℕ) (count : ℕ) (before now : List (List ℕ)) → 32 ≤ count → SetUpTo test value count before now
    → (who : ℕ) → IsClient who → slice_index_or now (who - 1) [] ≡ cond (test who) (value who) (slice_index_or before (who - 1) [])
all_set test value count before now all set who client = set.set_below who client (omega (arith, client.1))
