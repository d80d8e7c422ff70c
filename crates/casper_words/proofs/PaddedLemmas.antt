use Rattle.std.proofs.Common.{◌≡◌, ℕ, ◌+◌, ◌-◌, ◌≤◌, List, ◌++◌, length, drop, replicate, refl, ◌∙◌, arith}
use Rattle.std.proofs.lemmas.List.{length-append, length-drop, length-replicate, drop_at, drop-replicate}
use Rattle.casper_words.specs.Padded.{IsPadded}

-- a list that was written to the head of a filled array
pub IsPadded_written : {X : Type 0} (size : ℕ) (filler : X) (xs : List X) → length xs ≤ size → IsPadded size filler (xs ++ drop (length xs) (replicate size filler)) (length xs)
IsPadded_written {X} size filler xs short = record {
  long =
      let whole : length (xs ++ drop (length xs) (replicate size filler)) ≡ length xs + length (drop (length xs) (replicate size filler)) =
      length-append xs (drop (length xs) (replicate size filler)) in
      let tail : length (drop (length xs) (replicate size filler)) ≡ length (replicate size filler) - length xs = length-drop (length xs) (replicate size filler) in
      let blank : length (replicate size filler) ≡ size = length-replicate size filler in
      omega (arith, whole, tail, blank);
  within = short;
  rest = drop_at xs (drop (length xs) (replicate size filler)) (length xs) refl ∙ drop-replicate (length xs) size filler;
}
