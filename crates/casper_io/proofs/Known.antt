use Rattle.std.proofs.Common.{◌≡◌, ℕ, ◌+◌, ◌-◌, ◌≤◌, List, [], ◌++◌, length, take, drop, Option, Some, None, refl, ap, ◌∙◌, append_assoc, append-nil, rules, arith}
use Rattle.std.proofs.lemmas.List.{places, same_lists}
use Rattle.std.specs.Io.KnownBytes.{append_known, prepend_known}
use Rattle.casper_io.specs.Told.{WhereTold}

-- taking nothing changes nothing
pub append_known-nil : (known : Option (List ℕ)) → append_known known [] ≡ known
append_known-nil None = refl
append_known-nil (Some bytes) = simp append-nil

-- taking some bytes and then others is taking them all
pub append_known-append : (known : Option (List ℕ)) (first second : List ℕ)
    → append_known (append_known known first) second ≡ append_known known (first ++ second)
append_known-append None first second = refl
append_known-append (Some bytes) first second = simp append_assoc

-- giving some bytes and then others is giving them all
pub prepend_known-append : (first second : List ℕ) (known : Option (List ℕ))
    → prepend_known first (prepend_known second known) ≡ prepend_known (first ++ second) known
prepend_known-append first second None = refl
prepend_known-append first second (Some bytes) = simp append_assoc

-- what is told before and after bytes were given
pub prepend_known-told : (before after : Option (List ℕ)) (bytes : List ℕ) → before ≡ prepend_known bytes after
    → WhereTold before after (λ told rest. told ≡ bytes ++ rest)
prepend_known-told None None bytes same = tt
prepend_known-told None (Some rest) bytes same = cc
prepend_known-told (Some told) None bytes same = cc
prepend_known-told (Some told) (Some rest) bytes same = cc

-- a relation that follows
pub WhereTold-map : {First Second : List ℕ → List ℕ → Type 0} (before after : Option (List ℕ))
    → ((told rest : List ℕ) → First told rest → Second told rest)
    → WhereTold before after First → WhereTold before after Second
WhereTold-map None None follows fact = tt
WhereTold-map None (Some rest) follows fact = fact
WhereTold-map (Some told) None follows fact = fact
WhereTold-map (Some told) (Some rest) follows fact = follows told rest fact

-- two calls, one after the other
pub WhereTold-then : {First Second Both : List ℕ → List ℕ → Type 0} (before between after : Option (List ℕ))
    → ((told middle rest : List ℕ) → First told middle → Second middle rest → Both told rest)
    → WhereTold before between First → WhereTold between after Second → WhereTold before after Both
WhereTold-then None None None follows first second = tt
WhereTold-then None None (Some rest) follows first second = second
WhereTold-then None (Some middle) after follows first second = absurd first
WhereTold-then (Some told) None after follows first second = absurd first
WhereTold-then (Some told) (Some middle) None follows first second = second
WhereTold-then (Some told) (Some middle) (Some rest) follows first second = follows told middle rest first second

-- a front of the bytes, and the part after it, are a longer front
pub take-more : (bytes : List ℕ) (done count : ℕ) → done + count ≤ length bytes
    → take done bytes ++ take count (take (length bytes - done) (drop done bytes)) ≡ take (done + count) bytes
take-more bytes done count within =
    same_lists _ _ (search (rules, places)) (λ k d h. grind (arith, places))

-- a front of the bytes was taken, and then the part after it
pub append_known-more : (first between last : Option (List ℕ)) (bytes : List ℕ) (done count : ℕ) → done + count ≤ length bytes
    → between ≡ append_known first (take done bytes)
    → last ≡ append_known between (take count (take (length bytes - done) (drop done bytes)))
    → last ≡ append_known first (take (done + count) bytes)
append_known-more first between last bytes done count within front part =
    part ∙ ap (λ known. append_known known (take count (take (length bytes - done) (drop done bytes)))) front
    ∙ append_known-append first (take done bytes) (take count (take (length bytes - done) (drop done bytes)))
    ∙ ap (append_known first) (take-more bytes done count within)
