use Rattle.std.proofs.Common.{◌≡◌, ◌≢◌, ℕ, zero, suc, ◌+◌, ◌-◌, ◌<◌, ◌≤◌, Bool, true, false, List, [], ◌∷◌, ◌++◌, length, take, get_or, set, filter, refl, sym, ◌∙◌, ap, subst, ⊎_elim, arith}
use Rattle.std.specs.Prelude.{Option, Some, None, not, All}
use Rattle.std.specs.List.{range_with_len}
use Rattle.std.specs.List.Sorted.{IsStrictlyIncreasing}
use Rattle.std.proofs.lemmas.Bool.{cases_eq, cond-true, cond-false}
use Rattle.std.proofs.lemmas.List.{length-set, get_or-set_same, get_or-set_other, length-append, take_at, append-nil}
use Rattle.std.proofs.lemmas.List.Elements.{filter-append}
use Rattle.std.proofs.lemmas.List.Sums.{fold_more}
use Rattle.casper_map.specs.Bits.{is_member, IsNextFree}
use Rattle.casper_map.specs.Faulty.{frame_at}
use Rattle.casper_map.specs.Levels.{names}
use Rattle.casper_map.specs.Mapped.{IsShadow}
use Rattle.casper_map.specs.Numbers.{number_of}
use Rattle.casper_map.specs.Planned.{Show, with_moves}

-- no place has the frame
abbrev pub is_free : List (Option ℕ) → ℕ → Bool
is_free places frame = not (names places frame)

-- a move within the numbers changes the one that stands for its place
pub show_hit : (places : List (Option ℕ)) (base first target frame : ℕ) (numbers : List ℕ) → Show places (base + first) numbers → base + target < length places
    → first ≤ target → target - first < length numbers → Show (set places (base + target) (Some frame)) (base + first) (set numbers (target - first) frame)
show_hit places base first target frame numbers show within high low k k_low =
    let e : base + first + (target - first) ≡ base + target = omega arith in
    ⊎_elim
    (λ (same : k ≡ target - first).
    ap (λ (at : ℕ). get_or (set numbers (target - first) frame) at 0) same ∙ get_or-set_same numbers (target - first) frame 0 low
    ∙ sym (ap number_of (ap (λ (at : ℕ). frame_at (set places (base + target) (Some frame)) (base + first + at)) same
    ∙ ap (frame_at (set places (base + target) (Some frame))) e ∙ get_or-set_same places (base + target) (Some frame) None within)))
    (λ (other : k ≢ target - first).
    let elsewhere : base + first + k ≢ base + target = omega arith in
    get_or-set_other numbers (target - first) k frame 0 other ∙ show k (omega (arith, k_low, length-set numbers (target - first) frame))
    ∙ sym (ap number_of (get_or-set_other places (base + target) (base + first + k) (Some frame) None elsewhere)))
    (cases_eq k (target - first))

-- a move of another place changes none of them
pub show_miss : (places : List (Option ℕ)) (base first target frame : ℕ) (numbers : List ℕ) → Show places (base + first) numbers
    → (first ≤ target → target - first < length numbers → ⊥) → Show (set places (base + target) (Some frame)) (base + first) numbers
show_miss places base first target frame numbers show out k k_low =
    let elsewhere : base + first + k ≢ base + target = (λ same. out (omega arith) (omega arith)) in
    show k k_low ∙ sym (ap number_of (get_or-set_other places (base + target) (base + first + k) (Some frame) None elsewhere))

-- moves keep the count of the places
pub moves_long : (first : ℕ) (moves : List (ℕ × ℕ)) (places : List (Option ℕ)) → length (with_moves first moves places) ≡ length places
moves_long first [] places = refl
moves_long first (move ∷ moves) places = moves_long first moves (set places (first + move.0) (Some move.1)) ∙ length-set places (first + move.0) (Some move.1)

-- one move more
pub moves_more : (first : ℕ) (moves : List (ℕ × ℕ)) (places : List (Option ℕ)) (i : ℕ) (d : ℕ × ℕ) → i < length moves
    → with_moves first (take (i + 1) moves) places ≡ set (with_moves first (take i moves) places) (first + (get_or moves i d).0) (Some (get_or moves i d).1)
moves_more first moves places i d within = fold_more (λ (list : List (Option ℕ)) (move : ℕ × ℕ). set list (first + move.0) (Some move.1)) places moves i d within

-- a rising list of numbers below a bound is no longer than the bound
rising_above : (list : List ℕ) → IsStrictlyIncreasing list → (k : ℕ) → k < length list → k ≤ get_or list k 0
rising_above list rising zero within = omega arith
rising_above list rising (suc k) within =
    let step : get_or list k 0 < get_or list (k + 1) 0 = rising k (omega arith) in
    let e : k + 1 ≡ suc k = omega arith in
    let later : get_or list k 0 < get_or list (suc k) 0 = subst (λ (at : ℕ). get_or list k 0 < get_or list at 0) e step in
    omega (arith, rising_above list rising k (omega arith), later)

pub rising_few : (list : List ℕ) (bound : ℕ) → IsStrictlyIncreasing list → All (λ number. number < bound) list → length list ≤ bound
rising_few list bound rising below =
    ⊎_elim (λ (none : length list ≡ 0). omega (arith, none))
    (λ (some : length list ≢ 0).
    let last : length list - 1 < length list = omega arith in
    omega (arith, rising_above list rising (length list - 1) last, below (length list - 1) 0 last))
    (cases_eq (length list) 0)

-- a range in two parts
range_split : (start n k : ℕ) → range_with_len start (n + k) ≡ range_with_len start n ++ range_with_len (start + n) k
range_split start zero k =
    let e : start + 0 ≡ start = omega arith in
    let same : 0 + k ≡ k = omega arith in
    ap (range_with_len start) same ∙ ap (λ (from : ℕ). range_with_len from k) (sym e)
range_split start (suc n) k =
    let e : suc n + k ≡ suc (n + k) = omega arith in
    let from : start + 1 + n ≡ start + suc n = omega arith in
    ap (range_with_len start) e ∙ ap (λ (list : List ℕ). start ∷ list) (range_split (start + 1) n k ∙ ap (λ (at : ℕ). range_with_len (start + 1) n ++ range_with_len at k) from)

-- what passes of a range in two parts
pub passing_split : (test : ℕ → Bool) (n k : ℕ) → filter test (range_with_len 0 (n + k)) ≡ filter test (range_with_len 0 n) ++ filter test (range_with_len n k)
passing_split test n k =
    let e : 0 + n ≡ n = omega arith in
    ap (filter test) (range_split 0 n k ∙ ap (λ (at : ℕ). range_with_len 0 n ++ range_with_len at k) e) ∙ filter-append test (range_with_len 0 n) (range_with_len n k)

pub none_passing : (test : ℕ → Bool) (n k : ℕ) → ((j : ℕ) → n ≤ j → j < n + k → test j ≡ false) → filter test (range_with_len n k) ≡ []
none_passing test n zero fails = refl
none_passing test n (suc k) fails =
    let later = none_passing test (n + 1) k (λ j high low. fails j (omega arith) (omega arith)) in
    cond-false (test n) (n ∷ filter test (range_with_len (n + 1) k)) (filter test (range_with_len (n + 1) k)) (fails n (omega arith) (omega arith)) ∙ later

last_passing : (test : ℕ → Bool) (n k : ℕ) → ((j : ℕ) → n ≤ j → j < n + k → test j ≡ false) → test (n + k) ≡ true → filter test (range_with_len n (k + 1)) ≡ (n + k) ∷ []
last_passing test n k fails passes =
    ap (filter test) (range_split n k 1) ∙ filter-append test (range_with_len n k) (range_with_len (n + k) 1)
    ∙ ap (λ (list : List ℕ). list ++ filter test (range_with_len (n + k) 1)) (none_passing test n k fails)
    ∙ cond-true (test (n + k)) ((n + k) ∷ []) [] passes

-- the next number that passes, after those that passed
pub passing_more : (test : ℕ → Bool) (from next : ℕ) → from ≤ next → test next ≡ true → ((j : ℕ) → from ≤ j → j < next → test j ≡ false)
    → filter test (range_with_len 0 (next + 1)) ≡ filter test (range_with_len 0 from) ++ next ∷ []
passing_more test from next high passes fails =
    let k = next - from in
    let e : next + 1 ≡ from + (k + 1) = omega arith in
    let same : from + k ≡ next = omega arith in
    let last = last_passing test from k (λ j above low. fails j above (omega arith)) (ap test same ∙ passes) in
    ap (λ (count : ℕ). filter test (range_with_len 0 count)) e ∙ passing_split test from (k + 1)
    ∙ ap (λ (list : List ℕ). filter test (range_with_len 0 from) ++ list) (last ∙ ap (λ (number : ℕ). number ∷ []) same)

-- the frames that were taken so far are the lowest free ones
pub record Taken (places : List (Option ℕ)) (members : List Bool) (frames : List ℕ) (from count : ℕ) : Type 0 where
  pub within : from ≤ length members
  pub lowest : frames ≡ filter (is_free places) (range_with_len 0 from)
  pub long : length frames ≡ count

pub taken_more : (first : ℕ) (places : List (Option ℕ)) (members : List Bool) (used : ℕ) (frames : List ℕ) (from count frame : ℕ) → IsShadow first places members used
    → Taken places members frames from count → IsNextFree members from frame → Taken places members (frames ++ frame ∷ []) (frame + 1) (count + 1)
taken_more first places members used frames from count frame held taken next =
    let within = next.within in
    let free : (j : ℕ) → j < length members → is_free places j ≡ not (is_member members j) = (λ j low. ap not (sym (held.named j low))) in
    record {
      within = omega (arith, within);
      lowest = ap (λ (list : List ℕ). list ++ frame ∷ []) taken.lowest
          ∙ sym (passing_more (is_free places) from frame next.above (free frame within ∙ ap not next.free)
          (λ j high low. free j (omega (arith, within, low)) ∙ ap not (next.lowest j high low)));
      long = length-append frames (frame ∷ []) ∙ ap (λ (n : ℕ). n + 1) taken.long;
    }

-- the frames that were taken are the first of the free ones
pub taken_front : (first : ℕ) (places : List (Option ℕ)) (members : List Bool) (frames : List ℕ) (from count : ℕ) → Taken places members frames from count
    → frames ≡ take count (filter (is_free places) (range_with_len 0 (length members)))
taken_front first places members frames from count taken =
    let within = taken.within in
    let rest = length members - from in
    let whole : from + rest ≡ length members = omega (arith, within) in
    let split = sym (ap (λ (n : ℕ). filter (is_free places) (range_with_len 0 n)) whole) ∙ passing_split (is_free places) from rest in
    taken.lowest ∙ sym (ap (take count) split ∙ take_at (filter (is_free places) (range_with_len 0 from)) (filter (is_free places) (range_with_len from rest)) count (ap length (sym taken.lowest) ∙ taken.long))

-- where none is free any more, as many were taken as there are
pub taken_all : (first : ℕ) (places : List (Option ℕ)) (members : List Bool) (used : ℕ) (frames : List ℕ) (from count : ℕ) → IsShadow first places members used
    → Taken places members frames from count → ((other : ℕ) → from ≤ other → other < length members → is_member members other ≡ true)
    → length (filter (is_free places) (range_with_len 0 (length members))) ≡ count
taken_all first places members used frames from count held taken full =
    let within = taken.within in
    let rest = length members - from in
    let whole : from + rest ≡ length members = omega (arith, within) in
    let none = none_passing (is_free places) from rest (λ j high low.
    let below : j < length members = omega (arith, low, whole) in
    ap not (sym (held.named j below) ∙ full j high below)) in
    ap length (sym (ap (λ (n : ℕ). filter (is_free places) (range_with_len 0 n)) whole) ∙ passing_split (is_free places) from rest
    ∙ ap (λ (list : List ℕ). filter (is_free places) (range_with_len 0 from) ++ list) none ∙ append-nil (filter (is_free places) (range_with_len 0 from)) ∙ sym taken.lowest)
    ∙ taken.long
