use Rattle.std.proofs.Common.{◌≡◌, ◌≤◌, ℕ, zero, suc, ◌+◌, List, [], ◌∷◌, ◌++◌, Bool, true, false, filter, length, Contains, refl, sym, ap, ◌∙◌, ⊎_elim, arith, true≢false}
use Rattle.std.specs.Prelude.{Option, None, Some, option_map, sum_by, slice_index_or}
use Rattle.std.proofs.lemmas.Bool.{cond_both}
use Rattle.std.proofs.lemmas.List.Sums.{sum_by-cons, length-filter, count_by-le-length}
use Rattle.casper_trail.specs.declared.entry.Entry.{Entry}
use Rattle.casper_trail.specs.declared.mark.Mark.{Mark}
use Rattle.casper_trail.specs.declared.mark.Mark.TheVariants.{Commit, Rollback}
use Rattle.casper_trail.specs.declared.item.Item.{Item}
use Rattle.casper_trail.specs.declared.item.Item.TheVariants as item
use Rattle.casper_trail.specs.Parts.{as_items}
use Rattle.casper_trail.specs.Calls.{entries_by}
use Rattle.casper_trail.specs.TrailView.{is_commit, is_rollback, commit_count, rollback_count}
use Rattle.casper_trail.proofs.CallLists.{count_append}
use Rattle.casper_words.specs.declared.call.Call.{Call}
use Rattle.casper_model.specs.Acquire.{touches_by}
use Rattle.casper_model.specs.Client.{Client}
use Rattle.casper_model.specs.Growth.{AddsOwn}
use Rattle.casper_model.specs.Shared.{change_from}
use Rattle.casper_model.proofs.Entries.{contains_cases}
use Rattle.casper_turns.specs.MarkRoom.{mark_count, spare_of, spare_at}

-- the marks of two lists of items
pub marks_append : (items more : List Item) → mark_count (items ++ more) ≡ mark_count items + mark_count more
marks_append items more =
    let commits = count_append is_commit items more in
    let rollbacks = count_append is_rollback items more in
    omega (arith, commits, rollbacks)

one_mark : (mark : Mark) → mark_count (item.Mark mark ∷ []) ≡ 1
one_mark (Commit lead members) = refl
one_mark (Rollback lost members) = refl

pub marks_pushed : (items : List Item) (mark : Mark) → mark_count (items ++ item.Mark mark ∷ []) ≡ mark_count items + 1
marks_pushed items mark = marks_append items (item.Mark mark ∷ []) ∙ ap (λ n. mark_count items + n) (one_mark mark)

no_commits : (entries : List Entry) → commit_count (as_items entries) ≡ 0
no_commits [] = refl
no_commits (entry ∷ entries) = no_commits entries

no_rollbacks : (entries : List Entry) → rollback_count (as_items entries) ≡ 0
no_rollbacks [] = refl
no_rollbacks (entry ∷ entries) = no_rollbacks entries

pub marks_of_more_entries : (items : List Item) (entries : List Entry) → mark_count (items ++ as_items entries) ≡ mark_count items
marks_of_more_entries items entries =
    let sum = marks_append items (as_items entries) in
    let commits = no_commits entries in
    let rollbacks = no_rollbacks entries in
    omega (arith, sum, commits, rollbacks)

-- a client's turn adds no mark
pub marks_of_own : (who : ℕ) (pending : List Call) (before after : List Item) → AddsOwn who pending before after → mark_count after ≡ mark_count before
marks_of_own who pending before after AddsOwn.nothing = refl
marks_of_own who pending before after AddsOwn.calls = marks_of_more_entries before (entries_by who pending)
marks_of_own who pending before after (AddsOwn.touches wants) =
    marks_of_more_entries (before ++ as_items (entries_by who pending)) (touches_by who wants) ∙ marks_of_more_entries before (entries_by who pending)

-- a change of each client that leaves no more spare marks
abbrev pub SparesNoMore : (ℕ → Client → Client) → Type 0
SparesNoMore change = (who : ℕ) (client : Client) → spare_of (change who client).fallen ≤ spare_of client.fallen

spare_changed : (change : ℕ → Client → Client) → SparesNoMore change → (number : ℕ) (place : Option Client) → spare_at (option_map (change number) place) ≤ spare_at place
spare_changed change less number None = omega arith
spare_changed change less number (Some client) = less number client

pub spares_changed : (change : ℕ → Client → Client) → SparesNoMore change → (number : ℕ) (places : List (Option Client))
    → sum_by spare_at (change_from number change places) ≤ sum_by spare_at places
spares_changed change less number [] = omega arith
spares_changed change less number (place ∷ places) =
    let after = sum_by-cons spare_at (option_map (change number) place) (change_from (suc number) change places) in
    let before = sum_by-cons spare_at place places in
    let here = spare_changed change less number place in
    let rest = spares_changed change less (suc number) places in
    omega (arith, after, before, here, rest)

-- and that makes one fall that had not
pub spares_fewer : (change : ℕ → Client → Client) → SparesNoMore change → (number : ℕ) (places : List (Option Client)) (at : ℕ) (client : Client)
    → slice_index_or places at None ≡ Some client → client.fallen ≡ None → spare_of (change (number + at) client).fallen ≡ 0
    → sum_by spare_at (change_from number change places) + 1 ≤ sum_by spare_at places
spares_fewer change less number [] at client live up falls = absurd (true≢false (sym (ap (λ (place : Option Client). elim place as (λ _. Bool) [ None ↦ false | Some one ↦ true ]) live)))
spares_fewer change less number (place ∷ places) zero client live up falls =
    let after = sum_by-cons spare_at (option_map (change number) place) (change_from (suc number) change places) in
    let before = sum_by-cons spare_at place places in
    let rest = spares_changed change less (suc number) places in
    let was : spare_at place ≡ 1 = ap spare_at live ∙ ap spare_of up in
    let here : number + 0 ≡ number = omega arith in
    let is : spare_at (option_map (change number) place) ≡ 0 =
    ap (λ one. spare_at (option_map (change number) one)) live ∙ ap (λ n. spare_of (change n client).fallen) (sym here) ∙ falls in
    omega (arith, after, before, rest, was, is)
spares_fewer change less number (place ∷ places) (suc at) client live up falls =
    let after = sum_by-cons spare_at (option_map (change number) place) (change_from (suc number) change places) in
    let before = sum_by-cons spare_at place places in
    let here = spare_changed change less number place in
    let along : suc number + at ≡ number + suc at = omega arith in
    let rest = spares_fewer change less (suc number) places at client live up (ap (λ n. spare_of (change n client).fallen) along ∙ falls) in
    omega (arith, after, before, here, rest)

-- a list of which some are left
pub some_no_longer : {X : Type 0} (test : X → Bool) (xs : List X) → length (filter test xs) ≤ length xs
some_no_longer {X} test xs = let passed = length-filter test xs in let most = count_by-le-length test xs in omega (arith, passed, most)

-- and one is not
pub one_shorter : {X : Type 0} (test : X → Bool) (xs : List X) (x : X) → Contains xs x → test x ≡ false → length (filter test xs) + 1 ≤ length xs
one_shorter test [] x inside fails = absurd (omega (arith, inside.1))
one_shorter {X} test (first ∷ xs) x inside fails =
    cond_both (test first) (first ∷ filter test xs) (filter test xs) (λ (list : List X). length list + 1 ≤ suc (length xs))
    (λ yes.
    ⊎_elim (λ (same : first ≡ x). absurd (true≢false (sym yes ∙ ap test same ∙ fails)))
    (λ later. let rest = one_shorter test xs x later fails in omega (arith, rest)) (contains_cases first xs x inside))
    (λ no. let most = some_no_longer test xs in omega (arith, most))
