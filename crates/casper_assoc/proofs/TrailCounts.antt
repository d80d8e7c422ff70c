use Rattle.std.proofs.Common.{◌≡◌, ℕ, ◌+◌, ◌≤◌, Bool, true, false, ◌&&◌, cond, not, nat_eq, List, [], ◌∷◌, count_by, length, add-zero, zero-add, refl, sym, ap, ap₂, ◌∙◌, ⊎_elim, arith}
use Rattle.std.specs.List.{filter}
use Rattle.std.proofs.lemmas.Bool.{ne_eqb, cases_Bool, cond_both, true≢false}
use Rattle.std.proofs.lemmas.List.Sums.{sum_by-cons, count_by-le-length}
use Rattle.casper_words.specs.declared.call.Call.{Call}
use Rattle.casper_words.specs.Crew.{has_member}
use Rattle.casper_trail.specs.declared.entry.Entry.{Entry}
use Rattle.casper_trail.specs.declared.item.Item.{Item}
use Rattle.casper_trail.specs.declared.item.Item.TheVariants as item
use Rattle.casper_trail.specs.Fate.{Fate, fate_of, is_open, members_of}
use Rattle.casper_trail.specs.Parts.{entries_where, open_entries}
use Rattle.casper_trail.specs.Calls.{is_read_or_write, is_call_of, entry_by, entries_by, touch_by}
use Rattle.casper_trail.specs.TrailView.{is_entry, entry_count}
use Rattle.casper_trail.proofs.CallLists.{count_append}
use Rattle.casper_trail.proofs.Parts.{open_of_more_entries, open_after_mark}
use Rattle.casper_assoc.specs.TrailAssociations.{open_calls_in}
use Rattle.casper_assoc.specs.AssociationsLaws.{OpenCallsAreEntries, OpenCallsAfterCalls, OpenCallsAfterTouch, OpenCallsAfterMark}

one_more : {X : Type 0} (test : X → Bool) (x : X) (xs : List X) → count_by test (x ∷ xs) ≡ cond (test x) 1 0 + count_by test xs
one_more test x xs = sum_by-cons (λ y. cond (test y) 1 0) x xs

-- a part has at most the entries of its items
part_is_few : (test : ℕ → Fate → Bool) (items : List Item) → length (entries_where test items) ≤ entry_count items
part_is_few test [] = omega arith
part_is_few test (item.Entry entry ∷ items) =
    let rest : length (entries_where test items) ≤ entry_count items = part_is_few test items in
    let more : entry_count (item.Entry entry ∷ items) ≡ 1 + entry_count items = one_more is_entry (item.Entry entry) items in
    cond_both (test entry.who (fate_of entry.who items)) (entry ∷ entries_where test items) (entries_where test items)
    (λ entries. length entries ≤ entry_count (item.Entry entry ∷ items))
    (λ _. omega (arith, rest, more)) (λ _. omega (arith, rest, more))
part_is_few test (item.Mark mark ∷ items) =
    let rest : length (entries_where test items) ≤ entry_count items = part_is_few test items in
    let more : entry_count (item.Mark mark ∷ items) ≡ 0 + entry_count items = one_more is_entry (item.Mark mark) items in
    omega (arith, rest, more)

pub open_calls_are_entries : OpenCallsAreEntries
open_calls_are_entries items who =
    let few : open_calls_in items who ≤ length (open_entries items) = count_by-le-length (is_call_of who) (open_entries items) in
    let all : length (open_entries items) ≤ entry_count items = part_is_few (λ who fate. is_open fate) items in
    omega (arith, few, all)

-- a client's calls as entries count for it
counts_for_it : (who client : ℕ) (calls : List Call) → nat_eq who client ≡ true
    → count_by (is_call_of client) (entries_by who calls) ≡ count_by (λ call. is_read_or_write call.op) calls
counts_for_it who client [] same = refl
counts_for_it who client (call ∷ calls) same =
    one_more (is_call_of client) (entry_by who call) (entries_by who calls)
    ∙ ap₂ (λ m n. m + n) (ap (λ b. cond (b && is_read_or_write call.op) 1 0) same) (counts_for_it who client calls same)
    ∙ sym (one_more (λ (c : Call). is_read_or_write c.op) call calls)

-- and for no other
counts_for_none : (who client : ℕ) (calls : List Call) → nat_eq who client ≡ false → count_by (is_call_of client) (entries_by who calls) ≡ 0
counts_for_none who client [] differ = refl
counts_for_none who client (call ∷ calls) differ =
    one_more (is_call_of client) (entry_by who call) (entries_by who calls)
    ∙ ap₂ (λ m n. m + n) (ap (λ b. cond (b && is_read_or_write call.op) 1 0) differ) (counts_for_none who client calls differ)

pub open_calls_after_calls : OpenCallsAfterCalls
open_calls_after_calls items who client calls =
    ap (count_by (is_call_of client)) (open_of_more_entries items (entries_by who calls))
    ∙ count_append (is_call_of client) (open_entries items) (entries_by who calls)
    ∙ ap (λ n. open_calls_in items client + n)
    (⊎_elim
    (λ (same : nat_eq who client ≡ true). rw same (counts_for_it who client calls same))
    (λ (differ : nat_eq who client ≡ false). rw differ (counts_for_none who client calls differ))
    (cases_Bool (nat_eq who client)))

pub open_calls_after_touch : OpenCallsAfterTouch
open_calls_after_touch items who page client =
    ap (count_by (is_call_of client)) (open_of_more_entries items (touch_by who page ∷ []))
    ∙ count_append (is_call_of client) (open_entries items) (touch_by who page ∷ [])
    ∙ ap (λ n. open_calls_in items client + n) (one_more (is_call_of client) (touch_by who page) [] ∙ none (nat_eq who client))
    ∙ add-zero (open_calls_in items client)
  where
    none : (b : Bool) → cond (b && false) 1 0 + 0 ≡ 0
    none true = refl
    none false = refl

-- an entry of another is no call of a client
no_call_of : (client : ℕ) (entry : Entry) → nat_eq entry.who client ≡ false → cond {A = ℕ} (is_call_of client entry) 1 0 ≡ 0
no_call_of client entry differ = rw differ refl

-- no call of a member is left
none_left : (members : List ℕ) (client : ℕ) (entries : List Entry) → has_member client members ≡ true
    → count_by (is_call_of client) (filter (λ entry. not (has_member entry.who members)) entries) ≡ 0
none_left members client [] member = refl
none_left members client (entry ∷ entries) member =
    let rest : count_by (is_call_of client) (filter (λ e. not (has_member e.who members)) entries) ≡ 0 = none_left members client entries member in
    ⊎_elim
    (λ (inside : has_member entry.who members ≡ true). rw inside rest)
    (λ (outside : has_member entry.who members ≡ false).
    let differ : nat_eq entry.who client ≡ false = ne_eqb entry.who client
    (λ same. true≢false (sym member ∙ ap (λ c. has_member c members) (sym same) ∙ outside)) in
    rw outside (one_more (is_call_of client) entry (filter (λ e. not (has_member e.who members)) entries)
    ∙ ap₂ (λ m n. m + n) (no_call_of client entry differ) rest))
    (cases_Bool (has_member entry.who members))

-- each call of another is left
all_left : (members : List ℕ) (client : ℕ) (entries : List Entry) → has_member client members ≡ false
    → count_by (is_call_of client) (filter (λ entry. not (has_member entry.who members)) entries) ≡ count_by (is_call_of client) entries
all_left members client [] apart = refl
all_left members client (entry ∷ entries) apart =
    let rest : count_by (is_call_of client) (filter (λ e. not (has_member e.who members)) entries) ≡ count_by (is_call_of client) entries =
    all_left members client entries apart in
    ⊎_elim
    (λ (inside : has_member entry.who members ≡ true).
    let differ : nat_eq entry.who client ≡ false = ne_eqb entry.who client
    (λ same. true≢false (sym inside ∙ ap (λ c. has_member c members) same ∙ apart)) in
    rw inside (rest ∙ sym (one_more (is_call_of client) entry entries
    ∙ ap (λ n. n + count_by (is_call_of client) entries) (no_call_of client entry differ)
    ∙ zero-add (count_by (is_call_of client) entries))))
    (λ (outside : has_member entry.who members ≡ false).
    rw outside (one_more (is_call_of client) entry (filter (λ e. not (has_member e.who members)) entries)
    ∙ ap (λ n. cond (is_call_of client entry) 1 0 + n) rest
    ∙ sym (one_more (is_call_of client) entry entries)))
    (cases_Bool (has_member entry.who members))

pub open_calls_after_mark : OpenCallsAfterMark
open_calls_after_mark items mark client =
    ap (count_by (is_call_of client)) (open_after_mark items mark)
    ∙ ⊎_elim
    (λ (member : has_member client (members_of mark) ≡ true). rw member (none_left (members_of mark) client (open_entries items) member))
    (λ (apart : has_member client (members_of mark) ≡ false). rw apart (all_left (members_of mark) client (open_entries items) apart))
    (cases_Bool (has_member client (members_of mark)))
