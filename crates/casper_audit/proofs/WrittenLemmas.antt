use Rattle.std.proofs.Common.{◌≡◌, ◌≢◌, ◌<◌, ◌≤◌, ◌^◌, ◌+◌, ◌&&◌, ◌||◌, ◌==◌, ℕ, suc, arith, nat_le, cond, Bool, true, false, List, [], ◌∷◌, length, slice_index, map, Option, Some, None, option_map, option_and_then, unwrap_or, ap, sym, subst, ◌∙◌, refl, eq-eqb}
use Rattle.std.specs.Fmt.{decimal}
use Rattle.std.specs.List.Sorted.{IsStrictlyIncreasing}
use Rattle.std.proofs.lemmas.Bool.{le-leb, lt-ltb, or_left, or_right}
use Rattle.std.proofs.lemmas.Bool.Decides.{nat_tests}
use Rattle.casper_words.specs.declared.call.Op.{Op}
use Rattle.casper_words.specs.declared.call.Op.TheVariants.{Read, Write, Touch}
use Rattle.casper_words.specs.Crew.{IsClient, IsCrew, has_member, crew_of}
use Rattle.casper_words.proofs.CrewLemmas.{has_member_crew_of, crew_of_same, IsCrew_crew_of, client_from_member, IsStrictlyIncreasing_crew}
use Rattle.casper_words.proofs.CrewMembers.{IsCrew_at, members_of_zero}
use Rattle.casper_text.specs.Number.{number_of}
use Rattle.casper_text.proofs.NumberLemmas.{number_read_back}
use Rattle.casper_trail.specs.declared.item.Item.TheVariants as item
use Rattle.casper_trail.specs.declared.mark.Mark.TheVariants.{Commit, Rollback}
use Rattle.casper_audit.specs.declared.parse.Parsed.{Parsed}
use Rattle.casper_audit.specs.declared.parse.Parsed.TheVariants as parsed
use Rattle.casper_audit.specs.Lines.{below, client_in, page_in, place_in, members_behind, members_in, base_from, entry_of, words_parsed}
use Rattle.casper_audit.specs.Written.{words_of_entry, IsPlainTouch, ItemsAreReadBack, BaseWordsAreReadBack}

client_back : (who : ℕ) → IsClient who → client_in (decimal who) ≡ Some who
client_back who client =
    ap (option_and_then (λ (number : ℕ). cond (nat_le 1 number && nat_le number 32) (Some number) None)) (number_read_back (2 ^ 32) who (omega arith) (omega (arith, client.1)))
    ∙ ap (λ (b : Bool). cond (b && nat_le who 32) (Some who) None) (le-leb 1 who client.0)
    ∙ ap (λ (b : Bool). cond b (Some who) None) (le-leb who 32 client.1)

page_back : (page : ℕ) → page < 262144 → page_in (decimal page) ≡ Some page
page_back page small =
    ap (option_and_then (below 262144)) (number_read_back (2 ^ 32) page (omega arith) (omega (arith, small)))
    ∙ ap (λ (b : Bool). cond b (Some page) None) (lt-ltb page 262144 small)

place_back : (word : ℕ) → word < 512 → place_in (decimal word) ≡ Some word
place_back word small =
    ap (option_and_then (below 512)) (number_read_back (2 ^ 32) word (omega arith) (omega (arith, small)))
    ∙ ap (λ (b : Bool). cond b (Some word) None) (lt-ltb word 512 small)

value_back : (value : ℕ) → value < 2 ^ 64 → number_of (decimal value) ≡ Some value
value_back value small = number_read_back (2 ^ 64) value (omega arith) small

-- what an operation with a client, a page, a word and a value says
said_back : (op : Op) (who page word value : ℕ) → IsClient who → page < 262144 → word < 512 → value < 2 ^ 64
    → option_and_then (λ c. option_and_then (λ p. option_and_then (λ w. option_map (λ v. entry_of (record { who = c; op = op; page = p; word = w; value = v })) (number_of (decimal value))) (place_in (decimal word))) (page_in (decimal page))) (client_in (decimal who))
    ≡ Some (entry_of (record { who = who; op = op; page = page; word = word; value = value }))
said_back op who page word value client in_store in_page fits =
    ap (option_and_then (λ (c : ℕ). option_and_then (λ p. option_and_then (λ w. option_map (λ v. entry_of (record { who = c; op = op; page = p; word = w; value = v })) (number_of (decimal value))) (place_in (decimal word))) (page_in (decimal page)))) (client_back who client)
    ∙ ap (option_and_then (λ (p : ℕ). option_and_then (λ w. option_map (λ v. entry_of (record { who = who; op = op; page = p; word = w; value = v })) (number_of (decimal value))) (place_in (decimal word)))) (page_back page in_store)
    ∙ ap (option_and_then (λ (w : ℕ). option_map (λ v. entry_of (record { who = who; op = op; page = page; word = w; value = v })) (number_of (decimal value)))) (place_back word in_page)
    ∙ ap (option_map (λ (v : ℕ). entry_of (record { who = who; op = op; page = page; word = word; value = v }))) (value_back value fits)

touch_back : (who page : ℕ) → IsClient who → page < 262144
    → option_and_then (λ c. option_map (λ p. entry_of (record { who = c; op = Touch; page = p; word = 0; value = 0 })) (page_in (decimal page))) (client_in (decimal who))
    ≡ Some (entry_of (record { who = who; op = Touch; page = page; word = 0; value = 0 }))
touch_back who page client in_store =
    ap (option_and_then (λ (c : ℕ). option_map (λ p. entry_of (record { who = c; op = Touch; page = p; word = 0; value = 0 })) (page_in (decimal page)))) (client_back who client)
    ∙ ap (option_map (λ (p : ℕ). entry_of (record { who = who; op = Touch; page = p; word = 0; value = 0 }))) (page_back page in_store)

-- clients that rise above a number
abbrev RisesAbove : ℕ → List ℕ → Type 0
RisesAbove last [] = Unit {0}
RisesAbove last (who ∷ rest) = (last < who) × (who ≤ 32) × RisesAbove who rest

abbrev FirstAbove : ℕ → List ℕ → Type 0
FirstAbove last [] = Unit {0}
FirstAbove last (who ∷ rest) = last < who

first_above : (who : ℕ) (rest : List ℕ) → IsStrictlyIncreasing (who ∷ rest) → FirstAbove who rest
first_above who [] rises = tt
first_above who (next ∷ rest) rises = rises 0 (omega arith)

tail_rises : (who : ℕ) (rest : List ℕ) → IsStrictlyIncreasing (who ∷ rest) → IsStrictlyIncreasing rest
tail_rises who rest rises k within =
    let e : suc k + 1 ≡ suc (k + 1) = omega arith in
    subst (λ (n : ℕ). slice_index rest k < slice_index (who ∷ rest) n) e (rises (suc k) (omega (arith, within)))

rises_above : (last : ℕ) (list : List ℕ) → IsStrictlyIncreasing list → FirstAbove last list → ((who : ℕ) → has_member who list ≡ true → IsClient who) → RisesAbove last list
rises_above last [] rises first clients = tt
rises_above last (who ∷ rest) rises first clients = (
  first,
  (clients who (or_left (who == who) (has_member who rest) (eq-eqb who who refl))).1,
  rises_above who rest (tail_rises who rest rises) (first_above who rest rises) (λ one found. clients one (or_right (who == one) (has_member one rest) found)),
)

flip : (a b : ℕ) → (a == b) ≡ (b == a)
flip a b = grind (arith, nat_tests)

regroup : (a b b' r : Bool) → b ≡ b' → ((a || b) || r) ≡ (a || (b' || r))
regroup true b b' r e = refl
regroup false b b' r e = ap (λ (c : Bool). c || r) e

or_none : (b : Bool) → (b || false) ≡ b
or_none true = refl
or_none false = refl

members_back : (rest : List ℕ) (last : ℕ) (before : List ℕ) → IsCrew before → RisesAbove last rest → 0 < last + length rest
    → members_behind last before (map decimal rest) ≡ Some (crew_of (λ client. has_member client before || has_member client rest))
members_back [] last before crew rises some =
    ap (λ (b : Bool). cond b None (Some before)) (let above : 0 < last = omega (arith, some) in let apart : (last == 0) ≡ false = grind (arith, nat_tests) in apart)
    ∙ ap Some (crew.canonical ∙ crew_of_same (λ client. has_member client before) (λ client. has_member client before || false) (λ client is. sym (or_none (has_member client before))))
members_back (who ∷ rest) last before crew rises some =
    ap (option_and_then (λ (found : ℕ). cond (nat_le found last) None (members_behind found (crew_of (λ client. has_member client before || client == found)) (map decimal rest)))) (client_back who (omega (arith, rises.0), rises.1))
    ∙ ap (λ (b : Bool). cond b None (members_behind who (crew_of (λ client. has_member client before || client == who)) (map decimal rest))) (let above : last < who = rises.0 in let test : nat_le who last ≡ false = grind (arith, nat_tests) in test)
    ∙ members_back rest who (crew_of (λ client. has_member client before || client == who)) (IsCrew_crew_of (λ client. has_member client before || client == who)) rises.2 (omega (arith, rises.0))
    ∙ ap Some (crew_of_same (λ client. has_member client (crew_of (λ one. has_member one before || one == who)) || has_member client rest) (λ client. has_member client before || has_member client (who ∷ rest))
    (λ client is. ap (λ (b : Bool). b || has_member client rest) (has_member_crew_of (λ one. has_member one before || one == who) client is)
    ∙ regroup (has_member client before) (client == who) (who == client) (has_member client rest) (flip client who)))

no_members : IsCrew []
no_members = IsCrew_at 0 [] members_of_zero

starts_above : (members : List ℕ) → ((who : ℕ) → has_member who members ≡ true → IsClient who) → FirstAbove 0 members
starts_above [] clients = tt
starts_above (who ∷ rest) clients = let first = clients who (or_left (who == who) (has_member who rest) (eq-eqb who who refl)) in omega (arith, first.0)

some_member : (members : List ℕ) → members ≢ [] → 0 < 0 + length members
some_member [] some = absurd (some refl)
some_member (who ∷ rest) some = omega arith

crew_back : (members : List ℕ) → IsCrew members → members ≢ [] → members_in (map decimal members) ≡ Some members
crew_back members crew some =
    let clients : (who : ℕ) → has_member who members ≡ true → IsClient who = λ who found. client_from_member members who crew found in
    members_back members 0 [] no_members (rises_above 0 members (IsStrictlyIncreasing_crew members crew) (starts_above members clients) clients) (some_member members some)
    ∙ ap Some (sym crew.canonical)

-- an entry is read back, by its operation
entry_back : (op : Op) (who page word value : ℕ) → IsClient who → page < 262144 → word < 512 → value < 2 ^ 64 → IsPlainTouch op (record { who = who; op = op; page = page; word = word; value = value })
    → words_parsed (words_of_entry op (record { who = who; op = op; page = page; word = word; value = value })) ≡ entry_of (record { who = who; op = op; page = page; word = word; value = value })
entry_back Read who page word value client in_store in_page fits plain = ap (λ (found : Option Parsed). unwrap_or found parsed.Bad) (said_back Read who page word value client in_store in_page fits)
entry_back Write who page word value client in_store in_page fits plain = ap (λ (found : Option Parsed). unwrap_or found parsed.Bad) (said_back Write who page word value client in_store in_page fits)
entry_back Touch who page word value client in_store in_page fits plain =
    ap (λ (found : Option Parsed). unwrap_or found parsed.Bad) (touch_back who page client in_store)
    ∙ ap (λ (w : ℕ). entry_of (record { who = who; op = Touch; page = page; word = w; value = 0 })) (sym plain.0)
    ∙ ap (λ (v : ℕ). entry_of (record { who = who; op = Touch; page = page; word = word; value = v })) (sym plain.1)

pub items_are_read_back : ItemsAreReadBack
items_are_read_back (item.Entry entry) written = entry_back entry.op entry.who entry.page entry.word entry.value written.0 written.1 written.2 written.3 written.4
items_are_read_back (item.Mark (Commit lead members)) written =
    ap (λ (found : Option Parsed). unwrap_or found parsed.Bad)
    (ap (option_and_then (λ (who : ℕ). option_map (λ list. parsed.Item (item.Mark (Commit who list))) (members_in (map decimal members)))) (client_back lead written.0)
    ∙ ap (option_map (λ (list : List ℕ). parsed.Item (item.Mark (Commit lead list)))) (crew_back members written.1 written.2))
items_are_read_back (item.Mark (Rollback lost members)) written =
    ap (λ (found : Option Parsed). unwrap_or found parsed.Bad)
    (ap (option_and_then (λ (who : ℕ). option_map (λ list. parsed.Item (item.Mark (Rollback who list))) (members_in (map decimal members)))) (client_back lost written.0)
    ∙ ap (option_map (λ (list : List ℕ). parsed.Item (item.Mark (Rollback lost list)))) (crew_back members written.1 written.2))

not_zero : (value : ℕ) → value ≢ 0 → (value == 0) ≡ false
not_zero value some = let h : value ≢ 0 = some in grind (arith, nat_tests)

pub base_words_are_read_back : BaseWordsAreReadBack
base_words_are_read_back word in_store in_page fits some =
    ap (λ (found : Option Parsed). unwrap_or found parsed.Bad)
    (ap (option_and_then (λ (p : ℕ). option_and_then (λ w. option_and_then (λ v. base_from p w v) (number_of (decimal word.value))) (place_in (decimal word.word)))) (page_back word.page in_store)
    ∙ ap (option_and_then (λ (w : ℕ). option_and_then (λ v. base_from word.page w v) (number_of (decimal word.value)))) (place_back word.word in_page)
    ∙ ap (option_and_then (λ (v : ℕ). base_from word.page word.word v)) (value_back word.value fits)
    ∙ ap (λ (b : Bool). cond b None (Some (parsed.Base word))) (not_zero word.value some))
