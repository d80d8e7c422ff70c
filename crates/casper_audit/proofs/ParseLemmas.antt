use Rattle.std.proofs.Common.{◌≡◌, ◌<◌, ◌≤◌, ◌^◌, ◌&&◌, ◌||◌, ◌==◌, ◌+◌, ℕ, arith, add-one, nat_le, nat_lt, cond, Bool, true, false, List, [], ◌∷◌, length, map, drop, slice_index_or, Option, Some, None, option_map, option_and_then, unwrap_or, codes, lit<, ap, sym, subst, ◌∙◌, refl}
use Rattle.std.proofs.lemmas.Bool.{leb-true, ltb-true, and_parts}
use Rattle.std.proofs.lemmas.Bool.Decides.{nat_tests}
use Rattle.std.proofs.Math.Seq.{drop-cons}
use Rattle.std.proofs.lemmas.List.{drop_all}
use Rattle.std.specs.Str.{bytes_eq}
use Rattle.casper_words.specs.Crew.{IsClient, has_member, crew_of}
use Rattle.casper_text.specs.declared.span.Span.{Span}
use Rattle.casper_text.specs.Span.{word_at}
use Rattle.casper_words.specs.declared.call.Op.{Op}
use Rattle.casper_words.specs.declared.call.Op.TheVariants.{Read, Write, Touch}
use Rattle.casper_text.specs.Number.{number_of, number_below}
use Rattle.casper_trail.specs.declared.item.Item.TheVariants as item
use Rattle.casper_trail.specs.declared.mark.Mark.TheVariants.{Commit, Rollback}
use Rattle.casper_audit.specs.declared.parse.Parsed.{Parsed}
use Rattle.casper_audit.specs.declared.parse.Parsed.TheVariants as parsed
use Rattle.casper_audit.specs.Lines.{IsInRange, below, client_in, page_in, place_in, members_behind, members_in, base_from, base_in, entry_of, read_in, write_in, touch_in, commit_in, rollback_in, stated_by, words_parsed}

le_false : (a b : ℕ) → a < b → nat_le b a ≡ false
le_false a b h = grind (arith, nat_tests)

le_true : (a b : ℕ) → a ≤ b → nat_le a b ≡ true
le_true a b h = grind (arith, nat_tests)

-- the members after others, by the word that stands next
next_word : (line : List ℕ) (words : List Span) (at last : ℕ) (members : List ℕ) (d : Span) → at < length words
    → members_behind last members (map (word_at line) (drop at words)) ≡ members_behind last members (word_at line (slice_index_or words at d) ∷ map (word_at line) (drop (at + 1) words))
next_word line words at last members d below =
    ap (λ (list : List Span). members_behind last members (map (word_at line) list)) (drop-cons words at d below)
    ∙ ap (λ (n : ℕ). members_behind last members (word_at line (slice_index_or words at d) ∷ map (word_at line) (drop n words))) (sym (add-one at))

pub member_next : (line : List ℕ) (words : List Span) (at last who : ℕ) (members : List ℕ) (d : Span) → at < length words
    → client_in (word_at line (slice_index_or words at d)) ≡ Some who → last < who
    → members_behind last members (map (word_at line) (drop at words)) ≡ members_behind who (crew_of (λ client. has_member client members || client == who)) (map (word_at line) (drop (at + 1) words))
member_next line words at last who members d below names above =
    next_word line words at last members d below
    ∙ ap (option_and_then (λ (found : ℕ). cond (nat_le found last) None (members_behind found (crew_of (λ client. has_member client members || client == found)) (map (word_at line) (drop (at + 1) words))))) names
    ∙ ap (λ (b : Bool). cond b None (members_behind who (crew_of (λ client. has_member client members || client == who)) (map (word_at line) (drop (at + 1) words)))) (le_false last who above)

pub member_missing : (line : List ℕ) (words : List Span) (at last : ℕ) (members : List ℕ) (d : Span) → at < length words
    → client_in (word_at line (slice_index_or words at d)) ≡ None → members_behind last members (map (word_at line) (drop at words)) ≡ None
member_missing line words at last members d below names =
    next_word line words at last members d below
    ∙ ap (option_and_then (λ (found : ℕ). cond (nat_le found last) None (members_behind found (crew_of (λ client. has_member client members || client == found)) (map (word_at line) (drop (at + 1) words))))) names

pub member_falls : (line : List ℕ) (words : List Span) (at last who : ℕ) (members : List ℕ) (d : Span) → at < length words
    → client_in (word_at line (slice_index_or words at d)) ≡ Some who → who ≤ last → members_behind last members (map (word_at line) (drop at words)) ≡ None
member_falls line words at last who members d below names falls =
    next_word line words at last members d below
    ∙ ap (option_and_then (λ (found : ℕ). cond (nat_le found last) None (members_behind found (crew_of (λ client. has_member client members || client == found)) (map (word_at line) (drop (at + 1) words))))) names
    ∙ ap (λ (b : Bool). cond b None (members_behind who (crew_of (λ client. has_member client members || client == who)) (map (word_at line) (drop (at + 1) words)))) (le_true who last falls)

pub members_end : (line : List ℕ) (words : List Span) (at last : ℕ) (members : List ℕ) → length words ≤ at
    → members_behind last members (map (word_at line) (drop at words)) ≡ cond (last == 0) None (Some members)
members_end line words at last members past = ap (λ (list : List Span). members_behind last members (map (word_at line) list)) (drop_all at words past)

-- what is found lies in a range
abbrev AllIn : Option Parsed → Type 0
AllIn None = Unit {0}
AllIn (Some said) = IsInRange said

and_in : {A : Type 0} (f : A → Option Parsed) (o : Option A) → ((x : A) → o ≡ Some x → AllIn (f x)) → AllIn (option_and_then f o)
and_in f None each = tt
and_in f (Some x) each = each x refl

map_in : {A : Type 0} (f : A → Parsed) (o : Option A) → ((x : A) → o ≡ Some x → IsInRange (f x)) → AllIn (option_map f o)
map_in f None each = tt
map_in f (Some x) each = each x refl

either_in : (b : Bool) (one other : Option Parsed) → AllIn one → AllIn other → AllIn (cond b one other)
either_in true one other h h' = h
either_in false one other h h' = h'

below_range : (limit : ℕ) (o : Option ℕ) (n : ℕ) → option_and_then (below limit) o ≡ Some n → n < limit
below_range limit None n is = absurd (let h : None ≡ Some n = is in cc)
below_range limit (Some found) n is = by_test (nat_lt found limit) refl is
  where
    by_test : (b : Bool) → nat_lt found limit ≡ b → cond b (Some found) None ≡ Some n → n < limit
    by_test true e h = subst (λ (m : ℕ). m < limit) (let k : Some found ≡ Some n = h in cc) (ltb-true found limit e)
    by_test false e h = absurd (let k : None ≡ Some n = h in cc)

client_range : (o : Option ℕ) (who : ℕ) → option_and_then (λ (number : ℕ). cond (nat_le 1 number && nat_le number 32) (Some number) None) o ≡ Some who → IsClient who
client_range None who is = absurd (let h : None ≡ Some who = is in cc)
client_range (Some number) who is = by_test (nat_le 1 number && nat_le number 32) refl is
  where
    by_test : (b : Bool) → (nat_le 1 number && nat_le number 32) ≡ b → cond b (Some number) None ≡ Some who → IsClient who
    by_test true e h =
        let bounds = and_parts (nat_le 1 number) (nat_le number 32) e in
        subst IsClient (let k : Some number ≡ Some who = h in cc) (leb-true 1 number bounds.0, leb-true number 32 bounds.1)
    by_test false e h = absurd (let k : None ≡ Some who = h in cc)

base_range : (rest : List (List ℕ)) → AllIn (base_in rest)
base_range [] = tt
base_range (page ∷ []) = tt
base_range (page ∷ word ∷ []) = tt
base_range (page ∷ word ∷ value ∷ []) =
    and_in (λ (p : ℕ). option_and_then (λ w. option_and_then (λ v. base_from p w v) (number_of value)) (place_in word)) (page_in page)
    (λ p is. and_in (λ (w : ℕ). option_and_then (λ v. base_from p w v) (number_of value)) (place_in word)
    (λ w is'. and_in (λ (v : ℕ). base_from p w v) (number_of value)
    (λ v is''. either_in (v == 0) None (Some (parsed.Base (record { page = p; word = w; value = v }))) tt
    (below_range 262144 (number_below (2 ^ 32) page) p is, below_range 512 (number_below (2 ^ 32) word) w is'))))
base_range (page ∷ word ∷ value ∷ more ∷ rest) = tt

entry_range : (op : Op) (client page word value : List ℕ)
    → AllIn (option_and_then (λ who. option_and_then (λ p. option_and_then (λ w. option_map (λ v. entry_of (record { who = who; op = op; page = p; word = w; value = v })) (number_of value)) (place_in word)) (page_in page)) (client_in client))
entry_range op client page word value =
    and_in (λ (who : ℕ). option_and_then (λ p. option_and_then (λ w. option_map (λ v. entry_of (record { who = who; op = op; page = p; word = w; value = v })) (number_of value)) (place_in word)) (page_in page)) (client_in client)
    (λ who named. and_in (λ (p : ℕ). option_and_then (λ w. option_map (λ v. entry_of (record { who = who; op = op; page = p; word = w; value = v })) (number_of value)) (place_in word)) (page_in page)
    (λ p is. and_in (λ (w : ℕ). option_map (λ v. entry_of (record { who = who; op = op; page = p; word = w; value = v })) (number_of value)) (place_in word)
    (λ w is'. map_in (λ (v : ℕ). entry_of (record { who = who; op = op; page = p; word = w; value = v })) (number_of value)
    (λ v is''. (client_range (number_below (2 ^ 32) client) who named, below_range 262144 (number_below (2 ^ 32) page) p is, below_range 512 (number_below (2 ^ 32) word) w is')))))

read_range : (rest : List (List ℕ)) → AllIn (read_in rest)
read_range [] = tt
read_range (client ∷ []) = tt
read_range (client ∷ page ∷ []) = tt
read_range (client ∷ page ∷ word ∷ []) = tt
read_range (client ∷ page ∷ word ∷ value ∷ []) = entry_range Read client page word value
read_range (client ∷ page ∷ word ∷ value ∷ more ∷ rest) = tt

write_range : (rest : List (List ℕ)) → AllIn (write_in rest)
write_range [] = tt
write_range (client ∷ []) = tt
write_range (client ∷ page ∷ []) = tt
write_range (client ∷ page ∷ word ∷ []) = tt
write_range (client ∷ page ∷ word ∷ value ∷ []) = entry_range Write client page word value
write_range (client ∷ page ∷ word ∷ value ∷ more ∷ rest) = tt

touch_range : (rest : List (List ℕ)) → AllIn (touch_in rest)
touch_range [] = tt
touch_range (client ∷ []) = tt
touch_range (client ∷ page ∷ []) =
    and_in (λ (who : ℕ). option_map (λ p. entry_of (record { who = who; op = Touch; page = p; word = 0; value = 0 })) (page_in page)) (client_in client)
    (λ who named. map_in (λ (p : ℕ). entry_of (record { who = who; op = Touch; page = p; word = 0; value = 0 })) (page_in page)
    (λ p is. (client_range (number_below (2 ^ 32) client) who named, below_range 262144 (number_below (2 ^ 32) page) p is, lit< tt)))
touch_range (client ∷ page ∷ more ∷ rest) = tt

commit_range : (rest : List (List ℕ)) → AllIn (commit_in rest)
commit_range [] = tt
commit_range (client ∷ rest) =
    and_in (λ (lead : ℕ). option_map (λ members. parsed.Item (item.Mark (Commit lead members))) (members_in rest)) (client_in client)
    (λ lead named. map_in (λ (members : List ℕ). parsed.Item (item.Mark (Commit lead members))) (members_in rest) (λ members is. client_range (number_below (2 ^ 32) client) lead named))

rollback_range : (rest : List (List ℕ)) → AllIn (rollback_in rest)
rollback_range [] = tt
rollback_range (client ∷ rest) =
    and_in (λ (lost : ℕ). option_map (λ members. parsed.Item (item.Mark (Rollback lost members))) (members_in rest)) (client_in client)
    (λ lost named. map_in (λ (members : List ℕ). parsed.Item (item.Mark (Rollback lost members))) (members_in rest) (λ members is. client_range (number_below (2 ^ 32) client) lost named))

stated_range : (verb : List ℕ) (rest : List (List ℕ)) → AllIn (stated_by verb rest)
stated_range verb rest =
    either_in (bytes_eq verb (codes "b")) (base_in rest) _ (base_range rest)
    (either_in (bytes_eq verb (codes "r")) (read_in rest) _ (read_range rest)
    (either_in (bytes_eq verb (codes "w")) (write_in rest) _ (write_range rest)
    (either_in (bytes_eq verb (codes "t")) (touch_in rest) _ (touch_range rest)
    (either_in (bytes_eq verb (codes "commit")) (commit_in rest) _ (commit_range rest)
    (either_in (bytes_eq verb (codes "rollback")) (rollback_in rest) None (rollback_range rest) tt)))))

found_range : (o : Option Parsed) → AllIn o → IsInRange (unwrap_or o parsed.Bad)
found_range None h = tt
found_range (Some said) h = h

-- what words say lies within a store
pub words_range : (words : List (List ℕ)) → IsInRange (words_parsed words)
words_range [] = tt
words_range (verb ∷ rest) = found_range (stated_by verb rest) (stated_range verb rest)
