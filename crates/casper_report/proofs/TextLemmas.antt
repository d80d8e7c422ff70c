use Rattle.std.proofs.Common.{◌≡◌, ◌+◌, ℕ, zero, suc, add-one, arith, Bool, true, false, cond, List, [], ◌∷◌, ◌++◌, filter, flat_map, ap, sym, ◌∙◌, refl, append_assoc}
use Rattle.std.specs.List.{range_with_len}
use Rattle.std.specs.Fmt.{decimal}
use Rattle.std.proofs.lemmas.List.Elements.{filter-append}
use Rattle.std.proofs.lemmas.Grind.{flat_map-append}
use Rattle.std.proofs.lemmas.List.{append-nil}
use Rattle.casper_words.specs.Crew.{has_member, clients, crew_of, IsCrew}
use Rattle.casper_report.specs.Texts.{crew_line}

-- the text of one client
abbrev pub client_text : ℕ → List ℕ
client_text client = 32 ∷ decimal client

-- the text of the members among the first clients
abbrev pub members_text : List ℕ → ℕ → List ℕ
members_text members count = flat_map client_text (filter (λ client. has_member client members) (range_with_len 1 count))

-- one number more
range_more : (first count : ℕ) → range_with_len first (count + 1) ≡ range_with_len first count ++ (first + count) ∷ []
range_more first zero = let e : first ≡ first + 0 = omega arith in ap (λ (n : ℕ). n ∷ []) e
range_more first (suc count) =
    let e : first + 1 + count ≡ first + suc count = omega arith in
    let more : range_with_len first (suc count + 1) ≡ first ∷ range_with_len (first + 1) (count + 1) =
    ap (range_with_len first) (add-one (suc count)) ∙ ap (λ (n : ℕ). first ∷ range_with_len (first + 1) n) (sym (add-one count)) in
    more ∙ ap (λ (rest : List ℕ). first ∷ rest) (range_more (first + 1) count ∙ ap (λ (n : ℕ). range_with_len (first + 1) count ++ n ∷ []) e)

-- the text of the members among one client more
pub members_text_more : (members : List ℕ) (count : ℕ) → members_text members (count + 1) ≡ members_text members count ++ cond (has_member (count + 1) members) (client_text (count + 1)) []
members_text_more members count =
    ap (λ (among : List ℕ). flat_map client_text (filter test among)) (range_more 1 count)
    ∙ ap (flat_map client_text) (filter-append test (range_with_len 1 count) ((1 + count) ∷ []))
    ∙ flat_map-append client_text (filter test (range_with_len 1 count)) (filter test ((1 + count) ∷ []))
    ∙ ap (λ (text : List ℕ). members_text members count ++ text)
    (by_test (test (1 + count)) (1 + count) ∙ ap (λ (n : ℕ). cond (has_member n members) (client_text n) []) same)
  where
    test : ℕ → Bool
    test client = has_member client members

    same : 1 + count ≡ count + 1
    same = omega arith

    by_test : (b : Bool) (n : ℕ) → flat_map client_text (cond b (n ∷ []) []) ≡ cond b (client_text n) []
    by_test true n = append-nil (client_text n)
    by_test false n = refl

-- the text of all members
pub members_text_all : (members : List ℕ) → IsCrew members → members_text members 32 ≡ flat_map client_text members
unfolding crew_of clients
members_text_all members crew = ap (flat_map client_text) (sym crew.canonical)

-- a line with the members among one client more
pub line_grows : (word members : List ℕ) (count : ℕ) (before after : List ℕ) → before ≡ word ++ members_text members count
    → after ≡ before ++ cond (has_member (count + 1) members) (32 ∷ decimal (count + 1)) [] → after ≡ word ++ members_text members (count + 1)
line_grows word members count before after start more =
    more ∙ ap (λ (text : List ℕ). text ++ cond (has_member (count + 1) members) (client_text (count + 1)) []) start
    ∙ append_assoc word (members_text members count) (cond (has_member (count + 1) members) (client_text (count + 1)) [])
    ∙ ap (λ (text : List ℕ). word ++ text) (sym (members_text_more members count))

-- a line with all members
pub line_ends : (word members : List ℕ) (count : ℕ) (text after : List ℕ) → count ≡ 32 → IsCrew members → text ≡ word ++ members_text members count
    → after ≡ text ++ 10 ∷ [] → after ≡ crew_line word members
line_ends word members count text after all crew whole ended =
    ended ∙ ap (λ (line : List ℕ). line ++ 10 ∷ []) (whole ∙ ap (λ (front : List ℕ). word ++ front) (ap (members_text members) all ∙ members_text_all members crew))
