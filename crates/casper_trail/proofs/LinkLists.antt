use Rattle.std.proofs.Common.{◌≡◌, ◌<◌, ◌⊎◌, ℕ, zero, suc, List, [], ◌∷◌, ◌++◌, Bool, true, false, cond, ◌&&◌, ◌==◌, map, filter, length, slice_index_or, Contains, refl, ap, sym, ◌∙◌, ⊎_elim, inl, inr, arith}
use Rattle.std.specs.List.{list_any}
use Rattle.std.proofs.lemmas.Bool.{cond_both, or_cases, or_left, or_right, and_parts, eqb-true, true≢false}
use Rattle.std.proofs.lemmas.List.Folds.{list_any-append}
use Rattle.casper_trail.specs.declared.entry.Entry.{Entry}
use Rattle.casper_trail.specs.Value.{writes_page}
use Rattle.casper_trail.specs.Association.{Link, links_from, links_among, joins}
use Rattle.casper_trail.proofs.Links.{contains_middle, link_to}

pub contains_there : {X : Type 0} (first : X) (xs : List X) (x : X) → Contains xs x → Contains (first ∷ xs) x
contains_there first xs x inside = (suc inside.0, omega (arith, inside.1), inside.2)

place_of_push : {X : Type 0} (xs : List X) (last x : X) (k : ℕ) → k < length (xs ++ last ∷ []) → slice_index_or (xs ++ last ∷ []) k x ≡ x
    → Contains xs x ⊎ (last ≡ x)
place_of_push [] last x zero below is = inr is
place_of_push [] last x (suc k) below is = absurd (omega (arith, below))
place_of_push (first ∷ xs) last x zero below is = inl (zero, omega arith, is)
place_of_push (first ∷ xs) last x (suc k) below is =
    ⊎_elim (λ inside. inl (contains_there first xs x inside)) (λ same. inr same) (place_of_push xs last x k (omega (arith, below)) is)

-- what a list with one more has is in the list, or is the last
pub contains_push : {X : Type 0} (xs : List X) (last x : X) → Contains (xs ++ last ∷ []) x → Contains xs x ⊎ (last ≡ x)
contains_push xs last x inside = place_of_push xs last x inside.0 inside.1 inside.2

module _ {X Y : Type 0} (p : Y → Bool) (f : X → Y) (q : X → Bool) where
  -- what passes among more passes before, or at the last
  kept_push : (xs : List X) (last : X) → list_any p (map f (filter q (xs ++ last ∷ []))) ≡ true
      → (list_any p (map f (filter q xs)) ≡ true) ⊎ ((q last ≡ true) × (p (f last) ≡ true))
  kept_push [] last found =
      cond_both (q last) (last ∷ []) [] (λ few. list_any p (map f few) ≡ true → (list_any p (map f []) ≡ true) ⊎ ((q last ≡ true) × (p (f last) ≡ true)))
      (λ keeps here. ⊎_elim (λ passes. inr (keeps, passes)) (λ never. inl never) (or_cases (p (f last)) false here))
      (λ _ here. inl here)
      found
  kept_push (x ∷ xs) last found =
      pushed (q x) (kept_push xs last) found
    where
      pushed : (keep : Bool) → (list_any p (map f (filter q (xs ++ last ∷ []))) ≡ true
          → (list_any p (map f (filter q xs)) ≡ true) ⊎ ((q last ≡ true) × (p (f last) ≡ true)))
          → list_any p (map f (cond keep (x ∷ filter q (xs ++ last ∷ [])) (filter q (xs ++ last ∷ [])))) ≡ true
          → (list_any p (map f (cond keep (x ∷ filter q xs) (filter q xs))) ≡ true) ⊎ ((q last ≡ true) × (p (f last) ≡ true))
      pushed true later found =
          ⊎_elim (λ here. inl (or_left (p (f x)) (list_any p (map f (filter q xs))) here))
          (λ there. ⊎_elim (λ old. inl (or_right (p (f x)) (list_any p (map f (filter q xs))) old)) (λ new. inr new) (later there))
          (or_cases (p (f x)) (list_any p (map f (filter q (xs ++ last ∷ [])))) found)
      pushed false later found = later found

  kept_grow : (xs ys : List X) → list_any p (map f (filter q xs)) ≡ true → list_any p (map f (filter q (xs ++ ys))) ≡ true
  kept_grow [] ys found = absurd (true≢false (sym found))
  kept_grow (x ∷ xs) ys found = grown (q x) (kept_grow xs ys) found
    where
      grown : (keep : Bool) → (list_any p (map f (filter q xs)) ≡ true → list_any p (map f (filter q (xs ++ ys))) ≡ true)
          → list_any p (map f (cond keep (x ∷ filter q xs) (filter q xs))) ≡ true
          → list_any p (map f (cond keep (x ∷ filter q (xs ++ ys)) (filter q (xs ++ ys)))) ≡ true
      grown true later found =
          ⊎_elim (λ here. or_left (p (f x)) (list_any p (map f (filter q (xs ++ ys)))) here)
          (λ there. or_right (p (f x)) (list_any p (map f (filter q (xs ++ ys)))) (later there))
          (or_cases (p (f x)) (list_any p (map f (filter q xs))) found)
      grown false later found = later found

  -- some element passes
  kept_some : (xs : List X) → list_any p (map f (filter q xs)) ≡ true → (x : X) × (p (f x) ≡ true)
  kept_some [] found = absurd (true≢false (sym found))
  kept_some (x ∷ xs) found = some (q x) (kept_some xs) found
    where
      some : (keep : Bool) → (list_any p (map f (filter q xs)) ≡ true → (x : X) × (p (f x) ≡ true))
          → list_any p (map f (cond keep (x ∷ filter q xs) (filter q xs))) ≡ true → (x : X) × (p (f x) ≡ true)
      some true later found = ⊎_elim (λ here. (x, here)) (λ there. later there) (or_cases (p (f x)) (list_any p (map f (filter q xs))) found)
      some false later found = later found

  module _ (r : X → Bool) where
    -- what passes among a part passes among all, and is of the part
    kept_of_part : (xs : List X) → list_any p (map f (filter q (filter r xs))) ≡ true
        → (list_any p (map f (filter q xs)) ≡ true) × ((x : X) × (r x ≡ true) × (p (f x) ≡ true))
    kept_of_part [] found = absurd (true≢false (sym found))
    kept_of_part (x ∷ xs) found = part (q x) (r x) refl refl (kept_of_part xs) found
      where
        part : (keep chosen : Bool) → q x ≡ keep → r x ≡ chosen
            → (list_any p (map f (filter q (filter r xs))) ≡ true → (list_any p (map f (filter q xs)) ≡ true) × ((x : X) × (r x ≡ true) × (p (f x) ≡ true)))
            → list_any p (map f (filter q (cond chosen (x ∷ filter r xs) (filter r xs)))) ≡ true
            → (list_any p (map f (cond keep (x ∷ filter q xs) (filter q xs))) ≡ true) × ((x : X) × (r x ≡ true) × (p (f x) ≡ true))
        part true true is is' later found =
            ⊎_elim
            (λ here. (or_left (p (f x)) (list_any p (map f (filter q xs))) here, (x, is', here)))
            (λ there. let rest = later there in (or_right (p (f x)) (list_any p (map f (filter q xs))) rest.0, rest.1))
            (or_cases (p (f x)) (list_any p (map f (filter q (filter r xs))))
            (sym (ap (λ b. list_any p (map f (cond b (x ∷ filter q (filter r xs)) (filter q (filter r xs))))) is) ∙ found))
        part true false is is' later found = let rest = later found in (or_right (p (f x)) (list_any p (map f (filter q xs))) rest.0, rest.1)
        part false true is is' later found =
            later (sym (ap (λ b. list_any p (map f (cond b (x ∷ filter q (filter r xs)) (filter q (filter r xs))))) is) ∙ found)
        part false false is is' later found = later found

    -- what passes among all passes among a part that has all that pass
    kept_in_part : ((x : X) → p (f x) ≡ true → r x ≡ true) → (xs : List X) → list_any p (map f (filter q xs)) ≡ true
        → list_any p (map f (filter q (filter r xs))) ≡ true
    kept_in_part has [] found = absurd (true≢false (sym found))
    kept_in_part has (x ∷ xs) found = part (q x) (r x) refl refl (kept_in_part has xs) found
      where
        part : (keep chosen : Bool) → q x ≡ keep → r x ≡ chosen
            → (list_any p (map f (filter q xs)) ≡ true → list_any p (map f (filter q (filter r xs))) ≡ true)
            → list_any p (map f (cond keep (x ∷ filter q xs) (filter q xs))) ≡ true
            → list_any p (map f (filter q (cond chosen (x ∷ filter r xs) (filter r xs)))) ≡ true
        part true true is is' later found =
            ap (λ b. list_any p (map f (cond b (x ∷ filter q (filter r xs)) (filter q (filter r xs))))) is
            ∙ ⊎_elim
            (λ here. or_left (p (f x)) (list_any p (map f (filter q (filter r xs)))) here)
            (λ there. or_right (p (f x)) (list_any p (map f (filter q (filter r xs)))) (later there))
            (or_cases (p (f x)) (list_any p (map f (filter q xs))) found)
        part true false is is' later found =
            ⊎_elim (λ here. absurd (true≢false (sym (has x here) ∙ is'))) (λ there. later there) (or_cases (p (f x)) (list_any p (map f (filter q xs))) found)
        part false true is is' later found =
            ap (λ b. list_any p (map f (cond b (x ∷ filter q (filter r xs)) (filter q (filter r xs))))) is ∙ later found
        part false false is is' later found = later found

-- a link as the map of links_from makes it
abbrev link_of : Entry → Entry → Link
link_of write later = record { writer = write.who; user = later.who }

abbrev on_page_of : Entry → Entry → Bool
on_page_of write later = writes_page later.page write

-- a link among entries with one more is old, or is from a write on the page of the last
pub links_push : (entries : List Entry) (last : Entry) (one other : ℕ) → list_any (joins one other) (links_among (entries ++ last ∷ [])) ≡ true
    → (list_any (joins one other) (links_among entries) ≡ true)
    ⊎ ((write : Entry) × Contains entries write × (writes_page last.page write ≡ true) × (joins one other (link_of write last) ≡ true))
links_push [] last one other found = inl found
links_push (first ∷ entries) last one other found =
    let test = joins one other in
    ⊎_elim
    (λ here. ⊎_elim
    (λ old. inl (list_any-append test (links_from first entries) (links_among entries)
    ∙ or_left (list_any test (links_from first entries)) (list_any test (links_among entries)) old))
    (λ new. inr (first, (zero, omega arith, refl), new.0, new.1))
    (kept_push test (link_of first) (on_page_of first) entries last here))
    (λ there. ⊎_elim
    (λ old. inl (list_any-append test (links_from first entries) (links_among entries)
    ∙ or_right (list_any test (links_from first entries)) (list_any test (links_among entries)) old))
    (λ new. inr (new.0, contains_there first entries new.0 new.1, new.2, new.3))
    (links_push entries last one other there))
    (or_cases (list_any test (links_from first (entries ++ last ∷ []))) (list_any test (links_among (entries ++ last ∷ [])))
    (sym (list_any-append test (links_from first (entries ++ last ∷ [])) (links_among (entries ++ last ∷ []))) ∙ found))

-- links stay as entries are added
pub links_grow : (test : Link → Bool) (entries more : List Entry) → list_any test (links_among entries) ≡ true → list_any test (links_among (entries ++ more)) ≡ true
links_grow test [] more found = absurd (true≢false (sym found))
links_grow test (first ∷ entries) more found =
    list_any-append test (links_from first (entries ++ more)) (links_among (entries ++ more))
    ∙ ⊎_elim
    (λ here. or_left (list_any test (links_from first (entries ++ more))) (list_any test (links_among (entries ++ more)))
    (kept_grow test (link_of first) (on_page_of first) entries more here))
    (λ there. or_right (list_any test (links_from first (entries ++ more))) (list_any test (links_among (entries ++ more))) (links_grow test entries more there))
    (or_cases (list_any test (links_from first entries)) (list_any test (links_among entries))
    (sym (list_any-append test (links_from first entries) (links_among entries)) ∙ found))

place_links_last : (entries : List Entry) (last write : Entry) (k : ℕ) → k < length entries → slice_index_or entries k write ≡ write
    → writes_page last.page write ≡ true → list_any (joins write.who last.who) (links_among (entries ++ last ∷ [])) ≡ true
place_links_last [] last write k below is writes = absurd (omega (arith, below))
place_links_last (first ∷ entries) last write zero below is writes =
    let test = joins write.who last.who in
    let here : list_any (joins first.who last.who) (links_from first (entries ++ last ∷ [])) ≡ true =
    link_to first (entries ++ last ∷ []) last (contains_middle entries [] last) (ap (λ (e : Entry). writes_page last.page e) is ∙ writes) in
    list_any-append test (links_from first (entries ++ last ∷ [])) (links_among (entries ++ last ∷ []))
    ∙ or_left (list_any test (links_from first (entries ++ last ∷ []))) (list_any test (links_among (entries ++ last ∷ [])))
    (ap (λ (e : Entry). list_any (joins e.who last.who) (links_from first (entries ++ last ∷ []))) (sym is) ∙ here)
place_links_last (first ∷ entries) last write (suc k) below is writes =
    let test = joins write.who last.who in
    list_any-append test (links_from first (entries ++ last ∷ [])) (links_among (entries ++ last ∷ []))
    ∙ or_right (list_any test (links_from first (entries ++ last ∷ []))) (list_any test (links_among (entries ++ last ∷ [])))
    (place_links_last entries last write k (omega (arith, below)) is writes)

-- a write is linked to one more entry on its page
pub links_last : (entries : List Entry) (last write : Entry) → Contains entries write → writes_page last.page write ≡ true
    → list_any (joins write.who last.who) (links_among (entries ++ last ∷ [])) ≡ true
links_last entries last write inside writes = place_links_last entries last write inside.0 inside.1 inside.2 writes

-- a test that holds of the two ends of a link holds of the clients that it joins
pub joined_pass : (test : ℕ → Bool) (one other : ℕ) (link : Link) → joins one other link ≡ true → test link.writer ≡ true → test link.user ≡ true
    → (test one ≡ true) × (test other ≡ true)
joined_pass test one other link joined writer user =
    ⊎_elim
    (λ first. let parts = and_parts (link.writer == one) (link.user == other) first in
    (sym (ap test (eqb-true link.writer one parts.0)) ∙ writer, sym (ap test (eqb-true link.user other parts.1)) ∙ user))
    (λ second. let parts = and_parts (link.writer == other) (link.user == one) second in
    (sym (ap test (eqb-true link.user one parts.1)) ∙ user, sym (ap test (eqb-true link.writer other parts.0)) ∙ writer))
    (or_cases ((link.writer == one) && (link.user == other)) ((link.writer == other) && (link.user == one)) joined)

pub ends_pass : (test : ℕ → Bool) (one other : ℕ) (link : Link) → joins one other link ≡ true → test one ≡ true → test other ≡ true
    → (test link.writer ≡ true) × (test link.user ≡ true)
ends_pass test one other link joined is is' =
    ⊎_elim
    (λ first. let parts = and_parts (link.writer == one) (link.user == other) first in
    (ap test (eqb-true link.writer one parts.0) ∙ is, ap test (eqb-true link.user other parts.1) ∙ is'))
    (λ second. let parts = and_parts (link.writer == other) (link.user == one) second in
    (ap test (eqb-true link.writer other parts.0) ∙ is', ap test (eqb-true link.user one parts.1) ∙ is))
    (or_cases ((link.writer == one) && (link.user == other)) ((link.writer == other) && (link.user == one)) joined)

-- a link among the entries of some clients is one among all, of those clients
pub links_of_some : (test : ℕ → Bool) (entries : List Entry) (one other : ℕ)
    → list_any (joins one other) (links_among (filter (λ entry. test entry.who) entries)) ≡ true
    → (list_any (joins one other) (links_among entries) ≡ true) × (test one ≡ true) × (test other ≡ true)
links_of_some test [] one other found = absurd (true≢false (sym found))
links_of_some test (first ∷ entries) one other found = some (test first.who) refl (links_of_some test entries one other) found
  where
    all : Bool
    all = list_any (joins one other) (links_among entries)

    front : Bool
    front = list_any (joins one other) (links_from first entries)

    few : List Entry
    few = filter (λ entry. test entry.who) entries

    some : (chosen : Bool) → test first.who ≡ chosen
        → (list_any (joins one other) (links_among few) ≡ true → (all ≡ true) × (test one ≡ true) × (test other ≡ true))
        → list_any (joins one other) (links_among (cond chosen (first ∷ few) few)) ≡ true
        → (list_any (joins one other) (links_among (first ∷ entries)) ≡ true) × (test one ≡ true) × (test other ≡ true)
    some true is later found =
        ⊎_elim
        (λ here.
        let kept = kept_of_part (joins one other) (link_of first) (on_page_of first) (λ entry. test entry.who) entries here in
        let pass = joined_pass test one other (link_of first kept.1.0) kept.1.2 is kept.1.1 in
        (list_any-append (joins one other) (links_from first entries) (links_among entries) ∙ or_left front all kept.0, pass.0, pass.1))
        (λ there. let rest = later there in
        (list_any-append (joins one other) (links_from first entries) (links_among entries) ∙ or_right front all rest.0, rest.1, rest.2))
        (or_cases (list_any (joins one other) (links_from first few)) (list_any (joins one other) (links_among few))
        (sym (list_any-append (joins one other) (links_from first few) (links_among few)) ∙ found))
    some false is later found = let rest = later found in
        (list_any-append (joins one other) (links_from first entries) (links_among entries) ∙ or_right front all rest.0, rest.1, rest.2)

-- a link of such clients is one among their entries
pub links_in_some : (test : ℕ → Bool) (entries : List Entry) (one other : ℕ) → test one ≡ true → test other ≡ true
    → list_any (joins one other) (links_among entries) ≡ true → list_any (joins one other) (links_among (filter (λ entry. test entry.who) entries)) ≡ true
links_in_some test [] one other is is' found = absurd (true≢false (sym found))
links_in_some test (first ∷ entries) one other is is' found = inside (test first.who) refl (links_in_some test entries one other is is')
    (or_cases (list_any (joins one other) (links_from first entries)) (list_any (joins one other) (links_among entries))
    (sym (list_any-append (joins one other) (links_from first entries) (links_among entries)) ∙ found))
  where
    few : List Entry
    few = filter (λ entry. test entry.who) entries

    front : Bool
    front = list_any (joins one other) (links_from first few)

    rest : Bool
    rest = list_any (joins one other) (links_among few)

    inside : (chosen : Bool) → test first.who ≡ chosen → (list_any (joins one other) (links_among entries) ≡ true → rest ≡ true)
        → (list_any (joins one other) (links_from first entries) ≡ true) ⊎ (list_any (joins one other) (links_among entries) ≡ true)
        → list_any (joins one other) (links_among (cond chosen (first ∷ few) few)) ≡ true
    inside true chosen later (inl here) =
        list_any-append (joins one other) (links_from first few) (links_among few)
        ∙ or_left front rest (kept_in_part (joins one other) (link_of first) (on_page_of first) (λ entry. test entry.who)
        (λ entry joined. (ends_pass test one other (link_of first entry) joined is is').1) entries here)
    inside true chosen later (inr there) =
        list_any-append (joins one other) (links_from first few) (links_among few) ∙ or_right front rest (later there)
    inside false chosen later (inl here) =
        let some = kept_some (joins one other) (link_of first) (on_page_of first) entries here in
        absurd (true≢false (sym (ends_pass test one other (link_of first some.0) some.1 is is').0 ∙ chosen))
    inside false chosen later (inr there) = later there
