use Rattle.std.proofs.Common.{◌≡◌, ℕ, ◌+◌, ◌-◌, ◌^◌, ◌<◌, ◌≤◌, Bool, true, false, nat_le, cond, ltb, List, [], ◌∷◌, ◌++◌, length, get_or, take, drop, Option, Some, None, option_map, option_and_then, refl, sym, ap, ◌∙◌, arith, decimal, ltb-true, ltb-false, ne_eqb, lt-ltb, eqb-true, length-append, length-drop, map, inl, inr, ◌↔◌}
use Rattle.std.specs.Prelude.{IsSome, IfSome}
use Rattle.std.specs.List.{before_first, after_first, position_or_len, position}
use Rattle.std.proofs.lemmas.Bool.{and_parts, and_from, cases_lt, leb-true, le-leb}
use Rattle.std.proofs.lemmas.List.{drop_all, take_all}
use Rattle.std.proofs.lemmas.List.Sums.{position_or_len_is, split_at_first, passes_at_first}
use Rattle.std.proofs.lemmas.Fmt.{digits_decimal}
use Rattle.std.proofs.lemmas.Str.Parse.{not_in_digits}
use Rattle.std.proofs.Math.ListN.{get_or-append}
use Rattle.std.proofs.Math.Seq.{get_or-append_seam, take-append_seam, drop-append-add}
use Rattle.casper_words.specs.declared.page.Right.{Right}
use Rattle.casper_words.specs.declared.page.Right.TheVariants as may
use Rattle.casper_words.specs.declared.page.Want.{Want}
use Rattle.casper_words.specs.Wants.{AreWants, PagesRiseAbove}
use Rattle.casper_text.proofs.NumberLemmas.{digits_model, true_where_some, false_where_none, number_read_back, number_text}
use Rattle.casper_app.specs.Schedule.{place_of, right_of, is_colon, want_from, want_of, each_want, rise_above, are_wants, rising_wants, wants_of}
use Rattle.casper_app.specs.Grammar.{right_text, want_text}

-- what a first place tells of the colon
colon_found : (word : List ℕ) (at : ℕ) → position is_colon word ≡ Some at → position_or_len is_colon word ≡ at
colon_found word at found = (true_where_some (ltb (position_or_len is_colon word) (length word)) _ _ found).1

want_from-no_right : (page : Option ℕ) → want_from page None ≡ None
want_from-no_right None = refl
want_from-no_right (Some page) = refl

want_from-parts : (page : Option ℕ) (right : Option Right) (want : Want) → want_from page right ≡ Some want → (page ≡ Some want.page) × (right ≡ Some want.right)
want_from-parts None right want gives = cc
want_from-parts (Some page) None want gives = cc
want_from-parts (Some page) (Some right) want gives =
    let same : ◌≡◌ {A = Want} (record { page = page; right = right }) want = cc in
    (ap (λ (x : Want). Some x.page) same, ap (λ (x : Want). Some x.right) same)

-- nothing follows the colon of a word that has none
after_no_colon : (word : List ℕ) → length word ≤ position_or_len is_colon word → right_of (after_first is_colon word) ≡ None
after_no_colon word past = ap right_of (drop_all (position_or_len is_colon word + 1) word (omega arith))

colon_within : (word : List ℕ) (right : Right) → right_of (after_first is_colon word) ≡ Some right → position_or_len is_colon word < length word
colon_within word right gives =
    elim (cases_lt (position_or_len is_colon word) (length word)) [ inl within ↦ within | inr past ↦ let empty = after_no_colon word past in absurd cc ]

-- a word without a colon writes no want
pub want_of-no_colon : (word : List ℕ) → position is_colon word ≡ None → want_of word ≡ None
unfolding want_of
want_of-no_colon word missing =
    let last = ltb-false _ _ (false_where_none (ltb (position_or_len is_colon word) (length word)) _ missing) in
    ap (want_from (place_of (before_first is_colon word))) (after_no_colon word last) ∙ want_from-no_right _

-- what stands before a colon, and after it
abbrev page_text : List ℕ → ℕ → List ℕ
page_text word at = take at word

abbrev behind_text : List ℕ → ℕ → List ℕ
behind_text word at = take (length word - (at + 1)) (drop (at + 1) word)

-- a word with a colon writes the want of the page and the right on its two sides
want_of-at : (word : List ℕ) (at : ℕ) → position is_colon word ≡ Some at → want_of word ≡ want_from (place_of (page_text word at)) (right_of (behind_text word at))
unfolding want_of
want_of-at word at found =
    ap (λ k. want_from (place_of (take k word)) (right_of (drop (k + 1) word))) (colon_found word at found)
    ∙ ap (λ after. want_from (place_of (take at word)) (right_of after)) (sym (take_all (length word - (at + 1)) (drop (at + 1) word) (omega (arith, length-drop (at + 1) word))))

pub want_of-no_page : (word : List ℕ) (at : ℕ) → position is_colon word ≡ Some at → place_of (page_text word at) ≡ None → want_of word ≡ None
want_of-no_page word at found missing =
    want_of-at word at found ∙ ap (λ page. want_from page (right_of (behind_text word at))) missing

pub want_of-no_right : (word : List ℕ) (at : ℕ) → position is_colon word ≡ Some at → right_of (behind_text word at) ≡ None → want_of word ≡ None
want_of-no_right word at found missing =
    want_of-at word at found ∙ ap (want_from (place_of (page_text word at))) missing ∙ want_from-no_right _

pub want_of-both : (word : List ℕ) (at page : ℕ) (right : Right) → position is_colon word ≡ Some at → place_of (page_text word at) ≡ Some page → right_of (behind_text word at) ≡ Some right → want_of word ≡ Some record { page = page; right = right }
want_of-both word at page right found is_page is_right =
    want_of-at word at found
    ∙ ap (λ x. want_from x (right_of (behind_text word at))) is_page
    ∙ ap (want_from (Some page)) is_right

-- the text of a want has one colon
no_colon_in_number : (n : ℕ) → n < 2 ^ 32 → (k : ℕ) → k < length (decimal n) → is_colon (get_or (decimal n) k 0) ≡ false
no_colon_in_number n small k within =
    ne_eqb _ _ (not_in_digits digits_model (decimal n) 58 (digits_decimal digits_model n (omega arith)) (λ range. omega arith) k within)

colon_after : (xs ys : List ℕ) → ((k : ℕ) → k < length xs → is_colon (get_or xs k 0) ≡ false) → position_or_len is_colon (xs ++ 58 ∷ ys) ≡ length xs
colon_after xs ys before =
    position_or_len_is is_colon (xs ++ 58 ∷ ys) (length xs) 0 (omega (arith, length-append xs (58 ∷ ys)))
    (λ k within. rw get_or-append (before k within))
    (λ within. ap is_colon (get_or-append_seam xs 58 ys 0))

right_read_back : (right : Right) → right_of (right_text right) ≡ Some right
right_read_back may.Read = refl
right_read_back may.Write = refl

-- a want's text is read back as the want
pub want_read_back : (want : Want) → want.page < 2 ^ 32 → want_of (want_text want) ≡ Some want
unfolding want_of
want_read_back want small =
    let behind : List ℕ = right_text want.right in
    let at = colon_after (decimal want.page) behind (no_colon_in_number want.page small) in
    let text : List ℕ = decimal want.page ++ 58 ∷ behind in
    let before : before_first is_colon text ≡ decimal want.page = ap (λ k. take k text) at ∙ take-append_seam (decimal want.page) (58 ∷ behind) in
    let after : after_first is_colon text ≡ behind = ap (λ k. drop (k + 1) text) at ∙ drop-append-add (decimal want.page) (58 ∷ behind) 1 in
    let is_page = ap place_of before ∙ number_read_back (2 ^ 32) want.page (omega arith) small in
    let is_right = ap right_of after ∙ right_read_back want.right in
    ap (λ x. want_from x (right_of (after_first is_colon text))) is_page ∙ ap (want_from (Some want.page)) is_right

right_byte : (byte : ℕ) (as_read as_write : Bool) (right : Right) → (as_read ≡ true → byte ≡ 114) → (as_write ≡ true → byte ≡ 119)
    → cond as_read (Some may.Read) (cond as_write (Some may.Write) None) ≡ Some right → byte ∷ [] ≡ right_text right
right_byte byte true as_write right reads writes gives =
    let same : may.Read ≡ right = cc in
    ap (λ (b : ℕ). b ∷ []) (reads refl) ∙ ap right_text same
right_byte byte false true right reads writes gives =
    let same : may.Write ≡ right = cc in
    ap (λ (b : ℕ). b ∷ []) (writes refl) ∙ ap right_text same
right_byte byte false false right reads writes gives = cc

text_of_right : (word : List ℕ) (right : Right) → right_of word ≡ Some right → word ≡ right_text right
text_of_right [] right gives = cc
text_of_right (byte ∷ []) right gives = right_byte byte _ _ right (eqb-true byte 114) (eqb-true byte 119) gives
text_of_right (byte ∷ next ∷ rest) right gives = cc

-- and the word that writes a want is its text
pub text_of_want : (word : List ℕ) (want : Want) → want_of word ≡ Some want → (want.page < 2 ^ 32) × (word ≡ want_text want)
unfolding want_of
text_of_want word want gives =
    let parts = want_from-parts _ _ want gives in
    let page = number_text (2 ^ 32) (before_first is_colon word) want.page (omega arith) parts.0 in
    let right = text_of_right (after_first is_colon word) want.right parts.1 in
    let within = colon_within word want.right parts.1 in
    let colon = eqb-true _ _ (passes_at_first is_colon word 0 within) in
    let split = split_at_first is_colon word 0 within in
    let text : word ≡ want_text want = cc (page.1, right) in
    (page.0, text)

-- the test of wants finds what one acquire may ask for
rises : (page : ℕ) (wants : List Want) → rise_above page wants ≡ true → PagesRiseAbove page wants
rises page [] test = tt
rises page (want ∷ wants) test =
    let parts = and_parts (ltb page want.page) (rise_above want.page wants) test in
    (ltb-true page want.page parts.0, rises want.page wants parts.1)

rises_test : (page : ℕ) (wants : List Want) → PagesRiseAbove page wants → rise_above page wants ≡ true
rises_test page [] rise = refl
rises_test page (want ∷ wants) rise =
    and_from (ltb page want.page) (rise_above want.page wants) (lt-ltb page want.page rise.0) (rises_test want.page wants rise.1)

pub wants_found : (wants : List Want) → are_wants wants ≡ true → AreWants wants
wants_found [] test = cc
wants_found (want ∷ wants) test =
    let parts = and_parts (nat_le (length wants) 3) (rise_above want.page wants) test in
    let few : length wants ≤ 3 = leb-true (length wants) 3 parts.0 in
    record { some = omega arith; few = omega arith; rise = rises want.page wants parts.1 }

pub wants_pass : (wants : List Want) → AreWants wants → are_wants wants ≡ true
wants_pass [] are = absurd (omega (arith, are.some))
wants_pass (want ∷ wants) are =
    and_from (nat_le (length wants) 3) (rise_above want.page wants) (le-leb (length wants) 3 (omega (arith, are.few))) (rises_test want.page wants are.rise)

-- what the making of a list of wants answers
pub wants_made : (wants : List Want) (made : Option (List Want)) → IsSome made ↔ AreWants wants → IfSome made (λ list. list ≡ wants) → made ≡ rising_wants wants
wants_made wants None exactly same = by_test (are_wants wants) refl
  where
    by_test : (b : Bool) → are_wants wants ≡ b → None ≡ cond b (Some wants) None
    by_test true passes = absurd (let h : false ≡ true = exactly.1 (wants_found wants passes) in cc)
    by_test false fails = refl
wants_made wants (Some list) exactly same =
    ap Some same ∙ ap (λ (b : Bool). cond b (Some wants) None) (sym (wants_pass wants (exactly.0 refl)))

-- the wants of one word more
pub each_more : (word : List ℕ) (words : List (List ℕ)) (want : Want) (wants : List Want) → want_of word ≡ Some want → each_want words ≡ Some wants → each_want (word ∷ words) ≡ Some (want ∷ wants)
each_more word words want wants first rest =
    ap (option_and_then (λ (w : Want). option_map (λ (ws : List Want). w ∷ ws) (each_want words))) first ∙ ap (option_map (λ (ws : List Want). want ∷ ws)) rest

-- each word writes one want
each_counted : (words : List (List ℕ)) (wants : List Want) → each_want words ≡ Some wants → length wants ≡ length words
each_counted [] wants gives = ap length (let same : wants ≡ [] = cc in same)
each_counted (word ∷ words) wants gives = by_first (λ ws found. each_counted words ws found) (want_of word) gives
  where
    by_rest : (want : Want) (rest : Option (List Want)) → ((ws : List Want) → rest ≡ Some ws → length ws ≡ length words) → option_map (λ (ws : List Want). want ∷ ws) rest ≡ Some wants → length wants ≡ length (word ∷ words)
    by_rest want None each h = cc
    by_rest want (Some ws) each h =
        let same : wants ≡ want ∷ ws = cc in
        ap length same ∙ omega (arith, each ws refl)

    by_first : ((ws : List Want) → each_want words ≡ Some ws → length ws ≡ length words) → (first : Option Want) → option_and_then (λ (w : Want). option_map (λ (ws : List Want). w ∷ ws) (each_want words)) first ≡ Some wants → length wants ≡ length (word ∷ words)
    by_first behind None h = cc
    by_first behind (Some want) h = by_rest want (each_want words) behind h

-- wants that are none or more than four are no acquire's
too_many : (wants : List Want) → (AreWants wants → ⊥) → rising_wants wants ≡ None
too_many wants fails = by_test (are_wants wants) refl
  where
    by_test : (b : Bool) → are_wants wants ≡ b → cond b (Some wants) None ≡ None
    by_test true passes = absurd (fails (wants_found wants passes))
    by_test false test = refl

-- no words, or more than four, write no wants of an acquire
pub wants_of_other_counts : (words : List (List ℕ)) → (length words ≤ 4 → length words < 1) → wants_of words ≡ None
wants_of_other_counts words other = by_each (each_want words) refl
  where
    by_each : (each : Option (List Want)) → each_want words ≡ each → option_and_then rising_wants each ≡ None
    by_each None found = refl
    by_each (Some wants) found = too_many wants (λ are. let few : length words < 1 = other (omega (arith, each_counted words wants found, are.few)) in omega (arith, each_counted words wants found, are.some, few))

-- the wants of four words
pub wants_of_four : {A : Type 0} (f : A → List ℕ) (spans : List A) (i j k l : A) (first second third fourth : Want) (made : Option (List Want))
    → 4 ≤ length spans → length spans < 5
    → want_of (f (get_or spans 0 i)) ≡ Some first → want_of (f (get_or spans 1 j)) ≡ Some second → want_of (f (get_or spans 2 k)) ≡ Some third → want_of (f (get_or spans 3 l)) ≡ Some fourth
    → made ≡ rising_wants (first ∷ second ∷ third ∷ fourth ∷ []) → made ≡ wants_of (map f spans)
wants_of_four f [] i j k l first second third fourth made least most p q r s is = absurd (omega arith)
wants_of_four f (a ∷ []) i j k l first second third fourth made least most p q r s is = absurd (omega arith)
wants_of_four f (a ∷ b ∷ []) i j k l first second third fourth made least most p q r s is = absurd (omega arith)
wants_of_four f (a ∷ b ∷ c ∷ []) i j k l first second third fourth made least most p q r s is = absurd (omega arith)
wants_of_four f (a ∷ b ∷ c ∷ d ∷ []) i j k l first second third fourth made least most p q r s is =
    is ∙ ap (option_and_then rising_wants) (sym (each_more (f a) (f b ∷ f c ∷ f d ∷ []) first (second ∷ third ∷ fourth ∷ []) p
    (each_more (f b) (f c ∷ f d ∷ []) second (third ∷ fourth ∷ []) q
    (each_more (f c) (f d ∷ []) third (fourth ∷ []) r
    (each_more (f d) [] fourth [] s refl)))))
wants_of_four f (a ∷ b ∷ c ∷ d ∷ e ∷ more) i j k l first second third fourth made least most p q r s is = absurd (omega arith)
