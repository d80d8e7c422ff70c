use Rattle.std.proofs.Common.{◌≡◌, ℕ, ◌+◌, ◌-◌, ◌<◌, ◌≤◌, ◌∙◌, Bool, true, false, cond, not, ◌||◌, ◌==◌, eq-eqb, eqb-true, List, [], ◌∷◌, ◌++◌, append_assoc, length, take, reverse, map, filter, Option, Some, None, filter_map, option_map, is_some, refl, sym, ap, ap₂, subst, arith}
use Rattle.std.specs.Option.{option_to_list}
use Rattle.std.specs.List.{cons_option, Contains}
use Rattle.std.proofs.lemmas.Bool.{ne_eqb}
use Rattle.std.proofs.lemmas.List.{take-map, map-append, reverse-append, length-map, length-reverse}
use Rattle.std.proofs.Math.Seq.{take-append-add}
use Rattle.casper_words.specs.declared.page.Right.{Right}
use Rattle.casper_words.specs.declared.page.Right.TheVariants as may
use Rattle.casper_words.specs.declared.page.Want.{Want}
use Rattle.casper_words.specs.Wants.{PagesRise, PagesRiseAbove, AreWants}
use Rattle.casper_dir.specs.Holding.{raised as raised_right}
use Rattle.casper_cache.specs.declared.held.Held.{Held}
use Rattle.casper_cache.specs.Holding.{entry_of, right_of, others, front_of, graded, raised, with_right, ArePagesDistinct}
use Rattle.casper_cache.proofs.Entries.{entry_of-page}
use Rattle.casper_cache.proofs.ChangeLaws.{front_keeps_entries}
use Rattle.casper_model.specs.Held.{is_to_write, holds, allows, granted_right, with_granted}
use Rattle.casper_hub.specs.HubView.{PagesView}
use Rattle.casper_hub.specs.Shows.{permits}
use Rattle.casper_hub.specs.Owned.{want_of, wants_of}
use Rattle.casper_hub.specs.Given.{met, kept_as}
use Rattle.casper_hub.specs.Installing.{with_page, with_pages, raised_for, all_raised, all_granted, all_fronted}
use Rattle.casper_hub.proofs.Left.{left_of-page, distinct-kept}
use Rattle.casper_hub.proofs.Showing.{allows_right}
use Rattle.casper_hub.proofs.OpenedTurns.{right_among_kept}
use Rattle.casper_hub.proofs.GrantedRights.{Every, eq_turned, none_granted, new_in, granted_right_of}

-- what follows from two facts on each want
every_both : (P Q R : Want → Type 0) (wants : List Want) → ((want : Want) → P want → Q want → R want) → Every P wants → Every Q wants → Every R wants
every_both P Q R [] both p q = tt
every_both P Q R (want ∷ wants) both p q = (both want p.0 q.0, every_both P Q R wants both p.1 q.1)

-- what holds of each want holds of each that passes
every_filter : (P : Want → Type 0) (test : Want → Bool) (wants : List Want) → Every P wants → Every P (filter test wants)
every_filter P test [] all = tt
every_filter P test (want ∷ wants) all =
    let rest : Every P (filter test wants) = every_filter P test wants all.1 in
    elim (test want) as (λ b. Every P (cond b (want ∷ filter test wants) (filter test wants))) [
      | true ↦ (all.0, rest)
      | false ↦ rest
    ]

-- each want is one of the wants
every_held : (wants : List Want) → Every (λ want. holds wants want.page ≡ true) wants
every_held [] = tt
every_held (want ∷ wants) = (
  ap (λ (b : Bool). b || holds wants want.page) (eq-eqb want.page want.page refl),
  every_both (λ one. holds wants one.page ≡ true) (λ one. holds wants one.page ≡ true) (λ one. holds (want ∷ wants) one.page ≡ true) wants
      (λ one is _. ap (λ (b : Bool). (want.page == one.page) || b) is ∙ or_true (want.page == one.page)) (every_held wants) (every_held wants),
)
  where
    or_true : (b : Bool) → (b || true) ≡ true
    or_true true = refl
    or_true false = refl

-- the wants are of distinct pages
abbrev pub AreApart : List Want → Type 0
AreApart [] = Unit {0}
AreApart (want ∷ wants) = (holds wants want.page ≡ false) × AreApart wants

not_above : (page : ℕ) (wants : List Want) → PagesRiseAbove page wants → (q : ℕ) → q ≤ page → holds wants q ≡ false
not_above page [] rise q low = refl
not_above page (want ∷ wants) rise q low =
    let above : page < want.page = rise.0 in
    ap (λ (b : Bool). b || holds wants q) (ne_eqb want.page q (λ e. absurd (omega (arith, e, above, low))))
    ∙ not_above want.page wants rise.1 q (omega arith)

apart_above : (page : ℕ) (wants : List Want) → PagesRiseAbove page wants → AreApart wants
apart_above page [] rise = tt
apart_above page (want ∷ wants) rise = (not_above want.page wants rise.1 want.page (omega arith), apart_above want.page wants rise.1)

-- wants whose pages rise are of distinct pages
pub apart_from_rise : (wants : List Want) → PagesRise wants → AreApart wants
apart_from_rise [] rise = tt
apart_from_rise (want ∷ wants) rise = (not_above want.page wants rise want.page (omega arith), apart_above want.page wants rise)

-- a page that is not wanted is that of no want
all_others : (page : ℕ) (wants : List Want) → holds wants page ≡ false → Every (λ want. want.page ≡ page → ⊥) wants
all_others page [] none = tt
all_others page (want ∷ wants) none =
    (elim (want.page == page) as (λ b. (want.page == page) ≡ b → (b || holds wants page) ≡ false → Every (λ want. want.page ≡ page → ⊥) (want ∷ wants)) [
      | true ↦ λ _ e. cc
      | false ↦ λ test e. (λ same. let here : (want.page == page) ≡ true = eq-eqb want.page page same in cc, all_others page wants e)
    ]) refl none

-- the entries of pages that are not wanted, in their order
abbrev pub unwanted : List Want → List Held → List Held
unwanted wants held = filter (λ (entry : Held). not (holds wants entry.page)) held

-- the entries of the wanted pages, in the order of the wants
abbrev pub entries_for : List Held → List Want → List Held
entries_for held wants = filter_map (λ (want : Want). entry_of want.page held) wants

entries_same : (first second : List Held) (wants : List Want) → ((page : ℕ) → entry_of page first ≡ entry_of page second) → entries_for first wants ≡ entries_for second wants
entries_same first second [] same = refl
entries_same first second (want ∷ wants) same = ap₂ (λ one rest. cons_option one rest) (same want.page) (entries_same first second wants same)

unwanted-none : (held : List Held) → unwanted [] held ≡ held
unwanted-none [] = refl
unwanted-none (x ∷ xs) = ap (λ (l : List Held). x ∷ l) (unwanted-none xs)

unwanted-others : (want : Want) (wants : List Want) (held : List Held) → unwanted wants (others want.page held) ≡ unwanted (want ∷ wants) held
unwanted-others want wants [] = refl
unwanted-others want wants (x ∷ xs) =
    (elim (x.page == want.page) as (λ b. unwanted wants (cond (not b) (x ∷ others want.page xs) (others want.page xs))
    ≡ cond (not (b || holds wants x.page)) (x ∷ unwanted (want ∷ wants) xs) (unwanted (want ∷ wants) xs)) [
      | true ↦ unwanted-others want wants xs
      | false ↦ ap (λ (l : List Held). cond (not (holds wants x.page)) (x ∷ l) l) (unwanted-others want wants xs)
    ])
    ∙ ap (λ (b : Bool). cond (not (b || holds wants x.page)) (x ∷ unwanted (want ∷ wants) xs) (unwanted (want ∷ wants) xs)) (eq_turned x.page want.page)

unwanted-front : (want : Want) (wants : List Want) (held : List Held) → holds wants want.page ≡ false
    → unwanted wants (front_of want.page held) ≡ option_to_list (entry_of want.page held) ++ unwanted (want ∷ wants) held
unwanted-front want wants held apart =
    (elim (entry_of want.page held) as (λ o. entry_of want.page held ≡ o → unwanted wants (option_to_list o ++ others want.page held) ≡ option_to_list o ++ unwanted (want ∷ wants) held) [
      | None ↦ λ _. unwanted-others want wants held
      | Some x ↦ λ found.
          let other : holds wants x.page ≡ false = ap (holds wants) (entry_of-page want.page held x found) ∙ apart in
          ap (λ (b : Bool). cond (not b) (x ∷ unwanted wants (others want.page held)) (unwanted wants (others want.page held))) other
          ∙ ap (λ (l : List Held). x ∷ l) (unwanted-others want wants held)
    ]) refl

-- one more item in front of a list turned round
turned_more : {X : Type 0} (x : X) (xs rest : List X) → reverse xs ++ x ∷ rest ≡ reverse (x ∷ xs) ++ rest
turned_more x xs rest = sym (append_assoc (reverse xs) (x ∷ []) rest) ∙ ap (λ l. l ++ rest) (sym (reverse-append (x ∷ []) xs))

-- pages brought to the front one after another stand there the last one first, before those that are not wanted
pub fronted_is : (held : List Held) (wants : List Want) → AreApart wants → all_fronted held wants ≡ reverse (entries_for held wants) ++ unwanted wants held
fronted_is held [] apart = sym (unwanted-none held)
fronted_is held (want ∷ wants) apart =
    fronted_is (front_of want.page held) wants apart.1
    ∙ ap₂ (λ (a b : List Held). reverse a ++ b) (entries_same (front_of want.page held) held wants (λ page. front_keeps_entries want.page page held)) (unwanted-front want wants held apart.0)
    ∙ joined (entry_of want.page held)
  where
    joined : (o : Option Held) → reverse (entries_for held wants) ++ (option_to_list o ++ unwanted (want ∷ wants) held) ≡ reverse (cons_option o (entries_for held wants)) ++ unwanted (want ∷ wants) held
    joined None = refl
    joined (Some x) = turned_more x (entries_for held wants) (unwanted (want ∷ wants) held)

-- what is installed is wanted
installed_unwanted : (pages : PagesView) (before after : ℕ → Option Right) (held : List Held) (wants missing : List Want) → Every (λ want. holds wants want.page ≡ true) missing
    → unwanted wants (filter_map (kept_as before after) (with_pages pages held missing)) ≡ unwanted wants (filter_map (kept_as before after) held)
installed_unwanted pages before after held wants [] all = refl
installed_unwanted pages before after held wants (want ∷ missing) all =
    installed_unwanted pages before after (with_page pages held want) wants missing all.1
    ∙ (elim (is_some (right_of want.page held)) as (λ b. unwanted wants (filter_map (kept_as before after) (cond b held (new_in pages want ∷ held))) ≡ unwanted wants (filter_map (kept_as before after) held)) [
      | true ↦ refl
      | false ↦
          (elim (kept_as before after (new_in pages want)) as (λ o. kept_as before after (new_in pages want) ≡ o
          → unwanted wants (cons_option o (filter_map (kept_as before after) held)) ≡ unwanted wants (filter_map (kept_as before after) held)) [
            | None ↦ λ _. refl
            | Some left ↦ λ is.
                let test : holds wants left.page ≡ true = ap (holds wants) (left_of-page (before want.page) (after want.page) (new_in pages want) left is) ∙ all.0 in
                ap (λ (b : Bool). cond (not b) (left ∷ unwanted wants (filter_map (kept_as before after) held)) (unwanted wants (filter_map (kept_as before after) held))) test
          ]) refl
    ])

-- what is raised is wanted
graded_unwanted : (right : Right) (page : ℕ) (held : List Held) (wants : List Want) → holds wants page ≡ true → unwanted wants (graded right page held) ≡ unwanted wants held
graded_unwanted right page [] wants is = refl
graded_unwanted right page (x ∷ xs) wants is =
    let rest : unwanted wants (graded right page xs) ≡ unwanted wants xs = graded_unwanted right page xs wants is in
    (elim (x.page == page) as (λ b. (x.page == page) ≡ b → unwanted wants (cond b (with_right right x) x ∷ graded right page xs) ≡ unwanted wants (x ∷ xs)) [
      | true ↦ λ here.
          let test : holds wants x.page ≡ true = ap (holds wants) (eqb-true x.page page here) ∙ is in
          ap (λ (b : Bool). cond (not b) (with_right right x ∷ unwanted wants (graded right page xs)) (unwanted wants (graded right page xs))) test
          ∙ rest ∙ sym (ap (λ (b : Bool). cond (not b) (x ∷ unwanted wants xs) (unwanted wants xs)) test)
      | false ↦ λ _. ap (λ (l : List Held). cond (not (holds wants x.page)) (x ∷ l) l) rest
    ]) refl

raised_unwanted : (held : List Held) (wants missing : List Want) → Every (λ want. holds wants want.page ≡ true) missing → unwanted wants (all_raised held missing) ≡ unwanted wants held
raised_unwanted held wants [] all = refl
raised_unwanted held wants (want ∷ missing) all =
    raised_unwanted (raised_for held want) wants missing all.1
    ∙ (elim (is_to_write want.right) as (λ b. unwanted wants (cond b (raised want.page held) held) ≡ unwanted wants held) [
      | true ↦ graded_unwanted may.Write want.page held wants all.0
      | false ↦ refl
    ])

-- the entries that are not wanted, as wants
wants_unwanted : (wants : List Want) (held : List Held) → wants_of (unwanted wants held) ≡ filter (λ (want : Want). not (holds wants want.page)) (wants_of held)
wants_unwanted wants [] = refl
wants_unwanted wants (x ∷ xs) =
    elim (holds wants x.page) as (λ b. wants_of (cond (not b) (x ∷ unwanted wants xs) (unwanted wants xs))
    ≡ cond (not b) (want_of x ∷ filter (λ (want : Want). not (holds wants want.page)) (wants_of xs)) (filter (λ (want : Want). not (holds wants want.page)) (wants_of xs))) [
      | true ↦ wants_unwanted wants xs
      | false ↦ ap (λ (l : List Want). want_of x ∷ l) (wants_unwanted wants xs)
    ]

-- the entries of the wanted pages, as wants
wants_found : (change : Want → Want) (held : List Held) (wants : List Want) → Every (λ want. option_map want_of (entry_of want.page held) ≡ Some (change want)) wants
    → wants_of (entries_for held wants) ≡ map change wants
wants_found change held [] all = refl
wants_found change held (want ∷ wants) all =
    (elim (entry_of want.page held) as (λ o. option_map want_of o ≡ Some (change want) → wants_of (cons_option o (entries_for held wants)) ≡ change want ∷ map change wants) [
      | None ↦ λ e. cc
      | Some x ↦ λ e.
          let same : want_of x ≡ change want = cc in
          ap₂ (λ (one : Want) (rest : List Want). one ∷ rest) same (wants_found change held wants all.1)
    ]) all.0

wants_turned : (held : List Held) → wants_of (reverse held) ≡ reverse (wants_of held)
wants_turned [] = refl
wants_turned (x ∷ xs) =
    ap wants_of (reverse-append (x ∷ []) xs) ∙ map-append want_of (reverse xs) (x ∷ [])
    ∙ ap (λ (l : List Want). l ++ want_of x ∷ []) (wants_turned xs) ∙ sym (reverse-append (want_of x ∷ []) (wants_of xs))

-- a page and its right, as a want
found_want : (page : ℕ) (right : Right) (held : List Held) → right_of page held ≡ Some right → option_map want_of (entry_of page held) ≡ Some (record { page = page; right = right })
found_want page right held is = by (entry_of page held) (λ entry found. entry_of-page page held entry found) is
  where
    as_want : ℕ → Right → Option Want
    as_want p r = Some (record { page = p; right = r })

    by : (o : Option Held) → ((entry : Held) → o ≡ Some entry → entry.page ≡ page) → option_map (λ (e : Held). e.right) o ≡ Some right → option_map want_of o ≡ as_want page right
    by None of e = cc
    by (Some x) of e =
        let same : x.right ≡ right = cc in
        ap₂ as_want (of x refl) same

-- the right to a wanted page is given once, if it was missing
granted_each : (rights : ℕ → Option Right) (test : Want → Bool) (wants : List Want) → AreApart wants
    → Every (λ want. all_granted want.page (rights want.page) (filter test wants) ≡ cond (test want) (Some (raised_right (rights want.page) want.right)) (rights want.page)) wants
granted_each rights test [] apart = tt
granted_each rights test (want ∷ wants) apart = (
  first (test want),
  every_both (λ one. one.page ≡ want.page → ⊥)
      (λ one. all_granted one.page (rights one.page) (filter test wants) ≡ cond (test one) (Some (raised_right (rights one.page) one.right)) (rights one.page))
      (λ one. all_granted one.page (rights one.page) (filter test (want ∷ wants)) ≡ cond (test one) (Some (raised_right (rights one.page) one.right)) (rights one.page))
      wants (λ one differ is. passed one differ (test want) ∙ is) elsewhere (granted_each rights test wants apart.1),
)
  where
    elsewhere : Every (λ one. one.page ≡ want.page → ⊥) wants
    elsewhere = all_others want.page wants apart.0

    behind : Every (λ one. one.page ≡ want.page → ⊥) (filter test wants)
    behind = every_filter (λ one. one.page ≡ want.page → ⊥) test wants elsewhere

    first : (b : Bool) → all_granted want.page (rights want.page) (cond b (want ∷ filter test wants) (filter test wants)) ≡ cond b (Some (raised_right (rights want.page) want.right)) (rights want.page)
    first true =
        ap (λ (b : Bool). all_granted want.page (cond b (Some (raised_right (rights want.page) want.right)) (rights want.page)) (filter test wants)) (eq-eqb want.page want.page refl)
        ∙ none_granted want.page (Some (raised_right (rights want.page) want.right)) (filter test wants) behind
    first false = none_granted want.page (rights want.page) (filter test wants) behind

    passed : (one : Want) → (one.page ≡ want.page → ⊥) → (b : Bool)
        → all_granted one.page (rights one.page) (cond b (want ∷ filter test wants) (filter test wants)) ≡ all_granted one.page (rights one.page) (filter test wants)
    passed one differ true =
        ap (λ (b : Bool). all_granted one.page (cond b (Some (raised_right (rights one.page) want.right)) (rights one.page)) (filter test wants)) (ne_eqb want.page one.page (λ e. differ (sym e)))
    passed one differ false = refl

-- a wanted page is held as it was wanted, but a writer stays one
right_granted : (right : Option Right) (wanted : Right) → cond (not (permits right wanted)) (Some (raised_right right wanted)) right ≡ Some (cond (permits right may.Write) may.Write wanted)
right_granted None wanted = refl
right_granted (Some may.Read) may.Read = refl
right_granted (Some may.Read) may.Write = refl
right_granted (Some may.Write) may.Read = refl
right_granted (Some may.Write) may.Write = refl

-- the first items of two lists one after the other, where the first list fits
take_both : (capacity : ℕ) (first rest : List Want) → length first ≤ capacity → take capacity (first ++ rest) ≡ first ++ take (capacity - length first) rest
take_both capacity first rest fits =
    let whole : capacity ≡ length first + (capacity - length first) = omega arith in
    ap (λ (n : ℕ). take n (first ++ rest)) whole ∙ take-append-add first rest (capacity - length first)

-- what a client holds once an acquire is granted, with its pages installed, raised and brought to the front, is what the machine says
pub granted_held : (pages : PagesView) (before after : ℕ → Option Right) (wholly asked : ℕ → Bool) (capacity : ℕ) (held : List Held) (wants missing : List Want)
    → ArePagesDistinct held → AreWants wants → 8 ≤ capacity
    → ((page : ℕ) → before page ≡ right_of page held) → ((page : ℕ) → after page ≡ met (wholly page) (asked page) (before page))
    → missing ≡ filter (λ (want : Want). not (permits (after want.page) want.right)) wants
    → ((want : Want) → Contains missing want → after want.page ≡ before want.page)
    → wants_of (take capacity (all_fronted (all_raised (filter_map (kept_as before after) (with_pages pages held missing)) missing) wants))
    ≡ with_granted capacity wants (wants_of (filter_map (kept_as before after) held))
granted_held pages before after wholly asked capacity held wants missing distinct are room is kept missing_is stays =
    sym (take-map want_of capacity (all_fronted list wants)) ∙ ap (take capacity) listed
    ∙ take_both capacity front rest (omega (arith, long, are.few)) ∙ ap (λ (n : ℕ). front ++ take (capacity - n) rest) long
  where
    left : List Held
    left = filter_map (kept_as before after) held

    list : List Held
    list = all_raised (filter_map (kept_as before after) (with_pages pages held missing)) missing

    test : Want → Bool
    test want = not (permits (after want.page) want.right)

    front : List Want
    front = reverse (map (granted_right (wants_of left)) wants)

    rest : List Want
    rest = filter (λ (want : Want). not (holds wants want.page)) (wants_of left)

    long : length front ≡ length wants
    long = length-reverse (map (granted_right (wants_of left)) wants) ∙ length-map wants (granted_right (wants_of left))

    apart : AreApart wants
    apart = apart_from_rise wants are.rise

    wanted : Every (λ want. holds wants want.page ≡ true) missing
    wanted = subst (λ (l : List Want). Every (λ want. holds wants want.page ≡ true) l) (sym missing_is) (every_filter (λ want. holds wants want.page ≡ true) test wants (every_held wants))

    right_here : (page : ℕ) → right_of page list ≡ all_granted page (after page) missing
    right_here page = granted_right_of pages before after wholly asked held [] missing page (is page) (kept page) stays

    writer : (page : ℕ) → permits (after page) may.Write ≡ allows (wants_of left) page may.Write
    writer page =
        sym (allows_right left (distinct-kept before after held distinct) page may.Write
        ∙ ap (λ (o : Option Right). permits o may.Write) (right_among_kept before after wholly asked page held (is page) (kept page)))

    entry_for : (want : Want) → all_granted want.page (after want.page) (filter test wants) ≡ cond (test want) (Some (raised_right (after want.page) want.right)) (after want.page)
        → option_map want_of (entry_of want.page list) ≡ Some (granted_right (wants_of left) want)
    entry_for want given =
        found_want want.page (cond (allows (wants_of left) want.page may.Write) may.Write want.right) list
        (right_here want.page ∙ ap (all_granted want.page (after want.page)) missing_is ∙ given ∙ right_granted (after want.page) want.right
        ∙ ap (λ (b : Bool). Some (cond b may.Write want.right)) (writer want.page))

    Given : Want → Type 0
    Given want = all_granted want.page (after want.page) (filter test wants) ≡ cond (test want) (Some (raised_right (after want.page) want.right)) (after want.page)

    entries : Every (λ want. option_map want_of (entry_of want.page list) ≡ Some (granted_right (wants_of left) want)) wants
    entries =
        every_both Given Given (λ want. option_map want_of (entry_of want.page list) ≡ Some (granted_right (wants_of left) want)) wants
        (λ want given _. entry_for want given) (granted_each after test wants apart) (granted_each after test wants apart)

    behind : unwanted wants list ≡ unwanted wants left
    behind =
        raised_unwanted (filter_map (kept_as before after) (with_pages pages held missing)) wants missing wanted
        ∙ installed_unwanted pages before after held wants missing wanted

    listed : wants_of (all_fronted list wants) ≡ front ++ rest
    listed =
        ap wants_of (fronted_is list wants apart) ∙ map-append want_of (reverse (entries_for list wants)) (unwanted wants list)
        ∙ ap₂ (λ (a b : List Want). a ++ b)
        (wants_turned (entries_for list wants) ∙ ap reverse (wants_found (granted_right (wants_of left)) list wants entries))
        (ap wants_of behind ∙ wants_unwanted wants left)
