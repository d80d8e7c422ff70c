use Rattle.std.proofs.Common.{◌≡◌, ℕ, zero, suc, ◌+◌, ◌-◌, ◌<◌, ◌≤◌, ◌∙◌, Bool, true, false, cond, not, ◌&&◌, ◌||◌, nat_eq, eq-eqb, List, [], ◌∷◌, ◌++◌, Option, Some, None, length, take, get_or, refl, sym, ap, subst, ⊎_elim, arith}
use Rattle.std.specs.List.{list_any, range_with_len, Contains}
use Rattle.std.proofs.Math.Bool.{or-false}
use Rattle.std.proofs.lemmas.Bool.{eqb-true, eqb-false, ne_eqb, cases_eq}
use Rattle.std.proofs.lemmas.List.{take_more}
use Rattle.std.proofs.lemmas.List.Folds.{list_any-append}
use Rattle.casper_words.specs.CrewBits.{clients_counted}
use Rattle.casper_words.specs.declared.page.Right.{Right}
use Rattle.casper_words.specs.declared.page.Right.TheVariants as may
use Rattle.casper_words.specs.declared.page.Want.{Want}
use Rattle.casper_dir.specs.Rights.{right_at, AreAllClients, ChangesOneRight}
use Rattle.casper_cache.specs.declared.held.Held.{Held}
use Rattle.casper_cache.specs.Holding.{others, lowered}
use Rattle.casper_cache.specs.Own as cache
use Rattle.casper_model.specs.Held.{is_to_write}
use Rattle.casper_model.specs.Opening.{any_right}
use Rattle.casper_hub.specs.HubView.{PagesView, ClientView, asks_of, place_in}
use Rattle.casper_hub.specs.Asks.{are_for, asks_for, is_asked_for}
use Rattle.casper_hub.specs.Given.{GivesUp, Covers, Meets, met, handed_in, asked_below, right_kept}
use Rattle.casper_hub.proofs.Giving.{gives_itself, gives_again, gives_one, changed_here, changed_elsewhere}

-- asks that are met twice are met together
met_again : (wholly_first asked_first wholly_then asked_then : Bool) (right : Option Right) →
    met wholly_then asked_then (met wholly_first asked_first right) ≡ met (wholly_first || wholly_then) (asked_first || asked_then) right
met_again true asked_first true asked_then None = refl
met_again true asked_first false asked_then None = refl
met_again false asked_first true asked_then None = refl
met_again false asked_first false asked_then None = refl
met_again true asked_first true asked_then (Some right) = refl
met_again true asked_first false asked_then (Some right) = refl
met_again false asked_first true asked_then (Some right) = refl
met_again false true false true (Some right) = refl
met_again false true false false (Some right) = refl
met_again false false false true (Some right) = refl
met_again false false false false (Some right) = refl

-- no ask leaves a right as it is
met_nobody : (right : Option Right) → met false false right ≡ right
met_nobody None = refl
met_nobody (Some right) = refl

-- no asks
pub meets_nobody : (who : ℕ) (wholly asked : ℕ → Bool) (pages : PagesView) (held : List Held) → Covers who pages held →
    ((page : ℕ) → wholly page ≡ false) → ((page : ℕ) → asked page ≡ false) → Meets who wholly asked pages held pages held
meets_nobody who wholly asked pages held covers none_wholly none_asked = record {
  gives = gives_itself who pages held covers;
  rights = λ page.
      sym (ap (λ (b : Bool). met b (asked page) (right_at pages.rights who page)) (none_wholly page)
      ∙ ap (λ (b : Bool). met false b (right_at pages.rights who page)) (none_asked page)
      ∙ met_nobody (right_at pages.rights who page));
}

-- no ask leaves no right where there was none
pub met_none : (wholly asked : Bool) (right : Option Right) → right ≡ None → right ≡ met wholly asked right
met_none true asked None e = refl
met_none false asked None e = refl
met_none wholly asked (Some right) e = cc

-- asks met after others are met together with them
pub meets_again : (who : ℕ) (wholly_first asked_first wholly_then asked_then wholly asked : ℕ → Bool)
    (pages between after : PagesView) (held held_between held_after : List Held) →
    Meets who wholly_first asked_first pages held between held_between → Meets who wholly_then asked_then between held_between after held_after →
    ((page : ℕ) → wholly page ≡ (wholly_first page || wholly_then page)) → ((page : ℕ) → asked page ≡ (asked_first page || asked_then page)) →
    Meets who wholly asked pages held after held_after
meets_again who wholly_first asked_first wholly_then asked_then wholly asked pages between after held held_between held_after first second wholly_is asked_is = record {
  gives = gives_again who pages between after held held_between held_after first.gives second.gives;
  rights = λ page.
      second.rights page ∙ ap (met (wholly_then page) (asked_then page)) (first.rights page)
      ∙ met_again (wholly_first page) (asked_first page) (wholly_then page) (asked_then page) (right_at pages.rights who page)
      ∙ ap (λ (b : Bool). met b (asked_first page || asked_then page) (right_at pages.rights who page)) (sym (wholly_is page))
      ∙ ap (λ (b : Bool). met (wholly page) b (right_at pages.rights who page)) (sym (asked_is page));
}

-- the same asks, said otherwise
pub meets_same : (who : ℕ) (wholly asked wholly_too asked_too : ℕ → Bool) (pages after : PagesView) (held held_after : List Held) →
    Meets who wholly asked pages held after held_after → ((page : ℕ) → wholly_too page ≡ wholly page) → ((page : ℕ) → asked_too page ≡ asked page) →
    Meets who wholly_too asked_too pages held after held_after
meets_same who wholly asked wholly_too asked_too pages after held held_after meets wholly_is asked_is = record {
  gives = meets.gives;
  rights = λ page.
      meets.rights page ∙ ap (λ (b : Bool). met b (asked page) (right_at pages.rights who page)) (sym (wholly_is page))
      ∙ ap (λ (b : Bool). met (wholly_too page) b (right_at pages.rights who page)) (sym (asked_is page));
}

-- one ask at its own page
met_here : (wanted : Right) (right : Option Right) → met ((true && is_to_write wanted) || false) ((true && any_right wanted) || false) right ≡ met (is_to_write wanted) true right
met_here may.Read right = refl
met_here may.Write right = refl

-- one ask at another page
met_there : (wanted : Right) (right : Option Right) → met ((false && is_to_write wanted) || false) ((false && any_right wanted) || false) right ≡ right
met_there wanted right = met_nobody right

-- the right that is left by one ask
met_one : (who : ℕ) (ask : Want) (before after : ℕ → Option Right) → after ask.page ≡ met (is_to_write ask.right) true (before ask.page) →
    ((page : ℕ) → (page ≡ ask.page → ⊥) → after page ≡ before page) →
    (page : ℕ) → after page ≡ met (are_for is_to_write (ask ∷ []) page) (are_for any_right (ask ∷ []) page) (before page)
met_one who ask before after here there page =
    ⊎_elim
    (λ (same : page ≡ ask.page).
    let test : nat_eq ask.page page ≡ true = eq-eqb ask.page page (sym same) in
    ap after same ∙ here ∙ ap (λ (q : ℕ). met (is_to_write ask.right) true (before q)) (sym same)
    ∙ sym (met_here ask.right (before page))
    ∙ ap (λ (b : Bool). met ((b && is_to_write ask.right) || false) ((b && any_right ask.right) || false) (before page)) (sym test))
    (λ (differ : page ≡ ask.page → ⊥).
    let test : nat_eq ask.page page ≡ false = ne_eqb ask.page page (λ e. differ (sym e)) in
    there page differ ∙ sym (met_there ask.right (before page))
    ∙ ap (λ (b : Bool). met ((b && is_to_write ask.right) || false) ((b && any_right ask.right) || false) (before page)) (sym test))
    (cases_eq page ask.page)

-- an ask that leaves the right as it is
pub meets_as_it_is : (who : ℕ) (ask : Want) (pages : PagesView) (held : List Held) → Covers who pages held →
    right_at pages.rights who ask.page ≡ met (is_to_write ask.right) true (right_at pages.rights who ask.page) →
    Meets who (are_for is_to_write (ask ∷ [])) (are_for any_right (ask ∷ [])) pages held pages held
meets_as_it_is who ask pages held covers same = record {
  gives = gives_itself who pages held covers;
  rights = met_one who ask (right_at pages.rights who) (right_at pages.rights who) same (λ page differ. refl);
}

-- an ask to which a page is given up
pub meets_one : (who : ℕ) (ask : Want) (keep : Bool) (right : Right) (pages after : PagesView) (held held_after : List Held) → Covers who pages held →
    right_at pages.rights who ask.page ≡ Some right → (keep ≡ true → right ≡ may.Write) → cond keep (Some may.Read) None ≡ met (is_to_write ask.right) true (Some right) →
    length after.rights ≡ length pages.rights → ChangesOneRight pages.rights after.rights who ask.page (cond keep (Some may.Read) None) → AreAllClients after.rights →
    after.frames ≡ handed_in pages who ask.page held → held_after ≡ cond keep (lowered ask.page held) (others ask.page held) →
    Meets who (are_for is_to_write (ask ∷ [])) (are_for any_right (ask ∷ [])) pages held after held_after
meets_one who ask keep right pages after held held_after covers was writer leaves count changes holders frames held_is = record {
  gives = subst (λ (l : List Held). GivesUp who pages held after l) (sym held_is) (gives_one who ask.page keep right pages after held covers was writer count changes holders frames);
  rights = met_one who ask (right_at pages.rights who) (right_at after.rights who)
      (changed_here pages.rights after.rights who ask.page (cond keep (Some may.Read) None) covers.client changes ∙ leaves ∙ ap (met (is_to_write ask.right) true) (sym was))
      (λ page differ. changed_elsewhere pages.rights after.rights who ask.page (cond keep (Some may.Read) None) changes who page covers.client differ);
}

-- one ask more
pub are_for_more : (test : Right → Bool) (asks : List Want) (place : ℕ) (ask : Want) (page : ℕ) → place < length asks →
    are_for test (take (place + 1) asks) page ≡ (are_for test (take place asks) page || are_for test (get_or asks place ask ∷ []) page)
are_for_more test asks place ask page within =
    ap (λ (l : List Want). are_for test l page) (take_more asks place ask within)
    ∙ list_any-append (λ (a : Want). nat_eq a.page page && test a.right) (take place asks) (get_or asks place ask ∷ [])

-- a number more
range_more : (first count : ℕ) → range_with_len first (suc count) ≡ range_with_len first count ++ (first + count) ∷ []
range_more first zero = let same : first ≡ first + 0 = omega arith in ap (λ (n : ℕ). n ∷ []) same
range_more first (suc count) =
    let same : first + 1 + count ≡ first + suc count = omega arith in
    ap (λ (l : List ℕ). first ∷ l) (range_more (first + 1) count ∙ ap (λ (n : ℕ). range_with_len (first + 1) count ++ n ∷ []) same)

-- the asks of one client more
pub asked_below_more : (number : ℕ) (test : Right → Bool) (places : List (Option ClientView)) (who page : ℕ) → 1 ≤ number →
    asked_below (number + 1) test places who page ≡ (asked_below number test places who page || asks_for test places who page number)
asked_below_more number test places who page least =
    let count : number + 1 - 1 ≡ suc (number - 1) = omega arith in
    let last : 1 + (number - 1) ≡ number = omega arith in
    ap (λ (n : ℕ). list_any (asks_for test places who page) (range_with_len 1 n)) count
    ∙ ap (list_any (asks_for test places who page)) (range_more 1 (number - 1))
    ∙ ap (λ (n : ℕ). list_any (asks_for test places who page) (range_with_len 1 (number - 1) ++ n ∷ [])) last
    ∙ list_any-append (asks_for test places who page) (range_with_len 1 (number - 1)) (number ∷ [])
    ∙ ap (λ (b : Bool). asked_below number test places who page || b) (or-false (asks_for test places who page number))

-- the asks of the client itself are none of the others'
pub asked_below_itself : (number : ℕ) (test : Right → Bool) (places : List (Option ClientView)) (who page : ℕ) → 1 ≤ number → number ≡ who →
    asked_below (number + 1) test places who page ≡ asked_below number test places who page
asked_below_itself number test places who page least same =
    let tested : nat_eq number who ≡ true = eq-eqb number who same in
    asked_below_more number test places who page least
    ∙ ap (λ (b : Bool). asked_below number test places who page || (not b && are_for test (asks_of (place_in places number)) page)) tested
    ∙ or-false (asked_below number test places who page)

-- the asks of another client
pub asked_below_other : (number : ℕ) (test : Right → Bool) (places : List (Option ClientView)) (who page : ℕ) → 1 ≤ number → (number ≡ who → ⊥) →
    asked_below (number + 1) test places who page ≡ (asked_below number test places who page || are_for test (asks_of (place_in places number)) page)
asked_below_other number test places who page least differ =
    let tested : nat_eq number who ≡ false = ne_eqb number who differ in
    asked_below_more number test places who page least
    ∙ ap (λ (b : Bool). asked_below number test places who page || (not b && are_for test (asks_of (place_in places number)) page)) tested

-- the asks of the clients with lesser numbers met, and then those of one more
pub meets_other : (number other : ℕ) (places : List (Option ClientView)) (who : ℕ) (asks : List Want) (differs : Bool)
    (pages between after : PagesView) (held held_between held_after : List Held) → 1 ≤ number → other ≡ number → differs ≡ not (nat_eq other who) → differs ≡ true →
    asks ≡ asks_of (place_in places other) →
    Meets who (asked_below number is_to_write places who) (asked_below number any_right places who) pages held between held_between →
    Meets who (are_for is_to_write asks) (are_for any_right asks) between held_between after held_after →
    Meets who (asked_below (number + 1) is_to_write places who) (asked_below (number + 1) any_right places who) pages held after held_after
meets_other number other places who asks differs pages between after held held_between held_after least same is_differs yes_differs are before one =
    meets_again who (asked_below number is_to_write places who) (asked_below number any_right places who) (are_for is_to_write asks) (are_for any_right asks)
    (asked_below (number + 1) is_to_write places who) (asked_below (number + 1) any_right places who)
    pages between after held held_between held_after before one (more is_to_write) (more any_right)
  where
    not_true : (b : Bool) → not b ≡ true → b ≡ false
    not_true true e = sym e
    not_true false e = refl

    more : (test : Right → Bool) (page : ℕ) → asked_below (number + 1) test places who page ≡ (asked_below number test places who page || are_for test asks page)
    more test page =
        asked_below_other number test places who page least (eqb-false number who (ap (λ (o : ℕ). nat_eq o who) (sym same) ∙ not_true (nat_eq other who) (sym is_differs ∙ yes_differs)))
        ∙ ap (λ (l : List Want). asked_below number test places who page || are_for test l page) (ap (λ (o : ℕ). asks_of (place_in places o)) (sym same) ∙ sym are)

-- and those of the client itself, which do not count
pub meets_itself : (number other : ℕ) (places : List (Option ClientView)) (who : ℕ) (differs : Bool) (pages after : PagesView) (held held_after : List Held) →
    1 ≤ number → other ≡ number → differs ≡ not (nat_eq other who) → differs ≡ false →
    Meets who (asked_below number is_to_write places who) (asked_below number any_right places who) pages held after held_after →
    Meets who (asked_below (number + 1) is_to_write places who) (asked_below (number + 1) any_right places who) pages held after held_after
meets_itself number other places who differs pages after held held_after least same is_differs same_client meets =
    meets_same who (asked_below number is_to_write places who) (asked_below number any_right places who)
    (asked_below (number + 1) is_to_write places who) (asked_below (number + 1) any_right places who) pages after held held_after meets (more is_to_write) (more any_right)
  where
    not_false : (b : Bool) → not b ≡ false → b ≡ true
    not_false true e = refl
    not_false false e = sym e

    more : (test : Right → Bool) (page : ℕ) → asked_below (number + 1) test places who page ≡ asked_below number test places who page
    more test page = asked_below_itself number test places who page least (sym same ∙ eqb-true other who (not_false (nat_eq other who) (sym is_differs ∙ same_client)))

-- the same with the count of all clients as a variable
asked_all_counted : (count : ℕ) (test : Right → Bool) (places : List (Option ClientView)) (who page : ℕ) → count ≡ 32 →
    asked_below (count + 1) test places who page ≡ is_asked_for test places who page
asked_all_counted count test places who page is =
    let same : count + 1 - 1 ≡ count = omega arith in
    ap (λ (n : ℕ). list_any (asks_for test places who page) (range_with_len 1 n)) same
    ∙ ap (list_any (asks_for test places who page)) (sym (clients_counted count is))

-- the asks of all clients with lesser numbers than 33 are those of all
pub asked_all : (test : Right → Bool) (places : List (Option ClientView)) (who page : ℕ) → asked_below 33 test places who page ≡ is_asked_for test places who page
asked_all test places who page = asked_all_counted 32 test places who page refl

-- the right that is left once the asks of all others are met
pub right_after_asks : (who : ℕ) (places : List (Option ClientView)) (pages after : PagesView) (held held_after : List Held) →
    Meets who (asked_below 33 is_to_write places who) (asked_below 33 any_right places who) pages held after held_after →
    (page : ℕ) → right_at after.rights who page ≡ right_kept pages places who page
right_after_asks who places pages after held held_after meets page =
    meets.rights page
    ∙ ap (λ (b : Bool). met b (asked_below 33 any_right places who page) (right_at pages.rights who page)) (asked_all is_to_write places who page)
    ∙ ap (λ (b : Bool). met (is_asked_for is_to_write places who page) b (right_at pages.rights who page)) (asked_all any_right places who page)

-- a cache of which twice but the held pages stay
pub same_but_held : (first second third : cache.Own) → second ≡ record first { held = second.held } → third ≡ record second { held = third.held } →
    third ≡ record first { held = third.held }
same_but_held first second third e f = f ∙ ap (λ (own : cache.Own). record own { held = third.held }) e

-- pages that asks name stay pages of the store
pub asked_after : (who : ℕ) (pages after : PagesView) (held held_after : List Held) (asks : List Want) → GivesUp who pages held after held_after →
    ((ask : Want) → Contains asks ask → ask.page < length pages.rights) → (ask : Want) → Contains asks ask → ask.page < length after.rights
asked_after who pages after held held_after asks gives asked ask is =
    let before : ask.page < length pages.rights = asked ask is in
    let same : length after.rights ≡ length pages.rights = gives.rights_count in
    omega arith

-- the ask at a place is one of the asks
pub ask_at : (asks : List Want) (place : ℕ) (ask : Want) → place < length asks → ask ≡ get_or asks place ask → Contains asks ask
ask_at asks place ask within is = (place, within, sym is)

-- the pages of these asks are within so many, where those of the same asks are
pub asked_of : (count : ℕ) (asks same : List Want) → asks ≡ same → ((ask : Want) → Contains same ask → ask.page < count) → (ask : Want) → Contains asks ask → ask.page < count
asked_of count asks same are asked ask is = asked ask (subst (λ (l : List Want). Contains l ask) are is)

-- the same of pages and a cache that are equal
pub meets_along : (who : ℕ) (wholly asked : ℕ → Bool) (pages after other : PagesView) (held : List Held) (own same : cache.Own) → other ≡ after → same ≡ own →
    Meets who wholly asked pages held after own.held → Meets who wholly asked pages held other same.held
meets_along who wholly asked pages after other held own same e f meets =
    subst (λ (p : PagesView). Meets who wholly asked pages held p same.held) (sym e)
    (subst (λ (o : cache.Own). Meets who wholly asked pages held after o.held) (sym f) meets)

-- the same of a cache that is equal
pub same_but_held_along : (first own same : cache.Own) → same ≡ own → own ≡ record first { held = own.held } → same ≡ record first { held = same.held }
same_but_held_along first own same e f = subst (λ (o : cache.Own). o ≡ record first { held = o.held }) (sym e) f
