use Rattle.std.proofs.Common.{◌≡◌, ◌≢◌, ℕ, zero, suc, ◌+◌, ◌<◌, ◌≤◌, Bool, true, false, cond, ◌||◌, nat_eq, List, [], ◌∷◌, ◌++◌, Option, None, Some, Result, Ok, Err, IsOk, OnOk, is_some, not, length, get_or, set, eq-eqb, refl, sym, ap, ◌∙◌, subst, ⊎_elim, arith}
use Rattle.std.specs.List.{IsDistinct, AllByRecursion}
use Rattle.std.proofs.lemmas.Bool.{ne_eqb, eqb-true, eqb-false, cases_eq, cases_Bool, or_parts, or_cases, true≢false}
use Rattle.std.proofs.lemmas.List.{length_push, length-set, get_or-set_same, get_or-set_other, get_or_default}
use Rattle.std.proofs.lemmas.List.Folds.{list_any-append}
use Rattle.std.proofs.lemmas.Map.Steps.{length-le_from_distinct_below}
use Rattle.casper_words.specs.Roomed.{Roomed}
use Rattle.casper_assoc.specs.Labelling.{is_writer}
use Rattle.casper_assoc.specs.Written.{is_listed, list_at, AreWrittenBy, ForgetsWriters, AreLists, HaveRoom}

-- a place with something in it is one of the list
pub within_some : {X : Type 0} (xs : List (Option X)) (i : ℕ) (x : X) → get_or xs i None ≡ Some x → i < length xs
within_some [] i x e = cc
within_some (y ∷ ys) zero x e = omega arith
within_some (y ∷ ys) (suc i) x e = omega (arith, within_some ys i x e)

pub none_some : {X : Type 0} {P : Type 0} (o : Option X) (x : X) → o ≡ None → o ≡ Some x → P
none_some None x none some = cc
none_some (Some y) x none some = cc

other_way : (one other : ℕ) → nat_eq one other ≡ false → nat_eq other one ≡ false
other_way one other differ = ne_eqb other one (λ same. eqb-false one other differ (sym same))

apart_push : (x page : ℕ) (xs : List ℕ) → AllByRecursion (λ y. nat_eq x y ≡ false) xs → nat_eq x page ≡ false
    → AllByRecursion (λ y. nat_eq x y ≡ false) (xs ++ page ∷ [])
apart_push x page [] all last = (last, tt)
apart_push x page (y ∷ ys) all last = (all.0, apart_push x page ys all.1 last)

-- one page more that is not in the list
pub distinct_push : (pages : List ℕ) (page : ℕ) → IsDistinct nat_eq pages → is_listed page pages ≡ false
    → IsDistinct nat_eq (pages ++ page ∷ [])
unfolding IsDistinct
distinct_push [] page distinct new = (tt, tt)
distinct_push (x ∷ xs) page distinct new =
    let parts = or_parts (nat_eq page x) (is_listed page xs) new in
    (apart_push x page xs distinct.0 (other_way page x parts.0), distinct_push xs page distinct.1 parts.1)

or_false : (b : Bool) → (b || false) ≡ b
or_false true = refl
or_false false = refl

pub listed_push : (pages : List ℕ) (page q : ℕ) → is_listed q (pages ++ page ∷ []) ≡ (is_listed q pages || nat_eq q page)
listed_push pages page q =
    list_any-append (nat_eq q) pages (page ∷ []) ∙ ap (λ b. is_listed q pages || b) (or_false (nat_eq q page))

-- the pages of a client's list are of the store
pub listed_within : (writers : List (Option ℕ)) (lists : List (Roomed ℕ)) (who page : ℕ) → AreLists writers lists → who < 33
    → is_listed page ((list_at lists who).items) ≡ true → page < length writers
listed_within writers lists who page all client listed = within_some writers page who (((all.written who client).exactly page).0 listed)

-- a page without a client is in no list
pub not_listed : (writers : List (Option ℕ)) (who : ℕ) (pages : List ℕ) (page : ℕ) → AreWrittenBy writers who pages
    → get_or writers page None ≡ None
    → is_listed page pages ≡ false
not_listed writers who pages page written none =
    ⊎_elim
    (λ (listed : is_listed page pages ≡ true). none_some (get_or writers page None) who none ((written.exactly page).0 listed))
    (λ (new : is_listed page pages ≡ false). new)
    (cases_Bool (is_listed page pages))

-- each client's list has room for a page without a client
pub room_for : (writers : List (Option ℕ)) (lists : List (Roomed ℕ)) (who page : ℕ) → AreLists writers lists → who < 33
    → page < length writers
    → get_or writers page None ≡ None → 0 < (list_at lists who).room
room_for writers lists who page all client within none =
    let pages = (list_at lists who).items in
    let written = all.written who client in
    let new : is_listed page pages ≡ false = not_listed writers who pages page written none in
    let few : length (pages ++ page ∷ []) ≤ length writers =
    length-le_from_distinct_below (pages ++ page ∷ []) (length writers) (distinct_push pages page written.once new)
    (λ q listed. ⊎_elim
    (λ (before : is_listed q pages ≡ true). listed_within writers lists who q all client before)
    (λ (last : nat_eq q page ≡ true). let same : q ≡ page = eqb-true q page last in omega (arith, same, within))
    (or_cases (is_listed q pages) (nat_eq q page) (sym (listed_push pages page q) ∙ listed))) in
    omega (arith, few, length_push pages page, all.memory who client)

-- a page labelled by one client more, at the end of the client's list
written_push : (writers : List (Option ℕ)) (page who : ℕ) (pages : List ℕ) → page < length writers → get_or writers page None ≡ None
    → AreWrittenBy writers who pages → AreWrittenBy (set writers page (Some who)) who (pages ++ page ∷ [])
written_push writers page who pages within none written = record {
  exactly = λ q. ⊎_elim
      (λ (same : q ≡ page). (
        λ _. ap (λ p. get_or (set writers page (Some who)) p None) same ∙ get_or-set_same writers page (Some who) None within,
        λ _. listed_push pages page q ∙ or_right (is_listed q pages) (nat_eq q page) (eq-eqb q page same),
      ))
      (λ (differ : q ≡ page → ⊥).
      let here : is_listed q (pages ++ page ∷ []) ≡ is_listed q pages = listed_push pages page q
      ∙ ap (λ b. is_listed q pages || b) (ne_eqb q page differ) ∙ or_false (is_listed q pages) in
      let there : get_or (set writers page (Some who)) q None ≡ get_or writers q None =
      get_or-set_other writers page q (Some who) None differ in
      (λ listed. there ∙ (written.exactly q).0 (sym here ∙ listed), λ at. here ∙ (written.exactly q).1 (sym there ∙ at)))
      (cases_eq q page);
  once = distinct_push pages page written.once (not_listed writers who pages page written none);
}
  where
    or_right : (a b : Bool) → b ≡ true → (a || b) ≡ true
    or_right true b e = refl
    or_right false b e = e

-- which is in no other list
written_other : (writers : List (Option ℕ)) (page who other : ℕ) (pages : List ℕ) → page < length writers → get_or writers page None ≡ None
    → other ≢ who
    → AreWrittenBy writers other pages → AreWrittenBy (set writers page (Some who)) other pages
written_other writers page who other pages within none apart written = record {
  exactly = λ q. ⊎_elim
      (λ (same : q ≡ page).
      let now : get_or (set writers page (Some who)) q None ≡ Some who =
      ap (λ p. get_or (set writers page (Some who)) p None) same ∙ get_or-set_same writers page (Some who) None within in (
        λ listed. none_some (get_or writers q None) other (ap (λ p. get_or writers p None) same ∙ none) ((written.exactly q).0 listed),
        λ at. absurd (differ_some other who apart (sym at ∙ now)),
      ))
      (λ (differ : q ≡ page → ⊥).
      let there : get_or (set writers page (Some who)) q None ≡ get_or writers q None =
      get_or-set_other writers page q (Some who) None differ in
      (λ listed. there ∙ (written.exactly q).0 listed, λ at. (written.exactly q).1 (sym there ∙ at)))
      (cases_eq q page);
  once = written.once;
}
  where
    differ_some : (a b : ℕ) → a ≢ b → Some a ≡ Some b → ⊥
    differ_some a b apart e = apart cc

pub lists_labelled : (writers : List (Option ℕ)) (lists : List (Roomed ℕ)) (page place number who : ℕ) (new : Roomed ℕ)
    → AreLists writers lists → number ≡ who
    → place ≡ page → number < 33 → page < length writers → get_or writers page None ≡ None
    → new.items ≡ (list_at lists number).items ++ page ∷ []
    → (list_at lists number).room ≡ new.room + 1 → AreLists (set writers place (Some who)) (set lists number new)
lists_labelled writers lists page place number who new all is here client within none items room =
    subst (λ (p : ℕ). AreLists (set writers p (Some who)) (set lists number new)) (sym here)
    (subst (λ (w : ℕ). AreLists (set writers page (Some w)) (set lists number new)) is now)
  where
    empty : Roomed ℕ
    empty = record { items = []; room = 0 }

    now : AreLists (set writers page (Some number)) (set lists number new)
    now = record {
      places = length-set lists number new ∙ all.places;
      written = λ k is_client. ⊎_elim
          (λ (same : k ≡ number).
          let one : get_or (set lists number new) k empty ≡ new =
          ap (λ p. get_or (set lists number new) p empty) same
          ∙ get_or-set_same lists number new empty (omega (arith, client, all.places)) in
          let listed : (get_or (set lists number new) k empty).items ≡ (list_at lists number).items ++ page ∷ [] =
          ap (λ (r : Roomed ℕ). r.items) one ∙ items in
          subst (λ (w : ℕ). AreWrittenBy (set writers page (Some number)) w ((get_or (set lists number new) k empty).items)) (sym same)
          (subst (λ (l : List ℕ). AreWrittenBy (set writers page (Some number)) number l) (sym listed)
          (written_push writers page number ((list_at lists number).items) within none (all.written number client))))
          (λ (differ : k ≡ number → ⊥).
          let other : get_or (set lists number new) k empty ≡ get_or lists k empty = get_or-set_other lists number k new empty differ in
          subst (λ (r : Roomed ℕ). AreWrittenBy (set writers page (Some number)) k (r.items)) (sym other)
          (written_other writers page number k ((list_at lists k).items) within none differ (all.written k is_client)))
          (cases_eq k number);
      memory = λ k is_client. ⊎_elim
          (λ (same : k ≡ number).
          let one : get_or (set lists number new) k empty ≡ new =
          ap (λ p. get_or (set lists number new) p empty) same
          ∙ get_or-set_same lists number new empty (omega (arith, client, all.places)) in
          subst (λ (r : Roomed ℕ). length (set writers page (Some number)) ≤ length (r.items) + r.room) (sym one)
          (let long : length (new.items) ≡ length ((list_at lists number).items) + 1 = ap (λ (l : List ℕ). length l) items
          ∙ length_push ((list_at lists number).items) page in
          omega (arith, long, room, all.memory number client, length-set writers page (Some number))))
          (λ (differ : k ≡ number → ⊥).
          let other : get_or (set lists number new) k empty ≡ get_or lists k empty = get_or-set_other lists number k new empty differ in
          subst (λ (r : Roomed ℕ). length (set writers page (Some number)) ≤ length (r.items) + r.room) (sym other)
          (omega (arith, all.memory k is_client, length-set writers page (Some number))))
          (cases_eq k number);
    }

-- the pages of a client's list are those that the client labelled
pub listed_is : (writers : List (Option ℕ)) (who : ℕ) (pages : List ℕ) (page : ℕ) → AreWrittenBy writers who pages
    → is_listed page pages ≡ is_writer (λ writer. nat_eq writer who) (get_or writers page None)
listed_is writers who pages page written =
    go (is_listed page pages) (get_or writers page None) ((written.exactly page).0) ((written.exactly page).1)
  where
    go : (b : Bool) (o : Option ℕ) → (b ≡ true → o ≡ Some who) → (o ≡ Some who → b ≡ true) → b ≡ is_writer (λ writer. nat_eq writer who) o
    go true None to from = let e : None ≡ Some who = to refl in cc
    go false None to from = refl
    go true (Some w) to from = let e : Some w ≡ Some who = to refl in let same : w ≡ who = cc in sym (eq-eqb w who same)
    go false (Some w) to from =
        ⊎_elim
        (λ (yes : nat_eq w who ≡ true). absurd (true≢false (sym (from (ap Some (eqb-true w who yes))))))
        (λ (other : nat_eq w who ≡ false). sym other)
        (cases_Bool (nat_eq w who))

-- the pages taken from a list are taken from the client
pub forgets_writers : (writers new : List (Option ℕ)) (number who : ℕ) (pages : List ℕ) → number ≡ who → AreWrittenBy writers number pages
    → ((page : ℕ) → get_or new page None ≡ cond (is_listed page pages) None (get_or writers page None))
    → ForgetsWriters (λ writer. nat_eq writer who) writers new
forgets_writers writers new number who pages is written taken page =
    taken page ∙ ap (λ b. cond b None (get_or writers page None)) (listed_is writers number pages page written
    ∙ ap (λ w. is_writer (λ writer. nat_eq writer w) (get_or writers page None)) is)

-- a client's list without pages, once these have no client
pub lists_released : (writers new : List (Option ℕ)) (lists : List (Roomed ℕ)) (number : ℕ) (list : Roomed ℕ) → AreLists writers lists
    → number < 33
    → length new ≡ length writers → ForgetsWriters (λ writer. nat_eq writer number) writers new → list.items ≡ []
    → length ((list_at lists number).items) + (list_at lists number).room ≤ list.room → AreLists new (set lists number list)
unfolding IsDistinct
lists_released writers new lists number list all client count forgets none room = record {
  places = length-set lists number list ∙ all.places;
  written = λ k is_client. ⊎_elim
      (λ (same : k ≡ number).
      let one : get_or (set lists number list) k empty ≡ list =
      ap (λ p. get_or (set lists number list) p empty) same ∙ get_or-set_same lists number list empty (omega (arith, client, all.places)) in
      subst (λ (l : List ℕ). AreWrittenBy new k l) (sym (ap (λ (r : Roomed ℕ). r.items) one ∙ none))
      (record {
        exactly = λ page. (λ e. cc, λ at. absurd (gone (get_or writers page None) k (eq-eqb k number same) (sym (forgets page) ∙ at)));
        once = tt;
      }))
      (λ (differ : k ≡ number → ⊥).
      let other : get_or (set lists number list) k empty ≡ get_or lists k empty = get_or-set_other lists number k list empty differ in
      let written = all.written k is_client in
      subst (λ (r : Roomed ℕ). AreWrittenBy new k (r.items)) (sym other)
      (record {
        exactly = λ page. (
          λ listed. forgets page ∙ kept (get_or writers page None) k (ne_eqb k number differ) ((written.exactly page).0 listed),
          λ at. (written.exactly page).1 (was (get_or writers page None) k (sym (forgets page) ∙ at)),
        );
        once = written.once;
      }))
      (cases_eq k number);
  memory = λ k is_client. ⊎_elim
      (λ (same : k ≡ number).
      let one : get_or (set lists number list) k empty ≡ list =
      ap (λ p. get_or (set lists number list) p empty) same ∙ get_or-set_same lists number list empty (omega (arith, client, all.places)) in
      subst (λ (r : Roomed ℕ). length new ≤ length (r.items) + r.room) (sym one)
      (omega (arith, count, room, all.memory number client)))
      (λ (differ : k ≡ number → ⊥).
      let other : get_or (set lists number list) k empty ≡ get_or lists k empty = get_or-set_other lists number k list empty differ in
      subst (λ (r : Roomed ℕ). length new ≤ length (r.items) + r.room) (sym other)
      (omega (arith, count, all.memory k is_client)))
      (cases_eq k number);
}
  where
    empty : Roomed ℕ
    empty = record { items = []; room = 0 }

    gone : (o : Option ℕ) (k : ℕ) → nat_eq k number ≡ true → cond (is_writer (λ writer. nat_eq writer number) o) None o ≡ Some k → ⊥
    gone None k same e = cc
    gone (Some w) k same e =
        ⊎_elim
        (λ (yes : nat_eq w number ≡ true). let never : None ≡ Some k = rw yes at e in cc)
        (λ (other : nat_eq w number ≡ false).
        let kept : Some w ≡ Some k = rw other at e in
        let is : w ≡ k = cc in
        true≢false (sym same ∙ ap (λ v. nat_eq v number) (sym is) ∙ other))
        (cases_Bool (nat_eq w number))

    kept : (o : Option ℕ) (k : ℕ) → nat_eq k number ≡ false → o ≡ Some k
        → cond (is_writer (λ writer. nat_eq writer number) o) None o ≡ Some k
    kept o k differ e = subst (λ (p : Option ℕ). cond (is_writer (λ writer. nat_eq writer number) p) None p ≡ Some k) (sym e)
        (rw differ refl)

    was : (o : Option ℕ) (k : ℕ) → cond (is_writer (λ writer. nat_eq writer number) o) None o ≡ Some k → o ≡ Some k
    was None k e = e
    was (Some w) k e =
        ⊎_elim
        (λ (yes : nat_eq w number ≡ true). let never : None ≡ Some k = rw yes at e in cc)
        (λ (other : nat_eq w number ≡ false). let same : Some w ≡ Some k = rw other at e in same)
        (cases_Bool (nat_eq w number))

-- lists with no page are those of pages with no client
pub lists_begin : (pages : ℕ) (writers : List (Option ℕ)) (lists : List (Roomed ℕ)) → length writers ≡ pages
    → ((page : ℕ) → get_or writers page None ≡ None)
    → HaveRoom pages lists → AreLists writers lists
unfolding IsDistinct
lists_begin pages writers lists count none empty = record {
  places = empty.places;
  written = λ k client. subst (λ (l : List ℕ). AreWrittenBy writers k l) (sym (empty.none k client))
      (record { exactly = λ page. (λ e. cc, λ at. none_some (get_or writers page None) k (none page) at); once = tt });
  memory = λ k client. omega (arith, count, empty.room k client);
}

-- what is read of the lists is the list at the place
pub list_read : (writers : List (Option ℕ)) (lists : List (Roomed ℕ)) (number : ℕ) (read : Roomed ℕ) → AreLists writers lists → number < 33
    → read ≡ get_or lists number read → read ≡ list_at lists number
list_read writers lists number read all client is =
    is ∙ get_or_default lists number read (record { items = []; room = 0 }) (omega (arith, client, all.places))

-- a page at a place of a list is listed
pub listed_at : (pages : List ℕ) (i page : ℕ) → i < length pages → page ≡ get_or pages i page → is_listed page pages ≡ true
listed_at [] i page within at = absurd (omega (arith, within))
listed_at (x ∷ xs) zero page within at = ap (λ b. b || is_listed page xs) (eq-eqb page x at)
listed_at (x ∷ xs) (suc i) page within at = or_right (nat_eq page x) (is_listed page xs) (listed_at xs i page (omega (arith, within)) at)
  where
    or_right : (a b : Bool) → b ≡ true → (a || b) ≡ true
    or_right true b e = refl
    or_right false b e = e

-- what holds of a call that answered `Ok`
pub on_ok : {T E : Type 0} (r : Result T E) {P : Type 0} → IsOk r → OnOk r P → P
on_ok (Ok x) is then_ = then_
on_ok (Err e) is then_ = cc

-- a place in which nothing was read
pub none_read : (writers : List (Option ℕ)) (page place : ℕ) (read : Option ℕ) (test : Bool) → place ≡ page
    → read ≡ get_or writers place read
    → page < length writers → is_some read ≡ not test → test ≡ true → get_or writers page None ≡ None
none_read writers page place (Some who) test here is within tested found = let never : true ≡ false = tested ∙ ap not found in cc
none_read writers page place None test here is within tested found = ap (λ p. get_or writers p None) (sym here) ∙ sym is
