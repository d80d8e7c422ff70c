use Rattle.std.proofs.Common.{◌≡◌, ℕ, zero, suc, ◌+◌, ◌<◌, ◌≤◌, Bool, true, false, cond, ◌&&◌, nat_eq, List, [], ◌∷◌, ◌++◌, Option, Some, None, nat_lt, length, set, get_or, slice_get, option_and_then, eq-eqb, refl, sym, ap, ◌∙◌, subst, ⊎_elim, arith}
use Rattle.std.proofs.lemmas.Bool.{ne_eqb, cases_eq, cases_lt}
use Rattle.std.proofs.lemmas.Option.{slice_get_read, slice_get_past}
use Rattle.casper_words.specs.declared.page.Right.{Right}
use Rattle.casper_words.specs.Crew.{IsClient, has_member}
use Rattle.casper_dir.specs.declared.holders.Holders.{Holders}
use Rattle.casper_dir.specs.Holding.{right_in, raised, AreClients}
use Rattle.casper_dir.specs.Rights.{right_at, ChangesOneRight, RevokesRights, AreAllClients}

-- the holders of one page are clients, where those of all are
pub clients_at : (rights : List Holders) (page : ℕ) (holders : Holders) → AreAllClients rights → slice_get rights page ≡ Some holders → AreClients holders
clients_at [] page holders all at = cc
clients_at (x ∷ xs) zero holders all at = let same : x ≡ holders = cc in subst (λ (h : Holders). AreClients h) same all.0
clients_at (x ∷ xs) (suc page) holders all at = clients_at xs page holders all.1 at

-- other holders of one page
pub clients-set : (rights : List Holders) (page : ℕ) (holders : Holders) → AreAllClients rights → AreClients holders → AreAllClients (set rights page holders)
clients-set [] page holders all one = tt
clients-set (x ∷ xs) zero holders all one = (one, all.1)
clients-set (x ∷ xs) (suc page) holders all one = (all.0, clients-set xs page holders all.1 one)

-- the holders of one page more
pub clients-push : (rights : List Holders) (holders : Holders) → AreAllClients rights → AreClients holders → AreAllClients (rights ++ holders ∷ [])
clients-push [] holders all one = (one, tt)
clients-push (x ∷ xs) holders all one = (all.0, clients-push xs holders all.1 one)

-- a page more that nobody holds
pub none-push : (rights : List Holders) (holders : Holders) → ((client page : ℕ) → right_at rights client page ≡ None) →
    ((client : ℕ) → right_in client holders ≡ None) → (client page : ℕ) → right_at (rights ++ holders ∷ []) client page ≡ None
none-push [] holders all one client zero = one client
none-push [] holders all one client (suc page) = refl
none-push (x ∷ xs) holders all one client zero = all client 0
none-push (x ∷ xs) holders all one client (suc page) = none-push xs holders (λ c p. all c (suc p)) one client page

-- a write at a place is read there
pub slice_get-set_same : {X : Type 0} (xs : List X) (i : ℕ) (y : X) → i < length xs → slice_get (set xs i y) i ≡ Some y
slice_get-set_same [] i y within = absurd (omega arith)
slice_get-set_same (x ∷ xs) zero y within = refl
slice_get-set_same (x ∷ xs) (suc i) y within = slice_get-set_same xs i y (omega (arith, within))

-- and nowhere else
pub slice_get-set_other : {X : Type 0} (xs : List X) (i j : ℕ) (y : X) → (j ≡ i → ⊥) → slice_get (set xs i y) j ≡ slice_get xs j
slice_get-set_other [] i j y differ = refl
slice_get-set_other (x ∷ xs) zero zero y differ = absurd (differ refl)
slice_get-set_other (x ∷ xs) zero (suc j) y differ = refl
slice_get-set_other (x ∷ xs) (suc i) zero y differ = refl
slice_get-set_other (x ∷ xs) (suc i) (suc j) y differ = slice_get-set_other xs i j y (λ e. differ (ap suc e))

-- other holders of one page, at which one client's right is another
pub changes_one_right : (rights : List Holders) (page : ℕ) (old new : Holders) (who : ℕ) (right : Option Right) →
    page < length rights → slice_get rights page ≡ Some old →
    ((client : ℕ) → IsClient client → right_in client new ≡ cond (nat_eq client who) right (right_in client old)) →
    ChangesOneRight rights (set rights page new) who page right
changes_one_right rights page old new who right within at changed client q is =
    ⊎_elim
    (λ (same : q ≡ page).
    let test : nat_eq q page ≡ true = eq-eqb q page same in
    let new_here : slice_get (set rights page new) q ≡ Some new =
    ap (λ p. slice_get (set rights page new) p) same ∙ slice_get-set_same rights page new within in
    let old_here : slice_get rights q ≡ Some old = ap (λ p. slice_get rights p) same ∙ at in
    rw (test, new_here, old_here) (changed client is ∙ both (nat_eq client who) right (right_in client old)))
    (λ (differ : q ≡ page → ⊥).
    let test : nat_eq q page ≡ false = ne_eqb q page differ in
    rw (test, slice_get-set_other rights page q new differ) (neither (nat_eq client who) right (right_at rights client q)))
    (cases_eq q page)
  where
    both : (b : Bool) (x y : Option Right) → cond b x y ≡ cond (b && true) x y
    both true x y = refl
    both false x y = refl

    neither : (b : Bool) (x y : Option Right) → y ≡ cond (b && false) x y
    neither true x y = refl
    neither false x y = refl

-- what is read of the holders of a page is what stands there
pub located : (old rights : List Holders) (page place : ℕ) (before : Holders) → rights ≡ old → place ≡ page → page < length old →
    before ≡ get_or rights place before → slice_get old page ≡ Some before
located old rights page place before same here within read =
    let P : ℕ → Type 0 = λ p. before ≡ get_or rights p before in
    let Q : List Holders → Type 0 = λ l. before ≡ get_or l page before in
    slice_get_read old (length old) page before refl within (subst Q same (subst P here read))

-- the holders that are read are clients
pub clients_read : (old rights : List Holders) (page place : ℕ) (before : Holders) → rights ≡ old → place ≡ page → page < length old →
    before ≡ get_or rights place before → AreAllClients rights → AreClients before
clients_read old rights page place before same here within read all =
    clients_at old page before (subst (λ (l : List Holders). AreAllClients l) same all) (located old rights page place before same here within read)

-- the same, once the holders of the page are changed
pub changed_rights : (old rights : List Holders) (page place : ℕ) (before now : Holders) (who : ℕ) (right : Option Right) →
    rights ≡ old → place ≡ page → page < length old → before ≡ get_or rights place before →
    ((client : ℕ) → IsClient client → right_in client now ≡ cond (nat_eq client who) right (right_in client before)) →
    ChangesOneRight old (set rights place now) who page right
changed_rights old rights page place before now who right same here within read changed =
    let P : ℕ → Type 0 = λ p. ChangesOneRight old (set rights p now) who page right in
    let Q : List Holders → Type 0 = λ l. ChangesOneRight old (set l page now) who page right in
    subst P (sym here)
    (subst Q (sym same)
    (changes_one_right old page before now who right within (located old rights page place before same here within read) changed))

-- the same for a grant, whose right goes by the right before
pub granted_rights : (old rights : List Holders) (page place : ℕ) (before now : Holders) (who : ℕ) (right : Right) →
    rights ≡ old → place ≡ page → page < length old → before ≡ get_or rights place before →
    ((client : ℕ) → IsClient client →
    right_in client now ≡ cond (nat_eq client who) (Some (raised (right_in client before) right)) (right_in client before)) →
    ChangesOneRight old (set rights place now) who page (Some (raised (right_at old who page) right))
granted_rights old rights page place before now who right same here within read changed =
    let at : slice_get old page ≡ Some before = located old rights page place before same here within read in
    let P : Option Holders → Type 0 = λ o. ChangesOneRight old (set rights place now) who page (Some (raised (option_and_then (right_in who) o) right)) in
    subst P (sym at)
    (changed_rights old rights page place before now who (Some (raised (right_in who before) right)) same here within read
    (λ client is. changed client is ∙ at_who client))
  where
    at_who : (client : ℕ) →
        cond (nat_eq client who) (Some (raised (right_in client before) right)) (right_in client before) ≡
        cond (nat_eq client who) (Some (raised (right_in who before) right)) (right_in client before)
    at_who client =
        ⊎_elim
        (λ (same : client ≡ who). ap (λ c. cond (nat_eq client who) (Some (raised (right_in c before) right)) (right_in client before)) same)
        (λ (differ : client ≡ who → ⊥). rw (ne_eqb client who differ) refl)
        (cases_eq client who)

-- the pages below a place are released
abbrev pub RevokedBelow : List Holders → List Holders → List ℕ → ℕ → Type 0
RevokedBelow old new members place =
    (client q : ℕ) → IsClient client → right_at new client q ≡ cond (has_member client members && nat_lt q place) None (right_at old client q)

pub revoked_none : (rights : List Holders) (members : List ℕ) → RevokedBelow rights rights members 0
revoked_none rights members client q is =
    let past : nat_lt q 0 ≡ false = grind arith in
    rw past (cases (has_member client members) (right_at rights client q))
  where
    cases : (b : Bool) (x : Option Right) → x ≡ cond (b && false) None x
    cases true x = refl
    cases false x = refl

-- one page more
pub revoked_more : (old new : List Holders) (members : List ℕ) (place : ℕ) (before now : Holders) → place < length new → before ≡ get_or new place before →
    ((client : ℕ) → IsClient client → right_in client now ≡ cond (has_member client members) None (right_in client before)) →
    RevokedBelow old new members place → RevokedBelow old (set new place now) members (place + 1)
revoked_more old new members place before now within read released below client q is =
    ⊎_elim
    (λ (same : q ≡ place).
    let at : slice_get new q ≡ Some before = ap (λ p. slice_get new p) same ∙ slice_get_read new (length new) place before refl within read in
    let new_at : slice_get (set new place now) q ≡ Some now = ap (λ p. slice_get (set new place now) p) same ∙ slice_get-set_same new place now within in
    let not_yet : nat_lt q place ≡ false = grind arith in
    let done : nat_lt q (place + 1) ≡ true = grind arith in
    let was : right_in client before ≡ right_at old client q =
    ap (λ o. option_and_then (right_in client) o) (sym at) ∙ rw not_yet at (below client q is) ∙ kept (has_member client members) (right_at old client q) in
    rw (new_at, done) (released client is ∙ ap (λ x. cond (has_member client members) None x) was ∙ both (has_member client members) (right_at old client q)))
    (λ (differ : q ≡ place → ⊥).
    let alike : nat_lt q (place + 1) ≡ nat_lt q place = grind arith in
    rw (slice_get-set_other new place q now differ, alike) (below client q is))
    (cases_eq q place)
  where
    kept : (b : Bool) (x : Option Right) → cond (b && false) None x ≡ x
    kept true x = refl
    kept false x = refl

    both : (b : Bool) (x : Option Right) → cond b None x ≡ cond (b && true) None x
    both true x = refl
    both false x = refl

-- all pages
pub revoked_all : (old new : List Holders) (members : List ℕ) (place : ℕ) → length old ≤ place → RevokedBelow old new members place → RevokesRights old new members
revoked_all old new members place all below client q is =
    below client q is ∙
    ⊎_elim
    (λ (within : q < place).
    let done : nat_lt q place ≡ true = grind arith in
    rw done (both (has_member client members) (right_at old client q)))
    (λ (past : place ≤ q).
    let none : slice_get old q ≡ None = slice_get_past old q (omega (arith, all, past)) in
    rw none (nothing (has_member client members) (nat_lt q place)))
    (cases_lt q place)
  where
    both : (b : Bool) (x : Option Right) → cond (b && true) None x ≡ cond b None x
    both true x = refl
    both false x = refl

    nothing : (a b : Bool) → cond {A = Option Right} (a && b) None None ≡ cond {A = Option Right} a None None
    nothing true true = refl
    nothing true false = refl
    nothing false b = refl
