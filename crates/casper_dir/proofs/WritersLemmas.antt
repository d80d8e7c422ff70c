use Rattle.std.proofs.Common.{◌≡◌, ℕ, zero, suc, ◌+◌, ◌<◌, ◌≤◌, Bool, true, false, cond, ◌||◌, ◌↔◌, nat_eq, List, [], ◌∷◌, ◌++◌, Some, None, Option, take, length, get_or, refl, sym, ap, ◌∙◌, subst, inl, inr}
use Rattle.std.proofs.Math.Bool.{or-false}
use Rattle.std.proofs.lemmas.Bool.{or_cases, or_left, eqb-true}
use Rattle.std.proofs.lemmas.List.{take_all, take_more}
use Rattle.std.proofs.lemmas.List.Folds.{list_any-append}
use Rattle.casper_words.specs.declared.page.Right.{Right}
use Rattle.casper_words.specs.declared.page.Right.TheVariants.{Read, Write}
use Rattle.casper_words.specs.Crew.{IsClient, has_member, crew_of, IsCrew}
use Rattle.casper_words.proofs.CrewLemmas.{has_member_crew_of, crew_of_same, IsCrew_crew_of, client_from_member}
use Rattle.casper_dir.specs.declared.holders.Holders.{Holders}
use Rattle.casper_dir.specs.declared.holders.Holders.TheVariants.{Readers, Writer}
use Rattle.casper_dir.specs.Holding.{right_in, writes}
use Rattle.casper_dir.specs.Rights.{right_at, AreAllClients, writes_some, writers_in}

-- the writer of one page more
pub writers_more : (pages : List Holders) (place : ℕ) (holders : Holders) (writers : List ℕ) → place < length pages → holders ≡ get_or pages place holders →
    writers ≡ writers_in (take place pages) → crew_of (λ client. has_member client writers || writes (right_in client holders)) ≡ writers_in (take (place + 1) pages)
writers_more pages place holders writers within here so_far =
    crew_of_same (λ client. has_member client writers || writes (right_in client holders)) (writes_some (take (place + 1) pages))
    (λ client is.
    ap (λ (b : Bool). b || writes (right_in client holders)) (ap (has_member client) so_far ∙ has_member_crew_of (writes_some (take place pages)) client is)
    ∙ sym (ap (λ (l : List Holders). writes_some l client) (take_more pages place holders within ∙ ap (λ (h : Holders). take place pages ++ h ∷ []) (sym here))
    ∙ list_any-append (λ (h : Holders). writes (right_in client h)) (take place pages) (holders ∷ [])
    ∙ ap (λ (b : Bool). writes_some (take place pages) client || b) (or-false (writes (right_in client holders)))))

-- a right that writes is the right to write
right_of_writes : (right : Option Right) → writes right ≡ true → right ≡ Some Write
right_of_writes None e = cc
right_of_writes (Some Read) e = cc
right_of_writes (Some Write) e = refl

-- who may write a page is among those that write some page
pub writes_some_at : (rights : List Holders) (client page : ℕ) → right_at rights client page ≡ Some Write → writes_some rights client ≡ true
writes_some_at [] client page e = cc
writes_some_at (x ∷ xs) client zero e = or_left (writes (right_in client x)) (writes_some xs client) (ap writes e)
writes_some_at (x ∷ xs) client (suc page) e =
    ap (λ (b : Bool). writes (right_in client x) || b) (writes_some_at xs client page e) ∙ or_true (writes (right_in client x))
  where
    or_true : (b : Bool) → (b || true) ≡ true
    or_true true = refl
    or_true false = refl

-- who writes some page may write a page
pub page_written : (rights : List Holders) (client : ℕ) → writes_some rights client ≡ true → (page : ℕ) × (right_at rights client page ≡ Some Write)
page_written [] client e = cc
page_written (x ∷ xs) client e =
    elim (or_cases (writes (right_in client x)) (writes_some xs client) e) [
      | inl here ↦ (0, right_of_writes (right_in client x) here)
      | inr behind ↦ let rest = page_written xs client behind in (suc rest.0, rest.1)
    ]

-- who may write a page is a client
writer_is_client : (rights : List Holders) (client page : ℕ) → AreAllClients rights → right_at rights client page ≡ Some Write → IsClient client
writer_is_client [] client page all e = cc
writer_is_client (Readers crew ∷ xs) client zero all e = no_reader (has_member client crew) e
  where
    no_reader : (b : Bool) → cond {A = Option Right} b (Some Read) None ≡ Some Write → IsClient client
    no_reader true e = cc
    no_reader false e = cc
writer_is_client (Writer who ∷ xs) client zero all e = by (nat_eq client who) refl e
  where
    by : (b : Bool) → nat_eq client who ≡ b → cond {A = Option Right} b (Some Write) None ≡ Some Write → IsClient client
    by true same e = subst (λ (w : ℕ). IsClient w) (sym (eqb-true client who same)) all.0
    by false same e = cc
writer_is_client (x ∷ xs) client (suc page) all e = writer_is_client xs client page all.1 e

-- the clients that write are just those that may write some page
pub writers_write : (rights : List Holders) (client : ℕ) → AreAllClients rights →
    (has_member client (writers_in rights) ≡ true) ↔ ((page : ℕ) × (right_at rights client page ≡ Some Write))
writers_write rights client all = (
  λ member.
      let is : IsClient client = client_from_member (writers_in rights) client (IsCrew_crew_of (writes_some rights)) member in
      page_written rights client (sym (has_member_crew_of (writes_some rights) client is) ∙ member),
  λ written.
      has_member_crew_of (writes_some rights) client (writer_is_client rights client written.0 all written.1) ∙ writes_some_at rights client written.0 written.1,
)

-- no page has no writer
pub no_writers : (writers : List ℕ) → IsCrew writers → writers ≡ [] → writers ≡ writers_in []
no_writers writers is empty = is.canonical ∙ ap (λ (l : List ℕ). crew_of (λ who. has_member who l)) empty

-- the writers of all pages
pub writers_all : (pages : List Holders) (place : ℕ) (writers : List ℕ) → length pages ≤ place → writers ≡ writers_in (take place pages) → writers ≡ writers_in pages
writers_all pages place writers all is = is ∙ ap writers_in (take_all place pages all)
