use Rattle.std.proofs.Common.{◌≡◌, ℕ, Bool, true, false, cond, ◌&&◌, ◌||◌, not, nat_eq, List, [], Some, None, eq-eqb, refl, sym, ap, ◌∙◌, subst}
use Rattle.std.proofs.lemmas.Bool.{eqb-true}
use Rattle.casper_words.specs.declared.page.Right.{Right}
use Rattle.casper_words.specs.declared.page.Right.TheVariants.{Read, Write}
use Rattle.casper_words.specs.Crew.{has_member, crew_of, IsClient}
use Rattle.casper_words.proofs.CrewLemmas.{has_member_crew_of}
use Rattle.casper_dir.specs.declared.holders.Holders.{Holders}
use Rattle.casper_dir.specs.declared.holders.Holders.TheVariants.{Readers, Writer}
use Rattle.casper_dir.specs.Holding.{right_in, writer_in, is_in_conflict, raised}

-- a test that makes an empty crew fails at every client
pub fails_at : (test : ℕ → Bool) → crew_of test ≡ [] → (client : ℕ) → IsClient client → test client ≡ false
fails_at test none client is = sym (has_member_crew_of test client is) ∙ ap (has_member client) none

-- what a crew made by a test holds for reading
pub right_in-crew_of : (test : ℕ → Bool) (crew : List ℕ) → crew ≡ crew_of test → (client : ℕ) → IsClient client →
    right_in client (Readers crew) ≡ cond (test client) (Some Read) None
right_in-crew_of test crew made client is =
    ap (λ b. cond b (Some Read) None) (ap (has_member client) made ∙ has_member_crew_of test client is)

-- a reader more
pub granted_read : (members crew : List ℕ) (who : ℕ) → crew ≡ crew_of (λ client. has_member client members || nat_eq client who) →
    (client : ℕ) → IsClient client →
    right_in client (Readers crew) ≡
    cond (nat_eq client who) (Some (raised (right_in client (Readers members)) Read)) (right_in client (Readers members))
granted_read members crew who made client is =
    right_in-crew_of (λ c. has_member c members || nat_eq c who) crew made client is ∙ cases (has_member client members) (nat_eq client who)
  where
    cases : (held same : Bool) → cond (held || same) (Some Read) None ≡ cond same (Some (raised (cond held (Some Read) None) Read)) (cond held (Some Read) None)
    cases true true = refl
    cases true false = refl
    cases false true = refl
    cases false false = refl

-- the one reader becomes the writer
pub granted_write : (members : List ℕ) (who : ℕ) →
    crew_of (λ client. not (nat_eq client who) && is_in_conflict Write (right_in client (Readers members))) ≡ [] →
    (client : ℕ) → IsClient client →
    right_in client (Writer who) ≡
    cond (nat_eq client who) (Some (raised (right_in client (Readers members)) Write)) (right_in client (Readers members))
granted_write members who free client is =
    cases (has_member client members) (nat_eq client who)
    (fails_at (λ c. not (nat_eq c who) && is_in_conflict Write (right_in c (Readers members))) free client is)
  where
    cases : (held same : Bool) → (not same && is_in_conflict Write (cond held (Some Read) None)) ≡ false →
        cond same (Some Write) None ≡ cond same (Some (raised (cond held (Some Read) None) Write)) (cond held (Some Read) None)
    cases true true e = refl
    cases false true e = refl
    cases true false e = cc
    cases false false e = refl

-- a writer other than the client is in conflict with each want
pub same_writer : (writer who : ℕ) (want : Right) → IsClient writer →
    crew_of (λ client. not (nat_eq client who) && is_in_conflict want (right_in client (Writer writer))) ≡ [] → writer ≡ who
same_writer writer who want is free =
    let self : nat_eq writer writer ≡ true = eq-eqb writer writer refl in
    let fails : (not (nat_eq writer who) && is_in_conflict want (cond (nat_eq writer writer) (Some Write) None)) ≡ false =
    fails_at (λ c. not (nat_eq c who) && is_in_conflict want (right_in c (Writer writer))) free writer is in
    eqb-true writer who (cases want (nat_eq writer who) (rw self at fails))
  where
    cases : (want : Right) (same : Bool) → (not same && is_in_conflict want (Some Write)) ≡ false → same ≡ true
    cases want true e = refl
    cases Read false e = cc
    cases Write false e = cc

-- the writer stays the writer
pub granted_writer : (writer who : ℕ) (right : Right) → writer ≡ who → (client : ℕ) →
    right_in client (Writer who) ≡ cond (nat_eq client who) (Some (raised (right_in client (Writer writer)) right)) (right_in client (Writer writer))
granted_writer writer who right same client =
    subst (λ w. right_in client (Writer who) ≡ cond (nat_eq client who) (Some (raised (right_in client (Writer w)) right)) (right_in client (Writer w)))
    (sym same) (cases (nat_eq client who))
  where
    cases : (b : Bool) → cond b (Some Write) None ≡ cond b (Some (raised (cond b (Some Write) None) right)) (cond b (Some Write) None)
    cases true = refl
    cases false = refl

-- a reader less
pub released_reader : (members crew : List ℕ) (who : ℕ) → crew ≡ crew_of (λ client. has_member client members && not (nat_eq client who)) →
    (client : ℕ) → IsClient client →
    right_in client (Readers crew) ≡ cond (nat_eq client who) None (right_in client (Readers members))
released_reader members crew who made client is =
    right_in-crew_of (λ c. has_member c members && not (nat_eq c who)) crew made client is ∙ cases (has_member client members) (nat_eq client who)
  where
    cases : (held same : Bool) → cond (held && not same) (Some Read) None ≡ cond same None (cond held (Some Read) None)
    cases true true = refl
    cases true false = refl
    cases false true = refl
    cases false false = refl

-- the readers without these clients
pub readers_without : (crew members rest : List ℕ) → rest ≡ crew_of (λ client. has_member client crew && not (has_member client members)) →
    (client : ℕ) → IsClient client →
    right_in client (Readers rest) ≡ cond (has_member client members) None (right_in client (Readers crew))
readers_without crew members rest made client is =
    right_in-crew_of (λ c. has_member c crew && not (has_member c members)) rest made client is ∙ cases (has_member client crew) (has_member client members)
  where
    cases : (held gone : Bool) → cond (held && not gone) (Some Read) None ≡ cond gone None (cond held (Some Read) None)
    cases true true = refl
    cases true false = refl
    cases false true = refl
    cases false false = refl

-- the writer as the one reader
pub lowered_writer : (crew : List ℕ) (who : ℕ) → crew ≡ crew_of (λ client. has_member client [] || nat_eq client who) →
    (client : ℕ) → IsClient client →
    right_in client (Readers crew) ≡ cond (nat_eq client who) (Some Read) (right_in client (Writer who))
lowered_writer crew who made client is =
    right_in-crew_of (λ c. has_member c [] || nat_eq c who) crew made client is ∙ cases (nat_eq client who)
  where
    cases : (same : Bool) → cond (false || same) (Some Read) None ≡ cond same (Some Read) (cond same (Some Write) None)
    cases true = refl
    cases false = refl

-- the writer, by what is known of the holders
pub lowered_holders : (before : Holders) (none crew : List ℕ) (who : ℕ) → writer_in before ≡ Some who → none ≡ [] →
    crew ≡ crew_of (λ client. has_member client none || nat_eq client who) →
    (client : ℕ) → IsClient client →
    right_in client (Readers crew) ≡ cond (nat_eq client who) (Some Read) (right_in client before)
lowered_holders (Readers members) none crew who writer empty made client is = cc
lowered_holders (Writer writer) none crew who is_writer empty made client is =
    let same : writer ≡ who = cc in
    let P : List ℕ → Type 0 = λ l. crew ≡ crew_of (λ c. has_member c l || nat_eq c who) in
    let Q : ℕ → Type 0 = λ w. right_in client (Readers crew) ≡ cond (nat_eq client who) (Some Read) (right_in client (Writer w)) in
    subst Q (sym same) (lowered_writer crew who (subst P empty made) client is)
