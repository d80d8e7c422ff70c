use Rattle.std.proofs.Common.{◌≡◌, ℕ, zero, suc, Bool, true, false, cond, nat_eq, [], ◌∷◌, Option, Some, None, eq-eqb, ◌↔◌, refl, sym, ap, ◌∙◌, subst, arith}
use Rattle.std.proofs.lemmas.Bool.{eqb-true}
use Rattle.casper_words.specs.declared.page.Right.{Right}
use Rattle.casper_words.specs.declared.page.Right.TheVariants.{Read, Write}
use Rattle.casper_words.specs.Crew.{has_member, IsClient}
use Rattle.casper_words.proofs.CrewLemmas.{same_crew}
use Rattle.casper_dir.specs.declared.holders.Holders.{Holders}
use Rattle.casper_dir.specs.declared.holders.Holders.TheVariants.{Readers, Writer}
use Rattle.casper_dir.specs.Holding.{right_in, writer_in, AreClients}
use Rattle.casper_dir.specs.Rights.{WriterHoldsToWrite, SameRightsAreEqual}

-- rights that are equal come of equal tests
same_test : (a b : Bool) → cond {A = Option Right} a (Some Read) None ≡ cond b (Some Read) None → a ≡ b
same_test true true e = refl
same_test true false e = cc
same_test false true e = cc
same_test false false e = refl

-- a reader is no writer
no_writer : {P : Type 0} (a : Bool) → cond {A = Option Right} a (Some Read) None ≡ Some Write → P
no_writer true e = cc
no_writer false e = cc

-- who writes passes the test
writes : (a : Bool) → cond {A = Option Right} a (Some Write) None ≡ Some Write → a ≡ true
writes true e = refl
writes false e = cc

-- the writer has the right to write
writer_writes : (who : ℕ) → right_in who (Writer who) ≡ Some Write
writer_writes who = ap (λ b. cond b (Some Write) None) (eq-eqb who who refl)

-- holders that give every client the same right are equal
equal_holders : (x y : Holders) → AreClients x → AreClients y → ((client : ℕ) → IsClient client → right_in client x ≡ right_in client y) → x ≡ y
equal_holders (Readers a) (Readers b) p q same =
    ap (λ crew. Readers crew) (same_crew a b p q (λ client is. same_test (has_member client a) (has_member client b) (same client is)))
equal_holders (Readers a) (Writer who) p q same = no_writer (has_member who a) (same who q ∙ writer_writes who)
equal_holders (Writer who) (Readers b) p q same = no_writer (has_member who b) (sym (same who p) ∙ writer_writes who)
equal_holders (Writer who) (Writer other) p q same =
    ap (λ w. Writer w) (eqb-true who other (writes (nat_eq who other) (sym (same who p) ∙ writer_writes who)))

pub same_rights_are_equal : SameRightsAreEqual
same_rights_are_equal [] [] p q long same = refl
same_rights_are_equal [] (y ∷ ys) p q long same = absurd (omega (arith, long))
same_rights_are_equal (x ∷ xs) [] p q long same = absurd (omega (arith, long))
same_rights_are_equal (x ∷ xs) (y ∷ ys) p q long same =
    let first : x ≡ y = equal_holders x y p.0 q.0 (λ client is. same client 0 is) in
    let rest : xs ≡ ys = same_rights_are_equal xs ys p.1 q.1 (omega (arith, long)) (λ client page is. same client (suc page) is) in
    cc

-- the same of one page
writer_holds : (holders : Holders) (who : ℕ) → (writer_in holders ≡ Some who) ↔ (right_in who holders ≡ Some Write)
writer_holds (Readers crew) who = (λ e. cc, λ e. no_writer (has_member who crew) e)
writer_holds (Writer writer) who = (
  λ e. let same : writer ≡ who = cc in subst (λ w. right_in who (Writer w) ≡ Some Write) (sym same) (writer_writes who),
  λ e. ap (λ w. Some w) (sym (eqb-true who writer (writes (nat_eq who writer) e))),
)

pub writer_holds_to_write : WriterHoldsToWrite
writer_holds_to_write [] page who = (λ e. cc, λ e. cc)
writer_holds_to_write (x ∷ xs) zero who = writer_holds x who
writer_holds_to_write (x ∷ xs) (suc page) who = writer_holds_to_write xs page who
