use Rattle.std.proofs.Common.{◌≡◌, ℕ, Bool, true, false, nat_eq, eq-eqb, List, Option, Some, None, refl, sym, ap, ◌∙◌}
use Rattle.std.specs.Option.{option_eq}
use Rattle.casper_words.specs.declared.page.Right.{Right}
use Rattle.casper_words.specs.declared.page.Right.TheVariants.{Read, Write}
use Rattle.casper_words.specs.Crew.{IsClient, has_member}
use Rattle.casper_words.proofs.CrewLemmas.{has_member_crew_of}
use Rattle.casper_dir.specs.declared.holders.Holders.{Holders}
use Rattle.casper_dir.specs.Holding.{reads}
use Rattle.casper_dir.specs.Rights.{right_at, writer_at, readers_at}
use Rattle.casper_dir.proofs.EqualRights.{writer_holds_to_write}

-- the test of a reader says whether a client has the right to read
reader_test : (rights : List Holders) (page who : ℕ) (readers : List ℕ) (found : Bool) → IsClient who → readers ≡ readers_at rights page →
    has_member who readers ≡ found → reads (right_at rights who page) ≡ found
reader_test rights page who readers found client are member =
    sym (has_member_crew_of (λ other. reads (right_at rights other page)) who client) ∙ ap (has_member who) (sym are) ∙ member

-- a reader has the right to read
pub right_of_reader : (rights : List Holders) (page who : ℕ) (readers : List ℕ) → IsClient who → readers ≡ readers_at rights page →
    has_member who readers ≡ true → Some Read ≡ right_at rights who page
right_of_reader rights page who readers client are member = read_right (right_at rights who page) (reader_test rights page who readers true client are member)
  where
    read_right : (o : Option Right) → reads o ≡ true → Some Read ≡ o
    read_right None e = cc
    read_right (Some Read) e = refl
    read_right (Some Write) e = cc

-- who neither reads nor writes a page has no right to it
pub right_of_nobody : (rights : List Holders) (page who : ℕ) (readers : List ℕ) (writer : Option ℕ) → IsClient who → readers ≡ readers_at rights page →
    has_member who readers ≡ false → writer ≡ writer_at rights page → option_eq nat_eq writer (Some who) ≡ false → None ≡ right_at rights who page
right_of_nobody rights page who readers writer client are member is other =
    no_right (right_at rights who page) (reader_test rights page who readers false client are member)
    (λ writes.
    let found : writer ≡ Some who = is ∙ (writer_holds_to_write rights page who).1 writes in
    let tested : option_eq nat_eq (Some who) (Some who) ≡ true = eq-eqb who who refl in
    let same : option_eq nat_eq writer (Some who) ≡ option_eq nat_eq (Some who) (Some who) = ap (λ (o : Option ℕ). option_eq nat_eq o (Some who)) found in
    cc)
  where
    no_right : (o : Option Right) → reads o ≡ false → (o ≡ Some Write → ⊥) → None ≡ o
    no_right None e never = refl
    no_right (Some Read) e never = cc
    no_right (Some Write) e never = absurd (never refl)
