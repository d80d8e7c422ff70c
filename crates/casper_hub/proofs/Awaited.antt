use Rattle.std.proofs.Common.{◌≡◌, ℕ, ◌∙◌, Bool, true, false, ◌&&◌, ◌||◌, not, eq-eqb, List, [], ◌∷◌, Option, Some, None, refl, sym, ap, inl, inr}
use Rattle.std.specs.List.{list_any}
use Rattle.std.proofs.Math.Bool.{or-false}
use Rattle.std.proofs.lemmas.Bool.{or_cases, or_left, and_parts}
use Rattle.casper_words.specs.Crew.{has_member, crew_of}
use Rattle.casper_words.specs.declared.page.Right.{Right}
use Rattle.casper_words.specs.declared.page.Right.TheVariants as may
use Rattle.casper_words.specs.declared.page.Want.{Want}
use Rattle.casper_words.proofs.CrewLemmas.{has_member_crew_of, crew_of_same}
use Rattle.casper_dir.specs.Rights.{writes_some}
use Rattle.casper_dir.proofs.WritersLemmas.{page_written, writes_some_at}
use Rattle.casper_model.specs.Held.{is_to_write, is_of, covers, allows}
use Rattle.casper_model.specs.Shared.{Shared, rights_at}
use Rattle.casper_model.specs.Stabilise.{has_write_right, writers_among}
use Rattle.casper_hub.specs.HubView.{HubView, right_in}
use Rattle.casper_hub.specs.Shows.{Shows, permits}

-- tests that pass together are equal
same_test : (a b : Bool) → (a ≡ true → b ≡ true) → (b ≡ true → a ≡ true) → a ≡ b
same_test true b f g = sym (f refl)
same_test false true f g = g refl
same_test false false f g = refl

or_true : (b : Bool) → (b || true) ≡ true
or_true true = refl
or_true false = refl

-- a list with a want to write allows a page to be written
page_allowed : (held : List Want) → list_any (λ (want : Want). is_to_write want.right) held ≡ true → (page : ℕ) × (allows held page may.Write ≡ true)
page_allowed [] e = cc
page_allowed (x ∷ xs) e =
    elim (or_cases (is_to_write x.right) (list_any (λ (want : Want). is_to_write want.right) xs) e) [
      | inl here ↦ (
        x.page,
        ap (λ (b : Bool). (b && (is_to_write x.right || false)) || allows xs x.page may.Write) (eq-eqb x.page x.page refl)
            ∙ ap (λ (b : Bool). (b || false) || allows xs x.page may.Write) here,
      )
      | inr behind ↦
          let rest = page_allowed xs behind in
          (rest.0, ap (λ (b : Bool). (is_of rest.0 x && covers x.right may.Write) || b) rest.1 ∙ or_true (is_of rest.0 x && covers x.right may.Write))
    ]

-- and one that allows a page to be written has a want to write
allowed_to_write : (held : List Want) (page : ℕ) → allows held page may.Write ≡ true → list_any (λ (want : Want). is_to_write want.right) held ≡ true
allowed_to_write [] page e = cc
allowed_to_write (x ∷ xs) page e =
    elim (or_cases (is_of page x && covers x.right may.Write) (allows xs page may.Write) e) [
      | inl here ↦
          let writes : is_to_write x.right ≡ true = sym (or-false (is_to_write x.right)) ∙ (and_parts (is_of page x) (covers x.right may.Write) here).1 in
          or_left (is_to_write x.right) (list_any (λ (want : Want). is_to_write want.right) xs) writes
      | inr behind ↦
          ap (λ (b : Bool). is_to_write x.right || b) (allowed_to_write xs page behind) ∙ or_true (is_to_write x.right)
    ]

-- only the right to write permits to write
permits_writing : (right : Option Right) → permits right may.Write ≡ true → right ≡ Some may.Write
permits_writing None e = cc
permits_writing (Some may.Read) e = cc
permits_writing (Some may.Write) e = refl

-- a client of the machine may write some page just where that of the hub does
pub write_right_shown : (shared : Shared) (hub : HubView) → Shows shared hub → (who : ℕ) → has_write_right shared who ≡ writes_some hub.pages.rights who
write_right_shown shared hub shows who =
    same_test (has_write_right shared who) (writes_some hub.pages.rights who)
    (λ held.
    let allowed = page_allowed (rights_at shared who) held in
    let right : right_in hub who allowed.0 ≡ Some may.Write = permits_writing (right_in hub who allowed.0) (sym (shows.rights who allowed.0 may.Write) ∙ allowed.1) in
    writes_some_at hub.pages.rights who allowed.0 right)
    (λ written.
    let page = page_written hub.pages.rights who written in
    allowed_to_write (rights_at shared who) page.0 (shows.rights who page.0 may.Write ∙ ap (λ (o : Option Right). permits o may.Write) page.1))

-- the members that the machine awaits are those that hold a page for writing
pub writers_shown : (shared : Shared) (hub : HubView) (members : List ℕ) → Shows shared hub → writers_among shared members ≡ crew_of (λ member. has_member member members && writes_some hub.pages.rights member)
writers_shown shared hub members shows =
    crew_of_same (λ member. has_member member members && has_write_right shared member) (λ member. has_member member members && writes_some hub.pages.rights member)
    (λ member _. ap (λ (b : Bool). has_member member members && b) (write_right_shown shared hub shows member))

-- the members of a crew but for those that are not in another are the members of both
pub members_of_both : (members others : List ℕ) (test : ℕ → Bool) → others ≡ crew_of test →
    crew_of (λ client. has_member client members && not (has_member client (crew_of (λ other. has_member other members && not (has_member other others)))))
    ≡ crew_of (λ client. has_member client members && test client)
members_of_both members others test are =
    crew_of_same (λ client. has_member client members && not (has_member client (crew_of (λ other. has_member other members && not (has_member other others)))))
    (λ client. has_member client members && test client)
    (λ client is.
    ap (λ (b : Bool). has_member client members && not b) (has_member_crew_of (λ other. has_member other members && not (has_member other others)) client is)
    ∙ twice (has_member client members) (has_member client others)
    ∙ ap (λ (b : Bool). has_member client members && b) (ap (has_member client) are ∙ has_member_crew_of test client is))
  where
    twice : (a b : Bool) → (a && not (a && not b)) ≡ (a && b)
    twice true true = refl
    twice true false = refl
    twice false b = refl
