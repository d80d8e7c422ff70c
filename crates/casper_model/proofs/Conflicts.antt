use Rattle.std.proofs.Common.{◌≡◌, ◌≢◌, ◌⊎◌, ◌≤◌, ℕ, List, [], Bool, true, false, cond, not, ◌&&◌, ◌||◌, ◌==◌, length, refl, sym, ap, ◌∙◌, subst, inl, inr, ⊎_elim, true≢false, arith, eqb-true, ne_eqb}
use Rattle.std.specs.Prelude.{Option, None, Some, is_some}
use Rattle.std.specs.Option.{option_or}
use Rattle.std.specs.List.{list_any}
use Rattle.std.proofs.lemmas.Bool.{or_cases, or_left, or_right, and_parts, and_from, cases_Bool, cases_lt, both_ways, not-true, not_from_false, cond-false}
use Rattle.casper_trail.proofs.Rounds.{list_any_implies}
use Rattle.casper_words.specs.Crew.{IsClient, has_member}
use Rattle.casper_words.proofs.CrewLemmas.{has_member_crew_of}
use Rattle.casper_words.specs.declared.page.Right.{Right}
use Rattle.casper_words.specs.declared.page.Right.TheVariants as may
use Rattle.casper_words.specs.declared.page.Want.{Want}
use Rattle.casper_model.specs.declared.reply.Reply.{Reply}
use Rattle.casper_model.specs.declared.reply.Reply.TheVariants.{Pending}
use Rattle.casper_model.specs.Held.{is_of, is_to_write, covers, allows}
use Rattle.casper_model.specs.Stabilisation.{is_empty}
use Rattle.casper_model.specs.Shared.{Shared, client_at, rights_at, of_client}
use Rattle.casper_model.specs.Acquire.{none_missing, refused_in_doubt, refused_frozen, refused_pending, refused_missing, blockers_of, blocks, has_conflict}
use Rattle.casper_model.specs.Opening.{asks_for, any_right}
use Rattle.casper_model.proofs.Places.{client_beyond}
use Rattle.casper_model.proofs.HeldRights.{passes}

-- an alternative that is not there has neither part
pub neither : {X : Type 0} (one other : Option X) → option_or one other ≡ None → (one ≡ None) × (other ≡ None)
neither None other e = (refl, e)
neither (Some x) other e = absurd (true≢false (ap is_some e))

-- the number of a client that holds something is that of a client
pub client_that_holds : (shared : Shared) → length shared.clients ≡ 33 → client_at shared 0 ≡ None → (who page : ℕ) (right : Right)
    → allows (rights_at shared who) page right ≡ true → IsClient who
client_that_holds shared places nobody who page right found =
    ⊎_elim
    (λ below. (⊎_elim (λ zero_is. absurd (holds_not (ap (client_at shared) zero_is ∙ nobody))) (λ positive. positive) (zero_or_more who), omega (arith, below)))
    (λ past. absurd (holds_not (client_beyond shared who (omega (arith, past, places)))))
    (cases_lt who 33)
  where
    holds_not : client_at shared who ≡ None → ⊥
    holds_not none = true≢false (sym found ∙ ap (λ place. allows (of_client [] (λ client. client.rights) place) page right) none)

    zero_or_more : (n : ℕ) → (n ≡ 0) ⊎ (1 ≤ n)
    zero_or_more n = ⊎_elim (λ below. inl (omega (arith, below))) (λ more. inr more) (cases_lt n 1)

-- where another client may write a page, a want of it is in conflict, and so is a want to write where another holds it
pub conflict_with_writer : (rights : List Want) (page : ℕ) (want : Want) → is_of page want ≡ true → allows rights page may.Write ≡ true
    → list_any (λ held. is_of want.page held && (is_to_write want.right || is_to_write held.right)) rights ≡ true
conflict_with_writer rights page want on =
    list_any_implies (passes page may.Write) (λ held. is_of want.page held && (is_to_write want.right || is_to_write held.right))
    (λ held both.
    let parts = and_parts (is_of page held) (covers held.right may.Write) both in
    and_from (is_of want.page held) (is_to_write want.right || is_to_write held.right)
    (subst (λ at. is_of at held ≡ true) (sym (eqb-true want.page page on)) parts.0)
    (or_right (is_to_write want.right) (is_to_write held.right) (⊎_elim (λ is. is) (λ is. absurd (true≢false (sym is))) (or_cases (is_to_write held.right) false parts.1))))
    rights

pub conflict_with_holder : (rights : List Want) (page : ℕ) (want : Want) → is_of page want ≡ true → is_to_write want.right ≡ true → allows rights page may.Read ≡ true
    → list_any (λ held. is_of want.page held && (is_to_write want.right || is_to_write held.right)) rights ≡ true
conflict_with_holder rights page want on writes =
    list_any_implies (passes page may.Read) (λ held. is_of want.page held && (is_to_write want.right || is_to_write held.right))
    (λ held both.
    let parts = and_parts (is_of page held) (covers held.right may.Read) both in
    and_from (is_of want.page held) (is_to_write want.right || is_to_write held.right)
    (subst (λ at. is_of at held ≡ true) (sym (eqb-true want.page page on)) parts.0)
    (or_left (is_to_write want.right) (is_to_write held.right) writes))
    rights

empty_has_none : (members : List ℕ) (who : ℕ) → is_empty members ≡ true → has_member who members ≡ false
empty_has_none members who empty =
    ⊎_elim
    (λ found. absurd (both_ways (list_any (λ member. true) members) (not-true (list_any (λ member. true) members) empty)
    (list_any_implies (λ member. member == who) (λ member. true) (λ member is. refl) members found)))
    (λ none. none)
    (cases_Bool (has_member who members))

-- where nothing is refused for what is missing, no other client stands in the way
pub none_blocks : (shared : Shared) (who : ℕ) (given : List ℕ) (missing : List Want) → refused_missing shared who given missing ≡ None
    → (other : ℕ) → IsClient other → list_any (λ want. blocks shared who given want other) missing ≡ false
none_blocks shared who given missing granted other client = by_missing (none_missing missing) refl
  where
    blocking : Want → Bool
    blocking want = blocks shared who given want other

    blockers : List ℕ
    blockers = blockers_of shared who given missing

    pending_none : (empty : Bool) → cond empty None (Some (Pending blockers)) ≡ None → empty ≡ true
    pending_none true e = refl
    pending_none false e = absurd (true≢false (ap is_some e))

    refused : Option Reply
    refused = option_or (refused_in_doubt shared who missing) (option_or (refused_frozen shared who missing) (refused_pending shared who given missing))

    by_missing : (none : Bool) → none_missing missing ≡ none → list_any (λ want. blocks shared who given want other) missing ≡ false
    by_missing true e =
        ⊎_elim
        (λ found. absurd (both_ways (list_any (λ want. true) missing) (not-true (list_any (λ want. true) missing) e)
        (list_any_implies (λ want. blocks shared who given want other) (λ want. true) (λ want is. refl) missing found)))
        (λ none. none)
        (cases_Bool (list_any (λ want. blocks shared who given want other) missing))
    by_missing false e =
        let all : refused ≡ None = sym (cond-false (none_missing missing) None refused e) ∙ granted in
        let rest = (neither (refused_in_doubt shared who missing) (option_or (refused_frozen shared who missing) (refused_pending shared who given missing)) all).1 in
        let last = (neither (refused_frozen shared who missing) (refused_pending shared who given missing) rest).1 in
        sym (has_member_crew_of (λ one. list_any (λ want. blocks shared who given want one) missing) other client)
        ∙ empty_has_none blockers other (pending_none (is_empty blockers) last)

-- so no other client that holds a wanted page is in conflict with a missing want
pub no_conflict : (shared : Shared) (who : ℕ) (given : List ℕ) (missing : List Want) → refused_missing shared who given missing ≡ None
    → (other : ℕ) → IsClient other → other ≢ who → (test : Want → Bool)
    → ((want : Want) → test want ≡ true
    → list_any (λ held. is_of want.page held && (is_to_write want.right || is_to_write held.right)) (rights_at shared other) ≡ true)
    → list_any test missing ≡ true → ⊥
no_conflict shared who given missing granted other client apart test conflicts found =
    both_ways (list_any (λ want. blocks shared who given want other) missing) (none_blocks shared who given missing granted other client)
    (list_any_implies test (λ want. blocks shared who given want other)
    (λ want is.
    or_left (has_conflict shared who want other) (has_member want.page given && asks_for any_right shared who want.page other)
    (and_from (not (other == who)) (list_any (λ held. is_of want.page held && (is_to_write want.right || is_to_write held.right)) (rights_at shared other))
    (not_from_false (other == who) (ne_eqb other who apart)) (conflicts want is)))
    missing found)
