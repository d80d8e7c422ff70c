use Rattle.std.proofs.Common.{◌≡◌, ◌≢◌, ◌⊎◌, ℕ, List, true, false, length, sym, ap, ◌∙◌, inl, inr, ⊎_elim, true≢false}
use Rattle.std.specs.Prelude.{None}
use Rattle.std.specs.List.{list_any}
use Rattle.std.proofs.lemmas.Bool.{cases_eq, and_parts, or_cases}
use Rattle.casper_words.specs.declared.page.Right.{Right}
use Rattle.casper_words.specs.declared.page.Right.TheVariants as may
use Rattle.casper_words.specs.declared.page.Want.{Want}
use Rattle.casper_model.specs.Acquire.{refused_missing}
use Rattle.casper_model.specs.Held.{is_of, is_to_write, covers, allows, missing_of, with_granted}
use Rattle.casper_model.specs.Rights.{OneWriterOrReaders, AllowTheSame}
use Rattle.casper_model.specs.Shared.{Shared, client_at, rights_at}
use Rattle.casper_model.proofs.Conflicts.{client_that_holds, conflict_with_writer, conflict_with_holder, no_conflict}
use Rattle.casper_model.proofs.GrantedRights.{granted_allow}
use Rattle.casper_model.proofs.HeldRights.{passes}

-- a client may do what it held, and more by wants that stand in conflict with nobody: then each page still has one writer or many
-- readers
pub exclusive_by_grant : (before after : Shared) (who capacity : ℕ) (held wants : List Want) (given : List ℕ)
    → length before.clients ≡ 33 → client_at before 0 ≡ None → OneWriterOrReaders before
    → AllowTheSame (rights_at before who) held → rights_at after who ≡ with_granted capacity wants held
    → ((number : ℕ) → number ≢ who → rights_at after number ≡ rights_at before number)
    → refused_missing before who given (missing_of held wants) ≡ None
    → OneWriterOrReaders after
exclusive_by_grant before after who capacity held wants given places nobody exclusive mine now others unrefused one other page writes holds =
    by_cases (cases_eq one who) (cases_eq other who)
  where
    missing : List Want
    missing = missing_of held wants

    of_others : (number : ℕ) (right : Right) → number ≢ who → allows (rights_at after number) page right ≡ true → allows (rights_at before number) page right ≡ true
    of_others number right apart found = sym (ap (λ rights. allows rights page right) (others number apart)) ∙ found

    of_mine : (number : ℕ) (right : Right) → number ≡ who → allows (rights_at after number) page right ≡ true
        → (allows (rights_at before number) page right ≡ true) ⊎ (list_any (passes page right) missing ≡ true)
    of_mine number right same found =
        ⊎_elim (λ had. inl (ap (λ at. allows (rights_at before at) page right) same ∙ mine page right ∙ had)) inr
        (granted_allow capacity wants held page right (sym (ap (λ rights. allows rights page right) (ap (rights_at after) same ∙ now)) ∙ found))

    wanted_to_write : (number : ℕ) → number ≢ who → allows (rights_at before number) page may.Read ≡ true → list_any (passes page may.Write) missing ≡ true → ⊥
    wanted_to_write number apart had =
        no_conflict before who given missing unrefused number (client_that_holds before places nobody number page may.Read had) apart (passes page may.Write)
        (λ want is.
        let parts = and_parts (is_of page want) (covers want.right may.Write) is in
        conflict_with_holder (rights_at before number) page want parts.0
        (⊎_elim (λ to_write. to_write) (λ never. absurd (true≢false (sym never))) (or_cases (is_to_write want.right) false parts.1)) had)

    wanted_to_read : (number : ℕ) → number ≢ who → allows (rights_at before number) page may.Write ≡ true → list_any (passes page may.Read) missing ≡ true → ⊥
    wanted_to_read number apart had =
        no_conflict before who given missing unrefused number (client_that_holds before places nobody number page may.Write had) apart (passes page may.Read)
        (λ want is. conflict_with_writer (rights_at before number) page want (and_parts (is_of page want) (covers want.right may.Read) is).0 had)

    by_cases : (one ≡ who) ⊎ (one ≢ who) → (other ≡ who) ⊎ (other ≢ who) → one ≡ other
    by_cases (inl same) (inl also) = same ∙ sym also
    by_cases (inl same) (inr apart) =
        let held_before = of_others other may.Read apart holds in
        ⊎_elim (λ had. exclusive one other page had held_before) (λ wanted. absurd (wanted_to_write other apart held_before wanted)) (of_mine one may.Write same writes)
    by_cases (inr apart) (inl same) =
        let wrote_before = of_others one may.Write apart writes in
        ⊎_elim (λ had. exclusive one other page wrote_before had) (λ wanted. absurd (wanted_to_read one apart wrote_before wanted)) (of_mine other may.Read same holds)
    by_cases (inr apart) (inr away) = exclusive one other page (of_others one may.Write apart writes) (of_others other may.Read away holds)
