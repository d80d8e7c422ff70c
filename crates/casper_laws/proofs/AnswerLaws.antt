use Rattle.std.proofs.Common.{◌≡◌, ◌≤◌, ◌+◌, ◌-◌, ℕ, List, [], ◌∷◌, Bool, true, false, not, length, map, reverse, take, filter, get_or, get_or-set_same, Contains, refl, sym, ap, ◌∙◌, subst, ⊎_elim, arith, true≢false}
use Rattle.std.specs.Prelude.{Option, None, Some, nat_lt}
use Rattle.std.specs.List.{list_any}
use Rattle.std.specs.Option.{option_or}
use Rattle.std.proofs.lemmas.Bool.{and_from, cond_both, eq-eqb, ltb-false, or_cases, or_left, or_right}
use Rattle.std.proofs.lemmas.List.{reverse-append}
use Rattle.std.proofs.lemmas.List.Folds.{list_any-append}
use Rattle.casper_words.specs.declared.page.Right.{Right}
use Rattle.casper_words.specs.declared.page.Right.TheVariants as may
use Rattle.casper_words.specs.declared.page.Want.{Want}
use Rattle.casper_trail.specs.TrailView.{entry_count}
use Rattle.casper_space.specs.declared.answer.Answer.{Answer}
use Rattle.casper_space.specs.declared.answer.Answer.TheVariants as answer
use Rattle.casper_model.specs.declared.reply.Reply.{Reply}
use Rattle.casper_model.specs.declared.reply.Reply.TheVariants as reply
use Rattle.casper_model.specs.Acquire.{acquire, acquired_by, answered, missing_once_opened, refused_missing, refused_full}
use Rattle.casper_model.specs.Answers.{of_reply}
use Rattle.casper_model.specs.Both.{Both}
use Rattle.casper_model.specs.Client.{Fallen}
use Rattle.casper_model.specs.Held.{is_of, covers, holds, allows, granted_right, with_granted}
use Rattle.casper_model.specs.Opening.{opened, given_in_opening}
use Rattle.casper_model.specs.Own.{Own, blank}
use Rattle.casper_model.specs.Rights.{InOrder}
use Rattle.casper_model.specs.Run.{state_after}
use Rattle.casper_model.specs.Shared.{Shared, fallen_at}
use Rattle.casper_model.specs.State.{State, own_at, after_turn, start}
use Rattle.casper_model.proofs.Conflicts.{neither}
use Rattle.casper_model.proofs.HeldRights.{passes}
use Rattle.casper_model.proofs.RunRights.{every_run_rights}
use Rattle.casper_model.proofs.StateHistory.{in_owns}
use Rattle.casper_model.proofs.TurnHistory.{pending_opened}
use Rattle.casper_laws.specs.Additions.{grants_pages}
use Rattle.casper_laws.specs.AnswerLaws.{HasRightsAndRoom, GrantsRightsAndRoom, GrantedGivesRightsAndRoom}
use Rattle.casper_laws.proofs.CompletedCalls.{unless_turn}
use Rattle.casper_laws.proofs.ExactAdditions.{Refuses, IfRefused, either_refuses, missing_refuses, full_refuses}
use Rattle.casper_turns.proofs.Lists.{any_of, contains_mapped}
use Rattle.casper_laws.proofs.PendingSteps.{acquire_empties}
use Rattle.casper_turns.proofs.TurnFrozen.{unrefused}

-- what passes a test in a list passes it in the reverse
any_reversed : {X : Type 0} (test : X → Bool) (xs : List X) → list_any test xs ≡ true → list_any test (reverse xs) ≡ true
any_reversed test [] found = found
any_reversed {X} test (x ∷ xs) found =
    ap (list_any test) (reverse-append (x ∷ []) xs) ∙ list_any-append test (reverse xs) (x ∷ [])
    ∙ ⊎_elim (λ here. or_right (list_any test (reverse xs)) (list_any test (x ∷ [])) (or_left (test x) false here))
    (λ later. or_left (list_any test (reverse xs)) (list_any test (x ∷ [])) (any_reversed test xs later)) (or_cases (test x) (list_any test xs) found)

covers_itself : (right : Right) → covers right right ≡ true
covers_itself may.Read = refl
covers_itself may.Write = refl

-- a granted want has its page with its right
want_passes : (held : List Want) (want : Want) → passes want.page want.right (granted_right held want) ≡ true
want_passes held want =
    and_from (is_of want.page want) (covers (granted_right held want).right want.right) (eq-eqb want.page want.page refl)
    (cond_both (allows held want.page may.Write) may.Write want.right (λ right. covers right want.right ≡ true) (λ writes. refl) (λ out. covers_itself want.right))

-- wants that are granted are held
granted_are_held : (capacity : ℕ) (wants held : List Want) (want : Want) → Contains wants want → allows (with_granted capacity wants held) want.page want.right ≡ true
granted_are_held capacity wants held want inside =
    let test = passes want.page want.right in
    let front = map (granted_right held) wants in
    let back = take (capacity - length wants) (filter (λ one. not (holds wants one.page)) held) in
    list_any-append test (reverse front) back
    ∙ or_left (list_any test (reverse front)) (list_any test back)
    (any_reversed test front (any_of test front (granted_right held want) (contains_mapped (granted_right held) wants want inside) (want_passes held want)))

-- where nothing is refused for want of room, the cap leaves it
cap_left : (both : Both) (missing : List Want) (calls : ℕ) → refused_full both missing calls ≡ None → calls ≤ both.own.cap - length missing
cap_left both missing calls none =
    let enough : length missing + calls ≤ both.own.cap =
    ltb-false both.own.cap (length missing + calls)
    (unrefused (nat_lt both.own.cap (length missing + calls)) (reply.TrailFull (entry_count both.shared.trail)) none) in
    omega (arith, enough)

-- a reply that refuses grants nothing
refusal_grants_nothing : (given : Answer) → Refuses given → given ≡ answer.Granted → ⊥
refusal_grants_nothing given refuses granted = true≢false (sym (ap grants_pages granted) ∙ refuses.pages)

module _ (shared : Shared) (own : Own) (wants : List Want) (calls : ℕ) where
  abbrev both : Both
  both = opened shared own

  abbrev missing : List Want
  missing = missing_once_opened shared own wants

  answered_has : (refusal : Option Reply) → IfRefused refusal
      → option_or (refused_missing both.shared both.own.who (given_in_opening shared own) missing) (refused_full both missing calls) ≡ refusal
      → of_reply (answered both (given_in_opening shared own) wants missing refusal).reply ≡ answer.Granted
      → HasRightsAndRoom (answered both (given_in_opening shared own) wants missing refusal).own wants calls
  answered_has (Some refusal) refused is granted = absurd (refusal_grants_nothing (of_reply refusal) refused granted)
  answered_has None refused is granted =
      let cap : calls ≤ both.own.cap - length missing =
      cap_left both missing calls (neither (refused_missing both.shared both.own.who (given_in_opening shared own) missing) (refused_full both missing calls) is).1 in
      let empty : length both.own.pending ≡ 0 = ap length (pending_opened shared own) in
      record { rights = granted_are_held both.own.capacity wants both.own.held; room = λ few. omega (arith, few, cap, empty) }

  pub acquired_has : (fallen : Option Fallen) → of_reply (acquired_by shared own wants calls fallen).reply ≡ answer.Granted
      → HasRightsAndRoom (acquired_by shared own wants calls fallen).own wants calls
  acquired_has (Some fallen) granted = absurd (true≢false (sym (ap grants_pages granted)))
  acquired_has None granted =
      answered_has _
      (either_refuses (refused_missing both.shared both.own.who (given_in_opening shared own) missing) (refused_full both missing calls)
      (missing_refuses both.shared both.own.who (given_in_opening shared own) missing) (full_refuses both missing calls))
      refl granted

-- after an acquire that is granted the wants are held with their rights, and there is room for the calls
pub grants_rights : (state : State) → InOrder state → GrantsRightsAndRoom state
grants_rights state order who wants calls outside is =
    unless_turn (λ turn. turn.answer ≡ answer.Granted → HasRightsAndRoom (own_at turn.state who) wants calls) state _ _
    (λ granted. absurd (true≢false (sym (ap grants_pages granted))))
    (λ granted. subst (λ one. HasRightsAndRoom one wants calls) (sym at) (acquired_has state.shared own wants calls (fallen_at state.shared own.who) granted))
  where
    own : Own
    own = own_at state who

    empties : (acquire state.shared own wants calls).own.who ≡ own.who
    empties = (acquire_empties wants calls state.shared own (fallen_at state.shared own.who)).who

    after : Own
    after = (acquire state.shared own wants calls).own

    at : own_at (after_turn state (acquire state.shared own wants calls)) who ≡ after
    at =
        ap (λ number. get_or ((after_turn state (acquire state.shared own wants calls)).owns) number (blank who 0)) (sym (empties ∙ order.shaped.numbers who))
        ∙ get_or-set_same state.owns after.who after (blank who 0) (in_owns state who after order is empties)

pub every_grant_gives : GrantedGivesRightsAndRoom
every_grant_gives vault pages limit capacity happenings named =
    grants_rights (state_after (start vault pages limit capacity) happenings) (every_run_rights vault pages limit capacity happenings named)
