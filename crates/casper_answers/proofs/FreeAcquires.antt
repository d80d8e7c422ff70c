use Rattle.std.proofs.Common.{◌≡◌, ◌⊎◌, ℕ, List, [], ◌∷◌, Bool, true, false, cond, not, ◌&&◌, length, Contains, refl, sym, ap, ◌∙◌, subst, inl, inr, ⊎_elim, true≢false, arith}
use Rattle.std.specs.Prelude.{Option, None, Some, is_some, option_map, nat_lt, ◌+◌, ◌≤◌}
use Rattle.std.specs.Option.{option_or}
use Rattle.std.proofs.lemmas.Bool.{and_parts, or_left, eq-eqb, ltb-false}
use Rattle.casper_words.specs.Crew.{IsClient, has_member}
use Rattle.casper_words.proofs.CrewLemmas.{client_from_member, IsCrew_crew_of}
use Rattle.casper_words.specs.declared.page.Want.{Want}
use Rattle.std.specs.List.{list_any}
use Rattle.casper_space.specs.declared.answer.Answer.TheVariants as answer
use Rattle.casper_model.specs.declared.reply.Reply.{Reply}
use Rattle.casper_model.specs.declared.reply.Reply.TheVariants as reply
use Rattle.casper_model.specs.Acquire.{acquire, acquired_by, answered, missing_once_opened, none_missing, is_in_doubt, refused_in_doubt, frozen_lead, refused_frozen, blocks, blockers_of, refused_pending, refused_missing, refused_full}
use Rattle.casper_model.specs.Answers.{of_reply}
use Rattle.casper_model.specs.CallStep.{is_granted, unless_load_failed}
use Rattle.casper_model.specs.Client.{Fallen}
use Rattle.casper_model.specs.Frozen.{is_member, is_modified_in}
use Rattle.casper_model.specs.Held.{missing_of}
use Rattle.casper_model.specs.Opening.{opened, given_in_opening}
use Rattle.casper_model.specs.Outside.{Outside, is_load_failed}
use Rattle.casper_model.specs.Own.{Own}
use Rattle.casper_model.specs.Shared.{fallen_at}
use Rattle.casper_model.specs.Stabilisation.{Stabilisation, is_empty}
use Rattle.casper_model.specs.State.{State, own_at, after_turn}
use Rattle.casper_model.proofs.Additions.{who_opened}
use Rattle.casper_model.proofs.StateHistory.{in_owns}
use Rattle.casper_trail.specs.TrailView.{entry_count}
use Rattle.casper_laws.specs.Additions.{grants_pages}
use Rattle.casper_laws.proofs.CompletedCalls.{unless_turn}
use Rattle.casper_laws.proofs.ExactAdditions.{IfRefused, either_refuses, missing_refuses, full_refuses}
use Rattle.casper_laws.proofs.StepImage.{IsOrderly}
use Rattle.casper_answers.specs.AcquireCauses.{lacking, Touches, once_opened, NothingStandsInTheWay, NothingHinders, GrantsTheFree, GrantsOnlyTheFree}
use Rattle.casper_answers.proofs.CommitSteps.{own_here}
use Rattle.casper_answers.proofs.AcquireTurns.{Facts, IfFacts, TouchesIn, refusal_facts, doubt_touches, touched_in_doubt, frozen_touches, touched_is_frozen, blocker_blocks, block_is_named, opened_is}

-- An acquire is granted exactly where nothing hinders it.

-- a crew that is not empty has a member
some_member : (crew : List ℕ) → is_empty crew ≡ false → (other : ℕ) × (has_member other crew ≡ true)
some_member [] none = absurd (true≢false none)
some_member (first ∷ others) some = (first, or_left _ _ (eq-eqb first first refl))

module _ (state : State) (known : IsOrderly state) (who : ℕ) (wants : List Want) (calls : ℕ) (outside : Outside) (client : IsClient who) where
  own_once : own_at (once_opened state who) who ≡ (opened state.shared (own_at state who)).own
  own_once =
      own_here state (opened state.shared (own_at state who)).own who (opened_is state known who wants calls outside client)
      (in_owns state who (opened state.shared (own_at state who)).own known.history.order client (who_opened state.shared (own_at state who)))

  lacked_once : lacking (once_opened state who) who wants ≡ missing_once_opened state.shared (own_at state who) wants
  lacked_once = ap (λ (x : Own). missing_of x.held wants) own_once

  touched_once : (one : Stabilisation)
      → TouchesIn (opened state.shared (own_at state who)).shared (opened state.shared (own_at state who)).own.who (missing_once_opened state.shared (own_at state who) wants) one
      → Touches (once_opened state who) who wants one
  touched_once one touches =
      subst (λ number. (is_member (opened state.shared (own_at state who)).shared number one ≡ true)
      ⊎ ((want : Want) × Contains (lacking (once_opened state who) who wants) want × (is_modified_in (opened state.shared (own_at state who)).shared want.page one ≡ true)))
      (opened_is state known who wants calls outside client)
      (subst (λ list. (is_member (opened state.shared (own_at state who)).shared (opened state.shared (own_at state who)).own.who one ≡ true)
      ⊎ ((want : Want) × Contains list want × (is_modified_in (opened state.shared (own_at state who)).shared want.page one ≡ true))) (sym lacked_once) touches)

  touched_back_once : (one : Stabilisation) → Touches (once_opened state who) who wants one
      → TouchesIn (opened state.shared (own_at state who)).shared (opened state.shared (own_at state who)).own.who (missing_once_opened state.shared (own_at state who) wants) one
  touched_back_once one touches =
      subst (λ list. (is_member (opened state.shared (own_at state who)).shared (opened state.shared (own_at state who)).own.who one ≡ true)
      ⊎ ((want : Want) × Contains list want × (is_modified_in (opened state.shared (own_at state who)).shared want.page one ≡ true))) lacked_once
      (subst (λ number. (is_member (opened state.shared (own_at state who)).shared number one ≡ true)
      ⊎ ((want : Want) × Contains (lacking (once_opened state who) who wants) want × (is_modified_in (opened state.shared (own_at state who)).shared want.page one ≡ true)))
      (sym (opened_is state known who wants calls outside client)) touches)

module _ (state : State) (known : IsOrderly state) (who : ℕ) (wants : List Want) (calls : ℕ) (outside : Outside) (client : IsClient who)
    (free : NothingHinders state who wants calls) (reads : is_load_failed outside ≡ false) where
  -- where something is lacked, nothing stands in the way
  in_the_way : none_missing (missing_once_opened state.shared (own_at state who) wants) ≡ false → NothingStandsInTheWay state (once_opened state who) who wants
  in_the_way lacks =
      ⊎_elim (λ none. absurd (true≢false (sym (ap none_missing (sym (lacked_once state known who wants calls outside client) ∙ none)) ∙ lacks))) (λ way. way) free.pages

  hindered : (one : Reply)
      → Facts (opened state.shared (own_at state who)).shared (opened state.shared (own_at state who)).own.who (opened state.shared (own_at state who)).own.cap
      (given_in_opening state.shared (own_at state who)) (missing_once_opened state.shared (own_at state who) wants) calls one → ⊥
  hindered reply.InDoubt facts =
      let found = doubt_touches (opened state.shared (own_at state who)).shared (opened state.shared (own_at state who)).own.who
      (missing_once_opened state.shared (own_at state who) wants) facts.doubt in
      (in_the_way facts.lacks).sure (found.0, found.1, found.2, touched_once state known who wants calls outside client found.0 found.3)
  hindered (reply.Frozen lead) facts =
      let found = frozen_touches (opened state.shared (own_at state who)).shared (opened state.shared (own_at state who)).own.who
      (missing_once_opened state.shared (own_at state who) wants) lead facts.frozen in
      (in_the_way facts.lacks).thawed lead (found.0, found.1, found.2, touched_once state known who wants calls outside client found.0 found.3)
  hindered (reply.Pending blockers) facts =
      let both = opened state.shared (own_at state who) in
      let given = given_in_opening state.shared (own_at state who) in
      let missing = missing_once_opened state.shared (own_at state who) wants in
      let other = some_member (blockers_of both.shared both.own.who given missing) facts.some in
      let block = blocker_blocks both.shared both.own.who missing given other.0 other.1 in
      let is_client = client_from_member (blockers_of both.shared both.own.who given missing) other.0
      (IsCrew_crew_of (λ one. list_any (λ want. blocks both.shared both.own.who given want one) missing)) other.1 in
      (in_the_way facts.lacks).clear other.0 is_client (
        block.0,
        subst (λ list. Contains list block.0) (sym (lacked_once state known who wants calls outside client)) block.1,
        subst (λ number. blocks both.shared number given block.0 other.0 ≡ true) (opened_is state known who wants calls outside client) block.2,
      )
  hindered (reply.TrailFull entries) facts =
      let lacks : length (lacking (once_opened state who) who wants) ≡ length (missing_once_opened state.shared (own_at state who) wants) = ap length (lacked_once state known who wants calls outside client) in
      let cap : (own_at (once_opened state who) who).cap ≡ (opened state.shared (own_at state who)).own.cap = ap (λ (x : Own). x.cap) (own_once state known who wants calls outside client) in
      let small = facts.small in
      let room = free.room in
      omega (arith, lacks, cap, small, room)
  hindered reply.Granted facts = facts
  hindered (reply.RolledBack mark recorded unrecorded) facts = facts
  hindered (reply.Load page marks) facts = facts

  unhindered : (refusal : Option Reply)
      → IfFacts (opened state.shared (own_at state who)).shared (opened state.shared (own_at state who)).own.who (opened state.shared (own_at state who)).own.cap
      (given_in_opening state.shared (own_at state who)) (missing_once_opened state.shared (own_at state who) wants) calls refusal
      → of_reply (answered (opened state.shared (own_at state who)) (given_in_opening state.shared (own_at state who)) wants
      (missing_once_opened state.shared (own_at state who) wants) refusal).reply ≡ answer.Granted
  unhindered None facts = refl
  unhindered (Some one) facts = absurd (hindered one facts)

  up : fallen_at state.shared (own_at state who).who ≡ None
  up = ap (fallen_at state.shared) (known.history.order.shaped.numbers who) ∙ free.up

  granted_now : of_reply (acquire state.shared (own_at state who) wants calls).reply ≡ answer.Granted
  granted_now =
      ap (λ fallen. of_reply (acquired_by state.shared (own_at state who) wants calls fallen).reply) up
      ∙ unhindered _ (refusal_facts (opened state.shared (own_at state who)) (given_in_opening state.shared (own_at state who))
      (missing_once_opened state.shared (own_at state who) wants) calls)

  free_now : (failed : Bool) → (is_load_failed outside && (is_granted (of_reply (acquire state.shared (own_at state who) wants calls).reply)
      && not (none_missing (missing_once_opened state.shared (own_at state who) wants)))) ≡ failed
      → (unless_load_failed state failed (record {
        answer = of_reply (acquire state.shared (own_at state who) wants calls).reply;
        state = after_turn state (acquire state.shared (own_at state who) wants calls);
      })).answer ≡ answer.Granted
  free_now true e = absurd (true≢false (sym (and_parts (is_load_failed outside) _ e).0 ∙ reads))
  free_now false e = granted_now

pub free_granted : (state : State) → IsOrderly state → GrantsTheFree state
free_granted state known who wants calls outside client live free reads = free_now state known who wants calls outside client free reads _ refl

-- Back: what is granted was not hindered.

neither : {T : Type 0} (first second : Option T) → option_or first second ≡ None → (first ≡ None) × (second ≡ None)
neither None second none = (refl, none)
neither (Some one) second none = absurd (true≢false (ap is_some none))

unrefused : {T : Type 0} (test : Bool) (one : T) → cond test (Some one) None ≡ None → test ≡ false
unrefused true one none = absurd (true≢false (ap is_some none))
unrefused false one none = refl

unmapped : {X Y : Type 0} (f : X → Y) (found : Option X) → option_map f found ≡ None → found ≡ None
unmapped f None none = refl
unmapped f (Some one) none = absurd (true≢false (ap is_some none))

nothing_missing : (missing : List Want) → none_missing missing ≡ true → missing ≡ []
nothing_missing [] none = refl
nothing_missing (want ∷ missing) none = absurd (true≢false (sym none))

no_member : (crew : List ℕ) (other : ℕ) → is_empty crew ≡ true → has_member other crew ≡ false
no_member [] other none = refl
no_member (first ∷ others) other none = absurd (true≢false (sym none))

unblocked : (crew : List ℕ) (reply : Reply) → cond (is_empty crew) None (Some reply) ≡ None → is_empty crew ≡ true
unblocked crew reply none = by_empty (is_empty crew) none
  where
    by_empty : (empty : Bool) → cond empty None (Some reply) ≡ None → empty ≡ true
    by_empty true is = refl
    by_empty false is = absurd (true≢false (ap is_some is))

module _ (state : State) (known : IsOrderly state) (who : ℕ) (wants : List Want) (calls : ℕ) (outside : Outside) (client : IsClient who) where
  nothing_stands : is_in_doubt (opened state.shared (own_at state who)).shared (opened state.shared (own_at state who)).own.who (missing_once_opened state.shared (own_at state who) wants) ≡ false
      → frozen_lead (opened state.shared (own_at state who)).shared (opened state.shared (own_at state who)).own.who (missing_once_opened state.shared (own_at state who) wants) ≡ None
      → is_empty (blockers_of (opened state.shared (own_at state who)).shared (opened state.shared (own_at state who)).own.who (given_in_opening state.shared (own_at state who))
      (missing_once_opened state.shared (own_at state who) wants)) ≡ true
      → NothingStandsInTheWay state (once_opened state who) who wants
  nothing_stands sure thawed clear =
      let both = opened state.shared (own_at state who) in
      let given = given_in_opening state.shared (own_at state who) in
      let missing = missing_once_opened state.shared (own_at state who) wants in
      record {
        sure = λ touched.
            true≢false
            (sym (touched_in_doubt both.shared both.own.who missing touched.0 touched.1 touched.2 (touched_back_once state known who wants calls outside client touched.0 touched.3)) ∙ sure);
        thawed = λ lead touched.
            true≢false
            (sym (touched_is_frozen both.shared both.own.who missing touched.0 touched.1 touched.2.0
            (touched_back_once state known who wants calls outside client touched.0 touched.3)) ∙ ap is_some thawed);
        clear = λ other is_client stands.
            true≢false
            (sym (block_is_named both.shared both.own.who missing given other stands.0 is_client
            (subst (λ list. Contains list stands.0) (lacked_once state known who wants calls outside client) stands.1)
            (subst (λ number. blocks both.shared number given stands.0 other ≡ true) (sym (opened_is state known who wants calls outside client)) stands.2))
            ∙ no_member (blockers_of both.shared both.own.who given missing) other clear);
      }

  pages_free : (none : Bool) → none_missing (missing_once_opened state.shared (own_at state who) wants) ≡ none
      → cond none None (option_or (refused_in_doubt (opened state.shared (own_at state who)).shared (opened state.shared (own_at state who)).own.who (missing_once_opened state.shared (own_at state who) wants))
      (option_or (refused_frozen (opened state.shared (own_at state who)).shared (opened state.shared (own_at state who)).own.who (missing_once_opened state.shared (own_at state who) wants))
      (refused_pending (opened state.shared (own_at state who)).shared (opened state.shared (own_at state who)).own.who (given_in_opening state.shared (own_at state who))
      (missing_once_opened state.shared (own_at state who) wants)))) ≡ None
      → (lacking (once_opened state who) who wants ≡ []) ⊎ NothingStandsInTheWay state (once_opened state who) who wants
  pages_free true e free = inl (lacked_once state known who wants calls outside client ∙ nothing_missing (missing_once_opened state.shared (own_at state who) wants) e)
  pages_free false e free =
      let both = opened state.shared (own_at state who) in
      let given = given_in_opening state.shared (own_at state who) in
      let missing = missing_once_opened state.shared (own_at state who) wants in
      let first = neither (refused_in_doubt both.shared both.own.who missing)
      (option_or (refused_frozen both.shared both.own.who missing) (refused_pending both.shared both.own.who given missing)) free in
      let second = neither (refused_frozen both.shared both.own.who missing) (refused_pending both.shared both.own.who given missing) first.1 in
      inr (nothing_stands (unrefused (is_in_doubt both.shared both.own.who missing) reply.InDoubt first.0)
      (unmapped reply.Frozen (frozen_lead both.shared both.own.who missing) second.0)
      (unblocked (blockers_of both.shared both.own.who given missing) (reply.Pending (blockers_of both.shared both.own.who given missing)) second.1))

  was_free : fallen_at state.shared (own_at state who).who ≡ None
      → option_or (refused_missing (opened state.shared (own_at state who)).shared (opened state.shared (own_at state who)).own.who (given_in_opening state.shared (own_at state who))
      (missing_once_opened state.shared (own_at state who) wants)) (refused_full (opened state.shared (own_at state who)) (missing_once_opened state.shared (own_at state who) wants) calls) ≡ None
      → NothingHinders state who wants calls
  was_free up none =
      let both = opened state.shared (own_at state who) in
      let missing = missing_once_opened state.shared (own_at state who) wants in
      let parts = neither (refused_missing both.shared both.own.who (given_in_opening state.shared (own_at state who)) missing) (refused_full both missing calls) none in
      let room : length missing + calls ≤ both.own.cap =
      ltb-false both.own.cap (length missing + calls) (unrefused (nat_lt both.own.cap (length missing + calls)) (reply.TrailFull (entry_count both.shared.trail)) parts.1) in
      let lacks : length (lacking (once_opened state who) who wants) ≡ length missing = ap length (lacked_once state known who wants calls outside client) in
      let cap : (own_at (once_opened state who) who).cap ≡ both.own.cap = ap (λ (x : Own). x.cap) (own_once state known who wants calls outside client) in
      record {
        up = sym (ap (fallen_at state.shared) (known.history.order.shaped.numbers who)) ∙ up;
        pages = pages_free (none_missing missing) refl parts.0;
        room = omega (arith, room, lacks, cap);
      }

  granted_by : (refusal : Option Reply) → IfRefused refusal → fallen_at state.shared (own_at state who).who ≡ None
      → option_or (refused_missing (opened state.shared (own_at state who)).shared (opened state.shared (own_at state who)).own.who (given_in_opening state.shared (own_at state who))
      (missing_once_opened state.shared (own_at state who) wants)) (refused_full (opened state.shared (own_at state who)) (missing_once_opened state.shared (own_at state who) wants) calls) ≡ refusal
      → of_reply (answered (opened state.shared (own_at state who)) (given_in_opening state.shared (own_at state who)) wants
      (missing_once_opened state.shared (own_at state who) wants) refusal).reply ≡ answer.Granted
      → NothingHinders state who wants calls
  granted_by None refuses up e granted = was_free up e
  granted_by (Some one) refuses up e granted = absurd (true≢false (sym (ap grants_pages granted) ∙ refuses.pages))

  acquired_free : (fallen : Option Fallen) → fallen_at state.shared (own_at state who).who ≡ fallen
      → of_reply (acquired_by state.shared (own_at state who) wants calls fallen).reply ≡ answer.Granted → NothingHinders state who wants calls
  acquired_free (Some fallen) e granted = absurd (true≢false (sym (ap grants_pages granted)))
  acquired_free None e granted =
      let both = opened state.shared (own_at state who) in
      let missing = missing_once_opened state.shared (own_at state who) wants in
      granted_by _
      (either_refuses (refused_missing both.shared both.own.who (given_in_opening state.shared (own_at state who)) missing) (refused_full both missing calls)
      (missing_refuses both.shared both.own.who (given_in_opening state.shared (own_at state who)) missing) (full_refuses both missing calls))
      e refl granted

pub granted_free : (state : State) → IsOrderly state → GrantsOnlyTheFree state
granted_free state known who wants calls outside client live =
    unless_turn (λ turn. turn.answer ≡ answer.Granted → NothingHinders state who wants calls) state _ _
    (λ failed. absurd (true≢false (sym (ap grants_pages failed))))
    (λ granted. acquired_free state known who wants calls outside client (fallen_at state.shared (own_at state who).who) refl granted)
