use Rattle.std.proofs.Common.{◌≡◌, ◌≢◌, ◌⊎◌, ℕ, List, [], ◌∷◌, Bool, true, false, cond, not, ◌&&◌, ◌==◌, map, Contains, refl, sym, ap, ◌∙◌, subst, inl, inr, ⊎_elim, true≢false}
use Rattle.std.specs.Prelude.{Option, None, Some}
use Rattle.std.proofs.lemmas.Bool.{cond_both, and_parts, and_from, or_cases, or_right, eqb-true, false_from_ne_true, cases_eq}
use Rattle.casper_words.specs.Crew.{IsClient, has_member, crew_of}
use Rattle.casper_words.proofs.CrewLemmas.{has_member_crew_of, has_member_filter, client_from_member, IsCrew_crew_of}
use Rattle.casper_words.specs.declared.page.Want.{Want}
use Rattle.casper_space.specs.declared.answer.Answer.{Answer}
use Rattle.casper_trail.specs.Association.{association_of}
use Rattle.casper_trail.proofs.Rounds.{association_holds_its_client}
use Rattle.casper_model.specs.declared.event.Event.{Event}
use Rattle.casper_model.specs.declared.outcome.Kept.{Kept}
use Rattle.casper_model.specs.declared.reply.Reply.{Reply}
use Rattle.casper_model.specs.declared.reply.JoinRefusal.{JoinRefusal}
use Rattle.casper_model.specs.Acquire.{acquired_by, answered, missing_once_opened}
use Rattle.casper_model.specs.Both.{Both, Turned}
use Rattle.casper_model.specs.Client.{Client, Fallen}
use Rattle.casper_model.specs.Frozen.{is_member, stabilisation_of}
use Rattle.casper_model.specs.Growth.{AddsOwn}
use Rattle.casper_model.specs.Join.{joined_by}
use Rattle.casper_model.specs.Leave.{served_by, absent, departed_by}
use Rattle.casper_model.specs.Opening.{told_of_fall, begun, given_up, gathering_of, handed_in, handed_in_to, opened, given_in_opening}
use Rattle.casper_model.specs.Own.{Own}
use Rattle.casper_model.specs.Room.{free_room}
use Rattle.casper_model.specs.Shared.{Shared}
use Rattle.casper_model.specs.Stabilisation.{Stabilisation, Gathering, Sealed, is_gathering, is_doubtful, is_empty, without, handed_in_by, phase_awaiting}
use Rattle.casper_model.specs.Stabilise.{stabilised_by, stabilised, stabilised_in, frozen_by, kept_at, with_asker, has_write_right, writers_among}
use Rattle.casper_model.specs.State.{State}
use Rattle.casper_model.proofs.Additions.{who_opened}
use Rattle.casper_model.proofs.Entries.{contains_cases, contains_append, contains_left}
use Rattle.casper_laws.specs.Additions.{is_without_turn}
use Rattle.casper_turns.specs.Frozen.{AreFrozen}
use Rattle.casper_turns.proofs.FrozenChanges.{one_of_lead}
use Rattle.casper_turns.proofs.Lists.{nothing_in, find_found}
use Rattle.casper_answers.specs.Acknowledgement.{is_stabilise_of, is_leave_of}
use Rattle.casper_answers.proofs.Moves.{Onto, onto_same, onto_map, onto_both, Joins, PhaseMoves, Moves, Begins, Moved, Grows, grows_by_own, moved_onto, moved_same}

-- What the turns of a client make of the stabilisations.

-- what an opening makes of one: a gathering one may have its client's pages handed in
pub record OpensTo (one next : Stabilisation) : Type 0 where
  pub lead : next.lead ≡ one.lead
  pub askers : next.askers ≡ one.askers
  pub noted : next.noted ≡ one.noted
  pub phase : (next.phase ≡ one.phase) ⊎ ((is_gathering one.phase ≡ true) × (is_doubtful next.phase ≡ false))
  pub awaits : is_gathering one.phase ≡ not (is_empty one.awaited) → is_gathering next.phase ≡ not (is_empty next.awaited)
  pub awaited : (who : ℕ) → has_member who next.awaited ≡ true → has_member who one.awaited ≡ true

opens_still : (one : Stabilisation) → OpensTo one one
opens_still one = record { lead = refl; askers = refl; noted = refl; phase = inl refl; awaits = λ is. is; awaited = λ who is. is }

awaiting_gathers : (awaited : List ℕ) → is_gathering (phase_awaiting awaited) ≡ not (is_empty awaited)
awaiting_gathers awaited = by_empty (is_empty awaited)
  where
    by_empty : (none : Bool) → is_gathering (cond none Sealed Gathering) ≡ not none
    by_empty true = refl
    by_empty false = refl

awaiting_is_sure : (awaited : List ℕ) → is_doubtful (phase_awaiting awaited) ≡ false
awaiting_is_sure awaited = cond_both (is_empty awaited) Sealed Gathering (λ phase. is_doubtful phase ≡ false) (λ is. refl) (λ is. refl)

opens_handed_in : (shared : Shared) (both : Both) (gathering : Option Stabilisation) → AreFrozen shared → both.shared.stabilisations ≡ shared.stabilisations
    → ((one : Stabilisation) → gathering ≡ Some one → Contains shared.stabilisations one × (is_gathering one.phase ≡ true))
    → Onto OpensTo shared.stabilisations (handed_in_to both gathering).shared.stabilisations
opens_handed_in shared both None frozen same found =
    subst (Onto OpensTo shared.stabilisations) (sym same) (onto_same OpensTo shared.stabilisations (λ one inside. opens_still one))
opens_handed_in shared both (Some gathering) frozen same found =
    subst (λ list. Onto OpensTo shared.stabilisations (map (λ one. cond (one.lead == gathering.lead) (handed_in_by both.own.who one) one) list)) (sym same)
    (onto_map OpensTo (λ one. cond (one.lead == gathering.lead) (handed_in_by both.own.who one) one) shared.stabilisations
    (λ one inside.
    cond_both (one.lead == gathering.lead) (handed_in_by both.own.who one) one (OpensTo one)
    (λ is.
    let known = found gathering refl in
    let it : one ≡ gathering = one_of_lead shared one gathering frozen inside known.0 (eqb-true one.lead gathering.lead is) in
    record {
      lead = refl;
      askers = refl;
      noted = refl;
      phase = inr (ap (λ (x : Stabilisation). is_gathering x.phase) it ∙ known.1, awaiting_is_sure (without both.own.who one.awaited));
      awaits = λ gathers. awaiting_gathers (without both.own.who one.awaited);
      awaited = λ who waits.
          (and_parts (not (who == both.own.who)) (has_member who one.awaited) (sym (has_member_filter (λ member. not (member == both.own.who)) who one.awaited) ∙ waits)).1;
    })
    (λ other. opens_still one)))

pub opens : (shared : Shared) (own : Own) → AreFrozen shared → Onto OpensTo shared.stabilisations (opened shared own).shared.stabilisations
opens shared own frozen =
    let both = given_up (begun shared own) in
    opens_handed_in shared both (gathering_of both.shared both.own.who) frozen refl
    (λ one e.
    let found = find_found (λ (x : Stabilisation). is_gathering x.phase && is_member both.shared both.own.who x) shared.stabilisations one e in
    (found.0, (and_parts (is_gathering one.phase) (is_member both.shared both.own.who one) found.1).0))

-- what the rest of a turn makes of one
pub record AsksTo (happened : Event) (given : Answer) (after : Shared) (one next : Stabilisation) : Type 0 where
  pub lead : next.lead ≡ one.lead
  pub adds : (who : ℕ) → has_member who next.askers ≡ true → (has_member who one.askers ≡ true) ⊎ Joins happened given after who next
  pub keeps : (who : ℕ) → IsClient who → has_member who one.askers ≡ true → (has_member who next.askers ≡ true) ⊎ (is_leave_of who happened ≡ true)
  pub noted : next.noted ≡ one.noted
  pub phase : next.phase ≡ one.phase
  pub awaited : next.awaited ≡ one.awaited

pub asks_still : (happened : Event) (given : Answer) (after : Shared) (one : Stabilisation) → AsksTo happened given after one one
asks_still happened given after one = record { lead = refl; adds = λ who is. inl is; keeps = λ who client is. inl is; noted = refl; phase = refl; awaited = refl }

-- an opening and the rest of the turn
turn_moves : (happened : Event) (given : Answer) (before after : Shared) → Grows before after → (one middle next : Stabilisation)
    → OpensTo one middle → AsksTo happened given after middle next → Moves happened given before after one next
turn_moves happened given before after grows one middle next opening asking = record {
  lead = asking.lead ∙ opening.lead;
  adds = λ who is. ⊎_elim (λ old. inl (ap (has_member who) (sym opening.askers) ∙ old)) (λ new. inr new) (asking.adds who is);
  keeps = λ who client is. asking.keeps who client (ap (has_member who) opening.askers ∙ is);
  noted = inl (asking.noted ∙ opening.noted);
  phase =
      ⊎_elim (λ same. PhaseMoves.same (asking.phase ∙ same)) (λ gathered. PhaseMoves.gathered gathered.0 (ap is_doubtful asking.phase ∙ gathered.1)) opening.phase;
  awaits = λ gathers. ap is_gathering asking.phase ∙ opening.awaits gathers ∙ sym (ap (λ list. not (is_empty list)) asking.awaited);
  awaited = λ who waits. opening.awaited who (ap (has_member who) (sym asking.awaited) ∙ waits);
  members = grows one.lead;
}

pub moved_turn : (state : State) (happened : Event) (given : Answer) (own : Own) (after : Shared) → AreFrozen state.shared → Grows state.shared after
    → Onto (AsksTo happened given after) (opened state.shared own).shared.stabilisations after.stabilisations → Moved state happened given after
moved_turn state happened given own after frozen grows rest =
    moved_onto state happened given after
    (onto_both OpensTo (AsksTo happened given after) (Moves happened given state.shared after) state.shared.stabilisations (opened state.shared own).shared.stabilisations after.stabilisations
    (turn_moves happened given state.shared after grows) (opens state.shared own frozen) rest)

-- who may write among the members is a member
writer_is_member : (shared : Shared) (members : List ℕ) (who : ℕ) → has_member who (writers_among shared members) ≡ true → has_member who members ≡ true
writer_is_member shared members who found =
    (and_parts (has_member who members) (has_write_right shared who)
    (sym (has_member_crew_of (λ member. has_member member members && has_write_right shared member) who
    (client_from_member _ who (IsCrew_crew_of (λ member. has_member member members && has_write_right shared member)) found)) ∙ found)).0

module _ (state : State) (frozen : AreFrozen state.shared) (own : Own) where
  abbrev shared : Shared
  shared = state.shared

  moved_opened : (happened : Event) (given : Answer) (after : Shared) → AddsOwn own.who own.pending state.shared.trail after.trail → after.stabilisations ≡ (opened state.shared own).shared.stabilisations
      → Moved state happened given after
  moved_opened happened given after adds same =
      moved_turn state happened given own after frozen (grows_by_own own.who own.pending state.shared after adds)
      (subst (Onto (AsksTo happened given after) (opened state.shared own).shared.stabilisations) (sym same)
      (onto_same (AsksTo happened given after) (opened state.shared own).shared.stabilisations (λ one inside. asks_still happened given after one)))

  pub acquired_moved : (happened : Event) (given : Answer) (wants : List Want) (calls : ℕ) (fallen : Option Fallen)
      → AddsOwn own.who own.pending shared.trail (acquired_by shared own wants calls fallen).shared.trail
      → Moved state happened given (acquired_by shared own wants calls fallen).shared
  acquired_moved happened given wants calls (Some fallen) adds =
      moved_same state happened given (told_of_fall shared own).shared refl (λ lead who is. is)
  acquired_moved happened given wants calls None adds = by_refusal _ adds
    where
      by_refusal : (refusal : Option Reply)
          → AddsOwn own.who own.pending shared.trail
          (answered (opened shared own) (given_in_opening shared own) wants (missing_once_opened shared own wants) refusal).shared.trail
          → Moved state happened given (answered (opened shared own) (given_in_opening shared own) wants (missing_once_opened shared own wants) refusal).shared
      by_refusal None also =
          moved_opened happened given
          (answered (opened shared own) (given_in_opening shared own) wants (missing_once_opened shared own wants) None).shared also refl
      by_refusal (Some reply) also =
          moved_opened happened given
          (answered (opened shared own) (given_in_opening shared own) wants (missing_once_opened shared own wants) (Some reply)).shared also refl

  pub served_moved : (happened : Event) (given : Answer) (fallen : Option Fallen) → AddsOwn own.who own.pending shared.trail (served_by shared own fallen).shared.trail
      → Moved state happened given (served_by shared own fallen).shared
  served_moved happened given (Some fallen) adds = moved_same state happened given (told_of_fall shared own).shared refl (λ lead who is. is)
  served_moved happened given None adds = moved_opened happened given (opened shared own).shared adds refl

  -- who waits with one more is the one more, or waited before
  asker_or_before : (who one : ℕ) (askers : List ℕ) → has_member who (crew_of (λ other. has_member other (one ∷ askers))) ≡ true
      → (one ≡ who) ⊎ (has_member who askers ≡ true)
  asker_or_before who one askers found =
      ⊎_elim (λ is. inl (eqb-true one who is)) (λ old. inr old)
      (or_cases (one == who) (has_member who askers)
      (sym (has_member_crew_of (λ other. has_member other (one ∷ askers)) who (client_from_member _ who (IsCrew_crew_of (λ other. has_member other (one ∷ askers))) found)) ∙ found))

  pub asks_with : (happened : Event) (given : Answer) (after : Shared) (who : ℕ) (one : Stabilisation) → is_stabilise_of who happened ≡ true → is_without_turn given ≡ false
      → has_member who (association_of after.trail one.lead) ≡ true → AsksTo happened given after one (with_asker who one)
  asks_with happened given after who one by turn member = record {
    lead = refl;
    adds = λ other is.
        ⊎_elim
        (λ (it : who ≡ other).
        inr (record {
          by = subst (λ number. is_stabilise_of number happened ≡ true) it by;
          turn = turn;
          member = subst (λ number. has_member number (association_of after.trail one.lead) ≡ true) it member;
        }))
        (λ old. inl old) (asker_or_before other who one.askers is);
    keeps = λ other client is.
        inl (has_member_crew_of (λ x. has_member x (who ∷ one.askers)) other client ∙ or_right (who == other) (has_member other one.askers) is);
    noted = refl;
    phase = refl;
    awaited = refl;
  }

  pub asks_without : (happened : Event) (given : Answer) (after : Shared) (who : ℕ) (one : Stabilisation) → is_leave_of who happened ≡ true
      → AsksTo happened given after one (record one { askers = without who one.askers })
  asks_without happened given after who one by = record {
    lead = refl;
    adds = λ other is.
        inl ((and_parts (not (other == who)) (has_member other one.askers) (sym (has_member_filter (λ member. not (member == who)) other one.askers) ∙ is)).1);
    keeps = λ other client is.
        ⊎_elim (λ (it : other ≡ who). inr (ap (λ number. is_leave_of number happened) it ∙ by))
        (λ (apart : other ≢ who).
        inl (has_member_filter (λ member. not (member == who)) other one.askers
        ∙ and_from (not (other == who)) (has_member other one.askers)
        (ap not (false_from_ne_true (other == who) (λ same. apart (eqb-true other who same)))) is))
        (cases_eq other who);
    noted = refl;
    phase = refl;
    awaited = refl;
  }

  pub departed_moved : (happened : Event) (given : Answer) (fallen : Option Fallen) → is_leave_of own.who happened ≡ true
      → AddsOwn own.who own.pending shared.trail (departed_by shared own fallen).shared.trail → Moved state happened given (departed_by shared own fallen).shared
  departed_moved happened given (Some fallen) by adds = moved_same state happened given (told_of_fall shared own).shared refl (λ lead who is. is)
  departed_moved happened given None by adds =
      let both = opened shared own in
      moved_turn state happened given own (absent both).shared frozen (grows_by_own own.who own.pending shared (absent both).shared adds)
      (onto_map (AsksTo happened given (absent both).shared) (λ one. record one { askers = without both.own.who one.askers }) both.shared.stabilisations
      (λ one inside. asks_without happened given (absent both).shared both.own.who one (ap (λ number. is_leave_of number happened) (who_opened shared own) ∙ by)))

  -- a stabilisation that begins
  frozen_moved : (happened : Event) (given : Answer) → is_stabilise_of own.who happened ≡ true → is_without_turn given ≡ false → IsClient own.who
      → Grows shared (frozen_by (opened shared own)).shared → Moved state happened given (frozen_by (opened shared own)).shared
  frozen_moved happened given by turn client grows = record {
    from = λ next inside.
        ⊎_elim
        (λ old.
        let found = (onto.from next old) in inl (found.0, found.1, found.2))
        (λ new.
        ⊎_elim
        (λ same.
        inr (subst (Begins happened given after) same (record {
          by = ap (λ number. is_stabilise_of number happened) (who_opened shared own) ∙ by;
          turn = turn;
          askers = λ who is.
              ⊎_elim (λ (it : both.own.who ≡ who). sym it) (λ never. absurd (true≢false (sym never)))
              (asker_or_before who both.own.who [] is);
          member = association_holds_its_client after.trail both.own.who (subst IsClient (sym (who_opened shared own)) client);
          noted = refl;
          sure = awaiting_is_sure _;
          awaits = awaiting_gathers _;
          awaited = λ who waits. writer_is_member (handed_in both).shared (association_of (handed_in both).shared.trail (handed_in both).own.who) who waits;
        })))
        (λ later. absurd (nothing_in next later)) (contains_cases _ [] next new))
        (contains_append both.shared.stabilisations _ next inside);
    to = λ one inside. let found = onto.to one inside in inl (found.0, contains_left both.shared.stabilisations _ found.0 found.1, found.2);
  }
    where
      both : Both
      both = opened shared own

      after : Shared
      after = (frozen_by (opened shared own)).shared

      onto : Onto (Moves happened given shared after) shared.stabilisations both.shared.stabilisations
      onto =
          onto_both OpensTo (AsksTo happened given after) (Moves happened given shared after) shared.stabilisations both.shared.stabilisations both.shared.stabilisations
          (turn_moves happened given shared after grows) (opens shared own frozen)
          (onto_same (AsksTo happened given after) both.shared.stabilisations (λ one inside. asks_still happened given after one))

  stabilised_in_moved : (happened : Event) (given : Answer) (found : Option Stabilisation) → is_stabilise_of own.who happened ≡ true → is_without_turn given ≡ false → IsClient own.who
      → ((one : Stabilisation) → found ≡ Some one → is_member (opened shared own).shared (opened shared own).own.who one ≡ true)
      → Grows shared (stabilised_in (opened shared own) found).shared → Moved state happened given (stabilised_in (opened shared own) found).shared
  stabilised_in_moved happened given None by turn client member grows = frozen_moved happened given by turn client grows
  stabilised_in_moved happened given (Some one) by turn client member grows =
      let both = opened shared own in
      let after = (stabilised_in both (Some one)).shared in
      moved_turn state happened given own after frozen grows
      (onto_map (AsksTo happened given after) (λ other. cond (other.lead == one.lead) (with_asker both.own.who other) other) both.shared.stabilisations
      (λ other inside.
      cond_both (other.lead == one.lead) (with_asker both.own.who other) other (AsksTo happened given after other)
      (λ is.
      asks_with happened given after both.own.who other (ap (λ number. is_stabilise_of number happened) (who_opened shared own) ∙ by) turn
      (ap (λ lead. has_member both.own.who (association_of both.shared.trail lead)) (eqb-true other.lead one.lead is) ∙ member one refl))
      (λ apart. asks_still happened given after other)))

  stabilised_moved : (happened : Event) (given : Answer) (kept : Option Kept) → is_stabilise_of own.who happened ≡ true → is_without_turn given ≡ false → IsClient own.who
      → AddsOwn own.who own.pending shared.trail (stabilised (opened shared own) kept).shared.trail → Moved state happened given (stabilised (opened shared own) kept).shared
  stabilised_moved happened given (Some outcome) by turn client adds = moved_opened happened given (opened shared own).shared adds refl
  stabilised_moved happened given None by turn client adds =
      let both = opened shared own in
      stabilised_in_moved happened given (stabilisation_of both.shared both.own.who) by turn client
      (λ one e. (find_found (is_member both.shared both.own.who) both.shared.stabilisations one e).1)
      (grows_by_own own.who own.pending shared (stabilised both None).shared adds)

  pub stabilised_by_moved : (happened : Event) (given : Answer) (fallen : Option Fallen) → is_stabilise_of own.who happened ≡ true → is_without_turn given ≡ false → IsClient own.who
      → AddsOwn own.who own.pending shared.trail (stabilised_by shared own fallen).shared.trail → Moved state happened given (stabilised_by shared own fallen).shared
  stabilised_by_moved happened given (Some fallen) by turn client adds = moved_same state happened given (told_of_fall shared own).shared refl (λ lead who is. is)
  stabilised_by_moved happened given None by turn client adds = stabilised_moved happened given (kept_at shared own.who) by turn client adds

  pub joined_moved : (happened : Event) (given : Answer) (place : Option Client) → Moved state happened given (joined_by shared own place).shared
  joined_moved happened given (Some client) = moved_same state happened given shared refl (λ lead who is. is)
  joined_moved happened given None =
      cond_both {A = Turned (Option JoinRefusal)} (free_room shared == 0) _ _ (λ turn. Moved state happened given turn.shared)
      (λ full. moved_same state happened given shared refl (λ lead who is. is)) (λ room. moved_same state happened given _ refl (λ lead who is. is))
