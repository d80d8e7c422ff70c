use Rattle.std.proofs.Common.{◌≡◌, ◌⊎◌, ℕ, true, false, cond, not, ◌&&◌, ◌==◌, filter, length, Contains, refl, sym, ap, ◌∙◌, subst, inl, inr, ⊎_elim, true≢false}
use Rattle.std.specs.Prelude.{Option, None, Some, is_some, option_and_then}
use Rattle.std.specs.Option.{option_or}
use Rattle.std.proofs.lemmas.Bool.{cond_both, and_from, not-true, not-false, eq-eqb, eqb-true, false_from_ne_true}
use Rattle.casper_words.specs.Crew.{has_member}
use Rattle.casper_space.specs.declared.answer.Answer.{Answer}
use Rattle.casper_space.specs.declared.answer.Answer.TheVariants as answer
use Rattle.casper_trail.specs.declared.mark.Mark.TheVariants.{Commit}
use Rattle.casper_trail.specs.Association.{association_of}
use Rattle.casper_trail.proofs.Growth.{others_after_mark}
use Rattle.casper_trail.proofs.Rounds.{association_holds_its_client}
use Rattle.casper_model.specs.declared.event.Event.{Event}
use Rattle.casper_model.specs.declared.event.Event.TheVariants as event
use Rattle.casper_model.specs.declared.outcome.Outcome.{Outcome}
use Rattle.casper_model.specs.declared.outcome.Outcome.TheVariants as outcome
use Rattle.casper_model.specs.declared.outcome.Kept.TheVariants as kept
use Rattle.casper_model.specs.declared.reply.Loss.{Loss}
use Rattle.casper_model.specs.declared.reply.Loss.TheVariants as loss
use Rattle.casper_model.specs.Answers.{of_finish, of_vanish, of_lose, of_failure}
use Rattle.casper_model.specs.Both.{Changed}
use Rattle.casper_model.specs.Client.{Fallen}
use Rattle.casper_model.specs.Finish.{ended, committed, failed, finished_as, finished_by, finish, settled_by, settled, stabilisation_led_by, doubtful_of}
use Rattle.casper_model.specs.Frozen.{is_member, stabilisation_of}
use Rattle.casper_model.specs.Leave.{absent, vanish, vanished_by}
use Rattle.casper_model.specs.Loss.{lose, lose_by, lost_in}
use Rattle.casper_model.specs.Own.{Own}
use Rattle.casper_model.specs.Shared.{Shared, fallen_at, change_stabilisation}
use Rattle.casper_model.specs.Stabilisation.{Stabilisation, Doubtful, is_gathering, is_doubtful, with_noted, without}
use Rattle.casper_model.specs.State.{State}
use Rattle.casper_model.specs.WriteOutStep.{of_settled}
use Rattle.casper_turns.specs.Frozen.{AreFrozen}
use Rattle.casper_turns.proofs.ApartLeads.{one_with_member}
use Rattle.casper_turns.proofs.FrozenChanges.{one_of_lead}
use Rattle.casper_turns.proofs.Lists.{find_found, contains_map, contains_mapped, contains_filter}
use Rattle.casper_answers.specs.Acknowledgement.{is_leave_of, may_end, tells_outcome}
use Rattle.casper_answers.specs.Losses.{carried_out, is_noted_by}
use Rattle.casper_answers.proofs.Moves.{onto_map, Joins, NotesNow, PhaseMoves, Moves, moves_still, Begins, Moved, moved_onto, moved_same, moved_filter, moved_rolled_back}
use Rattle.casper_answers.proofs.TurnMoves.{asks_without}

-- What losses, finishes and settles make of the stabilisations.

module _ (state : State) (frozen : AreFrozen state.shared) where
  abbrev shared : Shared
  shared = state.shared

  -- the loss of a client is noted in the stabilisation that it belongs to
  noted_moves : (happened : Event) (given : Answer) (after : Shared) → after.trail ≡ shared.trail → (who : ℕ) (found one : Stabilisation) → is_gathering one.phase ≡ false → found.lead ≡ one.lead
      → is_noted_by happened given who one.lead ≡ true → Moves happened given shared after one (with_noted who one)
  noted_moves happened given after still who found one held lead by = record {
    lead = refl;
    adds = λ other is. inl is;
    keeps = λ other client is. inl is;
    noted = by_note one.noted refl;
    phase = PhaseMoves.same refl;
    awaits = λ is. is;
    awaited = λ other is. is;
    members = λ other is. ap (λ trail. has_member other (association_of trail one.lead)) still ∙ is;
  }
    where
      by_note : (note : Option ℕ) → one.noted ≡ note → (option_or one.noted (Some who) ≡ one.noted) ⊎ NotesNow happened given one (with_noted who one)
      by_note None e = inr (record { none = e; lost = who; noted = ap (λ (x : Option ℕ). option_or x (Some who)) e; by = by; held = held })
      by_note (Some first) e = inl (ap (λ (x : Option ℕ). option_or x (Some who)) e ∙ sym e)

  lost_moved : (happened : Event) (who unrecorded : ℕ) (answer_of : Loss → Answer) (found : Option Stabilisation) → stabilisation_of shared who ≡ found
      → ((mark : ℕ) → carried_out state happened (answer_of (loss.Lost mark unrecorded)) ≡ Some who)
      → ((lead : ℕ) → is_noted_by happened (answer_of (loss.Noted lead unrecorded)) who lead ≡ true)
      → Moved state happened (answer_of (lost_in shared who unrecorded found).reply) (lost_in shared who unrecorded found).shared
  lost_moved happened who unrecorded answer_of None e lost noted = moved_rolled_back state happened _ who (lost (length shared.trail))
  lost_moved happened who unrecorded answer_of (Some one) e lost noted =
      cond_both {A = Changed Loss} (is_gathering one.phase) _ _ (λ done. Moved state happened (answer_of done.reply) done.shared)
      (λ gathering. moved_rolled_back state happened _ who (lost (length shared.trail)))
      (λ held.
      moved_onto state happened (answer_of (loss.Noted one.lead unrecorded)) (change_stabilisation one.lead (with_noted who) shared)
      (onto_map (Moves happened (answer_of (loss.Noted one.lead unrecorded)) shared (change_stabilisation one.lead (with_noted who) shared)) (λ other. cond (other.lead == one.lead) (with_noted who other) other) shared.stabilisations
      (λ other inside.
      cond_both (other.lead == one.lead) (with_noted who other) other
      (Moves happened (answer_of (loss.Noted one.lead unrecorded)) shared (change_stabilisation one.lead (with_noted who) shared) other)
      (λ same.
      let led = eqb-true other.lead one.lead same in
      let it = one_of_lead shared other one frozen inside (find_found (is_member shared who) shared.stabilisations one e).0 led in
      noted_moves happened (answer_of (loss.Noted one.lead unrecorded)) (change_stabilisation one.lead (with_noted who) shared) refl who one other (ap (λ (x : Stabilisation). is_gathering x.phase) it ∙ held) (sym led)
      (ap (is_noted_by happened (answer_of (loss.Noted one.lead unrecorded)) who) led ∙ noted one.lead))
      (λ apart.
      moves_still happened (answer_of (loss.Noted one.lead unrecorded)) shared (change_stabilisation one.lead (with_noted who) shared) other (λ number is. is)))))

  -- a client declared lost
  pub lose_moved : (who : ℕ) → Moved state (event.Lose who) (of_lose (lose shared who).reply) (lose shared who).shared
  lose_moved who = by_fallen (fallen_at shared who)
    where
      by_fallen : (fallen : Option Fallen) → Moved state (event.Lose who) (of_lose (lose_by shared who fallen).reply) (lose_by shared who fallen).shared
      by_fallen (Some fallen) = moved_same state (event.Lose who) _ shared refl (λ lead member is. is)
      by_fallen None =
          lost_moved (event.Lose who) who 0 of_lose (stabilisation_of shared who) refl (λ mark. refl)
          (λ lead. and_from (who == who) (lead == lead) (eq-eqb who who refl) (eq-eqb lead lead refl))

  -- a stabilisation that its member leaves
  moves_left : (happened : Event) (given : Answer) (before middle : Shared) (own : Own) (one next : Stabilisation) → is_leave_of own.who happened ≡ true
      → Moves happened given before middle one next
      → Moves happened given before (absent (record { shared = middle; own = own })).shared one (record next { askers = without own.who next.askers })
  moves_left happened given before middle own one next by moves =
      let asks = asks_without state frozen own happened given middle own.who next by in
      record {
        lead = moves.lead;
        adds = λ other is.
            ⊎_elim
            (λ old. ⊎_elim (λ older. inl older) (λ (new : Joins happened given middle other next). inr (record { by = new.by; turn = new.turn; member = new.member })) (moves.adds other old))
            (λ (new : Joins happened given middle other (record next { askers = without own.who next.askers })). inr (record { by = new.by; turn = new.turn; member = new.member })) (asks.adds other is);
        keeps = λ other client is. ⊎_elim (asks.keeps other client) (λ left. inr left) (moves.keeps other client is);
        noted = ⊎_elim (λ same. inl same) (λ new. inr (record { none = new.none; lost = new.lost; noted = new.noted; by = new.by; held = new.held })) moves.noted;
        phase = by_phase moves.phase;
        awaits = moves.awaits;
        awaited = moves.awaited;
        members = moves.members;
      }
    where
      by_phase : PhaseMoves happened given one next → PhaseMoves happened given one (record next { askers = without own.who next.askers })
      by_phase (PhaseMoves.same is) = PhaseMoves.same is
      by_phase (PhaseMoves.gathered is sure) = PhaseMoves.gathered is sure
      by_phase (PhaseMoves.doubted may is doubtful) = PhaseMoves.doubted may is doubtful

  moved_left : (happened : Event) (given : Answer) (middle : Shared) (own : Own) → is_leave_of own.who happened ≡ true → Moved state happened given middle
      → ((next : Stabilisation) → Begins happened given middle next → ⊥) → Moved state happened given (absent (record { shared = middle; own = own })).shared
  moved_left happened given middle own by moved never = record {
    from = λ next inside.
        let y = contains_map change middle.stabilisations next inside in
        ⊎_elim
        (λ (old : (one : Stabilisation) × Contains shared.stabilisations one × Moves happened given shared middle one y.0).
        inl (
          old.0,
          old.1,
          subst (Moves happened given shared (absent (record { shared = middle; own = own })).shared old.0) y.2 (moves_left happened given shared middle own old.0 y.0 by old.2),
        ))
        (λ new. absurd (never y.0 new)) (moved.from y.0 y.1);
    to = λ one inside.
        ⊎_elim
        (λ (on : (next : Stabilisation) × Contains middle.stabilisations next × Moves happened given shared middle one next).
        inl (
          change on.0,
          contains_mapped change middle.stabilisations on.0 on.1,
          moves_left happened given shared middle own one on.0 by on.2,
        ))
        (λ end.
        inr (record {
          gone = λ next there same.
              let y = contains_map change middle.stabilisations next there in end.gone y.0 y.1 (ap (λ (x : Stabilisation). x.lead) y.2 ∙ same);
          cause = end.cause;
        })) (moved.to one inside);
  }
    where
      change : Stabilisation → Stabilisation
      change one = record one { askers = without own.who one.askers }

  pub vanish_moved : (own : Own) → Moved state (event.Vanish own.who) (of_vanish (vanish shared own).reply) (vanish shared own).shared
  vanish_moved own =
      moved_left (event.Vanish own.who) _ _ own (eq-eqb own.who own.who refl) (by_fallen (fallen_at shared own.who) refl) (λ next new. true≢false (sym new.by))
    where
      by_fallen : (fallen : Option Fallen) → fallen_at shared own.who ≡ fallen
          → Moved state (event.Vanish own.who) (of_vanish (vanished_by shared own fallen).reply) (vanished_by shared own fallen).shared
      by_fallen (Some fallen) e = moved_same state (event.Vanish own.who) _ shared refl (λ lead member is. is)
      by_fallen None e =
          lost_moved (event.Vanish own.who) own.who (length own.pending) of_vanish (stabilisation_of shared own.who) refl
          (λ mark. ap (λ (x : Option Fallen). cond (is_some x) None (Some own.who)) e)
          (λ lead. and_from (own.who == own.who) (lead == lead) (eq-eqb own.who own.who refl) (eq-eqb lead lead refl))

  -- a stabilisation that ends with an outcome
  ended_moved : (happened : Event) (given : Answer) (after : Shared) (one : Stabilisation) → Contains shared.stabilisations one
      → after.stabilisations ≡ filter (λ other. not (other.lead == one.lead)) shared.stabilisations
      → ((other : Stabilisation) → Contains shared.stabilisations other → (other.lead == one.lead) ≡ false → (who : ℕ)
      → has_member who (association_of shared.trail other.lead) ≡ true → has_member who (association_of after.trail other.lead) ≡ true)
      → (may_end happened one && tells_outcome given) ≡ true → Moved state happened given after
  ended_moved happened given after one inside left members cause =
      moved_filter state happened given after (λ other. not (other.lead == one.lead)) left
      (λ other also further. members other also (not-true (other.lead == one.lead) further))
      (λ other also out.
      let led = eqb-true other.lead one.lead (not-false (other.lead == one.lead) out) in
      record {
        gone = λ next there same.
            let found = contains_filter (λ (x : Stabilisation). not (x.lead == one.lead)) shared.stabilisations next (subst (λ list. Contains list next) left there) in
            true≢false (sym (eq-eqb next.lead one.lead (same ∙ led)) ∙ not-true (next.lead == one.lead) found.1);
        cause = inl (subst (λ (x : Stabilisation). (may_end happened x && tells_outcome given) ≡ true) (sym (one_of_lead shared other one frozen also inside led)) cause);
      })

  committed_moved : (happened : Event) (given : Answer) (one : Stabilisation) → Contains shared.stabilisations one → (may_end happened one && tells_outcome given) ≡ true
      → Moved state happened given (committed shared one).shared
  committed_moved happened given one inside cause =
      ended_moved happened given (committed shared one).shared one inside refl
      (λ other also apart who.
      subst (λ list. has_member who list ≡ true)
      (sym (others_after_mark shared.trail (Commit one.lead (association_of shared.trail one.lead)) other.lead refl
      (false_from_ne_true (has_member other.lead (association_of shared.trail one.lead))
      (λ found.
      let same = one_with_member shared.trail shared.stabilisations other one other.lead frozen.apart also inside
      (association_holds_its_client shared.trail other.lead (frozen.leads other also)) found in
      true≢false (sym (eq-eqb other.lead one.lead (ap (λ (x : Stabilisation). x.lead) same)) ∙ apart))))))
      cause

  failed_moved : (lead : ℕ) (one : Stabilisation) (cause : Outcome) (noted : Option ℕ) → stabilisation_led_by shared lead ≡ Some one → one.noted ≡ noted
      → tells_outcome (of_failure cause) ≡ true
      → Moved state (event.Finish lead) (of_finish (Some (failed shared one cause noted).reply)) (failed shared one cause noted).shared
  failed_moved lead one cause None found none tells =
      let known = find_found (λ (x : Stabilisation). x.lead == lead) shared.stabilisations one found in
      ended_moved (event.Finish lead) (of_failure cause) (ended shared one (kept.Failed cause)) one known.0 refl (λ other also apart who is. is)
      (and_from (one.lead == lead) (tells_outcome (of_failure cause)) known.1 tells)
  failed_moved lead one cause (Some lost) found some tells =
      moved_rolled_back state (event.Finish lead) (answer.Undone (length shared.trail)) lost
      (ap (λ (x : Option Stabilisation). option_and_then (λ (y : Stabilisation). y.noted) x) found ∙ some)

  doubted_moved : (lead : ℕ) (one : Stabilisation) → stabilisation_led_by shared lead ≡ Some one → is_gathering one.phase ≡ false
      → Moved state (event.Finish lead) answer.InDoubt (finished_as shared one outcome.Doubt).shared
  doubted_moved lead one found held =
      let known = find_found (λ (x : Stabilisation). x.lead == lead) shared.stabilisations one found in
      moved_onto state (event.Finish lead) answer.InDoubt (finished_as shared one outcome.Doubt).shared
      (onto_map (Moves (event.Finish lead) answer.InDoubt shared (finished_as shared one outcome.Doubt).shared)
      (λ other. cond (other.lead == one.lead) (record other { phase = Doubtful }) other) shared.stabilisations
      (λ other inside.
      cond_both (other.lead == one.lead) (record other { phase = Doubtful }) other
      (Moves (event.Finish lead) answer.InDoubt shared (finished_as shared one outcome.Doubt).shared other)
      (λ is. record {
        lead = refl;
        adds = λ who waits. inl waits;
        keeps = λ who client waits. inl waits;
        noted = inl refl;
        phase =
            PhaseMoves.doubted (eq-eqb other.lead lead (eqb-true other.lead one.lead is ∙ eqb-true one.lead lead known.1)) refl refl;
        awaits = λ gathers.
            sym (sym gathers ∙ ap (λ (x : Stabilisation). is_gathering x.phase) (one_of_lead shared other one frozen inside known.0 (eqb-true other.lead one.lead is)) ∙ held);
        awaited = λ who waits. waits;
        members = λ who member. member;
      })
      (λ apart. moves_still (event.Finish lead) answer.InDoubt shared (finished_as shared one outcome.Doubt).shared other (λ who is. is))))

  finished_moved : (lead : ℕ) (one : Stabilisation) (how : Outcome) → stabilisation_led_by shared lead ≡ Some one → is_gathering one.phase ≡ false
      → Moved state (event.Finish lead) (of_finish (Some (finished_as shared one how).reply)) (finished_as shared one how).shared
  finished_moved lead one (outcome.Ok version) found held =
      let known = find_found (λ (x : Stabilisation). x.lead == lead) shared.stabilisations one found in
      committed_moved (event.Finish lead) (answer.Commit (length shared.trail)) one known.0 (and_from (one.lead == lead) true known.1 refl)
  finished_moved lead one (outcome.Full need free) found held = failed_moved lead one (outcome.Full need free) one.noted found refl refl
  finished_moved lead one outcome.Worn found held = failed_moved lead one outcome.Worn one.noted found refl refl
  finished_moved lead one outcome.Disk found held = failed_moved lead one outcome.Disk one.noted found refl refl
  finished_moved lead one outcome.Doubt found held = doubted_moved lead one found held

  pub finish_moved : (lead : ℕ) (how : Outcome) → ((one : Stabilisation) → Contains shared.stabilisations one → one.lead ≡ lead → is_gathering one.phase ≡ false) → Moved state (event.Finish lead) (of_finish (finish shared lead how).reply) (finish shared lead how).shared
  finish_moved lead how held = by_found (stabilisation_led_by shared lead) refl
    where
      by_found : (one : Option Stabilisation) → stabilisation_led_by shared lead ≡ one
          → Moved state (event.Finish lead) (of_finish (finished_by shared how one).reply) (finished_by shared how one).shared
      by_found None e = moved_same state (event.Finish lead) answer.NoJob shared refl (λ number member is. is)
      by_found (Some one) e =
          let found = find_found (λ (x : Stabilisation). x.lead == lead) shared.stabilisations one e in
          finished_moved lead one how e (held one found.0 (eqb-true one.lead lead found.1))

  pub settled_moved : Moved state event.Settle (of_settled (settled shared).reply) (settled shared).shared
  settled_moved = by_found (doubtful_of shared) refl
    where
      by_found : (one : Option Stabilisation) → doubtful_of shared ≡ one → Moved state event.Settle (of_settled (settled_by shared one).reply) (settled_by shared one).shared
      by_found None e = moved_same state event.Settle answer.Nothing shared refl (λ number member is. is)
      by_found (Some one) e =
          let known = find_found (λ (x : Stabilisation). is_doubtful x.phase) shared.stabilisations one e in
          committed_moved event.Settle (answer.Commit (length shared.trail)) one known.0 (and_from (is_doubtful one.phase) true known.1 refl)
