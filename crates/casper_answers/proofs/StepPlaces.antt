use Rattle.std.proofs.Common.{◌≡◌, ◌≢◌, ◌⊎◌, ◌≤◌, ◌<◌, ℕ, List, Bool, true, false, cond, not, ◌&&◌, ◌==◌, length, Contains, refl, sym, ap, ◌∙◌, subst, inl, inr, ⊎_elim, true≢false}
use Rattle.std.specs.Prelude.{Option, None, Some, is_some, option_map, option_and_then, unwrap_or, min}
use Rattle.std.proofs.lemmas.Bool.{cond_both, cond-false, cond-true, eq-eqb, eqb-true, false_from_ne_true, cases_Bool, cases_eq}
use Rattle.casper_words.specs.Crew.{IsClient, has_member}
use Rattle.casper_space.specs.declared.answer.Answer.{Answer}
use Rattle.casper_space.specs.declared.answer.Answer.TheVariants as answer
use Rattle.casper_trail.specs.Association.{association_of}
use Rattle.casper_model.specs.declared.event.Event.{Event}
use Rattle.casper_model.specs.declared.event.Event.TheVariants as event
use Rattle.casper_model.specs.declared.outcome.Kept.{Kept}
use Rattle.casper_model.specs.declared.outcome.Kept.TheVariants as kept
use Rattle.casper_model.specs.declared.outcome.Outcome.{Outcome}
use Rattle.casper_model.specs.declared.outcome.Outcome.TheVariants as outcome
use Rattle.casper_model.specs.declared.reply.JoinRefusal.{JoinRefusal}
use Rattle.casper_model.specs.declared.reply.Loss.{Loss}
use Rattle.casper_model.specs.declared.reply.Loss.TheVariants as loss
use Rattle.casper_model.specs.declared.reply.Served.{Served}
use Rattle.casper_model.specs.declared.reply.Served.TheVariants as served
use Rattle.casper_model.specs.declared.reply.StabReply.{StabReply}
use Rattle.casper_model.specs.declared.reply.StabReply.TheVariants as stab
use Rattle.casper_model.specs.Answers.{of_join, of_served, of_depart, of_stabilise, of_finish, of_vanish, of_lose, of_failure}
use Rattle.casper_model.specs.Both.{Both, Changed, Turned}
use Rattle.casper_model.specs.Client.{Client, Fallen, new_client}
use Rattle.casper_model.specs.Finish.{ended, committed, failed, finished_as, finished_by, finish, settled_by, settled, stabilisation_led_by, doubtful_of}
use Rattle.casper_model.specs.Frozen.{stabilisation_of}
use Rattle.casper_model.specs.Join.{join, joined_by}
use Rattle.casper_model.specs.Leave.{serve, absent, departed_by, vanish, vanished_by}
use Rattle.casper_model.specs.Loss.{fallen_behind, rolled_back, lose, lose_by, lost_in}
use Rattle.casper_model.specs.Opening.{opened}
use Rattle.casper_model.specs.Outside.{Outside}
use Rattle.casper_model.specs.Own.{Own}
use Rattle.casper_model.specs.Rights.{TurnKeeps, NamesClients}
use Rattle.casper_model.specs.Room.{most_cap, free_room}
use Rattle.casper_model.specs.Shared.{Shared, client_at, fallen_at, is_live, place_client}
use Rattle.casper_model.specs.Stabilisation.{Stabilisation, is_gathering, is_doubtful}
use Rattle.casper_model.specs.Stabilise.{stabilise}
use Rattle.casper_model.specs.State.{State, Unfinished, own_at}
use Rattle.casper_model.specs.Step.{step}
use Rattle.casper_model.specs.WriteOutStep.{of_settled}
use Rattle.casper_model.proofs.AcquireRights.{keeps_acquired, within_places}
use Rattle.casper_model.proofs.OpeningRights.{places_opened}
use Rattle.casper_model.proofs.Additions.{who_opened}
use Rattle.casper_model.proofs.LeaveRights.{vanished_spares}
use Rattle.casper_model.proofs.Places.{client_each, client_placed, client_unplaced}
use Rattle.casper_model.proofs.RunHistory.{others_departed}
use Rattle.casper_model.proofs.StabiliseRights.{keeps_by}
use Rattle.casper_model.proofs.StepRights.{stands_at}
use Rattle.casper_model.proofs.TurnRights.{keeps_told, keeps_served}
use Rattle.casper_laws.specs.Additions.{is_without_turn}
use Rattle.casper_laws.specs.FrozenLaws.{AreWriteOutsInOrder}
use Rattle.casper_turns.proofs.FrozenChanges.{one_of_lead}
use Rattle.casper_turns.proofs.Lists.{find_found, none_passes}
use Rattle.casper_laws.proofs.StepFrozen.{below_places}
use Rattle.casper_laws.proofs.StepImage.{IsOrderly}
use Rattle.casper_answers.specs.Acknowledgement.{makes_turn, may_end, tells_outcome, answer_of_kept, is_leave_of}
use Rattle.casper_answers.specs.Aftermath.{is_gone}
use Rattle.casper_answers.specs.Losses.{carried_out}
use Rattle.casper_answers.proofs.PlaceMoves.{TurnedPlace, PlaceMoves, is_bare, bare_told, bare_acquired, bare_served, bare_stabilised_by, cap_acquired, cap_served, cap_stabilised, min_most, place_of_turn}
use Rattle.casper_answers.proofs.StepWalk.{is_still, Acquires, by_read, by_write, by_wants, by_hold, ShownByTurns, on_step}

-- What each step makes of the place of each client.

-- answers that leave the shared part tell no outcome
pub still_tells : (given : Answer) → is_still given ≡ true → tells_outcome given ≡ true → ⊥
still_tells (answer.Commit place) is tells = true≢false (sym is)
still_tells (answer.FailedFull need free) is tells = true≢false (sym is)
still_tells answer.FailedWorn is tells = true≢false (sym is)
still_tells (answer.FailedDisk doubt) is tells = true≢false (sym is)
still_tells other is tells = true≢false (sym tells)

-- and carry no loss out
pub still_carries : (state : State) (happened : Event) (given : Answer) → is_still given ≡ true → carried_out state happened given ≡ None
still_carries state (event.Vanish who) (answer.VanishLost mark unrecorded) is = absurd (true≢false (sym is))
still_carries state (event.Lose who) (answer.LoseLost mark) is = absurd (true≢false (sym is))
still_carries state (event.Finish lead) (answer.Undone mark) is = absurd (true≢false (sym is))
still_carries state other given is = refl

served_is_turn : (reply : Served) → is_without_turn (of_served reply) ≡ false
served_is_turn served.Ok = refl
served_is_turn (served.RolledBack mark recorded unrecorded) = refl

departed_is_turn : (reply : Served) → is_without_turn (of_depart reply) ≡ false
departed_is_turn served.Ok = refl
departed_is_turn (served.RolledBack mark recorded unrecorded) = refl

failure_is_turn : (how : Outcome) → is_without_turn (of_failure how) ≡ false
failure_is_turn (outcome.Ok version) = refl
failure_is_turn (outcome.Full need free) = refl
failure_is_turn outcome.Worn = refl
failure_is_turn outcome.Disk = refl
failure_is_turn outcome.Doubt = refl

pub stabilise_is_turn : (reply : StabReply) → is_without_turn (of_stabilise reply) ≡ false
stabilise_is_turn (stab.Gathering awaited) = refl
stabilise_is_turn (stab.Sealed pages) = refl
stabilise_is_turn (stab.Doing lead) = refl
stabilise_is_turn (stab.Doubtful lead) = refl
stabilise_is_turn (stab.Committed mark) = refl
stabilise_is_turn (stab.Failed cause) = failure_is_turn cause
stabilise_is_turn (stab.RolledBack mark recorded unrecorded) = refl

only_first : (one : Bool) → (one && true) ≡ one
only_first true = refl
only_first false = refl

turn_of : (who other : ℕ) (without : Bool) → without ≡ false → ((who == other) && not without) ≡ (who == other)
turn_of who other without is = ap (λ one. (who == other) && not one) is ∙ only_first (who == other)

never_gone : (one : Bool) → (one && false) ≡ false
never_gone true = refl
never_gone false = refl

apart_is_false : (who other : ℕ) → other ≢ who → (who == other) ≡ false
apart_is_false who other apart = false_from_ne_true (who == other) (λ same. apart (sym (eqb-true who other same)))

no_both : (one other : Bool) → one ≡ false → (one && other) ≡ false
no_both one other is = ap (λ x. x && other) is

pub option_same : {X : Type 0} (change : X → X) (place : Option X) → ((x : X) → change x ≡ x) → option_map change place ≡ place
option_same change None same = refl
option_same change (Some x) same = ap Some (same x)

module _ (state : State) (known : IsOrderly state) where
  abbrev shared : Shared
  shared = state.shared

  -- a place that is the same after two shared parts
  place_as : (happened : Event) (given : Answer) (middle after : Shared) (who : ℕ) → client_at after who ≡ client_at middle who
      → PlaceMoves state happened given middle who → PlaceMoves state happened given after who
  place_as happened given middle after who same (PlaceMoves.stays it) =
      PlaceMoves.stays (record { still = same ∙ it.still; no_turn = it.no_turn; untold = it.untold; unfallen = it.unfallen })
  place_as happened given middle after who same (PlaceMoves.turns it) =
      PlaceMoves.turns (record {
        turned = subst (TurnedPlace (client_at shared who)) (sym same) it.turned;
        turn = it.turn;
        carried = it.carried;
        there = it.there;
      })
  place_as happened given middle after who same (PlaceMoves.falls it) =
      PlaceMoves.falls (record { fell = same ∙ it.fell; lost = it.lost; carried = it.carried; member = it.member; no_turn = it.no_turn; untold = it.untold })
  place_as happened given middle after who same (PlaceMoves.ends it) =
      PlaceMoves.ends (record {
        outcome = it.outcome;
        one = it.one;
        inside = it.inside;
        asker = it.asker;
        may = it.may;
        tells = it.tells;
        told = it.told;
        ended = same ∙ it.ended;
        no_turn = it.no_turn;
        carried = it.carried;
      })
  place_as happened given middle after who same (PlaceMoves.begins it) =
      PlaceMoves.begins (record { by = it.by; absent = it.absent; cap = it.cap; joined = same ∙ it.joined; most = it.most })
  place_as happened given middle after who same (PlaceMoves.leaves it) =
      PlaceMoves.leaves (record { left = same ∙ it.left; by = it.by; gone = it.gone; turn = it.turn })

  -- a step that leaves the place, tells no outcome and carries no loss out
  stays_quiet : (happened : Event) (given : Answer) (after : Shared) (who : ℕ) → client_at after who ≡ client_at shared who → makes_turn state happened given who ≡ false
      → (((one : Stabilisation) → may_end happened one ≡ true → ⊥) ⊎ (tells_outcome given ≡ false)) → carried_out state happened given ≡ None
      → PlaceMoves state happened given after who
  stays_quiet happened given after who same none quiet carried =
      PlaceMoves.stays (record {
        still = same;
        no_turn = none;
        untold = λ one inside may tells asker.
            ⊎_elim (λ never. never one may) (λ silent. true≢false (sym tells ∙ silent)) quiet;
        unfallen = λ lost some member. true≢false (sym (sym (ap is_some carried) ∙ ap is_some some));
      })

  -- a turn of a client
  turn_places : (happened : Event) (given : Answer) (who : ℕ) (after : Shared) (own_after : Own) → is_live shared who ≡ true
      → TurnKeeps shared (own_at state who) after own_after → is_bare (client_at after (own_at state who).who) ≡ true
      → ((own_at state who).cap ≤ most_cap → own_after.cap ≤ most_cap) → ((other : ℕ) → makes_turn state happened given other ≡ (who == other))
      → ((one : Stabilisation) → may_end happened one ≡ true → ⊥) → carried_out state happened given ≡ None
      → ((number : ℕ) → (is_leave_of number happened && is_gone given) ≡ false) → (number : ℕ) → PlaceMoves state happened given after number
  turn_places happened given who after own_after live keeps bare most turns never carried there number = by_number (cases_eq number who)
    where
      own : Own
      own = own_at state who

      it : own.who ≡ who
      it = known.history.order.shaped.numbers who

      by_number : (number ≡ who) ⊎ (number ≢ who) → PlaceMoves state happened given after number
      by_number (inl same) =
          PlaceMoves.turns (record {
            turned = subst (λ at. TurnedPlace (client_at shared at) (client_at after at)) (it ∙ sym same)
                (place_of_turn shared own after own_after (stands_at state who known.history.order live) keeps bare most);
            turn = turns number ∙ eq-eqb who number (sym same);
            carried = carried;
            there = there number;
          })
      by_number (inr apart) =
          stays_quiet happened given after number (keeps.others number (λ same. apart (same ∙ it))) (turns number ∙ apart_is_false who number apart) (inl never) carried

  live_own : (who : ℕ) → is_live shared who ≡ true → is_some (client_at shared (own_at state who).who) ≡ true
  live_own who live = ap (is_live shared) (known.history.order.shaped.numbers who) ∙ live

  acquires_end_nothing : (who : ℕ) (happened : Event) → Acquires who happened → (one : Stabilisation) → may_end happened one ≡ true → ⊥
  acquires_end_nothing who happened (by_read page word) one may = true≢false (sym may)
  acquires_end_nothing who happened (by_write page word value) one may = true≢false (sym may)
  acquires_end_nothing who happened (by_wants wanted) one may = true≢false (sym may)
  acquires_end_nothing who happened (by_hold wanted) one may = true≢false (sym may)

  pub acquires_carry_nothing : (who : ℕ) (happened : Event) (given : Answer) → Acquires who happened → carried_out state happened given ≡ None
  acquires_carry_nothing who happened given (by_read page word) = refl
  acquires_carry_nothing who happened given (by_write page word value) = refl
  acquires_carry_nothing who happened given (by_wants wanted) = refl
  acquires_carry_nothing who happened given (by_hold wanted) = refl

  acquires_leave_nobody : (who : ℕ) (happened : Event) (given : Answer) → Acquires who happened → (number : ℕ) → (is_leave_of number happened && is_gone given) ≡ false
  acquires_leave_nobody who happened given (by_read page word) number = refl
  acquires_leave_nobody who happened given (by_write page word value) number = refl
  acquires_leave_nobody who happened given (by_wants wanted) number = refl
  acquires_leave_nobody who happened given (by_hold wanted) number = refl

  -- a client that leaves
  left_place : (happened : Event) (given : Answer) (both : Both) (who : ℕ) → both.own.who ≡ who → who < length both.shared.clients → is_leave_of who happened ≡ true
      → is_gone given ≡ true → makes_turn state happened given who ≡ true → PlaceMoves state happened given (absent both).shared who
  left_place happened given both who same below by gone turn =
      PlaceMoves.leaves (record {
        left = subst (λ at. client_at (place_client at None both.shared) who ≡ None) (sym same) (client_placed who None both.shared below);
        by = by;
        gone = gone;
        turn = turn;
      })

  departed_places : (who : ℕ) → is_live shared who ≡ true → (fallen : Option Fallen) → fallen_at shared (own_at state who).who ≡ fallen → (number : ℕ)
      → PlaceMoves state (event.Depart who) (of_depart (departed_by shared (own_at state who) fallen).reply) (departed_by shared (own_at state who) fallen).shared number
  departed_places who live (Some fallen) e number =
      let own = own_at state who in
      turn_places (event.Depart who) _ who _ _ live (keeps_told shared own fallen (stands_at state who known.history.order live) e) (bare_told shared own (live_own who live))
      (λ most. most) (λ other. turn_of who other false refl) (λ one may. true≢false (sym may)) refl (λ at. never_gone (who == at)) number
  departed_places who live None e number = by_number (cases_eq number who)
    where
      own : Own
      own = own_at state who

      it : own.who ≡ who
      it = known.history.order.shaped.numbers who

      both : Both
      both = opened shared own

      by_number : (number ≡ who) ⊎ (number ≢ who) → PlaceMoves state (event.Depart who) answer.Left (absent (opened shared own)).shared number
      by_number (inl same) =
          subst (PlaceMoves state (event.Depart who) answer.Left (absent (opened shared own)).shared) (sym same)
          (left_place (event.Depart who) answer.Left both who (who_opened shared own ∙ it)
          (subst (λ count. who < count) (sym (places_opened shared own))
          (subst (λ at. at < length shared.clients) it (within_places shared own (stands_at state who known.history.order live))))
          (eq-eqb who who refl) refl (turn_of who who false refl ∙ eq-eqb who who refl))
      by_number (inr apart) =
          stays_quiet (event.Depart who) answer.Left _ number (others_departed shared own number (λ same. apart (same ∙ it)))
          (turn_of who number false refl ∙ apart_is_false who number apart) (inl (λ one may. true≢false (sym may))) refl

  -- a loss that is carried out
  rolled_places : (happened : Event) (given : Answer) (lost : ℕ) → carried_out state happened given ≡ Some lost → tells_outcome given ≡ false → (number : ℕ)
      → makes_turn state happened given number ≡ false → PlaceMoves state happened given (rolled_back shared lost) number
  rolled_places happened given lost carried silent number none = by_member (cases_Bool (has_member number members))
    where
      members : List ℕ
      members = association_of shared.trail lost

      change : ℕ → Client → Client
      change who client = cond (has_member who (association_of shared.trail lost)) (fallen_behind shared.trail who client) client

      at : client_at (rolled_back shared lost) number ≡ option_map (change number) (client_at shared number)
      at = client_each change shared number

      by_member : (has_member number members ≡ true) ⊎ (has_member number members ≡ false) → PlaceMoves state happened given (rolled_back shared lost) number
      by_member (inl member) =
          PlaceMoves.falls (record {
            fell = at ∙ by_place (client_at shared number);
            lost = lost;
            carried = carried;
            member = member;
            no_turn = none;
            untold = silent;
          })
        where
          by_place : (place : Option Client) → option_map (change number) place ≡ option_map (fallen_behind shared.trail number) place
          by_place None = refl
          by_place (Some client) = ap Some (cond-true (has_member number (association_of shared.trail lost)) (fallen_behind shared.trail number client) client member)
      by_member (inr out) =
          PlaceMoves.stays (record {
            still = at ∙ option_same (change number) (client_at shared number)
                (λ client. cond-false (has_member number (association_of shared.trail lost)) (fallen_behind shared.trail number client) client out);
            no_turn = none;
            untold = λ one inside may tells asker. true≢false (sym tells ∙ silent);
            unfallen = λ other some member.
                let it : lost ≡ other = ap (λ (x : Option ℕ). unwrap_or x other) (sym carried ∙ some) in
                true≢false (sym (subst (λ one. has_member number (association_of shared.trail one) ≡ true) (sym it) member) ∙ out);
          })

  lost_places : (happened : Event) (who unrecorded : ℕ) (answer_of : Loss → Answer) (found : Option Stabilisation)
      → ((mark : ℕ) → carried_out state happened (answer_of (loss.Lost mark unrecorded)) ≡ Some who) → ((reply : Loss) → tells_outcome (answer_of reply) ≡ false)
      → ((lead : ℕ) → carried_out state happened (answer_of (loss.Noted lead unrecorded)) ≡ None) → (number : ℕ)
      → ((reply : Loss) → makes_turn state happened (answer_of reply) number ≡ false)
      → PlaceMoves state happened (answer_of (lost_in shared who unrecorded found).reply) (lost_in shared who unrecorded found).shared number
  lost_places happened who unrecorded answer_of None lost silent noted number none =
      rolled_places happened _ who (lost (length shared.trail)) (silent (loss.Lost (length shared.trail) unrecorded)) number (none (loss.Lost (length shared.trail) unrecorded))
  lost_places happened who unrecorded answer_of (Some one) lost silent noted number none =
      cond_both {A = Changed Loss} (is_gathering one.phase) _ _ (λ done. PlaceMoves state happened (answer_of done.reply) done.shared number)
      (λ gathering.
      rolled_places happened _ who (lost (length shared.trail)) (silent (loss.Lost (length shared.trail) unrecorded)) number
      (none (loss.Lost (length shared.trail) unrecorded)))
      (λ held. stays_quiet happened _ _ number refl (none (loss.Noted one.lead unrecorded)) (inr (silent (loss.Noted one.lead unrecorded))) (noted one.lead))

  lose_silent : (reply : Loss) → tells_outcome (of_lose reply) ≡ false
  lose_silent (loss.Lost mark unrecorded) = refl
  lose_silent (loss.Noted lead unrecorded) = refl
  lose_silent (loss.Already mark) = refl

  vanish_silent : (reply : Loss) → tells_outcome (of_vanish reply) ≡ false
  vanish_silent (loss.Lost mark unrecorded) = refl
  vanish_silent (loss.Noted lead unrecorded) = refl
  vanish_silent (loss.Already mark) = refl

  pub lose_places : (who number : ℕ) → PlaceMoves state (event.Lose who) (of_lose (lose shared who).reply) (lose shared who).shared number
  lose_places who number = by_fallen (fallen_at shared who)
    where
      by_fallen : (fallen : Option Fallen) → PlaceMoves state (event.Lose who) (of_lose (lose_by shared who fallen).reply) (lose_by shared who fallen).shared number
      by_fallen (Some fallen) = stays_quiet (event.Lose who) (answer.Already fallen.mark) shared number refl refl (inr refl) refl
      by_fallen None =
          lost_places (event.Lose who) who 0 of_lose (stabilisation_of shared who) (λ mark. refl) lose_silent (λ lead. refl) number (λ reply. refl)

  pub vanished_reply_carries : (who : ℕ) (mark unrecorded : ℕ) (fallen : Option Fallen) → fallen_at shared who ≡ fallen
      → carried_out state (event.Vanish who) (answer.VanishLost mark unrecorded) ≡ cond (is_some fallen) None (Some who)
  vanished_reply_carries who mark unrecorded fallen e = ap (λ (x : Option Fallen). cond (is_some x) None (Some who)) e

  vanish_gone : (who : ℕ) (fallen : Option Fallen) → is_gone (of_vanish (vanished_by shared (own_at state who) fallen).reply) ≡ true
  vanish_gone who (Some fallen) = refl
  vanish_gone who None = by_found (stabilisation_of shared (own_at state who).who)
    where
      by_found : (found : Option Stabilisation) → is_gone (of_vanish (lost_in shared (own_at state who).who (length (own_at state who).pending) found).reply) ≡ true
      by_found None = refl
      by_found (Some one) = cond_both {A = Changed Loss} (is_gathering one.phase) _ _ (λ done. is_gone (of_vanish done.reply) ≡ true) (λ is. refl) (λ is. refl)

  gone_is_turn : (given : Answer) → is_gone given ≡ true → is_without_turn given ≡ false
  gone_is_turn answer.Left is = refl
  gone_is_turn (answer.VanishLost mark unrecorded) is = refl
  gone_is_turn (answer.VanishNoted lead unrecorded) is = refl
  gone_is_turn other is = absurd (true≢false (sym is))

  pub vanish_places : (who : ℕ) → IsClient who → (number : ℕ)
      → PlaceMoves state (event.Vanish who) (of_vanish (vanish shared (own_at state who)).reply) (vanish shared (own_at state who)).shared number
  vanish_places who is number = by_number (cases_eq number who)
    where
      own : Own
      own = own_at state who

      it : own.who ≡ who
      it = known.history.order.shaped.numbers who

      middle : Shared
      middle = (vanished_by shared own (fallen_at shared own.who)).shared

      given : Answer
      given = of_vanish (vanished_by shared own (fallen_at shared own.who)).reply

      gone : is_gone given ≡ true
      gone = vanish_gone who (fallen_at shared own.who)

      by_fallen : (fallen : Option Fallen) → fallen_at shared own.who ≡ fallen → number ≢ who
          → PlaceMoves state (event.Vanish who) (of_vanish (vanished_by shared own fallen).reply) (vanished_by shared own fallen).shared number
      by_fallen (Some fallen) e apart =
          stays_quiet (event.Vanish who) _ shared number refl (no_both (who == number) true (apart_is_false who number apart)) (inl (λ one may. true≢false (sym may)))
          (vanished_reply_carries who fallen.mark (length own.pending) (Some fallen) (ap (fallen_at shared) (sym it) ∙ e))
      by_fallen None e apart =
          lost_places (event.Vanish who) own.who (length own.pending) of_vanish (stabilisation_of shared own.who)
          (λ mark. vanished_reply_carries who mark (length own.pending) None (ap (fallen_at shared) (sym it) ∙ e) ∙ ap Some (sym it)) vanish_silent (λ lead. refl) number
          (λ reply. no_both (who == number) (not (is_without_turn (of_vanish reply))) (apart_is_false who number apart))

      by_number : (number ≡ who) ⊎ (number ≢ who) → PlaceMoves state (event.Vanish who) given (absent (record { shared = middle; own = own })).shared number
      by_number (inl same) =
          subst (PlaceMoves state (event.Vanish who) given (absent (record { shared = middle; own = own })).shared) (sym same)
          (left_place (event.Vanish who) given (record { shared = middle; own = own }) who it
          (subst (λ count. who < count) (sym (vanished_spares shared own (fallen_at shared own.who)).places)
          (subst (λ at. at < length shared.clients) it (below_places state who known.history.order is)))
          (eq-eqb who who refl) gone (turn_of who who (is_without_turn given) (gone_is_turn given gone) ∙ eq-eqb who who refl))
      by_number (inr apart) =
          place_as (event.Vanish who) given middle (absent (record { shared = middle; own = own })).shared number
          (client_unplaced own.who None middle number (λ same. apart (same ∙ it))) (by_fallen (fallen_at shared own.who) refl apart)

  -- a stabilisation that ends with an outcome
  ended_places : (happened : Event) (given : Answer) (one : Stabilisation) (outcome : Kept) → Contains shared.stabilisations one → may_end happened one ≡ true
      → ((other : Stabilisation) → Contains shared.stabilisations other → may_end happened other ≡ true → other ≡ one) → given ≡ answer_of_kept outcome
      → tells_outcome given ≡ true → carried_out state happened given ≡ None → (number : ℕ) → makes_turn state happened given number ≡ false
      → PlaceMoves state happened given (ended shared one outcome) number
  ended_places happened given one outcome inside may only tells told carried number none = by_asker (cases_Bool (has_member number one.askers))
    where
      change : ℕ → Client → Client
      change who client = cond (has_member who one.askers) (record client { kept = Some outcome }) client

      at : client_at (ended shared one outcome) number ≡ option_map (change number) (client_at shared number)
      at = client_each change shared number

      by_asker : (has_member number one.askers ≡ true) ⊎ (has_member number one.askers ≡ false) → PlaceMoves state happened given (ended shared one outcome) number
      by_asker (inl asker) =
          PlaceMoves.ends (record {
            outcome = outcome;
            one = one;
            inside = inside;
            asker = asker;
            may = may;
            tells = tells;
            told = told;
            ended = at ∙ by_place (client_at shared number);
            no_turn = none;
            carried = carried;
          })
        where
          by_place : (place : Option Client) → option_map (change number) place ≡ option_map (λ (client : Client). record client { kept = Some outcome }) place
          by_place None = refl
          by_place (Some client) = ap Some (cond-true (has_member number one.askers) (record client { kept = Some outcome }) client asker)
      by_asker (inr out) =
          PlaceMoves.stays (record {
            still = at ∙ option_same (change number) (client_at shared number)
                (λ client. cond-false (has_member number one.askers) (record client { kept = Some outcome }) client out);
            no_turn = none;
            untold = λ other also ends told asker.
                true≢false (sym (ap (λ (x : Stabilisation). has_member number x.askers) (sym (only other also ends)) ∙ asker) ∙ out);
            unfallen = λ lost some member. true≢false (sym (sym (ap is_some carried) ∙ ap is_some some));
          })

  finished_places : (lead : ℕ) (one : Stabilisation) (how : Outcome) → stabilisation_led_by shared lead ≡ Some one → (number : ℕ)
      → PlaceMoves state (event.Finish lead) (of_finish (Some (finished_as shared one how).reply)) (finished_as shared one how).shared number
  finished_places lead one how found number = by_end how
    where
      led : Contains shared.stabilisations one × ((one.lead == lead) ≡ true)
      led = find_found (λ (x : Stabilisation). x.lead == lead) shared.stabilisations one found

      only : (other : Stabilisation) → Contains shared.stabilisations other → (other.lead == lead) ≡ true → other ≡ one
      only other also same = one_of_lead shared other one known.orderly.frozen also led.0 (eqb-true other.lead lead same ∙ sym (eqb-true one.lead lead led.1))

      by_noted : (cause : Outcome) (noted : Option ℕ) → one.noted ≡ noted → of_failure cause ≡ answer_of_kept (kept.Failed cause)
          → tells_outcome (of_failure cause) ≡ true
          → PlaceMoves state (event.Finish lead) (of_finish (Some (failed shared one cause noted).reply)) (failed shared one cause noted).shared number
      by_noted cause None none tells told =
          ended_places (event.Finish lead) (of_failure cause) one (kept.Failed cause) led.0 led.1 only tells told (by_cause cause) number refl
        where
          by_cause : (cause : Outcome) → carried_out state (event.Finish lead) (of_failure cause) ≡ None
          by_cause (outcome.Ok version) = refl
          by_cause (outcome.Full need free) = refl
          by_cause outcome.Worn = refl
          by_cause outcome.Disk = refl
          by_cause outcome.Doubt = refl
      by_noted cause (Some lost) some tells told =
          rolled_places (event.Finish lead) (answer.Undone (length shared.trail)) lost
          (ap (λ (x : Option Stabilisation). option_and_then (λ (y : Stabilisation). y.noted) x) found ∙ some) refl number refl

      by_end : (end : Outcome) → PlaceMoves state (event.Finish lead) (of_finish (Some (finished_as shared one end).reply)) (finished_as shared one end).shared number
      by_end (outcome.Ok version) =
          place_as (event.Finish lead) (answer.Commit (length shared.trail)) (ended shared one (kept.Committed (length shared.trail))) (committed shared one).shared number refl
          (ended_places (event.Finish lead) (answer.Commit (length shared.trail)) one (kept.Committed (length shared.trail)) led.0 led.1 only refl refl refl number refl)
      by_end (outcome.Full need free) = by_noted (outcome.Full need free) one.noted refl refl refl
      by_end outcome.Worn = by_noted outcome.Worn one.noted refl refl refl
      by_end outcome.Disk = by_noted outcome.Disk one.noted refl refl refl
      by_end outcome.Doubt = stays_quiet (event.Finish lead) answer.InDoubt _ number refl refl (inr refl) refl

  pub finish_places : (lead : ℕ) (how : Outcome) (number : ℕ) → PlaceMoves state (event.Finish lead) (of_finish (finish shared lead how).reply) (finish shared lead how).shared number
  finish_places lead how number = by_found (stabilisation_led_by shared lead) refl
    where
      by_found : (one : Option Stabilisation) → stabilisation_led_by shared lead ≡ one
          → PlaceMoves state (event.Finish lead) (of_finish (finished_by shared how one).reply) (finished_by shared how one).shared number
      by_found None e = stays_quiet (event.Finish lead) answer.NoJob shared number refl refl (inr refl) refl
      by_found (Some one) e = finished_places lead one how e number

  -- one stabilisation is in doubt at most
  pub doubtful_once : (one other : Stabilisation) → Contains shared.stabilisations one → Contains shared.stabilisations other → is_doubtful one.phase ≡ true
      → is_doubtful other.phase ≡ true → one ≡ other
  doubtful_once one other inside also doubtful doubtful_too = by_unfinished state.unfinished known.orderly.written
    where
      by_unfinished : (unfinished : Option Unfinished) → AreWriteOutsInOrder state unfinished → one ≡ other
      by_unfinished None order = order.most one other inside also doubtful doubtful_too
      by_unfinished (Some unfinished) order =
          absurd (true≢false (sym doubtful ∙ none_passes (λ (x : Stabilisation). is_doubtful x.phase) shared.stabilisations one order.alone inside))

  pub settled_places : (number : ℕ) → PlaceMoves state event.Settle (of_settled (settled shared).reply) (settled shared).shared number
  settled_places number = by_found (doubtful_of shared) refl
    where
      by_found : (one : Option Stabilisation) → doubtful_of shared ≡ one → PlaceMoves state event.Settle (of_settled (settled_by shared one).reply) (settled_by shared one).shared number
      by_found None e = stays_quiet event.Settle answer.Nothing shared number refl refl (inr refl) refl
      by_found (Some one) e =
          let found = find_found (λ (x : Stabilisation). is_doubtful x.phase) shared.stabilisations one e in
          place_as event.Settle (answer.Commit (length shared.trail)) (ended shared one (kept.Committed (length shared.trail))) (committed shared one).shared number refl
          (ended_places event.Settle (answer.Commit (length shared.trail)) one (kept.Committed (length shared.trail)) found.0 found.1
          (λ other also doubtful. doubtful_once other one also found.0 doubtful found.1) refl refl refl number refl)

  pub join_places : (who : ℕ) → IsClient who → (number : ℕ)
      → PlaceMoves state (event.Join who) (of_join (join shared (own_at state who)).reply) (join shared (own_at state who)).shared number
  join_places who is number = by_place (client_at shared own.who) refl
    where
      own : Own
      own = own_at state who

      it : own.who ≡ who
      it = known.history.order.shaped.numbers who

      joins : client_at shared own.who ≡ None → (count : ℕ) → count ≤ most_cap
          → PlaceMoves state (event.Join who) answer.Joined (place_client own.who (Some (new_client count)) shared) number
      joins none count most = by_number (cases_eq number who)
        where
          by_number : (number ≡ who) ⊎ (number ≢ who) → PlaceMoves state (event.Join who) answer.Joined (place_client own.who (Some (new_client count)) shared) number
          by_number (inl same) =
              PlaceMoves.begins (record {
                by = ap event.Join (sym same);
                absent = ap (client_at shared) (same ∙ sym it) ∙ none;
                cap = count;
                joined = ap (client_at (place_client own.who (Some (new_client count)) shared)) (same ∙ sym it)
                    ∙ client_placed own.who (Some (new_client count)) shared (below_places state who known.history.order is);
                most = most;
              })
          by_number (inr apart) =
              stays_quiet (event.Join who) answer.Joined _ number (client_unplaced own.who (Some (new_client count)) shared number (λ same. apart (same ∙ it))) refl (inr refl) refl

      by_place : (place : Option Client) → client_at shared own.who ≡ place
          → PlaceMoves state (event.Join who) (of_join (joined_by shared own place).reply) (joined_by shared own place).shared number
      by_place (Some client) e = stays_quiet (event.Join who) answer.Busy shared number refl refl (inr refl) refl
      by_place None e =
          cond_both {A = Turned (Option JoinRefusal)} (free_room shared == 0) _ _ (λ turn. PlaceMoves state (event.Join who) (of_join turn.reply) turn.shared number)
          (λ full. stays_quiet (event.Join who) _ shared number refl refl (inr refl) refl) (λ room. joins e (min most_cap (free_room shared)) (min_most (free_room shared)))

  -- each step, at each place
  abbrev EachPlace : Event → Answer → Shared → Type 0
  EachPlace happened given after = (who : ℕ) → PlaceMoves state happened given after who

  places_by_turns : ShownByTurns state EachPlace
  places_by_turns = record {
    still = λ happened given is none who.
        stays_quiet happened given shared who refl (none who) (inr (false_from_ne_true (tells_outcome given) (still_tells given is))) (still_carries state happened given is);
    joining = λ who is. join_places who is;
    acquiring = λ happened who wants calls given is live acquires turns.
        let own = own_at state who in
        turn_places happened given who _ _ live (keeps_acquired wants calls shared own (stands_at state who known.history.order live) (fallen_at shared own.who) refl)
        (bare_acquired shared own (live_own who live) wants calls (fallen_at shared own.who)) (cap_acquired wants calls shared own (fallen_at shared own.who)) turns
        (acquires_end_nothing who happened acquires) (acquires_carry_nothing who happened given acquires) (acquires_leave_nobody who happened given acquires);
    serving = λ who is live.
        let own = own_at state who in
        turn_places (event.Serve who) _ who _ _ live (keeps_served shared own (stands_at state who known.history.order live) (fallen_at shared own.who) refl)
        (bare_served shared own (live_own who live) (fallen_at shared own.who)) (cap_served shared own (fallen_at shared own.who))
        (λ other. turn_of who other _ (served_is_turn (serve shared own).reply)) (λ one may. true≢false (sym may)) refl (λ at. refl);
    stabilising = λ who is live.
        let own = own_at state who in
        turn_places (event.Stabilise who) _ who _ _ live (keeps_by shared own (stands_at state who known.history.order live) (fallen_at shared own.who) refl)
        (bare_stabilised_by shared own (live_own who live) (fallen_at shared own.who)) (cap_stabilised shared own (fallen_at shared own.who))
        (λ other. turn_of who other _ (stabilise_is_turn (stabilise shared own).reply)) (λ one may. true≢false (sym may)) refl (λ at. refl);
    departing = λ who is live. departed_places who live (fallen_at shared (own_at state who).who) refl;
    vanishing = λ who is live. vanish_places who is;
    losing = λ who is live. lose_places who;
    finishing = λ lead unfinished e same. finish_places lead unfinished.outcome;
    settling = λ one e. settled_places;
  }

  pub step_places : (happened : Event) (outside : Outside) → NamesClients happened → (who : ℕ)
      → PlaceMoves state happened (step state happened outside).answer (step state happened outside).state.shared who
  step_places happened outside is = on_step state EachPlace places_by_turns happened outside is
