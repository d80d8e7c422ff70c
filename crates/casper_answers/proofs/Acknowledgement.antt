use Rattle.std.proofs.Common.{◌≡◌, ℕ, List, [], ◌∷◌, ◌++◌, Bool, true, false, not, ◌&&◌, ◌||◌, ◌==◌, length, Contains, refl, sym, ap, ◌∙◌, subst, inl, inr, ⊎_elim, true≢false}
use Rattle.std.specs.Prelude.{Option, None, Some, is_some, option_map, option_and_then, unwrap_or}
use Rattle.std.specs.List.{list_any}
use Rattle.std.proofs.lemmas.Bool.{cond_both, eqb-true}
use Rattle.casper_words.specs.declared.call.Call.{Call}
use Rattle.casper_space.specs.declared.answer.Answer.{Answer}
use Rattle.casper_space.specs.declared.answer.Answer.TheVariants as answer
use Rattle.casper_trail.specs.Calls.{entries_by}
use Rattle.casper_trail.specs.Parts.{as_items}
use Rattle.casper_trail.specs.Value.{is_write}
use Rattle.casper_model.specs.declared.event.Event.{Event}
use Rattle.casper_model.specs.declared.event.Event.TheVariants as event
use Rattle.casper_model.specs.declared.outcome.Kept.{Kept}
use Rattle.casper_model.specs.declared.outcome.Kept.TheVariants as kept
use Rattle.casper_model.specs.declared.outcome.Outcome.TheVariants as outcome
use Rattle.casper_model.specs.Client.{Client}
use Rattle.casper_model.specs.Finish.{doubtful_of}
use Rattle.casper_model.specs.Loss.{fallen_behind}
use Rattle.casper_model.specs.Outside.{Outside, is_settle_failed}
use Rattle.casper_model.specs.Own.{Own}
use Rattle.casper_model.specs.Rights.{NamesClients}
use Rattle.casper_model.specs.Shared.{Shared, client_at, of_client, fallen_at}
use Rattle.casper_model.specs.Stabilisation.{Stabilisation, is_doubtful}
use Rattle.casper_model.specs.Stabilise.{kept_at, stabilise}
use Rattle.casper_model.specs.State.{State, Unfinished, own_at, start}
use Rattle.casper_model.specs.Step.{step, stabilise_turn}
use Rattle.casper_model.specs.Run.{state_after}
use Rattle.casper_model.specs.WriteOutStep.{finish_step, finish_turn, settle_step, settle_turn}
use Rattle.casper_model.proofs.StateHistory.{in_owns}
use Rattle.casper_laws.specs.Additions.{commit_mark, finish_marks, settle_marks, mark_of, turn_entries, is_without_turn}
use Rattle.casper_laws.specs.AnswerLaws.{is_over}
use Rattle.casper_laws.specs.FrozenLaws.{OneIsUnfinished, AreWriteOutsInOrder}
use Rattle.casper_laws.specs.OwnLists.{is_told}
use Rattle.casper_laws.proofs.AddedBySteps.{step_adds_exactly}
use Rattle.casper_laws.proofs.CompletedCalls.{guarded_turn, live_turn}
use Rattle.casper_turns.proofs.Lists.{find_found}
use Rattle.casper_laws.proofs.PendingSteps.{stabilise_empties}
use Rattle.casper_answers.specs.Acknowledgement.{is_write_by, KeepsTrueCommits, TellsTrueCommits, FinishesWithItsMark, SettlesWithItsMark, KeepsWhatWasAsked, TellsEachAsker, DropsTheKept, LeavesTheKept, answer_of_kept, tells_outcome, may_end, makes_turn, EachKeptCommitIsTrue, EachStabiliseTellsTheKept, EachStabiliseTellsOnlyTheKept, EachToldCommitIsTrue, EachFinishedCommitHasItsMark, EachSettledCommitHasItsMark, EachAskerIsAMember, EachAskerStands, EachAskerHasNothingKept, EachAskerWaitsByItsOwn, EachAskerWaitsOn, EachUnderWayWaits, EachKeptOutcomeWasAsked, EachAskerIsTold, EachTurnDropsTheKept, OnlyTurnsDropTheKept}
use Rattle.casper_answers.proofs.CommitSteps.{CoversTrail, HoldsCommit, covers_more, kept_before, own_here, finish_commit, settle_commit}
use Rattle.casper_answers.proofs.PlaceMoves.{EndedPlace, PlaceMoves}
use Rattle.casper_answers.proofs.Sessions.{IsSession, every_session}
use Rattle.casper_answers.proofs.StabiliseTurns.{tells_the_kept, tells_only_the_kept, waits_where_under_way}
use Rattle.casper_answers.proofs.StepMoves.{waits_by_its_own, waits_on}
use Rattle.casper_answers.proofs.StepPlaces.{step_places}

-- The laws of acknowledgement.

-- which outcome an answer tells
abbrev kept_in : Answer → Option Kept
kept_in (answer.Commit place) = Some (kept.Committed place)
kept_in (answer.FailedFull need free) = Some (kept.Failed (outcome.Full need free))
kept_in answer.FailedWorn = Some (kept.Failed outcome.Worn)
kept_in (answer.FailedDisk doubt) = Some (kept.Failed outcome.Disk)
kept_in other = None

kept_is_told : (kept : Kept) → tells_outcome (answer_of_kept kept) ≡ true → kept_in (answer_of_kept kept) ≡ Some kept
kept_is_told (kept.Committed place) tells = refl
kept_is_told (kept.Failed (outcome.Ok version)) tells = absurd (true≢false (sym tells))
kept_is_told (kept.Failed (outcome.Full need free)) tells = refl
kept_is_told (kept.Failed outcome.Worn) tells = refl
kept_is_told (kept.Failed outcome.Disk) tells = refl
kept_is_told (kept.Failed outcome.Doubt) tells = absurd (true≢false (sym tells))

over_is_told : (kept : Kept) → is_over kept ≡ true → tells_outcome (answer_of_kept kept) ≡ true
over_is_told (kept.Committed place) over = refl
over_is_told (kept.Failed (outcome.Ok version)) over = absurd (true≢false (sym over))
over_is_told (kept.Failed (outcome.Full need free)) over = refl
over_is_told (kept.Failed outcome.Worn) over = refl
over_is_told (kept.Failed outcome.Disk) over = refl
over_is_told (kept.Failed outcome.Doubt) over = absurd (true≢false (sym over))

pub same_kept : (one other : Kept) → tells_outcome (answer_of_kept one) ≡ true → answer_of_kept one ≡ answer_of_kept other → one ≡ other
same_kept one other tells same =
    ap (λ (x : Option Kept). unwrap_or x one)
    (sym (kept_is_told one tells) ∙ ap kept_in same ∙ kept_is_told other (sym (ap tells_outcome same) ∙ tells))

-- what a turn of a client cannot end
turn_ends_nothing : (state : State) (happened : Event) (given : Answer) (who : ℕ) (one : Stabilisation) → makes_turn state happened given who ≡ true → may_end happened one ≡ true → ⊥
turn_ends_nothing state (event.Finish lead) given who one turn may = true≢false (sym turn)
turn_ends_nothing state event.Settle given who one turn may = true≢false (sym turn)
turn_ends_nothing state other given who one turn may = true≢false (sym may)

module _ (state : State) (session : IsSession state) where
  abbrev shared : Shared
  shared = state.shared

  keeps_true : KeepsTrueCommits state
  keeps_true who place is =
      let holds = session.commits who place is in
      record { commit = holds.covers.commit; behind = record { recorded = holds.covers.recorded; pending = holds.pending } }

  no_writes_in_calls : (who : ℕ) (calls : List Call) → list_any (λ call. is_write call.op) calls ≡ false → list_any (is_write_by who) (as_items (entries_by who calls)) ≡ false
  no_writes_in_calls who [] none = refl
  no_writes_in_calls who (call ∷ calls) none =
      by_op (is_write call.op) (list_any (λ call. is_write call.op) calls) (λ rest. no_writes_in_calls who calls rest) none
    where
      by_op : (writes more : Bool) → (more ≡ false → list_any (is_write_by who) (as_items (entries_by who calls)) ≡ false) → (writes || more) ≡ false
          → ((writes && (who == who)) || list_any (is_write_by who) (as_items (entries_by who calls))) ≡ false
      by_op true more rest both = absurd (true≢false both)
      by_op false more rest both = rest both

  tells_true : TellsTrueCommits state
  tells_true who place outside client told = record {
    commit = covers.commit;
    behind = record { recorded = covers.recorded; pending = ap (list_any (λ (call : Call). is_write call.op)) emptied };
  }
    where
      after : State
      after = (step state (event.Stabilise who) outside).state

      given : Answer
      given = (step state (event.Stabilise who) outside).answer

      found : (outcome : Kept) × (kept_at shared who ≡ Some outcome) × (given ≡ answer_of_kept outcome)
      found = tells_only_the_kept state session.answering.known who outside client (ap tells_outcome told)

      kept_place : kept_at shared who ≡ Some (kept.Committed place)
      kept_place = found.1 ∙ ap Some (same_kept found.0 (kept.Committed place) (ap tells_outcome (sym found.2 ∙ told)) (sym found.2 ∙ told))

      holds : HoldsCommit state who place
      holds = session.commits who place kept_place

      emptied : (own_at (step state (event.Stabilise who) outside).state who).pending ≡ []
      emptied =
          live_turn (λ turn. turn.answer ≡ answer.Commit place → (own_at turn.state who).pending ≡ []) who state (stabilise_turn who)
          (λ is. absurd (true≢false (sym (ap tells_outcome is))))
          (λ live is.
          let own = own_at state who in
          let empties = stabilise_empties shared own (fallen_at shared own.who) in
          let same = empties.who ∙ session.answering.known.history.order.shaped.numbers who in
          ap (λ (x : Own). x.pending)
          (own_here state (stabilise shared own).own who same (in_owns state who (stabilise shared own).own session.answering.known.history.order client empties.who)) ∙ empties.pending)
          told

      covers : CoversTrail (step state (event.Stabilise who) outside).state.shared.trail place who
      covers =
          subst (λ trail. CoversTrail trail place who) (sym (step_adds_exactly state (event.Stabilise who) outside session.answering.known.history.order))
          (covers_more shared.trail (as_items (turn_entries state who given)) place who
          (cond_both (is_without_turn given || is_told state who given) [] (entries_by who (own_at state who).pending)
          (λ entries. list_any (is_write_by who) (as_items entries) ≡ false) (λ is. refl) (λ is. no_writes_in_calls who (own_at state who).pending holds.pending))
          holds.covers)

  finishes_with : FinishesWithItsMark state
  finishes_with lead place outside client told = (
    by_unfinished state.unfinished refl told,
    step_adds_exactly state (event.Finish lead) outside session.answering.known.history.order
        ∙ ap (λ given. shared.trail ++ finish_marks shared lead given) told,
  )
    where
      by_unfinished : (unfinished : Option Unfinished) → state.unfinished ≡ unfinished → (finish_step state lead unfinished).answer ≡ answer.Commit place → place ≡ length shared.trail
      by_unfinished None e = λ is. absurd (true≢false (sym (ap tells_outcome is)))
      by_unfinished (Some unfinished) e =
          guarded_turn (λ turn. turn.answer ≡ answer.Commit place → place ≡ length shared.trail) (unfinished.lead == lead) answer.NoJob state (finish_turn lead unfinished.outcome)
          (λ is. absurd (true≢false (sym (ap tells_outcome is))))
          (λ same is.
          let stands : OneIsUnfinished state unfinished = subst (AreWriteOutsInOrder state) e session.answering.known.orderly.written in
          let seal = stands.stabilisation in
          (finish_commit state session.answering session.commits lead unfinished.outcome seal.0 place (seal.2 ∙ eqb-true unfinished.lead lead same) seal.1 is).0)

  settles_with : SettlesWithItsMark state
  settles_with place outside told = by_found (doubtful_of shared) refl told
    where
      by_found : (found : Option Stabilisation) → doubtful_of shared ≡ found → (settle_step state outside found).answer ≡ answer.Commit place
          → (one : Stabilisation) × Contains shared.stabilisations one × (is_doubtful one.phase ≡ true) × (place ≡ length shared.trail)
          × ((step state event.Settle outside).state.shared.trail ≡ shared.trail ++ commit_mark shared.trail one.lead)
      by_found None e is = absurd (true≢false (sym (ap tells_outcome is)))
      by_found (Some one) e is =
          let found = find_found (λ (x : Stabilisation). is_doubtful x.phase) shared.stabilisations one e in
          let commit = settled_so is in (
            one,
            found.0,
            found.1,
            commit,
            step_adds_exactly state event.Settle outside session.answering.known.history.order
                ∙ ap (λ given. shared.trail ++ settle_marks shared given) told
                ∙ ap (λ (x : Option Stabilisation). shared.trail ++ mark_of (commit_mark shared.trail) (option_and_then (λ (y : Stabilisation). Some y.lead) x)) e,
          )
        where
          settled_so : (settle_step state outside (Some one)).answer ≡ answer.Commit place → place ≡ length shared.trail
          settled_so =
              guarded_turn (λ turn. turn.answer ≡ answer.Commit place → place ≡ length shared.trail) (not (is_settle_failed outside)) answer.Disk state settle_turn
              (λ no. absurd (true≢false (sym (ap tells_outcome no))))
              (λ same yes.
              let found = find_found (λ (x : Stabilisation). is_doubtful x.phase) shared.stabilisations one e in
              (settle_commit state session.answering session.commits one place found.0 found.1 yes).0)

  module _ (happened : Event) (outside : Outside) (is : NamesClients happened) where
    abbrev after : Shared
    after = (step state happened outside).state.shared

    abbrev given : Answer
    given = (step state happened outside).answer

    places : (who : ℕ) → PlaceMoves state happened given after who
    places = step_places state session.answering.known happened outside is

    keeps_asked : KeepsWhatWasAsked state happened outside (step state happened outside)
    keeps_asked who outcome kept =
        ⊎_elim (λ before. inl before)
        (λ (new : (it : EndedPlace state happened given after who) × (it.outcome ≡ outcome)).
        inr (new.0.one, new.0.inside, new.0.asker, new.0.may, new.0.tells ∙ ap answer_of_kept new.1)) (kept_before state happened given after who outcome (places who) kept)

    tells_each : TellsEachAsker state happened outside (step state happened outside)
    tells_each who one outcome inside asker may over tells = by_place (places who)
      where
        told : tells_outcome (step state happened outside).answer ≡ true
        told = ap tells_outcome tells ∙ over_is_told outcome over

        by_live : (it : EndedPlace state happened given after who) (place : Option Client) → client_at shared who ≡ place → is_some place ≡ true
            → of_client None (λ client. client.kept) (option_map (λ (client : Client). record client { kept = Some it.outcome }) place) ≡ Some outcome
        by_live it None e live = absurd (true≢false (sym live))
        by_live it (Some client) e live =
            ap Some (same_kept it.outcome outcome (ap tells_outcome (sym it.tells) ∙ it.told) (sym it.tells ∙ tells))

        by_place : PlaceMoves state happened given after who → kept_at after who ≡ Some outcome
        by_place (PlaceMoves.stays it) = absurd (it.untold one inside may told asker)
        by_place (PlaceMoves.turns it) = absurd (turn_ends_nothing state happened given who one it.turn may)
        by_place (PlaceMoves.falls it) = absurd (true≢false (sym told ∙ it.untold))
        by_place (PlaceMoves.ends it) =
            ap (of_client None (λ client. client.kept)) it.ended
            ∙ by_live it (client_at shared who) refl (ap is_some (session.answering.stand one who inside asker).1)
        by_place (PlaceMoves.begins it) = absurd (true≢false (sym may ∙ ap (λ x. may_end x one) it.by))
        by_place (PlaceMoves.leaves it) = absurd (turn_ends_nothing state happened given who one it.turn may)

    drops : DropsTheKept state happened outside (step state happened outside)
    drops who turn = by_place (places who)
      where
        by_place : PlaceMoves state happened given after who → kept_at after who ≡ None
        by_place (PlaceMoves.stays it) = absurd (true≢false (sym turn ∙ it.no_turn))
        by_place (PlaceMoves.turns it) = ap (of_client None (λ client. client.kept)) it.turned.live ∙ it.turned.kept
        by_place (PlaceMoves.falls it) = absurd (true≢false (sym turn ∙ it.no_turn))
        by_place (PlaceMoves.ends it) = absurd (true≢false (sym turn ∙ it.no_turn))
        by_place (PlaceMoves.begins it) = ap (of_client None (λ client. client.kept)) it.joined
        by_place (PlaceMoves.leaves it) = ap (of_client None (λ client. client.kept)) it.left

    leaves_kept : LeavesTheKept state happened outside (step state happened outside)
    leaves_kept who outcome none kept = by_place (places who)
      where
        by_mapped : (place : Option Client) → of_client None (λ client. client.kept) place ≡ Some outcome
            → of_client None (λ client. client.kept) (option_map (fallen_behind shared.trail who) place) ≡ Some outcome
        by_mapped None some = some
        by_mapped (Some client) some = some

        by_place : PlaceMoves state happened given after who → kept_at after who ≡ Some outcome
        by_place (PlaceMoves.stays it) = ap (of_client None (λ client. client.kept)) it.still ∙ kept
        by_place (PlaceMoves.turns it) = absurd (true≢false (sym it.turn ∙ none))
        by_place (PlaceMoves.falls it) = ap (of_client None (λ client. client.kept)) it.fell ∙ by_mapped (client_at shared who) kept
        by_place (PlaceMoves.ends it) = absurd (true≢false (sym (ap is_some kept) ∙ ap is_some (session.answering.nothing it.one who it.inside it.asker)))
        by_place (PlaceMoves.begins it) = absurd (true≢false (sym (ap is_some kept) ∙ ap (λ (x : Option Client). is_some (of_client None (λ client. client.kept) x)) it.absent))
        by_place (PlaceMoves.leaves it) = absurd (true≢false (sym it.turn ∙ none))

-- so it is in every session
pub every_kept_commit : EachKeptCommitIsTrue
every_kept_commit vault pages limit capacity happenings none named =
    keeps_true (state_after (start vault pages limit capacity) happenings) (every_session vault pages limit capacity happenings none named)

pub every_told_kept : EachStabiliseTellsTheKept
every_told_kept vault pages limit capacity happenings none named =
    tells_the_kept (state_after (start vault pages limit capacity) happenings) (every_session vault pages limit capacity happenings none named).answering.known

pub every_told_only : EachStabiliseTellsOnlyTheKept
every_told_only vault pages limit capacity happenings none named =
    tells_only_the_kept (state_after (start vault pages limit capacity) happenings) (every_session vault pages limit capacity happenings none named).answering.known

pub every_told_commit : EachToldCommitIsTrue
every_told_commit vault pages limit capacity happenings none named =
    tells_true (state_after (start vault pages limit capacity) happenings) (every_session vault pages limit capacity happenings none named)

pub every_finished_commit : EachFinishedCommitHasItsMark
every_finished_commit vault pages limit capacity happenings none named =
    finishes_with (state_after (start vault pages limit capacity) happenings) (every_session vault pages limit capacity happenings none named)

pub every_settled_commit : EachSettledCommitHasItsMark
every_settled_commit vault pages limit capacity happenings none named =
    settles_with (state_after (start vault pages limit capacity) happenings) (every_session vault pages limit capacity happenings none named)

pub every_asker_member : EachAskerIsAMember
every_asker_member vault pages limit capacity happenings none named = (every_session vault pages limit capacity happenings none named).answering.members

pub every_asker_stands : EachAskerStands
every_asker_stands vault pages limit capacity happenings none named = (every_session vault pages limit capacity happenings none named).answering.stand

pub every_asker_empty : EachAskerHasNothingKept
every_asker_empty vault pages limit capacity happenings none named = (every_session vault pages limit capacity happenings none named).answering.nothing

pub every_wait_is_own : EachAskerWaitsByItsOwn
every_wait_is_own vault pages limit capacity happenings none named happened outside is =
    waits_by_its_own (state_after (start vault pages limit capacity) happenings) (every_session vault pages limit capacity happenings none named).answering.known happened outside is

pub every_asker_waits_on : EachAskerWaitsOn
every_asker_waits_on vault pages limit capacity happenings none named happened outside is =
    let session = every_session vault pages limit capacity happenings none named in
    waits_on (state_after (start vault pages limit capacity) happenings) session.answering.known happened outside is session.answering.members

pub every_under_way_waits : EachUnderWayWaits
every_under_way_waits vault pages limit capacity happenings none named =
    waits_where_under_way (state_after (start vault pages limit capacity) happenings) (every_session vault pages limit capacity happenings none named).answering.known

pub every_kept_was_asked : EachKeptOutcomeWasAsked
every_kept_was_asked vault pages limit capacity happenings none named happened outside is =
    keeps_asked (state_after (start vault pages limit capacity) happenings) (every_session vault pages limit capacity happenings none named) happened outside is

pub every_asker_told : EachAskerIsTold
every_asker_told vault pages limit capacity happenings none named happened outside is =
    tells_each (state_after (start vault pages limit capacity) happenings) (every_session vault pages limit capacity happenings none named) happened outside is

pub every_turn_drops : EachTurnDropsTheKept
every_turn_drops vault pages limit capacity happenings none named happened outside is =
    drops (state_after (start vault pages limit capacity) happenings) (every_session vault pages limit capacity happenings none named) happened outside is

pub only_turns_drop : OnlyTurnsDropTheKept
only_turns_drop vault pages limit capacity happenings none named happened outside is =
    leaves_kept (state_after (start vault pages limit capacity) happenings) (every_session vault pages limit capacity happenings none named) happened outside is
