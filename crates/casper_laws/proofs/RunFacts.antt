use Rattle.std.proofs.Common.{◌≡◌, ℕ, true, ap, sym, ◌∙◌}
use Rattle.casper_words.specs.Crew.{has_member}
use Rattle.casper_trail.specs.Association.{association_of}
use Rattle.casper_trail.proofs.Rounds.{association_goes_both_ways}
use Rattle.casper_model.specs.Shared.{client_at}
use Rattle.casper_model.specs.State.{State, own_at, start}
use Rattle.casper_model.specs.Run.{state_after}
use Rattle.casper_model.specs.LegalHistory.{HasHistory, IsGoodNow}
use Rattle.casper_model.proofs.StateHistory.{good_now}
use Rattle.casper_model.proofs.RunHistory.{start_history, step_history, run_history}
use Rattle.casper_turns.specs.Noted.{NotedAreMembers}
use Rattle.casper_laws.specs.OwnLists.{IsStanding}
use Rattle.casper_laws.specs.RunFacts.{HoldersAreWithWriters, EveryRunHasHistory, EveryEntryIsOfAClient, EveryHolderIsWithItsWriters, EveryRunNotesMembers}
use Rattle.casper_turns.proofs.Lists.{nothing_in}
use Rattle.casper_turns.proofs.KeptByTurns.{run_keeps}
use Rattle.casper_laws.proofs.StepFrozen.{start_orderly, step_orderly}
use Rattle.casper_laws.proofs.MarkSteps.{step_noted}
use Rattle.casper_laws.proofs.StepImage.{IsOrderly}

pub every_run_history : EveryRunHasHistory
every_run_history vault pages limit capacity happenings named =
    run_history (start vault pages limit capacity) happenings named (start_history vault pages limit capacity)

pub every_entry_of_a_client : EveryEntryIsOfAClient
every_entry_of_a_client vault pages limit capacity happenings named = (every_run_history vault pages limit capacity happenings named).exact.clients

-- who stands is good
pub good_standing : (state : State) (who : ℕ) → HasHistory state → IsStanding state who → IsGoodNow state.base state.shared.trail (own_at state who)
good_standing state who has stands =
    good_now state.base state.shared.trail (client_at state.shared who) (own_at state who) stands.0 (has.history.good who) stands.1 stands.2

holders_with_writers : (state : State) → HasHistory state → HoldersAreWithWriters state
holders_with_writers state has who page write holds inside writes = (with_holder, association_goes_both_ways state.shared.trail who write.who with_holder)
  where
    with_holder : has_member write.who (association_of state.shared.trail who) ≡ true
    with_holder =
        ap (λ number. has_member write.who (association_of state.shared.trail number)) (sym (has.order.shaped.numbers who))
        ∙ (good_standing state who has holds.0).writers page holds.1 write inside writes

pub every_holder_with_writers : EveryHolderIsWithItsWriters
every_holder_with_writers vault pages limit capacity happenings named =
    holders_with_writers (state_after (start vault pages limit capacity) happenings) (every_run_history vault pages limit capacity happenings named)

pub every_run_notes : EveryRunNotesMembers
every_run_notes vault pages limit capacity happenings none named =
    run_keeps IsOrderly (λ state. NotedAreMembers state.shared)
    (λ state event outside name known. record {
      history = step_history state event outside name known.history;
      orderly = step_orderly state event outside name known.history known.orderly;
    })
    (λ state event outside name known members. step_noted state event outside name known.orderly members) (start vault pages limit capacity) happenings named
    (record { history = start_history vault pages limit capacity; orderly = start_orderly vault pages limit capacity none })
    (λ one lost inside noted. absurd (nothing_in one inside))
