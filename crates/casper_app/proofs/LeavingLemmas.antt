use Rattle.std.proofs.Common.{◌≡◌, ◌+◌, ℕ, List, [], ◌∷◌, ◌++◌, length, replicate, arith, refl, sym, subst, ⊎_elim, Result, Ok, Err}
use Rattle.std.specs.Prelude.{IsOkAnd}
use Rattle.std.proofs.lemmas.List.{length-replicate}
use Rattle.casper_trail.specs.Value.{IsArray}
use Rattle.casper_trail.proofs.Values.{array_keeps_shape}
use Rattle.casper_space.specs.declared.answer.Answer.{Answer}
use Rattle.casper_disk.specs.Vault.{Saved}
use Rattle.casper_model.specs.State.{State}
use Rattle.casper_model.specs.Vault.{VaultState}
use Rattle.casper_model.specs.declared.event.Event.{Event}
use Rattle.casper_model.specs.declared.event.Event.TheVariants as event
use Rattle.casper_model.proofs.RunHistory.{base_after}
use Rattle.casper_core.specs.Stepping.{happenings_of}
use Rattle.casper_root.specs.declared.fault.OpenFault.{OpenFault}
use Rattle.casper_sessions.specs.Chain.{Limits, opened}
use Rattle.casper_sessions.specs.Moments.{Moment, Deciding, moment_of}
use Rattle.casper_sessions.specs.StopLaws.{IsOfAClosedPart, IsOpenable}
use Rattle.casper_sessions.specs.Within.{IsLeftOf, IsLeftWithin}
use Rattle.casper_sessions.proofs.Chains.{each_chain, each_closed_part}
use Rattle.casper_stable.specs.Leaves.{IsLeftBy, Leaves}
use Rattle.casper_stable.specs.LeavesLemmas.{leaves_its}
use Rattle.casper_stable.specs.Opens.{Store, opens}
use Rattle.casper_app.specs.declared.schedule.Asked.{Asked}
use Rattle.casper_app.specs.declared.schedule.Asked.TheVariants as asks
use Rattle.casper_app.specs.Chain.{AllAskOfClients, ArePlayed, IsOfSessions, Played, found_after, session_of}
use Rattle.casper_app.specs.Leaving.{IsLeftAmong, IsLeftWhile}
use Rattle.casper_app.specs.LeavingLaws.{EachStopInAScheduleLeavesAClosedPart}
use Rattle.casper_app.specs.Play.{Standing, Plays, begun, by_machine}
use Rattle.casper_app.specs.Session.{state_behind}
use Rattle.casper_app.specs.StoreRuns.{OpensTo}
use Rattle.casper_app.proofs.ChainLemmas.{played_chain, plays_are_sessions}

-- what was asked for first is asked of clients
asks_front : (before rest : List Asked) → AllAskOfClients (before ++ rest) → AllAskOfClients before
asks_front [] rest all = tt
asks_front (one ∷ before) rest all = (all.0, asks_front before rest all.1)

-- each session begins over an array with nothing in doubt
found_openable : (limits : Limits) (vault : VaultState) (ended : List Played) → IsOpenable limits.pages vault → ArePlayed limits vault ended
    → IsOpenable limits.pages (found_after vault ended)
found_openable limits vault [] openable played = openable
found_openable limits vault (one ∷ more) openable played =
    found_openable limits one.found more (each_chain limits vault (session_of one ∷ []) openable (played_chain limits vault (one ∷ []) (played.0, tt))) played.1

-- what is left within a step is left at some moment of the state
left_within : (state : State) (one : Event) (array : List (List ℕ)) → IsLeftWithin state one array → (moment : Moment) × IsLeftOf state moment array
left_within state (event.WriteOut lead) array left = ⊎_elim (λ now. (moment_of state, now)) (λ writing. (Deciding lead, writing.1)) left
left_within state other array left = (moment_of state, left)

left_at : (state : State) (rest : List Asked) (array : List (List ℕ)) → IsLeftWhile state rest array → (moment : Moment) × IsLeftOf state moment array
left_at state [] array left = (moment_of state, left)
left_at state (asks.Event one ∷ more) array left = left_within state one array left
left_at state (asks.Reopen ∷ more) array left = (moment_of state, left)

module _ (limits : Limits) (vault : VaultState) (openable : IsOpenable limits.pages vault) (asked : List Asked) (given : List Answer) (standing : Standing)
    (named : AllAskOfClients asked) (plays : Plays by_machine limits.entries (begun (opened limits vault)) asked given standing) where
  all : IsOfSessions limits vault asked given standing
  all = plays_are_sessions limits vault asked given standing named plays

  over : IsOpenable limits.pages standing.found
  over = subst (λ (v : VaultState). IsOpenable limits.pages v) (sym all.found) (found_openable limits vault all.ended openable all.played)

  -- an array that is left at some moment of where a schedule stands
  pub closed_at : (moment : Moment) (array : List (List ℕ)) → IsLeftOf standing.state moment array → IsOfAClosedPart standing.found.image standing.state.shared.trail array
  unfolding all over
  closed_at moment array left =
      let happenings = happenings_of all.events all.said in
      let part = each_closed_part limits standing.found happenings over.shape over.sure all.named moment array (subst (λ (s : State). IsLeftOf s moment array) all.state left) in
      subst (λ (s : State). IsOfAClosedPart standing.found.image s.shared.trail array) (sym all.state)
      (subst (λ (base : List (List ℕ)). IsOfAClosedPart base (state_behind (opened limits standing.found) all.events all.said).shared.trail array) (base_after (opened limits standing.found) happenings) part)

  pub array_at : (moment : Moment) (array : List (List ℕ)) → IsLeftOf standing.state moment array → IsArray limits.pages array
  array_at moment array left =
      let part = closed_at moment array left in
      subst (IsArray limits.pages) (sym part.is) (array_keeps_shape limits.pages standing.found.image part.part over.shape)

pub each_stop_is_closed : EachStopInAScheduleLeavesAClosedPart
each_stop_is_closed limits vault asked given array openable named left =
    let at = left_at left.standing.state left.rest array left.left in
    closed_at limits vault openable left.before left.said left.standing (asks_front left.before left.rest (subst AllAskOfClients left.asked_is named)) left.plays at.0 array at.1

pub left_is_array : (limits : Limits) (vault : VaultState) (asked : List Asked) (given : List Answer) (array : List (List ℕ)) → IsOpenable limits.pages vault → AllAskOfClients asked
    → IsLeftAmong limits.entries (begun (opened limits vault)) asked given array → IsArray limits.pages array
left_is_array limits vault asked given array openable named left =
    let at = left_at left.standing.state left.rest array left.left in
    array_at limits vault openable left.before left.said left.standing (asks_front left.before left.rest (subst AllAskOfClients left.asked_is named)) left.plays at.0 array at.1

-- where all that some images leave is an array of so many pages, none of them is refused
pub opens_each : (pages : ℕ) (fact : List (List ℕ) → Type 0) (images : List (List ℕ) → Type 0)
    → ((array : List (List ℕ)) → fact array → IsArray pages array) → ((saved : Saved) → Leaves images saved → fact saved.image)
    → (blocks : List (List ℕ)) → images blocks → OpensTo fact blocks
opens_each pages fact images shape all blocks image = by_found (opens blocks) refl
  where
    too_long : Saved
    too_long = record { image = replicate (pages + 1) []; version = 0 }

    by_found : (found : Result Store OpenFault) → opens blocks ≡ found → OpensTo fact blocks
    by_found (Ok store) is =
        subst (λ (found : Result Store OpenFault). IsOkAnd found (λ (one : Store). fact one.saved.image)) (sym is)
        (all store.saved (record { blocks = blocks; left = image; leaves = leaves_its blocks store store.saved is refl }))
    by_found (Err refusal) is =
        let left : Leaves images too_long = record { blocks = blocks; left = image; leaves = subst (λ (found : Result Store OpenFault). IsLeftBy found too_long) (sym is) tt } in
        let long : length (replicate (pages + 1) []) ≡ pages = (shape too_long.image (all too_long left)).count in
        let is_long = length-replicate {A = List ℕ} (pages + 1) [] in
        absurd (omega (arith, long, is_long))
