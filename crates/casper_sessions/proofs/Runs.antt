use Rattle.std.proofs.Common.{◌≡◌, ◌⊎◌, List, [], ◌∷◌, ◌++◌, refl, sym, ap, subst, ⊎_elim}
use Rattle.casper_model.specs.declared.event.Event.{Event}
use Rattle.casper_model.specs.declared.event.Event.TheVariants as event
use Rattle.casper_model.specs.Rights.{AllNameClients}
use Rattle.casper_model.specs.Run.{Happening, state_after}
use Rattle.casper_model.specs.State.{State}
use Rattle.casper_model.specs.Step.{step}
use Rattle.casper_sessions.specs.Chain.{opened}
use Rattle.casper_sessions.specs.Moments.{Moment, Deciding, moment_of}
use Rattle.casper_sessions.specs.Within.{IsLeftOf, IsLeftWithin, IsLeftIn, IsLeftAfterSome, EachStopIsAfterSome, EachRunLeavesAClosedPart}
use Rattle.casper_sessions.proofs.Chains.{each_closed_part}

-- what is left within a step is left at a moment of the state before it
within_moment : (state : State) (one : Event) (array : _) → IsLeftWithin state one array → (moment : Moment) × IsLeftOf state moment array
within_moment state (event.WriteOut lead) array left = ⊎_elim (λ before. (moment_of state, before)) (λ written. (Deciding lead, written.1)) left
within_moment state (event.Join who) array left = (moment_of state, left)
within_moment state (event.Read who page word) array left = (moment_of state, left)
within_moment state (event.Write who page word value) array left = (moment_of state, left)
within_moment state (event.Acquire who wants) array left = (moment_of state, left)
within_moment state (event.Hold who wants) array left = (moment_of state, left)
within_moment state (event.Serve who) array left = (moment_of state, left)
within_moment state (event.Stabilise who) array left = (moment_of state, left)
within_moment state (event.Finish lead) array left = (moment_of state, left)
within_moment state event.Settle array left = (moment_of state, left)
within_moment state (event.Depart who) array left = (moment_of state, left)
within_moment state (event.Vanish who) array left = (moment_of state, left)
within_moment state (event.Lose who) array left = (moment_of state, left)

pub after_some : EachStopIsAfterSome
after_some state [] array left = record { before = []; rest = []; are = refl; moment = moment_of state; left = left }
after_some state (first ∷ following) array left =
    ⊎_elim
    (λ within.
    let at = within_moment state first.event array within in
    record { before = []; rest = first ∷ following; are = refl; moment = at.0; left = at.1 })
    (λ later.
    let some = after_some (step state first.event first.outside).state following array later in
    record { before = first ∷ some.before; rest = some.rest; are = ap (λ (more : List Happening). first ∷ more) some.are; moment = some.moment; left = some.left })
    left

-- the first of happenings that name clients name clients
front_names : (front rest : List Happening) → AllNameClients (front ++ rest) → AllNameClients front
front_names [] rest named = tt
front_names (first ∷ following) rest named = (named.0, front_names following rest named.1)

pub run_leaves_part : EachRunLeavesAClosedPart
run_leaves_part limits vault happenings array shape sure named left =
    let some = after_some (opened limits vault) happenings array left in
    record {
      before = some.before;
      rest = some.rest;
      are = some.are;
      part = each_closed_part limits vault some.before shape sure (front_names some.before some.rest (subst AllNameClients some.are named)) some.moment array some.left;
    }
