use Rattle.std.proofs.Common.{ℕ, List, [], ◌∷◌, ◌++◌, sym, subst}
use Rattle.casper_words.specs.Crew.{IsClient}
use Rattle.casper_words.specs.declared.call.Call.{Call}
use Rattle.casper_words.specs.declared.page.Want.{Want}
use Rattle.casper_trail.specs.declared.item.Item.{Item}
use Rattle.casper_trail.specs.declared.item.Item.TheVariants as item
use Rattle.casper_trail.specs.Parts.{as_items}
use Rattle.casper_trail.specs.Calls.{entries_by}
use Rattle.casper_trail.specs.Clients.{AreOfClients}
use Rattle.casper_trail.proofs.InTurn.{exact_of_more_entries, exact_after_mark}
use Rattle.casper_trail.proofs.CallLists.{clients_of_more, clients_of_calls}
use Rattle.casper_model.specs.declared.event.Event.{Event}
use Rattle.casper_model.specs.declared.event.Event.TheVariants as event
use Rattle.casper_model.specs.Acquire.{touches_by}
use Rattle.casper_model.specs.State.{State, own_at, start}
use Rattle.casper_model.specs.Step.{step}
use Rattle.casper_model.specs.Run.{Happening, state_after}
use Rattle.casper_model.specs.Growth.{AddsOwn, AddsMark, StepAdds}
use Rattle.casper_model.specs.Rights.{InOrder, NamesClients, AllNameClients}
use Rattle.casper_model.specs.ExactHistory.{IsExact, EachStepKeepsMarksExact, EveryRunHasExactMarks}
use Rattle.casper_model.proofs.StepAdditions.{step_adds}
use Rattle.casper_model.proofs.StepRights.{step_rights}
use Rattle.casper_model.proofs.RunRights.{start_in_order}

pub clients_of_touches : (who : ℕ) (wants : List Want) → IsClient who → AreOfClients (as_items (touches_by who wants))
clients_of_touches who [] is = tt
clients_of_touches who (want ∷ wants) is = (is, clients_of_touches who wants is)

exact_with_calls : (who : ℕ) (calls : List Call) (trail : List Item) → IsClient who → IsExact trail → IsExact (trail ++ as_items (entries_by who calls))
exact_with_calls who calls trail is exact = record {
  marks = exact_of_more_entries trail (entries_by who calls) exact.marks;
  clients = clients_of_more trail (as_items (entries_by who calls)) exact.clients (clients_of_calls who calls is);
}

pub exact_with_own : (who : ℕ) (calls : List Call) (trail after : List Item) → IsClient who → IsExact trail → AddsOwn who calls trail after → IsExact after
exact_with_own who calls trail after is exact AddsOwn.nothing = exact
exact_with_own who calls trail after is exact AddsOwn.calls = exact_with_calls who calls trail is exact
exact_with_own who calls trail after is exact (AddsOwn.touches wants) =
    let first = exact_with_calls who calls trail is exact in
    record {
      marks = exact_of_more_entries (trail ++ as_items (entries_by who calls)) (touches_by who wants) first.marks;
      clients = clients_of_more (trail ++ as_items (entries_by who calls)) (as_items (touches_by who wants)) first.clients (clients_of_touches who wants is);
    }

exact_with_mark : (trail after : List Item) → IsExact trail → AddsMark trail after → IsExact after
exact_with_mark trail after exact AddsMark.nothing = exact
exact_with_mark trail after exact (AddsMark.mark mark is) = record {
  marks = exact_after_mark trail mark exact.marks is;
  clients = clients_of_more trail (item.Mark mark ∷ []) exact.clients tt;
}

exact_by_own : (state : State) (who : ℕ) (after : List Item) → IsClient who → InOrder state → IsExact state.shared.trail
    → AddsOwn (own_at state who).who (own_at state who).pending state.shared.trail after → IsExact after
exact_by_own state who after is order exact adds =
    exact_with_own (own_at state who).who (own_at state who).pending state.shared.trail after (subst IsClient (sym (order.shaped.numbers who)) is) exact adds

exact_by : (state : State) (event : Event) (after : List Item) → NamesClients event → InOrder state → IsExact state.shared.trail → StepAdds state event after → IsExact after
exact_by state (event.Join who) after is order exact adds = subst IsExact (sym adds) exact
exact_by state (event.Read who page word) after is order exact adds = exact_by_own state who after is order exact adds
exact_by state (event.Write who page word value) after is order exact adds = exact_by_own state who after is order exact adds
exact_by state (event.Acquire who wants) after is order exact adds = exact_by_own state who after is order exact adds
exact_by state (event.Hold who wants) after is order exact adds = exact_by_own state who after is order exact adds
exact_by state (event.Serve who) after is order exact adds = exact_by_own state who after is order exact adds
exact_by state (event.Stabilise who) after is order exact adds = exact_by_own state who after is order exact adds
exact_by state (event.WriteOut lead) after is order exact adds = subst IsExact (sym adds) exact
exact_by state (event.Finish lead) after is order exact adds = exact_with_mark state.shared.trail after exact adds
exact_by state event.Settle after is order exact adds = exact_with_mark state.shared.trail after exact adds
exact_by state (event.Depart who) after is order exact adds = exact_by_own state who after is order exact adds
exact_by state (event.Vanish who) after is order exact adds = exact_with_mark state.shared.trail after exact adds
exact_by state (event.Lose who) after is order exact adds = exact_with_mark state.shared.trail after exact adds

pub step_exact : EachStepKeepsMarksExact
step_exact state event outside is order exact = exact_by state event (step state event outside).state.shared.trail is order exact (step_adds state event outside)

run_exact : (state : State) (happenings : List Happening) → AllNameClients happenings → InOrder state → IsExact state.shared.trail
    → IsExact (state_after state happenings).shared.trail
run_exact state [] named order exact = exact
run_exact state (first ∷ following) named order exact =
    run_exact (step state first.event first.outside).state following named.1 (step_rights state first.event first.outside named.0 order)
    (step_exact state first.event first.outside named.0 order exact)

pub every_run_exact : EveryRunHasExactMarks
every_run_exact vault pages limit capacity happenings named =
    (run_exact (start vault pages limit capacity) happenings named (start_in_order vault pages limit capacity) (record { marks = tt; clients = tt })).marks
