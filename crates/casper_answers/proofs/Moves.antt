use Rattle.std.proofs.Common.{◌≡◌, ◌⊎◌, ℕ, List, ◌++◌, Bool, true, false, not, ◌&&◌, map, filter, Contains, refl, sym, ap, ◌∙◌, subst, inl, inr, ⊎_elim, true≢false}
use Rattle.std.specs.Prelude.{None, Some}
use Rattle.std.proofs.lemmas.Bool.{not-true, not-false, cases_Bool}
use Rattle.casper_words.specs.Crew.{IsClient, has_member}
use Rattle.casper_words.specs.declared.call.Call.{Call}
use Rattle.casper_space.specs.declared.answer.Answer.{Answer}
use Rattle.casper_space.specs.declared.answer.Answer.TheVariants as answer
use Rattle.casper_trail.specs.declared.item.Item.{Item}
use Rattle.casper_trail.specs.declared.mark.Mark.TheVariants.{Rollback}
use Rattle.casper_trail.specs.Association.{association_of}
use Rattle.casper_trail.specs.Calls.{entries_by}
use Rattle.casper_trail.specs.Parts.{as_items}
use Rattle.casper_trail.proofs.Growth.{association_grows, others_after_mark}
use Rattle.casper_model.specs.declared.event.Event.{Event}
use Rattle.casper_model.specs.Acquire.{touches_by}
use Rattle.casper_model.specs.Growth.{AddsOwn}
use Rattle.casper_model.specs.Loss.{rolled_back}
use Rattle.casper_model.specs.Shared.{Shared}
use Rattle.casper_model.specs.Stabilisation.{Stabilisation, is_gathering, is_doubtful, is_empty}
use Rattle.casper_model.specs.State.{State}
use Rattle.casper_laws.specs.Additions.{is_without_turn}
use Rattle.casper_turns.proofs.Lists.{contains_map, contains_mapped, contains_filter, contains_filtered}
use Rattle.casper_answers.specs.Acknowledgement.{is_stabilise_of, is_leave_of, may_end, tells_outcome}
use Rattle.casper_answers.specs.Losses.{carried_out, is_noted_by}

-- What a step makes of the stabilisations: which go on and how they change, which begin, and which end.

-- each element of one list stands in the relation to one of the other, and each of the other to one of the first
pub record Onto (Relates : Stabilisation → Stabilisation → Type 0) (before after : List Stabilisation) : Type 0 where
  pub from : (next : Stabilisation) → Contains after next → (one : Stabilisation) × Contains before one × Relates one next
  pub to : (one : Stabilisation) → Contains before one → (next : Stabilisation) × Contains after next × Relates one next

pub onto_same : (Relates : Stabilisation → Stabilisation → Type 0) (list : List Stabilisation) → ((one : Stabilisation) → Contains list one → Relates one one)
    → Onto Relates list list
onto_same Relates list stays = record { from = λ one inside. (one, inside, stays one inside); to = λ one inside. (one, inside, stays one inside) }

pub onto_map : (Relates : Stabilisation → Stabilisation → Type 0) (change : Stabilisation → Stabilisation) (list : List Stabilisation)
    → ((one : Stabilisation) → Contains list one → Relates one (change one)) → Onto Relates list (map change list)
onto_map Relates change list moves = record {
  from = λ next inside.
      let found = contains_map change list next inside in (found.0, found.1, subst (Relates found.0) found.2 (moves found.0 found.1));
  to = λ one inside. (change one, contains_mapped change list one inside, moves one inside);
}

pub onto_both : (First Second Third : Stabilisation → Stabilisation → Type 0) (one two three : List Stabilisation)
    → ((x y z : Stabilisation) → First x y → Second y z → Third x z) → Onto First one two → Onto Second two three → Onto Third one three
onto_both First Second Third one two three compose first second = record {
  from = λ z inside.
      let y = second.from z inside in
      let x = first.from y.0 y.1 in (x.0, x.1, compose x.0 y.0 z x.2 y.2);
  to = λ x inside.
      let y = first.to x inside in
      let z = second.to y.0 y.1 in (z.0, z.1, compose x y.0 z.0 y.2 z.2);
}

-- a client begins to wait by its own stabilise, as a member
pub record Joins (happened : Event) (given : Answer) (after : Shared) (who : ℕ) (next : Stabilisation) : Type 0 where
  pub by : is_stabilise_of who happened ≡ true
  pub turn : is_without_turn given ≡ false
  pub member : has_member who (association_of after.trail next.lead) ≡ true

-- a loss is noted in a stabilisation that is sealed or in doubt and has none
pub record NotesNow (happened : Event) (given : Answer) (one next : Stabilisation) : Type 0 where
  pub none : one.noted ≡ None
  pub lost : ℕ
  pub noted : next.noted ≡ Some lost
  pub by : is_noted_by happened given lost one.lead ≡ true
  pub held : is_gathering one.phase ≡ false

-- a phase that stays, one of a gathering stabilisation that goes on without a doubt, and one of a write-out in doubt
pub data PhaseMoves (happened : Event) (given : Answer) (one next : Stabilisation) : Type 0 where
  same : next.phase ≡ one.phase → PhaseMoves happened given one next
  gathered : is_gathering one.phase ≡ true → is_doubtful next.phase ≡ false → PhaseMoves happened given one next
  doubted : may_end happened one ≡ true → given ≡ answer.InDoubt → is_doubtful next.phase ≡ true → PhaseMoves happened given one next

-- a stabilisation that goes on
pub record Moves (happened : Event) (given : Answer) (before after : Shared) (one next : Stabilisation) : Type 0 where
  pub lead : next.lead ≡ one.lead
  pub adds : (who : ℕ) → has_member who next.askers ≡ true → (has_member who one.askers ≡ true) ⊎ Joins happened given after who next
  pub keeps : (who : ℕ) → IsClient who → has_member who one.askers ≡ true → (has_member who next.askers ≡ true) ⊎ (is_leave_of who happened ≡ true)
  pub noted : (next.noted ≡ one.noted) ⊎ NotesNow happened given one next
  pub phase : PhaseMoves happened given one next
  pub awaits : is_gathering one.phase ≡ not (is_empty one.awaited) → is_gathering next.phase ≡ not (is_empty next.awaited)
  pub awaited : (who : ℕ) → has_member who next.awaited ≡ true → has_member who one.awaited ≡ true
  pub members : (who : ℕ) → has_member who (association_of before.trail one.lead) ≡ true → has_member who (association_of after.trail one.lead) ≡ true

-- one that begins, by a stabilise of its lead
pub record Begins (happened : Event) (given : Answer) (after : Shared) (next : Stabilisation) : Type 0 where
  pub by : is_stabilise_of next.lead happened ≡ true
  pub turn : is_without_turn given ≡ false
  pub askers : (who : ℕ) → has_member who next.askers ≡ true → who ≡ next.lead
  pub member : has_member next.lead (association_of after.trail next.lead) ≡ true
  pub noted : next.noted ≡ None
  pub sure : is_doubtful next.phase ≡ false
  pub awaits : is_gathering next.phase ≡ not (is_empty next.awaited)
  pub awaited : (who : ℕ) → has_member who next.awaited ≡ true → has_member who (association_of after.trail next.lead) ≡ true

-- one that ends, with an outcome or since a loss is carried out in its association
pub record Ends (state : State) (happened : Event) (given : Answer) (after : Shared) (one : Stabilisation) : Type 0 where
  pub gone : (next : Stabilisation) → Contains after.stabilisations next → next.lead ≡ one.lead → ⊥
  pub cause : ((may_end happened one && tells_outcome given) ≡ true)
      ⊎ ((lost : ℕ) × (carried_out state happened given ≡ Some lost) × (has_member one.lead (association_of state.shared.trail lost) ≡ true))

pub record Moved (state : State) (happened : Event) (given : Answer) (after : Shared) : Type 0 where
  pub from : (next : Stabilisation) → Contains after.stabilisations next
      → ((one : Stabilisation) × Contains state.shared.stabilisations one × Moves happened given state.shared after one next) ⊎ Begins happened given after next
  pub to : (one : Stabilisation) → Contains state.shared.stabilisations one
      → ((next : Stabilisation) × Contains after.stabilisations next × Moves happened given state.shared after one next) ⊎ Ends state happened given after one

-- an association with all that it had
abbrev pub Grows : Shared → Shared → Type 0
Grows before after = (lead who : ℕ) → has_member who (association_of before.trail lead) ≡ true → has_member who (association_of after.trail lead) ≡ true

pub grows_by_own : (who : ℕ) (pending : List Call) (before after : Shared) → AddsOwn who pending before.trail after.trail → Grows before after
grows_by_own who pending before after adds lead member = by_items before.trail after.trail adds
  where
    by_items : (items more : List Item) → AddsOwn who pending items more → has_member member (association_of items lead) ≡ true
        → has_member member (association_of more lead) ≡ true
    by_items items more AddsOwn.nothing is = is
    by_items items more AddsOwn.calls is = association_grows items (entries_by who pending) lead member is
    by_items items more (AddsOwn.touches wants) is =
        association_grows (items ++ as_items (entries_by who pending)) (touches_by who wants) lead member (association_grows items (entries_by who pending) lead member is)

-- a stabilisation that stays as it is
pub moves_still : (happened : Event) (given : Answer) (before after : Shared) (one : Stabilisation)
    → ((who : ℕ) → has_member who (association_of before.trail one.lead) ≡ true → has_member who (association_of after.trail one.lead) ≡ true)
    → Moves happened given before after one one
moves_still happened given before after one members = record {
  lead = refl;
  adds = λ who is. inl is;
  keeps = λ who client is. inl is;
  noted = inl refl;
  phase = PhaseMoves.same refl;
  awaits = λ is. is;
  awaited = λ who is. is;
  members = members;
}

pub moved_onto : (state : State) (happened : Event) (given : Answer) (after : Shared)
    → Onto (Moves happened given state.shared after) state.shared.stabilisations after.stabilisations → Moved state happened given after
moved_onto state happened given after onto = record { from = λ next inside. inl (onto.from next inside); to = λ one inside. inl (onto.to one inside) }

pub moved_same : (state : State) (happened : Event) (given : Answer) (after : Shared) → after.stabilisations ≡ state.shared.stabilisations → Grows state.shared after
    → Moved state happened given after
moved_same state happened given after alike grows =
    moved_onto state happened given after
    (subst (Onto (Moves happened given state.shared after) state.shared.stabilisations) (sym alike)
    (onto_same (Moves happened given state.shared after) state.shared.stabilisations
    (λ one inside. moves_still happened given state.shared after one (grows one.lead))))

-- some stabilisations stay as they are, and the others end
pub moved_filter : (state : State) (happened : Event) (given : Answer) (after : Shared) (test : Stabilisation → Bool)
    → after.stabilisations ≡ filter test state.shared.stabilisations
    → ((one : Stabilisation) → Contains state.shared.stabilisations one → test one ≡ true → (who : ℕ) → has_member who (association_of state.shared.trail one.lead) ≡ true
    → has_member who (association_of after.trail one.lead) ≡ true)
    → ((one : Stabilisation) → Contains state.shared.stabilisations one → test one ≡ false → Ends state happened given after one) → Moved state happened given after
moved_filter state happened given after test left members ends = record {
  from = λ next inside.
      let was = contains_filter test state.shared.stabilisations next (subst (λ list. Contains list next) left inside) in
      inl (next, was.0, moves_still happened given state.shared after next (members next was.0 was.1));
  to = λ one inside.
      ⊎_elim
      (λ passes.
      inl (
        one,
        subst (λ list. Contains list one) (sym left) (contains_filtered test state.shared.stabilisations one inside passes),
        moves_still happened given state.shared after one (members one inside passes),
      ))
      (λ out. inr (ends one inside out)) (cases_Bool (test one));
}

-- a loss that is carried out
pub moved_rolled_back : (state : State) (happened : Event) (given : Answer) (lost : ℕ) → carried_out state happened given ≡ Some lost
    → Moved state happened given (rolled_back state.shared lost)
moved_rolled_back state happened given lost carried =
    let members = association_of state.shared.trail lost in
    moved_filter state happened given (rolled_back state.shared lost) (λ one. not (has_member one.lead members)) refl
    (λ one inside out who. subst (λ list. has_member who list ≡ true)
    (sym (others_after_mark state.shared.trail (Rollback lost members) one.lead refl (not-true (has_member one.lead members) out))))
    (λ one inside out.
    let within = not-false (has_member one.lead members) out in
    record {
      gone = λ next there same.
          let found = contains_filter (λ (x : Stabilisation). not (has_member x.lead members)) state.shared.stabilisations next there in
          true≢false (sym within ∙ sym (ap (λ number. has_member number members) same) ∙ not-true (has_member next.lead members) found.1);
      cause = inr (lost, carried, within);
    })
