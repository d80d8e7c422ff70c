use Rattle.std.proofs.Common.{◌≡◌, ◌⊎◌, ℕ, true, false, Contains, refl, sym, ap, ◌∙◌, subst, inl, inr, ⊎_elim, true≢false}
use Rattle.std.specs.Prelude.{Option, None, Some, is_some, unwrap_or}
use Rattle.std.proofs.lemmas.Bool.{eq-eqb}
use Rattle.casper_words.specs.Crew.{IsClient, has_member}
use Rattle.casper_space.specs.declared.answer.Answer.{Answer}
use Rattle.casper_space.specs.declared.answer.Answer.TheVariants as answer
use Rattle.casper_trail.specs.Association.{association_of}
use Rattle.casper_trail.proofs.Rounds.{member_is_client}
use Rattle.casper_model.specs.declared.event.Event.{Event}
use Rattle.casper_model.specs.declared.event.Event.TheVariants as event
use Rattle.casper_model.specs.Answers.{of_vanish}
use Rattle.casper_model.specs.Leave.{vanish}
use Rattle.casper_model.specs.Outside.{Outside}
use Rattle.casper_model.specs.Rights.{NamesClients}
use Rattle.casper_model.specs.Shared.{Shared, client_at, fallen_at}
use Rattle.casper_model.specs.Stabilisation.{Stabilisation, Phase, is_gathering, is_sealed, is_doubtful}
use Rattle.casper_model.specs.State.{State, Unfinished, own_at}
use Rattle.casper_model.specs.Step.{step}
use Rattle.casper_model.proofs.Additions.{acquire_adds, serve_adds, stabilise_adds, depart_adds}
use Rattle.casper_laws.specs.FrozenLaws.{OneIsUnfinished, AreWriteOutsInOrder}
use Rattle.casper_turns.specs.Frozen.{AreFrozen}
use Rattle.casper_turns.proofs.FrozenChanges.{one_of_lead}
use Rattle.casper_laws.proofs.StepFrozen.{step_orderly}
use Rattle.casper_laws.proofs.StepImage.{IsOrderly}
use Rattle.casper_answers.specs.Acknowledgement.{AskersAreMembers, WaitsByItsOwn, WaitsOn, is_stabilise_of, may_end}
use Rattle.casper_answers.specs.Lives.{EndsOnlySo, KeepsMembers, StaysSealed, AwaitsMembers, GathersWhileAwaiting}
use Rattle.casper_answers.specs.Losses.{is_noted_by, NotesDeclaredLosses, KeepsTheFirstNote, GatheringHasNoNote}
use Rattle.casper_answers.proofs.Moves.{Joins, NotesNow, PhaseMoves, Moves, Begins, Ends, Moved, moved_same}
use Rattle.casper_answers.proofs.TurnMoves.{acquired_moved, served_moved, departed_moved, stabilised_by_moved, joined_moved}
use Rattle.casper_answers.proofs.EndMoves.{lose_moved, vanish_moved, finish_moved, settled_moved}
use Rattle.casper_answers.proofs.StepPlaces.{stabilise_is_turn}
use Rattle.casper_answers.proofs.StepWalk.{ShownByTurns, on_step}
use Rattle.casper_model.specs.Stabilise.{stabilise}

-- What each step makes of the stabilisations, and what follows.

module _ (state : State) (known : IsOrderly state) where
  abbrev frozen : AreFrozen state.shared
  frozen = known.orderly.frozen

  -- what is finished is sealed
  sealed_of_lead : (lead : ℕ) (unfinished : Unfinished) → state.unfinished ≡ Some unfinished → unfinished.lead ≡ lead → (one : Stabilisation)
      → Contains state.shared.stabilisations one → one.lead ≡ lead → is_gathering one.phase ≡ false
  sealed_of_lead lead unfinished e same one inside led =
      let stands : OneIsUnfinished state unfinished = subst (AreWriteOutsInOrder state) e known.orderly.written in
      let seal = stands.stabilisation in
      let it : one ≡ seal.0 = one_of_lead state.shared one seal.0 known.orderly.frozen inside seal.1 (led ∙ sym same ∙ sym seal.2) in
      not_gathering one.phase (ap (λ (x : Stabilisation). is_sealed x.phase) it ∙ seal.3)
    where
      not_gathering : (phase : Phase) → is_sealed phase ≡ true → is_gathering phase ≡ false
      not_gathering Phase.Gathering seal = absurd (true≢false (sym seal))
      not_gathering Phase.Sealed seal = refl
      not_gathering Phase.Doubtful seal = refl

  moved_by_turns : ShownByTurns state (Moved state)
  moved_by_turns = record {
    still = λ happened given is none. moved_same state happened given state.shared refl (λ lead who member. member);
    joining = λ who is. let own = own_at state who in joined_moved state frozen own (event.Join who) _ (client_at state.shared own.who);
    acquiring = λ happened who wants calls given is live acquires turns.
        let own = own_at state who in
        acquired_moved state frozen own happened given wants calls (fallen_at state.shared own.who) (acquire_adds wants calls state.shared own);
    serving = λ who is live. let own = own_at state who in served_moved state frozen own (event.Serve who) _ (fallen_at state.shared own.who) (serve_adds state.shared own);
    stabilising = λ who is live.
        let own = own_at state who in
        stabilised_by_moved state frozen own (event.Stabilise who) _ (fallen_at state.shared own.who)
        (eq-eqb who own.who (sym (known.history.order.shaped.numbers who))) (stabilise_is_turn (stabilise state.shared own).reply) (subst IsClient (sym (known.history.order.shaped.numbers who)) is)
        (stabilise_adds state.shared own);
    departing = λ who is live.
        let own = own_at state who in
        departed_moved state frozen own (event.Depart who) _ (fallen_at state.shared own.who) (eq-eqb who own.who (sym (known.history.order.shaped.numbers who)))
        (depart_adds state.shared own);
    vanishing = λ who is live.
        let own = own_at state who in
        subst (λ number. Moved state (event.Vanish number) (of_vanish (vanish state.shared own).reply) (vanish state.shared own).shared)
        (known.history.order.shaped.numbers who) (vanish_moved state frozen own);
    losing = λ who is live. lose_moved state frozen who;
    finishing = λ lead unfinished e same. finish_moved state frozen lead unfinished.outcome (sealed_of_lead lead unfinished e same);
    settling = λ one e. settled_moved state frozen;
  }

  pub step_moved : (happened : Event) (outside : Outside) → NamesClients happened
      → Moved state happened (step state happened outside).answer (step state happened outside).state.shared
  step_moved happened outside is = on_step state (Moved state) moved_by_turns happened outside is

  module _ (happened : Event) (outside : Outside) (is : NamesClients happened) where
    abbrev after : Shared
    after = (step state happened outside).state.shared

    abbrev given : Answer
    given = (step state happened outside).answer

    moved : Moved state happened given after
    moved = step_moved happened outside is

    frozen_after : AreFrozen after
    frozen_after = (step_orderly state happened outside is known.history known.orderly).frozen

    -- one that goes on is the one of its lead
    pub goes_on : (one next : Stabilisation) → Contains state.shared.stabilisations one → Contains after.stabilisations next → next.lead ≡ one.lead
        → Moves happened given state.shared after one next
    goes_on one next inside there same =
        ⊎_elim
        (λ (on : (other : Stabilisation) × Contains after.stabilisations other × Moves happened given state.shared after one other).
        subst (Moves happened given state.shared after one) (one_of_lead after on.0 next frozen_after on.1 there (on.2.lead ∙ sym same)) on.2)
        (λ (end : Ends state happened given after one). absurd (end.gone next there same)) (moved.to one inside)

    pub waits_by_its_own : WaitsByItsOwn state happened outside (step state happened outside)
    waits_by_its_own who lead waits =
        ⊎_elim
        (λ (on : (one : Stabilisation) × Contains state.shared.stabilisations one × Moves happened given state.shared after one waits.0).
        ⊎_elim (λ old. inl (on.0, on.1, sym on.2.lead ∙ waits.2, old)) (λ (new : Joins happened given after who waits.0). inr new.by) (on.2.adds who waits.3))
        (λ (new : Begins happened given after waits.0). inr (ap (λ number. is_stabilise_of number happened) (new.askers who waits.3) ∙ new.by)) (moved.from waits.0 waits.1)

    pub waits_on : AskersAreMembers state → WaitsOn state happened outside (step state happened outside)
    waits_on members who one next inside waits there same stays =
        ⊎_elim (λ on. on) (λ left. absurd (true≢false (sym left ∙ stays)))
        ((goes_on one next inside there same).keeps who (member_is_client state.shared.trail one.lead who (members one who inside waits)) waits)

    pub askers_stay_members : AskersAreMembers state → AskersAreMembers (step state happened outside).state
    askers_stay_members members next who there waits =
        ⊎_elim
        (λ (on : (one : Stabilisation) × Contains state.shared.stabilisations one × Moves happened given state.shared after one next).
        ⊎_elim
        (λ old. subst (λ lead. has_member who (association_of after.trail lead) ≡ true) (sym on.2.lead) (on.2.members who (members on.0 who on.1 old)))
        (λ (new : Joins happened given after who next). new.member) (on.2.adds who waits))
        (λ (new : Begins happened given after next). ap (λ number. has_member number (association_of after.trail next.lead)) (new.askers who waits) ∙ new.member)
        (moved.from next there)

    pub ends_only_so : EndsOnlySo state happened outside (step state happened outside)
    ends_only_so one inside =
        ⊎_elim
        (λ (on : (next : Stabilisation) × Contains after.stabilisations next × Moves happened given state.shared after one next). inl (on.0, on.1, on.2.lead))
        (λ (end : Ends state happened given after one). inr end.cause) (moved.to one inside)

    pub keeps_members : KeepsMembers state happened outside (step state happened outside)
    keeps_members who one next inside there same member =
        let on = goes_on one next inside there same in
        subst (λ lead. has_member who (association_of after.trail lead) ≡ true) (sym same) (on.members who member)

    -- the phases apart
    gathering_is_not : (phase : Phase) → is_gathering phase ≡ true → (is_sealed phase ≡ false) × (is_doubtful phase ≡ false)
    gathering_is_not Phase.Gathering is_it = (refl, refl)
    gathering_is_not other is_it = absurd (true≢false (sym is_it))

    pub stays_sealed : StaysSealed state happened outside (step state happened outside)
    stays_sealed one next inside seal there same = by_phase (goes_on one next inside there same).phase
      where
        by_phase : PhaseMoves happened given one next
            → (is_sealed next.phase ≡ true) ⊎ ((may_end happened one ≡ true) × (given ≡ answer.InDoubt) × (is_doubtful next.phase ≡ true))
        by_phase (PhaseMoves.same phase) = inl (ap is_sealed phase ∙ seal)
        by_phase (PhaseMoves.gathered gathering sure) = absurd (true≢false (sym seal ∙ (gathering_is_not one.phase gathering).0))
        by_phase (PhaseMoves.doubted may doubt doubtful) = inr (may, doubt, doubtful)

    -- what is noted
    not_both : (mark : Option ℕ) (lost : ℕ) → mark ≡ None → mark ≡ Some lost → ⊥
    not_both mark lost none some = true≢false (sym (sym (ap is_some none) ∙ ap is_some some))

    pub notes_declared : NotesDeclaredLosses state happened outside (step state happened outside)
    notes_declared next lost there noted =
        ⊎_elim
        (λ (on : (one : Stabilisation) × Contains state.shared.stabilisations one × Moves happened given state.shared after one next).
        ⊎_elim (λ same. inl (on.0, on.1, sym on.2.lead, sym same ∙ noted))
        (λ (new : NotesNow happened given on.0 next).
        let it : new.lost ≡ lost = ap (λ (x : Option ℕ). unwrap_or x lost) (sym new.noted ∙ noted) in
        inr ((on.0, on.1, sym on.2.lead, new.none), ap (λ number. is_noted_by happened given number next.lead) (sym it) ∙ ap (is_noted_by happened given new.lost) on.2.lead ∙ new.by))
        on.2.noted)
        (λ (new : Begins happened given after next). absurd (not_both next.noted lost new.noted noted)) (moved.from next there)

    pub keeps_first_note : KeepsTheFirstNote state happened outside (step state happened outside)
    keeps_first_note one next lost inside noted there same =
        ⊎_elim (λ still. still ∙ noted) (λ (new : NotesNow happened given one next). absurd (not_both one.noted lost new.none noted)) (goes_on one next inside there same).noted

    pub gathering_notes_none : GatheringHasNoNote state → GatheringHasNoNote (step state happened outside).state
    gathering_notes_none none next there gathering =
        ⊎_elim
        (λ (on : (one : Stabilisation) × Contains state.shared.stabilisations one × Moves happened given state.shared after one next).
        let was = by_phase on.0 on.2.phase in
        ⊎_elim (λ still. still ∙ none on.0 on.1 was) (λ (new : NotesNow happened given on.0 next). absurd (true≢false (sym was ∙ new.held))) on.2.noted)
        (λ (new : Begins happened given after next). new.noted) (moved.from next there)
      where
        by_phase : (one : Stabilisation) → PhaseMoves happened given one next → is_gathering one.phase ≡ true
        by_phase one (PhaseMoves.same phase) = ap is_gathering (sym phase) ∙ gathering
        by_phase one (PhaseMoves.gathered was sure) = was
        by_phase one (PhaseMoves.doubted may doubt doubtful) = absurd (true≢false (sym doubtful ∙ (gathering_is_not next.phase gathering).1))

    pub gathers_while : GathersWhileAwaiting state → GathersWhileAwaiting (step state happened outside).state
    gathers_while gathers next there =
        ⊎_elim
        (λ (on : (one : Stabilisation) × Contains state.shared.stabilisations one × Moves happened given state.shared after one next). on.2.awaits (gathers on.0 on.1))
        (λ (new : Begins happened given after next). new.awaits) (moved.from next there)

    pub awaits_members : AwaitsMembers state → AwaitsMembers (step state happened outside).state
    awaits_members members next who there waits =
        ⊎_elim
        (λ (on : (one : Stabilisation) × Contains state.shared.stabilisations one × Moves happened given state.shared after one next).
        subst (λ lead. has_member who (association_of after.trail lead) ≡ true) (sym on.2.lead) (on.2.members who (members on.0 who on.1 (on.2.awaited who waits))))
        (λ (new : Begins happened given after next). new.awaited who waits) (moved.from next there)
