use Rattle.std.proofs.Common.{◌≡◌, ℕ, List, [], ◌∷◌, ◌++◌, Bool, true, false, cond, not, ◌==◌, length, Contains, refl, sym, ap, ◌∙◌, subst, true≢false}
use Rattle.std.specs.Prelude.{Option, None, Some, is_some}
use Rattle.std.proofs.lemmas.Bool.{cond_both, cond-true, eq-eqb, or_left, false_from_ne_true}
use Rattle.casper_words.specs.Crew.{IsClient, has_member, crew_of}
use Rattle.casper_words.proofs.CrewLemmas.{has_member_crew_of}
use Rattle.casper_space.specs.declared.answer.Answer.{Answer}
use Rattle.casper_space.specs.declared.answer.Answer.TheVariants as answer
use Rattle.casper_trail.specs.Association.{association_of}
use Rattle.casper_trail.proofs.Rounds.{association_holds_its_client}
use Rattle.casper_model.specs.declared.event.Event.TheVariants as event
use Rattle.casper_model.specs.declared.outcome.Kept.{Kept}
use Rattle.casper_model.specs.declared.outcome.Kept.TheVariants as kept
use Rattle.casper_model.specs.declared.outcome.Outcome.TheVariants as outcome
use Rattle.casper_model.specs.declared.reply.StabReply.{StabReply}
use Rattle.casper_model.specs.declared.reply.StabReply.TheVariants as stab
use Rattle.casper_model.specs.Answers.{of_stabilise}
use Rattle.casper_model.specs.Both.{Both, Turned}
use Rattle.casper_model.specs.Client.{Client, Fallen}
use Rattle.casper_model.specs.Frozen.{is_member, stabilisation_of, pages_modified_by}
use Rattle.casper_model.specs.Opening.{opened, handed_in}
use Rattle.casper_model.specs.Outside.{Outside}
use Rattle.casper_model.specs.Own.{Own}
use Rattle.casper_model.specs.Shared.{Shared, fallen_at, of_client, is_live}
use Rattle.casper_model.specs.Stabilisation.{Stabilisation, Phase, is_empty, is_gathering, is_sealed, is_doubtful, phase_awaiting}
use Rattle.casper_model.specs.Stabilise.{kept_at, reply_of_kept, reply_in_phase, reply_awaiting, writers_among, with_asker, stabilised_by, stabilised, stabilised_in, frozen_by}
use Rattle.casper_model.specs.State.{State, own_at, after_turn}
use Rattle.casper_model.specs.Step.{step, stabilise_turn}
use Rattle.casper_model.specs.Turn.{Turn}
use Rattle.casper_model.proofs.Additions.{who_opened}
use Rattle.casper_trail.proofs.LinkLists.{contains_there}
use Rattle.casper_laws.specs.OwnLists.{is_rolled_back}
use Rattle.casper_laws.proofs.AnswerLawsSteps.{let_live}
use Rattle.casper_laws.proofs.CompletedCalls.{live_turn}
use Rattle.casper_turns.proofs.Lists.{contains_here, contains_mapped, find_found}
use Rattle.casper_laws.proofs.StepImage.{IsOrderly}
use Rattle.casper_answers.specs.Acknowledgement.{answer_of_kept, tells_outcome, is_under_way, TellsTheKept, TellsOnlyTheKept, WaitsWhereUnderWay}
use Rattle.casper_answers.specs.StabiliseCauses.{GatheringHasItsCause, SealedHasItsCause, DoingHasItsCause}

-- What a stabilise answers, by what its client finds.

abbrev pub stab_turn : State → Turned StabReply → Turn
stab_turn state turn = record { answer = of_stabilise turn.reply; state = after_turn state turn }

-- the client is absent; it is told of its fall, or of what was kept for it; or it waits in its stabilisation, or in a new one
pub by_stabilise : (P : Turn → Type 0) (state : State) (who : ℕ) (outside : Outside) → P (record { answer = answer.Absent; state = state })
    → (is_live state.shared who ≡ true → (fallen : Fallen) → fallen_at state.shared (own_at state who).who ≡ Some fallen
    → P (stab_turn state (stabilised_by state.shared (own_at state who) (Some fallen))))
    → (is_live state.shared who ≡ true → fallen_at state.shared (own_at state who).who ≡ None → (outcome : Kept) → kept_at state.shared (own_at state who).who ≡ Some outcome
    → P (stab_turn state (stabilised (opened state.shared (own_at state who)) (Some outcome))))
    → (is_live state.shared who ≡ true → fallen_at state.shared (own_at state who).who ≡ None → kept_at state.shared (own_at state who).who ≡ None
    → (found : Option Stabilisation) → stabilisation_of (opened state.shared (own_at state who)).shared (opened state.shared (own_at state who)).own.who ≡ found
    → P (stab_turn state (stabilised_in (opened state.shared (own_at state who)) found)))
    → P (step state (event.Stabilise who) outside)
by_stabilise P state who outside absent told kept waits =
    live_turn P who state (stabilise_turn who) absent (λ live. by_fallen live (fallen_at state.shared (own_at state who).who) refl)
  where
    by_kept : is_live state.shared who ≡ true → fallen_at state.shared (own_at state who).who ≡ None → (found : Option Kept)
        → kept_at state.shared (own_at state who).who ≡ found → P (stab_turn state (stabilised (opened state.shared (own_at state who)) found))
    by_kept live up (Some outcome) e = kept live up outcome e
    by_kept live up None e = waits live up e (stabilisation_of (opened state.shared (own_at state who)).shared (opened state.shared (own_at state who)).own.who) refl

    by_fallen : is_live state.shared who ≡ true → (fallen : Option Fallen) → fallen_at state.shared (own_at state who).who ≡ fallen
        → P (stab_turn state (stabilised_by state.shared (own_at state who) fallen))
    by_fallen live (Some fallen) e = told live fallen e
    by_fallen live None e = by_kept live e (kept_at state.shared (own_at state who).who) refl

-- a kept outcome is told as it is
told_as_kept : (outcome : Kept) → of_stabilise (reply_of_kept outcome) ≡ answer_of_kept outcome
told_as_kept (kept.Committed place) = refl
told_as_kept (kept.Failed (outcome.Ok version)) = refl
told_as_kept (kept.Failed (outcome.Full need free)) = refl
told_as_kept (kept.Failed outcome.Worn) = refl
told_as_kept (kept.Failed outcome.Disk) = refl
told_as_kept (kept.Failed outcome.Doubt) = refl

no_way_kept : (outcome : Kept) → is_under_way (of_stabilise (reply_of_kept outcome)) ≡ false
no_way_kept (kept.Committed place) = refl
no_way_kept (kept.Failed (outcome.Ok version)) = refl
no_way_kept (kept.Failed (outcome.Full need free)) = refl
no_way_kept (kept.Failed outcome.Worn) = refl
no_way_kept (kept.Failed outcome.Disk) = refl
no_way_kept (kept.Failed outcome.Doubt) = refl

-- neither tells of a fall
pub kept_silent : (outcome : Kept) → is_rolled_back (of_stabilise (reply_of_kept outcome)) ≡ false
kept_silent (kept.Committed place) = refl
kept_silent (kept.Failed (outcome.Ok version)) = refl
kept_silent (kept.Failed (outcome.Full need free)) = refl
kept_silent (kept.Failed outcome.Worn) = refl
kept_silent (kept.Failed outcome.Disk) = refl
kept_silent (kept.Failed outcome.Doubt) = refl

pub in_silent : (both : Both) (found : Option Stabilisation) → is_rolled_back (of_stabilise (stabilised_in both found).reply) ≡ false
in_silent both None =
    cond_both (is_empty (writers_among (handed_in both).shared (association_of (handed_in both).shared.trail (handed_in both).own.who)))
    (stab.Sealed (length (pages_modified_by (handed_in both).shared.trail (association_of (handed_in both).shared.trail (handed_in both).own.who))))
    (stab.Gathering (writers_among (handed_in both).shared (association_of (handed_in both).shared.trail (handed_in both).own.who)))
    (λ reply. is_rolled_back (of_stabilise reply) ≡ false) (λ is. refl) (λ is. refl)
in_silent both (Some one) = by_phase one.phase
  where
    by_phase : (phase : Phase) → is_rolled_back (of_stabilise (reply_in_phase one phase)) ≡ false
    by_phase Phase.Gathering = refl
    by_phase Phase.Sealed = refl
    by_phase Phase.Doubtful = refl

phase_tells_nothing : (one : Stabilisation) (phase : Phase) → tells_outcome (of_stabilise (reply_in_phase one phase)) ≡ false
phase_tells_nothing one Phase.Gathering = refl
phase_tells_nothing one Phase.Sealed = refl
phase_tells_nothing one Phase.Doubtful = refl

awaiting_tells_nothing : (awaited : List ℕ) (pages : ℕ) → tells_outcome (of_stabilise (reply_awaiting awaited pages)) ≡ false
awaiting_tells_nothing awaited pages = cond_both (is_empty awaited) (stab.Sealed pages) (stab.Gathering awaited) (λ reply. tells_outcome (of_stabilise reply) ≡ false) (λ is. refl) (λ is. refl)

in_tells_nothing : (both : Both) (found : Option Stabilisation) → tells_outcome (of_stabilise (stabilised_in both found).reply) ≡ false
in_tells_nothing both None = awaiting_tells_nothing (writers_among (handed_in both).shared (association_of (handed_in both).shared.trail (handed_in both).own.who)) _
in_tells_nothing both (Some one) = phase_tells_nothing one one.phase

module _ (state : State) (known : IsOrderly state) where
  numbers : (who : ℕ) → (own_at state who).who ≡ who
  numbers = known.history.order.shaped.numbers

  pub tells_the_kept : TellsTheKept state
  tells_the_kept who outside outcome client stands is =
      let_live (λ turn. turn.answer ≡ answer_of_kept outcome) who state (stabilise_turn who) (ap (λ place. not (is_some place)) stands.1)
      (by_fallen (fallen_at state.shared own.who)
      (ap (fallen_at state.shared) (numbers who) ∙ ap fallen_of stands.1 ∙ stands.2) (ap (kept_at state.shared) (numbers who) ∙ is))
    where
      own : Own
      own = own_at state who

      fallen_of : Option Client → Option Fallen
      fallen_of place = of_client None (λ client. client.fallen) place

      by_fallen : (fallen : Option Fallen) → fallen ≡ None → kept_at state.shared own.who ≡ Some outcome
          → of_stabilise (stabilised_by state.shared own fallen).reply ≡ answer_of_kept outcome
      by_fallen (Some fallen) none some = absurd (true≢false (ap is_some none))
      by_fallen None none some =
          subst (λ kept. of_stabilise (stabilised (opened state.shared own) kept).reply ≡ answer_of_kept outcome) (sym some) (told_as_kept outcome)

  pub tells_only_the_kept : TellsOnlyTheKept state
  tells_only_the_kept who outside client =
      by_stabilise
      (λ turn. tells_outcome turn.answer ≡ true → (outcome : Kept) × (kept_at state.shared who ≡ Some outcome) × (turn.answer ≡ answer_of_kept outcome)) state who outside
      (λ tells. absurd (true≢false (sym tells))) (λ live fallen e tells. absurd (true≢false (sym tells)))
      (λ live up outcome e tells. (outcome, ap (kept_at state.shared) (sym (numbers who)) ∙ e, told_as_kept outcome))
      (λ live up none found e tells. absurd (true≢false (sym tells ∙ in_tells_nothing (opened state.shared (own_at state who)) found)))

  -- the stabilisation that begins, and the one that its client belongs to, after the turn
  abbrev new_one : Both → Stabilisation
  new_one both =
      let after = handed_in both in
      let who = after.own.who in
      let awaited = writers_among after.shared (association_of after.shared.trail who) in
      record { lead = who; awaited = awaited; askers = crew_of (λ other. has_member other (who ∷ [])); noted = None; phase = phase_awaiting awaited }

  new_stands : (both : Both) → IsClient both.own.who
      → Contains (frozen_by both).shared.stabilisations (new_one both) × (has_member both.own.who (new_one both).askers ≡ true)
      × (is_member (frozen_by both).shared both.own.who (new_one both) ≡ true)
  new_stands both client = (
    contains_right both.shared.stabilisations (new_one both),
    has_member_crew_of (λ other. has_member other (both.own.who ∷ [])) both.own.who client
        ∙ or_left (both.own.who == both.own.who) false (eq-eqb both.own.who both.own.who refl),
    association_holds_its_client (frozen_by both).shared.trail both.own.who client,
  )
    where
      contains_right : (list : List Stabilisation) (last : Stabilisation) → Contains (list ++ last ∷ []) last
      contains_right [] last = contains_here last []
      contains_right (first ∷ list) last = contains_there first (list ++ last ∷ []) last (contains_right list last)

  old_stands : (both : Both) (one : Stabilisation) → IsClient both.own.who → stabilisation_of both.shared both.own.who ≡ Some one
      → Contains (stabilised_in both (Some one)).shared.stabilisations (with_asker both.own.who one) × (has_member both.own.who (with_asker both.own.who one).askers ≡ true)
      × (is_member (stabilised_in both (Some one)).shared both.own.who (with_asker both.own.who one) ≡ true)
  old_stands both one client e =
      let found = find_found (is_member both.shared both.own.who) both.shared.stabilisations one e in (
        subst (Contains (stabilised_in both (Some one)).shared.stabilisations)
            (cond-true (one.lead == one.lead) (with_asker both.own.who one) one (eq-eqb one.lead one.lead refl))
            (contains_mapped (λ (x : Stabilisation). cond (x.lead == one.lead) (with_asker both.own.who x) x) both.shared.stabilisations one found.0),
        has_member_crew_of (λ other. has_member other (both.own.who ∷ one.askers)) both.own.who client
            ∙ or_left (both.own.who == both.own.who) (has_member both.own.who one.askers) (eq-eqb both.own.who both.own.who refl),
        found.1,
      )

  opened_is : (who : ℕ) → (opened state.shared (own_at state who)).own.who ≡ who
  opened_is who = who_opened state.shared (own_at state who) ∙ numbers who

  client_opened : (who : ℕ) → IsClient who → IsClient (opened state.shared (own_at state who)).own.who
  client_opened who client = subst IsClient (sym (opened_is who)) client

  pub waits_where_under_way : WaitsWhereUnderWay state
  waits_where_under_way who outside client =
      by_stabilise
      (λ turn.
      is_under_way turn.answer ≡ true
      → (one : Stabilisation) × Contains turn.state.shared.stabilisations one × (has_member who one.askers ≡ true) × (is_member turn.state.shared who one ≡ true)) state who outside
      (λ way. absurd (true≢false (sym way))) (λ live fallen e way. absurd (true≢false (sym way)))
      (λ live up outcome e way. absurd (true≢false (sym way ∙ no_way_kept outcome))) (λ live up none found e way. by_found found e)
    where
      both : Both
      both = opened state.shared (own_at state who)

      by_found : (found : Option Stabilisation) → stabilisation_of (opened state.shared (own_at state who)).shared (opened state.shared (own_at state who)).own.who ≡ found
          → (one : Stabilisation) × Contains (stabilised_in (opened state.shared (own_at state who)) found).shared.stabilisations one × (has_member who one.askers ≡ true)
          × (is_member (stabilised_in (opened state.shared (own_at state who)) found).shared who one ≡ true)
      by_found None e =
          let stands = new_stands (opened state.shared (own_at state who)) (client_opened who client) in
          let here = opened_is who in (
            new_one (opened state.shared (own_at state who)),
            stands.0,
            subst (λ number. has_member number (new_one (opened state.shared (own_at state who))).askers ≡ true) here stands.1,
            subst (λ number. is_member (frozen_by (opened state.shared (own_at state who))).shared number (new_one (opened state.shared (own_at state who))) ≡ true) here stands.2,
          )
      by_found (Some one) e =
          let stands = old_stands (opened state.shared (own_at state who)) one (client_opened who client) e in
          let here = opened_is who in (
            with_asker both.own.who one,
            stands.0,
            subst (λ number. has_member number (with_asker both.own.who one).askers ≡ true) here stands.1,
            subst (λ number. is_member (stabilised_in both (Some one)).shared number (with_asker both.own.who one) ≡ true) here stands.2,
          )

  -- what an answer tells of
  abbrev awaited_in : Answer → List ℕ
  awaited_in (answer.Gathering awaited) = awaited
  awaited_in other = []

  abbrev number_in : Answer → ℕ
  number_in (answer.Sealed pages) = pages
  number_in (answer.Doing lead) = lead
  number_in (answer.Doubtful lead) = lead
  number_in other = 0

  abbrev is_gathered : Answer → Bool
  is_gathered (answer.Gathering awaited) = true
  is_gathered other = false

  abbrev is_sealed_now : Answer → Bool
  is_sealed_now (answer.Sealed pages) = true
  is_sealed_now other = false

  abbrev is_doing : Answer → Bool
  is_doing (answer.Doing lead) = true
  is_doing other = false

  abbrev is_doubted : Answer → Bool
  is_doubted (answer.Doubtful lead) = true
  is_doubted other = false

  -- what each kind of outcome is not
  never_kept : (test : Answer → Bool) → ((given : Answer) → is_under_way given ≡ false → test given ≡ false) → (outcome : Kept) → test (of_stabilise (reply_of_kept outcome)) ≡ false
  never_kept test only outcome = only (of_stabilise (reply_of_kept outcome)) (no_way_kept outcome)

  -- the fact of a stabilisation after the turn, in each case
  belongs : (Is : Stabilisation → Shared → Type 0) (test : Answer → Bool) (wanted : Answer) → test wanted ≡ true → ((given : Answer) → is_under_way given ≡ false → test given ≡ false)
      → (who : ℕ) (outside : Outside) → IsClient who
      → (of_stabilise (frozen_by (opened state.shared (own_at state who))).reply ≡ wanted
      → Is (new_one (opened state.shared (own_at state who))) (frozen_by (opened state.shared (own_at state who))).shared)
      → ((one : Stabilisation) → of_stabilise (reply_in_phase one one.phase) ≡ wanted
      → Is (with_asker (opened state.shared (own_at state who)).own.who one) (stabilised_in (opened state.shared (own_at state who)) (Some one)).shared)
      → (step state (event.Stabilise who) outside).answer ≡ wanted
      → (one : Stabilisation) × Contains (step state (event.Stabilise who) outside).state.shared.stabilisations one
      × (is_member (step state (event.Stabilise who) outside).state.shared who one ≡ true) × Is one (step state (event.Stabilise who) outside).state.shared
  belongs Is test wanted wants only who outside client new old =
      by_stabilise
      (λ turn.
      turn.answer ≡ wanted
      → (one : Stabilisation) × Contains turn.state.shared.stabilisations one × (is_member turn.state.shared who one ≡ true) × Is one turn.state.shared) state who outside
      (λ is. absurd (true≢false (sym wants ∙ sym (ap test is) ∙ only answer.Absent refl)))
      (λ live fallen e is. absurd (true≢false (sym wants ∙ sym (ap test is) ∙ only _ refl)))
      (λ live up outcome e is. absurd (true≢false (sym wants ∙ sym (ap test is) ∙ never_kept test only outcome)))
      (λ live up none found e is. by_found found e is)
    where
      by_found : (found : Option Stabilisation) → stabilisation_of (opened state.shared (own_at state who)).shared (opened state.shared (own_at state who)).own.who ≡ found
          → of_stabilise (stabilised_in (opened state.shared (own_at state who)) found).reply ≡ wanted
          → (one : Stabilisation) × Contains (stabilised_in (opened state.shared (own_at state who)) found).shared.stabilisations one
          × (is_member (stabilised_in (opened state.shared (own_at state who)) found).shared who one ≡ true)
          × Is one (stabilised_in (opened state.shared (own_at state who)) found).shared
      by_found None e is =
          let both = opened state.shared (own_at state who) in
          let stands = new_stands both (client_opened who client) in
          (new_one both, stands.0, subst (λ number. is_member (frozen_by both).shared number (new_one both) ≡ true) (opened_is who) stands.2, new is)
      by_found (Some one) e is =
          let both = opened state.shared (own_at state who) in
          let stands = old_stands both one (client_opened who client) e in (
            with_asker both.own.who one,
            stands.0,
            subst (λ number. is_member (stabilised_in both (Some one)).shared number (with_asker both.own.who one) ≡ true) (opened_is who) stands.2,
            old one is,
          )

  not_under_way : (test : Answer → Bool) → ((given : Answer) → test given ≡ true → is_under_way given ≡ true) → (given : Answer) → is_under_way given ≡ false → test given ≡ false
  not_under_way test goes given none = false_from_ne_true (test given) (λ is. true≢false (sym (goes given is) ∙ none))

  gathered_goes : (given : Answer) → is_gathered given ≡ true → is_under_way given ≡ true
  gathered_goes (answer.Gathering awaited) is = refl
  gathered_goes other is = absurd (true≢false (sym is))

  sealed_goes : (given : Answer) → is_sealed_now given ≡ true → is_under_way given ≡ true
  sealed_goes (answer.Sealed pages) is = refl
  sealed_goes other is = absurd (true≢false (sym is))

  doing_goes : (given : Answer) → is_doing given ≡ true → is_under_way given ≡ true
  doing_goes (answer.Doing lead) is = refl
  doing_goes other is = absurd (true≢false (sym is))

  doubted_goes : (given : Answer) → is_doubted given ≡ true → is_under_way given ≡ true
  doubted_goes (answer.Doubtful lead) is = refl
  doubted_goes other is = absurd (true≢false (sym is))

  by_awaiting : (P : Bool → Answer → Phase → Type 0) (awaited : List ℕ) (pages : ℕ) → P true (answer.Sealed pages) Phase.Sealed → P false (answer.Gathering awaited) Phase.Gathering
      → P (is_empty awaited) (of_stabilise (reply_awaiting awaited pages)) (phase_awaiting awaited)
  by_awaiting P awaited pages seal gather = by_empty (is_empty awaited)
    where
      by_empty : (none : Bool) → P none (of_stabilise (cond none (stab.Sealed pages) (stab.Gathering awaited))) (cond none Phase.Sealed Phase.Gathering)
      by_empty true = seal
      by_empty false = gather

  pub gathering_cause : GatheringHasItsCause state
  gathering_cause who awaited outside client =
      belongs (λ one after. (is_gathering one.phase ≡ true) × (one.awaited ≡ awaited)) is_gathered (answer.Gathering awaited) refl (not_under_way is_gathered gathered_goes) who outside client
      (λ is.
      let both = opened state.shared (own_at state who) in
      by_awaiting (λ none given phase. given ≡ answer.Gathering awaited → (is_gathering phase ≡ true) × ((new_one both).awaited ≡ awaited)) (new_one both).awaited
      (length (pages_modified_by (handed_in both).shared.trail (association_of (handed_in both).shared.trail (handed_in both).own.who)))
      (λ no. absurd (true≢false (sym (ap is_gathered no)))) (λ yes. (refl, ap awaited_in yes)) is)
      (λ one. by_phase one one.phase)
    where
      by_phase : (one : Stabilisation) (phase : Phase) → of_stabilise (reply_in_phase one phase) ≡ answer.Gathering awaited → (is_gathering phase ≡ true) × (one.awaited ≡ awaited)
      by_phase one Phase.Gathering is = (refl, ap awaited_in is)
      by_phase one Phase.Sealed is = absurd (true≢false (sym (ap is_gathered is)))
      by_phase one Phase.Doubtful is = absurd (true≢false (sym (ap is_gathered is)))

  pub sealed_cause : SealedHasItsCause state
  sealed_cause who pages outside client =
      belongs
      (λ one after. (is_sealed one.phase ≡ true) × (one.lead ≡ who) × (pages ≡ length (pages_modified_by after.trail (association_of after.trail who)))) is_sealed_now
      (answer.Sealed pages) refl (not_under_way is_sealed_now sealed_goes) who outside client
      (λ is.
      let both = opened state.shared (own_at state who) in
      by_awaiting
      (λ none given phase.
      given ≡ answer.Sealed pages
      → (is_sealed phase ≡ true) × ((new_one both).lead ≡ who)
      × (pages ≡ length (pages_modified_by (frozen_by both).shared.trail (association_of (frozen_by both).shared.trail who)))) (new_one both).awaited
      (length (pages_modified_by (handed_in both).shared.trail (association_of (handed_in both).shared.trail (handed_in both).own.who)))
      (λ yes. (
        refl,
        opened_is who,
        sym (ap number_in yes) ∙ ap (λ number. length (pages_modified_by (frozen_by both).shared.trail (association_of (frozen_by both).shared.trail number))) (opened_is who),
      ))
      (λ no. absurd (true≢false (sym (ap is_sealed_now no)))) is)
      (λ one is. absurd (by_phase one one.phase is))
    where
      by_phase : (one : Stabilisation) (phase : Phase) → of_stabilise (reply_in_phase one phase) ≡ answer.Sealed pages → ⊥
      by_phase one Phase.Gathering is = true≢false (sym (ap is_sealed_now is))
      by_phase one Phase.Sealed is = true≢false (sym (ap is_sealed_now is))
      by_phase one Phase.Doubtful is = true≢false (sym (ap is_sealed_now is))

  pub doing_cause : DoingHasItsCause state
  doing_cause who lead outside client = (
    belongs (λ one after. (is_sealed one.phase ≡ true) × (one.lead ≡ lead)) is_doing (answer.Doing lead) refl (not_under_way is_doing doing_goes) who outside client
        (λ is. absurd (never is_doing (λ pages. refl) (λ awaited. refl) (opened state.shared (own_at state who)) (answer.Doing lead) refl is))
        (λ one. by_doing one one.phase),
    belongs (λ one after. (is_doubtful one.phase ≡ true) × (one.lead ≡ lead)) is_doubted (answer.Doubtful lead) refl (not_under_way is_doubted doubted_goes) who outside client
        (λ is. absurd (never is_doubted (λ pages. refl) (λ awaited. refl) (opened state.shared (own_at state who)) (answer.Doubtful lead) refl is))
        (λ one. by_doubt one one.phase),
  )
    where
      never : (test : Answer → Bool) → ((pages : ℕ) → test (answer.Sealed pages) ≡ false) → ((awaited : List ℕ) → test (answer.Gathering awaited) ≡ false) → (both : Both) (wanted : Answer)
          → test wanted ≡ true → of_stabilise (frozen_by both).reply ≡ wanted → ⊥
      never test seal gather both wanted wants is =
          by_awaiting (λ none given phase. given ≡ wanted → ⊥) (new_one both).awaited
          (length (pages_modified_by (handed_in both).shared.trail (association_of (handed_in both).shared.trail (handed_in both).own.who)))
          (λ no. true≢false (sym wants ∙ sym (ap test no) ∙ seal _)) (λ no. true≢false (sym wants ∙ sym (ap test no) ∙ gather _)) is

      by_doing : (one : Stabilisation) (phase : Phase) → of_stabilise (reply_in_phase one phase) ≡ answer.Doing lead → (is_sealed phase ≡ true) × (one.lead ≡ lead)
      by_doing one Phase.Gathering is = absurd (true≢false (sym (ap is_doing is)))
      by_doing one Phase.Sealed is = (refl, ap number_in is)
      by_doing one Phase.Doubtful is = absurd (true≢false (sym (ap is_doing is)))

      by_doubt : (one : Stabilisation) (phase : Phase) → of_stabilise (reply_in_phase one phase) ≡ answer.Doubtful lead → (is_doubtful phase ≡ true) × (one.lead ≡ lead)
      by_doubt one Phase.Gathering is = absurd (true≢false (sym (ap is_doubted is)))
      by_doubt one Phase.Sealed is = absurd (true≢false (sym (ap is_doubted is)))
      by_doubt one Phase.Doubtful is = (refl, ap number_in is)
