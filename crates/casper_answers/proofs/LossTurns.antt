use Rattle.std.proofs.Common.{◌≡◌, ℕ, Bool, true, false, cond, not, ◌==◌, length, map, Contains, refl, sym, ap, ◌∙◌, subst, true≢false}
use Rattle.std.specs.Prelude.{Option, None, Some, is_some}
use Rattle.std.specs.Option.{option_or}
use Rattle.std.proofs.lemmas.Bool.{cond-true, and_parts, eq-eqb, eqb-true}
use Rattle.casper_space.specs.declared.answer.Answer.{Answer}
use Rattle.casper_space.specs.declared.answer.Answer.TheVariants as answer
use Rattle.casper_model.specs.declared.event.Event.{Event}
use Rattle.casper_model.specs.declared.event.Event.TheVariants as event
use Rattle.casper_model.specs.declared.reply.Loss.{Loss}
use Rattle.casper_model.specs.declared.reply.Loss.TheVariants as loss
use Rattle.casper_model.specs.Answers.{of_served, of_depart, of_stabilise, of_vanish, of_lose}
use Rattle.casper_model.specs.Both.{Changed}
use Rattle.casper_model.specs.Client.{Client, Fallen}
use Rattle.casper_model.specs.Frozen.{is_member, stabilisation_of}
use Rattle.casper_model.specs.Leave.{served_by, departed_by, absent, vanished_by}
use Rattle.casper_model.specs.Loss.{rolled_back, lose_by, lost_in}
use Rattle.casper_model.specs.Outside.{Outside}
use Rattle.casper_model.specs.Own.{Own}
use Rattle.casper_model.specs.Shared.{Shared, client_at, of_client, fallen_at, is_live, change_stabilisation}
use Rattle.casper_model.specs.Stabilisation.{Stabilisation, is_gathering, with_noted, without}
use Rattle.casper_model.specs.Stabilise.{stabilised_by}
use Rattle.casper_model.specs.State.{State, own_at, with_own, with_shared}
use Rattle.casper_model.specs.Step.{step, serve_turn, stabilise_turn, depart_turn, vanish_turn, lose_turn}
use Rattle.casper_model.specs.Turn.{Turn}
use Rattle.casper_laws.specs.OwnLists.{is_rolled_back}
use Rattle.casper_laws.proofs.AnswerLawsSteps.{let_live}
use Rattle.casper_laws.proofs.CompletedCalls.{live_turn}
use Rattle.casper_turns.proofs.Lists.{find_found, contains_mapped}
use Rattle.casper_laws.proofs.StepImage.{IsOrderly}
use Rattle.casper_answers.specs.Losses.{TellsTheFallen, TellsVanishing, TellsLosses, IsBeingWritten, place_of_fall, is_noted_by, NotesWhatItSays}

-- What is answered where a client vanishes or is declared lost.

abbrev pub is_lost : Loss → Bool
is_lost (loss.Lost mark count) = true
is_lost other = false

abbrev is_noted : Loss → Bool
is_noted (loss.Noted lead count) = true
is_noted other = false

abbrev is_already : Loss → Bool
is_already (loss.Already mark) = true
is_already other = false

abbrev first_in : Loss → ℕ
first_in (loss.Lost mark count) = mark
first_in (loss.Noted lead count) = lead
first_in (loss.Already mark) = mark

abbrev count_in : Loss → ℕ
count_in (loss.Lost mark count) = count
count_in (loss.Noted lead count) = count
count_in (loss.Already mark) = 0

-- what the loss of a client that is not fallen replies
record LossReplies (shared : Shared) (who unrecorded : ℕ) (reply : Loss) (after : Shared) : Type 0 where
  lost : is_lost reply ≡ true → (first_in reply ≡ length shared.trail) × (count_in reply ≡ unrecorded)
  noted : is_noted reply ≡ true
      → IsBeingWritten shared who (first_in reply) × (count_in reply ≡ unrecorded)
      × ((next : Stabilisation) × Contains after.stabilisations next × (next.lead ≡ first_in reply) × (is_some next.noted ≡ true))
  fallen : is_already reply ≡ true → ⊥

rolled_replies : (shared : Shared) (who unrecorded : ℕ) (after : Shared) → LossReplies shared who unrecorded (loss.Lost (length shared.trail) unrecorded) after
rolled_replies shared who unrecorded after = record {
  lost = λ is. (refl, refl);
  noted = λ is. absurd (true≢false (sym is));
  fallen = λ is. true≢false (sym is);
}

lost_replies : (shared : Shared) (who unrecorded : ℕ) (found : Option Stabilisation) → stabilisation_of shared who ≡ found
    → LossReplies shared who unrecorded (lost_in shared who unrecorded found).reply (lost_in shared who unrecorded found).shared
lost_replies shared who unrecorded None e = rolled_replies shared who unrecorded _
lost_replies shared who unrecorded (Some one) e = by_phase (is_gathering one.phase) refl
  where
    some_noted : (note : Option ℕ) → is_some (option_or note (Some who)) ≡ true
    some_noted None = refl
    some_noted (Some first) = refl

    found : Contains shared.stabilisations one × (is_member shared who one ≡ true)
    found = find_found (is_member shared who) shared.stabilisations one e

    by_phase : (gathering : Bool) → is_gathering one.phase ≡ gathering
        → LossReplies shared who unrecorded
        (cond {A = Changed Loss} gathering (record { reply = loss.Lost (length shared.trail) unrecorded; shared = rolled_back shared who })
        (record { reply = loss.Noted one.lead unrecorded; shared = change_stabilisation one.lead (with_noted who) shared })).reply
        (cond {A = Changed Loss} gathering (record { reply = loss.Lost (length shared.trail) unrecorded; shared = rolled_back shared who })
        (record { reply = loss.Noted one.lead unrecorded; shared = change_stabilisation one.lead (with_noted who) shared })).shared
    by_phase true gathering = rolled_replies shared who unrecorded (rolled_back shared who)
    by_phase false gathering = record {
      lost = λ is. absurd (true≢false (sym is));
      noted = λ is. (
        (one, found.0, refl, found.1, gathering),
        refl,
        (
          with_noted who one,
          subst (Contains (change_stabilisation one.lead (with_noted who) shared).stabilisations)
              (cond-true (one.lead == one.lead) (with_noted who one) one (eq-eqb one.lead one.lead refl))
              (contains_mapped (λ (x : Stabilisation). cond (x.lead == one.lead) (with_noted who x) x) shared.stabilisations one found.0),
          refl,
          some_noted one.noted,
        ),
      );
      fallen = λ is. true≢false (sym is);
    }

module _ (state : State) (known : IsOrderly state) where
  abbrev shared : Shared
  shared = state.shared

  numbers : (who : ℕ) → (own_at state who).who ≡ who
  numbers = known.history.order.shaped.numbers

  -- a turn of a fallen client
  pub tells_the_fallen : TellsTheFallen state
  tells_the_fallen who fallen outside client fell = (
    let_live (λ turn. is_rolled_back turn.answer ≡ true) who state (serve_turn who) live (by_serve (fallen_at shared (own_at state who).who) here),
    let_live (λ turn. is_rolled_back turn.answer ≡ true) who state (stabilise_turn who) live (by_stabilise (fallen_at shared (own_at state who).who) here),
    let_live (λ turn. is_rolled_back turn.answer ≡ true) who state (depart_turn who) live (by_depart (fallen_at shared (own_at state who).who) here),
  )
    where
      here : fallen_at state.shared (own_at state who).who ≡ Some fallen
      here = ap (fallen_at shared) (numbers who) ∙ fell

      live : not (is_live state.shared who) ≡ false
      live = by_place (client_at shared who) refl
        where
          by_place : (place : Option Client) → client_at state.shared who ≡ place → not (is_some place) ≡ false
          by_place None e = absurd (true≢false (sym (ap is_some fell) ∙ ap (λ x. is_some (of_client None (λ (client : Client). client.fallen) x)) e))
          by_place (Some found) e = refl

      none : {T : Type 0} → None ≡ Some fallen → T
      none e = absurd (true≢false (sym (ap is_some e)))

      by_serve : (found : Option Fallen) → found ≡ Some fallen → is_rolled_back (of_served (served_by state.shared (own_at state who) found).reply) ≡ true
      by_serve None e = none e
      by_serve (Some one) e = refl

      by_stabilise : (found : Option Fallen) → found ≡ Some fallen → is_rolled_back (of_stabilise (stabilised_by state.shared (own_at state who) found).reply) ≡ true
      by_stabilise None e = none e
      by_stabilise (Some one) e = refl

      by_depart : (found : Option Fallen) → found ≡ Some fallen → is_rolled_back (of_depart (departed_by state.shared (own_at state who) found).reply) ≡ true
      by_depart None e = none e
      by_depart (Some one) e = refl

  -- what a declared loss is answered
  pub record LoseAnswers (who : ℕ) (turn : Turn) : Type 0 where
    pub lost : (mark : ℕ) → turn.answer ≡ answer.LoseLost mark → (mark ≡ length state.shared.trail) × (fallen_at state.shared who ≡ None)
    pub noted : (lead : ℕ) → turn.answer ≡ answer.LoseNoted lead
        → IsBeingWritten state.shared who lead × (fallen_at state.shared who ≡ None)
        × ((next : Stabilisation) × Contains turn.state.shared.stabilisations next × (next.lead ≡ lead) × (is_some next.noted ≡ true))
    pub already : (mark : ℕ) → turn.answer ≡ answer.Already mark → (fallen : Fallen) × (fallen_at state.shared who ≡ Some fallen) × (fallen.mark ≡ mark)

  pub record VanishAnswers (who : ℕ) (turn : Turn) : Type 0 where
    pub lost : (mark unrecorded : ℕ) → turn.answer ≡ answer.VanishLost mark unrecorded
        → (mark ≡ place_of_fall state.shared (fallen_at state.shared who)) × (unrecorded ≡ length (own_at state who).pending)
    pub noted : (lead unrecorded : ℕ) → turn.answer ≡ answer.VanishNoted lead unrecorded
        → (IsBeingWritten state.shared who lead × (fallen_at state.shared who ≡ None) × (unrecorded ≡ length (own_at state who).pending))
        × ((next : Stabilisation) × Contains turn.state.shared.stabilisations next × (next.lead ≡ lead) × (is_some next.noted ≡ true))

  -- which answer a reply is
  abbrev lose_kind : Answer → ℕ
  lose_kind (answer.LoseLost mark) = 1
  lose_kind (answer.LoseNoted lead) = 2
  lose_kind (answer.Already mark) = 3
  lose_kind (answer.VanishLost mark unrecorded) = 4
  lose_kind (answer.VanishNoted lead unrecorded) = 5
  lose_kind other = 0

  abbrev place_in : Answer → ℕ
  place_in (answer.LoseLost mark) = mark
  place_in (answer.LoseNoted lead) = lead
  place_in (answer.Already mark) = mark
  place_in (answer.VanishLost mark unrecorded) = mark
  place_in (answer.VanishNoted lead unrecorded) = lead
  place_in other = 0

  abbrev pending_in : Answer → ℕ
  pending_in (answer.VanishLost mark unrecorded) = unrecorded
  pending_in (answer.VanishNoted lead unrecorded) = unrecorded
  pending_in other = 0

  kinds_differ : {T : Type 0} (one other : ℕ) → (one == other) ≡ false → one ≡ other → T
  kinds_differ one other apart same = absurd (true≢false (sym (eq-eqb one other same) ∙ apart))

  lose_replied : (who : ℕ) (reply : Loss) (after : State) → fallen_at state.shared who ≡ None → LossReplies state.shared who 0 reply after.shared
      → LoseAnswers who (record { answer = of_lose reply; state = after })
  lose_replied who (loss.Lost mark count) after up replies = record {
    lost = λ at is. (sym (ap place_in is) ∙ (replies.lost refl).0, up);
    noted = λ lead is. kinds_differ 1 2 refl (ap lose_kind is);
    already = λ at is. kinds_differ 1 3 refl (ap lose_kind is);
  }
  lose_replied who (loss.Noted lead count) after up replies =
      let noted = replies.noted refl in
      record {
        lost = λ at is. kinds_differ 2 1 refl (ap lose_kind is);
        noted = λ other is.
            (subst (IsBeingWritten state.shared who) (ap place_in is) noted.0, up, (noted.2.0, noted.2.1, noted.2.2 ∙ ap place_in is, noted.2.3));
        already = λ at is. kinds_differ 2 3 refl (ap lose_kind is);
      }
  lose_replied who (loss.Already mark) after up replies = absurd (replies.fallen refl)

  lose_answers : (who : ℕ) (outside : Outside) → LoseAnswers who (step state (event.Lose who) outside)
  lose_answers who outside =
      live_turn (LoseAnswers who) who state (lose_turn who)
      (record {
        lost = λ mark is. kinds_differ 0 1 refl (ap lose_kind is);
        noted = λ lead is. kinds_differ 0 2 refl (ap lose_kind is);
        already = λ mark is. kinds_differ 0 3 refl (ap lose_kind is);
      })
      (λ live. by_fallen (fallen_at state.shared who) refl)
    where
      by_fallen : (fallen : Option Fallen) → fallen_at state.shared who ≡ fallen
          → LoseAnswers who (record { answer = of_lose (lose_by state.shared who fallen).reply; state = with_shared state (lose_by state.shared who fallen).shared })
      by_fallen (Some fallen) e = record {
        lost = λ mark is. kinds_differ 3 1 refl (ap lose_kind is);
        noted = λ lead is. kinds_differ 3 2 refl (ap lose_kind is);
        already = λ mark is. (fallen, e, ap place_in is);
      }
      by_fallen None e =
          lose_replied who (lost_in state.shared who 0 (stabilisation_of state.shared who)).reply (with_shared state (lost_in state.shared who 0 (stabilisation_of state.shared who)).shared) e
          (lost_replies state.shared who 0 (stabilisation_of state.shared who) refl)

  vanish_replied : (who : ℕ) (reply : Loss) (middle : Shared) (own : Own) (after : State) → own ≡ own_at state who
      → after.shared.stabilisations ≡ map (λ (x : Stabilisation). record x { askers = without own.who x.askers }) middle.stabilisations
      → fallen_at state.shared who ≡ None → LossReplies state.shared who (length own.pending) reply middle → VanishAnswers who (record { answer = of_vanish reply; state = after })
  vanish_replied who (loss.Lost mark count) middle own after is_own stabs up replies = record {
    lost = λ at unrecorded is. (
      sym (ap place_in is) ∙ (replies.lost refl).0 ∙ sym (ap (place_of_fall state.shared) up),
      sym (ap pending_in is) ∙ (replies.lost refl).1 ∙ ap (λ (x : Own). length x.pending) is_own,
    );
    noted = λ lead unrecorded is. kinds_differ 4 5 refl (ap lose_kind is);
  }
  vanish_replied who (loss.Noted lead count) middle own after is_own stabs up replies =
      let noted = replies.noted refl in
      record {
        lost = λ at unrecorded is. kinds_differ 5 4 refl (ap lose_kind is);
        noted = λ other unrecorded is. (
          (subst (IsBeingWritten state.shared who) (ap place_in is) noted.0, up, sym (ap pending_in is) ∙ noted.1 ∙ ap (λ (x : Own). length x.pending) is_own),
          (
            record (noted.2.0) { askers = without own.who noted.2.0.askers },
            subst (λ list. Contains list (record (noted.2.0) { askers = without own.who noted.2.0.askers })) (sym stabs)
                (contains_mapped (λ (x : Stabilisation). record x { askers = without own.who x.askers }) middle.stabilisations noted.2.0 noted.2.1),
            noted.2.2 ∙ ap place_in is,
            noted.2.3,
          ),
        );
      }
  vanish_replied who (loss.Already mark) middle own after is_own stabs up replies = absurd (replies.fallen refl)

  vanish_answers : (who : ℕ) (outside : Outside) → VanishAnswers who (step state (event.Vanish who) outside)
  vanish_answers who outside =
      live_turn (VanishAnswers who) who state (vanish_turn who)
      (record {
        lost = λ mark unrecorded is. kinds_differ 0 4 refl (ap lose_kind is);
        noted = λ lead unrecorded is. kinds_differ 0 5 refl (ap lose_kind is);
      })
      (λ live. by_fallen (fallen_at state.shared (own_at state who).who) refl)
    where
      by_fallen : (fallen : Option Fallen) → fallen_at state.shared (own_at state who).who ≡ fallen
          → VanishAnswers who
          (record {
            answer = of_vanish (vanished_by state.shared (own_at state who) fallen).reply;
            state = with_own (with_shared state (absent (record { shared = (vanished_by state.shared (own_at state who) fallen).shared; own = own_at state who })).shared)
                (absent (record { shared = (vanished_by state.shared (own_at state who) fallen).shared; own = own_at state who })).own;
          })
      by_fallen (Some fallen) e = record {
        lost = λ mark unrecorded is.
            (sym (ap place_in is) ∙ sym (ap (place_of_fall state.shared) (ap (fallen_at state.shared) (sym (numbers who)) ∙ e)), sym (ap pending_in is));
        noted = λ lead unrecorded is. kinds_differ 4 5 refl (ap lose_kind is);
      }
      by_fallen None e =
          let own = own_at state who in
          let found = stabilisation_of state.shared own.who in
          let middle = (lost_in state.shared own.who (length own.pending) found).shared in
          vanish_replied who (lost_in state.shared own.who (length own.pending) found).reply middle own
          (with_own (with_shared state (absent (record { shared = middle; own = own })).shared) (absent (record { shared = middle; own = own })).own) refl refl
          (ap (fallen_at state.shared) (sym (numbers who)) ∙ e)
          (subst (λ number. LossReplies state.shared number (length own.pending) (lost_in state.shared own.who (length own.pending) found).reply middle) (numbers who)
          (lost_replies state.shared own.who (length own.pending) found refl))

  pub tells_vanishing : TellsVanishing state
  tells_vanishing who outside client =
      let answers = vanish_answers who outside in (answers.lost, λ lead unrecorded is. (answers.noted lead unrecorded is).0)

  pub tells_losses : TellsLosses state
  tells_losses who outside client =
      let answers = lose_answers who outside in
      (answers.lost, λ lead is. let noted = answers.noted lead is in (noted.0, noted.1), answers.already)

  -- a loss that is answered to be noted is
  pub notes_what_it_says : (happened : Event) (outside : Outside) → NotesWhatItSays state happened outside (step state happened outside)
  notes_what_it_says (event.Vanish who) outside lost lead says = by_answer (step state (event.Vanish who) outside).answer refl says
    where
      by_answer : (given : Answer) → (step state (event.Vanish who) outside).answer ≡ given → is_noted_by (event.Vanish who) given lost lead ≡ true
          → (next : Stabilisation) × Contains (step state (event.Vanish who) outside).state.shared.stabilisations next × (next.lead ≡ lead) × (is_some next.noted ≡ true)
      by_answer (answer.VanishNoted other unrecorded) e said =
          let noted = ((vanish_answers who outside).noted other unrecorded e).1 in
          (noted.0, noted.1, noted.2 ∙ eqb-true other lead (and_parts (who == lost) (other == lead) said).1, noted.3)
      by_answer other e said = absurd (true≢false (sym said))
  notes_what_it_says (event.Lose who) outside lost lead says = by_answer (step state (event.Lose who) outside).answer refl says
    where
      by_answer : (given : Answer) → (step state (event.Lose who) outside).answer ≡ given → is_noted_by (event.Lose who) given lost lead ≡ true
          → (next : Stabilisation) × Contains (step state (event.Lose who) outside).state.shared.stabilisations next × (next.lead ≡ lead) × (is_some next.noted ≡ true)
      by_answer (answer.LoseNoted other) e said =
          let noted = ((lose_answers who outside).noted other e).2 in
          (noted.0, noted.1, noted.2 ∙ eqb-true other lead (and_parts (who == lost) (other == lead) said).1, noted.3)
      by_answer other e said = absurd (true≢false (sym said))
  notes_what_it_says other outside lost lead says = absurd (true≢false (sym says))
