use Rattle.std.proofs.Common.{◌≡◌, ◌+◌, ℕ, List, [], ◌∷◌, true, false, length, refl, sym, ap, ◌∙◌, subst, true≢false}
use Rattle.std.specs.Prelude.{Option, None, Some, is_some, option_map, unwrap_or, nat_lt}
use Rattle.std.specs.Option.{option_or}
use Rattle.std.proofs.lemmas.Bool.{cond_both}
use Rattle.casper_words.specs.Crew.{IsClient}
use Rattle.casper_words.specs.declared.call.Op.{Op}
use Rattle.casper_words.specs.declared.call.Op.TheVariants as op
use Rattle.casper_words.specs.declared.page.Right.TheVariants as may
use Rattle.casper_words.specs.declared.page.Want.{Want}
use Rattle.casper_space.specs.declared.answer.Answer.{Answer}
use Rattle.casper_space.specs.declared.answer.Answer.TheVariants as answer
use Rattle.casper_model.specs.declared.event.Event.{Event}
use Rattle.casper_model.specs.declared.event.Event.TheVariants as event
use Rattle.casper_model.specs.declared.reply.Loss.{Loss}
use Rattle.casper_model.specs.declared.reply.Loss.TheVariants as loss
use Rattle.casper_model.specs.declared.reply.Reply.{Reply}
use Rattle.casper_model.specs.declared.reply.Reply.TheVariants as reply
use Rattle.casper_model.specs.Acquire.{acquired_by, answered, missing_once_opened, refused_missing, refused_in_doubt, refused_frozen, refused_pending, refused_full, frozen_lead, none_missing, is_in_doubt, blockers_of}
use Rattle.casper_model.specs.Answers.{of_reply, of_served, of_depart, of_vanish, of_lose}
use Rattle.casper_model.specs.Both.{Both}
use Rattle.casper_model.specs.CallStep.{acquire_step, call_step}
use Rattle.casper_model.specs.Client.{Client, Fallen}
use Rattle.casper_model.specs.Hits.{can_hit}
use Rattle.casper_model.specs.Leave.{served_by, departed_by, vanish}
use Rattle.casper_model.specs.LegalHistory.{right_for}
use Rattle.casper_model.specs.Loss.{lose}
use Rattle.casper_model.specs.Opening.{told_of_fall, opened, given_in_opening}
use Rattle.casper_model.specs.Outside.{Outside}
use Rattle.casper_model.specs.Own.{Own}
use Rattle.casper_model.specs.Rights.{NamesClients, Agrees, AgreesUnlessFallen}
use Rattle.casper_model.specs.Shared.{client_at, of_client, fallen_at}
use Rattle.casper_model.specs.Stabilisation.{is_empty}
use Rattle.casper_model.specs.State.{State, own_at, with_own, with_shared, after_turn}
use Rattle.casper_model.specs.Step.{step, read_turn, write_turn, acquire_turn, hold_turn, heap_line_calls, serve_turn, depart_turn, vanish_turn, lose_turn}
use Rattle.casper_model.specs.Turn.{Turn, within, is_in_range, are_in_range}
use Rattle.casper_model.specs.View.{value_seen}
use Rattle.casper_model.proofs.Places.{client_changed}
use Rattle.casper_model.proofs.StateHistory.{in_owns}
use Rattle.casper_model.proofs.StepRights.{hit_by}
use Rattle.casper_laws.specs.AnswerLaws.{client_of}
use Rattle.casper_laws.specs.OwnLists.{is_rolled_back}
use Rattle.casper_laws.proofs.CompletedCalls.{live_turn, within_turn, unless_turn}
use Rattle.casper_laws.proofs.HeldWordCalls.{called}
use Rattle.casper_laws.proofs.StepImage.{IsOrderly}
use Rattle.casper_answers.specs.Losses.{HasRollbackOf, FallenAreMarked, TellsTrueFalls, IsUpAgain, UpOnceTold}
use Rattle.casper_answers.proofs.CommitSteps.{own_here}
use Rattle.casper_answers.proofs.StabiliseTurns.{by_stabilise, kept_silent, in_silent}

-- What a client that fell is told.

-- a turn that tells a fall: the client was fallen so, and is up after it
pub record TellsAFall (state : State) (who : ℕ) (turn : Turn) : Type 0 where
  pub fallen : Fallen
  pub fell : fallen_at state.shared who ≡ Some fallen
  pub tells : turn.answer ≡ answer.RolledBack fallen.mark fallen.dropped (length (own_at state who).pending)
  pub up : IsUpAgain turn.state who

abbrev pub TellsFalls : State → ℕ → Turn → Type 0
TellsFalls state who turn = is_rolled_back turn.answer ≡ true → TellsAFall state who turn

untold : (state : State) (who : ℕ) (turn : Turn) → is_rolled_back turn.answer ≡ false → TellsFalls state who turn
untold state who turn silent tells = absurd (true≢false (sym tells ∙ silent))

-- a refusal of an acquire tells no fall
abbrev IsMild : Option Reply → Type 0
IsMild None = Unit {0}
IsMild (Some one) = is_rolled_back (of_reply one) ≡ false

either_mild : (first second : Option Reply) → IsMild first → IsMild second → IsMild (option_or first second)
either_mild None second one other = other
either_mild (Some one) second mild other = mild

refusal_mild : (both : Both) (given : List ℕ) (missing : List Want) (calls : ℕ)
    → IsMild (option_or (refused_missing both.shared both.own.who given missing) (refused_full both missing calls))
refusal_mild both given missing calls =
    either_mild (refused_missing both.shared both.own.who given missing) (refused_full both missing calls)
    (cond_both {A = Option Reply} (none_missing missing) _ _ IsMild (λ none. tt)
    (λ some.
    either_mild (refused_in_doubt both.shared both.own.who missing) (option_or (refused_frozen both.shared both.own.who missing) (refused_pending both.shared both.own.who given missing))
    (cond_both {A = Option Reply} (is_in_doubt both.shared both.own.who missing) _ _ IsMild (λ is. refl) (λ is. tt))
    (either_mild (refused_frozen both.shared both.own.who missing) (refused_pending both.shared both.own.who given missing)
    (by_lead (frozen_lead both.shared both.own.who missing))
    (cond_both {A = Option Reply} (is_empty (blockers_of both.shared both.own.who given missing)) _ _ IsMild (λ is. tt) (λ is. refl)))))
    (cond_both {A = Option Reply} (nat_lt both.own.cap (length missing + calls)) _ _ IsMild (λ is. refl) (λ is. tt))
  where
    by_lead : (lead : Option ℕ) → IsMild (option_map reply.Frozen lead)
    by_lead None = tt
    by_lead (Some lead) = refl

module _ (state : State) (known : IsOrderly state) (who : ℕ) (client : IsClient who) where
  abbrev own : Own
  own = own_at state who

  it : (own_at state who).who ≡ who
  it = known.history.order.shaped.numbers who

  abbrev told_turn : Fallen → Turn
  told_turn fallen = record {
    answer = answer.RolledBack fallen.mark fallen.dropped (length (own_at state who).pending);
    state = with_own (with_shared state (told_of_fall state.shared (own_at state who)).shared) (told_of_fall state.shared (own_at state who)).own;
  }

  -- the client after a turn that tells it of its fall
  pub told_up : (fallen : Fallen) → fallen_at state.shared (own_at state who).who ≡ Some fallen → TellsAFall state who (told_turn fallen)
  told_up fallen fell = by_place (client_at state.shared who) refl (known.history.order.rights.agree who)
    where
      fell_here : fallen_at state.shared who ≡ Some fallen
      fell_here = ap (fallen_at state.shared) (sym it) ∙ fell

      change : Client → Client
      change client = record client { kept = None; fallen = None }

      here : own_at (told_turn fallen).state who ≡ (told_of_fall state.shared (own_at state who)).own
      here = own_here state (told_of_fall state.shared (own_at state who)).own who it (in_owns state who (told_of_fall state.shared (own_at state who)).own known.history.order client refl)

      by_agreement : (one : Client) (part : Own) (down : Option Fallen) → down ≡ Some fallen → AgreesUnlessFallen one part down
          → (one.rights ≡ []) × (one.asks ≡ [])
      by_agreement one part None some agrees = absurd (true≢false (sym (ap is_some some)))
      by_agreement one part (Some other) some agrees = (agrees.1, agrees.2)

      by_place : (place : Option Client) → client_at state.shared who ≡ place → Agrees place (own_at state who) → TellsAFall state who (told_turn fallen)
      by_place None e agrees = absurd (true≢false (sym (ap is_some fell_here) ∙ ap (λ x. is_some (of_client None (λ (client : Client). client.fallen) x)) e))
      by_place (Some one) e agrees =
          let none = by_agreement one (own_at state who) one.fallen (ap (of_client None (λ client. client.fallen)) (sym e) ∙ fell_here) agrees in
          record {
            fallen = fallen;
            fell = fell_here;
            tells = refl;
            up = record {
              client = change one;
              live = ap (client_at (told_of_fall state.shared (own_at state who)).shared) (sym it)
                  ∙ client_changed (own_at state who).who (λ client. record client { kept = None; fallen = None }) state.shared
                  ∙ ap (option_map (λ (client : Client). record client { kept = None; fallen = None })) (ap (client_at state.shared) it ∙ e);
              up = refl;
              nothing_kept = refl;
              no_rights = none.0;
              no_asks = none.1;
              nothing_held = ap (λ (x : Own). x.held) here;
              nothing_pending = ap (λ (x : Own). x.pending) here;
            };
          }

  pub acquire_tells : (wants : List Want) (calls : ℕ) (outside : Outside) → TellsFalls state who (acquire_step state who wants calls outside)
  acquire_tells wants calls outside =
      unless_turn (TellsFalls state who) state _ _ (untold state who (record { answer = answer.Disk; state = state }) refl) (by_fallen (fallen_at state.shared (own_at state who).who) refl)
    where
      by_fallen : (fallen : Option Fallen) → fallen_at state.shared (own_at state who).who ≡ fallen
          → TellsFalls state who
          (record {
            answer = of_reply (acquired_by state.shared (own_at state who) wants calls fallen).reply;
            state = after_turn state (acquired_by state.shared (own_at state who) wants calls fallen);
          })
      by_fallen (Some fallen) e = λ tells. told_up fallen e
      by_fallen None e = by_refusal _ (refusal_mild (opened state.shared (own_at state who)) (given_in_opening state.shared (own_at state who)) (missing_once_opened state.shared (own_at state who) wants) calls)
        where
          by_refusal : (refusal : Option Reply) → IsMild refusal
              → TellsFalls state who
              (record {
                answer = of_reply (answered (opened state.shared (own_at state who)) (given_in_opening state.shared (own_at state who)) wants
                    (missing_once_opened state.shared (own_at state who) wants) refusal).reply;
                state = after_turn state (answered (opened state.shared (own_at state who)) (given_in_opening state.shared (own_at state who)) wants
                    (missing_once_opened state.shared (own_at state who) wants) refusal);
              })
          by_refusal None mild tells = absurd (true≢false (sym tells))
          by_refusal (Some one) mild tells = absurd (true≢false (sym tells ∙ mild))

  serve_tells : TellsFalls state who (serve_turn who state)
  serve_tells = by_fallen (fallen_at state.shared (own_at state who).who) refl
    where
      by_fallen : (fallen : Option Fallen) → fallen_at state.shared (own_at state who).who ≡ fallen
          → TellsFalls state who
          (record { answer = of_served (served_by state.shared (own_at state who) fallen).reply; state = after_turn state (served_by state.shared (own_at state who) fallen) })
      by_fallen (Some fallen) e tells = told_up fallen e
      by_fallen None e tells = absurd (true≢false (sym tells))

  depart_tells : TellsFalls state who (depart_turn who state)
  depart_tells = by_fallen (fallen_at state.shared (own_at state who).who) refl
    where
      by_fallen : (fallen : Option Fallen) → fallen_at state.shared (own_at state who).who ≡ fallen
          → TellsFalls state who
          (record { answer = of_depart (departed_by state.shared (own_at state who) fallen).reply; state = after_turn state (departed_by state.shared (own_at state who) fallen) })
      by_fallen (Some fallen) e tells = told_up fallen e
      by_fallen None e tells = absurd (true≢false (sym tells))

  stabilise_tells : (outside : Outside) → TellsFalls state who (step state (event.Stabilise who) outside)
  stabilise_tells outside =
      by_stabilise (TellsFalls state who) state who outside (untold state who _ refl) (λ live fallen e tells. told_up fallen e)
      (λ live up outcome e. untold state who _ (kept_silent outcome)) (λ live up none found e. untold state who _ (in_silent (opened state.shared (own_at state who)) found))

  never_vanish : (reply : Loss) → is_rolled_back (of_vanish reply) ≡ false
  never_vanish (loss.Lost mark unrecorded) = refl
  never_vanish (loss.Noted lead unrecorded) = refl
  never_vanish (loss.Already mark) = refl

  never_lose : (reply : Loss) → is_rolled_back (of_lose reply) ≡ false
  never_lose (loss.Lost mark unrecorded) = refl
  never_lose (loss.Noted lead unrecorded) = refl
  never_lose (loss.Already mark) = refl

  call_tells : (act : Op) (page word : ℕ) (given : State → Answer) (value : State → ℕ) (want : Want) (outside : Outside) → ((after : State) → is_rolled_back (given after) ≡ false)
      → TellsFalls state who (call_step state who want outside (hit_by who act page word (right_for act) given value))
  call_tells act page word given value want outside silent =
      called (TellsFalls state who) who act page word given value state want outside (λ can. untold state who _ (silent state)) (acquire_tells (want ∷ []) 1 outside)
      (λ can. untold state who _ (silent (acquire_step state who (want ∷ []) 1 outside).state)) (can_hit (own_at state who) page (right_for act)) refl

-- each step of a client that tells a fall tells a true one
pub step_tells : (state : State) → IsOrderly state → (happened : Event) (outside : Outside) → NamesClients happened → (who : ℕ) → client_of happened ≡ Some who
    → TellsFalls state who (step state happened outside)
step_tells state known happened outside is who of = by_event happened is of
  where
    same : (one : ℕ) → Some one ≡ Some who → one ≡ who
    same one e = ap (λ (x : Option ℕ). unwrap_or x who) e

    no_client : {T : Type 0} → None ≡ Some who → T
    no_client e = absurd (true≢false (sym (ap is_some e)))

    by_event : (happened : Event) → NamesClients happened → client_of happened ≡ Some who → TellsFalls state who (step state happened outside)
    by_event (event.Join one) named e = no_client e
    by_event (event.Read one page word) named e =
        subst (λ number. TellsFalls state number (step state (event.Read one page word) outside)) (same one e)
        (live_turn (TellsFalls state one) one state (within (is_in_range page word) (read_turn one page word outside)) (untold state one _ refl)
        (λ live.
        within_turn (TellsFalls state one) (is_in_range page word) state (read_turn one page word outside) (untold state one _ refl)
        (call_tells state known one named op.Read page word (λ after. answer.Value (value_seen after one page word)) (λ after. value_seen after one page word)
        (record { page = page; right = may.Read }) outside (λ after. refl))))
    by_event (event.Write one page word value) named e =
        subst (λ number. TellsFalls state number (step state (event.Write one page word value) outside)) (same one e)
        (live_turn (TellsFalls state one) one state (within (is_in_range page word) (write_turn one page word value outside)) (untold state one _ refl)
        (λ live.
        within_turn (TellsFalls state one) (is_in_range page word) state (write_turn one page word value outside) (untold state one _ refl)
        (call_tells state known one named op.Write page word (λ after. answer.Ok) (λ after. value) (record { page = page; right = may.Write }) outside (λ after. refl))))
    by_event (event.Acquire one wants) named e =
        subst (λ number. TellsFalls state number (step state (event.Acquire one wants) outside)) (same one e)
        (live_turn (TellsFalls state one) one state (within (are_in_range wants) (acquire_turn one wants outside)) (untold state one _ refl)
        (λ live.
        within_turn (TellsFalls state one) (are_in_range wants) state (acquire_turn one wants outside) (untold state one _ refl)
        (acquire_tells state known one named wants 1 outside)))
    by_event (event.Hold one wants) named e =
        subst (λ number. TellsFalls state number (step state (event.Hold one wants) outside)) (same one e)
        (live_turn (TellsFalls state one) one state (within (are_in_range wants) (hold_turn one wants outside)) (untold state one _ refl)
        (λ live.
        within_turn (TellsFalls state one) (are_in_range wants) state (hold_turn one wants outside) (untold state one _ refl)
        (acquire_tells state known one named wants heap_line_calls outside)))
    by_event (event.Serve one) named e =
        subst (λ number. TellsFalls state number (step state (event.Serve one) outside)) (same one e)
        (live_turn (TellsFalls state one) one state (serve_turn one) (untold state one _ refl) (λ live. serve_tells state known one named))
    by_event (event.Stabilise one) named e =
        subst (λ number. TellsFalls state number (step state (event.Stabilise one) outside)) (same one e) (stabilise_tells state known one named outside)
    by_event (event.WriteOut lead) named e = no_client e
    by_event (event.Finish lead) named e = no_client e
    by_event event.Settle named e = no_client e
    by_event (event.Depart one) named e =
        subst (λ number. TellsFalls state number (step state (event.Depart one) outside)) (same one e)
        (live_turn (TellsFalls state one) one state (depart_turn one) (untold state one _ refl) (λ live. depart_tells state known one named))
    by_event (event.Vanish one) named e =
        subst (λ number. TellsFalls state number (step state (event.Vanish one) outside)) (same one e)
        (live_turn (TellsFalls state one) one state (vanish_turn one) (untold state one _ refl)
        (λ live. untold state one _ (never_vanish state known one named (vanish state.shared (own_at state one)).reply)))
    by_event (event.Lose one) named e =
        subst (λ number. TellsFalls state number (step state (event.Lose one) outside)) (same one e)
        (live_turn (TellsFalls state one) one state (lose_turn one) (untold state one _ refl)
        (λ live. untold state one _ (never_lose state known one named (lose state.shared one).reply)))

-- the laws
pub true_falls : (state : State) → IsOrderly state → FallenAreMarked state → (happened : Event) (outside : Outside) → NamesClients happened
    → TellsTrueFalls state happened outside (step state happened outside)
true_falls state known marked happened outside is who mark recorded unrecorded of tells = (
  subst (λ place. HasRollbackOf state.shared.trail place who recorded) marks
      (subst (HasRollbackOf state.shared.trail fall.fallen.mark who) drops (marked who fall.fallen fall.fell)),
  sym (ap unrecorded_in (sym fall.tells ∙ tells)),
  (fall.fallen, fall.fell, marks, drops),
)
  where
    fall : TellsAFall state who (step state happened outside)
    fall = step_tells state known happened outside is who of (ap is_rolled_back tells)

    mark_in : Answer → ℕ
    mark_in (answer.RolledBack one two three) = one
    mark_in other = 0

    recorded_in : Answer → ℕ
    recorded_in (answer.RolledBack one two three) = two
    recorded_in other = 0

    unrecorded_in : Answer → ℕ
    unrecorded_in (answer.RolledBack one two three) = three
    unrecorded_in other = 0

    marks : fall.fallen.mark ≡ mark
    marks = ap mark_in (sym fall.tells ∙ tells)

    drops : fall.fallen.dropped ≡ recorded
    drops = ap recorded_in (sym fall.tells ∙ tells)

pub up_once_told : (state : State) → IsOrderly state → (happened : Event) (outside : Outside) → NamesClients happened → UpOnceTold state happened outside (step state happened outside)
up_once_told state known happened outside is who of tells = (step_tells state known happened outside is who of tells).up
