use Rattle.std.proofs.Common.{◌≡◌, ℕ, List, [], ◌∷◌, Bool, true, false, cond, not, ◌==◌, refl, sym, subst}
use Rattle.std.specs.Prelude.{⊤, Option, None, Some, unwrap_or, nat_lt}
use Rattle.std.proofs.lemmas.Bool.{and_parts, and_from}
use Rattle.casper_words.specs.Crew.{IsClient}
use Rattle.casper_words.specs.declared.call.Op.{Op}
use Rattle.casper_words.specs.declared.call.Op.TheVariants as op
use Rattle.casper_words.specs.declared.page.Right.TheVariants as may
use Rattle.casper_words.specs.declared.page.Want.{Want}
use Rattle.casper_trail.specs.Calls.{is_read_or_write}
use Rattle.casper_space.specs.declared.answer.Answer.{Answer}
use Rattle.casper_space.specs.declared.answer.Answer.TheVariants as answer
use Rattle.casper_model.specs.declared.event.Event.{Event}
use Rattle.casper_model.specs.declared.event.Event.TheVariants as event
use Rattle.casper_model.specs.Stabilisation.{Stabilisation}
use Rattle.casper_model.specs.Shared.{is_live}
use Rattle.casper_model.specs.Hits.{can_hit, with_call}
use Rattle.casper_model.specs.Join.{join}
use Rattle.casper_model.specs.Acquire.{acquire}
use Rattle.casper_model.specs.Stabilise.{stabilise}
use Rattle.casper_model.specs.Leave.{serve, depart, vanish}
use Rattle.casper_model.specs.Loss.{lose}
use Rattle.casper_model.specs.Finish.{doubtful_of}
use Rattle.casper_model.specs.Outside.{Outside, is_settle_failed}
use Rattle.casper_model.specs.State.{State, Unfinished, own_at, with_own, with_shared, after_turn}
use Rattle.casper_model.specs.View.{value_seen}
use Rattle.casper_model.specs.Turn.{Turn, guarded, of_live, within, is_in_range, are_in_range}
use Rattle.casper_model.specs.CallStep.{hit_turn, hit_behind, call_by, call_step, acquire_step, unless_load_failed, is_granted}
use Rattle.casper_model.specs.WriteOutStep.{job_of, busy_lead, written_out, write_out_step, finish_turn, finish_step, settle_turn, settle_step}
use Rattle.casper_model.specs.Step.{step, read_turn, write_turn, acquire_turn, hold_turn, heap_line_calls, serve_turn, stabilise_turn, depart_turn, vanish_turn, lose_turn}
use Rattle.casper_model.specs.Run.{Happening, state_after}
use Rattle.casper_model.specs.LegalHistory.{right_for}
use Rattle.casper_model.specs.Rights.{NamesClients, AllNameClients}
use Rattle.casper_model.proofs.StepRights.{hit_by}
use Rattle.casper_turns.specs.NamedWants.{WantsAre}

-- every step keeps a fact of states
abbrev pub IsKept : (State → Type 0) → Type 0
IsKept B = (state : State) (event : Event) (outside : Outside) → NamesClients event → B state → B (step state event outside).state

-- what has to be shown of each kind of turn, so that every step keeps a fact P of states with a fact B, where the wants of
-- its event are such as W says. A hit may stand after an acquire in one step, and is shown from a fact A that steps are
-- known to keep
pub record KeptByTurnsWith (W : List Want → Type 0) (A B P : State → Type 0) : Type 0 where
  pub hit : (state : State) (who : ℕ) (act : Op) (page word value : ℕ) → IsClient who → is_read_or_write act ≡ true → A state → P state
      → can_hit (own_at state who) page (right_for act) ≡ true → P (with_own state (with_call (own_at state who) act page word value))
  pub joining : (state : State) (who : ℕ) → IsClient who → B state → P state → P (after_turn state (join state.shared (own_at state who)))
  pub acquiring : (state : State) (who : ℕ) (wants : List Want) (calls : ℕ) → W wants → IsClient who → is_live state.shared who ≡ true → B state → P state
      → P (after_turn state (acquire state.shared (own_at state who) wants calls))
  pub serving : (state : State) (who : ℕ) → IsClient who → is_live state.shared who ≡ true → B state → P state
      → P (after_turn state (serve state.shared (own_at state who)))
  pub stabilising : (state : State) (who : ℕ) → IsClient who → is_live state.shared who ≡ true → B state → P state
      → P (after_turn state (stabilise state.shared (own_at state who)))
  pub departing : (state : State) (who : ℕ) → IsClient who → is_live state.shared who ≡ true → B state → P state
      → P (after_turn state (depart state.shared (own_at state who)))
  pub vanishing : (state : State) (who : ℕ) → IsClient who → is_live state.shared who ≡ true → B state → P state
      → P (after_turn state (vanish state.shared (own_at state who)))
  pub losing : (state : State) (who : ℕ) → IsClient who → is_live state.shared who ≡ true → B state → P state
      → P (with_shared state (lose state.shared who).shared)
  pub writing : (state : State) (outside : Outside) (lead : ℕ) (one : Stabilisation) → B state → P state → job_of state lead ≡ Some one → busy_lead state ≡ None
      → P (written_out state outside one None).state
  pub finishing : (state : State) (lead : ℕ) (unfinished : Unfinished) → B state → P state → state.unfinished ≡ Some unfinished → (unfinished.lead == lead) ≡ true
      → P (finish_turn lead unfinished.outcome state).state
  pub settling : (state : State) (one : Stabilisation) → B state → P state → doubtful_of state.shared ≡ Some one → P (settle_turn state).state

-- the same where nothing is known of the wants
abbrev pub KeptByTurns : (A B P : State → Type 0) → Type 0
KeptByTurns A B P = KeptByTurnsWith (λ wants. ⊤) A B P

-- a step that a test guards
kept_guarded : (P : State → Type 0) (test : Bool) (refusal : Answer) (state : State) (turn : State → Turn) → P state → (test ≡ true → P (turn state).state)
    → P (guarded test refusal state turn).state
kept_guarded P true refusal state turn stays moves = moves refl
kept_guarded P false refusal state turn stays moves = stays

-- a test that holds lets the step be
unguarded : (P : State → Type 0) (test : Bool) (refusal : Answer) (state : State) (turn : State → Turn) → test ≡ true → P (guarded test refusal state turn).state
    → P (turn state).state
unguarded P test refusal state turn holds =
    subst (λ one. P (guarded one refusal state turn).state → P (turn state).state) (sym holds) (λ is. is)

kept_unless : (P : State → Type 0) (state : State) (failed : Bool) (turn : Turn) → P state → P turn.state → P (unless_load_failed state failed turn).state
kept_unless P state true turn stays moves = stays
kept_unless P state false turn stays moves = moves

module _ (W : List Want → Type 0) (one_want : (want : Want) → W (want ∷ [])) (A B P : State → Type 0) (base : IsKept A)
    (first : (state : State) → B state → A state) (turns : KeptByTurnsWith W A B P) where
  kept_acquire : (state : State) (who : ℕ) (wants : List Want) (calls : ℕ) (outside : Outside) → W wants → IsClient who → is_live state.shared who ≡ true → B state → P state
      → P (acquire_step state who wants calls outside).state
  kept_acquire state who wants calls outside asks client live b p =
      kept_unless P state _ _ p (turns.acquiring state who wants calls asks client live b p)

  -- the first fact after the acquire of one page
  base_acquired : (state : State) (who : ℕ) (want : Want) (outside : Outside) → IsClient who → is_live state.shared who ≡ true
      → nat_lt want.page state.shared.pages ≡ true → A state → A (acquire_step state who (want ∷ []) 1 outside).state
  base_acquired state who want outside client live inside b =
      unguarded A (are_in_range (want ∷ []) state) answer.Range state (acquire_turn who (want ∷ []) outside) (and_from (nat_lt want.page state.shared.pages) true inside refl)
      (unguarded A (is_live state.shared who) answer.Absent state (within (are_in_range (want ∷ [])) (acquire_turn who (want ∷ []) outside)) live
      (base state (event.Acquire who (want ∷ [])) outside client b))

  kept_hit : (turn : Turn) (answer : Answer) (who : ℕ) (act : Op) (page word value : ℕ) → IsClient who → is_read_or_write act ≡ true → A turn.state → P turn.state
      → (can : Bool) → can_hit (own_at turn.state who) page (right_for act) ≡ can
      → P (unwrap_or (hit_turn turn.state answer (cond can (Some (with_call (own_at turn.state who) act page word value)) None)) turn).state
  kept_hit turn answer who act page word value client calls b p true e = turns.hit turn.state who act page word value client calls b p e
  kept_hit turn answer who act page word value client calls b p false e = p

  kept_behind : (who : ℕ) (act : Op) (page word : ℕ) (answer : State → Answer) (value : State → ℕ) (turn : Turn) (granted : Bool)
      → IsClient who → is_read_or_write act ≡ true → A turn.state → P turn.state → P (hit_behind (hit_by who act page word (right_for act) answer value) turn granted).state
  kept_behind who act page word answer value turn true client calls b p =
      kept_hit turn (answer turn.state) who act page word (value turn.state) client calls b p (can_hit (own_at turn.state who) page (right_for act)) refl
  kept_behind who act page word answer value turn false client calls b p = p

  kept_by : (state : State) (who : ℕ) (want : Want) (outside : Outside) (act : Op) (page word : ℕ) (answer : State → Answer) (value : State → ℕ)
      → IsClient who → is_read_or_write act ≡ true → A state → P state → A (acquire_step state who (want ∷ []) 1 outside).state → P (acquire_step state who (want ∷ []) 1 outside).state
      → (can : Bool) → can_hit (own_at state who) page (right_for act) ≡ can
      → P (call_by state who want outside (hit_by who act page word (right_for act) answer value)
      (hit_turn state (answer state) (cond can (Some (with_call (own_at state who) act page word (value state))) None))).state
  kept_by state who want outside act page word answer value client calls b p acquired also true e = turns.hit state who act page word (value state) client calls b p e
  kept_by state who want outside act page word answer value client calls b p acquired also false e =
      let turn = acquire_step state who (want ∷ []) 1 outside in
      kept_behind who act page word answer value turn (is_granted turn.answer) client calls acquired also

  kept_call : (state : State) (who : ℕ) (want : Want) (outside : Outside) (act : Op) (page word : ℕ) (answer : State → Answer) (value : State → ℕ)
      → IsClient who → is_read_or_write act ≡ true → is_live state.shared who ≡ true → nat_lt want.page state.shared.pages ≡ true → B state → P state
      → P (call_step state who want outside (hit_by who act page word (right_for act) answer value)).state
  kept_call state who want outside act page word answer value client calls live inside b p =
      kept_by state who want outside act page word answer value client calls (first state b) p (base_acquired state who want outside client live inside (first state b))
      (kept_acquire state who (want ∷ []) 1 outside (one_want want) client live b p) (can_hit (own_at state who) page (right_for act)) refl

  kept_write_out : (state : State) (outside : Outside) (lead : ℕ) (one : Option Stabilisation) → job_of state lead ≡ one → B state → P state
      → P (write_out_step state outside one).state
  kept_write_out state outside lead None e b p = p
  kept_write_out state outside lead (Some one) e b p = by_busy (busy_lead state) refl
    where
      by_busy : (busy : Option ℕ) → busy_lead state ≡ busy → P (written_out state outside one busy).state
      by_busy (Some other) is = p
      by_busy None is = turns.writing state outside lead one b p e is

  kept_finish : (state : State) (lead : ℕ) (unfinished : Option Unfinished) → state.unfinished ≡ unfinished → B state → P state
      → P (finish_step state lead unfinished).state
  kept_finish state lead None e b p = p
  kept_finish state lead (Some unfinished) e b p =
      kept_guarded P (unfinished.lead == lead) answer.NoJob state (finish_turn lead unfinished.outcome) p (λ is. turns.finishing state lead unfinished b p e is)

  kept_settle : (state : State) (outside : Outside) (one : Option Stabilisation) → doubtful_of state.shared ≡ one → B state → P state
      → P (settle_step state outside one).state
  kept_settle state outside None e b p = p
  kept_settle state outside (Some one) e b p =
      kept_guarded P (not (is_settle_failed outside)) answer.Disk state settle_turn p (λ is. turns.settling state one b p e)

  kept_live : (who : ℕ) (state : State) (turn : State → Turn) → P state → (is_live state.shared who ≡ true → P (turn state).state) → P (of_live who state turn).state
  kept_live who state turn = kept_guarded P (is_live state.shared who) answer.Absent state turn

  kept_by_step : (state : State) (event : Event) (outside : Outside) → WantsAre W event → NamesClients event → B state → P state
      → P (step state event outside).state
  kept_by_step state (event.Join who) outside asks client b p = turns.joining state who client b p
  kept_by_step state (event.Read who page word) outside asks client b p =
      let turn = read_turn who page word outside in
      kept_live who state (within (is_in_range page word) turn) p
      (λ live.
      kept_guarded P (is_in_range page word state) answer.Range state turn p
      (λ inside.
      kept_call state who (record { page = page; right = may.Read }) outside op.Read page word (λ after. answer.Value (value_seen after who page word))
      (λ after. value_seen after who page word) client refl live (and_parts (nat_lt page state.shared.pages) (nat_lt word 512) inside).0 b p))
  kept_by_step state (event.Write who page word value) outside asks client b p =
      let turn = write_turn who page word value outside in
      kept_live who state (within (is_in_range page word) turn) p
      (λ live.
      kept_guarded P (is_in_range page word state) answer.Range state turn p
      (λ inside.
      kept_call state who (record { page = page; right = may.Write }) outside op.Write page word (λ after. answer.Ok) (λ after. value) client refl live
      (and_parts (nat_lt page state.shared.pages) (nat_lt word 512) inside).0 b p))
  kept_by_step state (event.Acquire who wants) outside asks client b p =
      let turn = acquire_turn who wants outside in
      kept_live who state (within (are_in_range wants) turn) p
      (λ live. kept_guarded P (are_in_range wants state) answer.Range state turn p (λ inside. kept_acquire state who wants 1 outside asks client live b p))
  kept_by_step state (event.Hold who wants) outside asks client b p =
      let turn = hold_turn who wants outside in
      kept_live who state (within (are_in_range wants) turn) p
      (λ live. kept_guarded P (are_in_range wants state) answer.Range state turn p (λ inside. kept_acquire state who wants heap_line_calls outside asks client live b p))
  kept_by_step state (event.Serve who) outside asks client b p = kept_live who state (serve_turn who) p (λ live. turns.serving state who client live b p)
  kept_by_step state (event.Stabilise who) outside asks client b p = kept_live who state (stabilise_turn who) p (λ live. turns.stabilising state who client live b p)
  kept_by_step state (event.WriteOut lead) outside asks client b p = kept_write_out state outside lead (job_of state lead) refl b p
  kept_by_step state (event.Finish lead) outside asks client b p = kept_finish state lead state.unfinished refl b p
  kept_by_step state event.Settle outside asks client b p = kept_settle state outside (doubtful_of state.shared) refl b p
  kept_by_step state (event.Depart who) outside asks client b p = kept_live who state (depart_turn who) p (λ live. turns.departing state who client live b p)
  kept_by_step state (event.Vanish who) outside asks client b p = kept_live who state (vanish_turn who) p (λ live. turns.vanishing state who client live b p)
  kept_by_step state (event.Lose who) outside asks client b p = kept_live who state (lose_turn who) p (λ live. turns.losing state who client live b p)

pub step_keeps_with : (W : List Want → Type 0) → ((want : Want) → W (want ∷ [])) → (A B P : State → Type 0) → IsKept A
    → ((state : State) → B state → A state) → KeptByTurnsWith W A B P
    → (state : State) (event : Event) (outside : Outside) → WantsAre W event → NamesClients event → B state → P state → P (step state event outside).state
step_keeps_with W one_want A B P base first turns state event outside asks named b p =
    kept_by_step W one_want A B P base first turns state event outside asks named b p

any_wants : (event : Event) → WantsAre (λ wants. ⊤) event
any_wants (event.Acquire who wants) = tt
any_wants (event.Hold who wants) = tt
any_wants other = tt

pub step_keeps : (A B P : State → Type 0) → IsKept A → ((state : State) → B state → A state) → KeptByTurns A B P
    → (state : State) (event : Event) (outside : Outside) → NamesClients event → B state → P state → P (step state event outside).state
step_keeps A B P base first turns state event outside named b p =
    kept_by_step (λ wants. ⊤) (λ want. tt) A B P base first turns state event outside (any_wants event) named b p

-- what each step keeps of states with a fact B holds after each run, where steps keep that too
pub run_keeps : (B P : State → Type 0) → IsKept B
    → ((state : State) (event : Event) (outside : Outside) → NamesClients event → B state → P state → P (step state event outside).state)
    → (state : State) (happenings : List Happening) → AllNameClients happenings → B state → P state → P (state_after state happenings)
run_keeps B P base keeps state [] named b p = p
run_keeps B P base keeps state (first ∷ following) named b p =
    run_keeps B P base keeps (step state first.event first.outside).state following named.1 (base state first.event first.outside named.0 b)
    (keeps state first.event first.outside named.0 b p)
