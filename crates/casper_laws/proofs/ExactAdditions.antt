use Rattle.std.proofs.Common.{◌≡◌, ℕ, List, [], ◌∷◌, ◌++◌, ◌+◌, Bool, true, false, ◌&&◌, ◌||◌, cond, refl, sym, ap, ◌∙◌, append_assoc, append-nil, true≢false}
use Rattle.std.specs.Prelude.{Option, None, Some, is_some, unwrap_or, option_map, nat_lt, length}
use Rattle.std.specs.Option.{option_or}
use Rattle.std.proofs.lemmas.Bool.{cond_both, and_from, or_right}
use Rattle.std.proofs.lemmas.List.{map-append}
use Rattle.casper_words.specs.declared.call.Op.{Op}
use Rattle.casper_words.specs.declared.page.Want.{Want}
use Rattle.casper_space.specs.declared.answer.Answer.{Answer}
use Rattle.casper_space.specs.declared.answer.Answer.TheVariants as answer
use Rattle.casper_trail.specs.declared.entry.Entry.{Entry}
use Rattle.casper_trail.specs.declared.item.Item.{Item}
use Rattle.casper_trail.specs.declared.item.Item.TheVariants as item
use Rattle.casper_trail.specs.Calls.{entries_by}
use Rattle.casper_trail.specs.Parts.{as_items}
use Rattle.casper_model.specs.declared.outcome.Kept.{Kept}
use Rattle.casper_model.specs.declared.outcome.Outcome.{Outcome}
use Rattle.casper_model.specs.declared.outcome.Outcome.TheVariants as outcome
use Rattle.casper_model.specs.declared.reply.Reply.{Reply}
use Rattle.casper_model.specs.declared.reply.Reply.TheVariants as reply
use Rattle.casper_model.specs.declared.reply.StabReply.{StabReply}
use Rattle.casper_model.specs.declared.reply.StabReply.TheVariants as stab
use Rattle.casper_model.specs.Acquire.{acquired_by, answered, touches_by, missing_once_opened, none_missing, is_in_doubt, refused_in_doubt, frozen_lead, refused_frozen, refused_pending, refused_missing, refused_full, blockers_of}
use Rattle.casper_model.specs.Answers.{of_reply, of_served, of_failure, of_stabilise, of_depart}
use Rattle.casper_model.specs.Both.{Both, Turned}
use Rattle.casper_model.specs.CallStep.{hit_turn, hit_behind, call_by, acquire_step, is_granted}
use Rattle.casper_model.specs.Client.{Fallen}
use Rattle.casper_model.specs.Frozen.{stabilisation_of}
use Rattle.casper_model.specs.Hits.{can_hit, with_call}
use Rattle.casper_model.specs.Leave.{served_by, departed_by}
use Rattle.casper_model.specs.LegalHistory.{right_for}
use Rattle.casper_model.specs.Opening.{opened, given_in_opening}
use Rattle.casper_model.specs.Outside.{Outside}
use Rattle.casper_model.specs.Rights.{InOrder}
use Rattle.casper_model.specs.Shared.{Shared, fallen_at}
use Rattle.casper_model.specs.Stabilisation.{Stabilisation, is_empty}
use Rattle.casper_model.specs.Stabilise.{stabilised_by, stabilised, stabilised_in, kept_at}
use Rattle.casper_model.specs.State.{State, own_at, after_turn}
use Rattle.casper_model.specs.Step.{serve_turn, stabilise_turn, depart_turn}
use Rattle.casper_model.specs.Turn.{Turn}
use Rattle.casper_model.proofs.Additions.{trail_opened, who_opened}
use Rattle.casper_model.proofs.StepRights.{hit_by}
use Rattle.casper_laws.specs.Additions.{is_without_turn, grants_pages, turn_entries, acquire_entries}
use Rattle.casper_laws.specs.OwnLists.{is_rolled_back, is_told}
use Rattle.casper_laws.proofs.CompletedCalls.{unless_turn}
use Rattle.casper_laws.proofs.OwnListSteps.{picked, passed}

-- a reply that refuses an acquire: the turn was made, and no page is granted
pub record Refuses (given : Answer) : Type 0 where
  pub turn : is_without_turn given ≡ false
  pub pages : grants_pages given ≡ false

abbrev pub IfRefused : Option Reply → Type 0
IfRefused None = Unit {0}
IfRefused (Some reply) = Refuses (of_reply reply)

pub either_refuses : (first second : Option Reply) → IfRefused first → IfRefused second → IfRefused (option_or first second)
either_refuses None second one other = other
either_refuses (Some reply) second one other = one

doubt_refuses : (shared : Shared) (who : ℕ) (missing : List Want) → IfRefused (refused_in_doubt shared who missing)
doubt_refuses shared who missing = cond_both (is_in_doubt shared who missing) _ _ IfRefused (λ is. record { turn = refl; pages = refl }) (λ is. tt)

frozen_refuses : (shared : Shared) (who : ℕ) (missing : List Want) → IfRefused (refused_frozen shared who missing)
frozen_refuses shared who missing = by_lead (frozen_lead shared who missing)
  where
    by_lead : (lead : Option ℕ) → IfRefused (option_map reply.Frozen lead)
    by_lead None = tt
    by_lead (Some lead) = record { turn = refl; pages = refl }

pending_refuses : (shared : Shared) (who : ℕ) (given : List ℕ) (missing : List Want) → IfRefused (refused_pending shared who given missing)
pending_refuses shared who given missing =
    cond_both (is_empty (blockers_of shared who given missing)) _ _ IfRefused (λ is. tt) (λ is. record { turn = refl; pages = refl })

pub missing_refuses : (shared : Shared) (who : ℕ) (given : List ℕ) (missing : List Want) → IfRefused (refused_missing shared who given missing)
missing_refuses shared who given missing =
    cond_both (none_missing missing) _ _ IfRefused (λ none. tt)
    (λ some.
    either_refuses (refused_in_doubt shared who missing) _ (doubt_refuses shared who missing)
    (either_refuses (refused_frozen shared who missing) _ (frozen_refuses shared who missing) (pending_refuses shared who given missing)))

pub full_refuses : (both : Both) (missing : List Want) (calls : ℕ) → IfRefused (refused_full both missing calls)
full_refuses both missing calls = cond_both (nat_lt both.own.cap (length missing + calls)) _ _ IfRefused (λ is. record { turn = refl; pages = refl }) (λ is. tt)

-- nothing added
pub none_added : (trail : List Item) → trail ≡ trail ++ []
none_added trail = sym (append-nil trail)

-- an acquire that is granted is answered so
pub granted_is : (given : Answer) → is_granted given ≡ true → given ≡ answer.Granted
granted_is answer.Granted granted = refl
granted_is other granted = absurd (true≢false (sym granted))

-- a stabilise is answered of its turn, and leaves the trail of its opening
failure_is_turn : (how : Outcome) → is_without_turn (of_failure how) ≡ false
failure_is_turn (outcome.Ok version) = refl
failure_is_turn (outcome.Full need free) = refl
failure_is_turn outcome.Worn = refl
failure_is_turn outcome.Disk = refl
failure_is_turn outcome.Doubt = refl

stabilise_is_turn : (given : StabReply) → is_without_turn (of_stabilise given) ≡ false
stabilise_is_turn (stab.Gathering awaited) = refl
stabilise_is_turn (stab.Sealed pages) = refl
stabilise_is_turn (stab.Doing lead) = refl
stabilise_is_turn (stab.Doubtful lead) = refl
stabilise_is_turn (stab.Committed mark) = refl
stabilise_is_turn (stab.Failed cause) = failure_is_turn cause
stabilise_is_turn (stab.RolledBack mark recorded unrecorded) = refl

trail_stabilised_in : (both : Both) (one : Option Stabilisation) → (stabilised_in both one).shared.trail ≡ both.shared.trail
trail_stabilised_in both None = refl
trail_stabilised_in both (Some one) = refl

trail_stabilised : (both : Both) (kept : Option Kept) → (stabilised both kept).shared.trail ≡ both.shared.trail
trail_stabilised both None = trail_stabilised_in both (stabilisation_of both.shared both.own.who)
trail_stabilised both (Some outcome) = refl

-- what a turn of a client adds
module _ (state : State) (who : ℕ) (order : InOrder state) where
  abbrev AddsBy : (Answer → List Entry) → Turn → Type 0
  AddsBy entries turn = turn.state.shared.trail ≡ state.shared.trail ++ as_items (entries turn.answer)

  told_none : (given : Answer) (fallen : Fallen) → is_rolled_back given ≡ true → fallen_at state.shared (own_at state who).who ≡ Some fallen → turn_entries state who given ≡ []
  told_none given fallen tells e =
      picked (is_without_turn given || is_told state who given) [] _
      (or_right (is_without_turn given) (is_told state who given)
      (and_from (is_some (fallen_at state.shared who)) (is_rolled_back given)
      (ap (λ number. is_some (fallen_at state.shared number)) (sym (order.shaped.numbers who)) ∙ ap is_some e) tells))

  untold_all : (given : Answer) → is_without_turn given ≡ false → fallen_at state.shared (own_at state who).who ≡ None
      → entries_by (own_at state who).who (own_at state who).pending ≡ turn_entries state who given
  untold_all given turn e =
      ap (λ number. entries_by number (own_at state who).pending) (order.shaped.numbers who)
      ∙ sym (passed (is_without_turn given || is_told state who given) [] _
      (ap (λ one. one || is_told state who given) turn
      ∙ ap (λ one. one && is_rolled_back given) (ap (λ number. is_some (fallen_at state.shared number)) (sym (order.shaped.numbers who)) ∙ ap is_some e)))

  opened_adds : (given : Answer) → is_without_turn given ≡ false → fallen_at state.shared (own_at state who).who ≡ None
      → (opened state.shared (own_at state who)).shared.trail ≡ state.shared.trail ++ as_items (turn_entries state who given)
  opened_adds given turn e = trail_opened state.shared (own_at state who) ∙ ap (λ entries. state.shared.trail ++ as_items entries) (untold_all given turn e)

  -- a turn whose client had fallen, or that opens
  turn_adds : {R : Type 0} (turn : Option Fallen → Turned R) (answer : R → Answer)
      → ((fallen : Fallen) → is_rolled_back (answer (turn (Some fallen)).reply) ≡ true) → ((fallen : Fallen) → (turn (Some fallen)).shared.trail ≡ state.shared.trail)
      → is_without_turn (answer (turn None).reply) ≡ false → (turn None).shared.trail ≡ (opened state.shared (own_at state who)).shared.trail
      → (fallen : Option Fallen) → fallen_at state.shared (own_at state who).who ≡ fallen
      → AddsBy (turn_entries state who) (record { answer = answer (turn fallen).reply; state = after_turn state (turn fallen) })
  turn_adds turn answer tells same made opens (Some fallen) e =
      same fallen ∙ none_added state.shared.trail
      ∙ ap (λ entries. state.shared.trail ++ as_items entries) (sym (told_none (answer (turn (Some fallen)).reply) fallen (tells fallen) e))
  turn_adds turn answer tells same made opens None e = opens ∙ opened_adds (answer (turn None).reply) made e

  -- an acquire
  answered_adds : (given : List ℕ) (wants : List Want) (refusal : Option Reply) → IfRefused refusal → fallen_at state.shared (own_at state who).who ≡ None
      → let turn = answered (opened state.shared (own_at state who)) given wants (missing_once_opened state.shared (own_at state who) wants) refusal in
      AddsBy (acquire_entries state who wants) (record { answer = of_reply turn.reply; state = after_turn state turn })
  answered_adds given wants None refused e =
      let own = own_at state who in
      let missing = missing_once_opened state.shared own wants in
      let trail = state.shared.trail in
      ap (λ items. items ++ as_items (touches_by (opened state.shared own).own.who missing)) (opened_adds answer.Granted refl e)
      ∙ ap (λ number. trail ++ as_items (turn_entries state who answer.Granted) ++ as_items (touches_by number missing)) (who_opened state.shared own ∙ order.shaped.numbers who)
      ∙ append_assoc trail (as_items (turn_entries state who answer.Granted)) (as_items (touches_by who missing))
      ∙ ap (λ more. trail ++ more) (sym (map-append item.Entry (turn_entries state who answer.Granted) (touches_by who missing)))
  answered_adds given wants (Some reply) refused e =
      let answer = of_reply reply in
      let touches = touches_by who (missing_once_opened state.shared (own_at state who) wants) in
      opened_adds answer refused.turn e
      ∙ ap (λ entries. state.shared.trail ++ as_items entries)
      (sym (append-nil (turn_entries state who answer))
      ∙ ap (λ more. turn_entries state who answer ++ more) (sym (passed (grants_pages answer) touches [] refused.pages)))

  acquired_adds : (wants : List Want) (calls : ℕ) (fallen : Option Fallen) → fallen_at state.shared (own_at state who).who ≡ fallen
      → let turn = acquired_by state.shared (own_at state who) wants calls fallen in
      AddsBy (acquire_entries state who wants) (record { answer = of_reply turn.reply; state = after_turn state turn })
  acquired_adds wants calls (Some fallen) e =
      let given = of_reply (acquired_by state.shared (own_at state who) wants calls (Some fallen)).reply in
      none_added state.shared.trail
      ∙ ap (λ entries. state.shared.trail ++ as_items entries) (sym (append-nil (turn_entries state who given) ∙ told_none given fallen refl e))
  acquired_adds wants calls None e =
      let both = opened state.shared (own_at state who) in
      let given = given_in_opening state.shared (own_at state who) in
      let missing = missing_once_opened state.shared (own_at state who) wants in
      answered_adds given wants _
      (either_refuses (refused_missing both.shared both.own.who given missing) (refused_full both missing calls)
      (missing_refuses both.shared both.own.who given missing) (full_refuses both missing calls)) e

  pub acquire_step_adds : (wants : List Want) (calls : ℕ) (outside : Outside) → AddsBy (acquire_entries state who wants) (acquire_step state who wants calls outside)
  acquire_step_adds wants calls outside =
      unless_turn (AddsBy (acquire_entries state who wants)) state _ _ (none_added state.shared.trail)
      (acquired_adds wants calls (fallen_at state.shared (own_at state who).who) refl)

  pub serve_step_adds : AddsBy (turn_entries state who) (serve_turn who state)
  serve_step_adds =
      turn_adds (served_by state.shared (own_at state who)) of_served (λ fallen. refl) (λ fallen. refl) refl refl (fallen_at state.shared (own_at state who).who) refl

  pub depart_step_adds : AddsBy (turn_entries state who) (depart_turn who state)
  depart_step_adds =
      turn_adds (departed_by state.shared (own_at state who)) of_depart (λ fallen. refl) (λ fallen. refl) refl refl (fallen_at state.shared (own_at state who).who) refl

  pub stabilise_step_adds : AddsBy (turn_entries state who) (stabilise_turn who state)
  stabilise_step_adds =
      turn_adds (stabilised_by state.shared (own_at state who)) of_stabilise (λ fallen. refl) (λ fallen. refl)
      (stabilise_is_turn (stabilised_by state.shared (own_at state who) None).reply)
      (trail_stabilised (opened state.shared (own_at state who)) (kept_at state.shared (own_at state who).who)) (fallen_at state.shared (own_at state who).who) refl

  -- a call: a hit, or an acquire and perhaps the hit after it
  module _ (act : Op) (page word : ℕ) (want : Want) (given : State → Answer) (seen : State → ℕ)
      (made : (after : State) → acquire_entries state who (want ∷ []) (given after) ≡ acquire_entries state who (want ∷ []) answer.Granted) where
    behind_adds : (turn : Turn) → is_granted turn.answer ≡ true → AddsBy (acquire_entries state who (want ∷ [])) turn → (can : Bool)
        → AddsBy (acquire_entries state who (want ∷ []))
        (unwrap_or (hit_turn turn.state (given turn.state) (cond can (Some (with_call (own_at turn.state who) act page word (seen turn.state))) None)) turn)
    behind_adds turn granted adds true =
        adds
        ∙ ap (λ entries. state.shared.trail ++ as_items entries)
        (ap (acquire_entries state who (want ∷ [])) (granted_is turn.answer granted) ∙ sym (made turn.state))
    behind_adds turn granted adds false = adds

    granted_adds : (turn : Turn) → AddsBy (acquire_entries state who (want ∷ [])) turn → (granted : Bool) → is_granted turn.answer ≡ granted
        → AddsBy (acquire_entries state who (want ∷ [])) (hit_behind (hit_by who act page word (right_for act) given seen) turn granted)
    granted_adds turn adds true e = behind_adds turn e adds (can_hit (own_at turn.state who) page (right_for act))
    granted_adds turn adds false e = adds

    pub call_by_adds : (outside : Outside) (can : Bool)
        → AddsBy (λ answer. cond can [] (acquire_entries state who (want ∷ []) answer))
        (call_by state who want outside (hit_by who act page word (right_for act) given seen)
        (hit_turn state (given state) (cond can (Some (with_call (own_at state who) act page word (seen state))) None)))
    call_by_adds outside true = none_added state.shared.trail
    call_by_adds outside false =
        let turn = acquire_step state who (want ∷ []) 1 outside in
        granted_adds turn (acquire_step_adds (want ∷ []) 1 outside) (is_granted turn.answer) refl
