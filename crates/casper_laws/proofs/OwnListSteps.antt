use Rattle.std.proofs.Common.{◌≡◌, ◌≢◌, ◌⊎◌, ℕ, List, [], ◌∷◌, ◌++◌, Bool, true, false, ◌==◌, ◌&&◌, cond, refl, sym, ap, ◌∙◌, subst, inl, inr, append_assoc, append-nil, min}
use Rattle.std.proofs.lemmas.List.{map-append}
use Rattle.std.specs.Prelude.{Option, None, Some, is_some}
use Rattle.std.specs.List.{list_all, cons_option}
use Rattle.std.proofs.lemmas.Bool.{cond_both, cases_eq, eq-eqb, eqb-true, eqb-false, ne_eqb, and_from}
use Rattle.casper_words.specs.Crew.{IsClient}
use Rattle.casper_words.specs.declared.call.Op.{Op}
use Rattle.casper_words.specs.declared.call.Call.{Call}
use Rattle.casper_words.specs.declared.page.Want.{Want}
use Rattle.casper_space.specs.declared.answer.Answer.{Answer}
use Rattle.casper_trail.specs.declared.item.Item.{Item}
use Rattle.casper_trail.specs.declared.item.Item.TheVariants as item
use Rattle.casper_trail.specs.Parts.{as_items}
use Rattle.casper_trail.specs.Calls.{is_read_or_write, call_of, calls_of, entries_by, touch_by}
use Rattle.casper_trail.proofs.CallLists.{calls_of_more, calls_of_their_client, calls_of_another, calls_after_mark}
use Rattle.casper_model.specs.declared.reply.JoinRefusal.{JoinRefusal}
use Rattle.casper_model.specs.Acquire.{acquire, acquired_by, touches_by}
use Rattle.casper_model.specs.Answers.{of_reply, of_served, of_stabilise, of_depart}
use Rattle.casper_model.specs.Client.{Client, Fallen, new_client}
use Rattle.casper_model.specs.Own.{Own, blank}
use Rattle.casper_model.specs.Both.{Turned}
use Rattle.casper_model.specs.Room.{most_cap, free_room}
use Rattle.casper_model.specs.Hits.{with_call}
use Rattle.casper_model.specs.Shared.{Shared, client_at, fallen_at, place_client}
use Rattle.casper_model.specs.Join.{join, joined_by}
use Rattle.casper_model.specs.Stabilise.{stabilise, stabilised_by}
use Rattle.casper_model.specs.Leave.{serve, served_by, depart, departed_by, absent, vanish, vanished_by}
use Rattle.casper_model.specs.State.{State, own_at, with_own, with_shared, after_turn}
use Rattle.casper_model.specs.Turn.{Turn}
use Rattle.casper_model.specs.Rights.{Agrees, InOrder}
use Rattle.casper_model.proofs.MarkSteps.{marks_vanished}
use Rattle.casper_model.proofs.Entries.{added_by}
use Rattle.casper_model.proofs.TurnHistory.{Records, acquire_records, serve_records, stabilise_records, depart_records}
use Rattle.casper_model.proofs.StateHistory.{Marks, in_owns, set_own, other_own}
use Rattle.casper_laws.specs.OwnLists.{own_list_of, is_rolled_back, is_told, ArePendingCalls}

-- touches are no calls
no_calls_of_touches : (who client : ℕ) (wants : List Want) → calls_of (as_items (touches_by who wants)) client ≡ []
no_calls_of_touches who client [] = refl
no_calls_of_touches who client (want ∷ wants) =
    elim (who == client) as
    (λ same. cons_option (cond (same && false) (Some (call_of (touch_by who want.page))) None) (calls_of (as_items (touches_by who wants)) client) ≡ [])
    [ true ↦ no_calls_of_touches who client wants | false ↦ no_calls_of_touches who client wants ]

-- what a turn that records adds to the calls of its client, and of others
module _ (trail : List Item) (who : ℕ) (pending : List Call) (wants : List Want) where
  recorded_then : (client : ℕ) → calls_of (trail ++ as_items (added_by who pending wants)) client ≡ calls_of (trail ++ as_items (entries_by who pending)) client
  recorded_then client =
      let with_calls = trail ++ as_items (entries_by who pending) in
      ap (λ items. calls_of items client)
      (ap (λ more. trail ++ more) (map-append item.Entry (entries_by who pending) (touches_by who wants))
      ∙ sym (append_assoc trail (as_items (entries_by who pending)) (as_items (touches_by who wants))))
      ∙ calls_of_more with_calls (as_items (touches_by who wants)) client
      ∙ ap (λ back. calls_of with_calls client ++ back) (no_calls_of_touches who client wants)
      ∙ append-nil (calls_of with_calls client)

  recorded_own : list_all (λ call. is_read_or_write call.op) pending ≡ true → calls_of (trail ++ as_items (added_by who pending wants)) who ≡ calls_of trail who ++ pending
  recorded_own calls = recorded_then who ∙ calls_of_their_client trail who pending calls

  recorded_other : (client : ℕ) → who ≢ client → calls_of (trail ++ as_items (added_by who pending wants)) client ≡ calls_of trail client
  recorded_other client apart = recorded_then client ∙ calls_of_another trail who client pending apart

-- what is no turn of a client records no call
calls_by_marks : (shared after : Shared) → Marks shared after → (who : ℕ) → calls_of after.trail who ≡ calls_of shared.trail who
calls_by_marks shared after (Marks.stays trail up) who = ap (λ items. calls_of items who) trail
calls_by_marks shared after (Marks.commits lead members exact trail up) who = ap (λ items. calls_of items who) trail ∙ calls_after_mark shared.trail _ who
calls_by_marks shared after (Marks.rolls_back mark exact trail up) who = ap (λ items. calls_of items who) trail ∙ calls_after_mark shared.trail mark who

own_now : (state : State) (who : ℕ) (after : Shared) (own_after : Own) → InOrder state → IsClient who → own_after.who ≡ (own_at state who).who
    → own_at (with_own (with_shared state after) own_after) who ≡ own_after
own_now state who after own_after order is same =
    set_own state own_after after (in_owns state who own_after order is same) who (sym (same ∙ order.shaped.numbers who))

-- a choice that is known
pub picked : {X : Type 0} (test : Bool) (first second : X) → test ≡ true → cond test first second ≡ first
picked test first second is = ap (λ one. cond one first second) is

pub passed : {X : Type 0} (test : Bool) (first second : X) → test ≡ false → cond test first second ≡ second
passed test first second is = ap (λ one. cond one first second) is

-- the calls of a client where those that are pending are dropped, and where they are not
abbrev pub left_to : State → ℕ → Bool → List Call
left_to state who dropped = cond dropped (calls_of state.shared.trail who) (own_list_of state who)

-- after a step of one client, which drops what it has pending or does not, and where nothing of the others is recorded
acted : (state : State) (who : ℕ) (after : Shared) (own_after : Own) (dropped : Bool) → InOrder state → IsClient who → own_after.who ≡ (own_at state who).who
    → calls_of after.trail who ++ own_after.pending ≡ left_to state who dropped
    → ((number : ℕ) → number ≢ who → calls_of after.trail number ≡ calls_of state.shared.trail number)
    → (number : ℕ) → own_list_of (with_own (with_shared state after) own_after) number ≡ left_to state number ((who == number) && dropped)
acted state who after own_after dropped order is same mine others number = by_number (cases_eq number who)
  where
    new : State
    new = with_own (with_shared state after) own_after

    by_number : (number ≡ who) ⊎ (number ≢ who) → own_list_of new number ≡ left_to state number ((who == number) && dropped)
    by_number (inl is_who) =
        subst (λ one. own_list_of new one ≡ left_to state one ((who == one) && dropped)) (sym is_who)
        (ap (λ (one : Own). calls_of after.trail who ++ one.pending) (own_now state who after own_after order is same)
        ∙ mine ∙ ap (λ first. left_to state who (first && dropped)) (sym (eq-eqb who who refl)))
    by_number (inr apart) =
        ap (λ (own : Own). calls_of after.trail number ++ own.pending)
        (other_own state own_after after (in_owns state who own_after order is same) number (λ e. apart (e ∙ same ∙ order.shaped.numbers who)))
        ∙ ap (λ calls. calls ++ (own_at state number).pending) (others number apart)
        ∙ ap (λ first. left_to state number (first && dropped)) (sym (ne_eqb who number (λ e. apart (sym e))))

-- a turn that records leaves its client's own list
pub recorded_same : (state : State) (who : ℕ) (after : Shared) (own_after : Own) → InOrder state → ArePendingCalls state
    → Records state.shared (own_at state who) after own_after → calls_of after.trail who ++ own_after.pending ≡ own_list_of state who
recorded_same state who after own_after order calls records =
    let own = own_at state who in
    ap (λ pending. calls_of after.trail who ++ pending) records.pending
    ∙ append-nil (calls_of after.trail who)
    ∙ ap (λ items. calls_of items who) records.trail
    ∙ subst (λ n. calls_of (state.shared.trail ++ as_items (added_by own.who own.pending records.wants)) n ≡ calls_of state.shared.trail n ++ own.pending)
    (order.shaped.numbers who) (recorded_own state.shared.trail own.who own.pending records.wants (calls who))

-- a turn of a client leaves all own lists, but drops what its own has pending where it is told of its fall
abbrev pub Keeps : State → ℕ → Turn → Type 0
Keeps state who turn = (number : ℕ) → own_list_of turn.state number ≡ left_to state number ((who == number) && is_told state who turn.answer)

-- a turn whose client had fallen, or records
turn_keeps : {R : Type 0} (state : State) (who : ℕ) (turn : Option Fallen → Turned R) (answer : R → Answer) → InOrder state → IsClient who → ArePendingCalls state
    → ((fallen : Fallen) → is_rolled_back (answer (turn (Some fallen)).reply) ≡ true) → ((fallen : Fallen) → (turn (Some fallen)).own.who ≡ (own_at state who).who)
    → ((fallen : Fallen) → (turn (Some fallen)).own.pending ≡ []) → ((fallen : Fallen) → (turn (Some fallen)).shared.trail ≡ state.shared.trail)
    → Records state.shared (own_at state who) (turn None).shared (turn None).own
    → (fallen : Option Fallen) → fallen_at state.shared (own_at state who).who ≡ fallen
    → Keeps state who (record { answer = answer (turn fallen).reply; state = after_turn state (turn fallen) })
turn_keeps state who turn answer order is calls tells same emptied trail records (Some fallen) e =
    let after = turn (Some fallen) in
    let fell : is_some (fallen_at state.shared who) ≡ true = ap (λ number. is_some (fallen_at state.shared number)) (sym (order.shaped.numbers who)) ∙ ap is_some e in
    acted state who after.shared after.own (is_told state who (answer after.reply)) order is (same fallen)
    (ap (λ pending. calls_of after.shared.trail who ++ pending) (emptied fallen) ∙ append-nil (calls_of after.shared.trail who)
    ∙ ap (λ items. calls_of items who) (trail fallen)
    ∙ sym (picked (is_told state who (answer after.reply)) _ _ (and_from (is_some (fallen_at state.shared who)) (is_rolled_back (answer after.reply)) fell (tells fallen))))
    (λ number apart. ap (λ items. calls_of items number) (trail fallen))
turn_keeps state who turn answer order is calls tells same emptied trail records None e =
    let own = own_at state who in
    let after = turn None in
    let up : is_some (fallen_at state.shared who) ≡ false = ap (λ number. is_some (fallen_at state.shared number)) (sym (order.shaped.numbers who)) ∙ ap is_some e in
    acted state who after.shared after.own (is_told state who (answer after.reply)) order is records.who
    (recorded_same state who after.shared after.own order calls records
    ∙ sym (passed (is_told state who (answer after.reply)) _ _ (ap (λ fell. fell && is_rolled_back (answer after.reply)) up)))
    (λ number apart.
    ap (λ items. calls_of items number) records.trail
    ∙ recorded_other state.shared.trail own.who own.pending records.wants number (λ e. apart (sym e ∙ order.shaped.numbers who)))

module _ (state : State) (who : ℕ) (order : InOrder state) (is : IsClient who) (pending : ArePendingCalls state) where
  pub acquire_keeps : (wants : List Want) (calls : ℕ) → let turn = acquire state.shared (own_at state who) wants calls in
      Keeps state who (record { answer = of_reply turn.reply; state = after_turn state turn })
  acquire_keeps wants calls =
      turn_keeps state who (acquired_by state.shared (own_at state who) wants calls) of_reply order is pending (λ fallen. refl) (λ fallen. refl) (λ fallen. refl) (λ fallen. refl)
      (acquire_records wants calls state.shared (own_at state who)) (fallen_at state.shared (own_at state who).who) refl

  pub serve_keeps : let turn = serve state.shared (own_at state who) in Keeps state who (record { answer = of_served turn.reply; state = after_turn state turn })
  serve_keeps =
      turn_keeps state who (served_by state.shared (own_at state who)) of_served order is pending (λ fallen. refl) (λ fallen. refl) (λ fallen. refl) (λ fallen. refl)
      (serve_records state.shared (own_at state who)) (fallen_at state.shared (own_at state who).who) refl

  pub stabilise_keeps : let turn = stabilise state.shared (own_at state who) in Keeps state who (record { answer = of_stabilise turn.reply; state = after_turn state turn })
  stabilise_keeps =
      turn_keeps state who (stabilised_by state.shared (own_at state who)) of_stabilise order is pending (λ fallen. refl) (λ fallen. refl) (λ fallen. refl) (λ fallen. refl)
      (stabilise_records state.shared (own_at state who)) (fallen_at state.shared (own_at state who).who) refl

  pub depart_keeps : let turn = depart state.shared (own_at state who) in Keeps state who (record { answer = of_depart turn.reply; state = after_turn state turn })
  depart_keeps =
      turn_keeps state who (departed_by state.shared (own_at state who)) of_depart order is pending (λ fallen. refl) (λ fallen. refl) (λ fallen. refl) (λ fallen. refl)
      (depart_records state.shared (own_at state who)) (fallen_at state.shared (own_at state who).who) refl

-- a client that vanishes leaves what is recorded
pub vanish_keeps : (state : State) (who : ℕ) → InOrder state → IsClient who → (number : ℕ)
    → own_list_of (after_turn state (vanish state.shared (own_at state who))) number ≡ left_to state number ((who == number) && true)
vanish_keeps state who order is =
    let own = own_at state who in
    let lost : Shared = (vanished_by state.shared own (fallen_at state.shared own.who)).shared in
    let same = calls_by_marks state.shared lost (marks_vanished state.shared own (fallen_at state.shared own.who)) in
    acted state who (absent (record { shared = lost; own = own })).shared (blank own.who own.capacity) true order is refl
    (append-nil (calls_of lost.trail who) ∙ same who) (λ number apart. same number)

-- no own list changes
abbrev pub SameLists : State → State → Type 0
SameLists state after = (number : ℕ) → own_list_of after number ≡ own_list_of state number

pub both_never : (first second : Bool) → second ≡ false → (first && second) ≡ false
both_never true second never = never
both_never false second never = refl

-- a client that joins was absent, with nothing pending
pub join_keeps : (state : State) (who : ℕ) → InOrder state → IsClient who → SameLists state (after_turn state (join state.shared (own_at state who)))
join_keeps state who order is = by_place (client_at state.shared own.who) refl
  where
    own : Own
    own = own_at state who

    placed : (after : Shared) (own_after : Own) → after.trail ≡ state.shared.trail → own_after.who ≡ own.who → own_after.pending ≡ own.pending
        → SameLists state (with_own (with_shared state after) own_after)
    placed after own_after trail same pending number =
        acted state who after own_after false order is same
        (ap (λ items. calls_of items who ++ own_after.pending) trail ∙ ap (λ calls. calls_of state.shared.trail who ++ calls) pending)
        (λ other apart. ap (λ items. calls_of items other) trail) number
        ∙ passed ((who == number) && false) _ _ (both_never (who == number) false refl)

    by_place : (place : Option Client) → client_at state.shared own.who ≡ place → SameLists state (after_turn state (joined_by state.shared own place))
    by_place (Some client) e = placed state.shared own refl refl refl
    by_place None e =
        let nothing = subst (λ place. Agrees place own) (ap (client_at state.shared) (sym (order.shaped.numbers who)) ∙ e) (order.rights.agree who) in
        cond_both (free_room state.shared == 0) _ _ (λ (turn : Turned (Option JoinRefusal)). SameLists state (after_turn state turn))
        (λ full. placed state.shared own refl refl refl)
        (λ free.
        placed (place_client own.who (Some (new_client (min most_cap (free_room state.shared)))) state.shared)
        (record (blank own.who own.capacity) { cap = min most_cap (free_room state.shared) }) refl refl (sym nothing.1))

-- a hit adds its call to its client's list, and nothing to another's
pub hit_adds : (state : State) (who : ℕ) (act : Op) (page word value : ℕ) → InOrder state → IsClient who → (number : ℕ)
    → own_list_of (with_own state (with_call (own_at state who) act page word value)) number
    ≡ own_list_of state number ++ cond (who == number) (record { op = act; page = page; word = word; value = value } ∷ []) []
hit_adds state who act page word value order is number = by_same (who == number) refl
  where
    own : Own
    own = own_at state who

    call : Call
    call = record { op = act; page = page; word = word; value = value }

    after : Own
    after = with_call own act page word value

    by_same : (same : Bool) → (who == number) ≡ same → own_list_of (with_own state after) number ≡ own_list_of state number ++ cond same (call ∷ []) []
    by_same true e =
        subst (λ one. own_list_of (with_own state after) one ≡ own_list_of state one ++ call ∷ []) (eqb-true who number e)
        (ap (λ (one : Own). calls_of state.shared.trail who ++ one.pending) (own_now state who state.shared after order is refl)
        ∙ sym (append_assoc (calls_of state.shared.trail who) own.pending (call ∷ [])))
    by_same false e =
        ap (λ (one : Own). calls_of state.shared.trail number ++ one.pending)
        (other_own state after state.shared (in_owns state who after order is refl) number (λ same. eqb-false who number e (sym (same ∙ order.shaped.numbers who))))
        ∙ sym (append-nil (own_list_of state number))

-- what is no turn of a client
pub marks_keep : (state : State) (after : Shared) → Marks state.shared after → SameLists state (with_shared state after)
marks_keep state after marks number = ap (λ calls. calls ++ (own_at state number).pending) (calls_by_marks state.shared after marks number)
