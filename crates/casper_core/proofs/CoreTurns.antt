use Rattle.std.proofs.Common.{◌≡◌, ◌<◌, ℕ, List, Bool, true, false, length, set, refl, sym, ap, ◌∙◌, subst, arith}
use Rattle.std.specs.Prelude.{Option, None, Some, IsTrue, is_some, Result, Ok, Err, IfOk, OnErr, slice_index_or, slice_set}
use Rattle.std.proofs.lemmas.Option.{slice_get_read, get_or_from_slice_get}
use Rattle.std.proofs.lemmas.List.{set-get_or}
use Rattle.casper_words.specs.Crew.{IsClient}
use Rattle.casper_space.specs.declared.answer.Answer.{Answer}
use Rattle.casper_space.specs.declared.answer.Answer.TheVariants as answer
use Rattle.casper_cache.specs.Own as cache
use Rattle.casper_model.specs.declared.event.Event.{Event}
use Rattle.casper_model.specs.declared.event.Event.TheVariants as event
use Rattle.casper_model.specs.Shared.{is_live}
use Rattle.casper_model.specs.Outside.{Outside}
use Rattle.casper_model.specs.Rights.{NamesClients}
use Rattle.casper_model.specs.State.{State}
use Rattle.casper_model.specs.Step.{step, read_turn, write_turn, acquire_turn, serve_turn, stabilise_turn, lose_turn}
use Rattle.casper_model.specs.Turn.{within, is_in_range, are_in_range}
use Rattle.casper_model.specs.Vault.{VaultState}
use Rattle.casper_hub.specs.HubView.{HubView}
use Rattle.casper_hub.specs.Owned.{own_of}
use Rattle.casper_core.specs.Acting.{outside_of, outside_in, IsTurnResult, RefinesTurn, KeepsHubRight, Holds}
use Rattle.casper_core.specs.ClientTurns.{IsTurnOf, client_turn}
use Rattle.casper_core.specs.CoreView.{CoreView, cache_at}
use Rattle.casper_core.specs.Loading.{OnlyLoads}
use Rattle.casper_core.specs.Placing.{placed}
use Rattle.casper_core.specs.Shaped.{RefinesTurnButValues, RepresentsButWords, IsMade, StepsInShape, read_with, client_turn_with, step_with}
use Rattle.casper_core.specs.Sound.{IsSound}
use Rattle.casper_core.specs.Represents.{own_part, HasPartsOf, Represents}
use Rattle.casper_core.specs.Stepping.{Steps}
use Rattle.casper_core.proofs.Loads.{shows_loaded}
use Rattle.casper_core.proofs.MachineTurns.{same_gives, gives_by}
use Rattle.casper_core.proofs.Places.{sound_placed, parts_placed, shape_placed}
use Rattle.casper_core.proofs.StepParts.{passed_by, refused_by, live_where, answered_same, made_same, shape_at, placed_again, right_again, client_answered}

-- A turn of a client that keeps its cache, in a core.

-- what stands at a place, whatever is read past the end
pub found_at : (caches : List (Option cache.Own)) (at who : ℕ) (read place : Option cache.Own) → at ≡ who → who < length caches → read ≡ slice_index_or caches at read → read ≡ place
    → slice_index_or caches who None ≡ place
found_at caches at who read place same below is found =
    let inside : at < length caches = subst (λ number. number < length caches) (sym same) below in
    subst (λ number. slice_index_or caches number None ≡ place) same
    (get_or_from_slice_get caches at read None (slice_get_read caches (length caches) at read refl inside is) ∙ found)

-- what was read, put back
pub put_back : (caches : List (Option cache.Own)) (at : ℕ) (read : Option cache.Own) → read ≡ slice_index_or caches at read → slice_set caches at read ≡ caches
put_back caches at read is = ap (set caches at) is ∙ set-get_or caches at read

pub if_ok : {T E : Type 0} (result : Result T E) (P Q : T → Type 0) → IfOk result P → ((x : T) → P x → Q x) → IfOk result Q
if_ok (Ok x) P Q is each = each x is
if_ok (Err e) P Q is each = tt

pub on_err : {T E : Type 0} (result : Result T E) (P Q : Type 0) → OnErr result P → (P → Q) → OnErr result Q
on_err (Ok x) P Q is each = tt
on_err (Err e) P Q is each = each is

-- what such an event is to the machine
pub names : (who : ℕ) (one : Event) → IsTurnOf who one → IsClient who → NamesClients one
names who (event.Join other) is client = absurd is
names who (event.Read other page word) is client = subst IsClient (sym is) client
names who (event.Write other page word value) is client = subst IsClient (sym is) client
names who (event.Acquire other wants) is client = subst IsClient (sym is) client
names who (event.Serve other) is client = subst IsClient (sym is) client
names who (event.Hold other wants) is client = absurd is
names who (event.Stabilise other) is client = subst IsClient (sym is) client
names who (event.WriteOut lead) is client = absurd is
names who (event.Finish lead) is client = absurd is
names who event.Settle is client = absurd is
names who (event.Depart other) is client = absurd is
names who (event.Vanish other) is client = absurd is
names who (event.Lose other) is client = subst IsClient (sym is) client

-- what the outside did, as the answer to it tells
pub outside_turn : (who : ℕ) (one : Event) → IsTurnOf who one → (said : Answer) → outside_in one said ≡ outside_of said
outside_turn who (event.WriteOut lead) is said = absurd is
outside_turn who event.Settle is said = absurd is
outside_turn who other is said = refl

-- of a live client
pub is_turn : (who : ℕ) (one : Event) → IsTurnOf who one → (outside : Outside) (state : State) → is_live state.shared who ≡ true → step state one outside ≡ client_turn who one outside state
is_turn who (event.Join other) is outside state live = absurd is
is_turn who (event.Read other page word) is outside state live =
    ap (λ number. step state (event.Read number page word) outside) is
    ∙ passed_by (is_live state.shared who) answer.Absent state (within (is_in_range page word) (read_turn who page word outside)) live
is_turn who (event.Write other page word value) is outside state live =
    ap (λ number. step state (event.Write number page word value) outside) is
    ∙ passed_by (is_live state.shared who) answer.Absent state (within (is_in_range page word) (write_turn who page word value outside)) live
is_turn who (event.Acquire other wants) is outside state live =
    ap (λ number. step state (event.Acquire number wants) outside) is
    ∙ passed_by (is_live state.shared who) answer.Absent state (within (are_in_range wants) (acquire_turn who wants outside)) live
is_turn who (event.Serve other) is outside state live =
    ap (λ number. step state (event.Serve number) outside) is ∙ passed_by (is_live state.shared who) answer.Absent state (serve_turn who) live
is_turn who (event.Hold other wants) is outside state live = absurd is
is_turn who (event.Stabilise other) is outside state live =
    ap (λ number. step state (event.Stabilise number) outside) is ∙ passed_by (is_live state.shared who) answer.Absent state (stabilise_turn who) live
is_turn who (event.WriteOut lead) is outside state live = absurd is
is_turn who (event.Finish lead) is outside state live = absurd is
is_turn who event.Settle is outside state live = absurd is
is_turn who (event.Depart other) is outside state live = absurd is
is_turn who (event.Vanish other) is outside state live = absurd is
is_turn who (event.Lose other) is outside state live =
    ap (λ number. step state (event.Lose number) outside) is ∙ passed_by (is_live state.shared who) answer.Absent state (lose_turn who) live

-- of one that is not
pub is_absent : (who : ℕ) (one : Event) → IsTurnOf who one → (outside : Outside) (state : State) → is_live state.shared who ≡ false
    → step state one outside ≡ record { answer = answer.Absent; state = state }
is_absent who (event.Join other) is outside state gone = absurd is
is_absent who (event.Read other page word) is outside state gone =
    ap (λ number. step state (event.Read number page word) outside) is
    ∙ refused_by (is_live state.shared who) answer.Absent state (within (is_in_range page word) (read_turn who page word outside)) gone
is_absent who (event.Write other page word value) is outside state gone =
    ap (λ number. step state (event.Write number page word value) outside) is
    ∙ refused_by (is_live state.shared who) answer.Absent state (within (is_in_range page word) (write_turn who page word value outside)) gone
is_absent who (event.Acquire other wants) is outside state gone =
    ap (λ number. step state (event.Acquire number wants) outside) is
    ∙ refused_by (is_live state.shared who) answer.Absent state (within (are_in_range wants) (acquire_turn who wants outside)) gone
is_absent who (event.Serve other) is outside state gone =
    ap (λ number. step state (event.Serve number) outside) is ∙ refused_by (is_live state.shared who) answer.Absent state (serve_turn who) gone
is_absent who (event.Hold other wants) is outside state gone = absurd is
is_absent who (event.Stabilise other) is outside state gone =
    ap (λ number. step state (event.Stabilise number) outside) is ∙ refused_by (is_live state.shared who) answer.Absent state (stabilise_turn who) gone
is_absent who (event.WriteOut lead) is outside state gone = absurd is
is_absent who (event.Finish lead) is outside state gone = absurd is
is_absent who event.Settle is outside state gone = absurd is
is_absent who (event.Depart other) is outside state gone = absurd is
is_absent who (event.Vanish other) is outside state gone = absurd is
is_absent who (event.Lose other) is outside state gone =
    ap (λ number. step state (event.Lose number) outside) is ∙ refused_by (is_live state.shared who) answer.Absent state (lose_turn who) gone

-- the same of an event that was answered
pub is_turn_with : (who : ℕ) (one : Event) → IsTurnOf who one → (said : Answer) (state : State) → is_live state.shared who ≡ true → step_with state one said ≡ client_turn_with who one said state
is_turn_with who (event.Join other) is said state live = absurd is
is_turn_with who (event.Read other page word) is said state live =
    ap (λ number. step_with state (event.Read number page word) said) is
    ∙ passed_by (is_live state.shared who) answer.Absent state (within (is_in_range page word) (read_with who page word said)) live
is_turn_with who (event.Write other page word value) is said state live = is_turn who (event.Write other page word value) is (outside_of said) state live
is_turn_with who (event.Acquire other wants) is said state live = is_turn who (event.Acquire other wants) is (outside_of said) state live
is_turn_with who (event.Serve other) is said state live = is_turn who (event.Serve other) is (outside_of said) state live
is_turn_with who (event.Hold other wants) is said state live = absurd is
is_turn_with who (event.Stabilise other) is said state live = is_turn who (event.Stabilise other) is (outside_of said) state live
is_turn_with who (event.WriteOut lead) is said state live = absurd is
is_turn_with who (event.Finish lead) is said state live = absurd is
is_turn_with who event.Settle is said state live = absurd is
is_turn_with who (event.Depart other) is said state live = absurd is
is_turn_with who (event.Vanish other) is said state live = absurd is
is_turn_with who (event.Lose other) is said state live = is_turn who (event.Lose other) is (outside_of said) state live

pub is_absent_with : (who : ℕ) (one : Event) → IsTurnOf who one → (said : Answer) (state : State) → is_live state.shared who ≡ false
    → step_with state one said ≡ record { answer = answer.Absent; state = state }
is_absent_with who (event.Join other) is said state gone = absurd is
is_absent_with who (event.Read other page word) is said state gone =
    ap (λ number. step_with state (event.Read number page word) said) is
    ∙ refused_by (is_live state.shared who) answer.Absent state (within (is_in_range page word) (read_with who page word said)) gone
is_absent_with who (event.Write other page word value) is said state gone = is_absent who (event.Write other page word value) is (outside_of said) state gone
is_absent_with who (event.Acquire other wants) is said state gone = is_absent who (event.Acquire other wants) is (outside_of said) state gone
is_absent_with who (event.Serve other) is said state gone = is_absent who (event.Serve other) is (outside_of said) state gone
is_absent_with who (event.Hold other wants) is said state gone = absurd is
is_absent_with who (event.Stabilise other) is said state gone = is_absent who (event.Stabilise other) is (outside_of said) state gone
is_absent_with who (event.WriteOut lead) is said state gone = absurd is
is_absent_with who (event.Finish lead) is said state gone = absurd is
is_absent_with who event.Settle is said state gone = absurd is
is_absent_with who (event.Depart other) is said state gone = absurd is
is_absent_with who (event.Vanish other) is said state gone = absurd is
is_absent_with who (event.Lose other) is said state gone = is_absent who (event.Lose other) is (outside_of said) state gone

module _ {V : Type 0} (core : CoreView V) (at who : ℕ) (same : at ≡ who) (client : IsClient who) (sound : IsSound core) where
  -- the client is absent
  pub absent_turn : (one : Event) (caches : List (Option cache.Own)) → IsTurnOf who one → cache_at core who ≡ None → caches ≡ core.caches
      → Steps one answer.Absent core (record core { caches = caches })
  absent_turn one caches is none back state stands =
      answered_same state one answer.Absent core (record core { caches = caches }) (names who one is client) stands
      (is_absent who one is (outside_in one answer.Absent) state (live_where core who false state sound stands.parts.shared (ap is_some none)))
      (subst (λ list. HasPartsOf state (record core { caches = list })) (sym back) stands.parts)

  pub absent_made : (one : Event) (caches : List (Option cache.Own)) → IsTurnOf who one → cache_at core who ≡ None → caches ≡ core.caches
      → StepsInShape one answer.Absent core (record core { caches = caches })
  absent_made one caches is none back state shape =
      made_same state one answer.Absent (record core { caches = caches })
      (is_absent_with who one is answer.Absent state (live_where core who false state sound shape.shared (ap is_some none)))
      (subst (λ list. RepresentsButWords state (record core { caches = list })) (sym back) shape)

  -- a turn of a live client, in which the cache stays its own
  module _ (own : cache.Own) (found : cache_at core who ≡ Some own) (tells : Bool) (after : HubView) (own_after : cache.Own) (calls : ℕ) (vault : V) (size : ℕ) (told : VaultState)
      (leaves : KeepsHubRight who tells core.told.image core.hub own after) (holds : Holds who tells core.told.image core.hub own after own_after) where
    pub sound_turn : size ≡ core.size → is_some told.doubt ≡ is_some core.told.doubt → IsSound (placed core at after (Some own_after) calls vault size told)
    sound_turn same_size same_doubt =
        subst (λ number. IsSound (placed core number after (Some own_after) calls vault size told)) (sym same)
        (sound_placed core who after (Some own_after) calls vault size told sound client (placed_again core who own tells core.told.image after own_after sound found leaves holds) same_size same_doubt)

    pub turn_steps : (one : Event) (said : Answer) → IsTurnOf who one → IsTrue tells → told ≡ core.told → RefinesTurn who tells core.told.image (client_turn who one) core.hub own said after own_after
        → Steps one said core (placed core at after (Some own_after) calls vault size told)
    turn_steps one said is is_told same_told does =
        subst (λ number. Steps one said core (placed core number after (Some own_after) calls vault size told)) (sym same)
        (client_answered core who own one said (client_turn who one) tells after own_after calls vault size told is_told sound client found (names who one is client)
        (λ state stands.
        ap (step state one) (outside_turn who one is said)
        ∙ is_turn who one is (outside_of said) state (live_where core who true state sound stands.parts.shared (ap is_some found)))
        does leaves holds same_told)

    pub turn_made : (one : Event) (said : Answer) → IsTurnOf who one → RefinesTurnButValues who (client_turn_with who one) core.hub own said after own_after
        → StepsInShape one said core (placed core at after (Some own_after) calls vault size told)
    turn_made one said is makes state shape =
        let here : step_with state one said ≡ client_turn_with who one said state =
        is_turn_with who one is said state (live_where core who true state sound shape.shared (ap is_some found)) in
        let gives : IsTurnResult who state (step_with state one said) said after (own_of own_after) =
        gives_by who state (step_with state one said) (client_turn_with who one said state) said after (own_of own_after) here (makes state (shape_at core who own state client found shape)) in
        subst (λ number. IsMade state one said (placed core number after (Some own_after) calls vault size told)) (sym same)
        (record {
          answers = gives.answers;
          shape = shape_placed core who after (Some own_after) calls vault size told state (step_with state one said) said sound client shape gives;
        })

    pub turn_unchanged : IsTrue tells → told ≡ core.told → OnlyLoads core.hub after → own_after ≡ own → (state : State) → Represents state core
        → Represents state (placed core at after (Some own_after) calls vault size told)
    turn_unchanged is_told same_told loads same_own state stands =
        let below : who < 33 = omega (arith, client.1) in
        let gives : IsTurnResult who state (record { answer = answer.Absent; state = state }) answer.Absent after (own_part core.capacity who (Some own_after)) =
        same_gives who state (own_of own_after) answer.Absent after
        (stands.parts.owns who below ∙ ap (own_part core.capacity who) found ∙ ap own_of (sym same_own)) (shows_loaded state.shared core.hub after loads stands.parts.shared) in
        subst (λ number. Represents state (placed core number after (Some own_after) calls vault size told)) (sym same)
        (record {
          parts = parts_placed core who after (Some own_after) calls vault size told state (record { answer = answer.Absent; state = state }) answer.Absent sound client
              (placed_again core who own tells core.told.image after own_after sound found leaves holds) stands.parts gives
              (right_again core who own tells state after own_after is_told found stands leaves holds) same_told;
          history = stands.history;
          room = stands.room;
          orderly = stands.orderly;
          image = stands.image;
        })

pub both_errs : {T E : Type 0} (result : Result T E) (P Q : Type 0) → OnErr result P → OnErr result Q → OnErr result (P × Q)
both_errs (Ok x) P Q one other = tt
both_errs (Err e) P Q one other = (one, other)
