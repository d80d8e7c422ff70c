use Rattle.std.proofs.Common.{◌≡◌, ◌≢◌, ◌⊎◌, ◌<◌, ℕ, zero, suc, List, [], ◌∷◌, ◌++◌, Bool, true, false, not, ◌&&◌, ◌||◌, ◌==◌, length, drop, Contains, refl, sym, ap, ◌∙◌, subst, inl, inr, ⊎_elim, arith, true≢false, append-nil, get_or-set_same}
use Rattle.std.specs.Prelude.{Option, None, Some, is_some, option_map, unwrap_or, slice_get}
use Rattle.std.specs.List.{list_any}
use Rattle.std.proofs.lemmas.Bool.{cond_both, and_parts, eqb-true, false_from_ne_true, cases_eq}
use Rattle.std.proofs.lemmas.List.{drop-append-le}
use Rattle.std.proofs.lemmas.List.Folds.{list_any-append}
use Rattle.std.proofs.lemmas.Option.{slice_get_within}
use Rattle.std.proofs.Math.Seq.{drop-append_seam}
use Rattle.casper_words.specs.Crew.{IsClient, has_member}
use Rattle.casper_words.specs.declared.call.Op.{Op}
use Rattle.casper_words.specs.declared.call.Op.TheVariants as op
use Rattle.casper_words.specs.declared.call.Call.{Call}
use Rattle.casper_words.specs.declared.page.Right.TheVariants as may
use Rattle.casper_words.specs.declared.page.Want.{Want}
use Rattle.casper_space.specs.declared.answer.Answer.{Answer}
use Rattle.casper_space.specs.declared.answer.Answer.TheVariants as answer
use Rattle.casper_trail.specs.declared.item.Item.{Item}
use Rattle.casper_trail.specs.declared.item.Item.TheVariants as item
use Rattle.casper_trail.specs.declared.mark.Mark.TheVariants.{Commit, Rollback}
use Rattle.casper_trail.specs.Association.{association_of}
use Rattle.casper_trail.specs.Calls.{entries_by}
use Rattle.casper_trail.specs.Parts.{as_items}
use Rattle.casper_trail.specs.Value.{is_write}
use Rattle.casper_model.specs.declared.event.Event.{Event}
use Rattle.casper_model.specs.declared.event.Event.TheVariants as event
use Rattle.casper_model.specs.declared.outcome.Kept.{Kept}
use Rattle.casper_model.specs.declared.outcome.Kept.TheVariants as kept
use Rattle.casper_model.specs.declared.outcome.Outcome.{Outcome}
use Rattle.casper_model.specs.declared.outcome.Outcome.TheVariants as outcome
use Rattle.casper_model.specs.Acquire.{acquire, touches_by}
use Rattle.casper_model.specs.declared.reply.JoinRefusal.{JoinRefusal}
use Rattle.casper_model.specs.Answers.{of_join, of_finish, of_failure, of_vanish, of_lose}
use Rattle.casper_model.specs.Both.{Turned}
use Rattle.casper_model.specs.Room.{free_room}
use Rattle.casper_model.specs.Client.{Client, Fallen}
use Rattle.casper_model.specs.Finish.{failed, finished_as, finished_by, finish, settled_by, settled, stabilisation_led_by, doubtful_of}
use Rattle.casper_model.specs.Frozen.{members_of_stabilisation}
use Rattle.casper_model.specs.Growth.{AddsOwn}
use Rattle.casper_model.specs.Held.{allows}
use Rattle.casper_model.specs.Hits.{can_hit, with_call}
use Rattle.casper_model.specs.Join.{join, joined_by}
use Rattle.casper_model.specs.Leave.{serve, departed_by, vanish, vanished_by, absent}
use Rattle.casper_model.specs.LegalHistory.{right_for, CallIsHeld}
use Rattle.casper_model.specs.Loss.{lose, fallen_behind}
use Rattle.casper_model.specs.Opening.{opened, told_of_fall}
use Rattle.casper_model.specs.Own.{Own, blank}
use Rattle.casper_model.specs.Rights.{InOrder}
use Rattle.casper_model.specs.Shared.{Shared, client_at, fallen_at, of_client, is_live}
use Rattle.casper_model.specs.Stabilisation.{Stabilisation, Phase, is_gathering, is_doubtful, is_sealed}
use Rattle.casper_model.specs.Stabilise.{stabilise, kept_at}
use Rattle.casper_model.specs.State.{State, Unfinished, own_at, with_own, with_shared, after_turn}
use Rattle.casper_model.specs.WriteOutStep.{finish_turn, settle_turn, of_settled}
use Rattle.casper_model.proofs.AcquireRights.{keeps_acquire, within_places}
use Rattle.casper_model.proofs.Additions.{acquire_adds, serve_adds, stabilise_adds, depart_adds, who_opened}
use Rattle.casper_model.proofs.LeaveRights.{vanished_spares}
use Rattle.casper_model.proofs.OpeningRights.{places_opened}
use Rattle.casper_model.proofs.Places.{client_placed}
use Rattle.casper_laws.proofs.StepFrozen.{below_places}
use Rattle.casper_model.proofs.GrantedRights.{first_allows_the_same}
use Rattle.casper_model.proofs.RunHistory.{others_departed}
use Rattle.casper_model.proofs.StabiliseRights.{keeps_stabilise}
use Rattle.casper_model.proofs.StateHistory.{rights_as_held, in_owns}
use Rattle.casper_model.proofs.StepRights.{stands_at}
use Rattle.casper_model.proofs.TurnRights.{keeps_serve, keeps_told}
use Rattle.casper_laws.specs.FrozenLaws.{OneIsUnfinished, AreWriteOutsInOrder}
use Rattle.casper_laws.specs.OwnLists.{IsStanding}
use Rattle.casper_turns.proofs.FrozenChanges.{one_of_lead}
use Rattle.casper_laws.proofs.HeldWordTurns.{own_apart}
use Rattle.casper_laws.proofs.HeldWordOwn.{join_who}
use Rattle.casper_turns.proofs.KeptByTurns.{KeptByTurns}
use Rattle.casper_turns.proofs.Lists.{find_found, any_none}
use Rattle.casper_laws.proofs.MarkAdditions.{vanished_adds, lose_adds}
use Rattle.casper_laws.specs.Additions.{vanish_marks, lose_marks, rollback_mark}
use Rattle.casper_laws.proofs.RunFacts.{good_standing}
use Rattle.casper_laws.proofs.StepImage.{IsOrderly}
use Rattle.casper_answers.specs.Acknowledgement.{HasCommitOf, is_write_by, AskersAreMembers, AskersStand, AskersHaveNothingKept, answer_of_kept}
use Rattle.casper_answers.proofs.PlaceMoves.{EndedPlace, PlaceMoves, is_bare, bare_acquired, bare_served, bare_stabilised_by, bare_told}
use Rattle.casper_answers.proofs.StepPlaces.{lose_places, vanish_places, finish_places, settled_places, join_places, doubtful_once}

-- A commit that is kept for a client covers all that it wrote.

pub place_in_front : {X : Type 0} (xs ys : List X) (at : ℕ) (x : X) → slice_get xs at ≡ Some x → slice_get (xs ++ ys) at ≡ Some x
place_in_front [] ys at x is = absurd (true≢false (sym (ap is_some is)))
place_in_front (first ∷ xs) ys zero x is = is
place_in_front (first ∷ xs) ys (suc at) x is = place_in_front xs ys at x is

pub place_at_end : {X : Type 0} (xs : List X) (x : X) → slice_get (xs ++ x ∷ []) (length xs) ≡ Some x
place_at_end [] x = refl
place_at_end (first ∷ xs) x = place_at_end xs x

-- the mark of a commit, and no write of the client after it
pub record CoversTrail (trail : List Item) (place who : ℕ) : Type 0 where
  pub commit : HasCommitOf trail place who
  pub recorded : list_any (is_write_by who) (drop place trail) ≡ false

pub covers_more : (trail more : List Item) (place who : ℕ) → list_any (is_write_by who) more ≡ false → CoversTrail trail place who → CoversTrail (trail ++ more) place who
covers_more trail more place who none covers = record {
  commit = record {
    lead = covers.commit.lead;
    members = covers.commit.members;
    stands = place_in_front trail more place _ covers.commit.stands;
    member = covers.commit.member;
  };
  recorded =
      let within = slice_get_within trail place _ covers.commit.stands in
      ap (list_any (is_write_by who)) (drop-append-le place trail more (omega (arith, within)))
      ∙ list_any-append (is_write_by who) (drop place trail) more
      ∙ ap (λ one. one || list_any (is_write_by who) more) covers.recorded ∙ none;
}

pub no_writes_of_another : (one who : ℕ) (calls : List Call) → (one == who) ≡ false → list_any (is_write_by who) (as_items (entries_by one calls)) ≡ false
no_writes_of_another one who [] apart = refl
no_writes_of_another one who (call ∷ calls) apart =
    ap (λ same. (is_write call.op && same) || list_any (is_write_by who) (as_items (entries_by one calls))) apart
    ∙ by_op (is_write call.op) (no_writes_of_another one who calls apart)
  where
    by_op : (writes : Bool) → list_any (is_write_by who) (as_items (entries_by one calls)) ≡ false
        → ((writes && false) || list_any (is_write_by who) (as_items (entries_by one calls))) ≡ false
    by_op true rest = rest
    by_op false rest = rest

no_writes_in_touches : (one who : ℕ) (wants : List Want) → list_any (is_write_by who) (as_items (touches_by one wants)) ≡ false
no_writes_in_touches one who [] = refl
no_writes_in_touches one who (want ∷ wants) = no_writes_in_touches one who wants

covers_own : (one who : ℕ) (pending : List Call) (before after : List Item) (place : ℕ) → (one == who) ≡ false → AddsOwn one pending before after
    → CoversTrail before place who → CoversTrail after place who
covers_own one who pending before after place apart AddsOwn.nothing covers = covers
covers_own one who pending before after place apart AddsOwn.calls covers =
    covers_more before (as_items (entries_by one pending)) place who (no_writes_of_another one who pending apart) covers
covers_own one who pending before after place apart (AddsOwn.touches wants) covers =
    covers_more (before ++ as_items (entries_by one pending)) (as_items (touches_by one wants)) place who (no_writes_in_touches one who wants)
    (covers_more before (as_items (entries_by one pending)) place who (no_writes_of_another one who pending apart) covers)

-- what stands for a client for which a commit is kept
pub record HoldsCommit (state : State) (who place : ℕ) : Type 0 where
  pub covers : CoversTrail state.shared.trail place who
  pub pending : list_any (λ call. is_write call.op) (own_at state who).pending ≡ false
  pub held : (page : ℕ) → allows (own_at state who).held page may.Write ≡ true → ⊥

abbrev pub HoldCommits : State → Type 0
HoldCommits state = (who place : ℕ) → kept_at state.shared who ≡ Some (kept.Committed place) → HoldsCommit state who place

-- what is known of a state beside this
pub record IsAnswering (state : State) : Type 0 where
  pub known : IsOrderly state
  pub members : AskersAreMembers state
  pub stand : AskersStand state
  pub nothing : AskersHaveNothingKept state

holds_still : (state next : State) (who place : ℕ) → own_at next who ≡ own_at state who → CoversTrail next.shared.trail place who → HoldsCommit state who place
    → HoldsCommit next who place
holds_still state next who place same covers holds = record {
  covers = covers;
  pending = ap (λ (own : Own). list_any (λ call. is_write call.op) own.pending) same ∙ holds.pending;
  held = λ page writes. holds.held page (ap (λ (own : Own). allows own.held page may.Write) (sym same) ∙ writes);
}

-- where something is kept, it was kept before, or it is what the end of a stabilisation tells
pub kept_before : (state : State) (happened : Event) (given : Answer) (after : Shared) (who : ℕ) (outcome : Kept) → PlaceMoves state happened given after who
    → kept_at after who ≡ Some outcome → (kept_at state.shared who ≡ Some outcome) ⊎ ((it : EndedPlace state happened given after who) × (it.outcome ≡ outcome))
kept_before state happened given after who outcome place is = by_place place
  where
    kept_of : Option Client → Option Kept
    kept_of place = of_client None (λ client. client.kept) place

    no_kept : {T : Type 0} (kept : Option Kept) → kept ≡ None → kept ≡ Some outcome → T
    no_kept kept none some = absurd (true≢false (sym (sym (ap is_some none) ∙ ap is_some some)))

    by_mapped : (place : Option Client) → of_client None (λ client. client.kept) (option_map (fallen_behind state.shared.trail who) place) ≡ Some outcome
        → of_client None (λ client. client.kept) place ≡ Some outcome
    by_mapped None some = some
    by_mapped (Some client) some = some

    by_ended : (told : Kept) (place : Option Client)
        → of_client None (λ client. client.kept) (option_map (λ (client : Client). record client { kept = Some told }) place) ≡ Some outcome → told ≡ outcome
    by_ended told None some = absurd (true≢false (sym (ap is_some some)))
    by_ended told (Some client) some = ap (λ (x : Option Kept). unwrap_or x outcome) some

    by_place : PlaceMoves state happened given after who
        → (kept_at state.shared who ≡ Some outcome) ⊎ ((it : EndedPlace state happened given after who) × (it.outcome ≡ outcome))
    by_place (PlaceMoves.stays it) = inl (sym (ap (of_client None (λ client. client.kept)) it.still) ∙ is)
    by_place (PlaceMoves.turns it) = no_kept (kept_at after who) (ap (of_client None (λ client. client.kept)) it.turned.live ∙ it.turned.kept) is
    by_place (PlaceMoves.falls it) = inl (by_mapped (client_at state.shared who) (sym (ap (of_client None (λ client. client.kept)) it.fell) ∙ is))
    by_place (PlaceMoves.ends it) = inr (it, by_ended it.outcome (client_at state.shared who) (sym (ap (of_client None (λ client. client.kept)) it.ended) ∙ is))
    by_place (PlaceMoves.begins it) = no_kept (kept_at after who) (ap (of_client None (λ client. client.kept)) it.joined) is
    by_place (PlaceMoves.leaves it) = no_kept (kept_at after who) (ap (of_client None (λ client. client.kept)) it.left) is

-- an own part that is put in its place
pub own_here : (state : State) (own : Own) (who : ℕ) → own.who ≡ who → own.who < length state.owns → own_at (with_own state own) who ≡ own
own_here state own who same below =
    ap (own_at (with_own state own)) (sym same) ∙ get_or-set_same state.owns own.who own (blank own.who 0) below

-- nothing is kept at a bare place
bare_keeps_none : (place : Option Client) (outcome : Kept) → is_bare place ≡ true → of_client None (λ client. client.kept) place ≡ Some outcome → ⊥
bare_keeps_none None outcome bare some = true≢false (sym bare)
bare_keeps_none (Some client) outcome bare some = true≢false (sym bare ∙ ap (λ kept. not (is_some kept)) some)

module _ (state : State) (order : InOrder state) (holds : HoldCommits state) where
  -- a hit: a client that writes no page makes no write
  hit_keeps : (one : ℕ) (act : Op) (page word value : ℕ) → IsClient one → can_hit (own_at state one) page (right_for act) ≡ true
      → HoldCommits (with_own state (with_call (own_at state one) act page word value))
  hit_keeps one act page word value client can who place is = by_who (cases_eq who one)
    where
      next : State
      next = with_own state (with_call (own_at state one) act page word value)

      it : (own_at state one).who ≡ one
      it = order.shaped.numbers one

      by_act : (act : Op) → (allows (own_at state one).held page may.Write ≡ true → ⊥) → allows (own_at state one).held page (right_for act) ≡ true → (is_write act || false) ≡ false
      by_act op.Read never allowed = refl
      by_act op.Write never allowed = absurd (never allowed)
      by_act op.Touch never allowed = refl

      by_who : (who ≡ one) ⊎ (who ≢ one) → HoldsCommit (with_own state (with_call (own_at state one) act page word value)) who place
      by_who (inr apart) =
          holds_still state (with_own state (with_call (own_at state one) act page word value)) who place
          (own_apart state (with_call (own_at state one) act page word value) state.shared who (λ same. apart (same ∙ it))) (holds who place is).covers (holds who place is)
      by_who (inl same) =
          let own = own_at state one in
          let before = holds who place is in
          let mine : own_at state who ≡ own = ap (own_at state) same in
          let here : own_at (with_own state (with_call own act page word value)) who ≡ with_call own act page word value =
          own_here state (with_call own act page word value) who (it ∙ sym same) (in_owns state one (with_call own act page word value) order client refl) in
          record {
            covers = before.covers;
            pending = ap (λ (x : Own). list_any (λ call. is_write call.op) x.pending) here
                ∙ list_any-append (λ call. is_write call.op) own.pending (record { op = act; page = page; word = word; value = value } ∷ [])
                ∙ ap (λ one. one || (is_write act || false)) (ap (λ (x : Own). list_any (λ call. is_write call.op) x.pending) (sym mine) ∙ before.pending)
                ∙ by_act act (λ writes. before.held page (ap (λ (x : Own). allows x.held page may.Write) mine ∙ writes))
                (and_parts (allows own.held page (right_for act)) _ can).0;
            held = λ other writes.
                before.held other
                (ap (λ (x : Own). allows x.held other may.Write) mine
                ∙ sym (first_allows_the_same page own.held other may.Write)
                ∙ ap (λ (x : Own). allows x.held other may.Write) (sym here) ∙ writes);
          }

module _ (state : State) (well : IsAnswering state) (holds : HoldCommits state) where
  abbrev shared : Shared
  shared = state.shared

  abbrev order : InOrder state
  order = well.known.history.order

  -- a turn of a client
  turn_holds : (one : ℕ) (after : Shared) (own_after : Own) → is_live shared one ≡ true → own_after.who ≡ (own_at state one).who
      → ((number : ℕ) → number ≢ (own_at state one).who → client_at after number ≡ client_at shared number)
      → ((outcome : Kept) → kept_at after (own_at state one).who ≡ Some outcome → ⊥)
      → AddsOwn (own_at state one).who (own_at state one).pending shared.trail after.trail → HoldCommits (with_own (with_shared state after) own_after)
  turn_holds one after own_after live same others none adds who place is = by_who (cases_eq who (own_at state one).who)
    where
      by_who : (who ≡ (own_at state one).who) ⊎ (who ≢ (own_at state one).who) → HoldsCommit (with_own (with_shared state after) own_after) who place
      by_who (inl it) = absurd (none (kept.Committed place) (ap (kept_at after) (sym it) ∙ is))
      by_who (inr apart) =
          let before = holds who place (ap (of_client None (λ client. client.kept)) (sym (others who apart)) ∙ is) in
          holds_still state (with_own (with_shared state after) own_after) who place (own_apart state own_after after who (λ at. apart (at ∙ same)))
          (covers_own (own_at state one).who who (own_at state one).pending shared.trail after.trail place
          (false_from_ne_true ((own_at state one).who == who) (λ at. apart (sym (eqb-true (own_at state one).who who at)))) adds before.covers) before

  kept_turn : (one : ℕ) (after : Shared) → is_bare (client_at after (own_at state one).who) ≡ true → (outcome : Kept) → kept_at after (own_at state one).who ≡ Some outcome → ⊥
  kept_turn one after bare outcome = bare_keeps_none (client_at after (own_at state one).who) outcome bare

  live_own : (one : ℕ) → is_live shared one ≡ true → is_some (client_at shared (own_at state one).who) ≡ true
  live_own one live = ap (is_live shared) (order.shaped.numbers one) ∙ live

  departed_holds : (one : ℕ) → is_live shared one ≡ true → (fallen : Option Fallen) → fallen_at shared (own_at state one).who ≡ fallen
      → AddsOwn (own_at state one).who (own_at state one).pending shared.trail (departed_by shared (own_at state one) fallen).shared.trail
      → HoldCommits (after_turn state (departed_by shared (own_at state one) fallen))
  departed_holds one live (Some fallen) e adds who place is =
      let own = own_at state one in
      turn_holds one (told_of_fall shared own).shared (told_of_fall shared own).own live refl (keeps_told shared own fallen (stands_at state one order live) e).others
      (kept_turn one (told_of_fall shared own).shared (bare_told shared own (live_own one live))) adds who place is
  departed_holds one live None e adds who place is = by_place (cases_eq who own.who)
    where
      own : Own
      own = own_at state one

      next : State
      next = after_turn state (departed_by shared (own_at state one) None)

      left_at : (one : ℕ) → is_live shared one ≡ true → client_at (absent (opened shared (own_at state one))).shared (own_at state one).who ≡ None
      left_at one live =
          let own = own_at state one in
          ap (λ at. client_at (absent (opened shared own)).shared at) (sym (who_opened shared own))
          ∙ client_placed (opened shared own).own.who None (opened shared own).shared
          (subst (λ count. (opened shared own).own.who < count) (sym (places_opened shared own))
          (subst (λ at. at < length shared.clients) (sym (who_opened shared own)) (within_places shared own (stands_at state one order live))))

      by_place : (who ≡ own.who) ⊎ (who ≢ own.who) → HoldsCommit (after_turn state (departed_by shared (own_at state one) None)) who place
      by_place (inl same) =
          absurd
          (true≢false
          (sym (ap is_some is)
          ∙ ap (λ at. is_some (kept_at (absent (opened shared own)).shared at)) same
          ∙ ap (λ (x : Option Client). is_some (of_client None (λ client. client.kept) x)) (left_at one live)))
      by_place (inr apart) =
          let before = holds who place (ap (of_client None (λ client. client.kept)) (sym (others_departed shared own who apart)) ∙ is) in
          holds_still state (after_turn state (departed_by shared own None)) who place (own_apart state (absent (opened shared own)).own (absent (opened shared own)).shared who (λ at. apart (at ∙ who_opened shared own)))
          (covers_own own.who who own.pending shared.trail (absent (opened shared own)).shared.trail place
          (false_from_ne_true (own.who == who) (λ at. apart (sym (eqb-true own.who who at)))) adds before.covers) before

  -- what is no turn of a client: nothing new is kept for it, and no write is added
  other_holds : (next : State) (who place : ℕ) → own_at next who ≡ own_at state who
      → ((more : List Item) × (next.shared.trail ≡ shared.trail ++ more) × (list_any (is_write_by who) more ≡ false))
      → kept_at shared who ≡ Some (kept.Committed place) → HoldsCommit next who place
  other_holds next who place same adds is =
      let before = holds who place is in
      holds_still state next who place same
      (subst (λ trail. CoversTrail trail place who) (sym adds.1) (covers_more shared.trail adds.0 place who adds.2 before.covers)) before

  vanish_adds_none : (one who : ℕ) (given : Answer) → list_any (is_write_by who) (vanish_marks shared one given) ≡ false
  vanish_adds_none one who (answer.VanishLost mark unrecorded) =
      cond_both (is_some (fallen_at shared one)) [] (rollback_mark shared.trail one) (λ list. list_any (is_write_by who) list ≡ false) (λ is. refl) (λ is. refl)
  vanish_adds_none one who other = refl

  lose_adds_none : (one who : ℕ) (given : Answer) → list_any (is_write_by who) (lose_marks shared one given) ≡ false
  lose_adds_none one who (answer.LoseLost mark) = refl
  lose_adds_none one who other = refl

  vanished_holds : (one : ℕ) → IsClient one → HoldCommits (after_turn state (vanish shared (own_at state one)))
  vanished_holds one client who place is =
      ⊎_elim
      (λ before.
      ⊎_elim
      (λ (same : who ≡ own.who). absurd (true≢false (sym (ap is_some is) ∙ gone same)))
      (λ (apart : who ≢ own.who).
      other_holds (after_turn state (vanish shared own)) who place
      (own_apart state (vanish shared own).own (vanish shared own).shared who apart) (
        vanish_marks shared own.who (of_vanish (vanished_by shared own (fallen_at shared own.who)).reply),
        vanished_adds shared own (fallen_at shared own.who) refl,
        vanish_adds_none own.who who (of_vanish (vanished_by shared own (fallen_at shared own.who)).reply),
      ) before) (cases_eq who own.who))
      (λ (new : (it : EndedPlace state (event.Vanish one) (of_vanish (vanish shared own).reply) (vanish shared own).shared who) × (it.outcome ≡ kept.Committed place)).
      absurd (true≢false (sym new.0.may)))
      (kept_before state (event.Vanish one) _ (vanish shared own).shared who (kept.Committed place) (vanish_places state well.known one client who) is)
    where
      own : Own
      own = own_at state one

      gone : who ≡ own.who → is_some (kept_at (vanish shared own).shared who) ≡ false
      gone same =
          ap (λ at. is_some (kept_at (vanish shared own).shared at)) same
          ∙ ap (λ (x : Option Client). is_some (of_client None (λ client. client.kept) x))
          (client_placed own.who None (vanished_by shared own (fallen_at shared own.who)).shared
          (subst (λ count. own.who < count) (sym (vanished_spares shared own (fallen_at shared own.who)).places) (below_places state one order client)))

  lost_holds : (one : ℕ) → HoldCommits (with_shared state (lose shared one).shared)
  lost_holds one who place is =
      ⊎_elim
      (λ before.
      other_holds (with_shared state (lose shared one).shared) who place refl
      (lose_marks shared one (of_lose (lose shared one).reply), lose_adds shared one (fallen_at shared one), lose_adds_none one who (of_lose (lose shared one).reply)) before)
      (λ (new : (it : EndedPlace state (event.Lose one) (of_lose (lose shared one).reply) (lose shared one).shared who) × (it.outcome ≡ kept.Committed place)).
      absurd (true≢false (sym new.0.may)))
      (kept_before state (event.Lose one) _ (lose shared one).shared who (kept.Committed place) (lose_places state well.known one who) is)

  joined_holds : (one : ℕ) → IsClient one → HoldCommits (after_turn state (join shared (own_at state one)))
  joined_holds one client who place is =
      ⊎_elim (λ before. by_found (client_at shared own.who) refl before)
      (λ (new : (it : EndedPlace state (event.Join one) (of_join (join shared own).reply) (join shared own).shared who) × (it.outcome ≡ kept.Committed place)).
      absurd (true≢false (sym new.0.may)))
      (kept_before state (event.Join one) (of_join (join shared own).reply) (join shared own).shared who (kept.Committed place) (join_places state well.known one client who) is)
    where
      own : Own
      own = own_at state one

      stays : (turn : Turned (Option JoinRefusal)) → own_at (after_turn state turn) who ≡ own_at state who → turn.shared.trail ≡ shared.trail
          → kept_at shared who ≡ Some (kept.Committed place) → HoldsCommit (after_turn state turn) who place
      stays turn same trail before =
          let held = holds who place before in
          holds_still state (after_turn state turn) who place same (subst (λ items. CoversTrail items place who) (sym trail) held.covers) held

      apart_own : (turn : Turned (Option JoinRefusal)) → turn.own.who ≡ own.who → who ≢ own.who → own_at (after_turn state turn) who ≡ own_at state who
      apart_own turn same apart = own_apart state turn.own turn.shared who (λ at. apart (at ∙ same))

      busy_own : (found : Client) → own_at (after_turn state (joined_by shared own (Some found))) who ≡ own_at state who
      busy_own found =
          ⊎_elim
          (λ (same : who ≡ own.who).
          let at : who ≡ one = same ∙ order.shaped.numbers one in
          own_here state own who (sym same) (in_owns state one own order client refl) ∙ ap (own_at state) (sym at))
          (λ (apart : who ≢ own.who). apart_own (joined_by shared own (Some found)) refl apart) (cases_eq who own.who)

      by_found : (found : Option Client) → client_at shared own.who ≡ found → kept_at shared who ≡ Some (kept.Committed place)
          → HoldsCommit (after_turn state (joined_by shared own found)) who place
      by_found (Some found) e before = stays (joined_by shared own (Some found)) (busy_own found) refl before
      by_found None e before =
          ⊎_elim
          (λ (same : who ≡ own.who).
          absurd
          (true≢false
          (sym (ap is_some before) ∙ ap (λ at. is_some (kept_at shared at)) same
          ∙ ap (λ (x : Option Client). is_some (of_client None (λ client. client.kept) x)) e)))
          (λ (apart : who ≢ own.who).
          stays (joined_by shared own None) (apart_own (joined_by shared own None) (join_who shared own None) apart)
          (cond_both {A = Turned (Option JoinRefusal)} (free_room shared == 0) _ _ (λ turn. turn.shared.trail ≡ shared.trail) (λ full. refl) (λ room. refl)) before)
          (cases_eq who own.who)

  -- a commit covers who waited for it: it may write no page, so it has no write pending
  commit_covers : (one : Stabilisation) (who : ℕ) → Contains shared.stabilisations one → is_gathering one.phase ≡ false → has_member who one.askers ≡ true → (next : State)
      → own_at next who ≡ own_at state who → next.shared.trail ≡ shared.trail ++ item.Mark (Commit one.lead (members_of_stabilisation shared one)) ∷ []
      → HoldsCommit next who (length shared.trail)
  commit_covers one who inside held asker next same marked = record {
    covers =
        subst (λ trail. CoversTrail trail (length shared.trail) who) (sym marked)
        (record {
          commit = record {
            lead = one.lead;
            members = members_of_stabilisation shared one;
            stands = place_at_end shared.trail (item.Mark (Commit one.lead (members_of_stabilisation shared one)));
            member = well.members one who inside asker;
          };
          recorded = ap (list_any (is_write_by who)) (drop-append_seam shared.trail (item.Mark (Commit one.lead (members_of_stabilisation shared one)) ∷ []));
        });
    pending = ap (λ (x : Own). list_any (λ call. is_write call.op) x.pending) same
        ∙ any_none (λ call. is_write call.op) (own_at state who).pending (λ call found writes. no_write call (held_call call found) call.op refl writes);
    held = λ page writes. no_right page (ap (λ (x : Own). allows x.held page may.Write) (sym same) ∙ writes);
  }
    where
      up : IsStanding state who
      up = well.stand one who inside asker

      no_right : (page : ℕ) → allows (own_at state who).held page may.Write ≡ true → ⊥
      no_right page writes =
          true≢false
          (sym (well.known.orderly.frozen.quiet one inside who page (well.members one who inside asker)
          (rights_as_held state who up.0 order up.1 up.2 page may.Write ∙ writes)).0 ∙ held)

      held_call : (call : Call) → Contains (own_at state who).pending call → CallIsHeld (own_at state who).held call
      held_call = (good_standing state who well.known.history up).held

      no_write : (call : Call) → CallIsHeld (own_at state who).held call → (act : Op) → call.op ≡ act → is_write act ≡ true → ⊥
      no_write call is_held op.Read e writes = true≢false (sym writes)
      no_write call is_held op.Write e writes = no_right call.page (ap (λ act. allows (own_at state who).held call.page (right_for act)) (sym e) ∙ is_held)
      no_write call is_held op.Touch e writes = true≢false (sym writes)

  -- a finish or a settle adds at most a mark
  finish_items : (lead : ℕ) (how : Outcome) (who : ℕ)
      → (more : List Item) × ((finish shared lead how).shared.trail ≡ shared.trail ++ more) × (list_any (is_write_by who) more ≡ false)
  finish_items lead how who = by_found (stabilisation_led_by shared lead)
    where
      by_noted : (one : Stabilisation) (cause : Outcome) (noted : Option ℕ)
          → (more : List Item) × ((failed shared one cause noted).shared.trail ≡ shared.trail ++ more) × (list_any (is_write_by who) more ≡ false)
      by_noted one cause None = ([], sym (append-nil shared.trail), refl)
      by_noted one cause (Some lost) = (item.Mark (Rollback lost (association_of shared.trail lost)) ∷ [], refl, refl)

      by_end : (one : Stabilisation) (end : Outcome)
          → (more : List Item) × ((finished_as shared one end).shared.trail ≡ shared.trail ++ more) × (list_any (is_write_by who) more ≡ false)
      by_end one (outcome.Ok version) = (item.Mark (Commit one.lead (members_of_stabilisation shared one)) ∷ [], refl, refl)
      by_end one (outcome.Full need free) = by_noted one (outcome.Full need free) one.noted
      by_end one outcome.Worn = by_noted one outcome.Worn one.noted
      by_end one outcome.Disk = by_noted one outcome.Disk one.noted
      by_end one outcome.Doubt = ([], sym (append-nil shared.trail), refl)

      by_found : (found : Option Stabilisation)
          → (more : List Item) × ((finished_by shared how found).shared.trail ≡ shared.trail ++ more) × (list_any (is_write_by who) more ≡ false)
      by_found None = ([], sym (append-nil shared.trail), refl)
      by_found (Some one) = by_end one how

  settled_items : (who : ℕ) → (more : List Item) × ((settled shared).shared.trail ≡ shared.trail ++ more) × (list_any (is_write_by who) more ≡ false)
  settled_items who = by_found (doubtful_of shared)
    where
      by_found : (found : Option Stabilisation)
          → (more : List Item) × ((settled_by shared found).shared.trail ≡ shared.trail ++ more) × (list_any (is_write_by who) more ≡ false)
      by_found None = ([], sym (append-nil shared.trail), refl)
      by_found (Some one) = (item.Mark (Commit one.lead (members_of_stabilisation shared one)) ∷ [], refl, refl)

  -- a finish that tells a commit has recorded its mark after all that stood
  pub finish_commit : (lead : ℕ) (how : Outcome) (one : Stabilisation) (place : ℕ) → one.lead ≡ lead → Contains shared.stabilisations one
      → of_finish (finish shared lead how).reply ≡ answer.Commit place
      → (place ≡ length shared.trail) × ((finish shared lead how).shared.trail ≡ shared.trail ++ item.Mark (Commit one.lead (members_of_stabilisation shared one)) ∷ [])
  finish_commit lead how one place led inside tells = by_found (stabilisation_led_by shared lead) refl tells
    where
      place_of : Answer → ℕ
      place_of (answer.Commit at) = at
      place_of other = 0

      is_commit : Answer → Bool
      is_commit (answer.Commit at) = true
      is_commit other = false

      by_noted : (it : Stabilisation) (cause : Outcome) (noted : Option ℕ) → is_commit (of_failure cause) ≡ false
          → of_finish (Some (failed shared it cause noted).reply) ≡ answer.Commit place → ⊥
      by_noted it cause None silent told = true≢false (sym (ap is_commit told) ∙ silent)
      by_noted it cause (Some lost) silent told = true≢false (sym (ap is_commit told))

      by_end : (it : Stabilisation) (end : Outcome) → it ≡ one → of_finish (Some (finished_as shared it end).reply) ≡ answer.Commit place
          → (place ≡ length shared.trail) × ((finished_as shared it end).shared.trail ≡ shared.trail ++ item.Mark (Commit one.lead (members_of_stabilisation shared one)) ∷ [])
      by_end it (outcome.Ok version) same told =
          (sym (ap place_of told), ap (λ (x : Stabilisation). shared.trail ++ item.Mark (Commit x.lead (members_of_stabilisation shared x)) ∷ []) same)
      by_end it (outcome.Full need free) same told = absurd (by_noted it (outcome.Full need free) it.noted refl told)
      by_end it outcome.Worn same told = absurd (by_noted it outcome.Worn it.noted refl told)
      by_end it outcome.Disk same told = absurd (by_noted it outcome.Disk it.noted refl told)
      by_end it outcome.Doubt same told = absurd (true≢false (sym (ap is_commit told)))

      by_found : (found : Option Stabilisation) → stabilisation_led_by shared lead ≡ found → of_finish (finished_by shared how found).reply ≡ answer.Commit place
          → (place ≡ length shared.trail) × ((finished_by shared how found).shared.trail ≡ shared.trail ++ item.Mark (Commit one.lead (members_of_stabilisation shared one)) ∷ [])
      by_found None e told = absurd (true≢false (sym (ap is_commit told)))
      by_found (Some it) e told =
          let found = find_found (λ (x : Stabilisation). x.lead == lead) shared.stabilisations it e in
          by_end it how (one_of_lead shared it one well.known.orderly.frozen found.0 inside (eqb-true it.lead lead found.1 ∙ sym led)) told

  finished_holds : (lead : ℕ) (unfinished : Unfinished) → state.unfinished ≡ Some unfinished → (unfinished.lead == lead) ≡ true
      → HoldCommits (finish_turn lead unfinished.outcome state).state
  finished_holds lead unfinished e same who place is =
      ⊎_elim (λ before. other_holds next who place refl (finish_items lead unfinished.outcome who) before)
      (λ (new : (it : EndedPlace state (event.Finish lead) (of_finish (finish shared lead unfinished.outcome).reply) (finish shared lead unfinished.outcome).shared who)
      × (it.outcome ≡ kept.Committed place)).
      let it = new.0 in
      let led : it.one.lead ≡ lead = eqb-true it.one.lead lead it.may in
      let commit = finish_commit lead unfinished.outcome it.one place led it.inside (it.tells ∙ ap answer_of_kept new.1) in
      subst (HoldsCommit next who) (sym commit.0) (commit_covers it.one who it.inside (sealed_one it.one led it.inside) it.asker next refl commit.1))
      (kept_before state (event.Finish lead) (of_finish (finish shared lead unfinished.outcome).reply) (finish shared lead unfinished.outcome).shared who (kept.Committed place)
      (finish_places state well.known lead unfinished.outcome who) is)
    where
      next : State
      next = (finish_turn lead unfinished.outcome state).state

      stands : OneIsUnfinished state unfinished
      stands = subst (AreWriteOutsInOrder state) e well.known.orderly.written

      not_gathering : (phase : Phase) → is_sealed phase ≡ true → is_gathering phase ≡ false
      not_gathering Phase.Gathering seal = absurd (true≢false (sym seal))
      not_gathering Phase.Sealed seal = refl
      not_gathering Phase.Doubtful seal = refl

      sealed_one : (one : Stabilisation) → one.lead ≡ lead → Contains shared.stabilisations one → is_gathering one.phase ≡ false
      sealed_one one led inside =
          let seal = stands.stabilisation in
          let it : one ≡ seal.0 =
          one_of_lead shared one seal.0 well.known.orderly.frozen inside seal.1 (led ∙ sym (eqb-true unfinished.lead lead same) ∙ sym seal.2) in
          not_gathering one.phase (ap (λ (x : Stabilisation). is_sealed x.phase) it ∙ seal.3)

  -- and so has a settle, for the stabilisation in doubt
  pub settle_commit : (it : Stabilisation) (place : ℕ) → Contains shared.stabilisations it → is_doubtful it.phase ≡ true
      → of_settled (settled shared).reply ≡ answer.Commit place
      → (place ≡ length shared.trail) × ((settled shared).shared.trail ≡ shared.trail ++ item.Mark (Commit it.lead (members_of_stabilisation shared it)) ∷ [])
  settle_commit it place inside doubtful tells = by_found (doubtful_of shared) refl tells
    where
      place_of : Answer → ℕ
      place_of (answer.Commit at) = at
      place_of other = 0

      is_commit : Answer → Bool
      is_commit (answer.Commit at) = true
      is_commit other = false

      by_found : (found : Option Stabilisation) → doubtful_of shared ≡ found → of_settled (settled_by shared found).reply ≡ answer.Commit place
          → (place ≡ length shared.trail) × ((settled_by shared found).shared.trail ≡ shared.trail ++ item.Mark (Commit it.lead (members_of_stabilisation shared it)) ∷ [])
      by_found None none told = absurd (true≢false (sym (ap is_commit told)))
      by_found (Some other) some told =
          let found = find_found (λ (x : Stabilisation). is_doubtful x.phase) shared.stabilisations other some in
          let same = doubtful_once state well.known other it found.0 inside found.1 doubtful in
          (sym (ap place_of told), ap (λ (x : Stabilisation). shared.trail ++ item.Mark (Commit x.lead (members_of_stabilisation shared x)) ∷ []) same)

  settled_holds : (one : Stabilisation) → doubtful_of shared ≡ Some one → HoldCommits (settle_turn state).state
  settled_holds one e who place is =
      ⊎_elim (λ before. other_holds next who place refl (settled_items who) before)
      (λ (new : (it : EndedPlace state event.Settle (of_settled (settled shared).reply) (settled shared).shared who) × (it.outcome ≡ kept.Committed place)).
      let it = new.0 in
      let commit = settle_commit it.one place it.inside it.may (it.tells ∙ ap answer_of_kept new.1) in
      subst (HoldsCommit next who) (sym commit.0) (commit_covers it.one who it.inside (not_gathering it.one.phase it.may) it.asker next refl commit.1))
      (kept_before state event.Settle (of_settled (settled shared).reply) (settled shared).shared who (kept.Committed place) (settled_places state well.known who) is)
    where
      next : State
      next = (settle_turn state).state

      not_gathering : (phase : Phase) → is_doubtful phase ≡ true → is_gathering phase ≡ false
      not_gathering Phase.Gathering doubt = absurd (true≢false (sym doubt))
      not_gathering Phase.Sealed doubt = refl
      not_gathering Phase.Doubtful doubt = refl

-- a hit keeps it, from what is known of it alone
pub commits_by_turns : KeptByTurns InOrder IsAnswering HoldCommits
commits_by_turns = record {
  hit = λ state who act page word value is calls order holds can. hit_keeps state order holds who act page word value is can;
  joining = λ state who is well holds. joined_holds state well holds who is;
  acquiring = λ state who wants calls any is live well holds.
      let own = own_at state who in
      let keeps = keeps_acquire wants calls state.shared own (stands_at state who well.known.history.order live) in
      turn_holds state well holds who _ _ live keeps.who keeps.others
      (kept_turn state well holds who (acquire state.shared own wants calls).shared (bare_acquired state.shared own (live_own state well holds who live) wants calls (fallen_at state.shared own.who)))
      (acquire_adds wants calls state.shared own);
  serving = λ state who is live well holds.
      let own = own_at state who in
      let keeps = keeps_serve state.shared own (stands_at state who well.known.history.order live) in
      turn_holds state well holds who _ _ live keeps.who keeps.others
      (kept_turn state well holds who (serve state.shared own).shared (bare_served state.shared own (live_own state well holds who live) (fallen_at state.shared own.who))) (serve_adds state.shared own);
  stabilising = λ state who is live well holds.
      let own = own_at state who in
      let keeps = keeps_stabilise state.shared own (stands_at state who well.known.history.order live) in
      turn_holds state well holds who _ _ live keeps.who keeps.others
      (kept_turn state well holds who (stabilise state.shared own).shared (bare_stabilised_by state.shared own (live_own state well holds who live) (fallen_at state.shared own.who))) (stabilise_adds state.shared own);
  departing = λ state who is live well holds.
      let own = own_at state who in departed_holds state well holds who live (fallen_at state.shared own.who) refl (depart_adds state.shared own);
  vanishing = λ state who is live well holds. vanished_holds state well holds who is;
  losing = λ state who is live well holds. lost_holds state well holds who;
  writing = λ state outside lead one well holds job free who place is.
      let before = holds who place is in record { covers = before.covers; pending = before.pending; held = before.held };
  finishing = λ state lead unfinished well holds e same. finished_holds state well holds lead unfinished e same;
  settling = λ state one well holds e. settled_holds state well holds one e;
}
