use Rattle.std.proofs.Common.{◌≡◌, ◌≢◌, ◌⊎◌, ◌<◌, ◌+◌, ℕ, List, [], ◌∷◌, Bool, true, false, cond, not, ◌&&◌, ◌||◌, ◌==◌, length, filter_map, Contains, refl, sym, ap, ◌∙◌, subst, inl, inr, ⊎_elim, true≢false}
use Rattle.std.specs.Prelude.{Option, None, Some, is_some, option_map, unwrap_or, nat_lt, slice_get}
use Rattle.std.specs.Option.{option_or}
use Rattle.std.specs.List.{list_any, find, cons_option}
use Rattle.std.proofs.lemmas.Bool.{and_parts, and_from, or_cases, or_left, or_right, eq-eqb, ltb-true, not-true}
use Rattle.casper_words.specs.Crew.{IsClient, has_member}
use Rattle.casper_words.proofs.CrewLemmas.{has_member_crew_of, client_from_member, IsCrew_crew_of}
use Rattle.casper_words.specs.declared.page.Want.{Want}
use Rattle.casper_space.specs.declared.answer.Answer.{Answer}
use Rattle.casper_space.specs.declared.answer.Answer.TheVariants as answer
use Rattle.casper_trail.specs.TrailView.{entry_count}
use Rattle.casper_trail.proofs.LinkLists.{contains_there}
use Rattle.casper_model.specs.declared.reply.Reply.{Reply}
use Rattle.casper_model.specs.declared.reply.Reply.TheVariants as reply
use Rattle.casper_model.specs.Acquire.{acquire, acquired_by, answered, missing_once_opened, with_asks, none_missing, is_in_doubt, refused_in_doubt, frozen_of, frozen_lead, refused_frozen, blocks, blockers_of, refused_pending, refused_missing, refused_full, blocked_of}
use Rattle.casper_model.specs.Answers.{of_reply}
use Rattle.casper_model.specs.Both.{Both}
use Rattle.casper_model.specs.CallStep.{acquire_step, is_granted, unless_load_failed}
use Rattle.casper_model.specs.Client.{Client, Fallen}
use Rattle.casper_model.specs.Frozen.{is_member, is_modified_in}
use Rattle.casper_model.specs.Held.{missing_of, is_of, is_to_write}
use Rattle.casper_model.specs.Opening.{any_right, opened, given_in_opening}
use Rattle.casper_model.specs.Outside.{Outside, is_load_failed}
use Rattle.casper_model.specs.Own.{Own}
use Rattle.casper_model.specs.Shared.{Shared, client_at, of_client, rights_at, asks_at, fallen_at}
use Rattle.casper_model.specs.Stabilisation.{Stabilisation, is_doubtful, is_empty}
use Rattle.casper_model.specs.State.{State, own_at, after_turn}
use Rattle.casper_model.specs.Turn.{Turn}
use Rattle.casper_model.proofs.Additions.{who_opened}
use Rattle.casper_model.proofs.Entries.{contains_cases}
use Rattle.casper_model.proofs.Places.{client_unchanged}
use Rattle.casper_model.proofs.StateHistory.{in_owns}
use Rattle.casper_turns.proofs.Lists.{nothing_in, contains_here, any_found, any_of, find_found, find_some, contains_filter, contains_filtered}
use Rattle.casper_laws.proofs.StepImage.{IsOrderly}
use Rattle.casper_answers.specs.AcquireCauses.{lacking, Touches, IsTouchedByOne, IsInDoubt, IsFrozenBy, StandsInTheWay, InDoubtHasItsCause, FrozenHasItsCause, PendingHasItsCause, TrailFullHasItsCause, DiskHasItsCause, is_cause, GrantedWhereNothingHinders}
use Rattle.casper_answers.proofs.CommitSteps.{own_here}

-- Why an acquire is answered so.

-- what holds where an acquire gets a reply, once it has opened: of what is shared then, and of the wants that are missing
module _ (shared : Shared) (who room : ℕ) (given : List ℕ) (missing : List Want) (calls : ℕ) where
  abbrev NotInDoubt : Type 0
  NotInDoubt = is_in_doubt shared who missing ≡ false

  abbrev NotFrozen : Type 0
  NotFrozen = frozen_lead shared who missing ≡ None

  pub record InDoubtFacts : Type 0 where
    pub lacks : none_missing missing ≡ false
    pub doubt : is_in_doubt shared who missing ≡ true

  pub record FrozenFacts (lead : ℕ) : Type 0 where
    pub lacks : none_missing missing ≡ false
    pub sure : is_in_doubt shared who missing ≡ false
    pub frozen : frozen_lead shared who missing ≡ Some lead

  pub record PendingFacts (blockers : List ℕ) : Type 0 where
    pub lacks : none_missing missing ≡ false
    pub sure : is_in_doubt shared who missing ≡ false
    pub thawed : frozen_lead shared who missing ≡ None
    pub are : blockers ≡ blockers_of shared who given missing
    pub some : is_empty (blockers_of shared who given missing) ≡ false

  pub record FullFacts (entries : ℕ) : Type 0 where
    pub count : entries ≡ entry_count shared.trail
    pub small : room < length missing + calls

  abbrev pub Facts : Reply → Type 0
  Facts reply.InDoubt = InDoubtFacts
  Facts (reply.Frozen lead) = FrozenFacts lead
  Facts (reply.Pending blockers) = PendingFacts blockers
  Facts (reply.TrailFull entries) = FullFacts entries
  Facts other = ⊥

  abbrev pub IfFacts : Option Reply → Type 0
  IfFacts None = Unit {0}
  IfFacts (Some one) = Facts one

  or_facts : (first second : Option Reply) → IfFacts first → (first ≡ None → IfFacts second) → IfFacts (option_or first second)
  or_facts None second one other = other refl
  or_facts (Some one) second is other = is

  pending_facts : none_missing missing ≡ false → is_in_doubt shared who missing ≡ false → frozen_lead shared who missing ≡ None → IfFacts (refused_pending shared who given missing)
  pending_facts lacks sure thawed = by_empty (is_empty (blockers_of shared who given missing)) refl
    where
      by_empty : (none : Bool) → is_empty (blockers_of shared who given missing) ≡ none
          → IfFacts (cond none None (Some (reply.Pending (blockers_of shared who given missing))))
      by_empty true e = tt
      by_empty false e = record { lacks = lacks; sure = sure; thawed = thawed; are = refl; some = e }

  frozen_facts : none_missing missing ≡ false → is_in_doubt shared who missing ≡ false → (lead : Option ℕ) → frozen_lead shared who missing ≡ lead
      → IfFacts (option_or (option_map reply.Frozen lead) (refused_pending shared who given missing))
  frozen_facts lacks sure None e = pending_facts lacks sure e
  frozen_facts lacks sure (Some lead) e = record { lacks = lacks; sure = sure; frozen = e }

  doubt_facts : none_missing missing ≡ false → (doubt : Bool) → is_in_doubt shared who missing ≡ doubt
      → IfFacts (option_or (cond doubt (Some reply.InDoubt) None) (option_or (refused_frozen shared who missing) (refused_pending shared who given missing)))
  doubt_facts lacks true e = record { lacks = lacks; doubt = e }
  doubt_facts lacks false e = frozen_facts lacks e (frozen_lead shared who missing) refl

  missing_facts : (none : Bool) → none_missing missing ≡ none
      → IfFacts (cond none None (option_or (refused_in_doubt shared who missing) (option_or (refused_frozen shared who missing) (refused_pending shared who given missing))))
  missing_facts true e = tt
  missing_facts false e = doubt_facts e (is_in_doubt shared who missing) refl

  full_facts : (small : Bool) → nat_lt room (length missing + calls) ≡ small → IfFacts (cond small (Some (reply.TrailFull (entry_count shared.trail))) None)
  full_facts true e = record { count = refl; small = ltb-true room (length missing + calls) e }
  full_facts false e = tt

pub refusal_facts : (both : Both) (given : List ℕ) (missing : List Want) (calls : ℕ)
    → IfFacts both.shared both.own.who both.own.cap given missing calls
    (option_or (refused_missing both.shared both.own.who given missing) (refused_full both missing calls))
refusal_facts both given missing calls =
    or_facts both.shared both.own.who both.own.cap given missing calls (refused_missing both.shared both.own.who given missing) (refused_full both missing calls)
    (missing_facts both.shared both.own.who both.own.cap given missing calls (none_missing missing) refl)
    (λ none. full_facts both.shared both.own.who both.own.cap given missing calls (nat_lt both.own.cap (length missing + calls)) refl)

-- the first of what is made of the elements
first_made : {X Y : Type 0} (f : X → Option Y) (xs : List X) (y : Y) → slice_get (filter_map f xs) 0 ≡ Some y → (x : X) × Contains xs x × (f x ≡ Some y)
first_made f [] y is = absurd (true≢false (sym (ap is_some is)))
first_made {X} {Y} f (x ∷ xs) y is = by_made (f x) refl (λ rest. first_made f xs y rest) is
  where
    by_made : (made : Option Y) → f x ≡ made → (slice_get (filter_map f xs) 0 ≡ Some y → (z : X) × Contains xs z × (f z ≡ Some y))
        → slice_get (cons_option made (filter_map f xs)) 0 ≡ Some y → (z : X) × Contains (x ∷ xs) z × (f z ≡ Some y)
    by_made None e rest found = let later = rest found in (later.0, contains_there x xs later.0 later.1, later.2)
    by_made (Some z) e rest found = (x, contains_here x xs, e ∙ found)

some_made : {X Y : Type 0} (f : X → Option Y) (xs : List X) (x : X) → Contains xs x → is_some (f x) ≡ true → is_some (slice_get (filter_map f xs) 0) ≡ true
some_made f [] x inside some = absurd (nothing_in x inside)
some_made {X} {Y} f (first ∷ xs) x inside some = by_made (f first) refl (contains_cases first xs x inside) (λ later. some_made f xs x later some)
  where
    by_made : (made : Option Y) → f first ≡ made → (first ≡ x) ⊎ Contains xs x → (Contains xs x → is_some (slice_get (filter_map f xs) 0) ≡ true)
        → is_some (slice_get (cons_option made (filter_map f xs)) 0) ≡ true
    by_made (Some z) e where_it rest = refl
    by_made None e (inl same) rest = absurd (true≢false (sym some ∙ ap (λ one. is_some (f one)) (sym same) ∙ ap is_some e))
    by_made None e (inr later) rest = rest later

-- what the causes say of what is shared, and back
module _ (shared : Shared) (who : ℕ) (missing : List Want) where
  abbrev pub TouchesIn : Stabilisation → Type 0
  TouchesIn one = (is_member shared who one ≡ true) ⊎ ((want : Want) × Contains missing want × (is_modified_in shared want.page one ≡ true))

  pub doubt_touches : is_in_doubt shared who missing ≡ true → (one : Stabilisation) × Contains shared.stabilisations one × (is_doubtful one.phase ≡ true) × TouchesIn one
  doubt_touches doubt =
      let found = any_found (λ (one : Stabilisation). is_doubtful one.phase && (is_member shared who one || list_any (λ want. is_modified_in shared want.page one) missing)) shared.stabilisations doubt in
      let parts = and_parts (is_doubtful found.0.phase) (is_member shared who found.0 || list_any (λ want. is_modified_in shared want.page found.0) missing) found.2 in (
        found.0,
        found.1,
        parts.0,
        ⊎_elim (λ member. inl member) (λ pages. inr (any_found (λ (want : Want). is_modified_in shared want.page found.0) missing pages))
            (or_cases (is_member shared who found.0) (list_any (λ want. is_modified_in shared want.page found.0) missing) parts.1),
      )

  pub touched_in_doubt : (one : Stabilisation) → Contains shared.stabilisations one → is_doubtful one.phase ≡ true → TouchesIn one → is_in_doubt shared who missing ≡ true
  touched_in_doubt one inside doubtful touches =
      any_of (λ (x : Stabilisation). is_doubtful x.phase && (is_member shared who x || list_any (λ want. is_modified_in shared want.page x) missing)) shared.stabilisations one inside
      (and_from (is_doubtful one.phase) (is_member shared who one || list_any (λ want. is_modified_in shared want.page one) missing) doubtful
      (⊎_elim (λ member. or_left (is_member shared who one) (list_any (λ want. is_modified_in shared want.page one) missing) member)
      (λ (page : (want : Want) × Contains missing want × (is_modified_in shared want.page one ≡ true)).
      or_right (is_member shared who one) (list_any (λ want. is_modified_in shared want.page one) missing)
      (any_of (λ (want : Want). is_modified_in shared want.page one) missing page.0 page.1 page.2)) touches))

  in_frozen : (one : Stabilisation) → Contains (frozen_of shared) one → Contains shared.stabilisations one × (is_doubtful one.phase ≡ false)
  in_frozen one inside =
      let found = contains_filter (λ (x : Stabilisation). not (is_doubtful x.phase)) shared.stabilisations one inside in (found.0, not-true (is_doubtful one.phase) found.1)

  pub frozen_touches : (lead : ℕ) → frozen_lead shared who missing ≡ Some lead
      → (one : Stabilisation) × Contains shared.stabilisations one × ((is_doubtful one.phase ≡ false) × (one.lead ≡ lead)) × TouchesIn one
  frozen_touches lead = by_member (find (is_member shared who) (frozen_of shared)) refl
    where
      pages : Option Stabilisation
      pages = slice_get (filter_map (λ want. find (is_modified_in shared want.page) (frozen_of shared)) missing) 0

      by_page : (found : Option Stabilisation) → slice_get (filter_map (λ (want : Want). find (is_modified_in shared want.page) (frozen_of shared)) missing) 0 ≡ found
          → option_map (λ (one : Stabilisation). one.lead) found ≡ Some lead
          → (one : Stabilisation) × Contains shared.stabilisations one × ((is_doubtful one.phase ≡ false) × (one.lead ≡ lead)) × TouchesIn one
      by_page None e none = absurd (true≢false (sym (ap is_some none)))
      by_page (Some one) e some =
          let page = first_made (λ (want : Want). find (is_modified_in shared want.page) (frozen_of shared)) missing one e in
          let found = find_found (is_modified_in shared page.0.page) (frozen_of shared) one page.2 in
          let frozen = in_frozen one found.0 in
          (one, frozen.0, (frozen.1, ap (λ (x : Option ℕ). unwrap_or x lead) some), inr (page.0, page.1, found.1))

      by_member : (found : Option Stabilisation) → find (is_member shared who) (frozen_of shared) ≡ found
          → option_map (λ (one : Stabilisation). one.lead)
          (option_or found (slice_get (filter_map (λ (want : Want). find (is_modified_in shared want.page) (frozen_of shared)) missing) 0)) ≡ Some lead
          → (one : Stabilisation) × Contains shared.stabilisations one × ((is_doubtful one.phase ≡ false) × (one.lead ≡ lead)) × TouchesIn one
      by_member None e some = by_page (slice_get (filter_map (λ (want : Want). find (is_modified_in shared want.page) (frozen_of shared)) missing) 0) refl some
      by_member (Some one) e some =
          let found = find_found (is_member shared who) (frozen_of shared) one e in
          let frozen = in_frozen one found.0 in
          (one, frozen.0, (frozen.1, ap (λ (x : Option ℕ). unwrap_or x lead) some), inl found.1)

  pub touched_is_frozen : (one : Stabilisation) → Contains shared.stabilisations one → is_doubtful one.phase ≡ false → TouchesIn one → is_some (frozen_lead shared who missing) ≡ true
  touched_is_frozen one inside sure touches =
      mapped (option_or (find (is_member shared who) (frozen_of shared)) (slice_get (filter_map (λ (want : Want). find (is_modified_in shared want.page) (frozen_of shared)) missing) 0))
      (⊎_elim
      (λ member. some_first (find (is_member shared who) (frozen_of shared)) _ (find_some (is_member shared who) (frozen_of shared) one frozen member))
      (λ (page : (want : Want) × Contains missing want × (is_modified_in shared want.page one ≡ true)).
      some_second (find (is_member shared who) (frozen_of shared)) _
      (some_made (λ (want : Want). find (is_modified_in shared want.page) (frozen_of shared)) missing page.0 page.1
      (find_some (is_modified_in shared page.0.page) (frozen_of shared) one frozen page.2))) touches)
    where
      frozen : Contains (frozen_of shared) one
      frozen = contains_filtered (λ (x : Stabilisation). not (is_doubtful x.phase)) shared.stabilisations one inside (ap not sure)

      mapped : (found : Option Stabilisation) → is_some found ≡ true → is_some (option_map (λ (x : Stabilisation). x.lead) found) ≡ true
      mapped None none = none
      mapped (Some x) some = refl

      some_first : (first second : Option Stabilisation) → is_some first ≡ true → is_some (option_or first second) ≡ true
      some_first None second none = absurd (true≢false (sym none))
      some_first (Some x) second some = refl

      some_second : (first second : Option Stabilisation) → is_some second ≡ true → is_some (option_or first second) ≡ true
      some_second None second some = some
      some_second (Some x) second some = refl

  pub blocker_blocks : (given : List ℕ) (other : ℕ) → has_member other (blockers_of shared who given missing) ≡ true
      → (want : Want) × Contains missing want × (blocks shared who given want other ≡ true)
  blocker_blocks given other found =
      let client = client_from_member (blockers_of shared who given missing) other (IsCrew_crew_of (λ one. list_any (λ want. blocks shared who given want one) missing)) found in
      any_found (λ (want : Want). blocks shared who given want other) missing
      (sym (has_member_crew_of (λ one. list_any (λ want. blocks shared who given want one) missing) other client) ∙ found)

  pub block_is_named : (given : List ℕ) (other : ℕ) (want : Want) → IsClient other → Contains missing want → blocks shared who given want other ≡ true
      → has_member other (blockers_of shared who given missing) ≡ true
  block_is_named given other want client inside found =
      has_member_crew_of (λ one. list_any (λ want. blocks shared who given want one) missing) other client
      ∙ any_of (λ (one : Want). blocks shared who given one other) missing want inside found

-- what its asks change is nothing that stands in the way of the client itself
pub blocks_alike : (both : Both) (asks : List Want) (given : List ℕ) (want : Want) (other : ℕ)
    → blocks (with_asks asks both).shared both.own.who given want other ≡ blocks both.shared both.own.who given want other
blocks_alike both asks given want other = by_same (other == both.own.who) refl
  where
    after : Shared
    after = (with_asks asks both).shared

    apart : (other == both.own.who) ≡ false → client_at (with_asks asks both).shared other ≡ client_at both.shared other
    apart differ = client_unchanged both.own.who (λ client. record client { asks = asks }) both.shared other (λ same. true≢false (sym (eq-eqb other both.own.who same) ∙ differ))

    by_same : (same : Bool) → (other == both.own.who) ≡ same
        → blocks (with_asks asks both).shared both.own.who given want other ≡ blocks both.shared both.own.who given want other
    by_same true e =
        ap (λ same.
        (not same && list_any (λ held. is_of want.page held && (is_to_write want.right || is_to_write held.right)) (rights_at (with_asks asks both).shared other))
        || (has_member want.page given && (not same && list_any (λ ask. is_of want.page ask && any_right ask.right) (asks_at (with_asks asks both).shared other)))) e
        ∙ sym (ap (λ same.
        (not same && list_any (λ held. is_of want.page held && (is_to_write want.right || is_to_write held.right)) (rights_at both.shared other))
        || (has_member want.page given && (not same && list_any (λ ask. is_of want.page ask && any_right ask.right) (asks_at both.shared other)))) e)
    by_same false e =
        ap (λ (place : Option Client).
        (not (other == both.own.who)
        && list_any (λ held. is_of want.page held && (is_to_write want.right || is_to_write held.right)) (of_client [] (λ client. client.rights) place))
        || (has_member want.page given
        && (not (other == both.own.who) && list_any (λ ask. is_of want.page ask && any_right ask.right) (of_client [] (λ client. client.asks) place)))) (apart e)

-- which answer it is
abbrev pub kind : Answer → ℕ
kind answer.InDoubt = 1
kind (answer.Frozen lead) = 2
kind (answer.Pending blockers) = 3
kind (answer.TrailFull entries) = 4
kind answer.Disk = 5
kind answer.Granted = 6
kind (answer.RolledBack mark recorded unrecorded) = 7
kind other = 0

abbrev number_in : Answer → ℕ
number_in (answer.Frozen lead) = lead
number_in (answer.TrailFull entries) = entries
number_in other = 0

abbrev list_in : Answer → List ℕ
list_in (answer.Pending blockers) = blockers
list_in other = []

pub differ : {T : Type 0} (one other : ℕ) → (one == other) ≡ false → one ≡ other → T
differ one other apart same = absurd (true≢false (sym (eq-eqb one other same) ∙ apart))

module _ (state : State) (known : IsOrderly state) (who : ℕ) (wants : List Want) (calls : ℕ) (outside : Outside) (client : IsClient who) where
  abbrev own : Own
  own = own_at state who

  abbrev both : Both
  both = opened state.shared (own_at state who)

  abbrev given : List ℕ
  given = given_in_opening state.shared (own_at state who)

  abbrev missing : List Want
  missing = missing_once_opened state.shared (own_at state who) wants

  pub opened_is : (opened state.shared (own_at state who)).own.who ≡ who
  opened_is = who_opened state.shared (own_at state who) ∙ known.history.order.shaped.numbers who

  -- the turn of a refused acquire
  abbrev pub refused_turn : Reply → Turn
  refused_turn one = record {
    answer = of_reply one;
    state = after_turn state (answered (opened state.shared (own_at state who)) (given_in_opening state.shared (own_at state who)) wants
        (missing_once_opened state.shared (own_at state who) wants) (Some one));
  }

  -- a refusal has its facts
  pub by_acquire : (P : Turn → Type 0) → (is_load_failed outside ≡ true → P (record { answer = answer.Disk; state = state }))
      → ((fallen : Fallen) (after : State) → P (record { answer = answer.RolledBack fallen.mark fallen.dropped (length (own_at state who).pending); state = after }))
      → ((after : State) → P (record { answer = answer.Granted; state = after }))
      → ((one : Reply) → Facts (opened state.shared (own_at state who)).shared (opened state.shared (own_at state who)).own.who (opened state.shared (own_at state who)).own.cap
      (given_in_opening state.shared (own_at state who)) (missing_once_opened state.shared (own_at state who) wants) calls one → P (refused_turn one))
      → P (acquire_step state who wants calls outside)
  by_acquire P disk rolled granted refused = by_failed _ refl
    where
      by_refusal : (refusal : Option Reply)
          → IfFacts (opened state.shared (own_at state who)).shared (opened state.shared (own_at state who)).own.who (opened state.shared (own_at state who)).own.cap
          (given_in_opening state.shared (own_at state who)) (missing_once_opened state.shared (own_at state who) wants) calls refusal
          → P (record {
            answer = of_reply (answered (opened state.shared (own_at state who)) (given_in_opening state.shared (own_at state who)) wants
                (missing_once_opened state.shared (own_at state who) wants) refusal).reply;
            state = after_turn state (answered (opened state.shared (own_at state who)) (given_in_opening state.shared (own_at state who)) wants
                (missing_once_opened state.shared (own_at state who) wants) refusal);
          })
      by_refusal None facts = granted _
      by_refusal (Some one) facts = refused one facts

      by_fallen : (fallen : Option Fallen)
          → P (record {
            answer = of_reply (acquired_by state.shared (own_at state who) wants calls fallen).reply;
            state = after_turn state (acquired_by state.shared (own_at state who) wants calls fallen);
          })
      by_fallen (Some fallen) = rolled fallen _
      by_fallen None = by_refusal _ (refusal_facts (opened state.shared (own_at state who)) (given_in_opening state.shared (own_at state who)) (missing_once_opened state.shared (own_at state who) wants) calls)

      by_failed : (failed : Bool) → (is_load_failed outside && (is_granted (of_reply (acquire state.shared (own_at state who) wants calls).reply) && not (none_missing (missing_once_opened state.shared (own_at state who) wants)))) ≡ failed
          → P (unless_load_failed state failed
          (record { answer = of_reply (acquire state.shared (own_at state who) wants calls).reply; state = after_turn state (acquire state.shared (own_at state who) wants calls) }))
      by_failed true e = disk (and_parts (is_load_failed outside) _ e).0
      by_failed false e = by_fallen (fallen_at state.shared (own_at state who).who)

  -- what is lacked after a refusal is what was missing
  pub lacked : (one : Reply) → lacking (refused_turn one).state who wants ≡ missing_once_opened state.shared (own_at state who) wants
  lacked one =
      ap (λ (x : Own). missing_of x.held wants)
      (own_here state (opened state.shared (own_at state who)).own who opened_is
      (in_owns state who (opened state.shared (own_at state who)).own known.history.order client (who_opened state.shared (own_at state who))))

  cap_there : (one : Reply) → (own_at (refused_turn one).state who).cap ≡ (opened state.shared (own_at state who)).own.cap
  cap_there one =
      ap (λ (x : Own). x.cap)
      (own_here state (opened state.shared (own_at state who)).own who opened_is
      (in_owns state who (opened state.shared (own_at state who)).own known.history.order client (who_opened state.shared (own_at state who))))

  -- who is touched after a refusal, in terms of the opened part
  touched_there : (one : Reply) (x : Stabilisation)
      → TouchesIn (opened state.shared (own_at state who)).shared (opened state.shared (own_at state who)).own.who (missing_once_opened state.shared (own_at state who) wants) x
      → Touches (refused_turn one).state who wants x
  touched_there one x touches =
      subst (λ number. (is_member (opened state.shared (own_at state who)).shared number x ≡ true)
      ⊎ ((want : Want) × Contains (lacking (refused_turn one).state who wants) want × (is_modified_in (opened state.shared (own_at state who)).shared want.page x ≡ true))) opened_is
      (subst (λ list. (is_member (opened state.shared (own_at state who)).shared (opened state.shared (own_at state who)).own.who x ≡ true)
      ⊎ ((want : Want) × Contains list want × (is_modified_in (opened state.shared (own_at state who)).shared want.page x ≡ true))) (sym (lacked one)) touches)

  touched_back : (one : Reply) (x : Stabilisation) → Touches (refused_turn one).state who wants x
      → TouchesIn (opened state.shared (own_at state who)).shared (opened state.shared (own_at state who)).own.who (missing_once_opened state.shared (own_at state who) wants) x
  touched_back one x touches =
      subst (λ list. (is_member (opened state.shared (own_at state who)).shared (opened state.shared (own_at state who)).own.who x ≡ true)
      ⊎ ((want : Want) × Contains list want × (is_modified_in (opened state.shared (own_at state who)).shared want.page x ≡ true))) (lacked one)
      (subst (λ number. (is_member (opened state.shared (own_at state who)).shared number x ≡ true)
      ⊎ ((want : Want) × Contains (lacking (refused_turn one).state who wants) want × (is_modified_in (opened state.shared (own_at state who)).shared want.page x ≡ true))) (sym opened_is) touches)

  some_lacked : (list : List Want) → none_missing list ≡ false → list ≢ []
  some_lacked list some none = true≢false (ap none_missing (sym none) ∙ some)

  no_doubt_there : (one : Reply) → is_in_doubt (opened state.shared (own_at state who)).shared (opened state.shared (own_at state who)).own.who (missing_once_opened state.shared (own_at state who) wants) ≡ false
      → IsTouchedByOne IsInDoubt (refused_turn one).state who wants → ⊥
  no_doubt_there one sure touched =
      true≢false
      (sym (touched_in_doubt (opened state.shared (own_at state who)).shared (opened state.shared (own_at state who)).own.who (missing_once_opened state.shared (own_at state who) wants) touched.0 touched.1
      touched.2 (touched_back one touched.0 touched.3)) ∙ sure)

-- what a pending acquire means
abbrev IsPendingBy : State → State → ℕ → List Want → List ℕ → Type 0
IsPendingBy before after who wants blockers =
    (IsTouchedByOne IsInDoubt after who wants → ⊥) × ((lead : ℕ) → IsTouchedByOne (IsFrozenBy lead) after who wants → ⊥) × (blockers ≢ [])
    × ((other : ℕ) → has_member other blockers ≡ true → StandsInTheWay before after who wants other)
    × ((other : ℕ) → IsClient other → StandsInTheWay before after who wants other → has_member other blockers ≡ true)

module _ (state : State) (known : IsOrderly state) where
  pub in_doubt_cause : InDoubtHasItsCause state
  in_doubt_cause who wants calls outside client live =
      by_acquire state known who wants calls outside client
      (λ turn. turn.answer ≡ answer.InDoubt → (lacking turn.state who wants ≢ []) × IsTouchedByOne IsInDoubt turn.state who wants) (λ failed is. differ 5 1 refl (ap kind is))
      (λ fallen after is. differ 7 1 refl (ap kind is)) (λ after is. differ 6 1 refl (ap kind is)) by_reply
    where
      by_reply : (one : Reply) → Facts (opened state.shared (own_at state who)).shared (opened state.shared (own_at state who)).own.who (opened state.shared (own_at state who)).own.cap (given_in_opening state.shared (own_at state who)) (missing_once_opened state.shared (own_at state who) wants) calls one
          → of_reply one ≡ answer.InDoubt
          → (lacking (refused_turn state known who wants calls outside client one).state who wants ≢ [])
          × IsTouchedByOne IsInDoubt (refused_turn state known who wants calls outside client one).state who wants
      by_reply reply.InDoubt facts is =
          let found = doubt_touches (opened state.shared (own_at state who)).shared (opened state.shared (own_at state who)).own.who (missing_once_opened state.shared (own_at state who) wants) facts.doubt in (
            λ none. some_lacked state known who wants calls outside client (missing_once_opened state.shared (own_at state who) wants) facts.lacks
                (sym (lacked state known who wants calls outside client reply.InDoubt) ∙ none),
            (found.0, found.1, found.2, touched_there state known who wants calls outside client reply.InDoubt found.0 found.3),
          )
      by_reply (reply.Frozen lead) facts is = differ 2 1 refl (ap kind is)
      by_reply (reply.Pending blockers) facts is = differ 3 1 refl (ap kind is)
      by_reply (reply.TrailFull entries) facts is = differ 4 1 refl (ap kind is)
      by_reply reply.Granted facts is = absurd facts
      by_reply (reply.RolledBack mark recorded unrecorded) facts is = absurd facts
      by_reply (reply.Load page marks) facts is = absurd facts

  pub frozen_cause : FrozenHasItsCause state
  frozen_cause who lead wants calls outside client live =
      by_acquire state known who wants calls outside client
      (λ turn. turn.answer ≡ answer.Frozen lead → (IsTouchedByOne IsInDoubt turn.state who wants → ⊥) × IsTouchedByOne (IsFrozenBy lead) turn.state who wants)
      (λ failed is. differ 5 2 refl (ap kind is)) (λ fallen after is. differ 7 2 refl (ap kind is)) (λ after is. differ 6 2 refl (ap kind is)) by_reply
    where
      by_reply : (one : Reply) → Facts (opened state.shared (own_at state who)).shared (opened state.shared (own_at state who)).own.who (opened state.shared (own_at state who)).own.cap (given_in_opening state.shared (own_at state who)) (missing_once_opened state.shared (own_at state who) wants) calls one
          → of_reply one ≡ answer.Frozen lead
          → (IsTouchedByOne IsInDoubt (refused_turn state known who wants calls outside client one).state who wants → ⊥)
          × IsTouchedByOne (IsFrozenBy lead) (refused_turn state known who wants calls outside client one).state who wants
      by_reply (reply.Frozen other) facts is =
          let found = frozen_touches (opened state.shared (own_at state who)).shared (opened state.shared (own_at state who)).own.who (missing_once_opened state.shared (own_at state who) wants) other facts.frozen in (
            no_doubt_there state known who wants calls outside client (reply.Frozen other) facts.sure,
            (found.0, found.1, (found.2.0, found.2.1 ∙ ap number_in is), touched_there state known who wants calls outside client (reply.Frozen other) found.0 found.3),
          )
      by_reply reply.InDoubt facts is = differ 1 2 refl (ap kind is)
      by_reply (reply.Pending blockers) facts is = differ 3 2 refl (ap kind is)
      by_reply (reply.TrailFull entries) facts is = differ 4 2 refl (ap kind is)
      by_reply reply.Granted facts is = absurd facts
      by_reply (reply.RolledBack mark recorded unrecorded) facts is = absurd facts
      by_reply (reply.Load page marks) facts is = absurd facts

  pub pending_cause : PendingHasItsCause state
  pending_cause who blockers wants calls outside client live =
      by_acquire state known who wants calls outside client (λ turn. turn.answer ≡ answer.Pending blockers → IsPendingBy state turn.state who wants blockers)
      (λ failed is. differ 5 3 refl (ap kind is)) (λ fallen after is. differ 7 3 refl (ap kind is)) (λ after is. differ 6 3 refl (ap kind is)) by_reply
    where
      by_reply : (one : Reply) → Facts (opened state.shared (own_at state who)).shared (opened state.shared (own_at state who)).own.who (opened state.shared (own_at state who)).own.cap (given_in_opening state.shared (own_at state who)) (missing_once_opened state.shared (own_at state who) wants) calls one
          → of_reply one ≡ answer.Pending blockers → IsPendingBy state (refused_turn state known who wants calls outside client one).state who wants blockers
      by_reply (reply.Pending others) facts is =
          let both = opened state.shared (own_at state who) in
          let given = given_in_opening state.shared (own_at state who) in
          let missing = missing_once_opened state.shared (own_at state who) wants in
          let named : blockers ≡ blockers_of both.shared both.own.who given missing = sym (ap list_in is) ∙ facts.are in
          let here = opened_is state known who wants calls outside client in (
            no_doubt_there state known who wants calls outside client (reply.Pending others) facts.sure,
            (λ lead touched.
                true≢false
                (sym (touched_is_frozen both.shared both.own.who missing touched.0 touched.1 touched.2.0 (touched_back state known who wants calls outside client (reply.Pending others) touched.0 touched.3))
                ∙ ap is_some facts.thawed)),
            (λ none. true≢false (sym (ap is_empty (sym named ∙ none)) ∙ facts.some)),
            (λ other found.
                let block = blocker_blocks both.shared both.own.who missing given other (ap (has_member other) (sym named) ∙ found) in (
                  block.0,
                  subst (λ list. Contains list block.0) (sym (lacked state known who wants calls outside client (reply.Pending others))) block.1,
                  subst (λ number. blocks (with_asks (blocked_of both.shared both.own.who given missing) both).shared number given block.0 other ≡ true) here
                      (blocks_alike both (blocked_of both.shared both.own.who given missing) given block.0 other ∙ block.2),
                )),
            (λ other is_client stands.
                ap (has_member other) named
                ∙ block_is_named both.shared both.own.who missing given other stands.0 is_client
                (subst (λ list. Contains list stands.0) (lacked state known who wants calls outside client (reply.Pending others)) stands.1)
                (sym (blocks_alike both (blocked_of both.shared both.own.who given missing) given stands.0 other)
                ∙ subst (λ number. blocks (with_asks (blocked_of both.shared both.own.who given missing) both).shared number given stands.0 other ≡ true) (sym here) stands.2)),
          )
      by_reply reply.InDoubt facts is = differ 1 3 refl (ap kind is)
      by_reply (reply.Frozen lead) facts is = differ 2 3 refl (ap kind is)
      by_reply (reply.TrailFull entries) facts is = differ 4 3 refl (ap kind is)
      by_reply reply.Granted facts is = absurd facts
      by_reply (reply.RolledBack mark recorded unrecorded) facts is = absurd facts
      by_reply (reply.Load page marks) facts is = absurd facts

  pub full_cause : TrailFullHasItsCause state
  full_cause who entries wants calls outside client live =
      by_acquire state known who wants calls outside client
      (λ turn. turn.answer ≡ answer.TrailFull entries → (entries ≡ entry_count turn.state.shared.trail) × ((own_at turn.state who).cap < length (lacking turn.state who wants) + calls))
      (λ failed is. differ 5 4 refl (ap kind is)) (λ fallen after is. differ 7 4 refl (ap kind is)) (λ after is. differ 6 4 refl (ap kind is)) by_reply
    where
      by_reply : (one : Reply) → Facts (opened state.shared (own_at state who)).shared (opened state.shared (own_at state who)).own.who (opened state.shared (own_at state who)).own.cap (given_in_opening state.shared (own_at state who)) (missing_once_opened state.shared (own_at state who) wants) calls one
          → of_reply one ≡ answer.TrailFull entries
          → (entries ≡ entry_count (refused_turn state known who wants calls outside client one).state.shared.trail)
          × ((own_at (refused_turn state known who wants calls outside client one).state who).cap
          < length (lacking (refused_turn state known who wants calls outside client one).state who wants) + calls)
      by_reply (reply.TrailFull count) facts is = (
        sym (ap number_in is) ∙ facts.count,
        subst (λ list. (own_at (refused_turn state known who wants calls outside client (reply.TrailFull count)).state who).cap < length list + calls)
            (sym (lacked state known who wants calls outside client (reply.TrailFull count)))
            (subst (λ cap_now. cap_now < length (missing_once_opened state.shared (own_at state who) wants) + calls) (sym (cap_there state known who wants calls outside client (reply.TrailFull count)))
            facts.small),
      )
      by_reply reply.InDoubt facts is = differ 1 4 refl (ap kind is)
      by_reply (reply.Frozen lead) facts is = differ 2 4 refl (ap kind is)
      by_reply (reply.Pending blockers) facts is = differ 3 4 refl (ap kind is)
      by_reply reply.Granted facts is = absurd facts
      by_reply (reply.RolledBack mark recorded unrecorded) facts is = absurd facts
      by_reply (reply.Load page marks) facts is = absurd facts

  pub disk_cause : DiskHasItsCause state
  disk_cause who wants calls outside client live =
      by_acquire state known who wants calls outside client (λ turn. turn.answer ≡ answer.Disk → is_load_failed outside ≡ true) (λ failed is. failed)
      (λ fallen after is. differ 7 5 refl (ap kind is)) (λ after is. differ 6 5 refl (ap kind is)) by_reply
    where
      by_reply : (one : Reply) → Facts (opened state.shared (own_at state who)).shared (opened state.shared (own_at state who)).own.who (opened state.shared (own_at state who)).own.cap (given_in_opening state.shared (own_at state who)) (missing_once_opened state.shared (own_at state who) wants) calls one → of_reply one ≡ answer.Disk → is_load_failed outside ≡ true
      by_reply reply.InDoubt facts is = differ 1 5 refl (ap kind is)
      by_reply (reply.Frozen lead) facts is = differ 2 5 refl (ap kind is)
      by_reply (reply.Pending blockers) facts is = differ 3 5 refl (ap kind is)
      by_reply (reply.TrailFull entries) facts is = differ 4 5 refl (ap kind is)
      by_reply reply.Granted facts is = absurd facts
      by_reply (reply.RolledBack mark recorded unrecorded) facts is = absurd facts
      by_reply (reply.Load page marks) facts is = absurd facts

  pub granted_else : GrantedWhereNothingHinders state
  granted_else who wants calls outside client live =
      by_acquire state known who wants calls outside client (λ turn. is_cause turn.answer ≡ false → turn.answer ≡ answer.Granted) (λ failed none. absurd (true≢false none))
      (λ fallen after none. absurd (true≢false none)) (λ after none. refl) by_reply
    where
      by_reply : (one : Reply) → Facts (opened state.shared (own_at state who)).shared (opened state.shared (own_at state who)).own.who (opened state.shared (own_at state who)).own.cap (given_in_opening state.shared (own_at state who)) (missing_once_opened state.shared (own_at state who) wants) calls one → is_cause (of_reply one) ≡ false → of_reply one ≡ answer.Granted
      by_reply reply.InDoubt facts none = absurd (true≢false none)
      by_reply (reply.Frozen lead) facts none = absurd (true≢false none)
      by_reply (reply.Pending blockers) facts none = absurd (true≢false none)
      by_reply (reply.TrailFull entries) facts none = absurd (true≢false none)
      by_reply reply.Granted facts none = absurd facts
      by_reply (reply.RolledBack mark recorded unrecorded) facts none = absurd facts
      by_reply (reply.Load page marks) facts none = absurd facts
