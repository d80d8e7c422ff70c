use Rattle.std.proofs.Common.{◌≡◌, ℕ, List, [], ◌∷◌, ◌++◌, Bool, true, false, cond, not, ◌&&◌, ◌||◌, ◌==◌, map, filter, Contains, refl, sym, ap, ap₂, ◌∙◌, ⊎_elim, true≢false, eqb-true, ◌≢◌, ◌≤◌, eqb, length, arith, ne_eqb, subst}
use Rattle.std.specs.Prelude.{Option, None, Some, is_some, option_map, slice_get, find, filter_map}
use Rattle.std.specs.Option.{option_or}
use Rattle.std.specs.List.{list_any, cons_option, AllByRecursion, IsDistinct}
use Rattle.std.proofs.Math.Bool.{or-false}
use Rattle.std.proofs.lemmas.Bool.{cond_both, cases_Bool, and_parts, and_from, or_left, false_from_ne_true}
use Rattle.std.proofs.lemmas.List.{map-id, length-map}
use Rattle.std.proofs.lemmas.List.Folds.{list_any-append}
use Rattle.std.proofs.lemmas.Option.{slice_get-map}
use Rattle.std.proofs.lemmas.Map.Steps.{length-le_from_distinct_below}
use Rattle.casper_words.specs.Crew.{has_member, IsClient}
use Rattle.casper_words.specs.declared.page.Want.{Want}
use Rattle.casper_trail.specs.declared.entry.Entry.{Entry}
use Rattle.casper_trail.specs.Association.{association_of}
use Rattle.casper_trail.specs.Calls.{entries_by}
use Rattle.casper_trail.specs.Modified.{is_modified_by}
use Rattle.casper_trail.specs.Parts.{as_items, open_entries}
use Rattle.casper_trail.specs.Value.{writes_page}
use Rattle.casper_trail.specs.declared.item.Item.{Item}
use Rattle.casper_trail.proofs.LinkLists.{contains_there}
use Rattle.casper_trail.proofs.Parts.{open_of_more_entries}
use Rattle.casper_trail.proofs.Rounds.{association_holds_its_client}
use Rattle.casper_model.specs.declared.reply.Reply.TheVariants.{Frozen, InDoubt}
use Rattle.casper_model.specs.Acquire.{is_in_doubt, refused_in_doubt, frozen_of, frozen_lead, refused_frozen}
use Rattle.casper_model.specs.Frozen.{members_of_stabilisation, is_member, stabilisation_of, is_modified_in}
use Rattle.casper_model.specs.Opening.{begun, given_up, gathering_of, handed_in_to, opened, handed_in}
use Rattle.casper_model.specs.Own.{Own}
use Rattle.casper_model.specs.Shared.{Shared, fallen_at, is_live, client_at}
use Rattle.casper_model.specs.Stabilisation.{Stabilisation, Sealed, Gathering, is_gathering, is_doubtful, is_empty, without, phase_awaiting, handed_in_by}
use Rattle.casper_model.specs.Both.{Both}
use Rattle.casper_model.specs.Client.{Client}
use Rattle.casper_model.specs.Held.{lowered}
use Rattle.casper_model.proofs.Conflicts.{neither}
use Rattle.casper_model.proofs.Entries.{contains_entry}
use Rattle.casper_model.proofs.OpeningRights.{others_agreed, places_agreed}
use Rattle.casper_model.proofs.Places.{client_changed}
use Rattle.casper_turns.specs.Good.{IsGoodShared, IsGoodWith}
use Rattle.casper_turns.specs.Frozen.{leads_of, AreApart}
use Rattle.casper_turns.proofs.FrozenChanges.{one_of_lead}
use Rattle.casper_turns.proofs.Lists.{contains_here, contains_filtered, any_none, none_passes, find_found, find_none, contains_map, any_found}
use Rattle.casper_turns.proofs.OpeningFrozen.{handing_in, gathering_only, gathering_found}
use Rattle.casper_turns.proofs.Recorded.{may_record}
use Rattle.casper_turns.proofs.Touches.{calls_leave}

-- An opening leaves the frozen associations and those in doubt: a want is refused for them after it just as before it.

-- tests that agree on the elements find the same
find_alike : {X : Type 0} (one other : X → Bool) (xs : List X) → ((x : X) → Contains xs x → one x ≡ other x) → find one xs ≡ find other xs
find_alike one other [] alike = refl
find_alike one other (x ∷ xs) alike =
    ap₂ (λ (is : Bool) rest. cond is (Some x) rest) (alike x (contains_here x xs)) (find_alike one other xs (λ y inside. alike y (contains_there x xs y inside)))

-- elements changed, by a test after the change that says what one before it did
find_changed : {X : Type 0} (before after : X → Bool) (change : X → X) (xs : List X) → ((x : X) → Contains xs x → after (change x) ≡ before x)
    → find after (map change xs) ≡ option_map change (find before xs)
find_changed before after change [] same = refl
find_changed before after change (x ∷ xs) same =
    ap₂ (λ (is : Bool) rest. cond is (Some (change x)) rest) (same x (contains_here x xs))
    (find_changed before after change xs (λ y inside. same y (contains_there x xs y inside)))
    ∙ elim (before x) as (λ is. cond is (Some (change x)) (option_map change (find before xs)) ≡ option_map change (cond is (Some x) (find before xs)))
    [ true ↦ refl | false ↦ refl ]

filter_changed : {X : Type 0} (before after : X → Bool) (change : X → X) (xs : List X) → ((x : X) → Contains xs x → after (change x) ≡ before x)
    → filter after (map change xs) ≡ map change (filter before xs)
filter_changed before after change [] same = refl
filter_changed before after change (x ∷ xs) same =
    ap₂ (λ (is : Bool) rest. cond is (change x ∷ rest) rest) (same x (contains_here x xs))
    (filter_changed before after change xs (λ y inside. same y (contains_there x xs y inside)))
    ∙ elim (before x) as (λ is. cond is (change x ∷ map change (filter before xs)) (map change (filter before xs)) ≡ map change (cond is (x ∷ filter before xs) (filter before xs)))
    [ true ↦ refl | false ↦ refl ]

any_changed : {X : Type 0} (before after : X → Bool) (change : X → X) (xs : List X) → ((x : X) → Contains xs x → after (change x) ≡ before x)
    → list_any after (map change xs) ≡ list_any before xs
any_changed before after change [] same = refl
any_changed before after change (x ∷ xs) same =
    ap₂ (λ is rest. is || rest) (same x (contains_here x xs)) (any_changed before after change xs (λ y inside. same y (contains_there x xs y inside)))

any_alike : {X : Type 0} (one other : X → Bool) (xs : List X) → ((x : X) → one x ≡ other x) → list_any one xs ≡ list_any other xs
any_alike one other [] alike = refl
any_alike one other (x ∷ xs) alike = ap₂ (λ is rest. is || rest) (alike x) (any_alike one other xs alike)

-- what is found for each, changed
found_changed : {X Y : Type 0} (before after : X → Option Y) (change : Y → Y) (xs : List X) → ((x : X) → after x ≡ option_map change (before x))
    → filter_map after xs ≡ map change (filter_map before xs)
found_changed before after change [] same = refl
found_changed before after change (x ∷ xs) same =
    ap₂ (λ first rest. cons_option first rest) (same x) (found_changed before after change xs same)
    ∙ elim (before x) as (λ first. cons_option (option_map change first) (map change (filter_map before xs)) ≡ map change (cons_option first (filter_map before xs)))
    [ None ↦ refl | Some y ↦ refl ]

-- entries of one client are added, and the stabilisations change: each keeps its lead and its members, and comes neither into doubt nor out of it
module _ (shared after : Shared) (who : ℕ) (more : List Entry) (change : Stabilisation → Stabilisation) (trail : after.trail ≡ shared.trail ++ as_items more)
    (changed : after.stabilisations ≡ map change shared.stabilisations) (leads : (one : Stabilisation) → (change one).lead ≡ one.lead)
    (doubts : (one : Stabilisation) → Contains shared.stabilisations one → is_doubtful (change one).phase ≡ is_doubtful one.phase)
    (added : (entry : Entry) → Contains more entry → entry.who ≡ who)
    (stay : (lead : ℕ) → association_of after.trail lead ≡ association_of shared.trail lead) where
  members : (one : Stabilisation) → members_of_stabilisation after (change one) ≡ members_of_stabilisation shared one
  members one = ap (association_of after.trail) (leads one) ∙ stay one.lead

  member : (one : Stabilisation) → is_member after who (change one) ≡ is_member shared who one
  member one = ap (has_member who) (members one)

  -- a client that is no member adds no write of a member
  modified : (page : ℕ) (one : Stabilisation) → is_member shared who one ≡ false → is_modified_in after page (change one) ≡ is_modified_in shared page one
  modified page one out =
      let test : Entry → Bool = λ entry. writes_page page entry && has_member entry.who (members_of_stabilisation shared one) in
      let none : list_any test more ≡ false =
      any_none test more
      (λ entry inside passes.
      true≢false
      (sym (and_parts (writes_page page entry) (has_member entry.who (members_of_stabilisation shared one)) passes).1
      ∙ ap (λ number. has_member number (members_of_stabilisation shared one)) (added entry inside) ∙ out)) in
      ap₂ (λ list items. is_modified_by list items page) (members one) trail
      ∙ ap (list_any test) (open_of_more_entries shared.trail more)
      ∙ list_any-append test (open_entries shared.trail) more
      ∙ ap (λ rest. list_any test (open_entries shared.trail) || rest) none
      ∙ or-false (list_any test (open_entries shared.trail))

  touched : (missing : List Want) (one : Stabilisation)
      → (is_member after who (change one) || list_any (λ want. is_modified_in after want.page (change one)) missing)
      ≡ (is_member shared who one || list_any (λ want. is_modified_in shared want.page one) missing)
  touched missing one =
      ⊎_elim
      (λ is.
      ap (λ first. first || list_any (λ want. is_modified_in after want.page (change one)) missing) (member one ∙ is)
      ∙ sym (ap (λ first. first || list_any (λ want. is_modified_in shared want.page one) missing) is))
      (λ out.
      ap₂ (λ first rest. first || rest) (member one)
      (any_alike (λ want. is_modified_in after want.page (change one)) (λ want. is_modified_in shared want.page one) missing (λ want. modified want.page one out)))
      (cases_Bool (is_member shared who one))

  pub doubt_left : (missing : List Want) → is_in_doubt after who missing ≡ is_in_doubt shared who missing
  doubt_left missing =
      ap (list_any (λ one. is_doubtful one.phase && (is_member after who one || list_any (λ want. is_modified_in after want.page one) missing))) changed
      ∙ any_changed (λ one. is_doubtful one.phase && (is_member shared who one || list_any (λ want. is_modified_in shared want.page one) missing))
      (λ one. is_doubtful one.phase && (is_member after who one || list_any (λ want. is_modified_in after want.page one) missing)) change shared.stabilisations
      (λ one inside. ap₂ (λ first rest. first && rest) (doubts one inside) (touched missing one))

  frozen_changed : frozen_of after ≡ map change (frozen_of shared)
  frozen_changed =
      ap (filter (λ (one : Stabilisation). not (is_doubtful one.phase))) changed
      ∙ filter_changed (λ (one : Stabilisation). not (is_doubtful one.phase)) (λ (one : Stabilisation). not (is_doubtful one.phase)) change shared.stabilisations
      (λ one inside. ap not (doubts one inside))

  lead_kept : (one : Option Stabilisation) → option_map (λ (x : Stabilisation). x.lead) (option_map change one) ≡ option_map (λ (x : Stabilisation). x.lead) one
  lead_kept None = refl
  lead_kept (Some one) = ap Some (leads one)

  pub lead_left : (missing : List Want) → frozen_lead after who missing ≡ frozen_lead shared who missing
  lead_left missing =
      ap (λ first. option_map (λ (x : Stabilisation). x.lead) (option_or first later_after))
      (ap (find (is_member after who)) frozen_changed
      ∙ find_changed (is_member shared who) (is_member after who) change (frozen_of shared) (λ one inside. member one))
      ∙ by_member (find (is_member shared who) (frozen_of shared)) refl
    where
      later_before : Option Stabilisation
      later_before = slice_get (filter_map (λ want. find (is_modified_in shared want.page) (frozen_of shared)) missing) 0

      later_after : Option Stabilisation
      later_after = slice_get (filter_map (λ want. find (is_modified_in after want.page) (frozen_of after)) missing) 0

      by_member : (first : Option Stabilisation) → find (is_member shared who) (frozen_of shared) ≡ first
          → option_map (λ (x : Stabilisation). x.lead) (option_or (option_map change first) later_after)
          ≡ option_map (λ (x : Stabilisation). x.lead) (option_or first later_before)
      by_member (Some one) e = ap Some (leads one)
      by_member None e =
          ap (λ list. option_map (λ (x : Stabilisation). x.lead) (slice_get list 0))
          (found_changed (λ want. find (is_modified_in shared want.page) (frozen_of shared)) (λ want. find (is_modified_in after want.page) (frozen_of after)) change missing
          (λ want.
          ap (find (is_modified_in after want.page)) frozen_changed
          ∙ find_changed (is_modified_in shared want.page) (is_modified_in after want.page) change (frozen_of shared)
          (λ one inside.
          modified want.page one (false_from_ne_true (is_member shared who one) (find_none (is_member shared who) (frozen_of shared) e one inside)))))
          ∙ ap (option_map (λ (x : Stabilisation). x.lead))
          (slice_get-map change (filter_map (λ want. find (is_modified_in shared want.page) (frozen_of shared)) missing) 0)
          ∙ lead_kept later_before

-- where nothing frozen stands in the way of a client, it is a member of nothing that is frozen
no_member_of_frozen : (shared : Shared) (who : ℕ) (missing : List Want) → frozen_lead shared who missing ≡ None → (one : Stabilisation)
    → Contains shared.stabilisations one → is_doubtful one.phase ≡ false → is_member shared who one ≡ true → ⊥
no_member_of_frozen shared who missing free one inside certain =
    find_none (is_member shared who) (frozen_of shared) (neither (find (is_member shared who) (frozen_of shared)) _ (unmapped _ free)).0 one
    (contains_filtered (λ (x : Stabilisation). not (is_doubtful x.phase)) shared.stabilisations one inside (ap not certain))
  where
    unmapped : (found : Option Stabilisation) → option_map (λ (x : Stabilisation). x.lead) found ≡ None → found ≡ None
    unmapped None e = refl
    unmapped (Some x) e = absurd (true≢false (ap is_some e))

-- so it hands nothing in
pub unfrozen_gathers_not : (shared : Shared) (who : ℕ) (missing : List Want) → frozen_lead shared who missing ≡ None → gathering_of shared who ≡ None
unfrozen_gathers_not shared who missing free = by_found (gathering_of shared who) refl
  where
    by_found : (one : Option Stabilisation) → gathering_of shared who ≡ one → gathering_of shared who ≡ None
    by_found None e = e
    by_found (Some g) e =
        let found = find_found (λ one. is_gathering one.phase && is_member shared who one) shared.stabilisations g e in
        let parts = and_parts (is_gathering g.phase) (is_member shared who g) found.1 in
        absurd (no_member_of_frozen shared who missing free g found.0 (gathering_only g.phase parts.0).0 parts.1)

-- and where nothing in doubt does, it is a member of no stabilisation
pub unfrozen_is_no_member : (shared : Shared) (who : ℕ) (missing : List Want) → frozen_lead shared who missing ≡ None
    → is_in_doubt shared who missing ≡ false → stabilisation_of shared who ≡ None
unfrozen_is_no_member shared who missing free certain = by_found (stabilisation_of shared who) refl
  where
    by_found : (one : Option Stabilisation) → stabilisation_of shared who ≡ one → stabilisation_of shared who ≡ None
    by_found None e = e
    by_found (Some one) e =
        let found = find_found (is_member shared who) shared.stabilisations one e in
        absurd
        (no_member_of_frozen shared who missing free one found.0
        (false_from_ne_true (is_doubtful one.phase)
        (λ doubtful.
        true≢false
        (sym (and_from (is_doubtful one.phase) (is_member shared who one || list_any (λ want. is_modified_in shared want.page one) missing) doubtful
        (or_left (is_member shared who one) (list_any (λ want. is_modified_in shared want.page one) missing) found.1))
        ∙ none_passes (λ x. is_doubtful x.phase && (is_member shared who x || list_any (λ want. is_modified_in shared want.page x) missing)) shared.stabilisations
        one certain found.0)))
        found.1)

-- a stabilisation that awaits clients or nobody is not in doubt
phase_not_doubtful : (awaited : List ℕ) → is_doubtful (phase_awaiting awaited) ≡ false
phase_not_doubtful awaited = cond_both (is_empty awaited) Sealed Gathering (λ phase. is_doubtful phase ≡ false) (λ is. refl) (λ is. refl)

module _ (shared : Shared) (own : Own) (good : IsGoodShared shared) (mine : IsGoodWith shared own) (live : is_live shared own.who ≡ true)
    (up : fallen_at shared own.who ≡ None) where
  -- recording the pending calls of a client changes no association
  pub members_begun : (lead : ℕ) → association_of (begun shared own).shared.trail lead ≡ association_of shared.trail lead
  members_begun lead = calls_leave shared.trail own mine.client (may_record shared own good mine up) lead

  -- nor who gathers
  pub gathering_begun : gathering_of (given_up (begun shared own)).shared own.who ≡ gathering_of shared own.who
  gathering_begun =
      find_alike (λ one. is_gathering one.phase && is_member (given_up (begun shared own)).shared own.who one)
      (λ one. is_gathering one.phase && is_member shared own.who one) shared.stabilisations
      (λ one inside. ap (λ list. is_gathering one.phase && has_member own.who list) (members_begun one.lead))

  -- the entries that its calls become are its own
  added_by_it : (entry : Entry) → Contains (entries_by own.who own.pending) entry → entry.who ≡ own.who
  added_by_it entry inside = ap (λ (e : Entry). e.who) (sym (contains_entry own.who own.pending entry inside).2)

  -- as it hands in, each stabilisation keeps its lead, and comes neither into doubt nor out of it
  module _ (g : Stabilisation) (found : gathering_of shared own.who ≡ Some g) where
    leads_handing : (one : Stabilisation) → (handing_in g.lead own.who one).lead ≡ one.lead
    leads_handing one = cond_both (one.lead == g.lead) (handed_in_by own.who one) one (λ (x : Stabilisation). x.lead ≡ one.lead) (λ yes. refl) (λ no. refl)

    doubts_handing : (one : Stabilisation) → Contains shared.stabilisations one → is_doubtful (handing_in g.lead own.who one).phase ≡ is_doubtful one.phase
    doubts_handing one inside =
        let gathers = gathering_found shared own.who g found in
        cond_both (one.lead == g.lead) (handed_in_by own.who one) one (λ (x : Stabilisation). is_doubtful x.phase ≡ is_doubtful one.phase)
        (λ yes.
        let same : one ≡ g = one_of_lead shared one g good.frozen inside gathers.0 (eqb-true one.lead g.lead yes) in
        phase_not_doubtful (without own.who one.awaited)
        ∙ sym (gathering_only one.phase (ap (λ (x : Stabilisation). is_gathering x.phase) same ∙ gathers.1)).0)
        (λ no. refl)

  -- after an opening a want is refused for the same reason as before it
  module _ (missing : List Want) where
    left_by : (gathering : Option Stabilisation) → gathering_of shared own.who ≡ gathering
        → (is_in_doubt (handed_in_to (given_up (begun shared own)) gathering).shared own.who missing ≡ is_in_doubt shared own.who missing)
        × (frozen_lead (handed_in_to (given_up (begun shared own)) gathering).shared own.who missing ≡ frozen_lead shared own.who missing)
    left_by None e =
        let after = (given_up (begun shared own)).shared in
        let calls = entries_by own.who own.pending in
        let same = sym (map-id shared.stabilisations) in (
          doubt_left shared after own.who calls (λ one. one) refl same (λ one. refl) (λ one inside. refl) added_by_it members_begun missing,
          lead_left shared after own.who calls (λ one. one) refl same (λ one. refl) (λ one inside. refl) added_by_it members_begun missing,
        )
    left_by (Some g) e =
        let after = (handed_in_to (given_up (begun shared own)) (Some g)).shared in
        let calls = entries_by own.who own.pending in
        let change = handing_in g.lead own.who in (
          doubt_left shared after own.who calls change refl refl (leads_handing g e) (doubts_handing g e) added_by_it members_begun missing,
          lead_left shared after own.who calls change refl refl (leads_handing g e) (doubts_handing g e) added_by_it members_begun missing,
        )

    pub doubt_opened : is_in_doubt (opened shared own).shared own.who missing ≡ is_in_doubt shared own.who missing
    doubt_opened = (left_by (gathering_of (given_up (begun shared own)).shared own.who) (sym gathering_begun)).0

    pub lead_opened : frozen_lead (opened shared own).shared own.who missing ≡ frozen_lead shared own.who missing
    lead_opened = (left_by (gathering_of (given_up (begun shared own)).shared own.who) (sym gathering_begun)).1

    pub in_doubt_opened : refused_in_doubt (opened shared own).shared own.who missing ≡ refused_in_doubt shared own.who missing
    in_doubt_opened = ap (λ (is : Bool). cond is (Some InDoubt) None) doubt_opened

    pub frozen_opened : refused_frozen (opened shared own).shared own.who missing ≡ refused_frozen shared own.who missing
    frozen_opened = ap (option_map Frozen) lead_opened

-- what is known to all of a client that keeps its pages for reading alone
abbrev pub reads_alone : Own → Client → Client
reads_alone own client = record client { cap = own.cap; rights = map lowered own.held }

-- the pages of a client are handed in to a gathering stabilisation: it no longer awaits the client, the client keeps its pages
-- for reading, and all else stays
pub record HandedTo (before : Both) (gathering : Stabilisation) (after : Both) : Type 0 where
  pub stabilisations : after.shared.stabilisations
      ≡ map (λ one. cond (one.lead == gathering.lead) (handed_in_by before.own.who one) one) before.shared.stabilisations
  pub trail : after.shared.trail ≡ before.shared.trail
  pub limit : after.shared.limit ≡ before.shared.limit
  pub pages : after.shared.pages ≡ before.shared.pages
  pub places : length after.shared.clients ≡ length before.shared.clients
  pub others : (other : ℕ) → other ≢ before.own.who → client_at after.shared other ≡ client_at before.shared other
  pub place : client_at after.shared before.own.who ≡ option_map (reads_alone before.own) (client_at before.shared before.own.who)
  pub own : after.own ≡ record (before.own) { held = map lowered before.own.held }

pub handed_to : (both : Both) (gathering : Stabilisation) → HandedTo both gathering (handed_in_to both (Some gathering))
handed_to both gathering =
    let own_after = (handed_in both).own in record {
      stabilisations = refl;
      trail = refl;
      limit = refl;
      pages = refl;
      places = places_agreed both.shared own_after;
      others = λ other apart. others_agreed both.shared own_after other apart;
      place = client_changed both.own.who (reads_alone both.own) both.shared;
      own = refl;
    }

-- leads that are apart differ
leads_distinct : (trail : List Item) (leads : List ℕ) → ((lead : ℕ) → Contains leads lead → IsClient lead) → AreApart trail leads → IsDistinct eqb leads
unfolding IsDistinct
leads_distinct trail [] clients apart = tt
leads_distinct trail (lead ∷ leads) clients apart = (
  from_places leads
      (λ other inside.
      ne_eqb lead other
      (λ same.
      true≢false
      (sym (association_holds_its_client trail lead (clients lead (contains_here lead leads)))
      ∙ ap (λ one. has_member lead (association_of trail one)) same
      ∙ none_passes (λ one. has_member lead (association_of trail one)) leads other
      (apart.0 lead (association_holds_its_client trail lead (clients lead (contains_here lead leads)))) inside))),
  leads_distinct trail leads (λ other inside. clients other (contains_there lead leads other inside)) apart.1,
)
  where
    from_places : (others : List ℕ) → ((other : ℕ) → Contains others other → eqb lead other ≡ false) → AllByRecursion (λ other. eqb lead other ≡ false) others
    from_places [] each = tt
    from_places (other ∷ others) each = (each other (contains_here other others), from_places others (λ one inside. each one (contains_there other others one inside)))

-- each lead has one stabilisation, so there are no more than there are places of clients
module _ (shared : Shared) (good : IsGoodShared shared) where
  pub leads_differ : (one other : Stabilisation) → Contains shared.stabilisations one → Contains shared.stabilisations other → one.lead ≡ other.lead → one ≡ other
  leads_differ one other inside also same = one_of_lead shared one other good.frozen inside also same

  lead_is_client : (lead : ℕ) → Contains (leads_of shared.stabilisations) lead → IsClient lead
  lead_is_client lead inside =
      let one = contains_map (λ (x : Stabilisation). x.lead) shared.stabilisations lead inside in subst IsClient one.2 (good.frozen.leads one.0 one.1)

  pub leads_are_few : length shared.stabilisations ≤ 33
  leads_are_few =
      let few : length (leads_of shared.stabilisations) ≤ 33 =
      length-le_from_distinct_below (leads_of shared.stabilisations) 33 (leads_distinct shared.trail (leads_of shared.stabilisations) lead_is_client good.frozen.apart)
      (λ lead is.
      let found = any_found (eqb lead) (leads_of shared.stabilisations) is in
      let client = lead_is_client found.0 found.1 in
      let same : lead ≡ found.0 = eqb-true lead found.0 found.2 in
      let most = client.1 in omega arith) in
      let same : length (leads_of shared.stabilisations) ≡ length shared.stabilisations = length-map shared.stabilisations (λ (x : Stabilisation). x.lead) in
      omega arith
