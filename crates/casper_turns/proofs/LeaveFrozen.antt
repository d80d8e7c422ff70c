use Rattle.std.proofs.Common.{◌≡◌, ◌≢◌, ◌⊎◌, ◌<◌, ℕ, List, [], ◌∷◌, ◌++◌, true, false, ◌==◌, ◌&&◌, cond, not, map, length, Contains, refl, sym, ap, ◌∙◌, subst, ⊎_elim, inl, inr, arith, true≢false}
use Rattle.std.specs.Prelude.{Option, None, Some}
use Rattle.std.specs.List.{list_any}
use Rattle.std.proofs.lemmas.Bool.{cond_both, cases_eq, and_parts, and_from, or_cases, not-true, false_from_ne_true}
use Rattle.casper_words.specs.Crew.{IsClient, has_member, crew_of}
use Rattle.casper_words.specs.declared.page.Right.TheVariants as may
use Rattle.casper_words.specs.declared.page.Want.{Want}
use Rattle.casper_words.proofs.CrewLemmas.{has_member_crew_of}
use Rattle.casper_trail.specs.declared.mark.Mark.TheVariants.{Rollback}
use Rattle.casper_trail.specs.Association.{association_of}
use Rattle.casper_trail.proofs.Rounds.{association_holds_its_client, association_of_a_member, member_is_client}
use Rattle.casper_trail.proofs.Growth.{others_after_mark}
use Rattle.casper_model.specs.declared.reply.Loss.{Loss}
use Rattle.casper_model.specs.Held.{is_of, is_to_write, covers, allows, lowered}
use Rattle.casper_model.specs.Client.{Client, Fallen}
use Rattle.casper_model.specs.Own.{Own}
use Rattle.casper_model.specs.Both.{Both, Changed}
use Rattle.casper_model.specs.Stabilisation.{Stabilisation, Sealed, Gathering, is_gathering, is_sealed, is_doubtful, is_empty, without, phase_awaiting, with_noted}
use Rattle.casper_model.specs.Shared.{Shared, rights_at, fallen_at, of_client, place_client}
use Rattle.casper_model.specs.Frozen.{is_member, stabilisation_of}
use Rattle.casper_model.specs.Opening.{handed_in}
use Rattle.casper_model.specs.Stabilise.{stabilised_in, frozen_by, with_asker, has_write_right, writers_among}
use Rattle.casper_model.specs.Leave.{absent}
use Rattle.casper_model.specs.Loss.{lose, lose_by, lost_in, rolled_back}
use Rattle.casper_model.proofs.Places.{client_placed, client_unplaced}
use Rattle.casper_model.proofs.OpeningRights.{IsUp, known_agreed, others_agreed}
use Rattle.casper_model.proofs.TurnRights.{rights_known}
use Rattle.casper_model.proofs.LossRights.{spares_rolled_back}
use Rattle.casper_turns.specs.Frozen.{leads_of, AreApart, IsQuiet, AreFrozen}
use Rattle.casper_turns.proofs.Lists.{any_found, find_found, find_none, contains_map, any_of}
use Rattle.casper_turns.proofs.OpeningFrozen.{lowered_writes_not, awaiting_gathers, gathering_only}
use Rattle.casper_turns.proofs.ApartLeads.{apart_one_more, leads_pushed, one_with_member}
use Rattle.casper_turns.proofs.FrozenChanges.{MayWriteNoMore, StaysFrozen, stays_itself, stays_both, stays_labelled, stays_same, some_frozen, some_left}
use Rattle.casper_model.proofs.Entries.{contains_append, contains_left, contains_cases}

-- the stabilisation of a lead may be changed in what is no lead, phase or awaited client
labelled_by_lead : (shared : Shared) (lead : ℕ) (change : Stabilisation → Stabilisation) → ((one : Stabilisation) → (change one).lead ≡ one.lead)
    → ((one : Stabilisation) → (change one).phase ≡ one.phase) → ((one : Stabilisation) → (change one).awaited ≡ one.awaited) → AreFrozen shared
    → StaysFrozen shared (record shared { stabilisations = map (λ one. cond (one.lead == lead) (change one) one) shared.stabilisations })
labelled_by_lead shared lead change leads phases waits =
    stays_labelled shared _ (λ one. cond (one.lead == lead) (change one) one) refl
    (λ one. cond_both (one.lead == lead) (change one) one (λ (x : Stabilisation). x.lead ≡ one.lead) (λ yes. leads one) (λ no. refl))
    (λ one. cond_both (one.lead == lead) (change one) one (λ (x : Stabilisation). x.phase ≡ one.phase) (λ yes. phases one) (λ no. refl))
    (λ one. cond_both (one.lead == lead) (change one) one (λ (x : Stabilisation). x.awaited ≡ one.awaited) (λ yes. waits one) (λ no. refl))
    (λ one inside. refl) (λ who page writes. writes)

-- a further stabilisation, of an association that none is of
stays_pushed : (shared : Shared) (one : Stabilisation) → IsClient one.lead → is_doubtful one.phase ≡ false
    → ((other : Stabilisation) → Contains shared.stabilisations other → is_member shared one.lead other ≡ true → ⊥) → IsQuiet shared one → AreFrozen shared
    → StaysFrozen shared (record shared { stabilisations = shared.stabilisations ++ one ∷ [] })
stays_pushed shared one is undoubted alone quiet frozen = record {
  frozen = record {
    leads = λ other inside. by_place other inside (λ (x : Stabilisation). IsClient x.lead) (frozen.leads other) is;
    apart =
        subst (AreApart shared.trail) (sym (leads_pushed shared.stabilisations one))
        (apart_one_more shared.trail (leads_of shared.stabilisations) one.lead frozen.apart
        (λ who lead member inside also.
        let other = contains_map (λ (x : Stabilisation). x.lead) shared.stabilisations lead inside in
        alone other.0 other.1
        (ap (λ number. has_member one.lead (association_of shared.trail number)) other.2
        ∙ ap (has_member one.lead) (sym (association_of_a_member shared.trail lead who also) ∙ association_of_a_member shared.trail one.lead who member)
        ∙ association_holds_its_client shared.trail one.lead is)));
    quiet = λ other inside. by_place other inside (IsQuiet shared) (frozen.quiet other) quiet;
  };
  left = record {
    sealed = λ lead seal. (seal.0, contains_left shared.stabilisations (one ∷ []) seal.0 seal.1, seal.2, seal.3);
    were = λ other inside doubtful.
        ⊎_elim (λ old. (other, old, doubtful, refl))
        (λ new. absurd (true≢false (sym doubtful ∙ ap (λ (x : Stabilisation). is_doubtful x.phase) (sym (only other new)) ∙ undoubted)))
        (contains_append shared.stabilisations (one ∷ []) other inside);
    doubtful = λ lead doubt. (doubt.0, contains_left shared.stabilisations (one ∷ []) doubt.0 doubt.1, doubt.2, doubt.3);
    stay = λ lead held. refl;
  };
}
  where
    only : (other : Stabilisation) → Contains (one ∷ []) other → one ≡ other
    only other new = ⊎_elim (λ same. same) (λ later. absurd (omega (arith, later.1))) (contains_cases one [] other new)

    by_place : (other : Stabilisation) → Contains (shared.stabilisations ++ one ∷ []) other → (P : Stabilisation → Type 0)
        → (Contains shared.stabilisations other → P other) → P one → P other
    by_place other inside P old new =
        ⊎_elim old (λ here. subst P (only other here) new) (contains_append shared.stabilisations (one ∷ []) other inside)

-- who may write a page has the right to write one
writes_some : (held : List Want) (page : ℕ) → allows held page may.Write ≡ true → list_any (λ want. is_to_write want.right) held ≡ true
writes_some held page found =
    let one = any_found (λ want. is_of page want && covers want.right may.Write) held found in
    any_of (λ want. is_to_write want.right) held one.0 one.1
    (⊎_elim (λ is. is) (λ never. absurd (true≢false (sym never))) (or_cases (is_to_write one.0.right) false (and_parts (is_of page one.0) (covers one.0.right may.Write) one.2).1))

-- the lead hands in its pages, and its association is frozen
pub freezing_stays : (both : Both) → IsClient both.own.who → IsUp both.shared both.own.who → AreFrozen both.shared → stabilisation_of both.shared both.own.who ≡ None
    → StaysFrozen both.shared (frozen_by both).shared
freezing_stays both is_client is frozen none =
    stays_both both.shared after.shared (frozen_by both).shared handed
    (stays_pushed after.shared one is_client (cond_both (is_empty awaited) Sealed Gathering (λ phase. is_doubtful phase ≡ false) (λ e. refl) (λ e. refl))
    (λ other inside member. find_none (is_member both.shared both.own.who) both.shared.stabilisations none other inside member) quiet handed.frozen)
  where
    after : Both
    after = handed_in both

    own_after : Own
    own_after = record (both.own) { held = map lowered both.own.held }

    known : rights_at after.shared both.own.who ≡ map lowered both.own.held
    known = rights_known after.shared own_after (known_agreed both.shared own_after is)

    silent : (page : ℕ) → allows (rights_at after.shared both.own.who) page may.Write ≡ true → ⊥
    silent page writes = lowered_writes_not both.own.held page (sym (ap (λ rights. allows rights page may.Write) known) ∙ writes)

    less : MayWriteNoMore both.shared after.shared
    less who page writes =
        ⊎_elim (λ same. absurd (silent page (subst (λ number. allows (rights_at after.shared number) page may.Write ≡ true) same writes)))
        (λ apart. sym (ap (λ place. allows (of_client [] (λ client. client.rights) place) page may.Write) (others_agreed both.shared own_after who apart)) ∙ writes)
        (cases_eq who both.own.who)

    handed : StaysFrozen both.shared after.shared
    handed = stays_same both.shared after.shared refl (λ x inside. refl) less frozen

    members : List ℕ
    members = association_of after.shared.trail both.own.who

    awaited : List ℕ
    awaited = writers_among after.shared members

    one : Stabilisation
    one = record { lead = both.own.who; awaited = awaited; askers = crew_of (λ other. has_member other (both.own.who ∷ [])); noted = None; phase = phase_awaiting awaited }

    quiet : IsQuiet after.shared one
    quiet who page member writes =
        let found : has_member who awaited ≡ true =
        has_member_crew_of (λ other. has_member other members && has_write_right after.shared other) who (member_is_client after.shared.trail both.own.who who member)
        ∙ and_from (has_member who members) (has_write_right after.shared who) member (writes_some (rights_at after.shared who) page writes) in
        (ap is_gathering (awaiting_gathers awaited who found), found)

pub stabilised_in_stays : (both : Both) → IsClient both.own.who → IsUp both.shared both.own.who → AreFrozen both.shared → (one : Option Stabilisation)
    → stabilisation_of both.shared both.own.who ≡ one → StaysFrozen both.shared (stabilised_in both one).shared
stabilised_in_stays both is_client is frozen None e = freezing_stays both is_client is frozen e
stabilised_in_stays both is_client is frozen (Some one) e =
    labelled_by_lead both.shared one.lead (with_asker both.own.who) (λ x. refl) (λ x. refl) (λ x. refl) frozen

-- a client whose place is set to nobody, or to one without rights
pub less_placed : (shared : Shared) (who : ℕ) (place : Option Client) → who < length shared.clients → of_client [] (λ client. client.rights) place ≡ []
    → MayWriteNoMore shared (place_client who place shared)
less_placed shared who place below bare number page writes = by_number (cases_eq number who)
  where
    by_number : (number ≡ who) ⊎ (number ≢ who) → allows (rights_at shared number) page may.Write ≡ true
    by_number (inl same) =
        absurd (true≢false
        (sym writes
        ∙ ap (λ at. allows (rights_at (place_client who place shared) at) page may.Write) same
        ∙ ap (λ one. allows (of_client [] (λ client. client.rights) one) page may.Write) (client_placed who place shared below)
        ∙ ap (λ rights. allows rights page may.Write) bare))
    by_number (inr apart) =
        sym (ap (λ one. allows (of_client [] (λ client. client.rights) one) page may.Write) (client_unplaced who place shared number apart)) ∙ writes

pub absent_stays : (both : Both) → both.own.who < length both.shared.clients → AreFrozen both.shared → StaysFrozen both.shared (absent both).shared
absent_stays both below =
    stays_labelled both.shared (absent both).shared (λ one. record one { askers = without both.own.who one.askers }) refl (λ one. refl) (λ one. refl) (λ one. refl) (λ one inside. refl)
    (less_placed both.shared both.own.who None below refl)

-- a rollback leaves the associations that are not its own
rolled_back_keeps : (shared : Shared) (lost : ℕ) (one : Stabilisation) → Contains shared.stabilisations one
    → not (has_member one.lead (association_of shared.trail lost)) ≡ true
    → association_of (rolled_back shared lost).trail one.lead ≡ association_of shared.trail one.lead
rolled_back_keeps shared lost one inside stays =
    let members = association_of shared.trail lost in
    others_after_mark shared.trail (Rollback lost members) one.lead refl (not-true (has_member one.lead members) stays)

-- a rollback ends the stabilisations of its association
pub rolled_back_frozen : (shared : Shared) (lost : ℕ) → AreFrozen shared → AreFrozen (rolled_back shared lost)
rolled_back_frozen shared lost =
    let members = association_of shared.trail lost in
    some_frozen shared (rolled_back shared lost) (λ lead. not (has_member lead members)) refl
    (rolled_back_keeps shared lost)
    (λ who page writes. (spares_rolled_back shared lost).less who page may.Write writes)

-- where the client that is lost is in none but gathering ones
lost_stays : (shared : Shared) (who : ℕ) → IsClient who → AreFrozen shared
    → ((one : Stabilisation) → Contains shared.stabilisations one → is_member shared who one ≡ true → (is_doubtful one.phase ≡ false) × (is_sealed one.phase ≡ false))
    → StaysFrozen shared (rolled_back shared who)
lost_stays shared who is frozen gathers = record {
  frozen = rolled_back_frozen shared who frozen;
  left =
      some_left shared (rolled_back shared who) (λ lead. not (has_member lead (association_of shared.trail who))) refl (rolled_back_keeps shared who)
      (λ one inside further.
      ap not
      (false_from_ne_true (has_member one.lead (association_of shared.trail who))
      (λ found.
      let phases = gathers one inside (ap (has_member who) (association_of_a_member shared.trail who one.lead found) ∙ association_holds_its_client shared.trail who is) in
      ⊎_elim (λ doubtful. true≢false (sym doubtful ∙ phases.0)) (λ sealed. true≢false (sym sealed ∙ phases.1)) further)));
}

pub lost_in_stays : (shared : Shared) (who unrecorded : ℕ) → IsClient who → AreFrozen shared → (one : Option Stabilisation) → stabilisation_of shared who ≡ one
    → StaysFrozen shared (lost_in shared who unrecorded one).shared
lost_in_stays shared who unrecorded is frozen None e =
    lost_stays shared who is frozen (λ one inside member. absurd (find_none (is_member shared who) shared.stabilisations e one inside member))
lost_in_stays shared who unrecorded is frozen (Some one) e =
    cond_both (is_gathering one.phase) _ _ (λ (done : Changed Loss). StaysFrozen shared done.shared)
    (λ gathering.
    lost_stays shared who is frozen
    (λ other inside member.
    let found = find_found (is_member shared who) shared.stabilisations one e in
    let same : other ≡ one = one_with_member shared.trail shared.stabilisations other one who frozen.apart inside found.0 member found.1 in
    gathering_only other.phase (ap (λ (x : Stabilisation). is_gathering x.phase) same ∙ gathering)))
    (λ held. labelled_by_lead shared one.lead (with_noted who) (λ x. refl) (λ x. refl) (λ x. refl) frozen)

lose_by_stays : (shared : Shared) (who : ℕ) → IsClient who → AreFrozen shared → (fallen : Option Fallen) → StaysFrozen shared (lose_by shared who fallen).shared
lose_by_stays shared who is frozen (Some fallen) = stays_itself shared frozen
lose_by_stays shared who is frozen None = lost_in_stays shared who 0 is frozen (stabilisation_of shared who) refl

pub lose_stays : (shared : Shared) (who : ℕ) → IsClient who → AreFrozen shared → StaysFrozen shared (lose shared who).shared
lose_stays shared who is frozen = lose_by_stays shared who is frozen (fallen_at shared who)
