use Rattle.std.proofs.Common.{◌≡◌, ◌≢◌, ◌⊎◌, ℕ, [], Bool, true, map, filter, Contains, refl, sym, ap, ◌∙◌, subst, ⊎_elim, inl, inr, true≢false}
use Rattle.std.specs.Prelude.{Option, None, Some}
use Rattle.std.proofs.lemmas.Bool.{cases_eq}
use Rattle.std.proofs.lemmas.List.{map-id}
use Rattle.casper_words.specs.Crew.{IsClient, has_member}
use Rattle.casper_words.specs.declared.page.Right.{Right}
use Rattle.casper_words.specs.declared.page.Right.TheVariants as may
use Rattle.casper_trail.specs.Association.{association_of}
use Rattle.casper_trail.proofs.Rounds.{association_holds_its_client}
use Rattle.casper_model.specs.Held.{allows}
use Rattle.casper_model.specs.Client.{Client, Fallen}
use Rattle.casper_model.specs.Own.{Own}
use Rattle.casper_model.specs.Stabilisation.{Stabilisation, is_gathering, is_sealed, is_doubtful}
use Rattle.casper_model.specs.Shared.{Shared, client_at, rights_at, of_client}
use Rattle.casper_model.specs.Rights.{Agrees, AgreesUnlessFallen, TurnStands, TurnKeeps}
use Rattle.casper_model.proofs.HeldRights.{AllowsNoMore}
use Rattle.casper_model.proofs.OpeningRights.{IsUp}
use Rattle.casper_model.proofs.TurnRights.{rights_are_held}
use Rattle.casper_turns.specs.Frozen.{leads_of, AreApart, IsQuiet, AreFrozen, IsSealedBy}
use Rattle.casper_turns.proofs.Lists.{contains_map, contains_mapped, contains_filter, contains_filtered}
use Rattle.casper_turns.proofs.ApartLeads.{apart_still, apart_some, leads_mapped, leads_filtered, one_with_member}

-- no client may write more
abbrev pub MayWriteNoMore : Shared → Shared → Type 0
MayWriteNoMore shared after = (who page : ℕ) → allows (rights_at after who) page may.Write ≡ true → allows (rights_at shared who) page may.Write ≡ true

-- the associations of the stabilisations stay
abbrev pub AssociationsStay : Shared → Shared → Type 0
AssociationsStay shared after =
    (one : Stabilisation) → Contains shared.stabilisations one → association_of after.trail one.lead ≡ association_of shared.trail one.lead

-- the lead has a stabilisation in doubt, or one that is sealed or in doubt
abbrev pub IsDoubtfulBy : Shared → ℕ → Type 0
IsDoubtfulBy shared lead = (one : Stabilisation) × Contains shared.stabilisations one × (one.lead ≡ lead) × (is_doubtful one.phase ≡ true)

abbrev pub IsHeldBy : Shared → ℕ → Type 0
IsHeldBy shared lead = IsSealedBy shared lead ⊎ IsDoubtfulBy shared lead

-- what a change leaves of the write-outs: sealed stabilisations and those in doubt stay so, and keep their associations,
-- and no others come into doubt
pub record LeavesWriteOuts (shared after : Shared) : Type 0 where
  pub sealed : (lead : ℕ) → IsSealedBy shared lead → IsSealedBy after lead
  pub doubtful : (lead : ℕ) → IsDoubtfulBy shared lead → IsDoubtfulBy after lead
  pub stay : (lead : ℕ) → IsHeldBy shared lead → association_of after.trail lead ≡ association_of shared.trail lead
  pub were : (one : Stabilisation) → Contains after.stabilisations one → is_doubtful one.phase ≡ true
      → (before : Stabilisation) × Contains shared.stabilisations before × (is_doubtful before.phase ≡ true) × (before.lead ≡ one.lead)

pub record StaysFrozen (shared after : Shared) : Type 0 where
  pub frozen : AreFrozen after
  pub left : LeavesWriteOuts shared after

pub stays_itself : (shared : Shared) → AreFrozen shared → StaysFrozen shared shared
stays_itself shared frozen = record {
  frozen = frozen;
  left = record { sealed = λ lead is. is; doubtful = λ lead is. is; stay = λ lead is. refl; were = λ one inside is. (one, inside, is, refl) };
}

pub stays_both : (shared middle after : Shared) → StaysFrozen shared middle → StaysFrozen middle after → StaysFrozen shared after
stays_both shared middle after first second = record {
  frozen = second.frozen;
  left = record {
    sealed = λ lead is. second.left.sealed lead (first.left.sealed lead is);
    were = λ one inside doubtful.
        let mid = second.left.were one inside doubtful in
        let early = first.left.were mid.0 mid.1 mid.2 in
        (early.0, early.1, early.2, early.3 ∙ mid.3);
    doubtful = λ lead is. second.left.doubtful lead (first.left.doubtful lead is);
    stay = λ lead is.
        second.left.stay lead (⊎_elim (λ seal. inl (first.left.sealed lead seal)) (λ doubt. inr (first.left.doubtful lead doubt)) is) ∙ first.left.stay lead is;
  };
}

-- two stabilisations with one lead are one
pub one_of_lead : (shared : Shared) (one other : Stabilisation) → AreFrozen shared → Contains shared.stabilisations one → Contains shared.stabilisations other
    → one.lead ≡ other.lead → one ≡ other
one_of_lead shared one other frozen inside also same =
    let mine = association_holds_its_client shared.trail one.lead (frozen.leads one inside) in
    one_with_member shared.trail shared.stabilisations one other one.lead frozen.apart inside also mine
    (ap (λ lead. has_member one.lead (association_of shared.trail lead)) (sym same) ∙ mine)

-- a stabilisation is quiet where it was, and a change keeps who is awaited
pub quiet_still : (shared after : Shared) (one next : Stabilisation) → next.lead ≡ one.lead
    → association_of after.trail one.lead ≡ association_of shared.trail one.lead → MayWriteNoMore shared after
    → ((who page : ℕ) → allows (rights_at after who) page may.Write ≡ true → is_gathering one.phase ≡ true → has_member who one.awaited ≡ true
    → (is_gathering next.phase ≡ true) × (has_member who next.awaited ≡ true))
    → IsQuiet shared one → IsQuiet after next
quiet_still shared after one next lead same less keeps quiet who page member writes =
    let was : has_member who (association_of shared.trail one.lead) ≡ true =
    sym (ap (has_member who) (ap (association_of after.trail) lead ∙ same)) ∙ member in
    let before = quiet who page was (less who page writes) in
    keeps who page writes before.0 before.1

-- changes that keep the leads
module _ (shared after : Shared) (change : Stabilisation → Stabilisation) (changed : after.stabilisations ≡ map change shared.stabilisations)
    (same : (one : Stabilisation) → (change one).lead ≡ one.lead) where
  was_before : (one : Stabilisation) → Contains after.stabilisations one → (before : Stabilisation) × Contains shared.stabilisations before × (change before ≡ one)
  was_before one inside = contains_map change shared.stabilisations one (subst (λ list. Contains list one) changed inside)

  mapped_frozen : AssociationsStay shared after → ((one : Stabilisation) → Contains shared.stabilisations one → IsQuiet after (change one)) → AreFrozen shared
      → AreFrozen after
  mapped_frozen stay quiet frozen = record {
    leads = λ one inside.
        let before = was_before one inside in
        subst IsClient (sym (same before.0) ∙ ap (λ (x : Stabilisation). x.lead) before.2) (frozen.leads before.0 before.1);
    apart =
        subst (AreApart after.trail) (sym (ap leads_of changed ∙ leads_mapped change same shared.stabilisations))
        (apart_still shared.trail after.trail (leads_of shared.stabilisations)
        (λ lead inside.
        let one = contains_map (λ (x : Stabilisation). x.lead) shared.stabilisations lead inside in
        subst (λ number. association_of after.trail number ≡ association_of shared.trail number) one.2 (stay one.0 one.1))
        frozen.apart);
    quiet = λ one inside. let before = was_before one inside in subst (IsQuiet after) before.2 (quiet before.0 before.1);
  }

  mapped_left : AssociationsStay shared after
      → ((one : Stabilisation) → Contains shared.stabilisations one → is_doubtful (change one).phase ≡ is_doubtful one.phase)
      → ((one : Stabilisation) → Contains shared.stabilisations one → is_sealed one.phase ≡ true → is_sealed (change one).phase ≡ true)
      → LeavesWriteOuts shared after
  mapped_left stay doubtful sealed = record {
    sealed = λ lead is. (
      change is.0,
      subst (λ list. Contains list (change is.0)) (sym changed) (contains_mapped change shared.stabilisations is.0 is.1),
      same is.0 ∙ is.2,
      sealed is.0 is.1 is.3,
    );
    were = λ one inside is.
        let before = was_before one inside in (
          before.0,
          before.1,
          sym (doubtful before.0 before.1) ∙ ap (λ (x : Stabilisation). is_doubtful x.phase) before.2 ∙ is,
          sym (same before.0) ∙ ap (λ (x : Stabilisation). x.lead) before.2,
        );
    doubtful = λ lead is. (
      change is.0,
      subst (λ list. Contains list (change is.0)) (sym changed) (contains_mapped change shared.stabilisations is.0 is.1),
      same is.0 ∙ is.2,
      doubtful is.0 is.1 ∙ is.3,
    );
    stay = λ lead is.
        ⊎_elim
        (λ (seal : IsSealedBy shared lead). subst (λ number. association_of after.trail number ≡ association_of shared.trail number) seal.2 (stay seal.0 seal.1))
        (λ (doubt : IsDoubtfulBy shared lead). subst (λ number. association_of after.trail number ≡ association_of shared.trail number) doubt.2 (stay doubt.0 doubt.1))
        is;
  }

pub frozen_mapped : (shared after : Shared) (change : Stabilisation → Stabilisation) → after.stabilisations ≡ map change shared.stabilisations
    → ((one : Stabilisation) → (change one).lead ≡ one.lead) → AssociationsStay shared after
    → ((one : Stabilisation) → Contains shared.stabilisations one → IsQuiet after (change one)) → AreFrozen shared → AreFrozen after
frozen_mapped shared after change changed same = mapped_frozen shared after change changed same

pub stays_mapped : (shared after : Shared) (change : Stabilisation → Stabilisation) → after.stabilisations ≡ map change shared.stabilisations
    → ((one : Stabilisation) → (change one).lead ≡ one.lead) → AssociationsStay shared after
    → ((one : Stabilisation) → Contains shared.stabilisations one → IsQuiet after (change one))
    → ((one : Stabilisation) → Contains shared.stabilisations one → is_doubtful (change one).phase ≡ is_doubtful one.phase)
    → ((one : Stabilisation) → Contains shared.stabilisations one → is_sealed one.phase ≡ true → is_sealed (change one).phase ≡ true)
    → AreFrozen shared → StaysFrozen shared after
stays_mapped shared after change changed same stay quiet doubtful sealed frozen = record {
  frozen = mapped_frozen shared after change changed same stay quiet frozen;
  left = mapped_left shared after change changed same stay doubtful sealed;
}

-- where each keeps its lead, whom it awaits and its phase
pub stays_labelled : (shared after : Shared) (change : Stabilisation → Stabilisation) → after.stabilisations ≡ map change shared.stabilisations
    → ((one : Stabilisation) → (change one).lead ≡ one.lead) → ((one : Stabilisation) → (change one).phase ≡ one.phase)
    → ((one : Stabilisation) → (change one).awaited ≡ one.awaited) → AssociationsStay shared after → MayWriteNoMore shared after
    → AreFrozen shared → StaysFrozen shared after
stays_labelled shared after change changed lead phase awaited stay less frozen =
    stays_mapped shared after change changed lead stay
    (λ one inside.
    quiet_still shared after one (change one) (lead one) (stay one inside) less
    (λ who page writes gathering is. (ap is_gathering (phase one) ∙ gathering, ap (has_member who) (awaited one) ∙ is)) (frozen.quiet one inside))
    (λ one inside. ap is_doubtful (phase one)) (λ one inside is. ap is_sealed (phase one) ∙ is) frozen

pub stays_same : (shared after : Shared) → after.stabilisations ≡ shared.stabilisations → AssociationsStay shared after → MayWriteNoMore shared after
    → AreFrozen shared → StaysFrozen shared after
stays_same shared after same = stays_labelled shared after (λ one. one) (same ∙ sym (map-id shared.stabilisations)) (λ one. refl) (λ one. refl) (λ one. refl)

-- where those of some leads are left
pub some_frozen : (shared after : Shared) (test : ℕ → Bool) → after.stabilisations ≡ filter (λ one. test one.lead) shared.stabilisations
    → ((one : Stabilisation) → Contains shared.stabilisations one → test one.lead ≡ true → association_of after.trail one.lead ≡ association_of shared.trail one.lead)
    → MayWriteNoMore shared after → AreFrozen shared → AreFrozen after
some_frozen shared after test left stay less frozen = record {
  leads = λ one inside. frozen.leads one (was one inside).0;
  apart =
      subst (AreApart after.trail) (sym (ap leads_of left ∙ leads_filtered test shared.stabilisations))
      (apart_still shared.trail after.trail (filter test (leads_of shared.stabilisations))
      (λ lead inside.
      let found = contains_filter test (leads_of shared.stabilisations) lead inside in
      let one = contains_map (λ (x : Stabilisation). x.lead) shared.stabilisations lead found.0 in
      subst (λ number. association_of after.trail number ≡ association_of shared.trail number) one.2
      (stay one.0 one.1 (subst (λ number. test number ≡ true) (sym one.2) found.1)))
      (apart_some shared.trail test (leads_of shared.stabilisations) frozen.apart));
  quiet = λ one inside.
      let before = was one inside in
      quiet_still shared after one one refl (stay one before.0 before.1) less (λ who page writes gathering is. (gathering, is)) (frozen.quiet one before.0);
}
  where
    was : (one : Stabilisation) → Contains after.stabilisations one → Contains shared.stabilisations one × (test one.lead ≡ true)
    was one inside =
        contains_filter (λ (x : Stabilisation). test x.lead) shared.stabilisations one (subst (λ list. Contains list one) left inside)

-- and the others were gathering
pub some_left : (shared after : Shared) (test : ℕ → Bool) → after.stabilisations ≡ filter (λ one. test one.lead) shared.stabilisations
    → ((one : Stabilisation) → Contains shared.stabilisations one → test one.lead ≡ true → association_of after.trail one.lead ≡ association_of shared.trail one.lead)
    → ((one : Stabilisation) → Contains shared.stabilisations one → (is_doubtful one.phase ≡ true) ⊎ (is_sealed one.phase ≡ true) → test one.lead ≡ true)
    → LeavesWriteOuts shared after
some_left shared after test left stay keeps = record {
  sealed = λ lead is. (is.0, kept is.0 is.1 (keeps is.0 is.1 (inr is.3)), is.2, is.3);
  were = λ one inside is.
      (one, (contains_filter (λ (x : Stabilisation). test x.lead) shared.stabilisations one (subst (λ list. Contains list one) left inside)).0, is, refl);
  doubtful = λ lead is. (is.0, kept is.0 is.1 (keeps is.0 is.1 (inl is.3)), is.2, is.3);
  stay = λ lead is.
      ⊎_elim
      (λ (seal : IsSealedBy shared lead).
      subst (λ number. association_of after.trail number ≡ association_of shared.trail number) seal.2 (stay seal.0 seal.1 (keeps seal.0 seal.1 (inr seal.3))))
      (λ (doubt : IsDoubtfulBy shared lead).
      subst (λ number. association_of after.trail number ≡ association_of shared.trail number) doubt.2 (stay doubt.0 doubt.1 (keeps doubt.0 doubt.1 (inl doubt.3))))
      is;
}
  where
    kept : (one : Stabilisation) → Contains shared.stabilisations one → test one.lead ≡ true → Contains after.stabilisations one
    kept one inside passes =
        subst (λ list. Contains list one) (sym left) (contains_filtered (λ (x : Stabilisation). test x.lead) shared.stabilisations one inside passes)

-- what a client is allowed is what it holds
pub held_by_agreement : (place : Option Client) (own : Own) → Agrees place own → (page : ℕ) (right : Right)
    → allows (of_client [] (λ client. client.rights) place) page right ≡ true → allows own.held page right ≡ true
held_by_agreement None own agrees page right found = absurd (true≢false (sym found))
held_by_agreement (Some client) own agrees page right found = by_fallen client.fallen agrees
  where
    by_fallen : (fallen : Option Fallen) → AgreesUnlessFallen client own fallen → allows own.held page right ≡ true
    by_fallen None had = sym (had.1 page right) ∙ found
    by_fallen (Some fallen) had = absurd (true≢false (sym found ∙ ap (λ rights. allows rights page right) had.1))

-- a turn after which its client holds no more
pub less_by_turn : (shared : Shared) (own : Own) (after : Shared) (own_after : Own) → TurnStands shared own → IsUp shared own.who
    → TurnKeeps shared own after own_after → AllowsNoMore own_after.held own.held → MayWriteNoMore shared after
less_by_turn shared own after own_after stands is keeps less who page writes = by_number (cases_eq who own.who)
  where
    by_number : (who ≡ own.who) ⊎ (who ≢ own.who) → allows (rights_at shared who) page may.Write ≡ true
    by_number (inl same) =
        let held : allows own_after.held page may.Write ≡ true =
        held_by_agreement (client_at after own.who) own_after keeps.agrees page may.Write
        (subst (λ number. allows (rights_at after number) page may.Write ≡ true) same writes) in
        subst (λ number. allows (rights_at shared number) page may.Write ≡ true) (sym same)
        (rights_are_held shared own stands is page may.Write ∙ less page may.Write held)
    by_number (inr apart) =
        sym (ap (λ place. allows (of_client [] (λ client. client.rights) place) page may.Write) (keeps.others who apart)) ∙ writes
