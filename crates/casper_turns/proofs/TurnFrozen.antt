use Rattle.std.proofs.Common.{◌≡◌, ◌≢◌, ◌⊎◌, ℕ, List, [], ◌∷◌, ◌++◌, Bool, true, false, ◌==◌, ◌&&◌, ◌||◌, cond, not, Contains, refl, sym, ap, ◌∙◌, subst, ⊎_elim, inl, inr, true≢false, append-nil}
use Rattle.std.specs.Prelude.{Option, None, Some, option_map, is_some, filter_map, slice_get}
use Rattle.std.specs.Option.{option_or}
use Rattle.std.specs.List.{list_any, find, cons_option}
use Rattle.std.proofs.lemmas.Bool.{cond_both, cases_eq, cases_Bool, and_from, cond-false, or_left, or_right, false_from_ne_true}
use Rattle.std.proofs.lemmas.List.{map-id}
use Rattle.casper_words.specs.Crew.{IsClient, has_member}
use Rattle.casper_words.specs.declared.page.Right.TheVariants as may
use Rattle.casper_words.specs.declared.page.Want.{Want}
use Rattle.casper_trail.specs.Parts.{as_items}
use Rattle.casper_trail.specs.Clients.{AreOfClients}
use Rattle.casper_trail.specs.Association.{association_of}
use Rattle.casper_model.specs.declared.reply.Reply.TheVariants.{Frozen, InDoubt}
use Rattle.casper_model.specs.Held.{allows, missing_of, with_granted}
use Rattle.casper_model.specs.Client.{Client}
use Rattle.casper_model.specs.Own.{Own}
use Rattle.casper_model.specs.Both.{Both}
use Rattle.casper_model.specs.Stabilisation.{Stabilisation, is_gathering, is_doubtful}
use Rattle.casper_model.specs.Shared.{Shared, client_at, rights_at, of_client, each_client}
use Rattle.casper_model.specs.Frozen.{is_member, is_modified_in}
use Rattle.casper_model.specs.Opening.{told_of_fall}
use Rattle.casper_model.specs.Acquire.{with_asks, none_missing, is_in_doubt, refused_in_doubt, frozen_of, frozen_lead, refused_frozen, refused_pending, refused_missing, touches_by}
use Rattle.casper_model.specs.Rights.{Agrees, AllowTheSame}
use Rattle.casper_model.proofs.Places.{client_each}
use Rattle.casper_model.proofs.HeldRights.{passes}
use Rattle.casper_model.proofs.GrantedRights.{granted_allow}
use Rattle.casper_model.proofs.Conflicts.{neither}
use Rattle.casper_model.proofs.Entries.{contains_cases}
use Rattle.casper_turns.specs.Frozen.{IsQuiet, AreFrozen}
use Rattle.casper_turns.proofs.Lists.{nothing_in, none_passes, find_none, find_some, contains_filtered, any_of}
use Rattle.casper_turns.proofs.Touches.{touches_leave}
use Rattle.casper_turns.proofs.FrozenChanges.{MayWriteNoMore, AssociationsStay, StaysFrozen, stays_mapped, stays_same, held_by_agreement}

-- changes that keep the rights of each client
rights_changed : (change : Client → Client) → ((client : Client) → (change client).rights ≡ client.rights) → (place : Option Client)
    → of_client [] (λ client. client.rights) (option_map change place) ≡ of_client [] (λ client. client.rights) place
rights_changed change same None = refl
rights_changed change same (Some client) = same client

pub rights_each : (change : ℕ → Client → Client) (shared : Shared) → ((who : ℕ) (client : Client) → (change who client).rights ≡ client.rights)
    → MayWriteNoMore shared (each_client change shared)
rights_each change shared same who page writes =
    sym (ap (λ rights. allows rights page may.Write)
    (ap (of_client [] (λ client. client.rights)) (client_each change shared who) ∙ rights_changed (change who) (same who) (client_at shared who)))
    ∙ writes

changed_one : (who number : ℕ) (change : Client → Client) (client : Client) → (change client).rights ≡ client.rights
    → (cond (number == who) (change client) client).rights ≡ client.rights
changed_one who number change client same =
    cond_both (number == who) (change client) client (λ (after : Client). after.rights ≡ client.rights) (λ is. same) (λ is. refl)

-- a client that is told that it fell
pub told_stays : (shared : Shared) (own : Own) → AreFrozen shared → StaysFrozen shared (told_of_fall shared own).shared
told_stays shared own =
    stays_same shared (told_of_fall shared own).shared refl (λ one inside. refl)
    (rights_each (λ number client. cond (number == own.who) (record client { kept = None; fallen = None }) client) shared
    (λ number client. changed_one own.who number (λ one. record one { kept = None; fallen = None }) client refl))

pub asked_stays : (asks : List Want) (both : Both) → AreFrozen both.shared → StaysFrozen both.shared (with_asks asks both).shared
asked_stays asks both =
    stays_same both.shared (with_asks asks both).shared refl (λ one inside. refl)
    (rights_each (λ number client. cond (number == both.own.who) (record client { asks = asks }) client) both.shared
    (λ number client. changed_one both.own.who number (λ one. record one { asks = asks }) client refl))

-- a list of missing wants that is empty
none_is_nil : (missing : List Want) → none_missing missing ≡ true → missing ≡ []
none_is_nil [] none = refl
none_is_nil (want ∷ missing) none = absurd (true≢false (sym none))

pub unrefused : {X : Type 0} (test : Bool) (x : X) → cond test (Some x) None ≡ None → test ≡ false
unrefused {X} test x is =
    false_from_ne_true test (λ holds. true≢false (ap is_some (sym (ap (λ one. cond one (Some x) None) holds) ∙ is)))

unmapped : {X Y : Type 0} (f : X → Y) (one : Option X) → option_map f one ≡ None → one ≡ None
unmapped f None is = refl
unmapped f (Some x) is = absurd (true≢false (ap is_some is))

first_kept : {X Y : Type 0} (f : X → Option Y) (xs : List X) (x : X) → Contains xs x → is_some (f x) ≡ true → is_some (slice_get (filter_map f xs) 0) ≡ true
first_kept f [] x inside some = absurd (nothing_in x inside)
first_kept {X} {Y} f (first ∷ xs) x inside some = by_first (f first) refl (λ later. first_kept f xs x later some)
  where
    by_first : (one : Option Y) → f first ≡ one → (Contains xs x → is_some (slice_get (filter_map f xs) 0) ≡ true)
        → is_some (slice_get (cons_option one (filter_map f xs)) 0) ≡ true
    by_first (Some y) e rest = refl
    by_first None e rest =
        ⊎_elim (λ (same : first ≡ x). absurd (true≢false (sym some ∙ ap (λ one. is_some (f one)) (sym same) ∙ ap is_some e))) rest (contains_cases first xs x inside)

-- where missing wants are granted, their client is no member of a stabilisation, and none has modified one of their pages
record IsOutside (shared : Shared) (who : ℕ) (missing : List Want) (one : Stabilisation) : Type 0 where
  member : is_member shared who one ≡ false
  pages : (want : Want) → Contains missing want → is_modified_in shared want.page one ≡ false

outside : (shared : Shared) (who : ℕ) (given : List ℕ) (missing : List Want) → none_missing missing ≡ false → refused_missing shared who given missing ≡ None
    → (one : Stabilisation) → Contains shared.stabilisations one → IsOutside shared who missing one
outside shared who given missing some unrefused_all one inside = by_phase (cases_Bool (is_doubtful one.phase))
  where
    refusals : option_or (refused_in_doubt shared who missing) (option_or (refused_frozen shared who missing) (refused_pending shared who given missing)) ≡ None
    refusals = sym (cond-false (none_missing missing) None _ some) ∙ unrefused_all

    apart : (refused_in_doubt shared who missing ≡ None) × (option_or (refused_frozen shared who missing) (refused_pending shared who given missing) ≡ None)
    apart = neither (refused_in_doubt shared who missing) (option_or (refused_frozen shared who missing) (refused_pending shared who given missing)) refusals

    no_doubt : is_in_doubt shared who missing ≡ false
    no_doubt = unrefused (is_in_doubt shared who missing) InDoubt apart.0

    free : (find (is_member shared who) (frozen_of shared) ≡ None)
        × (slice_get (filter_map (λ want. find (is_modified_in shared want.page) (frozen_of shared)) missing) 0 ≡ None)
    free =
        neither (find (is_member shared who) (frozen_of shared)) (slice_get (filter_map (λ want. find (is_modified_in shared want.page) (frozen_of shared)) missing) 0)
        (unmapped (λ (x : Stabilisation). x.lead) _
        (unmapped Frozen (frozen_lead shared who missing) (neither (refused_frozen shared who missing) (refused_pending shared who given missing) apart.1).0))

    by_phase : (is_doubtful one.phase ≡ true) ⊎ (is_doubtful one.phase ≡ false) → IsOutside shared who missing one
    by_phase (inl doubtful) =
        let unmet : (is_doubtful one.phase && (is_member shared who one || list_any (λ want. is_modified_in shared want.page one) missing)) ≡ false =
        none_passes (λ x. is_doubtful x.phase && (is_member shared who x || list_any (λ want. is_modified_in shared want.page x) missing)) shared.stabilisations one no_doubt inside in
        record {
          member =
              false_from_ne_true (is_member shared who one)
              (λ is.
              true≢false
              (sym (and_from (is_doubtful one.phase) (is_member shared who one || list_any (λ want. is_modified_in shared want.page one) missing) doubtful
              (or_left (is_member shared who one) (list_any (λ want. is_modified_in shared want.page one) missing) is))
              ∙ unmet));
          pages = λ want there.
              false_from_ne_true (is_modified_in shared want.page one)
              (λ is.
              true≢false
              (sym (and_from (is_doubtful one.phase) (is_member shared who one || list_any (λ other. is_modified_in shared other.page one) missing) doubtful
              (or_right (is_member shared who one) (list_any (λ other. is_modified_in shared other.page one) missing)
              (any_of (λ other. is_modified_in shared other.page one) missing want there is)))
              ∙ unmet));
        }
    by_phase (inr frozen) =
        let here : Contains (frozen_of shared) one = contains_filtered (λ (x : Stabilisation). not (is_doubtful x.phase)) shared.stabilisations one inside (ap not frozen) in
        record {
          member = false_from_ne_true (is_member shared who one) (λ is. find_none (is_member shared who) (frozen_of shared) free.0 one here is);
          pages = λ want there.
              false_from_ne_true (is_modified_in shared want.page one)
              (λ is.
              true≢false
              (sym (first_kept (λ other. find (is_modified_in shared other.page) (frozen_of shared)) missing want there
              (find_some (is_modified_in shared want.page) (frozen_of shared) one here is))
              ∙ ap is_some free.1));
        }

-- where missing wants are granted
pub granting_stays : (shared : Shared) (own : Own) (given : List ℕ) (wants : List Want) → IsClient own.who → AreOfClients shared.trail
    → AllowTheSame (rights_at shared own.who) own.held → AreFrozen shared → refused_missing shared own.who given (missing_of own.held wants) ≡ None
    → (after : Shared) (own_after : Own) → after.trail ≡ shared.trail ++ as_items (touches_by own.who (missing_of own.held wants))
    → after.stabilisations ≡ shared.stabilisations → own_after.held ≡ with_granted own.capacity wants own.held → Agrees (client_at after own.who) own_after
    → ((number : ℕ) → number ≢ own.who → client_at after number ≡ client_at shared number) → StaysFrozen shared after
granting_stays shared own given wants is_client clients known frozen unrefused_all after own_after grown same held agrees others =
    stays_mapped shared after (λ one. one) (same ∙ sym (map-id shared.stabilisations)) (λ one. refl) stay quiet (λ one inside. refl) (λ one inside sealed. sealed) frozen
  where
    missing : List Want
    missing = missing_of own.held wants

    out : none_missing missing ≡ false → (one : Stabilisation) → Contains shared.stabilisations one → IsOutside shared own.who missing one
    out some = outside shared own.who given missing some unrefused_all

    stay : AssociationsStay shared after
    stay one inside =
        ap (λ trail. association_of trail one.lead) grown
        ∙ ⊎_elim
        (λ none.
        ap (λ wanted. association_of (shared.trail ++ as_items (touches_by own.who wanted)) one.lead) (none_is_nil missing none)
        ∙ ap (λ trail. association_of trail one.lead) (append-nil shared.trail))
        (λ some. touches_leave shared.trail own.who missing one.lead clients is_client (out some one inside).member (out some one inside).pages)
        (cases_Bool (none_missing missing))

    quiet : (one : Stabilisation) → Contains shared.stabilisations one → IsQuiet after one
    quiet one inside who page member writes = by_number (cases_eq who own.who)
      where
        was : has_member who (association_of shared.trail one.lead) ≡ true
        was = sym (ap (has_member who) (stay one inside)) ∙ member

        by_number : (who ≡ own.who) ⊎ (who ≢ own.who) → (is_gathering one.phase ≡ true) × (has_member who one.awaited ≡ true)
        by_number (inr apart) =
            frozen.quiet one inside who page was (ap (λ place. allows (of_client [] (λ client. client.rights) place) page may.Write) (sym (others who apart)) ∙ writes)
        by_number (inl here) =
            ⊎_elim
            (λ had.
            frozen.quiet one inside who page was (ap (λ number. allows (rights_at shared number) page may.Write) here ∙ known page may.Write ∙ had))
            (λ new.
            ⊎_elim
            (λ none. absurd (true≢false (sym new ∙ ap (list_any (passes page may.Write)) (none_is_nil missing none))))
            (λ some.
            absurd (true≢false (sym was ∙ ap (λ number. has_member number (association_of shared.trail one.lead)) here ∙ (out some one inside).member)))
            (cases_Bool (none_missing missing)))
            (granted_allow own.capacity wants own.held page may.Write
            (sym (ap (λ list. allows list page may.Write) held)
            ∙ held_by_agreement (client_at after own.who) own_after agrees page may.Write (subst (λ number. allows (rights_at after number) page may.Write ≡ true) here writes)))
