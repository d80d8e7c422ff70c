use Rattle.std.proofs.Common.{◌≡◌, ◌≢◌, ℕ, List, [], true, refl, sym, ap, ◌∙◌, subst}
use Rattle.std.specs.Prelude.{Option, None, Some}
use Rattle.casper_words.specs.Crew.{IsClient}
use Rattle.casper_words.specs.declared.page.Right.TheVariants as may
use Rattle.casper_words.specs.declared.page.Want.{Want}
use Rattle.casper_trail.specs.Association.{association_of}
use Rattle.casper_model.specs.Held.{allows, missing_of}
use Rattle.casper_model.specs.Own.{Own}
use Rattle.casper_model.specs.Stabilisation.{Stabilisation}
use Rattle.casper_model.specs.Shared.{Shared, rights_at, client_at, fallen_at}
use Rattle.casper_model.specs.Opening.{begun, given_up, gathering_of, handed_in_to, opened, given_in_opening}
use Rattle.casper_model.specs.Rights.{TurnStands, Agrees, TurnKeeps}
use Rattle.casper_turns.specs.Good.{MayRecord}
use Rattle.casper_model.proofs.OpeningRights.{IsUp, known_opened, opened_allows_no_more, others_opened}
use Rattle.casper_model.proofs.Additions.{trail_opened, who_opened}
use Rattle.casper_model.proofs.TurnRights.{keeps_opened, rights_known, up_as_it_stands}
use Rattle.casper_turns.specs.Frozen.{AreFrozen}
use Rattle.casper_turns.proofs.Touches.{calls_leave}
use Rattle.casper_turns.proofs.FrozenChanges.{MayWriteNoMore, AssociationsStay, StaysFrozen, stays_same, less_by_turn, stays_both}
use Rattle.std.specs.Option.{option_or}
use Rattle.casper_trail.specs.Parts.{as_items}
use Rattle.casper_trail.specs.Calls.{entries_by}
use Rattle.casper_trail.specs.Clients.{AreOfClients}
use Rattle.casper_trail.proofs.CallLists.{clients_of_more, clients_of_calls}
use Rattle.casper_model.specs.declared.reply.Reply.{Reply}
use Rattle.casper_model.specs.Client.{Fallen}
use Rattle.casper_model.specs.Both.{Both}
use Rattle.casper_model.specs.Acquire.{acquire, acquired_by, answered, granted, with_asks, refused_missing, refused_full}
use Rattle.casper_model.specs.Leave.{serve, served_by}
use Rattle.casper_model.proofs.Conflicts.{neither}
use Rattle.casper_model.proofs.AcquireRights.{keeps_acquire}
use Rattle.casper_turns.proofs.OpeningFrozen.{gathering_found, handing_stays, lowered_writes_not}
use Rattle.casper_turns.proofs.TurnFrozen.{asked_stays, granting_stays, told_stays}

opened_stays : (shared : Shared) (own : Own) → AreFrozen shared → (gathering : Option Stabilisation) → gathering_of (given_up (begun shared own)).shared own.who ≡ gathering
    → AssociationsStay shared (handed_in_to (given_up (begun shared own)) gathering).shared
    → MayWriteNoMore shared (handed_in_to (given_up (begun shared own)) gathering).shared
    → ((page : ℕ) → allows (rights_at (handed_in_to (given_up (begun shared own)) gathering).shared own.who) page may.Write ≡ true
    → allows (handed_in_to (given_up (begun shared own)) gathering).own.held page may.Write ≡ true)
    → StaysFrozen shared (handed_in_to (given_up (begun shared own)) gathering).shared
opened_stays shared own frozen None e stay less held = stays_same shared (given_up (begun shared own)).shared refl stay less frozen
opened_stays shared own frozen (Some g) e stay less held =
    let found = gathering_found (given_up (begun shared own)).shared own.who g e in
    handing_stays shared (handed_in_to (given_up (begun shared own)) (Some g)).shared own.who g found.0 found.1 refl stay less
    (λ page writes. lowered_writes_not (given_up (begun shared own)).own.held page (held page writes)) frozen

-- an opening leaves the stabilisations in order
pub opening_stays : (shared : Shared) (own : Own) → IsClient own.who → TurnStands shared own → IsUp shared own.who
    → MayRecord shared.trail own → AreFrozen shared → StaysFrozen shared (opened shared own).shared
opening_stays shared own is_client stands is good frozen =
    opened_stays shared own frozen (gathering_of (given_up (begun shared own)).shared own.who) refl
    (λ one inside. trail_leaves one.lead)
    (less_by_turn shared own (opened shared own).shared (opened shared own).own stands is (keeps_opened shared own stands is) (opened_allows_no_more shared own))
    (λ page writes.
    sym (ap (λ rights. allows rights page may.Write) known)
    ∙ writes)
  where
    known : rights_at (opened shared own).shared own.who ≡ (opened shared own).own.held
    known = ap (rights_at (opened shared own).shared) (sym (who_opened shared own)) ∙ rights_known (opened shared own).shared (opened shared own).own (known_opened shared own is)

    trail_leaves : (lead : ℕ) → association_of (opened shared own).shared.trail lead ≡ association_of shared.trail lead
    trail_leaves lead = ap (λ trail. association_of trail lead) (trail_opened shared own) ∙ calls_leave shared.trail own is_client good lead

answered_stays : (shared : Shared) (own : Own) (given : List ℕ) (wants : List Want) (calls : ℕ) → IsClient own.who → TurnStands shared own
    → IsUp shared own.who → MayRecord shared.trail own → AreOfClients shared.trail → AreFrozen shared → (refusal : Option Reply)
    → option_or (refused_missing (opened shared own).shared (opened shared own).own.who given (missing_of (opened shared own).own.held wants))
    (refused_full (opened shared own) (missing_of (opened shared own).own.held wants) calls) ≡ refusal
    → TurnKeeps shared own (answered (opened shared own) given wants (missing_of (opened shared own).own.held wants) refusal).shared
    (answered (opened shared own) given wants (missing_of (opened shared own).own.held wants) refusal).own
    → StaysFrozen shared (answered (opened shared own) given wants (missing_of (opened shared own).own.held wants) refusal).shared
answered_stays shared own given wants calls is_client stands is good clients frozen (Some reply) e keeps =
    let first = opening_stays shared own is_client stands is good frozen in
    stays_both shared (opened shared own).shared _ first (asked_stays _ (opened shared own) first.frozen)
answered_stays shared own given wants calls is_client stands is good clients frozen None e keeps =
    stays_both shared both.shared after (opening_stays shared own is_client stands is good frozen)
    (granting_stays both.shared both.own given wants (subst IsClient (sym who_is) is_client)
    (subst AreOfClients (sym (trail_opened shared own))
    (clients_of_more shared.trail (as_items (entries_by own.who own.pending)) clients (clients_of_calls own.who own.pending is_client)))
    (λ page right. ap (λ rights. allows rights page right) (rights_known both.shared both.own (known_opened shared own is)))
    (opening_stays shared own is_client stands is good frozen).frozen
    (neither (refused_missing both.shared both.own.who given (missing_of both.own.held wants)) (refused_full both (missing_of both.own.held wants) calls) e).0
    after own_after refl refl refl
    (subst (λ number. Agrees (client_at after number) own_after) (sym who_is) keeps.agrees)
    (λ number apart.
    let away : number ≢ own.who = λ same. apart (same ∙ sym who_is) in
    keeps.others number away ∙ sym (others_opened shared own number away)))
  where
    both : Both
    both = opened shared own

    who_is : both.own.who ≡ own.who
    who_is = who_opened shared own

    after : Shared
    after = (granted wants (missing_of both.own.held wants) (with_asks [] both)).shared

    own_after : Own
    own_after = (granted wants (missing_of both.own.held wants) (with_asks [] both)).own

pub acquired_stays : (wants : List Want) (calls : ℕ) (shared : Shared) (own : Own) → IsClient own.who → TurnStands shared own
    → (IsUp shared own.who → MayRecord shared.trail own) → AreOfClients shared.trail → AreFrozen shared → (fallen : Option Fallen) → fallen_at shared own.who ≡ fallen
    → TurnKeeps shared own (acquired_by shared own wants calls fallen).shared (acquired_by shared own wants calls fallen).own
    → StaysFrozen shared (acquired_by shared own wants calls fallen).shared
acquired_stays wants calls shared own is_client stands good clients frozen (Some fallen) e keeps = told_stays shared own frozen
acquired_stays wants calls shared own is_client stands good clients frozen None e keeps =
    let is = up_as_it_stands shared own stands e in
    answered_stays shared own (given_in_opening shared own) wants calls is_client stands is (good is) clients frozen _ refl keeps

pub acquire_stays : (wants : List Want) (calls : ℕ) (shared : Shared) (own : Own) → IsClient own.who → TurnStands shared own
    → (IsUp shared own.who → MayRecord shared.trail own) → AreOfClients shared.trail → AreFrozen shared
    → StaysFrozen shared (acquire shared own wants calls).shared
acquire_stays wants calls shared own is_client stands good clients frozen =
    acquired_stays wants calls shared own is_client stands good clients frozen (fallen_at shared own.who) refl (keeps_acquire wants calls shared own stands)

pub served_stays : (shared : Shared) (own : Own) → IsClient own.who → TurnStands shared own
    → (IsUp shared own.who → MayRecord shared.trail own) → AreFrozen shared → (fallen : Option Fallen) → fallen_at shared own.who ≡ fallen
    → StaysFrozen shared (served_by shared own fallen).shared
served_stays shared own is_client stands good frozen (Some fallen) e = told_stays shared own frozen
served_stays shared own is_client stands good frozen None e =
    let is = up_as_it_stands shared own stands e in opening_stays shared own is_client stands is (good is) frozen

pub serve_stays : (shared : Shared) (own : Own) → IsClient own.who → TurnStands shared own
    → (IsUp shared own.who → MayRecord shared.trail own) → AreFrozen shared → StaysFrozen shared (serve shared own).shared
serve_stays shared own is_client stands good frozen = served_stays shared own is_client stands good frozen (fallen_at shared own.who) refl
