use Rattle.std.proofs.Common.{◌≡◌, ℕ, ◌+◌, List, [], ◌++◌, Bool, true, false, cond, length, refl, sym, ap, ap₂, ◌∙◌, subst}
use Rattle.std.specs.Prelude.{Option, None, Some, nat_lt}
use Rattle.std.specs.Option.{option_or}
use Rattle.casper_words.specs.declared.page.Want.{Want}
use Rattle.casper_trail.specs.Parts.{as_items}
use Rattle.casper_trail.specs.Calls.{entries_by}
use Rattle.casper_trail.specs.TrailView.{entry_count, commit_count}
use Rattle.casper_cache.specs.Own as cache
use Rattle.casper_model.specs.declared.reply.Reply.{Reply}
use Rattle.casper_model.specs.declared.reply.Reply.TheVariants.{Pending, TrailFull}
use Rattle.casper_model.specs.Held.{missing_of}
use Rattle.casper_model.specs.Stabilisation.{is_empty}
use Rattle.casper_model.specs.Shared.{Shared, fallen_at}
use Rattle.casper_model.specs.Own.{Own}
use Rattle.casper_model.specs.Both.{Both, Turned, turned}
use Rattle.casper_model.specs.Opening.{opened, given_in_opening}
use Rattle.casper_model.specs.Acquire.{acquire, acquired_by, answered, with_asks, is_pending, refused_missing, refused_full, blocked_of}
use Rattle.casper_model.proofs.Additions.{trail_opened}
use Rattle.casper_hub.specs.declared.decide.Decision.TheVariants as decision
use Rattle.casper_hub.specs.HubView.{HubView, free_in}
use Rattle.casper_hub.specs.Shows.{Shows}
use Rattle.casper_hub.specs.Owned.{own_of}
use Rattle.casper_hub.specs.Given.{topped}
use Rattle.casper_hub.specs.Deciding.{missing_in, blockers_in, blocked_in, unframed_in, granted_or_load, decision_for}
use Rattle.casper_hub.specs.Stages.{Refuses, gathering_in, part_of}
use Rattle.casper_hub.specs.Turns.{IsTurn, IsLoad, IsRefused, first_unframed}
use Rattle.casper_hub.proofs.Whole.{Whole, Owning, fallen_shown}
use Rattle.casper_hub.proofs.TurnOpened.{opening_turn, own_opened, at_once_opened}
use Rattle.casper_frozen.specs.Refused.{refused_at_once}
use Rattle.casper_hub.proofs.DepartedTurns.{client_of_opening, refused_shows}
use Rattle.casper_hub.proofs.Blocking.{missing_same, blockers_same, blocked_same, refused_as_pending, refused_first}

-- What an acquire of the machine comes to, for a hub that stands for its shared part: decided by who stands in the way, and by room.

-- the refusal that the hub decides on: for who stands in the way, or for want of room
abbrev pub refusal_for : HubView → cache.Own → List Want → ℕ → ℕ → Option Reply
refusal_for hub own wants calls entries =
    let missing = missing_in hub.pages hub.clients own.client wants in
    let blockers = blockers_in hub.pages hub.clients own.client missing in
    option_or (cond (is_empty blockers) None (Some (Pending blockers)))
    (cond (nat_lt (topped own (free_in hub)) (length missing + calls)) (Some (TrailFull entries)) None)

-- the machine refuses for the same
refusal_same : (shared : Shared) (hub : HubView) (own : cache.Own) (wants : List Want) (calls : ℕ) → Shows shared hub → Whole hub → Owning hub own → gathering_in hub own.client ≡ None → refused_at_once (part_of hub) own.client (missing_in hub.pages hub.clients own.client wants) ≡ None
    → option_or (refused_missing (opened shared (own_of own)).shared (opened shared (own_of own)).own.who (given_in_opening shared (own_of own)) (missing_of (opened shared (own_of own)).own.held wants))
    (refused_full (opened shared (own_of own)) (missing_of (opened shared (own_of own)).own.held wants) calls)
    ≡ refusal_for hub own wants calls (entry_count (opened shared (own_of own)).shared.trail)
refusal_same shared hub own wants calls shows sound owns apart free =
    ap₂ (λ who missing. option_or (refused_missing both.shared who given missing) (refused_full both missing calls))
    (client_of_opening shared (own_of own)) (missing_same shared hub own wants shows sound owns apart)
    ∙ ap₂ (λ a b. option_or a b)
    (refused_as_pending both.shared own.client given missing (at_once_opened shared hub own missing shows sound owns apart ∙ free)
    ∙ ap (λ (blockers : List ℕ). cond (is_empty blockers) None (Some (Pending blockers))) (blockers_same shared hub own missing shows sound owns))
    (ap (λ (o : Own). cond (nat_lt o.cap (length missing + calls)) (Some (TrailFull (entry_count both.shared.trail))) None) (own_opened shared hub own shows sound owns apart))
  where
    both : Both
    both = opened shared (own_of own)

    given : List ℕ
    given = given_in_opening shared (own_of own)

    missing : List Want
    missing = missing_in hub.pages hub.clients own.client wants

-- so an acquire of the machine is answered by this refusal
pub acquire_answered : (shared : Shared) (hub : HubView) (own : cache.Own) (wants : List Want) (calls : ℕ) → Shows shared hub → Whole hub → Owning hub own → gathering_in hub own.client ≡ None → refused_at_once (part_of hub) own.client (missing_in hub.pages hub.clients own.client wants) ≡ None
    → acquire shared (own_of own) wants calls
    ≡ answered (opened shared (own_of own)) (given_in_opening shared (own_of own)) wants (missing_in hub.pages hub.clients own.client wants)
    (refusal_for hub own wants calls (entry_count (opened shared (own_of own)).shared.trail))
acquire_answered shared hub own wants calls shows sound owns apart free =
    ap (acquired_by shared (own_of own) wants calls) (fallen_shown shared hub own shows owns)
    ∙ ap₂ (λ missing refusal. answered (opened shared (own_of own)) (given_in_opening shared (own_of own)) wants missing refusal)
    (missing_same shared hub own wants shows sound owns apart) (refusal_same shared hub own wants calls shows sound owns apart free)

-- what a decision tells
pub decided_pending_is : (empty full : Bool) (missing blocked those : List Want) (blockers them : List ℕ) (unframed : Option Want)
    → decision.Pending them those ≡ cond empty (cond full decision.Full (granted_or_load missing unframed)) (decision.Pending blockers blocked)
    → (empty ≡ false) × (them ≡ blockers) × (those ≡ blocked)
decided_pending_is false full missing blocked those blockers them unframed e = (refl, cc, cc)
decided_pending_is true true missing blocked those blockers them unframed e = cc
decided_pending_is true false missing blocked those blockers them None e = cc
decided_pending_is true false missing blocked those blockers them (Some want) e = cc

pub decided_full_is : (empty full : Bool) (missing blocked : List Want) (blockers : List ℕ) (unframed : Option Want)
    → decision.Full ≡ cond empty (cond full decision.Full (granted_or_load missing unframed)) (decision.Pending blockers blocked)
    → (empty ≡ true) × (full ≡ true)
decided_full_is false full missing blocked blockers unframed e = cc
decided_full_is true true missing blocked blockers unframed e = (refl, refl)
decided_full_is true false missing blocked blockers None e = cc
decided_full_is true false missing blocked blockers (Some want) e = cc

pub decided_load_is : (empty full : Bool) (missing blocked : List Want) (blockers : List ℕ) (unframed : Option Want) (page : ℕ)
    → decision.Load page ≡ cond empty (cond full decision.Full (granted_or_load missing unframed)) (decision.Pending blockers blocked)
    → (empty ≡ true) × (full ≡ false) × ((want : Want) × ((unframed ≡ Some want) × (want.page ≡ page)))
decided_load_is false full missing blocked blockers unframed page e = cc
decided_load_is true true missing blocked blockers unframed page e = cc
decided_load_is true false missing blocked blockers None page e = cc
decided_load_is true false missing blocked blockers (Some want) page e = (refl, refl, (want, (refl, cc)))

pub decided_grant_is : (empty full : Bool) (missing blocked those : List Want) (blockers : List ℕ) (unframed : Option Want)
    → decision.Grant those ≡ cond empty (cond full decision.Full (granted_or_load missing unframed)) (decision.Pending blockers blocked)
    → (empty ≡ true) × (full ≡ false) × (those ≡ missing) × (unframed ≡ None)
decided_grant_is false full missing blocked those blockers unframed e = cc
decided_grant_is true true missing blocked those blockers unframed e = cc
decided_grant_is true false missing blocked those blockers None e = (refl, refl, cc, refl)
decided_grant_is true false missing blocked those blockers (Some want) e = cc

-- the refusal, by the decision
refusal_when : (hub : HubView) (own : cache.Own) (wants : List Want) (calls entries : ℕ) (empty full : Bool)
    → is_empty (blockers_in hub.pages hub.clients own.client (missing_in hub.pages hub.clients own.client wants)) ≡ empty
    → nat_lt (topped own (free_in hub)) (length (missing_in hub.pages hub.clients own.client wants) + calls) ≡ full
    → refusal_for hub own wants calls entries
    ≡ option_or (cond empty None (Some (Pending (blockers_in hub.pages hub.clients own.client (missing_in hub.pages hub.clients own.client wants))))) (cond full (Some (TrailFull entries)) None)
refusal_when hub own wants calls entries empty full is short =
    ap₂ (λ a b. option_or (cond a None (Some (Pending (blockers_in hub.pages hub.clients own.client (missing_in hub.pages hub.clients own.client wants))))) (cond b (Some (TrailFull entries)) None))
    is short

-- an acquire that the machine refuses leaves these asks
refused_so : (shared : Shared) (hub : HubView) (own : cache.Own) (wants : List Want) (calls : ℕ) (reply : Reply) (asks : List Want) → Shows shared hub → Whole hub → Owning hub own → gathering_in hub own.client ≡ None → refused_at_once (part_of hub) own.client (missing_in hub.pages hub.clients own.client wants) ≡ None
    → refusal_for hub own wants calls (entry_count (opened shared (own_of own)).shared.trail) ≡ Some reply
    → asks ≡ cond (is_pending reply) (blocked_in hub.pages hub.clients own.client (missing_in hub.pages hub.clients own.client wants)) []
    → acquire shared (own_of own) wants calls ≡ turned reply (with_asks asks (opened shared (own_of own)))
refused_so shared hub own wants calls reply asks shows sound owns apart free refused asks_are =
    acquire_answered shared hub own wants calls shows sound owns apart free
    ∙ ap (answered both (given_in_opening shared (own_of own)) wants missing) refused
    ∙ ap (λ list. turned reply (with_asks list both)) (sym asks_same)
  where
    both : Both
    both = opened shared (own_of own)

    missing : List Want
    missing = missing_in hub.pages hub.clients own.client wants

    asks_same : asks ≡ cond (is_pending reply) (blocked_of both.shared both.own.who (given_in_opening shared (own_of own)) missing) []
    asks_same =
        asks_are
        ∙ ap (λ list. cond (is_pending reply) list [])
        (sym (ap (λ who. blocked_of both.shared who (given_in_opening shared (own_of own)) missing) (client_of_opening shared (own_of own))
        ∙ blocked_same shared hub own missing shows sound owns))

-- so it is one that the hub refuses
pub refused_turn : (hub : HubView) (own : cache.Own) (wants : List Want) (calls : ℕ) (reply : Reply) (asks : List Want) (after : HubView) (own_after : cache.Own)
    → Whole hub → Owning hub own → (refuses : Refuses own.client asks hub own after own_after) → Whole refuses.opened → IsRefused hub own wants calls reply asks
    → IsTurn (λ shared own. acquire shared own wants calls) reply hub own after own_after
refused_turn hub own wants calls reply asks after own_after sound owns refuses sound_opened refused = record {
  replies = λ shared shows. sym (ap (λ (t : Turned Reply). t.reply) (refused shared shows));
  shows = λ shared shows.
      subst (λ (t : Turned Reply). Shows t.shared after) (sym (refused shared shows))
      (refused_shows shared hub own asks after own_after shows sound owns refuses sound_opened);
  owns = λ shared shows.
      (opening_turn hub own refuses.opened own_after sound owns refuses.opens).owns shared shows
      ∙ sym (ap (λ (t : Turned Reply). t.own) (refused shared shows));
}

-- an acquire that the hub leaves pending the machine refuses
pub pending_refused : (hub : HubView) (own : cache.Own) (wants blocked : List Want) (blockers : List ℕ) (calls : ℕ) → Whole hub → Owning hub own → gathering_in hub own.client ≡ None → refused_at_once (part_of hub) own.client (missing_in hub.pages hub.clients own.client wants) ≡ None
    → decision.Pending blockers blocked ≡ decision_for hub.pages hub.clients own.client wants calls (topped own (free_in hub))
    → IsRefused hub own wants calls (Pending blockers) blocked
pending_refused hub own wants blocked blockers calls sound owns apart free made shared shows =
    refused_so shared hub own wants calls (Pending blockers) blocked shows sound owns apart free
    (refusal_when hub own wants calls (entry_count (opened shared (own_of own)).shared.trail) false (nat_lt (topped own (free_in hub)) (length missing + calls)) told.0 refl
    ∙ ap (λ list. Some (Pending list)) (sym told.1))
    told.2
  where
    missing : List Want
    missing = missing_in hub.pages hub.clients own.client wants

    told : (is_empty (blockers_in hub.pages hub.clients own.client missing) ≡ false) × (blockers ≡ blockers_in hub.pages hub.clients own.client missing)
        × (blocked ≡ blocked_in hub.pages hub.clients own.client missing)
    told =
        decided_pending_is (is_empty (blockers_in hub.pages hub.clients own.client missing)) (nat_lt (topped own (free_in hub)) (length missing + calls)) missing
        (blocked_in hub.pages hub.clients own.client missing) blocked (blockers_in hub.pages hub.clients own.client missing) blockers (unframed_in hub.pages missing) made

-- an acquire for which the hub has too little room the machine refuses
pub full_refused : (hub : HubView) (own : cache.Own) (wants : List Want) (calls : ℕ) → Whole hub → Owning hub own → gathering_in hub own.client ≡ None → refused_at_once (part_of hub) own.client (missing_in hub.pages hub.clients own.client wants) ≡ None
    → decision.Full ≡ decision_for hub.pages hub.clients own.client wants calls (topped own (free_in hub))
    → IsRefused hub own wants calls (TrailFull (entry_count (hub.trail ++ as_items (entries_by own.client own.pending)))) []
full_refused hub own wants calls sound owns apart free made shared shows =
    let entries : entry_count (opened shared (own_of own)).shared.trail ≡ entry_count (hub.trail ++ as_items (entries_by own.client own.pending)) =
    ap entry_count (trail_opened shared (own_of own) ∙ ap (λ trail. trail ++ as_items (entries_by own.client own.pending)) shows.trail) in
    refused_so shared hub own wants calls (TrailFull (entry_count (hub.trail ++ as_items (entries_by own.client own.pending)))) [] shows sound owns apart free
    (refusal_when hub own wants calls (entry_count (opened shared (own_of own)).shared.trail) true true told.0 told.1 ∙ ap (λ n. Some (TrailFull n)) entries)
    refl
  where
    missing : List Want
    missing = missing_in hub.pages hub.clients own.client wants

    told : (is_empty (blockers_in hub.pages hub.clients own.client missing) ≡ true) × (nat_lt (topped own (free_in hub)) (length missing + calls) ≡ true)
    told =
        decided_full_is (is_empty (blockers_in hub.pages hub.clients own.client missing)) (nat_lt (topped own (free_in hub)) (length missing + calls)) missing
        (blocked_in hub.pages hub.clients own.client missing) (blockers_in hub.pages hub.clients own.client missing) (unframed_in hub.pages missing) made

-- the machine grants what nobody stands in the way of and for which there is room
pub granted_answer : (shared : Shared) (hub : HubView) (own : cache.Own) (wants : List Want) (calls : ℕ) → Shows shared hub → Whole hub → Owning hub own → gathering_in hub own.client ≡ None → refused_at_once (part_of hub) own.client (missing_in hub.pages hub.clients own.client wants) ≡ None
    → is_empty (blockers_in hub.pages hub.clients own.client (missing_in hub.pages hub.clients own.client wants)) ≡ true
    → nat_lt (topped own (free_in hub)) (length (missing_in hub.pages hub.clients own.client wants) + calls) ≡ false
    → acquire shared (own_of own) wants calls
    ≡ answered (opened shared (own_of own)) (given_in_opening shared (own_of own)) wants (missing_in hub.pages hub.clients own.client wants) None
granted_answer shared hub own wants calls shows sound owns apart free empty short =
    acquire_answered shared hub own wants calls shows sound owns apart free
    ∙ ap (answered (opened shared (own_of own)) (given_in_opening shared (own_of own)) wants (missing_in hub.pages hub.clients own.client wants))
    (refusal_when hub own wants calls (entry_count (opened shared (own_of own)).shared.trail) true false empty short)

-- a page has to be read first where the machine would grant the acquire
pub load_turn : (hub : HubView) (own : cache.Own) (wants : List Want) (calls page marks : ℕ) → Whole hub → Owning hub own → gathering_in hub own.client ≡ None → refused_at_once (part_of hub) own.client (missing_in hub.pages hub.clients own.client wants) ≡ None
    → decision.Load page ≡ decision_for hub.pages hub.clients own.client wants calls (topped own (free_in hub)) → marks ≡ commit_count hub.trail
    → IsLoad hub own wants calls page marks hub own
load_turn hub own wants calls page marks sound owns apart free made counted = record {
  granted = λ shared shows. ap (λ (t : Turned Reply). t.reply) (granted_answer shared hub own wants calls shows sound owns apart free told.0 told.1);
  first = λ shared shows.
      (told.2.0, (ap (first_unframed hub) (missing_same shared hub own wants shows sound owns apart) ∙ told.2.1.0, told.2.1.1));
  counted = counted;
  same = refl;
  own_same = refl;
}
  where
    missing : List Want
    missing = missing_in hub.pages hub.clients own.client wants

    told : (is_empty (blockers_in hub.pages hub.clients own.client missing) ≡ true) × (nat_lt (topped own (free_in hub)) (length missing + calls) ≡ false)
        × ((want : Want) × ((unframed_in hub.pages missing ≡ Some want) × (want.page ≡ page)))
    told =
        decided_load_is (is_empty (blockers_in hub.pages hub.clients own.client missing)) (nat_lt (topped own (free_in hub)) (length missing + calls)) missing
        (blocked_in hub.pages hub.clients own.client missing) (blockers_in hub.pages hub.clients own.client missing) (unframed_in hub.pages missing) page made

-- what is refused at once the machine refuses, and no asks are left
pub refused_at_once_by : (shared : Shared) (own : Own) (wants : List Want) (calls : ℕ) (reply : Reply) → fallen_at shared own.who ≡ None
    → refused_at_once (opened shared own).shared own.who (missing_of (opened shared own).own.held wants) ≡ Some reply → is_pending reply ≡ false
    → acquire shared own wants calls ≡ turned reply (with_asks [] (opened shared own))
refused_at_once_by shared own wants calls reply up refused asks_nothing =
    ap (acquired_by shared own wants calls) up
    ∙ ap (λ refusal. answered both given wants missing (option_or refusal (refused_full both missing calls)))
    (refused_first both.shared both.own.who given missing reply
    (ap (λ who. refused_at_once both.shared who missing) (client_of_opening shared own) ∙ refused))
    ∙ ap (λ asks. turned reply (with_asks (cond asks (blocked_of both.shared both.own.who given missing) []) both)) asks_nothing
  where
    both : Both
    both = opened shared own

    given : List ℕ
    given = given_in_opening shared own

    missing : List Want
    missing = missing_of both.own.held wants
