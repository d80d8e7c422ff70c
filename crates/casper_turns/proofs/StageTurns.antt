use Rattle.std.proofs.Common.{arith, ◌≡◌, ◌≢◌, ℕ, List, [], ◌++◌, true, length, refl, sym, ap, ◌∙◌, subst, inl, inr, ⊎_elim, append-nil}
use Rattle.std.specs.Prelude.{Option, None, Some, option_map, is_some}
use Rattle.std.specs.Option.{option_or}
use Rattle.std.proofs.Math.Nat.{min-le_left}
use Rattle.std.proofs.lemmas.Bool.{cases_eq, and_parts}
use Rattle.casper_words.specs.declared.page.Right.TheVariants as may
use Rattle.casper_words.specs.declared.page.Want.{Want}
use Rattle.casper_trail.specs.Parts.{as_items}
use Rattle.casper_trail.specs.Calls.{entries_by}
use Rattle.casper_trail.proofs.Rounds.{list_any_implies}
use Rattle.casper_model.specs.declared.outcome.Kept.{Kept}
use Rattle.casper_model.specs.declared.reply.Reply.{Reply}
use Rattle.casper_model.specs.Acquire.{acquired, answered, granted, with_asks, refused_missing, refused_full, touches_by}
use Rattle.casper_model.specs.Both.{Both}
use Rattle.casper_model.specs.Client.{Client}
use Rattle.casper_model.specs.Frozen.{stabilisation_of}
use Rattle.casper_model.specs.Held.{is_of, covers, allows, missing_of}
use Rattle.casper_model.specs.Opening.{kept_dropped, recorded, begun, given_up, gathering_of, handed_in, handed_in_to}
use Rattle.casper_model.specs.Own.{Own}
use Rattle.casper_model.specs.Room.{most_cap}
use Rattle.casper_model.specs.Rights.{Agrees, AgreesUnlessFallen, AllowTheSame, TurnStands, TurnKeeps}
use Rattle.casper_model.specs.Shared.{Shared, client_at, of_client, rights_at, fallen_at, is_live}
use Rattle.casper_model.specs.Stabilisation.{Stabilisation}
use Rattle.casper_model.specs.Stabilise.{stabilised, stabilised_in, frozen_by}
use Rattle.casper_model.proofs.AcquireRights.{within_places}
use Rattle.casper_model.proofs.Caps.{IsRoomy, roomy_same, first_roomy, topped_roomy}
use Rattle.casper_model.proofs.Conflicts.{neither}
use Rattle.casper_model.proofs.Entries.{added_by}
use Rattle.casper_model.proofs.GrantedRights.{granted_allow}
use Rattle.casper_model.proofs.HeldRights.{passes, lowered_allow_no_more}
use Rattle.casper_model.proofs.OpeningRights.{IsUp, IsKnown, up_changed, known_agreed, up_known, others_agreed, places_agreed, places_changed, given_up_allows_no_more, exclusive_with_less}
use Rattle.casper_model.proofs.Places.{client_changed, client_unchanged}
use Rattle.casper_model.proofs.RoomSteps.{answered_within, stabilised_in_within}
use Rattle.casper_model.proofs.StabiliseRights.{keeps_with_stabilisations}
use Rattle.casper_model.proofs.TurnHistory.{Records}
use Rattle.casper_model.proofs.TurnRights.{keeps_with_less, agrees_known, fallen_known, rights_known, rights_are_held, up_as_it_stands}
use Rattle.casper_turns.specs.Good.{IsGoodShared, IsGoodWith}
use Rattle.casper_turns.specs.StageLaws.{both_of, IsStage, EachStageKeeps, EachStageGoesOn, TellingKeeps, LeavingKeeps, KeptAgain}
use Rattle.casper_turns.proofs.FrozenChanges.{stays_itself, stays_same, less_by_turn}
use Rattle.casper_turns.proofs.GrantRights.{exclusive_by_grant}
use Rattle.casper_turns.proofs.LeaveFrozen.{stabilised_in_stays}
use Rattle.casper_turns.proofs.NotedMembers.{notes_same, notes_handed_in, notes_answered, notes_stabilised_in}
use Rattle.casper_turns.proofs.OpeningFrozen.{handing_stays, gathering_found, lowered_writes_not}
use Rattle.casper_turns.proofs.Recorded.{Did, kept_recorded, stands_good, may_record}
use Rattle.casper_turns.proofs.Stages.{kept_again, kept_told, kept_absent}
use Rattle.casper_turns.proofs.Touches.{calls_leave}
use Rattle.casper_turns.proofs.TurnFrozen.{asked_stays, granting_stays}

module _ (shared : Shared) (own : Own) (good : IsGoodShared shared) (mine : IsGoodWith shared own) (live : is_live shared own.who ≡ true)
    (up : fallen_at shared own.who ≡ None) where
  stands : TurnStands shared own
  stands = stands_good shared own good mine live

  there : IsUp shared own.who
  there = up_as_it_stands shared own stands up

  roomy : IsRoomy shared own
  roomy = record {
    known = record {
      client = there.client;
      live = there.live;
      up = there.up;
      cap = (subst (AgreesUnlessFallen there.client own) there.up (subst (λ place. Agrees place own) there.live mine.agrees)).0;
    };
    below = within_places shared own stands;
    within = good.within;
  }

  -- the calls are recorded, and the cap topped up
  known_begun : IsKnown (begun shared own).shared (begun shared own).own
  known_begun =
      let first = recorded (kept_dropped own.who shared) own in
      let dropped = up_changed own.who (λ client. record client { kept = None }) shared (λ client up. up) there in
      let one : IsKnown first.shared first.own =
      known_agreed (record (kept_dropped own.who shared) { trail = first.shared.trail }) first.own
      (record { client = dropped.client; live = dropped.live; up = dropped.up }) in
      known_agreed first.shared (begun shared own).own (up_known first.shared first.own one)

  others_begun : (number : ℕ) → number ≢ own.who → client_at (begun shared own).shared number ≡ client_at shared number
  others_begun number apart =
      let first = recorded (kept_dropped own.who shared) own in
      others_agreed first.shared (begun shared own).own number apart
      ∙ others_agreed (record (kept_dropped own.who shared) { trail = first.shared.trail }) first.own number apart
      ∙ client_unchanged own.who (λ client. record client { kept = None }) shared number apart

  places_begun : length (begun shared own).shared.clients ≡ length shared.clients
  places_begun =
      let first = recorded (kept_dropped own.who shared) own in
      places_agreed first.shared (begun shared own).own
      ∙ places_agreed (record (kept_dropped own.who shared) { trail = first.shared.trail }) first.own
      ∙ places_changed own.who (λ client. record client { kept = None }) shared

  keeps_begun : TurnKeeps shared own (begun shared own).shared (begun shared own).own
  keeps_begun =
      keeps_with_less shared own (begun shared own).shared (begun shared own).own stands there refl places_begun others_begun known_begun (λ page right found. found)

  did_begun : Did shared own (begun shared own).shared (begun shared own).own
  did_begun = record {
    records = record {
      wants = [];
      trail = ap (λ entries. shared.trail ++ as_items entries) (sym (append-nil (entries_by own.who own.pending)));
      who = refl;
      pending = refl;
      pages = λ page found. inl found;
    };
    keeps = keeps_begun;
    stays =
        stays_same shared (begun shared own).shared refl (λ one inside. calls_leave shared.trail own mine.client (may_record shared own good mine up) one.lead)
        (less_by_turn shared own (begun shared own).shared (begun shared own).own stands there keeps_begun (λ page right found. found)) good.frozen;
    notes = notes_same shared (begun shared own).shared refl;
    within = (topped_roomy (recorded (kept_dropped own.who shared) own) (first_roomy shared own roomy mine.room)).within;
    most = λ before. min-le_left most_cap _;
    limit = refl;
    pages = refl;
    capacity = refl;
  }

  -- after that nothing is pending
  module _ (none : own.pending ≡ []) where
    no_more : shared.trail ≡ shared.trail ++ as_items (added_by own.who own.pending [])
    no_more = sym (ap (λ calls. shared.trail ++ as_items (added_by own.who calls [])) none ∙ append-nil shared.trail)

    records_less : (after : Shared) (own_after : Own) → after.trail ≡ shared.trail → own_after.who ≡ own.who → own_after.pending ≡ own.pending
        → ((page : ℕ) → allows own_after.held page may.Read ≡ true → allows own.held page may.Read ≡ true) → Records shared own after own_after
    records_less after own_after trail who pending less = record {
      wants = [];
      trail = trail ∙ no_more;
      who = who;
      pending = pending ∙ none;
      pages = λ page found. inl (less page found);
    }

    -- pages are given up to the asks of others
    did_given_up : Did shared own (given_up (both_of shared own)).shared (given_up (both_of shared own)).own
    did_given_up =
        let both = both_of shared own in
        let own_after = (given_up both).own in
        let less = given_up_allows_no_more both in
        let keeps = keeps_with_less shared own (given_up both).shared own_after stands there refl (places_agreed shared own_after) (others_agreed shared own_after)
        (known_agreed shared own_after there) less in
        record {
          records = records_less (given_up both).shared own_after refl refl refl (λ page found. less page may.Read found);
          keeps = keeps;
          stays = stays_same shared (given_up both).shared refl (λ one inside. refl) (less_by_turn shared own (given_up both).shared own_after stands there keeps less) good.frozen;
          notes = notes_same shared (given_up both).shared refl;
          within = (roomy_same shared own own_after roomy refl refl).within;
          most = λ before. before;
          limit = refl;
          pages = refl;
          capacity = refl;
        }

    -- and to no one
    did_nothing : Did shared own shared own
    did_nothing = record {
      records = records_less shared own refl refl refl (λ page found. found);
      keeps = keeps_nothing;
      stays = stays_itself shared good.frozen;
      notes = notes_same shared shared refl;
      within = good.within;
      most = λ before. before;
      limit = refl;
      pages = refl;
      capacity = refl;
    }
      where
        keeps_nothing : TurnKeeps shared own shared own
        keeps_nothing = record {
          who = refl;
          places = good.places;
          others = λ number apart. refl;
          agrees = mine.agrees;
          up = up;
          exclusive = good.exclusive;
        }

    -- pages that are held for writing are handed in to a gathering
    keeps_handed : TurnKeeps shared own (handed_in (both_of shared own)).shared (handed_in (both_of shared own)).own
    keeps_handed =
        let own_after = (handed_in (both_of shared own)).own in
        keeps_with_less shared own (handed_in (both_of shared own)).shared own_after stands there refl (places_agreed shared own_after) (others_agreed shared own_after)
        (known_agreed shared own_after there) (lowered_allow_no_more own.held)

    did_handed_in : (gathering : Option Stabilisation) → gathering_of shared own.who ≡ gathering
        → Did shared own (handed_in_to (both_of shared own) gathering).shared (handed_in_to (both_of shared own) gathering).own
    did_handed_in None e = did_nothing
    did_handed_in (Some g) e =
        let both = both_of shared own in
        let after = (handed_in_to both (Some g)).shared in
        let own_after = (handed_in both).own in
        let keeps = keeps_with_stabilisations shared own (handed_in both).shared own_after after.stabilisations keeps_handed in
        let found = gathering_found shared own.who g e in
        let known : rights_at after own.who ≡ own_after.held = rights_known (handed_in both).shared own_after (known_agreed shared own_after there) in
        record {
          records = records_less after own_after refl refl refl (λ page held. lowered_allow_no_more own.held page may.Read held);
          keeps = keeps;
          stays =
              handing_stays shared after own.who g found.0 found.1 refl (λ one inside. refl)
              (less_by_turn shared own after own_after stands there keeps (lowered_allow_no_more own.held))
              (λ page writes. lowered_writes_not own.held page (sym (ap (λ rights. allows rights page may.Write) known) ∙ writes)) good.frozen;
          notes = notes_handed_in shared both (Some g) refl;
          within = (roomy_same shared own own_after roomy refl refl).within;
          most = λ before. before;
          limit = refl;
          pages = refl;
          capacity = refl;
        }

    -- asks are set
    module _ (asks : List Want) where
      abbrev asking : Client → Client
      asking client = record client { asks = asks }

      abbrev asked : Shared
      asked = (with_asks asks (both_of shared own)).shared

      live_asked : client_at asked own.who ≡ Some (asking there.client)
      live_asked = client_changed own.who asking shared ∙ ap (option_map asking) there.live

      agrees_asked : AgreesUnlessFallen (asking there.client) own there.client.fallen
      agrees_asked =
          let parts : (there.client.cap ≡ own.cap) × AllowTheSame there.client.rights own.held =
          subst (AgreesUnlessFallen there.client own) there.up (subst (λ place. Agrees place own) there.live mine.agrees) in
          subst (AgreesUnlessFallen (asking there.client) own) (sym there.up) parts

      rights_asked : (number : ℕ) → rights_at asked number ≡ rights_at shared number
      rights_asked number =
          ⊎_elim
          (λ same. ap (rights_at asked) same ∙ ap (of_client [] (λ (client : Client). client.rights)) (client_changed own.who asking shared)
          ∙ rights_kept (client_at shared own.who) ∙ ap (rights_at shared) (sym same))
          (λ apart. ap (of_client [] (λ (client : Client). client.rights)) (client_unchanged own.who asking shared number apart)) (cases_eq number own.who)
        where
          rights_kept : (place : Option Client) → of_client [] (λ (client : Client). client.rights) (option_map asking place) ≡ of_client [] (λ (client : Client). client.rights) place
          rights_kept None = refl
          rights_kept (Some client) = refl

      others_asked : (number : ℕ) → number ≢ own.who → client_at asked number ≡ client_at shared number
      others_asked number apart = client_unchanged own.who asking shared number apart

      keeps_asked : TurnKeeps shared own asked own
      keeps_asked = record {
        who = refl;
        places = places_changed own.who asking shared ∙ good.places;
        others = others_asked;
        agrees = subst (λ place. Agrees place own) (sym live_asked) agrees_asked;
        up = ap (of_client None (λ (client : Client). client.fallen)) live_asked ∙ there.up;
        exclusive = exclusive_with_less shared asked (λ number page right found. sym (ap (λ rights. allows rights page right) (rights_asked number)) ∙ found) good.exclusive;
      }

    -- missing wants are granted that are in conflict with nobody
    module _ (given : List ℕ) (wants : List Want) where
      abbrev missing : List Want
      missing = missing_of own.held wants

      abbrev granting : Both
      granting = granted wants (missing_of own.held wants) (with_asks [] (both_of shared own))

      abbrev touched : Shared
      touched = record (asked []) { trail = (asked []).trail ++ as_items (touches_by own.who (missing_of own.held wants)) }

      known_granted : IsKnown granting.shared granting.own
      known_granted = known_agreed touched granting.own (record { client = asking [] there.client; live = live_asked []; up = there.up })

      others_granted : (number : ℕ) → number ≢ own.who → client_at granting.shared number ≡ client_at shared number
      others_granted number apart = others_agreed touched granting.own number apart ∙ others_asked [] number apart

      keeps_granted : refused_missing shared own.who given missing ≡ None → TurnKeeps shared own granting.shared granting.own
      keeps_granted unrefused = record {
        who = refl;
        places = places_agreed touched granting.own ∙ places_changed own.who (asking []) shared ∙ good.places;
        others = others_granted;
        agrees = agrees_known granting.shared granting.own known_granted;
        up = fallen_known granting.shared granting.own known_granted;
        exclusive =
            exclusive_by_grant shared granting.shared own.who own.capacity own.held wants given good.places good.nobody good.exclusive
            (rights_are_held shared own stands there) (rights_known granting.shared granting.own known_granted)
            (λ number apart. ap (of_client [] (λ (client : Client). client.rights)) (others_granted number apart)) unrefused;
      }

      records_granted : Records shared own granting.shared granting.own
      records_granted = record {
        wants = missing;
        trail = ap (λ calls. shared.trail ++ as_items (added_by own.who calls missing)) (sym none);
        who = refl;
        pending = none;
        pages = λ page found.
            ⊎_elim inl
            (λ new. inr (list_any_implies (passes page may.Read) (is_of page) (λ want both. (and_parts (is_of page want) (covers want.right may.Read) both).0) missing new))
            (granted_allow own.capacity wants own.held page may.Read found);
      }

      did_answered : (calls : ℕ) (refusal : Option Reply)
          → option_or (refused_missing shared own.who given missing) (refused_full (both_of shared own) missing calls) ≡ refusal
          → Did shared own (answered (both_of shared own) given wants missing refusal).shared (answered (both_of shared own) given wants missing refusal).own
      did_answered calls None e =
          let unrefused = (neither (refused_missing shared own.who given missing) (refused_full (both_of shared own) missing calls) e).0 in
          let keeps = keeps_granted unrefused in
          record {
            records = records_granted;
            keeps = keeps;
            stays =
                granting_stays shared own given wants mine.client good.exact.clients (rights_are_held shared own stands there) good.frozen unrefused granting.shared granting.own
                refl refl refl keeps.agrees others_granted;
            notes = notes_answered (both_of shared own) given wants missing None;
            within = answered_within (both_of shared own) given wants missing calls None roomy e;
            most = λ before. omega arith;
            limit = refl;
            pages = refl;
            capacity = refl;
          }
      did_answered calls (Some reply) e = record {
        records = records_less (answered (both_of shared own) given wants missing (Some reply)).shared own refl refl refl (λ page found. found);
        keeps = keeps_asked _;
        stays = asked_stays _ (both_of shared own) good.frozen;
        notes = notes_answered (both_of shared own) given wants missing (Some reply);
        within = answered_within (both_of shared own) given wants missing calls (Some reply) roomy e;
        most = λ before. before;
        limit = refl;
        pages = refl;
        capacity = refl;
      }

    did_wanted : (given : List ℕ) (wants : List Want) (calls : ℕ)
        → Did shared own (acquired (both_of shared own) given wants calls).shared (acquired (both_of shared own) given wants calls).own
    did_wanted given wants calls =
        did_answered given wants calls
        (option_or (refused_missing shared own.who given (missing_of own.held wants)) (refused_full (both_of shared own) (missing_of own.held wants) calls)) refl

    -- the association is made stable
    did_stabilised_in : (one : Option Stabilisation) → stabilisation_of shared own.who ≡ one
        → Did shared own (stabilised_in (both_of shared own) one).shared (stabilised_in (both_of shared own) one).own
    did_stabilised_in None e = record {
      records =
          records_less (frozen_by (both_of shared own)).shared (handed_in (both_of shared own)).own refl refl refl
          (λ page held. lowered_allow_no_more own.held page may.Read held);
      keeps = keeps_with_stabilisations shared own (handed_in (both_of shared own)).shared (handed_in (both_of shared own)).own _ keeps_handed;
      stays = stabilised_in_stays (both_of shared own) mine.client there good.frozen None e;
      notes = notes_stabilised_in (both_of shared own) None;
      within = stabilised_in_within (both_of shared own) None roomy;
      most = λ before. before;
      limit = refl;
      pages = refl;
      capacity = refl;
    }
    did_stabilised_in (Some one) e = record {
      records = records_less (stabilised_in (both_of shared own) (Some one)).shared own refl refl refl (λ page held. held);
      keeps = keeps_with_stabilisations shared own shared own _ did_nothing.keeps;
      stays = stabilised_in_stays (both_of shared own) mine.client there good.frozen (Some one) e;
      notes = notes_stabilised_in (both_of shared own) (Some one);
      within = stabilised_in_within (both_of shared own) (Some one) roomy;
      most = λ before. before;
      limit = refl;
      pages = refl;
      capacity = refl;
    }

    did_stabilised : (outcome : Option Kept) → Did shared own (stabilised (both_of shared own) outcome).shared (stabilised (both_of shared own) outcome).own
    did_stabilised None = did_stabilised_in (stabilisation_of shared own.who) refl
    did_stabilised (Some kept) = did_nothing

    -- and the client is live after each
    live_handed_in : (gathering : Option Stabilisation) → is_live (handed_in_to (both_of shared own) gathering).shared own.who ≡ true
    live_handed_in None = live
    live_handed_in (Some g) = ap is_some (known_agreed shared (handed_in (both_of shared own)).own there).live

    live_answered : (given : List ℕ) (wants : List Want) (refusal : Option Reply)
        → is_live (answered (both_of shared own) given wants (missing_of own.held wants) refusal).shared own.who ≡ true
    live_answered given wants None = ap is_some (known_granted given wants).live
    live_answered given wants (Some reply) = ap is_some (live_asked _)

    live_stabilised_in : (one : Option Stabilisation) → is_live (stabilised_in (both_of shared own) one).shared own.who ≡ true
    live_stabilised_in None = ap is_some (known_agreed shared (handed_in (both_of shared own)).own there).live
    live_stabilised_in (Some one) = live

    live_stabilised : (outcome : Option Kept) → is_live (stabilised (both_of shared own) outcome).shared own.who ≡ true
    live_stabilised None = live_stabilised_in (stabilisation_of shared own.who)
    live_stabilised (Some kept) = live

    live_given_up : is_live (given_up (both_of shared own)).shared own.who ≡ true
    live_given_up = ap is_some (known_agreed shared (given_up (both_of shared own)).own there).live

-- what each stage did
did_stage : (shared : Shared) (own : Own) (after : Shared) (own_after : Own) → IsStage shared own after own_after → IsGoodShared shared → IsGoodWith shared own
    → (fallen_at shared own.who ≡ None) × Did shared own after own_after
did_stage shared own after own_after (IsStage.beginning live up) good mine = (up, did_begun shared own good mine live up)
did_stage shared own after own_after (IsStage.giving_up way) good mine = (way.up, did_given_up shared own good mine way.live way.up way.recorded)
did_stage shared own after own_after (IsStage.handing_in gathering e way) good mine =
    (way.up, did_handed_in shared own good mine way.live way.up way.recorded gathering e)
did_stage shared own after own_after (IsStage.wanting given wants calls way) good mine =
    (way.up, did_wanted shared own good mine way.live way.up way.recorded given wants calls)
did_stage shared own after own_after (IsStage.stabilising outcome way) good mine = (way.up, did_stabilised shared own good mine way.live way.up way.recorded outcome)

pub each_stage_keeps : EachStageKeeps
each_stage_keeps shared own after own_after stage good mine =
    let did = did_stage shared own after own_after stage good mine in
    (kept_recorded shared own after own_after good mine did.0 did.1, did.1.keeps.others)

live_behind : (shared : Shared) (own : Own) (after : Shared) (own_after : Own) → IsStage shared own after own_after → IsGoodShared shared → IsGoodWith shared own
    → is_live after own.who ≡ true
live_behind shared own after own_after (IsStage.beginning live up) good mine = ap is_some (known_begun shared own good mine live up).live
live_behind shared own after own_after (IsStage.giving_up way) good mine = live_given_up shared own good mine way.live way.up way.recorded
live_behind shared own after own_after (IsStage.handing_in gathering e way) good mine = live_handed_in shared own good mine way.live way.up way.recorded gathering
live_behind shared own after own_after (IsStage.wanting given wants calls way) good mine =
    live_answered shared own good mine way.live way.up way.recorded given wants
    (option_or (refused_missing shared own.who given (missing_of own.held wants)) (refused_full (both_of shared own) (missing_of own.held wants) calls))
live_behind shared own after own_after (IsStage.stabilising outcome way) good mine = live_stabilised shared own good mine way.live way.up way.recorded outcome

pub each_stage_goes_on : EachStageGoesOn
each_stage_goes_on shared own after own_after stage good mine =
    let did = did_stage shared own after own_after stage good mine in
    record {
      live = ap (is_live after) did.1.records.who ∙ live_behind shared own after own_after stage good mine;
      up = ap (fallen_at after) did.1.records.who ∙ did.1.keeps.up;
      recorded = did.1.records.pending;
    }

pub telling_keeps : TellingKeeps
telling_keeps shared own fallen good mine live fell = kept_told shared own fallen good mine live fell

pub leaving_keeps : LeavingKeeps
leaving_keeps shared own good is = kept_absent shared own good is

pub kept_both : KeptAgain
kept_both shared own middle between after own_after first second = kept_again shared own middle between after own_after first second
