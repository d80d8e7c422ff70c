use Rattle.std.proofs.Common.{◌≡◌, ◌≢◌, ◌⊎◌, ◌<◌, ◌≤◌, ℕ, List, [], Bool, true, ◌==◌, cond, length, refl, sym, ap, ◌∙◌, subst, inl, inr, ⊎_elim}
use Rattle.std.specs.Prelude.{Option, None, Some, option_map}
use Rattle.std.proofs.lemmas.Bool.{cond_both, cases_eq, cases_lt}
use Rattle.std.proofs.lemmas.List.{length-set}
use Rattle.casper_words.specs.Crew.{has_member}
use Rattle.casper_words.specs.declared.page.Want.{Want}
use Rattle.casper_trail.specs.Association.{association_of}
use Rattle.casper_model.specs.declared.outcome.Kept.{Kept}
use Rattle.casper_model.specs.declared.outcome.Kept.TheVariants as kept
use Rattle.casper_model.specs.declared.outcome.Outcome.{Outcome}
use Rattle.casper_model.specs.declared.outcome.Outcome.TheVariants as outcome
use Rattle.casper_model.specs.declared.reply.Reply.{Reply}
use Rattle.casper_model.specs.Acquire.{acquired_by, answered, missing_once_opened, with_asks}
use Rattle.casper_model.specs.declared.reply.JoinRefusal.{JoinRefusal}
use Rattle.casper_model.specs.declared.reply.Loss.{Loss}
use Rattle.casper_model.specs.Both.{Both, Changed, Turned, agreed}
use Rattle.casper_model.specs.Client.{Client, Fallen, new_client}
use Rattle.casper_model.specs.Finish.{finished_by, finished_as, failed, ended, settled_by, stabilisation_led_by, doubtful_of}
use Rattle.casper_model.specs.Frozen.{stabilisation_of}
use Rattle.casper_model.specs.Join.{joined_by}
use Rattle.casper_model.specs.Leave.{served_by, departed_by, vanished_by, absent}
use Rattle.casper_model.specs.Loss.{fallen_behind, rolled_back, lost_in, lose_by}
use Rattle.casper_model.specs.Opening.{kept_dropped, told_of_fall, recorded, begun, given_up, gathering_of, handed_in, handed_in_to, opened, given_in_opening}
use Rattle.casper_model.specs.Own.{Own}
use Rattle.casper_model.specs.Room.{free_room}
use Rattle.casper_model.specs.Shared.{Shared, client_at, fallen_at, of_client, each_client, change_client, place_client}
use Rattle.casper_model.specs.Stabilisation.{Stabilisation, is_gathering}
use Rattle.casper_model.specs.Stabilise.{stabilised_by, stabilised, stabilised_in, kept_at}
use Rattle.casper_model.specs.State.{State, own_at, start}
use Rattle.casper_model.specs.Run.{state_after}
use Rattle.casper_model.proofs.Places.{client_each, client_placed, client_unplaced, client_beyond}
use Rattle.casper_laws.specs.AnswerLaws.{is_over, KeepsOutcomes, EveryKeptOutcomeIsOver}
use Rattle.casper_turns.proofs.KeptByTurns.{KeptByTurns, step_keeps, run_keeps}
use Rattle.casper_laws.proofs.PendingSteps.{nobody_at_start}

-- what is kept for a client is nothing, or an outcome that is over
abbrev keeps_well : Option Kept → Bool
keeps_well None = true
keeps_well (Some outcome) = is_over outcome

abbrev well : Option Client → Bool
well None = true
well (Some client) = keeps_well client.kept

abbrev AreWell : Shared → Type 0
AreWell shared = (who : ℕ) → well (client_at shared who) ≡ true

-- a change of clients that keeps this
abbrev LeavesWell : (Client → Client) → Type 0
LeavesWell change = (client : Client) → keeps_well client.kept ≡ true → keeps_well (change client).kept ≡ true

well_each : (change : ℕ → Client → Client) (shared : Shared) → ((number : ℕ) → LeavesWell (change number)) → AreWell shared → AreWell (each_client change shared)
well_each change shared leaves are who = ap well (client_each change shared who) ∙ by_place (client_at shared who) (are who)
  where
    by_place : (place : Option Client) → well place ≡ true → well (option_map (change who) place) ≡ true
    by_place None is = refl
    by_place (Some client) is = leaves who client is

well_chosen : (test : Bool) (change : Client → Client) → LeavesWell change → LeavesWell (λ client. cond test (change client) client)
well_chosen test change leaves client is =
    cond_both test (change client) client (λ (after : Client). keeps_well after.kept ≡ true) (λ yes. leaves client is) (λ no. is)

well_changed : (who : ℕ) (change : Client → Client) (shared : Shared) → LeavesWell change → AreWell shared → AreWell (change_client who change shared)
well_changed who change shared leaves =
    well_each (λ number client. cond (number == who) (change client) client) shared (λ number. well_chosen (number == who) change leaves)

well_placed : (who : ℕ) (place : Option Client) (shared : Shared) → well place ≡ true → AreWell shared → AreWell (place_client who place shared)
well_placed who place shared is are number = by_number (cases_eq number who)
  where
    by_number : (number ≡ who) ⊎ (number ≢ who) → well (client_at (place_client who place shared) number) ≡ true
    by_number (inr apart) = ap well (client_unplaced who place shared number apart) ∙ are number
    by_number (inl same) =
        ap (λ at. well (client_at (place_client who place shared) at)) same
        ∙ ⊎_elim (λ (below : who < length shared.clients). ap well (client_placed who place shared below) ∙ is)
        (λ past. ap well (client_beyond (place_client who place shared) who (subst (λ count. count ≤ who) (sym (length-set shared.clients who place)) past)))
        (cases_lt who (length shared.clients))

-- an opening drops what is kept for its client
well_agreed : (shared : Shared) (own : Own) → AreWell shared → AreWell (agreed shared own).shared
well_agreed shared own = well_changed own.who (λ client. record client { cap = own.cap; rights = own.held }) shared (λ client is. is)

well_told : (shared : Shared) (own : Own) → AreWell shared → AreWell (told_of_fall shared own).shared
well_told shared own = well_changed own.who (λ client. record client { kept = None; fallen = None }) shared (λ client is. refl)

well_handed_in : (both : Both) (one : Option Stabilisation) → AreWell both.shared → AreWell (handed_in_to both one).shared
well_handed_in both None are = are
well_handed_in both (Some one) are = well_agreed both.shared (handed_in both).own are

well_opened : (shared : Shared) (own : Own) → AreWell shared → AreWell (opened shared own).shared
well_opened shared own are =
    let first = recorded (kept_dropped own.who shared) own in
    let second = begun shared own in
    let third = given_up second in
    well_handed_in third (gathering_of third.shared third.own.who)
    (well_agreed second.shared third.own
    (well_agreed first.shared second.own
    (well_agreed (record (kept_dropped own.who shared) { trail = first.shared.trail }) first.own
    (well_changed own.who (λ client. record client { kept = None }) shared (λ client is. refl) are))))

well_asked : (asks : List Want) (both : Both) → AreWell both.shared → AreWell (with_asks asks both).shared
well_asked asks both = well_changed both.own.who (λ client. record client { asks = asks }) both.shared (λ client is. is)

well_answered : (both : Both) (given : List ℕ) (wants missing : List Want) (refusal : Option Reply) → AreWell both.shared
    → AreWell (answered both given wants missing refusal).shared
well_answered both given wants missing None are =
    let turn = answered both given wants missing None in
    well_agreed (record ((with_asks [] both).shared) { trail = turn.shared.trail }) turn.own (well_asked [] both are)
well_answered both given wants missing (Some reply) are = well_asked _ both are

well_acquired : (shared : Shared) (own : Own) (wants : List Want) (calls : ℕ) (fallen : Option Fallen) → AreWell shared → AreWell (acquired_by shared own wants calls fallen).shared
well_acquired shared own wants calls (Some fallen) are = well_told shared own are
well_acquired shared own wants calls None are =
    well_answered (opened shared own) (given_in_opening shared own) wants (missing_once_opened shared own wants) _ (well_opened shared own are)

well_served : (shared : Shared) (own : Own) (fallen : Option Fallen) → AreWell shared → AreWell (served_by shared own fallen).shared
well_served shared own (Some fallen) are = well_told shared own are
well_served shared own None are = well_opened shared own are

well_stabilised : (both : Both) (outcome : Option Kept) → AreWell both.shared → AreWell (stabilised both outcome).shared
well_stabilised both (Some outcome) are = are
well_stabilised both None are = by_one (stabilisation_of both.shared both.own.who)
  where
    by_one : (one : Option Stabilisation) → AreWell (stabilised_in both one).shared
    by_one None = well_agreed both.shared (handed_in both).own are
    by_one (Some one) = are

well_stabilised_by : (shared : Shared) (own : Own) (fallen : Option Fallen) → AreWell shared → AreWell (stabilised_by shared own fallen).shared
well_stabilised_by shared own (Some fallen) are = well_told shared own are
well_stabilised_by shared own None are = well_stabilised (opened shared own) (kept_at shared own.who) (well_opened shared own are)

well_departed : (shared : Shared) (own : Own) (fallen : Option Fallen) → AreWell shared → AreWell (departed_by shared own fallen).shared
well_departed shared own (Some fallen) are = well_told shared own are
well_departed shared own None are =
    let both = opened shared own in well_placed both.own.who None both.shared refl (well_opened shared own are)

-- a loss keeps no outcome
well_rolled_back : (shared : Shared) (lost : ℕ) → AreWell shared → AreWell (rolled_back shared lost)
well_rolled_back shared lost =
    let members = association_of shared.trail lost in
    well_each (λ who client. cond (has_member who members) (fallen_behind shared.trail who client) client) shared
    (λ number. well_chosen (has_member number members) (fallen_behind shared.trail number) (λ client is. is))

well_lost : (shared : Shared) (who unrecorded : ℕ) (one : Option Stabilisation) → AreWell shared → AreWell (lost_in shared who unrecorded one).shared
well_lost shared who unrecorded None are = well_rolled_back shared who are
well_lost shared who unrecorded (Some one) are =
    cond_both {A = Changed Loss} (is_gathering one.phase) _ _ (λ after. AreWell after.shared) (λ gathering. well_rolled_back shared who are) (λ other. are)

well_vanished : (shared : Shared) (own : Own) (fallen : Option Fallen) → AreWell shared
    → AreWell (absent (record { shared = (vanished_by shared own fallen).shared; own = own })).shared
well_vanished shared own fallen are = well_placed own.who None (vanished_by shared own fallen).shared refl (by_fallen fallen)
  where
    by_fallen : (fallen : Option Fallen) → AreWell (vanished_by shared own fallen).shared
    by_fallen (Some fallen) = are
    by_fallen None = well_lost shared own.who (length own.pending) (stabilisation_of shared own.who) are

well_lose : (shared : Shared) (who : ℕ) (fallen : Option Fallen) → AreWell shared → AreWell (lose_by shared who fallen).shared
well_lose shared who (Some fallen) are = are
well_lose shared who None are = well_lost shared who 0 (stabilisation_of shared who) are

well_joined : (shared : Shared) (own : Own) (place : Option Client) → AreWell shared → AreWell (joined_by shared own place).shared
well_joined shared own (Some client) are = are
well_joined shared own None are =
    cond_both {A = Turned (Option JoinRefusal)} (free_room shared == 0) _ _ (λ turn. AreWell turn.shared) (λ full. are)
    (λ room. well_placed own.who (Some (new_client _)) shared refl are)

-- what a stabilisation that ends leaves for its askers is over
well_ended : (shared : Shared) (one : Stabilisation) (outcome : Kept) → is_over outcome ≡ true → AreWell shared → AreWell (ended shared one outcome)
well_ended shared one outcome over =
    well_each (λ who client. cond (has_member who one.askers) (record client { kept = Some outcome }) client) shared
    (λ number. well_chosen (has_member number one.askers) (λ client. record client { kept = Some outcome }) (λ client is. over))

well_failed : (shared : Shared) (one : Stabilisation) (cause : Outcome) (noted : Option ℕ) → is_over (kept.Failed cause) ≡ true → AreWell shared
    → AreWell (failed shared one cause noted).shared
well_failed shared one cause None over are = well_ended shared one (kept.Failed cause) over are
well_failed shared one cause (Some lost) over are = well_rolled_back shared lost are

well_finished_as : (shared : Shared) (one : Stabilisation) (how : Outcome) → AreWell shared → AreWell (finished_as shared one how).shared
well_finished_as shared one (outcome.Ok version) are = well_ended shared one (kept.Committed (length shared.trail)) refl are
well_finished_as shared one (outcome.Full need free) are = well_failed shared one (outcome.Full need free) one.noted refl are
well_finished_as shared one outcome.Worn are = well_failed shared one outcome.Worn one.noted refl are
well_finished_as shared one outcome.Disk are = well_failed shared one outcome.Disk one.noted refl are
well_finished_as shared one outcome.Doubt are = are

well_finished : (shared : Shared) (how : Outcome) (one : Option Stabilisation) → AreWell shared → AreWell (finished_by shared how one).shared
well_finished shared how None are = are
well_finished shared how (Some one) are = well_finished_as shared one how are

well_settled : (shared : Shared) (one : Option Stabilisation) → AreWell shared → AreWell (settled_by shared one).shared
well_settled shared None are = are
well_settled shared (Some one) are = well_ended shared one (kept.Committed (length shared.trail)) refl are

abbrev Anywhere : State → Type 0
Anywhere state = Unit {0}

well_by_turns : KeptByTurns Anywhere Anywhere (λ state. AreWell state.shared)
well_by_turns = record {
  hit = λ state who act page word value is calls a are can. are;
  joining = λ state who is b are. let own = own_at state who in well_joined state.shared own (client_at state.shared own.who) are;
  acquiring = λ state who wants calls any is live b are.
      let own = own_at state who in well_acquired state.shared own wants calls (fallen_at state.shared own.who) are;
  serving = λ state who is live b are. let own = own_at state who in well_served state.shared own (fallen_at state.shared own.who) are;
  stabilising = λ state who is live b are. let own = own_at state who in well_stabilised_by state.shared own (fallen_at state.shared own.who) are;
  departing = λ state who is live b are. let own = own_at state who in well_departed state.shared own (fallen_at state.shared own.who) are;
  vanishing = λ state who is live b are. let own = own_at state who in well_vanished state.shared own (fallen_at state.shared own.who) are;
  losing = λ state who is live b are. well_lose state.shared who (fallen_at state.shared who) are;
  writing = λ state outside lead one b are job busy. are;
  finishing = λ state lead unfinished b are is same. well_finished state.shared unfinished.outcome (stabilisation_led_by state.shared lead) are;
  settling = λ state one b are doubt. well_settled state.shared (doubtful_of state.shared) are;
}

-- what is kept at a place that is well
pub kept_over : (state : State) → AreWell state.shared → KeepsOutcomes state
kept_over state are who outcome = by_place (client_at state.shared who) (are who)
  where
    by_kept : (kept : Option Kept) → keeps_well kept ≡ true → kept ≡ Some outcome → is_over outcome ≡ true
    by_kept kept is same = sym (ap keeps_well same) ∙ is

    by_place : (place : Option Client) → well place ≡ true → of_client None (λ client. client.kept) place ≡ Some outcome → is_over outcome ≡ true
    by_place None is same = by_kept None refl same
    by_place (Some client) is same = by_kept client.kept is same

pub every_kept_over : EveryKeptOutcomeIsOver
every_kept_over vault pages limit capacity happenings named =
    kept_over (state_after (start vault pages limit capacity) happenings)
    (run_keeps Anywhere (λ state. AreWell state.shared) (λ state event outside is b. tt)
    (step_keeps Anywhere Anywhere (λ state. AreWell state.shared) (λ state event outside is b. tt) (λ state b. b) well_by_turns)
    (start vault pages limit capacity) happenings named tt (λ who. ap well (nobody_at_start pages limit who)))
