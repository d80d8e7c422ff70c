use Rattle.std.proofs.Common.{◌≡◌, ◌<◌, ◌≤◌, ℕ, ◌+◌, ◌-◌, List, [], ◌++◌, Bool, true, false, cond, ◌==◌, min, length, refl, sym, ap, ◌∙◌, subst, true≢false, arith, ltb-false}
use Rattle.std.proofs.Math.Nat.{min-le_right}
use Rattle.std.specs.Prelude.{Option, None, Some, option_map, is_some, nat_lt}
use Rattle.std.specs.Option.{option_or}
use Rattle.std.proofs.lemmas.Bool.{cond_both}
use Rattle.std.proofs.lemmas.List.{length-map}
use Rattle.casper_words.specs.Crew.{has_member}
use Rattle.casper_words.specs.declared.page.Want.{Want}
use Rattle.casper_trail.specs.declared.mark.Mark.TheVariants.{Rollback}
use Rattle.casper_trail.specs.Parts.{as_items}
use Rattle.casper_trail.specs.Calls.{touch_by}
use Rattle.casper_trail.specs.TrailView.{entry_count}
use Rattle.casper_trail.specs.Association.{association_of}
use Rattle.casper_trail.proofs.CallLists.{count_of_more_entries, count_after_mark}
use Rattle.casper_model.specs.declared.outcome.Outcome.{Outcome}
use Rattle.casper_model.specs.declared.outcome.Outcome.TheVariants as outcome
use Rattle.casper_model.specs.declared.outcome.Kept.{Kept}
use Rattle.casper_model.specs.declared.reply.Reply.{Reply}
use Rattle.casper_model.specs.declared.reply.Reply.TheVariants.{TrailFull}
use Rattle.casper_model.specs.declared.reply.Loss.{Loss}
use Rattle.casper_model.specs.declared.reply.JoinRefusal.{JoinRefusal}
use Rattle.casper_model.specs.Held.{missing_of}
use Rattle.casper_model.specs.Client.{Client, Fallen, new_client}
use Rattle.casper_model.specs.Stabilisation.{Stabilisation, is_gathering}
use Rattle.casper_model.specs.Shared.{Shared, client_at, fallen_at, place_client}
use Rattle.casper_model.specs.Own.{Own}
use Rattle.casper_model.specs.Both.{Both, Changed, Turned}
use Rattle.casper_model.specs.Room.{most_cap, all_caps, free_room}
use Rattle.casper_model.specs.Frozen.{stabilisation_of}
use Rattle.casper_model.specs.Opening.{told_of_fall, opened, handed_in, given_in_opening}
use Rattle.casper_model.specs.Acquire.{acquired_by, answered, granted, with_asks, refused_missing, refused_full, touches_by}
use Rattle.casper_model.specs.Stabilise.{stabilised_by, stabilised, stabilised_in, kept_at}
use Rattle.casper_model.specs.Join.{joined_by}
use Rattle.casper_model.specs.Leave.{served_by, departed_by, absent, vanished_by}
use Rattle.casper_model.specs.Loss.{lose, lose_by, lost_in, rolled_back, fallen_behind}
use Rattle.casper_model.specs.Finish.{finish, finished_by, finished_as, failed, ended, committed, settled, settled_by, stabilisation_led_by, doubtful_of}
use Rattle.casper_model.specs.RoomLaw.{IsWithin}
use Rattle.casper_model.proofs.Places.{client_changed}
use Rattle.casper_model.proofs.OpeningRights.{places_changed}
use Rattle.casper_model.proofs.Conflicts.{neither}
use Rattle.casper_model.proofs.Caps.{cap_in, caps_placed, caps_each, caps_same, caps_agreed, IsCapped, IsRoomy, roomy_same, opened_roomy}

-- nothing is refused for want of room where the cap covers what is missing
covered : (both : Both) (missing : List Want) (calls : ℕ) → refused_full both missing calls ≡ None → length missing + calls ≤ both.own.cap
covered both missing calls none = by (nat_lt both.own.cap (length missing + calls)) refl none
  where
    by : (short : Bool) → nat_lt both.own.cap (length missing + calls) ≡ short → cond short (Some (TrailFull (entry_count both.shared.trail))) None ≡ None
        → length missing + calls ≤ both.own.cap
    by true e never = absurd (true≢false (ap is_some never))
    by false e is = ltb-false both.own.cap (length missing + calls) e

roomy_asked : (asks : List Want) (both : Both) → IsRoomy both.shared both.own → IsRoomy (with_asks asks both).shared both.own
roomy_asked asks both roomy =
    let change : Client → Client = λ client. record client { asks = asks } in
    let same : all_caps (with_asks asks both).shared ≡ all_caps both.shared = caps_same both.own.who change (λ client. refl) both.shared in
    record {
      known = record {
        client = change roomy.known.client;
        live = client_changed both.own.who change both.shared ∙ ap (option_map change) roomy.known.live;
        up = roomy.known.up;
        cap = roomy.known.cap;
      };
      below = subst (λ count. both.own.who < count) (sym (places_changed both.own.who change both.shared)) roomy.below;
      within = omega (arith, same, roomy.within);
    }

granted_within : (wants missing : List Want) (both : Both) → IsRoomy both.shared both.own → length missing ≤ both.own.cap → IsWithin (granted wants missing both).shared
granted_within wants missing both roomy enough =
    let after = granted wants missing both in
    let touched : Shared = record (both.shared) { trail = both.shared.trail ++ as_items (touches_by both.own.who missing) } in
    let known : IsCapped touched both.own = record { client = roomy.known.client; live = roomy.known.live; up = roomy.known.up; cap = roomy.known.cap } in
    let caps : all_caps after.shared + both.own.cap ≡ all_caps touched + (both.own.cap - length missing) = caps_agreed touched both.own after.own known roomy.below refl in
    let count : entry_count touched.trail ≡ entry_count both.shared.trail + length missing =
    count_of_more_entries both.shared.trail (touches_by both.own.who missing)
    ∙ ap (λ n. entry_count both.shared.trail + n) (length-map missing (λ want. touch_by both.own.who want.page)) in
    let caps_are : all_caps touched ≡ all_caps both.shared = refl in
    omega (arith, caps, caps_are, count, enough, roomy.within)

pub answered_within : (both : Both) (given : List ℕ) (wants missing : List Want) (calls : ℕ) (refusal : Option Reply) → IsRoomy both.shared both.own
    → option_or (refused_missing both.shared both.own.who given missing) (refused_full both missing calls) ≡ refusal → IsWithin (answered both given wants missing refusal).shared
answered_within both given wants missing calls None roomy e =
    let enough = covered both missing calls (neither (refused_missing both.shared both.own.who given missing) (refused_full both missing calls) e).1 in
    granted_within wants missing (with_asks [] both) (roomy_asked [] both roomy) (omega (arith, enough))
answered_within both given wants missing calls (Some reply) roomy e = (roomy_asked _ both roomy).within

pub acquired_within : (wants : List Want) (calls : ℕ) (shared : Shared) (own : Own) → IsRoomy shared own → length own.pending ≤ own.cap
    → IsWithin (acquired_by shared own wants calls None).shared
acquired_within wants calls shared own roomy pending =
    answered_within (opened shared own) (given_in_opening shared own) wants (missing_of (opened shared own).own.held wants) calls _ (opened_roomy shared own roomy pending) refl

pub served_within : (shared : Shared) (own : Own) → IsRoomy shared own → length own.pending ≤ own.cap → IsWithin (served_by shared own None).shared
served_within shared own roomy pending = (opened_roomy shared own roomy pending).within

pub stabilised_in_within : (both : Both) (one : Option Stabilisation) → IsRoomy both.shared both.own → IsWithin (stabilised_in both one).shared
stabilised_in_within both None roomy = (roomy_same both.shared both.own (handed_in both).own roomy refl refl).within
stabilised_in_within both (Some one) roomy = roomy.within

stabilised_within : (both : Both) (kept : Option Kept) → IsRoomy both.shared both.own → IsWithin (stabilised both kept).shared
stabilised_within both None roomy = stabilised_in_within both (stabilisation_of both.shared both.own.who) roomy
stabilised_within both (Some outcome) roomy = roomy.within

pub stabilise_within : (shared : Shared) (own : Own) → IsRoomy shared own → length own.pending ≤ own.cap → IsWithin (stabilised_by shared own None).shared
stabilise_within shared own roomy pending = stabilised_within (opened shared own) (kept_at shared own.who) (opened_roomy shared own roomy pending)

-- a client that becomes absent
absent_within : (before : Shared) (own : Own) → own.who < length before.clients → IsWithin before → IsWithin (absent (record { shared = before; own = own })).shared
absent_within before own below within =
    let caps : all_caps (place_client own.who None before) + cap_in (client_at before own.who) ≡ all_caps before + 0 = caps_placed own.who None before below in
    let same : all_caps (absent (record { shared = before; own = own })).shared ≡ all_caps (place_client own.who None before) = refl in
    omega (arith, caps, same, within)

pub departed_within : (shared : Shared) (own : Own) → IsRoomy shared own → length own.pending ≤ own.cap → IsWithin (departed_by shared own None).shared
departed_within shared own roomy pending =
    let after = opened_roomy shared own roomy pending in
    absent_within (opened shared own).shared (opened shared own).own after.below after.within

pub told_within : (shared : Shared) (own : Own) → IsWithin shared → IsWithin (told_of_fall shared own).shared
told_within shared own within =
    let same : all_caps (told_of_fall shared own).shared ≡ all_caps shared = caps_same own.who (λ client. record client { kept = None; fallen = None }) (λ client. refl) shared in
    omega (arith, same, within)

-- a client that joins
pub joined_within : (shared : Shared) (own : Own) (client : Option Client) → client_at shared own.who ≡ client → own.who < length shared.clients → IsWithin shared
    → IsWithin (joined_by shared own client).shared
joined_within shared own (Some client) e below within = within
joined_within shared own None e below within =
    cond_both (free_room shared == 0) _ _ (λ (turn : Turned (Option JoinRefusal)). IsWithin turn.shared) (λ full. within)
    (λ room.
    let cap = min most_cap (free_room shared) in
    let after = place_client own.who (Some (new_client cap)) shared in
    let caps : all_caps after + cap_in (client_at shared own.who) ≡ all_caps shared + cap = caps_placed own.who (Some (new_client cap)) shared below in
    let least : cap ≤ free_room shared = min-le_right most_cap (free_room shared) in
    omega (arith, caps, least, within))

-- what is no turn of a client
rolled_back_within : (shared : Shared) (lost : ℕ) → IsWithin shared → IsWithin (rolled_back shared lost)
rolled_back_within shared lost within =
    let members = association_of shared.trail lost in
    let change : ℕ → Client → Client = λ who client. cond (has_member who members) (fallen_behind shared.trail who client) client in
    let same : all_caps (rolled_back shared lost) ≡ all_caps shared =
    caps_each change
    (λ who client. cond_both (has_member who members) (fallen_behind shared.trail who client) client (λ (one : Client). one.cap ≡ client.cap) (λ is. refl) (λ other. refl))
    shared in
    let count : entry_count (rolled_back shared lost).trail ≡ entry_count shared.trail = count_after_mark shared.trail (Rollback lost members) in
    omega (arith, same, count, within)

caps_ended : (shared : Shared) (one : Stabilisation) (kept : Kept) → all_caps (ended shared one kept) ≡ all_caps shared
caps_ended shared one kept =
    caps_each (λ who client. cond (has_member who one.askers) (record client { kept = Some kept }) client)
    (λ who client. cond_both (has_member who one.askers) (record client { kept = Some kept }) client (λ (other : Client). other.cap ≡ client.cap) (λ is. refl) (λ other. refl))
    shared

committed_within : (shared : Shared) (one : Stabilisation) → IsWithin shared → IsWithin (committed shared one).shared
committed_within shared one within =
    let same : all_caps (committed shared one).shared ≡ all_caps shared = caps_ended shared one _ in
    let count : entry_count (committed shared one).shared.trail ≡ entry_count shared.trail = count_after_mark shared.trail _ in
    omega (arith, same, count, within)

lost_within : (shared : Shared) (who unrecorded : ℕ) (one : Option Stabilisation) → IsWithin shared → IsWithin (lost_in shared who unrecorded one).shared
lost_within shared who unrecorded None within = rolled_back_within shared who within
lost_within shared who unrecorded (Some one) within =
    cond_both (is_gathering one.phase) _ _ (λ (done : Changed Loss). IsWithin done.shared) (λ gathering. rolled_back_within shared who within) (λ sealed. within)

lose_by_within : (shared : Shared) (who : ℕ) (fallen : Option Fallen) → IsWithin shared → IsWithin (lose_by shared who fallen).shared
lose_by_within shared who (Some fallen) within = within
lose_by_within shared who None within = lost_within shared who 0 (stabilisation_of shared who) within

pub lose_within : (shared : Shared) (who : ℕ) → IsWithin shared → IsWithin (lose shared who).shared
lose_within shared who within = lose_by_within shared who (fallen_at shared who) within

vanished_within : (shared : Shared) (own : Own) (fallen : Option Fallen) → IsWithin shared → IsWithin (vanished_by shared own fallen).shared
vanished_within shared own (Some fallen) within = within
vanished_within shared own None within = lost_within shared own.who _ (stabilisation_of shared own.who) within

pub vanish_within : (shared : Shared) (own : Own) (fallen : Option Fallen) → own.who < length (vanished_by shared own fallen).shared.clients → IsWithin shared
    → IsWithin (absent (record { shared = (vanished_by shared own fallen).shared; own = own })).shared
vanish_within shared own fallen below within = absent_within (vanished_by shared own fallen).shared own below (vanished_within shared own fallen within)

ended_within : (shared : Shared) (one : Stabilisation) (kept : Kept) → IsWithin shared → IsWithin (ended shared one kept)
ended_within shared one kept within = let same = caps_ended shared one kept in omega (arith, same, within)

failed_within : (shared : Shared) (one : Stabilisation) (cause : Outcome) (noted : Option ℕ) → IsWithin shared → IsWithin (failed shared one cause noted).shared
failed_within shared one cause None within = ended_within shared one _ within
failed_within shared one cause (Some lost) within = rolled_back_within shared lost within

finished_within : (shared : Shared) (one : Stabilisation) (how : Outcome) → IsWithin shared → IsWithin (finished_as shared one how).shared
finished_within shared one (outcome.Ok version) within = committed_within shared one within
finished_within shared one (outcome.Full need free) within = failed_within shared one (outcome.Full need free) one.noted within
finished_within shared one outcome.Worn within = failed_within shared one outcome.Worn one.noted within
finished_within shared one outcome.Disk within = failed_within shared one outcome.Disk one.noted within
finished_within shared one outcome.Doubt within = within

finished_by_within : (shared : Shared) (how : Outcome) (one : Option Stabilisation) → IsWithin shared → IsWithin (finished_by shared how one).shared
finished_by_within shared how None within = within
finished_by_within shared how (Some one) within = finished_within shared one how within

pub finish_within : (shared : Shared) (lead : ℕ) (how : Outcome) → IsWithin shared → IsWithin (finish shared lead how).shared
finish_within shared lead how within = finished_by_within shared how (stabilisation_led_by shared lead) within

settled_by_within : (shared : Shared) (one : Option Stabilisation) → IsWithin shared → IsWithin (settled_by shared one).shared
settled_by_within shared None within = within
settled_by_within shared (Some one) within = committed_within shared one within

pub settled_within : (shared : Shared) → IsWithin shared → IsWithin (settled shared).shared
settled_within shared within = settled_by_within shared (doubtful_of shared) within
