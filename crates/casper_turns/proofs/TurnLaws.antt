use Rattle.std.proofs.Common.{◌≡◌, ◌==◌, refl, ◌∙◌, ℕ, ap, sym, true}
use Rattle.std.specs.Prelude.{Option, None, Some}
use Rattle.std.proofs.lemmas.Bool.{cond_both}
use Rattle.casper_model.specs.declared.reply.JoinRefusal.{JoinRefusal}
use Rattle.casper_model.specs.Both.{Turned}
use Rattle.casper_model.specs.Client.{Client, Fallen}
use Rattle.casper_model.specs.Join.{joined_by}
use Rattle.casper_model.specs.Leave.{departed_by}
use Rattle.casper_model.specs.Opening.{opened}
use Rattle.casper_model.specs.Own.{Own}
use Rattle.casper_model.specs.Room.{free_room}
use Rattle.casper_model.specs.Shared.{Shared, client_at, of_client, fallen_at, is_live}
use Rattle.casper_model.proofs.AcquireRights.{keeps_acquire}
use Rattle.casper_model.proofs.Additions.{who_opened, acquire_adds, serve_adds, stabilise_adds, depart_adds}
use Rattle.casper_model.proofs.OpeningRights.{IsUp, others_opened}
use Rattle.casper_model.proofs.Places.{client_unplaced}
use Rattle.casper_model.proofs.StabiliseRights.{keeps_stabilise}
use Rattle.casper_model.proofs.TurnRights.{keeps_serve, keeps_served}
use Rattle.casper_turns.specs.Kept.{OthersStay}
use Rattle.casper_turns.specs.Relying.{OpenWritesWhileStill, JobWhileStill}
use Rattle.casper_turns.specs.TurnLaws.{IsTurn, EachTurnKeeps, EachTurnLeavesOthers, IsChange, EachChangeKeeps, LossIsStill, FinishLeavesOtherLeads, SettleLeavesOtherLeads}
use Rattle.casper_turns.proofs.Finishes.{finish_kept, finish_others, settled_kept, settled_others, finish_records, settled_records}
use Rattle.casper_turns.proofs.Losses.{lose_kept, lose_still}
use Rattle.casper_turns.proofs.Recorded.{live_client, stands_good}
use Rattle.casper_turns.proofs.Stages.{join_kept}
use Rattle.casper_turns.proofs.StillImages.{open_writes_while_still, job_while_still}
use Rattle.casper_turns.proofs.Turns.{acquire_kept, serve_kept, stabilise_kept, depart_kept}
use Rattle.casper_turns.specs.MarkRoom.{mark_count, TurnsRecordNoMark, ChangesRecordNoMore, VanishRecordsNoMore}
use Rattle.casper_turns.proofs.MarkChanges.{lose_records, vanish_records}
use Rattle.casper_turns.proofs.MarkCounts.{marks_of_own}

pub each_turn_keeps : EachTurnKeeps
each_turn_keeps shared own after own_after IsTurn.joining good mine = join_kept shared own good mine
each_turn_keeps shared own after own_after (IsTurn.acquiring wants calls live) good mine = acquire_kept shared own good mine live wants calls
each_turn_keeps shared own after own_after (IsTurn.serving live) good mine = serve_kept shared own good mine live
each_turn_keeps shared own after own_after (IsTurn.stabilising live) good mine = stabilise_kept shared own good mine live
each_turn_keeps shared own after own_after (IsTurn.departing live) good mine = depart_kept shared own good mine live

-- the others after a join and a departure
others_joined : (shared : Shared) (own : Own) (place : Option Client) → OthersStay shared own (joined_by shared own place).shared
others_joined shared own (Some client) other apart = refl
others_joined shared own None other apart =
    cond_both (free_room shared == 0) _ _ (λ (turn : Turned (Option JoinRefusal)). client_at turn.shared other ≡ client_at shared other)
    (λ full. refl) (λ free. client_unplaced own.who _ shared other apart)

others_departed : (shared : Shared) (own : Own) (fallen : Option Fallen) → ((one : Fallen) → fallen ≡ Some one → OthersStay shared own (departed_by shared own (Some one)).shared)
    → OthersStay shared own (departed_by shared own fallen).shared
others_departed shared own (Some fallen) told other apart = told fallen refl other apart
others_departed shared own None told other apart =
    client_unplaced (opened shared own).own.who None (opened shared own).shared other (λ same. apart (same ∙ who_opened shared own)) ∙ others_opened shared own other apart

pub each_turn_leaves_others : EachTurnLeavesOthers
each_turn_leaves_others shared own after own_after IsTurn.joining good mine = others_joined shared own (client_at shared own.who)
each_turn_leaves_others shared own after own_after (IsTurn.acquiring wants calls live) good mine = (keeps_acquire wants calls shared own (stands_good shared own good mine live)).others
each_turn_leaves_others shared own after own_after (IsTurn.serving live) good mine = (keeps_serve shared own (stands_good shared own good mine live)).others
each_turn_leaves_others shared own after own_after (IsTurn.stabilising live) good mine = (keeps_stabilise shared own (stands_good shared own good mine live)).others
each_turn_leaves_others shared own after own_after (IsTurn.departing live) good mine =
    others_departed shared own (fallen_at shared own.who)
    (λ one e. (keeps_served shared own (stands_good shared own good mine live) (Some one) e).others)

pub each_change_keeps : EachChangeKeeps
each_change_keeps shared after (IsChange.losing who is live) good = lose_kept shared who good is
each_change_keeps shared after (IsChange.finishing lead how held) good = finish_kept shared lead how good held
each_change_keeps shared after IsChange.settling good = settled_kept shared good

pub loss_is_still : LossIsStill
loss_is_still shared who is good = lose_still shared who good is

pub finish_leaves_other_leads : FinishLeavesOtherLeads
finish_leaves_other_leads shared lead how held good = finish_others shared lead how good held

pub settle_leaves_other_leads : SettleLeavesOtherLeads
settle_leaves_other_leads shared one e good = settled_others shared good one e

pub open_writes_stand : OpenWritesWhileStill
open_writes_stand shared after still one inside held = open_writes_while_still shared after still.more one still.trail (still.held one inside held)

pub job_stands : JobWhileStill
job_stands shared after still one inside held = job_while_still shared after still.more one still.trail (still.held one inside held)

-- a join leaves the trail
trail_joined : (shared : Shared) (own : Own) (place : Option Client) → (joined_by shared own place).shared.trail ≡ shared.trail
trail_joined shared own (Some client) = refl
trail_joined shared own None =
    cond_both (free_room shared == 0) _ _ (λ (turn : Turned (Option JoinRefusal)). turn.shared.trail ≡ shared.trail) (λ full. refl) (λ free. refl)

pub turns_record_no_mark : TurnsRecordNoMark
turns_record_no_mark shared own after own_after IsTurn.joining = ap mark_count (trail_joined shared own (client_at shared own.who))
turns_record_no_mark shared own after own_after (IsTurn.acquiring wants calls live) = marks_of_own own.who own.pending shared.trail _ (acquire_adds wants calls shared own)
turns_record_no_mark shared own after own_after (IsTurn.serving live) = marks_of_own own.who own.pending shared.trail _ (serve_adds shared own)
turns_record_no_mark shared own after own_after (IsTurn.stabilising live) = marks_of_own own.who own.pending shared.trail _ (stabilise_adds shared own)
turns_record_no_mark shared own after own_after (IsTurn.departing live) = marks_of_own own.who own.pending shared.trail _ (depart_adds shared own)

-- a live client that is not fallen
up_live : (shared : Shared) (who : ℕ) → is_live shared who ≡ true → fallen_at shared who ≡ None → IsUp shared who
up_live shared who live up =
    let found = live_client (client_at shared who) live in
    record { client = found.0; live = found.1; up = sym (ap (of_client None (λ (client : Client). client.fallen)) found.1) ∙ up }

pub changes_record_no_more : ChangesRecordNoMore
changes_record_no_more shared after (IsChange.losing who is live) good = lose_records shared who is (up_live shared who live)
changes_record_no_more shared after (IsChange.finishing lead how held) good = finish_records shared lead how good held
changes_record_no_more shared after IsChange.settling good = settled_records shared good

pub vanish_records_no_more : VanishRecordsNoMore
vanish_records_no_more shared own good mine live = vanish_records shared own mine.client (stands_good shared own good mine live)
