use Rattle.std.proofs.Common.{ℕ, List, ◌==◌, refl, ◌≡◌, Contains}
use Rattle.std.specs.Prelude.{Option, None, Some}
use Rattle.std.proofs.lemmas.Bool.{cond_both}
use Rattle.casper_words.specs.declared.page.Want.{Want}
use Rattle.casper_model.specs.declared.outcome.Kept.{Kept}
use Rattle.casper_model.specs.declared.reply.JoinRefusal.{JoinRefusal}
use Rattle.casper_model.specs.Client.{Client, Fallen}
use Rattle.casper_model.specs.Own.{Own}
use Rattle.casper_model.specs.Both.{Both, Turned}
use Rattle.casper_model.specs.Room.{free_room}
use Rattle.casper_model.specs.Shared.{Shared, client_at, fallen_at}
use Rattle.casper_model.specs.Frozen.{stabilisation_of}
use Rattle.casper_model.specs.Opening.{begun, given_up, gathering_of, opened, given_in_opening}
use Rattle.casper_model.specs.Acquire.{acquire, acquired_by}
use Rattle.casper_model.specs.Stabilise.{stabilise, stabilised_by, stabilised, kept_at}
use Rattle.casper_model.specs.Join.{join, joined_by}
use Rattle.casper_model.specs.Leave.{serve, served_by, absent, depart, departed_by, vanish, vanished_by}
use Rattle.casper_model.proofs.Additions.{acquire_adds, serve_adds, stabilise_adds, depart_adds}
use Rattle.casper_turns.specs.Noted.{NotedAreMembers}
use Rattle.casper_turns.proofs.NotedMembers.{NotesNoMore, lost_members, members_by_own, members_same, notes_absent, notes_answered, notes_both, notes_handed_in, notes_same, notes_stabilised_in, committed_members, ended_members, notes_by_lead, rolled_back_members}
use Rattle.casper_model.specs.declared.outcome.Outcome.{Outcome}
use Rattle.casper_model.specs.Stabilisation.{Stabilisation, Doubtful, is_doubtful}
use Rattle.casper_model.specs.Finish.{finish, finished_by, finished_as, failed, settled, settled_by, stabilisation_led_by, doubtful_of}
use Rattle.casper_turns.specs.Frozen.{AreFrozen}
use Rattle.casper_turns.proofs.Lists.{find_found}
use Rattle.casper_model.specs.declared.outcome.Outcome.TheVariants as outcome
use Rattle.casper_model.specs.declared.outcome.Kept.TheVariants as kept

notes_opened : (shared : Shared) (own : Own) → NotesNoMore shared (opened shared own).shared
notes_opened shared own = let both = given_up (begun shared own) in notes_handed_in shared both (gathering_of both.shared both.own.who) refl

pub notes_acquired : (wants : List Want) (calls : ℕ) (shared : Shared) (own : Own) (fallen : Option Fallen) → NotesNoMore shared (acquired_by shared own wants calls fallen).shared
notes_acquired wants calls shared own (Some fallen) = notes_same shared (acquired_by shared own wants calls (Some fallen)).shared refl
notes_acquired wants calls shared own None =
    notes_both shared (opened shared own).shared (acquired_by shared own wants calls None).shared (notes_opened shared own)
    (notes_answered (opened shared own) (given_in_opening shared own) wants _ _)

pub notes_served : (shared : Shared) (own : Own) (fallen : Option Fallen) → NotesNoMore shared (served_by shared own fallen).shared
notes_served shared own (Some fallen) = notes_same shared (served_by shared own (Some fallen)).shared refl
notes_served shared own None = notes_opened shared own

notes_stabilised : (both : Both) (kept : Option Kept) → NotesNoMore both.shared (stabilised both kept).shared
notes_stabilised both None = notes_stabilised_in both (stabilisation_of both.shared both.own.who)
notes_stabilised both (Some outcome) = notes_same both.shared both.shared refl

pub notes_stabilised_by : (shared : Shared) (own : Own) (fallen : Option Fallen) → NotesNoMore shared (stabilised_by shared own fallen).shared
notes_stabilised_by shared own (Some fallen) = notes_same shared (stabilised_by shared own (Some fallen)).shared refl
notes_stabilised_by shared own None =
    notes_both shared (opened shared own).shared (stabilised_by shared own None).shared (notes_opened shared own) (notes_stabilised (opened shared own) (kept_at shared own.who))

pub notes_departed : (shared : Shared) (own : Own) (fallen : Option Fallen) → NotesNoMore shared (departed_by shared own fallen).shared
notes_departed shared own (Some fallen) = notes_same shared (departed_by shared own (Some fallen)).shared refl
notes_departed shared own None = notes_both shared (opened shared own).shared (departed_by shared own None).shared (notes_opened shared own) (notes_absent (opened shared own))

pub acquire_members : (wants : List Want) (calls : ℕ) (shared : Shared) (own : Own) → NotedAreMembers shared → NotedAreMembers (acquire shared own wants calls).shared
acquire_members wants calls shared own =
    members_by_own shared (acquire shared own wants calls).shared own (notes_acquired wants calls shared own (fallen_at shared own.who)) (acquire_adds wants calls shared own)

pub serve_members : (shared : Shared) (own : Own) → NotedAreMembers shared → NotedAreMembers (serve shared own).shared
serve_members shared own = members_by_own shared (serve shared own).shared own (notes_served shared own (fallen_at shared own.who)) (serve_adds shared own)

pub stabilise_members : (shared : Shared) (own : Own) → NotedAreMembers shared → NotedAreMembers (stabilise shared own).shared
stabilise_members shared own = members_by_own shared (stabilise shared own).shared own (notes_stabilised_by shared own (fallen_at shared own.who)) (stabilise_adds shared own)

pub depart_members : (shared : Shared) (own : Own) → NotedAreMembers shared → NotedAreMembers (depart shared own).shared
depart_members shared own = members_by_own shared (depart shared own).shared own (notes_departed shared own (fallen_at shared own.who)) (depart_adds shared own)

pub join_members : (shared : Shared) (own : Own) → NotedAreMembers shared → NotedAreMembers (join shared own).shared
join_members shared own members = by_place (client_at shared own.who)
  where
    by_place : (place : Option Client) → NotedAreMembers (joined_by shared own place).shared
    by_place (Some client) = members
    by_place None =
        cond_both (free_room shared == 0) _ _ (λ (turn : Turned (Option JoinRefusal)). NotedAreMembers turn.shared) (λ full. members) (λ free. members)

pub vanished_members : (shared : Shared) (own : Own) (fallen : Option Fallen) → NotedAreMembers shared → NotedAreMembers (vanished_by shared own fallen).shared
vanished_members shared own (Some fallen) members = members
vanished_members shared own None members = lost_members shared own.who _ (stabilisation_of shared own.who) refl members

pub vanish_members : (shared : Shared) (own : Own) → NotedAreMembers shared → NotedAreMembers (vanish shared own).shared
vanish_members shared own members =
    let lost : Shared = (vanished_by shared own (fallen_at shared own.who)).shared in
    members_same lost (absent (record { shared = lost; own = own })).shared refl (notes_absent (record { shared = lost; own = own }))
    (vanished_members shared own (fallen_at shared own.who) members)

failed_members : (shared : Shared) (one : Stabilisation) (cause : Outcome) (noted : Option ℕ) → NotedAreMembers shared → NotedAreMembers (failed shared one cause noted).shared
failed_members shared one cause None = ended_members shared one (kept.Failed cause)
failed_members shared one cause (Some lost) = rolled_back_members shared lost

finished_members : (shared : Shared) (one : Stabilisation) (how : Outcome) → Contains shared.stabilisations one → AreFrozen shared → NotedAreMembers shared
    → NotedAreMembers (finished_as shared one how).shared
finished_members shared one (outcome.Ok version) inside frozen members = committed_members shared one inside frozen members
finished_members shared one (outcome.Full need free) inside frozen members = failed_members shared one (outcome.Full need free) one.noted members
finished_members shared one outcome.Worn inside frozen members = failed_members shared one outcome.Worn one.noted members
finished_members shared one outcome.Disk inside frozen members = failed_members shared one outcome.Disk one.noted members
finished_members shared one outcome.Doubt inside frozen members =
    members_same shared (finished_as shared one outcome.Doubt).shared refl
    (notes_by_lead shared one.lead (λ other. record other { phase = Doubtful }) (λ x. refl) (λ x. refl)) members

pub finish_members : (shared : Shared) (lead : ℕ) (how : Outcome) → AreFrozen shared → NotedAreMembers shared → NotedAreMembers (finish shared lead how).shared
finish_members shared lead how frozen members = by_found (stabilisation_led_by shared lead) refl
  where
    by_found : (one : Option Stabilisation) → stabilisation_led_by shared lead ≡ one → NotedAreMembers (finished_by shared how one).shared
    by_found None e = members
    by_found (Some one) e =
        finished_members shared one how (find_found (λ (x : Stabilisation). x.lead == lead) shared.stabilisations one e).0 frozen members

pub settled_members : (shared : Shared) → AreFrozen shared → NotedAreMembers shared → NotedAreMembers (settled shared).shared
settled_members shared frozen members = by_found (doubtful_of shared) refl
  where
    by_found : (one : Option Stabilisation) → doubtful_of shared ≡ one → NotedAreMembers (settled_by shared one).shared
    by_found None e = members
    by_found (Some one) e =
        committed_members shared one (find_found (λ (x : Stabilisation). is_doubtful x.phase) shared.stabilisations one e).0 frozen members
