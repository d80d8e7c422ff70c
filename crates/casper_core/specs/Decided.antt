use Rattle.std.specs.Prelude.{◌≡◌, ◌==◌, Bool, true, false, ◌&&◌, nat_lt, cond, Option, None, Some, IsFalse, MatchOption}
use Rattle.std.specs.List.{list_all}
use Rattle.casper_trail.specs.TrailView.{entry_count}
use Rattle.casper_space.specs.declared.answer.Answer.{Answer}
use Rattle.casper_space.specs.declared.answer.Answer.TheVariants as answer
use Rattle.casper_model.specs.declared.event.Event.{Event}
use Rattle.casper_model.specs.declared.event.Event.TheVariants as event
use Rattle.casper_hub.specs.HubView.{HubView, is_live, free_in, page_count}

-- a client that is not live is absent, and what is past the store's is out of range; beyond that nothing is decided
abbrev pub decided_of : Bool → Bool → Option Answer
decided_of live within = cond live (cond within None (Some answer.Range)) (Some answer.Absent)

-- the answer that is decided by what the hub shows, where one is: each answer to a join, and the refusals that come before a turn
abbrev pub decided : HubView → Event → Option Answer
decided hub (event.Join who) = Some (cond (is_live hub who) answer.Busy (cond (free_in hub == 0) (answer.TrailFull (entry_count hub.trail)) answer.Joined))
decided hub (event.Read who page word) = decided_of (is_live hub who) (nat_lt page (page_count hub) && nat_lt word 512)
decided hub (event.Write who page word value) = decided_of (is_live hub who) (nat_lt page (page_count hub) && nat_lt word 512)
decided hub (event.Acquire who wants) = decided_of (is_live hub who) (list_all (λ want. nat_lt want.page (page_count hub)) wants)
decided hub (event.Serve who) = decided_of (is_live hub who) true
decided hub (event.Stabilise who) = decided_of (is_live hub who) true
decided hub (event.Depart who) = decided_of (is_live hub who) true
decided hub (event.Vanish who) = decided_of (is_live hub who) true
decided hub (event.Lose who) = decided_of (is_live hub who) true
decided hub other = None

-- whether an answer is one to a client alone, and of no turn
abbrev pub is_before_turn : Answer → Bool
is_before_turn answer.Joined = true
is_before_turn answer.Busy = true
is_before_turn answer.Absent = true
is_before_turn answer.Range = true
is_before_turn other = false

-- whether an answer is none of a turn but a write-out
abbrev pub is_of_no_turn : Answer → Bool
is_of_no_turn answer.Joined = true
is_of_no_turn answer.Busy = true
is_of_no_turn answer.Absent = true
is_of_no_turn answer.Range = true
is_of_no_turn answer.Doubt = true
is_of_no_turn other = false

-- an answer is one of the turn that an event is
abbrev pub IsOfTurn : Event → Answer → Type 0
IsOfTurn (event.WriteOut lead) said = IsFalse (is_before_turn said)
IsOfTurn other said = IsFalse (is_of_no_turn said)

-- an answer is the one that is decided, and where none is, it is one of a turn
abbrev pub AnswersByTheHub : HubView → Event → Answer → Type 0
AnswersByTheHub hub one said = MatchOption (decided hub one) (IsOfTurn one said) (λ answer. said ≡ answer)
