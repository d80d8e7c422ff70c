use Rattle.std.specs.Prelude.{ℕ, List, [], ◌++◌, ◌+◌, ◌-◌, Bool, true, ◌&&◌, ◌||◌, ◌==◌, not, cond, map, filter, filter_map, length, min, find, Option, None, Some}
use Rattle.std.specs.List.{list_any}
use Rattle.casper_words.specs.declared.page.Right.{Right}
use Rattle.casper_words.specs.declared.page.Want.{Want}
use Rattle.casper_words.specs.Crew.{clients}
use Rattle.casper_trail.specs.Parts.{as_items}
use Rattle.casper_trail.specs.Calls.{entries_by}
use Rattle.casper_model.specs.Held.{is_of, is_to_write, lowered}
use Rattle.casper_model.specs.Stabilisation.{Stabilisation, is_gathering, handed_in_by}
use Rattle.casper_model.specs.Shared.{Shared, asks_at, change_client, change_stabilisation}
use Rattle.casper_model.specs.Own.{Own}
use Rattle.casper_model.specs.Both.{Both, agreed}
use Rattle.casper_model.specs.Room.{most_cap, free_room}
use Rattle.casper_model.specs.Frozen.{is_member}

-- A turn of a client opens so: its pending calls are recorded, its cap is topped up, pages are given up to the asks of
-- others, and where its association is gathering it hands in the pages that it holds for writing.

-- no outcome is kept for a client any more
abbrev pub kept_dropped : ℕ → Shared → Shared
kept_dropped who shared = change_client who (λ client. record client { kept = None }) shared

-- a fallen client is told: its cache and its pending calls are cleared, and nothing of it is recorded
abbrev pub told_of_fall : Shared → Own → Both
told_of_fall shared own = record {
  shared = change_client own.who (λ client. record client { kept = None; fallen = None }) shared;
  own = record own { held = []; pending = [] };
}

-- the pending calls recorded, in their order. Each lowers the cap by one
abbrev pub recorded : Shared → Own → Both
recorded shared own =
    agreed (record shared { trail = shared.trail ++ as_items (entries_by own.who own.pending) })
    (record own { cap = own.cap - length own.pending; pending = [] })

-- the cap raised to the most, or as far as the free room allows
abbrev pub topped_up : Both → Both
topped_up both = agreed both.shared (record (both.own) { cap = min most_cap (both.own.cap + free_room both.shared) })

-- whether another client has an ask on a page, for a right that passes the test
abbrev pub asks_for : (Right → Bool) → Shared → ℕ → ℕ → ℕ → Bool
asks_for test shared who page other = not (other == who) && list_any (λ ask. is_of page ask && test ask.right) (asks_at shared other)

-- whether some other client has
abbrev pub is_asked_for : (Right → Bool) → Shared → ℕ → ℕ → Bool
is_asked_for test shared who page = list_any (asks_for test shared who page) clients

abbrev pub any_right : Right → Bool
any_right right = true

-- whether a page has to be given up wholly, since another client asks to write it
abbrev pub is_given_up_wholly : Shared → ℕ → Want → Bool
is_given_up_wholly shared who held = is_asked_for is_to_write shared who held.page

-- whether a page that is held for writing is to be kept for reading, since another client asks to read it
abbrev pub is_given_up_to_reading : Shared → ℕ → Want → Bool
is_given_up_to_reading shared who held = is_to_write held.right && is_asked_for any_right shared who held.page

-- what a client keeps of a page as the asks of others are met
abbrev pub kept_of : Shared → ℕ → Want → Option Want
kept_of shared who held =
    cond (is_given_up_wholly shared who held) None (Some (cond (is_given_up_to_reading shared who held) (lowered held) held))

-- the pages that are given up as the asks of others are met, wholly or to reading
abbrev pub pages_given_up : Both → List ℕ
pages_given_up both =
    map (λ held. held.page)
    (filter (λ held. is_given_up_wholly both.shared both.own.who held || is_given_up_to_reading both.shared both.own.who held) both.own.held)

abbrev pub given_up : Both → Both
given_up both = agreed both.shared (record (both.own) { held = filter_map (kept_of both.shared both.own.who) both.own.held })

-- the gathering stabilisation that a client is a member of, if there is one
abbrev pub gathering_of : Shared → ℕ → Option Stabilisation
gathering_of shared who = find (λ one. is_gathering one.phase && is_member shared who one) shared.stabilisations

-- the pages that are held for writing handed in, and kept for reading
abbrev pub handed_in : Both → Both
handed_in both = agreed both.shared (record (both.own) { held = map lowered both.own.held })

-- the pages handed in to a gathering stabilisation, which no longer awaits the client
abbrev pub handed_in_to : Both → Option Stabilisation → Both
handed_in_to both None = both
handed_in_to both (Some gathering) =
    let after = handed_in both in
    record after { shared = change_stabilisation gathering.lead (handed_in_by both.own.who) after.shared }

-- the first part of an opening: the calls recorded and the cap topped up. A kept outcome is taken or dropped
abbrev pub begun : Shared → Own → Both
begun shared own = topped_up (recorded (kept_dropped own.who shared) own)

-- the two parts after an opening
abbrev pub opened : Shared → Own → Both
opened shared own =
    let both = given_up (begun shared own) in
    handed_in_to both (gathering_of both.shared both.own.who)

-- the pages that an opening gave up to the asks of others
abbrev pub given_in_opening : Shared → Own → List ℕ
given_in_opening shared own = pages_given_up (begun shared own)
