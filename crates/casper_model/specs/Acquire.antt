use Rattle.std.specs.Prelude.{ℕ, List, [], ◌++◌, ◌+◌, ◌-◌, Bool, true, false, ◌&&◌, ◌||◌, ◌==◌, not, nat_lt, cond, map, filter, filter_map, find, length, slice_get, option_map, Option, None, Some}
use Rattle.std.specs.Option.{option_or}
use Rattle.std.specs.List.{list_any}
use Rattle.casper_words.specs.declared.page.Want.{Want}
use Rattle.casper_words.specs.Crew.{clients, crew_of, has_member}
use Rattle.casper_trail.specs.declared.entry.Entry.{Entry}
use Rattle.casper_trail.specs.Parts.{as_items}
use Rattle.casper_trail.specs.Calls.{touch_by}
use Rattle.casper_trail.specs.TrailView.{entry_count}
use Rattle.casper_model.specs.declared.reply.Reply.{Reply}
use Rattle.casper_model.specs.declared.reply.Reply.TheVariants.{Granted, Pending, Frozen, InDoubt, RolledBack, TrailFull}
use Rattle.casper_model.specs.Held.{is_of, is_to_write, missing_of, with_granted}
use Rattle.casper_model.specs.Client.{Fallen}
use Rattle.casper_model.specs.Stabilisation.{Stabilisation, is_doubtful, is_empty}
use Rattle.casper_model.specs.Shared.{Shared, rights_at, fallen_at, change_client}
use Rattle.casper_model.specs.Own.{Own}
use Rattle.casper_model.specs.Both.{Both, Turned, turned, agreed}
use Rattle.casper_model.specs.Frozen.{is_member, is_modified_in}
use Rattle.casper_model.specs.Opening.{asks_for, any_right, told_of_fall, opened, given_in_opening}

-- whether nothing is missing
abbrev pub none_missing : List Want → Bool
none_missing missing = not (list_any (λ want. true) missing)

-- whether the client, or the page of a missing want, belongs to an association in doubt
abbrev pub is_in_doubt : Shared → ℕ → List Want → Bool
is_in_doubt shared who missing =
    list_any (λ one. is_doubtful one.phase && (is_member shared who one || list_any (λ want. is_modified_in shared want.page one) missing)) shared.stabilisations

abbrev pub refused_in_doubt : Shared → ℕ → List Want → Option Reply
refused_in_doubt shared who missing = cond (is_in_doubt shared who missing) (Some InDoubt) None

-- the stabilisations that are gathering or sealed
abbrev pub frozen_of : Shared → List Stabilisation
frozen_of shared = filter (λ one. not (is_doubtful one.phase)) shared.stabilisations

-- the lead of the frozen association that a client belongs to, and else of the first one that a missing page belongs to
abbrev pub frozen_lead : Shared → ℕ → List Want → Option ℕ
frozen_lead shared who missing =
    let frozen = frozen_of shared in
    option_map (λ one. one.lead)
    (option_or (find (is_member shared who) frozen) (slice_get (filter_map (λ want. find (is_modified_in shared want.page) frozen) missing) 0))

abbrev pub refused_frozen : Shared → ℕ → List Want → Option Reply
refused_frozen shared who missing = option_map Frozen (frozen_lead shared who missing)

-- whether another client's right stands in the way of a want: of one to read that of a writer, of one to write any
abbrev pub has_conflict : Shared → ℕ → Want → ℕ → Bool
has_conflict shared who want other =
    not (other == who) && list_any (λ held. is_of want.page held && (is_to_write want.right || is_to_write held.right)) (rights_at shared other)

-- whether another client stands in the way of a want: by its right, or by its ask on a page that this very turn gave up
abbrev pub blocks : Shared → ℕ → List ℕ → Want → ℕ → Bool
blocks shared who given want other =
    has_conflict shared who want other || (has_member want.page given && asks_for any_right shared who want.page other)

abbrev pub is_blocked : Shared → ℕ → List ℕ → Want → Bool
is_blocked shared who given want = list_any (blocks shared who given want) clients

-- the missing wants that another client stands in the way of
abbrev pub blocked_of : Shared → ℕ → List ℕ → List Want → List Want
blocked_of shared who given missing = filter (is_blocked shared who given) missing

-- all clients that stand in the way of a missing want
abbrev pub blockers_of : Shared → ℕ → List ℕ → List Want → List ℕ
blockers_of shared who given missing = crew_of (λ other. list_any (λ want. blocks shared who given want other) missing)

abbrev pub refused_pending : Shared → ℕ → List ℕ → List Want → Option Reply
refused_pending shared who given missing =
    let blockers = blockers_of shared who given missing in
    cond (is_empty blockers) None (Some (Pending blockers))

-- the refusal for what is missing: in doubt, then frozen, then blocked
abbrev pub refused_missing : Shared → ℕ → List ℕ → List Want → Option Reply
refused_missing shared who given missing =
    cond (none_missing missing) None
    (option_or (refused_in_doubt shared who missing) (option_or (refused_frozen shared who missing) (refused_pending shared who given missing)))

-- the refusal for want of room: of each missing want for its touch, and of each call
abbrev pub refused_full : Both → List Want → ℕ → Option Reply
refused_full both missing calls =
    cond (nat_lt both.own.cap (length missing + calls)) (Some (TrailFull (entry_count both.shared.trail))) None

abbrev pub is_pending : Reply → Bool
is_pending (Pending blockers) = true
is_pending other = false

-- the asks of a client replaced
abbrev pub with_asks : List Want → Both → Both
with_asks asks both = record both { shared = change_client both.own.who (λ client. record client { asks = asks }) both.shared }

-- these wants touched by a client, in order
abbrev pub touches_by : ℕ → List Want → List Entry
touches_by who wants = map (λ want. touch_by who want.page) wants

-- the missing rights given and touched, in order, the wanted pages in front, and pages given up where there are too many
abbrev pub granted : List Want → List Want → Both → Both
granted wants missing both =
    agreed (record (both.shared) { trail = both.shared.trail ++ as_items (touches_by both.own.who missing) })
    (record (both.own) { cap = both.own.cap - length missing; held = with_granted both.own.capacity wants both.own.held })

-- what an acquire gives after its opening, by the refusal
abbrev pub answered : Both → List ℕ → List Want → List Want → Option Reply → Turned Reply
answered both given wants missing None = turned Granted (granted wants missing (with_asks [] both))
answered both given wants missing (Some reply) =
    turned reply (with_asks (cond (is_pending reply) (blocked_of both.shared both.own.who given missing) []) both)

-- what an acquire gives after its opening, which gave these pages up
abbrev pub acquired : Both → List ℕ → List Want → ℕ → Turned Reply
acquired both given wants calls =
    let missing = missing_of both.own.held wants in
    answered both given wants missing (option_or (refused_missing both.shared both.own.who given missing) (refused_full both missing calls))

abbrev pub acquired_by : Shared → Own → List Want → ℕ → Option Fallen → Turned Reply
acquired_by shared own wants calls (Some fallen) = turned (RolledBack fallen.mark fallen.dropped (length own.pending)) (told_of_fall shared own)
acquired_by shared own wants calls None = acquired (opened shared own) (given_in_opening shared own) wants calls

-- a turn in which a client wants pages, and room for so many calls
abbrev pub acquire : Shared → Own → List Want → ℕ → Turned Reply
acquire shared own wants calls = acquired_by shared own wants calls (fallen_at shared own.who)

-- the wants that an acquire finds missing once it has opened
abbrev pub missing_once_opened : Shared → Own → List Want → List Want
missing_once_opened shared own wants = missing_of (opened shared own).own.held wants
