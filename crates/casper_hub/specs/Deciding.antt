use Rattle.std.specs.Prelude.{ℕ, ◌+◌, List, Bool, false, true, not, ◌&&◌, ◌||◌, ◌==◌, cond, nat_lt, filter, find, length, is_none, Option, None, Some}
use Rattle.std.specs.List.{list_any}
use Rattle.casper_words.specs.Crew.{clients, crew_of}
use Rattle.casper_words.specs.declared.page.Right.{Right}
use Rattle.casper_words.specs.declared.page.Want.{Want}
use Rattle.casper_dir.specs.Rights.{right_at}
use Rattle.casper_cache.specs.declared.held.Held.{Held}
use Rattle.casper_cache.specs.Holding.{right_of}
use Rattle.casper_dir.specs.Holding.{is_in_conflict}
use Rattle.casper_model.specs.Held.{is_to_write}
use Rattle.casper_model.specs.Stabilisation.{is_empty}
use Rattle.casper_model.specs.Opening.{any_right}
use Rattle.casper_hub.specs.declared.decide.Decision.{Decision}
use Rattle.casper_hub.specs.declared.decide.Decision.TheVariants as decision
use Rattle.casper_hub.specs.HubView.{PagesView, ClientView, frame_in}
use Rattle.casper_hub.specs.Shows.{permits}
use Rattle.casper_hub.specs.Asks.{asks_for}
use Rattle.casper_hub.specs.Given.{right_kept}

-- What an acquire comes to is decided before anything changes: by the rights as they will be once the client has met the asks of the
-- others.

-- the wants that the client will not hold with at least their right
abbrev pub is_missing : PagesView → List (Option ClientView) → ℕ → Want → Bool
is_missing pages places who want = not (permits (right_kept pages places who want.page) want.right)

abbrev pub missing_in : PagesView → List (Option ClientView) → ℕ → List Want → List Want
missing_in pages places who wants = filter (is_missing pages places who) wants

-- the wants that a cache does not hold with at least their right
abbrev pub lacking_in : List Held → List Want → List Want
lacking_in held wants = filter (λ want. not (permits (right_of want.page held) want.right)) wants

-- whether a right falls to nothing, or from writing to reading
abbrev pub fell : Option Right → Option Right → Bool
fell None after = false
fell (Some right) None = true
fell (Some right) (Some left) = is_to_write right && not (is_to_write left)

-- whether the client will give a page up, wholly or to reading
abbrev pub is_given : PagesView → List (Option ClientView) → ℕ → ℕ → Bool
is_given pages places who page = fell (right_at pages.rights who page) (right_kept pages places who page)

-- whether another client stands in the way of a want: by its right, or by its ask on a page that is given up
abbrev pub stands_in_the_way : PagesView → List (Option ClientView) → ℕ → Want → ℕ → Bool
stands_in_the_way pages places who want other =
    (not (other == who) && is_in_conflict want.right (right_at pages.rights other want.page))
    || (is_given pages places who want.page && asks_for any_right places who want.page other)

abbrev pub blockers_in : PagesView → List (Option ClientView) → ℕ → List Want → List ℕ
blockers_in pages places who missing = crew_of (λ other. list_any (λ want. stands_in_the_way pages places who want other) missing)

abbrev pub blocked_in : PagesView → List (Option ClientView) → ℕ → List Want → List Want
blocked_in pages places who missing = filter (λ want. list_any (stands_in_the_way pages places who want) clients) missing

-- the first of these wants of whose page the server has no frame
abbrev pub unframed_in : PagesView → List Want → Option Want
unframed_in pages wants = find (λ want. is_none (frame_in pages want.page)) wants

abbrev pub granted_or_load : List Want → Option Want → Decision
granted_or_load missing None = decision.Grant missing
granted_or_load missing (Some want) = decision.Load want.page

-- what is decided, where the client will have this cap
abbrev pub decision_for : PagesView → List (Option ClientView) → ℕ → List Want → ℕ → ℕ → Decision
decision_for pages places who wants calls cap =
    let missing = missing_in pages places who wants in
    let blockers = blockers_in pages places who missing in
    cond (is_empty blockers)
    (cond (nat_lt cap (length missing + calls)) decision.Full (granted_or_load missing (unframed_in pages missing)))
    (decision.Pending blockers (blocked_in pages places who missing))
