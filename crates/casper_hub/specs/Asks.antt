use Rattle.std.specs.Prelude.{ℕ, List, Bool, not, ◌&&◌, ◌==◌, Option}
use Rattle.std.specs.List.{list_any}
use Rattle.casper_words.specs.Crew.{clients}
use Rattle.casper_words.specs.declared.page.Right.{Right}
use Rattle.casper_words.specs.declared.page.Want.{Want}
use Rattle.casper_model.specs.Held.{is_of}
use Rattle.casper_hub.specs.HubView.{ClientView, place_in, asks_of}

-- whether some of these asks is on a page, for a right that passes the test
abbrev pub are_for : (Right → Bool) → List Want → ℕ → Bool
are_for test asks page = list_any (λ ask. is_of page ask && test ask.right) asks

-- whether another client has an ask on a page, for a right that passes the test
abbrev pub asks_for : (Right → Bool) → List (Option ClientView) → ℕ → ℕ → ℕ → Bool
asks_for test places who page other = not (other == who) && are_for test (asks_of (place_in places other)) page

-- whether some other client has
abbrev pub is_asked_for : (Right → Bool) → List (Option ClientView) → ℕ → ℕ → Bool
is_asked_for test places who page = list_any (asks_for test places who page) clients
