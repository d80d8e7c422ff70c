use Rattle.std.specs.Prelude.{◌≡◌, ℕ, Bool, true, false, ◌&&◌, ◌==◌, List, [], None, cond}
use Rattle.std.specs.List.{list_any, range_with_len}
use Rattle.casper_words.specs.Crew.{IsClient, has_member}
use Rattle.casper_trail.specs.declared.mark.Mark.{Mark}
use Rattle.casper_trail.specs.declared.mark.Mark.TheVariants.{Commit, Rollback}
use Rattle.casper_audit.specs.declared.words.Place.{Place}
use Rattle.casper_audit.specs.declared.words.Values.{Values}
use Rattle.casper_audit.specs.declared.ledger.Ledger.{Ledger}
use Rattle.casper_audit.specs.Words.{values_in}
use Rattle.casper_audit.specs.Opened.{places_in, is_among}
use Rattle.casper_audit.specs.Keeps.{writer_in}

abbrev pub commits : Mark → Bool
commits (Commit lead members) = true
commits (Rollback lost members) = false

-- both values of a word where its writes were committed, and where they were dropped
abbrev pub settled : Bool → Values → Values
settled committed values = record { live = cond committed values.live values.stable; stable = cond committed values.live values.stable }

-- the words that pass a test were settled, and the pages that pass one have no writer; nothing else of words and writers changed
pub record Settles (committed : Bool) (words : Place → Bool) (pages : ℕ → Bool) (before after : Ledger) : Type 0 where
  pub values : (place : Place) → values_in after.words place ≡ cond (words place) (settled committed (values_in before.words place)) (values_in before.words place)
  pub writers : (page : ℕ) → writer_in after page ≡ cond (pages page) None (writer_in before page)
  pub groups : after.groups ≡ before.groups

abbrev pub on_page : ℕ → Place → Bool
on_page page place = place.page == page

-- whether a word, or a page, is among those of the members up to a number
unfoldable pub is_theirs : Ledger → List ℕ → ℕ → Place → Bool
is_theirs ledger members count place = list_any (λ who. has_member who members && is_among (places_in ledger.opened who) place) (range_with_len 1 count)

unfoldable pub has_theirs : Ledger → List ℕ → ℕ → ℕ → Bool
has_theirs ledger members count page = list_any (λ who. has_member who members && list_any (on_page page) (places_in ledger.opened who)) (range_with_len 1 count)

-- the clients that pass a test have no place left, and every other client has its own
abbrev pub Empties : (ℕ → Bool) → Ledger → Ledger → Type 0
Empties test before after = (who : ℕ) → IsClient who → places_in after.opened who ≡ cond (test who) [] (places_in before.opened who)
