use Rattle.std.specs.Prelude.{◌≡◌, ℕ, ◌==◌, if◌then◌else◌, List, None}
use Rattle.std.specs.Option.{option_map}
use Rattle.casper_words.specs.declared.page.Right.{Right}
use Rattle.casper_cache.specs.declared.held.Held.{Held}
use Rattle.casper_cache.specs.Holding.{is_of, entry_of, others, front_of, written, with_word, graded, with_right}

-- bringing a page to the front changes the entry of no page
abbrev pub FrontKeepsEntries : Type 0
FrontKeepsEntries = (page q : ℕ) (held : List Held) → entry_of q (front_of page held) ≡ entry_of q held

-- a write changes one word of its page, and the entry of no other
abbrev pub WrittenChangesOne : Type 0
WrittenChangesOne =
    (page word value q : ℕ) (held : List Held) →
    entry_of q (written page word value held) ≡
    option_map (λ entry. if is_of page entry then with_word word value entry else entry) (entry_of q held)

-- lowering or raising changes the right to its page, and the entry of no other
abbrev pub GradedChangesOne : Type 0
GradedChangesOne =
    (right : Right) (page q : ℕ) (held : List Held) →
    entry_of q (graded right page held) ≡ option_map (λ entry. if is_of page entry then with_right right entry else entry) (entry_of q held)

-- the others are all but the page, each with its entry
abbrev pub OthersAreTheRest : Type 0
OthersAreTheRest = (page q : ℕ) (held : List Held) → entry_of q (others page held) ≡ (if q == page then None else entry_of q held)

-- the others keep their order, whatever is done to a page
abbrev pub OthersKeepTheirOrder : Type 0
OthersKeepTheirOrder =
    (page : ℕ) (held : List Held) →
    (others page (front_of page held) ≡ others page held) ×
    ((word value : ℕ) → others page (written page word value held) ≡ others page held) ×
    ((right : Right) → others page (graded right page held) ≡ others page held)
