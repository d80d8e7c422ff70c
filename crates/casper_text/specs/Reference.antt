use Rattle.std.specs.Prelude.{ℕ, ◌^◌, ◌==◌, Bool, List, Option, Some, None}
use Rattle.std.specs.List.{before_first, after_first}
use Rattle.casper_words.specs.declared.page.Ref.{Ref}
use Rattle.casper_text.specs.Number.{number_below}

-- the byte that parts a page from a word
abbrev pub is_dot : ℕ → Bool
is_dot byte = byte == 46

-- the reference of a page and a word, where both are there
abbrev pub reference_from : Option ℕ → Option ℕ → Option Ref
reference_from None word = None
reference_from (Some page) None = None
reference_from (Some page) (Some word) = Some record { page = page; word = word }

-- the reference `P.W` that a word writes: a number below 2 ^ 32 before the first dot, and one after it
unfoldable pub reference_of : List ℕ → Option Ref
reference_of word = reference_from (number_below (2 ^ 32) (before_first is_dot word)) (number_below (2 ^ 32) (after_first is_dot word))
