use Rattle.std.specs.Prelude.{ℕ, List, ◌++◌, Bool, true, false, not, ◌&&◌, ◌||◌, ◌==◌, ◌-◌, cond, map, filter, reverse, take, length}
use Rattle.std.specs.List.{list_any}
use Rattle.casper_words.specs.declared.page.Right.{Right}
use Rattle.casper_words.specs.declared.page.Right.TheVariants as may
use Rattle.casper_words.specs.declared.page.Want.{Want}

-- A list of held pages with their rights is a list of wants, the page that was used last first.

abbrev pub is_to_write : Right → Bool
is_to_write may.Read = false
is_to_write may.Write = true

abbrev pub is_to_read : Right → Bool
is_to_read may.Read = true
is_to_read may.Write = false

-- whether a right allows what is wanted: to write allows to read
abbrev pub covers : Right → Right → Bool
covers right wanted = is_to_write right || is_to_read wanted

-- whether a page is meant
abbrev pub is_of : ℕ → Want → Bool
is_of page want = want.page == page

-- whether a page is among these
abbrev pub holds : List Want → ℕ → Bool
holds held page = list_any (is_of page) held

-- whether a page is held with at least this right
abbrev pub allows : List Want → ℕ → Right → Bool
allows held page wanted = list_any (λ want. is_of page want && covers want.right wanted) held

-- the wants that are not held with at least their right
abbrev pub missing_of : List Want → List Want → List Want
missing_of held wants = filter (λ want. not (allows held want.page want.right)) wants

-- a page kept for reading
abbrev pub lowered : Want → Want
lowered want = record want { right = may.Read }

-- the held pages once a page has been used: it stands first
abbrev pub with_first : ℕ → List Want → List Want
with_first page held = filter (is_of page) held ++ filter (λ want. not (is_of page want)) held

-- a want with the right that it has once it is granted: a page that is held for writing stays so
abbrev pub granted_right : List Want → Want → Want
granted_right held want = record want { right = cond (allows held want.page may.Write) may.Write want.right }

-- the held pages once these wants are granted: the wanted pages stand first, the last of them in front. Of the others
-- those stay that were used last, as many as the capacity leaves
abbrev pub with_granted : ℕ → List Want → List Want → List Want
with_granted capacity wants held =
    reverse (map (granted_right held) wants) ++ take (capacity - length wants) (filter (λ want. not (holds wants want.page)) held)
