use Rattle.std.specs.Prelude.{ℕ, List, [], ◌∷◌, cond, fold, is_some, unwrap_or, Option, Some, if◌then◌else◌, ◌==◌}
use Rattle.casper_words.specs.declared.page.Right.{Right}
use Rattle.casper_words.specs.declared.page.Want.{Want}
use Rattle.casper_dir.specs.Holding.{raised as raised_right}
use Rattle.casper_cache.specs.declared.held.Held.{Held}
use Rattle.casper_cache.specs.Holding.{right_of, front_of, raised}
use Rattle.casper_model.specs.Held.{is_to_write}
use Rattle.casper_hub.specs.HubView.{PagesView, frame_in}

-- the held pages with one more in front, where it was not held: with the right that is wanted, and the words of the server's frame
abbrev pub with_page : PagesView → List Held → Want → List Held
with_page pages held want =
    cond (is_some (right_of want.page held)) held (record { page = want.page; right = want.right; words = unwrap_or (frame_in pages want.page) [] } ∷ held)

-- and with each of these
abbrev pub with_pages : PagesView → List Held → List Want → List Held
with_pages pages held [] = held
with_pages pages held (want ∷ wants) = with_pages pages (with_page pages held want) wants

-- the held pages once a want is granted: to write, the page is raised
abbrev pub raised_for : List Held → Want → List Held
raised_for held want = cond (is_to_write want.right) (raised want.page held) held

abbrev pub all_raised : List Held → List Want → List Held
all_raised held wants = fold raised_for held wants

-- the right of a client to a page once a want is granted
abbrev pub granted_right : ℕ → Option Right → Want → Option Right
granted_right page right want = if want.page == page then Some (raised_right right want.right) else right

abbrev pub all_granted : ℕ → Option Right → List Want → Option Right
all_granted page right wants = fold (granted_right page) right wants

-- the held pages with these brought to the front, one after another
abbrev pub all_fronted : List Held → List Want → List Held
all_fronted held wants = fold (λ pages want. front_of want.page pages) held wants
