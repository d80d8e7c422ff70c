use Rattle.std.specs.Prelude.{ℕ, ◌<◌, ◌≤◌, List, [], ◌∷◌, length, AllPairs}
use Rattle.casper_words.specs.declared.page.Want.{Want}

-- the page of each want is above that of the want before it, the first one's above this page
abbrev pub PagesRiseAbove : ℕ → List Want → Type 0
PagesRiseAbove page [] = Unit {0}
PagesRiseAbove page (want ∷ wants) = (page < want.page) × PagesRiseAbove want.page wants

-- the pages rise strictly
abbrev pub PagesRise : List Want → Type 0
PagesRise [] = Unit {0}
PagesRise (want ∷ wants) = PagesRiseAbove want.page wants

-- a list that one acquire may ask for: one to four wants, pages strictly rising
pub record AreWants (wants : List Want) : Type 0 where
  pub some : 1 ≤ length wants
  pub few : length wants ≤ 4
  pub rise : PagesRise wants

-- of any two wants of a list that rises, the earlier has the lower page
abbrev pub EarlierWantsAreLower : Type 0
EarlierWantsAreLower = (wants : List Want) → PagesRise wants → AllPairs (λ earlier later. earlier.page < later.page) wants
