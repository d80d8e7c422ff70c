use Rattle.std.proofs.Common.{◌≡◌, take}
use Rattle.casper_map.proofs.planning.numbers_of_pages.Given as goal

abbrev pub invariant-loop-page : goal.invariant-loop-page
invariant-loop-page l = l.numbers.items ≡ take l.page-index l.pages
