use Rattle.std.proofs.Common.{refl}
use Rattle.std.specs.List.Sorted.{IsNonDecreasing}
use Rattle.std.proofs.lemmas.List.Sorted.{IsNonDecreasingBy-from_sort}
use Rattle.casper_frozen.proofs.Counted.{sorted_are_modified, sorted_rises, sorted_are_within}
use Rattle.casper_frozen.proofs.modified.modified_pages.Goals as goal

pub returns-clause-rising : goal.returns-clause-rising
returns-clause-rising c =
    let sorted : IsNonDecreasing c.sort_unstable.new.self.items = IsNonDecreasingBy-from_sort (λ n. n) c.sort_unstable.new.self.items c.sort_unstable.ensures.sorted in
    sorted_rises c.in_ok-pages.pages.items c.sort_unstable.new.self.items c.in_ok-pages.ensures.written.once c.sort_unstable.ensures.permutation sorted

pub returns-clause-pages : goal.returns-clause-pages
returns-clause-pages c =
    sorted_are_modified c.args.associations.now c.args.members 33 c.in_ok-pages.pages.items c.sort_unstable.new.self.items refl
    c.in_ok-pages.ensures.written c.sort_unstable.ensures.permutation (returns-clause-rising c)

pub returns-clause-within : goal.returns-clause-within
returns-clause-within c =
    sorted_are_within c.args.associations.now c.args.members 33 c.in_ok-pages.pages.items c.sort_unstable.new.self.items
    c.in_ok-pages.ensures.written c.sort_unstable.ensures.permutation
