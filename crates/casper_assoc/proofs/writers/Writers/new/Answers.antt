use Rattle.std.proofs.Common.{ℕ, None, List, Option, length, get_or, ap, ◌∙◌}
use Rattle.std.proofs.lemmas.List.{length-replicate}
use Rattle.casper_assoc.proofs.WrittenLists.{lists_begin}
use Rattle.casper_assoc.proofs.Places.{none_in_replicate}
use Rattle.casper_assoc.proofs.writers.Writers.new.Goals as goal

pub invariant_of-result : goal.invariant_of-result
invariant_of-result c =
    lists_begin c.args.pages c.in_ok-writers.writers.items c.in_ok-lists.lists.items
    (ap (λ (l : List (Option ℕ)). length l) c.in_ok-writers.ensures ∙ length-replicate c.args.pages None)
    (λ page. ap (λ (l : List (Option ℕ)). get_or l page None) c.in_ok-writers.ensures ∙ none_in_replicate c.args.pages page)
    c.in_ok-lists.ensures
