use Rattle.std.proofs.Common.{◌≡◌, ◌∙◌, ℕ, List, sym, subst, ap, true, Some, ◌↔◌}
use Rattle.casper_words.specs.declared.page.Right.TheVariants.{Write}
use Rattle.casper_words.specs.Crew.{has_member}
use Rattle.casper_dir.specs.declared.holders.Holders.{Holders}
use Rattle.casper_dir.specs.Rights.{writers_in, right_at, AreAllClients}
use Rattle.casper_dir.proofs.WritersLemmas.{writers_write}
use Rattle.casper_dir.proofs.directory.Directory.writers.Goals as goal

pub returns-clause-each : goal.returns-clause-each
returns-clause-each c client =
    let is = c.writers_of.ensures ∙ ap writers_in (c.deref.ensures.value ∙ c.self.view_is) in
    subst (λ (l : List ℕ). (has_member client l ≡ true) ↔ ((page : ℕ) × (right_at c.args.self.now client page ≡ Some Write))) (sym is)
    (writers_write c.args.self.now client (subst (λ (l : List Holders). AreAllClients l) c.self.view_is c.self.invariant))
