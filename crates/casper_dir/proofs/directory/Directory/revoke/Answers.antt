use Rattle.std.proofs.Common.{◌∙◌, List, length, sym, ap, subst}
use Rattle.std.proofs.lemmas.List.{with_items_is}
use Rattle.casper_dir.specs.declared.holders.Holders.{Holders}
use Rattle.casper_dir.specs.Rights.{RevokesRights, AreAllClients}
use Rattle.casper_dir.proofs.directory.Directory.revoke.Goals as goal

pub release_each-requires : goal.release_each-requires
release_each-requires c = subst (λ (l : List Holders). AreAllClients l) (sym c.deref_mut.ensures.value) c.self.invariant

pub invariant_of-self : goal.invariant_of-self
invariant_of-self c =
    let kept = with_items_is c.self.inside.pages c.release_each.new.pages (c.release_each.auto.pages ∙ c.deref_mut.ensures.len) in
    subst (λ (l : List Holders). AreAllClients l) (sym kept) c.release_each.ensures.clients

pub returns-clause-pages : goal.returns-clause-pages
returns-clause-pages c =
    let kept = with_items_is c.self.inside.pages c.release_each.new.pages (c.release_each.auto.pages ∙ c.deref_mut.ensures.len) in
    ap (λ (l : List Holders). length l) kept ∙ c.release_each.auto.pages ∙ ap (λ (l : List Holders). length l) (c.deref_mut.ensures.value ∙ c.self.view_is)

pub returns-clause-clients : goal.returns-clause-clients
returns-clause-clients c = invariant_of-self c

pub returns-clause-rights : goal.returns-clause-rights
returns-clause-rights c =
    let kept = with_items_is c.self.inside.pages c.release_each.new.pages (c.release_each.auto.pages ∙ c.deref_mut.ensures.len) in
    let P : List Holders → Type 0 = λ new. RevokesRights c.args.self.now new c.args.members in
    let Q : List Holders → Type 0 = λ old. RevokesRights old c.release_each.new.pages c.args.members in
    subst P (sym kept) (subst Q (c.deref_mut.ensures.value ∙ c.self.view_is) c.release_each.ensures.rights)
