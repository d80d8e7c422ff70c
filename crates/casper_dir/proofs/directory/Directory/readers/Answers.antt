use Rattle.std.proofs.Common.{◌≡◌, Option, sym, subst, option_and_then}
use Rattle.casper_words.specs.Crew.{crew_of}
use Rattle.casper_dir.specs.declared.holders.Holders.{Holders}
use Rattle.casper_dir.specs.Holding.{right_in, reads}
use Rattle.casper_dir.proofs.RightsLemmas.{located, clients_read}
use Rattle.casper_dir.proofs.directory.Directory.readers.Goals as goal

pub readers-requires : goal.readers-requires
readers-requires c =
    clients_read c.args.self.now c.self.inside.pages.items c.args.page c.page.inside.0 c.index.result.now
    c.self.view_is c.page.view_is c.requires c.index.ensures c.self.invariant

pub returns-clause-readers : goal.returns-clause-readers
returns-clause-readers c =
    let P : Option Holders → Type 0 = λ o. c.readers.result ≡ crew_of (λ client. reads (option_and_then (right_in client) o)) in
    subst P
    (sym (located c.args.self.now c.self.inside.pages.items c.args.page c.page.inside.0 c.index.result.now c.self.view_is c.page.view_is c.requires c.index.ensures))
    c.readers.ensures
