use Rattle.std.proofs.Common.{ℕ, ap, ◌∙◌}
use Rattle.casper_trail.specs.Parts.{live_entries}
use Rattle.casper_audit.specs.Words.{live_in}
use Rattle.casper_audit.proofs.JudgeLemmas.{within_pages, read_judged}
use Rattle.casper_audit.proofs.ledger.Ledger.is_wrong.Goals as goal

pub returns-in-Read : goal.returns-in-Read
returns-in-Read c = λ base items keeps.
    read_judged base (live_entries items) c.args.entry c.live_value.result c.in-Read.is
    (c.live_value.ensures ∙ ap (λ (page : ℕ). live_in c.args.self.now.words page c.args.entry.word) c.page.view_is
    ∙ keeps.live_is c.args.entry.page c.args.entry.word (within_pages c.args.entry.page c.requires.0) c.requires.1)
