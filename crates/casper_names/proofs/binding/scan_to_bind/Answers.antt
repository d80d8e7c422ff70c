use Rattle.std.proofs.Common.{◌∙◌, ℕ, List, Option, ap}
use Rattle.std.specs.Prelude.{position}
use Rattle.casper_names.specs.Table.{is_named}
use Rattle.casper_names.specs.Binding.{is_free, found_or_free}
use Rattle.casper_names.proofs.Binds.{within_table}
use Rattle.casper_names.proofs.binding.scan_to_bind.Goals as goal

pub returns-clause-entry : goal.returns-clause-entry
returns-clause-entry g c =
    c.entry_to_bind.ensures.entry
    ∙ ap (λ (entries : List (Option (List ℕ))). found_or_free (position (is_named c.args.name.now) entries) (position is_free entries))
    (c.deref.ensures.0 ∙ c.scan-entries.ensures.entries)

pub returns-clause-within : goal.returns-clause-within
returns-clause-within g c =
    within_table ((g.W.Words.seen c.args.words.now).words 0) c.deref.result.now c.entry_to_bind.result (c.deref.ensures.0 ∙ c.scan-entries.ensures.entries)
    c.entry_to_bind.ensures.within
