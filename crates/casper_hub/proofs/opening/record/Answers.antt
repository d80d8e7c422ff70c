use Rattle.std.proofs.Common.{◌∙◌, List, Contains, subst}
use Rattle.casper_words.specs.declared.call.Call.{Call}
use Rattle.casper_hub.proofs.opening.record.Goals as goal

pub record-requires-clause-within : goal.record-requires-clause-within
record-requires-clause-within c call inside =
    c.requires.within call (subst (λ (calls : List Call). Contains calls call) (c.as_slice-2.ensures ∙ c.pending-2.ensures) inside)
