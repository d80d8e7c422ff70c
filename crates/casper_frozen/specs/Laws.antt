use Rattle.std.specs.Prelude.{◌≡◌, ℕ, List, None, cond}
use Rattle.std.specs.Option.{option_or}
use Rattle.casper_words.specs.declared.page.Want.{Want}
use Rattle.casper_model.specs.Shared.{Shared}
use Rattle.casper_model.specs.Acquire.{none_missing, refused_missing, refused_pending}
use Rattle.casper_frozen.specs.Refused.{refused_at_once}

-- what the machine refuses for what is missing is what it refuses at once, and else, where something is missing, the blockers
abbrev pub RefusalComesFirst : Type 0
RefusalComesFirst = (shared : Shared) (who : ℕ) (given : List ℕ) (missing : List Want)
    → refused_missing shared who given missing
    ≡ option_or (refused_at_once shared who missing) (cond (none_missing missing) None (refused_pending shared who given missing))
