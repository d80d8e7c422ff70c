use Rattle.std.specs.Prelude.{ℕ, List, Bool, true, false, ◌&&◌, not, Option, find}
use Rattle.std.specs.List.{list_any}
use Rattle.casper_words.specs.Crew.{has_member}
use Rattle.casper_gather.specs.declared.stab.Phase.{Phase}
use Rattle.casper_gather.specs.declared.stab.Phase.TheVariants as phase
use Rattle.casper_gather.specs.declared.stab.Stab.{Stab}
use Rattle.casper_gather.specs.Unended.{is_doubtful}

-- whether one in this phase gathers
abbrev pub is_gathering : Phase → Bool
is_gathering phase.Gathering = true
is_gathering phase.Sealed = false
is_gathering phase.Doubt = false

-- the first one that gathers and whose lead is among these
abbrev pub gathering_among : List ℕ → List Stab → Option Stab
gathering_among members each = find (λ one. is_gathering one.phase && has_member one.lead members) each

-- the first one that is not in doubt and whose lead is among these
abbrev pub frozen_among : List ℕ → List Stab → Option Stab
frozen_among members each = find (λ one. not (is_doubtful one.phase) && has_member one.lead members) each

-- whether one is in doubt whose lead is among these
abbrev pub is_doubt_among : List ℕ → List Stab → Bool
is_doubt_among members each = list_any (λ one. is_doubtful one.phase && has_member one.lead members) each
