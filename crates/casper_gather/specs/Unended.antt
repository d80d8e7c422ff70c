use Rattle.std.specs.Prelude.{ℕ, ◌==◌, List, Bool, true, false, ◌&&◌, Option, not, cond, map, filter, find, is_some, slice_get}
use Rattle.casper_words.specs.Crew.{has_member, crew_of}
use Rattle.casper_model.specs.Stabilisation.{without}
use Rattle.casper_gather.specs.declared.stab.Phase.{Phase}
use Rattle.casper_gather.specs.declared.stab.Phase.TheVariants as phase
use Rattle.casper_gather.specs.declared.stab.Stab.{Stab}

-- the stabilisations that have not ended, in the order in which they began, and how many more may begin before memory is needed
pub record UnendedView : Type 0 where
  pub each : List Stab
  pub room : ℕ

-- whether a stabilisation in this phase is sealed
abbrev pub is_sealed : Phase → Bool
is_sealed phase.Gathering = false
is_sealed phase.Sealed = true
is_sealed phase.Doubt = false

-- whether one in this phase is in doubt
abbrev pub is_doubtful : Phase → Bool
is_doubtful phase.Gathering = false
is_doubtful phase.Sealed = false
is_doubtful phase.Doubt = true

-- the first one with this lead
abbrev pub led_by : ℕ → List Stab → Option Stab
led_by lead each = find (λ one. one.lead == lead) each

-- the first one whose lead is among these
abbrev pub led_among : List ℕ → List Stab → Option Stab
led_among members each = find (λ one. has_member one.lead members) each

-- the sealed one with this lead
abbrev pub sealed_by : ℕ → List Stab → Option Stab
sealed_by lead each = find (λ one. (one.lead == lead) && is_sealed one.phase) each

-- the leads of those that are sealed
abbrev pub sealed_leads : List Stab → List ℕ
sealed_leads each = crew_of (λ lead. is_some (sealed_by lead each))

-- the least lead of those that are sealed, if there is one
abbrev pub first_sealed_in : List Stab → Option ℕ
first_sealed_in each = slice_get (sealed_leads each) 0

-- the first one in such a phase
abbrev pub first_in : (Phase → Bool) → List Stab → Option Stab
first_in test each = find (λ one. test one.phase) each

-- all of them, with another in the place of the one that has its lead
abbrev pub with_changed : Stab → List Stab → List Stab
with_changed changed each = map (λ one. cond (one.lead == changed.lead) changed one) each

-- all but those that are led by one of these
abbrev pub but_led_among : List ℕ → List Stab → List Stab
but_led_among members each = filter (λ one. not (has_member one.lead members)) each

-- all of them, where one client waits for no outcome
abbrev pub without_asker_of_each : ℕ → List Stab → List Stab
without_asker_of_each who each = map {A = Stab} (λ one. record one { askers = without who one.askers }) each
