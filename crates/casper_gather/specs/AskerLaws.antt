use Rattle.std.specs.Prelude.{◌≡◌, ◌≢◌, ℕ, List, [], true, false}
use Rattle.casper_words.specs.Crew.{IsClient, has_member}
use Rattle.casper_model.specs.declared.outcome.Outcome.TheVariants as outcome
use Rattle.casper_model.specs.Stabilisation.{Stabilisation}
use Rattle.casper_model.specs.Stabilise.{with_asker}
use Rattle.casper_gather.specs.declared.stab.Stab.{Stab}
use Rattle.casper_gather.specs.declared.resolved.Resolved.{Resolved}
use Rattle.casper_gather.specs.declared.resolved.Resolved.TheVariants as resolved
use Rattle.casper_gather.specs.Bookkeeping.{begun_by, without_asker, resolved_by}

-- the clients that are told of an outcome
abbrev pub told_by : Resolved → List ℕ
told_by (resolved.Commit askers) = askers
told_by (resolved.Fail askers) = askers
told_by (resolved.Undo lost) = []
told_by (resolved.Doubt one) = []

-- the lead waits for the outcome
abbrev pub LeadIsAsker : Type 0
LeadIsAsker = (lead : ℕ) (awaited : List ℕ) → IsClient lead → has_member lead ((begun_by lead awaited).askers) ≡ true

-- a client that asks waits for it too
abbrev pub WhoAsksIsAsker : Type 0
WhoAsksIsAsker = (who : ℕ) (one : Stabilisation) → IsClient who → has_member who ((with_asker who one).askers) ≡ true

-- one that asks leaves the others as they were
abbrev pub OtherAskersStay : Type 0
OtherAskersStay = (who other : ℕ) (one : Stabilisation) → IsClient other → other ≢ who
    → has_member other ((with_asker who one).askers) ≡ has_member other one.askers

-- a client that is gone does not wait for it
abbrev pub WhoIsGoneIsNoAsker : Type 0
WhoIsGoneIsNoAsker = (who : ℕ) (one : Stabilisation) → has_member who ((without_asker who one).askers) ≡ false

-- one that is gone leaves the others as they were
abbrev pub OtherAskersAreKept : Type 0
OtherAskersAreKept = (who other : ℕ) (one : Stabilisation) → other ≢ who
    → has_member other ((without_asker who one).askers) ≡ has_member other one.askers

-- of a doubt nobody is told, and once it is settled each asker
abbrev pub AskersAreToldOnce : Type 0
AskersAreToldOnce = (one doubtful : Stab) (version : ℕ) → resolved_by one outcome.Doubt ≡ resolved.Doubt doubtful
    → (told_by (resolved_by one outcome.Doubt) ≡ []) × (told_by (resolved_by doubtful (outcome.Ok version)) ≡ one.askers)
