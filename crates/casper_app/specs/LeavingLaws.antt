use Rattle.std.specs.Prelude.{ℕ, List}
use Rattle.casper_space.specs.declared.answer.Answer.{Answer}
use Rattle.casper_model.specs.Vault.{VaultState}
use Rattle.casper_sessions.specs.Chain.{Limits, opened}
use Rattle.casper_sessions.specs.StopLaws.{IsOfAClosedPart, IsOpenable}
use Rattle.casper_app.specs.declared.schedule.Asked.{Asked}
use Rattle.casper_app.specs.Chain.{AllAskOfClients}
use Rattle.casper_app.specs.Leaving.{IsLeftAmong}
use Rattle.casper_app.specs.Play.{begun}

-- what a stop in a schedule leaves is the array of a part of the history of the session that it ends, as its trail was then: the part has
-- every cause of what it has, and everything stable
abbrev pub EachStopInAScheduleLeavesAClosedPart : Type 0
EachStopInAScheduleLeavesAClosedPart =
    (limits : Limits) (vault : VaultState) (asked : List Asked) (given : List Answer) (array : List (List ℕ)) → IsOpenable limits.pages vault → AllAskOfClients asked
    → (left : IsLeftAmong limits.entries (begun (opened limits vault)) asked given array)
    → IsOfAClosedPart left.standing.found.image left.standing.state.shared.trail array
