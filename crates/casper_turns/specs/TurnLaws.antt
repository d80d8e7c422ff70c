use Rattle.std.specs.Prelude.{◌≡◌, ℕ, List, true, Some}
use Rattle.casper_words.specs.Crew.{IsClient}
use Rattle.casper_words.specs.declared.page.Want.{Want}
use Rattle.casper_model.specs.declared.outcome.Outcome.{Outcome}
use Rattle.casper_model.specs.Acquire.{acquire}
use Rattle.casper_model.specs.Finish.{finish, settled, doubtful_of}
use Rattle.casper_model.specs.Join.{join}
use Rattle.casper_model.specs.Leave.{serve, depart, vanish}
use Rattle.casper_model.specs.Loss.{lose}
use Rattle.casper_model.specs.Own.{Own, blank}
use Rattle.casper_model.specs.Shared.{Shared, new_shared, is_live}
use Rattle.casper_model.specs.Stabilisation.{Stabilisation}
use Rattle.casper_model.specs.Stabilise.{stabilise}
use Rattle.casper_turns.specs.Good.{IsGoodShared, IsGoodWith}
use Rattle.casper_turns.specs.Kept.{KeptByTurn, OthersStay, KeptForAll, OtherLeadsStandStill, IsHeld}
use Rattle.casper_turns.specs.CommitsNothing.{CommitsNothing}

-- a session begins with a good shared part, also with the own part of each client
abbrev pub StartsGood : Type 0
StartsGood = (pages limit : ℕ) → IsGoodShared (new_shared pages limit)

abbrev pub StartsGoodWithEach : Type 0
StartsGoodWithEach = (pages limit who capacity : ℕ) → IsClient who → IsGoodWith (new_shared pages limit) (blank who capacity)

-- the turns of a client that stays with the session or leaves it by itself, and what each leaves. All but a join are of a live
-- client; an acquire may want any pages, with room for any number of calls
pub data IsTurn (shared : Shared) (own : Own) : Shared → Own → Type 0 where
  joining : IsTurn shared own (join shared own).shared (join shared own).own
  acquiring : (wants : List Want) (calls : ℕ) → is_live shared own.who ≡ true
      → IsTurn shared own (acquire shared own wants calls).shared (acquire shared own wants calls).own
  serving : is_live shared own.who ≡ true → IsTurn shared own (serve shared own).shared (serve shared own).own
  stabilising : is_live shared own.who ≡ true → IsTurn shared own (stabilise shared own).shared (stabilise shared own).own
  departing : is_live shared own.who ≡ true → IsTurn shared own (depart shared own).shared (depart shared own).own

-- each keeps what is good, what the others may rely on, and what stays while nothing is committed
abbrev pub EachTurnKeeps : Type 0
EachTurnKeeps =
    (shared : Shared) (own : Own) (after : Shared) (own_after : Own) → IsTurn shared own after own_after → IsGoodShared shared → IsGoodWith shared own
    → KeptByTurn shared own after own_after

-- and what is known to all of the other clients stays as it is
abbrev pub EachTurnLeavesOthers : Type 0
EachTurnLeavesOthers =
    (shared : Shared) (own : Own) (after : Shared) (own_after : Own) → IsTurn shared own after own_after → IsGoodShared shared → IsGoodWith shared own
    → OthersStay shared own after

-- a client that vanishes may make others fall, and keeps as much but for that
abbrev pub VanishKeeps : Type 0
VanishKeeps =
    (shared : Shared) (own : Own) → IsGoodShared shared → IsGoodWith shared own → KeptByTurn shared own (vanish shared own).shared (vanish shared own).own

-- what is no turn of a client, and what it leaves: a live client is declared lost; a write-out ends, whose association is not gathering;
-- the vault settles
pub data IsChange (shared : Shared) : Shared → Type 0 where
  losing : (who : ℕ) → IsClient who → is_live shared who ≡ true → IsChange shared (lose shared who).shared
  finishing : (lead : ℕ) (how : Outcome) → IsHeld shared lead → IsChange shared (finish shared lead how).shared
  settling : IsChange shared (settled shared).shared

-- each keeps what is good, and what every client may rely on
abbrev pub EachChangeKeeps : Type 0
EachChangeKeeps = (shared after : Shared) → IsChange shared after → IsGoodShared shared → KeptForAll shared after

-- by a loss nothing is committed
abbrev pub LossIsStill : Type 0
LossIsStill = (shared : Shared) (who : ℕ) → IsClient who → IsGoodShared shared → CommitsNothing shared (lose shared who).shared

-- a finish, however it ends, leaves the associations of all other leads that are sealed or in doubt, and so does a settle
abbrev pub FinishLeavesOtherLeads : Type 0
FinishLeavesOtherLeads =
    (shared : Shared) (lead : ℕ) (how : Outcome) → IsHeld shared lead → IsGoodShared shared → OtherLeadsStandStill shared lead (finish shared lead how).shared

abbrev pub SettleLeavesOtherLeads : Type 0
SettleLeavesOtherLeads =
    (shared : Shared) (one : Stabilisation) → doubtful_of shared ≡ Some one → IsGoodShared shared → OtherLeadsStandStill shared one.lead (settled shared).shared
