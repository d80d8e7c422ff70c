use Rattle.std.specs.Prelude.{◌≡◌, ◌≢◌, ℕ, List, ◌++◌, true, false, Contains}
use Rattle.casper_trail.specs.declared.item.Item.{Item}
use Rattle.casper_trail.specs.Legal.{IsLegal}
use Rattle.casper_model.specs.Own.{Own}
use Rattle.casper_model.specs.Shared.{Shared, client_at}
use Rattle.casper_model.specs.Stabilisation.{Stabilisation, is_gathering, is_doubtful}
use Rattle.casper_turns.specs.KeepsClient.{KeepsClient}
use Rattle.casper_turns.specs.Good.{IsGoodShared, IsGoodWith}
use Rattle.casper_turns.specs.Right.{IsRightWith}
use Rattle.casper_turns.specs.CommitsNothing.{CommitsNothing, StandsStill, WasDoubtful}

-- what a turn of a client keeps: the shared part is good, also with the own part that it changed; what the others may rely on
-- stands; nothing is committed; and what was right over an array is right over it
pub record KeptByTurn (shared : Shared) (own : Own) (after : Shared) (own_after : Own) : Type 0 where
  pub who : own_after.who ≡ own.who
  pub capacity : own_after.capacity ≡ own.capacity
  pub good : IsGoodShared after
  pub mine : IsGoodWith after own_after
  pub others : (other : ℕ) → other ≢ own.who → KeepsClient other shared after
  pub still : CommitsNothing shared after
  pub right : (base : List (List ℕ)) → IsRightWith base shared own → IsRightWith base after own_after

-- what is known to all of the other clients stays as it is
abbrev pub OthersStay : Shared → Own → Shared → Type 0
OthersStay shared own after = (other : ℕ) → other ≢ own.who → client_at after other ≡ client_at shared other

-- what is no turn of a client keeps: the shared part is good, what each client may rely on stands, and a legal trail is legal
pub record KeptForAll (shared after : Shared) : Type 0 where
  pub good : IsGoodShared after
  pub apart : (who : ℕ) → KeepsClient who shared after
  pub legal : (base : List (List ℕ)) → IsLegal base shared.trail → IsLegal base after.trail

-- the trail grows at its end, each stabilisation of another lead that is sealed or in doubt stands still, and none but that of
-- the lead comes into doubt
pub record OtherLeadsStandStill (shared : Shared) (lead : ℕ) (after : Shared) : Type 0 where
  pub more : List Item
  pub trail : after.trail ≡ shared.trail ++ more
  pub held : (one : Stabilisation) → Contains shared.stabilisations one → is_gathering one.phase ≡ false → one.lead ≢ lead → StandsStill shared after more one
  pub doubts : (one : Stabilisation) → Contains after.stabilisations one → is_doubtful one.phase ≡ true → one.lead ≢ lead → WasDoubtful shared one

-- the stabilisation of a lead, if there is one, is not gathering
abbrev pub IsHeld : Shared → ℕ → Type 0
IsHeld shared lead = (one : Stabilisation) → Contains shared.stabilisations one → one.lead ≡ lead → is_gathering one.phase ≡ false
